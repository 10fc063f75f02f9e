use Rattle.std.proofs.Common.{ap, ◌∙◌, sym}
use Rattle.rq_groups.specs.Ends.{HeldEnds, held_by}
use Rattle.rq_groups.proofs.Ends.received_before.Goals as goal

pub returns : goal.returns
returns c t older tail = c.before-2.ensures t older (tail.0, tail.1 ∙ ap (λ (e : HeldEnds). held_by t e.receiving) (sym c.self.view_is))
