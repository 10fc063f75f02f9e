use Rattle.std.proofs.Common.{ap, subst, sym, ◌∙◌}
use Rattle.rq_engine.specs.Opened.{OpenStore}
use Rattle.rq_shared.specs.Entries.{WasSound}
use Rattle.rq_shared.proofs.Leading.{begins_now}
use Rattle.rq_shared.proofs.shared.Shared.new.Goals as goal

pub new-requires-2-clause-begun : goal.new-requires-2-clause-begun
new-requires-2-clause-begun g c =
    let kept = c.new.result in
    let told = c.new.ensures in
    begins_now g.P.PageDevice g.L.LogDevice g.G.Sharing.premise g.G.Sharing.begins kept
    (subst (WasSound g.P.PageDevice g.L.LogDevice g.G.Sharing.premise) (sym told.engine) c.requires.sound)
    (ap (λ (s : OpenStore g.row.P.Denot g.row.L.Denot). s.state) told.engine ∙ c.requires.begins) (told.base ∙ sym told.engine) told.taken
