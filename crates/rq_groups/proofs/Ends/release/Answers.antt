use Rattle.std.proofs.Common.{map, ap, sym, ◌∙◌}
use Rattle.rq_groups.specs.Ends.{HeldEnds, as_group, released}
use Rattle.rq_groups.proofs.Clients.{ends_same, released_as}
use Rattle.rq_groups.proofs.Ends.release.Goals as goal

pub returns : goal.returns
returns c =
    let i = c.self.inside in
    let t = c.args.txn in
    let now = c.args.self.now in
    let sends = ap (map (as_group i.senders)) c.release.ensures ∙ sym (released_as i.senders t i.sending) ∙ ap (λ (e : HeldEnds). released t e.sending) c.self.view_is in
    let takes = c.release-2.ensures ∙ ap (λ (e : HeldEnds). released t e.receiving) c.self.view_is in
    ends_same (map (as_group i.senders) c.release.new.self) c.release-2.new.self (released t now.sending) (released t now.receiving) sends takes
