use Rattle.std.proofs.Common.{◌≡◌, ◌+◌, false, ap, sym, ◌∙◌}
use Rattle.rq_model.specs.Vocabulary.{client_group}
use Rattle.rq_groups.specs.Ends.{HeldEnds, group_at, is_held}
use Rattle.rq_groups.proofs.Chained.{free_none}
use Rattle.rq_groups.proofs.Clients.{at_client, place_free, place_held}
use Rattle.rq_groups.proofs.Ends.may_mark.Goals as goal

pub returns-in-Some : goal.returns-in-Some
returns-in-Some c =
    let i = c.self.inside in
    let g = client_group c.args.client in
    let at : group_at i.senders c.in-Some.place ≡ g = ap (group_at i.senders) c.in-Some.ensures.some ∙ at_client i.senders c.args.client in
    c.is_free.ensures ∙ place_free i.senders c.self.invariant c.args.txn c.in-Some.place g i.sending c.args.self.now.sending at (ap (λ (e : HeldEnds). e.sending) c.self.view_is)

pub returns-in-None : goal.returns-in-None
returns-in-None c =
    let i = c.self.inside in
    let g = client_group c.args.client in
    let p = i.senders + c.args.client in
    let now = c.args.self.now.sending in
    let none : is_held g now ≡ false = sym (place_held i.senders c.self.invariant c.args.txn p g i.sending now (at_client i.senders c.args.client) (ap (λ (e : HeldEnds). e.sending) c.self.view_is)) ∙ c.places.ensures p c.in-None.ensures.none in
    sym (free_none c.args.txn g now none)
