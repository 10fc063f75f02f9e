use Rattle.std.proofs.Common.{◌≡◌, ◌+◌, false, ap, sym, ◌∙◌, subst}
use Rattle.std.proofs.lemmas.Bool.{true≢false}
use Rattle.rq_model.specs.Vocabulary.{client_group}
use Rattle.rq_groups.specs.declared.End.{End}
use Rattle.rq_groups.specs.Ends.{HeldEnds, is_held}
use Rattle.rq_groups.specs.Sides.{IsNewest}
use Rattle.rq_groups.proofs.Clients.{at_client, newest_held, place_held}
use Rattle.rq_groups.proofs.Ends.undo_take.Goals as goal

pub returns-in_default : goal.returns-in_default
returns-in_default c =
    let i = c.self.inside in
    let t = c.args.txn in
    let g = client_group c.in-Marking.client in
    let p = i.senders + c.in-Marking.client in
    let now = c.args.self.now in
    let none : is_held g now.sending ≡ false = sym (place_held i.senders c.self.invariant t p g i.sending now.sending (at_client i.senders c.in-Marking.client) (ap (λ (e : HeldEnds). e.sending) c.self.view_is)) ∙ c.places.ensures p c.in_default.ensures.none in
    absurd (true≢false (sym (newest_held t g now.sending (subst (λ (e : End). IsNewest t e now) c.in-Marking.is (c.requires.newest c.if-not-newly.false))) ∙ none))
