use Rattle.std.proofs.Common.{ap, sym, ◌∙◌, ◌≡◌, false, arith}
use Rattle.std.proofs.lemmas.Bool.{le-leb}
use Rattle.rq_groups.specs.Ends.{HeldEnds, is_held}
use Rattle.rq_groups.proofs.Chained.{free_none}
use Rattle.rq_groups.proofs.Clients.{at_sender, none_between, place_free}
use Rattle.rq_groups.proofs.Ends.may_send.Goals as goal

pub returns-then-sender-self : goal.returns-then-sender-self
returns-then-sender-self c =
    let i = c.self.inside in
    let s = c.args.sender in
    let now = c.args.self.now.sending in
    let none : is_held s now ≡ false = ap (is_held s) (sym (ap (λ (e : HeldEnds). e.sending) c.self.view_is)) ∙ none_between i.senders s i.sending (omega arith) (omega arith) in
    let free = free_none c.args.txn s now none in
    le-leb i.senders s (omega arith) ∙ sym free

pub returns-else-sender-self : goal.returns-else-sender-self
returns-else-sender-self c =
    let i = c.self.inside in
    let s = c.args.sender in
    c.is_free.ensures ∙ place_free i.senders c.self.invariant c.args.txn s s i.sending c.args.self.now.sending (at_sender i.senders s (omega arith)) (ap (λ (e : HeldEnds). e.sending) c.self.view_is)
