use Rattle.std.proofs.Common.{◌≡◌, false, not, map, ap, sym, ◌∙◌, arith}
use Rattle.std.proofs.lemmas.Result.{IfOk-weaker, on_ok_weaker, on_err_weaker}
use Rattle.rq_groups.specs.Ends.{HeldEnds, as_group, has_held, is_held, with_held}
use Rattle.rq_groups.proofs.Clients.{at_sender, ends_same, none_between, none_has, place_free, place_has, place_with}
use Rattle.rq_groups.proofs.Ends.take_send.Goals as goal

pub take-requires : goal.take-requires
take-requires c =
    let i = c.self.inside in
    let at = at_sender i.senders c.args.sender (omega arith) in
    place_free i.senders c.self.invariant c.args.txn c.args.sender c.args.sender i.sending c.args.self.now.sending at (ap (λ (e : HeldEnds). e.sending) c.self.view_is) ∙ c.requires.free

pub returns-clause-taken : goal.returns-clause-taken
returns-clause-taken c =
    let i = c.self.inside in
    let t = c.args.txn in
    let now = c.args.self.now in
    let at = at_sender i.senders c.args.sender (omega arith) in
    let with = place_with i.senders c.self.invariant t c.args.sender c.args.sender i.sending now.sending at (ap (λ (e : HeldEnds). e.sending) c.self.view_is) in
    let n = c.take.new.self in
    on_ok_weaker {P = n ≡ with_held t c.args.sender i.sending} c.take.result (λ e. ends_same (map (as_group i.senders) n) i.receiving (with_held t c.args.sender now.sending) now.receiving (ap (map (as_group i.senders)) e ∙ with) (ap (λ (e : HeldEnds). e.receiving) c.self.view_is)) c.take.ensures.taken

pub returns-clause-newly : goal.returns-clause-newly
returns-clause-newly c =
    let i = c.self.inside in
    let t = c.args.txn in
    let now = c.args.self.now.sending in
    let at = at_sender i.senders c.args.sender (omega arith) in
    let has = place_has i.senders c.self.invariant t c.args.sender c.args.sender i.sending now at (ap (λ (e : HeldEnds). e.sending) c.self.view_is) in
    IfOk-weaker c.take.result (λ new. new ≡ not (has_held t c.args.sender i.sending)) (λ new. new ≡ not (has_held t c.args.sender now)) (λ x e. e ∙ ap not has) c.take.ensures.newly

pub returns-clause-own : goal.returns-clause-own
returns-clause-own c =
    let i = c.self.inside in
    let t = c.args.txn in
    let now = c.args.self.now.sending in
    let at = at_sender i.senders c.args.sender (omega arith) in
    let has = place_has i.senders c.self.invariant t c.args.sender c.args.sender i.sending now at (ap (λ (e : HeldEnds). e.sending) c.self.view_is) in
    on_err_weaker {P = has_held t c.args.sender i.sending ≡ false} c.take.result (λ e. sym has ∙ e) c.take.ensures.own

pub returns-then-sender-self-clause-own : goal.returns-then-sender-self-clause-own
returns-then-sender-self-clause-own c =
    let i = c.self.inside in
    let s = c.args.sender in
    let now = c.args.self.now.sending in
    let none : is_held s now ≡ false = ap (is_held s) (sym (ap (λ (e : HeldEnds). e.sending) c.self.view_is)) ∙ none_between i.senders s i.sending (omega arith) (omega arith) in
    none_has c.args.txn s now none
