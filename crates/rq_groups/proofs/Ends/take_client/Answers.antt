use Rattle.std.proofs.Common.{◌≡◌, ◌+◌, false, not, map, ap, sym, ◌∙◌}
use Rattle.std.proofs.lemmas.Result.{IfOk-weaker, on_ok_weaker, on_err_weaker}
use Rattle.rq_model.specs.Vocabulary.{client_group}
use Rattle.rq_groups.specs.Ends.{HeldEnds, as_group, group_at, has_held, is_held, with_held}
use Rattle.rq_groups.proofs.Clients.{at_client, ends_same, none_has, place_free, place_has, place_held, place_with}
use Rattle.rq_groups.proofs.Ends.take_client.Goals as goal

pub take-requires : goal.take-requires
take-requires c =
    let i = c.self.inside in
    let at : group_at i.senders c.in-Some.place ≡ client_group c.args.client = ap (group_at i.senders) c.in-Some.ensures.some ∙ at_client i.senders c.args.client in
    place_free i.senders c.self.invariant c.args.txn c.in-Some.place (client_group c.args.client) i.sending c.args.self.now.sending at (ap (λ (e : HeldEnds). e.sending) c.self.view_is) ∙ c.requires.free

pub returns-in-Some-clause-taken : goal.returns-in-Some-clause-taken
returns-in-Some-clause-taken c =
    let i = c.self.inside in
    let t = c.args.txn in
    let now = c.args.self.now in
    let at : group_at i.senders c.in-Some.place ≡ client_group c.args.client = ap (group_at i.senders) c.in-Some.ensures.some ∙ at_client i.senders c.args.client in
    let with = place_with i.senders c.self.invariant t c.in-Some.place (client_group c.args.client) i.sending now.sending at (ap (λ (e : HeldEnds). e.sending) c.self.view_is) in
    let n = c.take.new.self in
    on_ok_weaker {P = n ≡ with_held t c.in-Some.place i.sending} c.take.result (λ e. ends_same (map (as_group i.senders) n) i.receiving (with_held t (client_group c.args.client) now.sending) now.receiving (ap (map (as_group i.senders)) e ∙ with) (ap (λ (e : HeldEnds). e.receiving) c.self.view_is)) c.take.ensures.taken

pub returns-in-Some-clause-newly : goal.returns-in-Some-clause-newly
returns-in-Some-clause-newly c =
    let i = c.self.inside in
    let t = c.args.txn in
    let now = c.args.self.now.sending in
    let at : group_at i.senders c.in-Some.place ≡ client_group c.args.client = ap (group_at i.senders) c.in-Some.ensures.some ∙ at_client i.senders c.args.client in
    let has = place_has i.senders c.self.invariant t c.in-Some.place (client_group c.args.client) i.sending now at (ap (λ (e : HeldEnds). e.sending) c.self.view_is) in
    IfOk-weaker c.take.result (λ new. new ≡ not (has_held t c.in-Some.place i.sending)) (λ new. new ≡ not (has_held t (client_group c.args.client) now)) (λ x e. e ∙ ap not has) c.take.ensures.newly

pub returns-in-Some-clause-own : goal.returns-in-Some-clause-own
returns-in-Some-clause-own c =
    let i = c.self.inside in
    let t = c.args.txn in
    let now = c.args.self.now.sending in
    let at : group_at i.senders c.in-Some.place ≡ client_group c.args.client = ap (group_at i.senders) c.in-Some.ensures.some ∙ at_client i.senders c.args.client in
    let has = place_has i.senders c.self.invariant t c.in-Some.place (client_group c.args.client) i.sending now at (ap (λ (e : HeldEnds). e.sending) c.self.view_is) in
    on_err_weaker {P = has_held t c.in-Some.place i.sending ≡ false} c.take.result (λ e. sym has ∙ e) c.take.ensures.own

pub returns-in-None-clause-own : goal.returns-in-None-clause-own
returns-in-None-clause-own c =
    let i = c.self.inside in
    let g = client_group c.args.client in
    let p = i.senders + c.args.client in
    let now = c.args.self.now.sending in
    let none : is_held g now ≡ false = sym (place_held i.senders c.self.invariant c.args.txn p g i.sending now (at_client i.senders c.args.client) (ap (λ (e : HeldEnds). e.sending) c.self.view_is)) ∙ c.places.ensures p c.in-None.ensures.none in
    none_has c.args.txn g now none
