use Rattle.std.proofs.Common.{◌∙◌, ap, sym, List, ℕ}
use Rattle.rq_model.specs.Ledger.{fresh_one}
use Rattle.rq_reference.specs.Plain.{pick}
use Rattle.rq_model.specs.Vocabulary.{is_some}
use Rattle.rq_reference.proofs.Receives.{none_picked, picked, may_take}
use Rattle.rq_reference.proofs.Reference.start_receive.Goals as goal

pub returns-in-None-clause-ok : goal.returns-in-None-clause-ok
returns-in-None-clause-ok c =
    let z = c.args.self.now.size in
    let l = c.args.self.now.ledger in
    let some = ap is_some (c.in_ok-place.ensures.stands.found (fresh_one c.args.txn)) in
    let e = sym (c.pick.ensures ∙ ap (λ (ns : List ℕ). pick c.args.asked ns) (c.deref.ensures.value ∙ c.in_ok-place.ensures.groups)) ∙ c.in-None.is in
    (c.in_ok-place.ensures.passes, none_picked z l c.args.txn c.args.asked some e)

pub returns-clause-ok : goal.returns-clause-ok
returns-clause-ok c =
    let z = c.args.self.now.size in
    let l = c.args.self.now.ledger in
    let s = c.in-Some.sender in
    let e = sym (c.pick.ensures ∙ ap (λ (ns : List ℕ). pick c.args.asked ns) (c.deref.ensures.value ∙ c.in_ok-place.ensures.groups)) ∙ c.in-Some.is in
    may_take z l c.args.txn s c.in_ok-number-in-Some.number c.in_ok-place.ensures.passes (picked z l c.args.txn c.args.asked s e) c.in_ok-number-in-Some.ensures.number
