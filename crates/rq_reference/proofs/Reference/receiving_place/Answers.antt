use Rattle.std.proofs.Common.{rules, ◌∙◌, ◌&&◌, ap, refl, List, ℕ}
use Rattle.rq_model.specs.Tests.{log_full}
use Rattle.rq_model.specs.Vocabulary.{first, is_some}
use Rattle.rq_reference.proofs.Receives.{full_receive}
use Rattle.rq_reference.proofs.Reference.receiving_place.Goals as goal

pub returns-then-is_too_full_for-clause-refused : goal.returns-then-is_too_full_for-clause-refused
returns-then-is_too_full_for-clause-refused c =
    let l = c.args.self.now.ledger in
    let p = c.in_ok-place.ensures.ok.passes in
    let g = c.is_too_full_for.ensures ∙ ap (λ (ns : List ℕ). is_some (first ns) && log_full l 4) c.deref.ensures.value in
    let full = full_receive c.args.self.now.size l c.args.txn c.in-Ok.groups.items c.is_too_full_for.result g c.in-Ok.ensures ∙ c.if-is_too_full_for.true in
    (rw (p.0, p.1.0, p.1.1.0, p.1.1.1.0, full) refl, search rules)

pub returns-clause-passes : goal.returns-clause-passes
returns-clause-passes c =
    let l = c.args.self.now.ledger in
    let p = c.in_ok-place.ensures.ok.passes in
    let g = c.is_too_full_for.ensures ∙ ap (λ (ns : List ℕ). is_some (first ns) && log_full l 4) c.deref.ensures.value in
    let full = full_receive c.args.self.now.size l c.args.txn c.in-Ok.groups.items c.is_too_full_for.result g c.in-Ok.ensures ∙ c.if-is_too_full_for.false in
    (p.0, (p.1.0, (p.1.1.0, (p.1.1.1.0, (full, tt)))))
