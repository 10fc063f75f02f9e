use Rattle.std.proofs.Common.{◌≡◌, ℕ, IfErr, IfOk, length, ap, subst, sym, ◌∙◌}
use Rattle.rq_model.specs.declared.txn.Sub.{Sub}
use Rattle.rq_model.specs.declared.txn.Txn.{Txn}
use Rattle.rq_model.specs.declared.refusal.Refusal.TheVariants as why
use Rattle.rq_model.specs.declared.refusal.Damage.TheVariants as damage
use Rattle.rq_model.specs.Vocabulary.{In}
use Rattle.rq_analysis.specs.declared.dues.PendingUndo.{PendingUndo}
use Rattle.rq_analysis.specs.Dues.{end_due}
use Rattle.rq_restart.specs.Again.{IsToldByOwn, due_told}
use Rattle.rq_restart.proofs.ReadAgain.{due_has, due_is, due_like, due_named, end_there, err_told, ok_due, tells_itself, told_own}
use Rattle.rq_restart.proofs.again.due_again.Goals as goal

pub kept_record-requires-clause-has : goal.kept_record-requires-clause-has
kept_record-requires-clause-has g c =
    let d = c.requires.due in
    due_has c.args.analysis.now c.args.log.now.records c.requires.found c.args.txn c.args.lsn d.0 d.1 d.2 d.3 c.ends.result.now c.ends.ensures

pub returns-in-Ok-clause-is : goal.returns-in-Ok-clause-is
returns-in-Ok-clause-is g c =
    let f = c.args.analysis.now in
    let log = c.args.log.now.records in
    let are = c.requires.found in
    let kept = c.in-Ok.kept.0 in
    let among = subst (In kept) c.ends.ensures c.in-Ok.ensures.place.0 in
    let same = c.in-Ok.ensures.place.1 in
    ok_due (g.L.LogDevice.honest c.kept_record.new.log.device) c.due_as.result f.dues c.args.txn c.args.lsn
    (λ h e i of at. c.due_as.ensures ∙ ap (due_told kept) (c.in-Ok.ensures.is h (end_due e) (end_there f log are c.args.txn c.args.lsn e i of at kept among same).1) ∙ due_is f log are c.args.txn c.args.lsn e i of at kept among same)

pub returns-in-Ok-clause-like : goal.returns-in-Ok-clause-like
returns-in-Ok-clause-like g c =
    let kept = c.in-Ok.kept.0 in
    let among = subst (In kept) c.ends.ensures c.in-Ok.ensures.place.0 in
    let same = c.in-Ok.ensures.place.1 in
    let d = c.requires.due in
    let by = (end_there c.args.analysis.now c.args.log.now.records c.requires.found c.args.txn c.args.lsn d.0 d.1 d.2 d.3 kept among same).0 in
    let of : kept.by.txn ≡ c.args.txn = ap (λ (o : Sub). o.txn) by ∙ d.2 in
    subst (λ x. IfOk x (λ (e : PendingUndo). (e.txn ≡ c.args.txn) × (e.lsn ≡ c.args.lsn))) (sym c.due_as.ensures)
    (subst (λ (t : Txn). IfOk (due_told kept c.in-Ok.kept.1) (λ (e : PendingUndo). (e.txn ≡ t) × (e.lsn ≡ c.args.lsn))) of
    (subst (λ (n : ℕ). IfOk (due_told kept c.in-Ok.kept.1) (λ (e : PendingUndo). (e.txn ≡ kept.by.txn) × (e.lsn ≡ n))) same (due_like kept c.in-Ok.kept.1)))

pub returns-in-Ok-clause-err : goal.returns-in-Ok-clause-err
returns-in-Ok-clause-err g c =
    let f = c.args.analysis.now in
    let log = c.args.log.now.records in
    let are = c.requires.found in
    let kept = c.in-Ok.kept.0 in
    let among = subst (In kept) c.ends.ensures c.in-Ok.ensures.place.0 in
    let same = c.in-Ok.ensures.place.1 in
    let d = c.requires.due in
    err_told g.L.LogDevice c.args.log.now.device c.kept_record.new.log.device c.args.lsn (length log) kept.lsn same c.due_as.result d.0 (subst (λ x. IfErr x (λ e. e ≡ why.Damaged (damage.Record kept.lsn))) (sym c.due_as.ensures) (due_named kept c.in-Ok.kept.1))
    (λ h. c.due_as.ensures ∙ ap (due_told kept) (c.in-Ok.ensures.is h (end_due d.0) (end_there f log are c.args.txn c.args.lsn d.0 d.1 d.2 d.3 kept among same).1) ∙ due_is f log are c.args.txn c.args.lsn d.0 d.1 d.2 d.3 kept among same)
    c.in-Ok.ensures.cause

pub returns-in-Ok-clause-own : goal.returns-in-Ok-clause-own
returns-in-Ok-clause-own g c =
    subst (λ x. IfOk x (IsToldByOwn PendingUndo due_told c.args.analysis.now.places.ends c.args.lsn)) (sym c.due_as.ensures)
    (told_own (due_told c.in-Ok.kept.0 c.in-Ok.kept.1) due_told c.in-Ok.kept.0 c.in-Ok.kept.1 c.args.analysis.now.places.ends c.args.lsn (subst (In c.in-Ok.kept.0) c.ends.ensures c.in-Ok.ensures.place.0) c.in-Ok.ensures.place.1 c.in-Ok.ensures.own (tells_itself (due_told c.in-Ok.kept.0 c.in-Ok.kept.1)))
