use Rattle.std.proofs.Common.{length, ap, subst, ◌∙◌}
use Rattle.rq_model.specs.Vocabulary.{In}
use Rattle.rq_analysis.specs.Pages.{IsNextUndo, undo_of}
use Rattle.rq_restart.specs.Again.{IsLikeUndo, undo_told}
use Rattle.rq_restart.proofs.ReadAgain.{err_of, err_told, ok_of, ok_under, not_undone, told, told_own, write_at, write_has, write_like, write_named, write_next, write_told}
use Rattle.rq_restart.proofs.again.undo_write.Goals as goal

pub kept_record-requires-clause-has : goal.kept_record-requires-clause-has
kept_record-requires-clause-has g c = write_has c.args.analysis.now c.args.log.now.records c.requires.found c.args.lsn c.requires.next c.writes.result.now c.writes.ensures

pub returns-in-Ok-clause-like : goal.returns-in-Ok-clause-like
returns-in-Ok-clause-like g c =
    let place = c.in-Ok.ensures.place in
    let kept = c.in-Ok.kept.0 in
    let among = subst (In kept) c.writes.ensures place.0 in
    ok_of c.undone_as.result (undo_told kept c.in-Ok.kept.1) (IsLikeUndo c.args.analysis.now.open_work) c.undone_as.ensures.told
    (write_like c.args.analysis.now c.args.log.now.records c.requires.found c.args.lsn c.requires.next kept among place.1 c.in-Ok.kept.1)

pub returns-in-Ok-clause-is : goal.returns-in-Ok-clause-is
returns-in-Ok-clause-is g c =
    let f = c.args.analysis.now in
    let log = c.args.log.now.records in
    let are = c.requires.found in
    let next = c.requires.next in
    let kept = c.in-Ok.kept.0 in
    let among = subst (In kept) c.writes.ensures c.in-Ok.ensures.place.0 in
    let same = c.in-Ok.ensures.place.1 in
    let spelled = c.shows_kept.ensures.log.spelled in
    let honest = g.L.LogDevice.honest c.kept_record.new.log.device in
    ok_of c.undone_as.result (undo_told kept c.in-Ok.kept.1) (λ r. honest → IsNextUndo f.open_work r) c.undone_as.ensures.told
    (ok_under honest (undo_told kept c.in-Ok.kept.1) (undo_of next.0) (IsNextUndo f.open_work)
    (λ h. ap (undo_told kept) (c.in-Ok.ensures.is h (told f log are c.args.lsn next kept among same) (write_at f log are c.args.lsn next kept among same)) ∙ write_told f log are c.args.lsn next kept among same spelled)
    (write_next f log are c.args.lsn next kept among same spelled))

pub returns-in-Ok-clause-err : goal.returns-in-Ok-clause-err
returns-in-Ok-clause-err g c =
    let f = c.args.analysis.now in
    let log = c.args.log.now.records in
    let are = c.requires.found in
    let next = c.requires.next in
    let kept = c.in-Ok.kept.0 in
    let among = subst (In kept) c.writes.ensures c.in-Ok.ensures.place.0 in
    let same = c.in-Ok.ensures.place.1 in
    err_of g.L.LogDevice c.args.log.now.device c.kept_record.new.log.device c.args.lsn (length log) c.undone_as.result (undo_told kept c.in-Ok.kept.1) c.undone_as.ensures.err c.in-Ok.ensures.room c.in-Ok.ensures.cause
    (err_told g.L.LogDevice c.args.log.now.device c.kept_record.new.log.device c.args.lsn (length log) kept.lsn same (undo_told kept c.in-Ok.kept.1) (undo_of next.0) (write_named f log are c.args.lsn next kept among same c.in-Ok.kept.1)
    (λ h. ap (undo_told kept) (c.in-Ok.ensures.is h (told f log are c.args.lsn next kept among same) (write_at f log are c.args.lsn next kept among same)) ∙ write_told f log are c.args.lsn next kept among same c.shows_kept.ensures.log.spelled)
    c.in-Ok.ensures.cause)

pub returns-in-Err-clause-err : goal.returns-in-Err-clause-err
returns-in-Err-clause-err g c = not_undone g.L.LogDevice c.args.log.now.device c.kept_record.new.log.device c.args.lsn (length c.args.log.now.records) c.in-Err.refusal c.in-Err.ensures.err

pub returns-in-Ok-clause-own : goal.returns-in-Ok-clause-own
returns-in-Ok-clause-own g c = told_own c.undone_as.result undo_told c.in-Ok.kept.0 c.in-Ok.kept.1 c.args.analysis.now.places.writes c.args.lsn (subst (In c.in-Ok.kept.0) c.writes.ensures c.in-Ok.ensures.place.0) c.in-Ok.ensures.place.1 c.in-Ok.ensures.own c.undone_as.ensures.told
