use Rattle.std.proofs.Common.{subst, sym}
use Rattle.rq_analysis.specs.Pages.{IsNextUndo, IsUndoneNext, void_of}
use Rattle.rq_restart.proofs.again.undo_record.Goals as goal

pub returns-in-Void-clause-like : goal.returns-in-Void-clause-like
returns-in-Void-clause-like g c =
    let h = c.args.analysis.now.open_work in
    let next : IsNextUndo h (void_of c.in-Void.sub) = subst (IsUndoneNext h) c.in-Void.is c.requires.next in
    (void_of c.in-Void.sub, next, c.void_record.ensures)

pub returns-in-Void-clause-is : goal.returns-in-Void-clause-is
returns-in-Void-clause-is g c = λ k.
    let h = c.args.analysis.now.open_work in
    let next : IsNextUndo h (void_of c.in-Void.sub) = subst (IsUndoneNext h) c.in-Void.is c.requires.next in
    subst (IsNextUndo h) (sym c.void_record.ensures) next

pub returns-in-Void-clause-own : goal.returns-in-Void-clause-own
returns-in-Void-clause-own g c = rw c.in-Void.is c.void_record.ensures

pub returns-in-Write-clause-own : goal.returns-in-Write-clause-own
returns-in-Write-clause-own g c = rw c.in-Write.is c.undo_write.ensures.own

pub returns-in-Write-clause-err : goal.returns-in-Write-clause-err
returns-in-Write-clause-err g c = rw c.in-Write.is c.undo_write.ensures.err
