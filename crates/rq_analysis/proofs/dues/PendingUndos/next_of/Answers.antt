use Rattle.std.proofs.Common.{List, Some, ap, sym, ◌∙◌}
use Rattle.std.specs.List.{filter}
use Rattle.rq_model.specs.Vocabulary.{first}
use Rattle.rq_analysis.specs.declared.dues.PendingUndo.{PendingUndo}
use Rattle.rq_analysis.specs.Dues.{any_due, due_of, lsn_due}
use Rattle.rq_analysis.proofs.Stacks.{newest_there, none_there}
use Rattle.rq_analysis.proofs.dues.PendingUndos.next_of.Goals as goal

pub returns-in-Some : goal.returns-in-Some
returns-in-Some c =
    let items = c.self.inside.dues.items in
    let found = c.in-Some.ensures in
    ap Some (c.lsn.ensures ∙ ap (λ (d : PendingUndo). d.lsn) c.index.ensures)
    ∙ ap lsn_due (newest_there (due_of c.args.txn) c.deref.result.now items c.in-Some.place c.index.result.now c.deref.ensures.value found.place (found.own c.index.result.now) found.newest
    ∙ ap (λ (l : List PendingUndo). first (filter (due_of c.args.txn) l)) c.self.view_is)

pub returns-in-None : goal.returns-in-None
returns-in-None c =
    ap lsn_due (none_there (due_of c.args.txn) c.self.inside.dues.items (ap (any_due c.args.txn) (sym c.deref.ensures.value) ∙ c.in-None.ensures.none)
    ∙ ap (λ (l : List PendingUndo). first (filter (due_of c.args.txn) l)) c.self.view_is)
