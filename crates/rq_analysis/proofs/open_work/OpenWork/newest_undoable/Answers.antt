use Rattle.std.proofs.Common.{Some, ap, sym, ◌∙◌}
use Rattle.std.specs.List.{filter}
use Rattle.rq_model.specs.Vocabulary.{first}
use Rattle.rq_analysis.specs.declared.open_work.UndoableWrite.{UndoableWrite}
use Rattle.rq_analysis.specs.OpenWorkView.{OpenWorkView, lsn_undoable, undoable_by}
use Rattle.rq_analysis.specs.Pages.{any_undoable}
use Rattle.rq_analysis.proofs.Stacks.{newest_there, none_there}
use Rattle.rq_analysis.proofs.open_work.OpenWork.newest_undoable.Goals as goal

pub returns-in-Some : goal.returns-in-Some
returns-in-Some c =
    let items = c.self.inside.undoable.items in
    let found = c.in-Some.ensures in
    ap Some (c.lsn.ensures ∙ ap (λ (p : UndoableWrite). p.lsn) c.index.ensures)
    ∙ ap lsn_undoable (newest_there (undoable_by c.args.sub) c.deref.result.now items c.in-Some.place c.index.result.now c.deref.ensures.value found.place (found.own c.index.result.now) found.newest
    ∙ ap (λ (h : OpenWorkView). first (filter (undoable_by c.args.sub) h.undoable)) c.self.view_is)

pub returns-in-None : goal.returns-in-None
returns-in-None c =
    ap lsn_undoable (none_there (undoable_by c.args.sub) c.self.inside.undoable.items (ap (any_undoable c.args.sub) (sym c.deref.ensures.value) ∙ c.in-None.ensures.none)
    ∙ ap (λ (h : OpenWorkView). first (filter (undoable_by c.args.sub) h.undoable)) c.self.view_is)
