use Rattle.std.proofs.Common.{List, ap, sym, ◌∙◌, reverse}
use Rattle.rq_analysis.specs.declared.open_work.UndoableWrite.{UndoableWrite}
use Rattle.rq_analysis.specs.OpenWorkView.{OpenWorkView, undoable_by, without_newest}
use Rattle.rq_analysis.specs.Pages.{any_undoable}
use Rattle.rq_analysis.proofs.Stacks.{any_reverse, none_newest, taken_in}
use Rattle.rq_analysis.proofs.open_work.OpenWork.drop_newest.Goals as goal

pub returns-in-Some : goal.returns-in-Some
returns-in-Some c =
    let items = c.self.inside.undoable.items in
    let found = c.in-Some.ensures in
    let left = ap reverse c.remove.ensures.by_index.2 ∙ taken_in (undoable_by c.args.undone) c.deref.result.now items c.in-Some.place c.remove.result c.deref.ensures.value found.place (found.own c.remove.result) found.newest in
    ap (λ l. record { incarnation = c.self.inside.incarnation; unfinished = c.self.inside.unfinished.items; undoable = l; active = c.self.inside.active.items }) left
    ∙ ap (λ (h : OpenWorkView). record h { undoable = without_newest c.args.undone h.undoable }) c.self.view_is

pub returns-in_default : goal.returns-in_default
returns-in_default c =
    let none = ap (λ (h : OpenWorkView). any_undoable c.args.undone h.undoable) (sym c.self.view_is) ∙ any_reverse (undoable_by c.args.undone) c.self.inside.undoable.items
    ∙ ap (any_undoable c.args.undone) (sym c.deref.ensures.value) ∙ c.in_default.ensures.none in
    ap (λ (l : List UndoableWrite). record c.args.self.now { undoable = l }) (sym (none_newest (undoable_by c.args.undone) c.args.self.now.undoable none))
