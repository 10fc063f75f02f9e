use Rattle.std.proofs.Common.{rules, ap, ◌∙◌, reverse, not}
use Rattle.std.proofs.lemmas.Fn.{filter_same}
use Rattle.rq_analysis.specs.declared.open_work.UndoableWrite.{UndoableWrite}
use Rattle.rq_analysis.specs.OpenWorkView.{OpenWorkView, undoable_by, without_undoable, without_sub}
use Rattle.rq_analysis.proofs.Stacks.{filter_reverse}
use Rattle.rq_analysis.proofs.open_work.OpenWork.end_operation.Goals as goal

pub returns : goal.returns
returns c =
    let kept = filter_same _ _ _ (λ x b f' k. search rules) _ _ c.retain.ensures.filtered in
    let undoable = filter_same _ (λ (p : UndoableWrite). not (undoable_by c.args.ended p)) _ (λ x b f' k. search rules) _ _ c.retain-2.ensures.filtered in
    ap (λ l. record { incarnation = c.self.inside.incarnation; unfinished = l; undoable = reverse c.retain-2.new.self.items; active = c.self.inside.active.items }) kept
    ∙ ap (λ l. record { incarnation = c.self.inside.incarnation; unfinished = without_sub c.args.ended c.self.inside.unfinished.items; undoable = l; active = c.self.inside.active.items })
    (ap reverse undoable ∙ filter_reverse (λ (p : UndoableWrite). not (undoable_by c.args.ended p)) c.self.inside.undoable.items)
    ∙ ap (λ (h : OpenWorkView). record h { unfinished = without_sub c.args.ended h.unfinished; undoable = without_undoable c.args.ended h.undoable }) c.self.view_is
