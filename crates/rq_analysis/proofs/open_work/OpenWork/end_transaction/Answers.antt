use Rattle.std.proofs.Common.{rules, ap, reverse, ◌∙◌}
use Rattle.std.proofs.lemmas.Fn.{filter_same}
use Rattle.rq_analysis.specs.OpenWorkView.{OpenWorkView, without_txn}
use Rattle.rq_analysis.proofs.open_work.OpenWork.end_transaction.Goals as goal

pub returns : goal.returns
returns c =
    let kept = filter_same _ _ _ (λ x b f' k. search rules) _ _ c.retain.ensures.filtered in
    ap (λ l. record { incarnation = c.self.inside.incarnation; unfinished = c.self.inside.unfinished.items; undoable = reverse c.self.inside.undoable.items; active = l }) kept
    ∙ ap (λ (h : OpenWorkView). record h { active = without_txn c.args.txn h.active }) c.self.view_is
