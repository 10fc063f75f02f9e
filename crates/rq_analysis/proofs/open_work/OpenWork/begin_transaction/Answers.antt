use Rattle.std.proofs.Common.{◌≡◌, true, ap, sym, ◌∙◌}
use Rattle.rq_model.specs.Vocabulary.{same_txn, has_txn}
use Rattle.std.specs.List.{list_any}
use Rattle.rq_analysis.specs.OpenWorkView.{OpenWorkView}
use Rattle.rq_analysis.proofs.Noting.{any_txn, txn_there}
use Rattle.rq_analysis.proofs.open_work.OpenWork.begin_transaction.Goals as goal

pub returns-then-contains-clause-ok : goal.returns-then-contains-clause-ok
returns-then-contains-clause-ok c =
    let found : has_txn c.args.txn c.args.self.now.active ≡ true =
    ap (λ (h : OpenWorkView). has_txn c.args.txn h.active) (sym c.self.view_is) ∙ sym (any_txn c.args.txn c.self.inside.active.items) ∙ sym (c.contains.ensures.value ∙ ap (list_any (λ u. same_txn u c.args.txn)) c.deref.ensures.value) ∙ c.if-contains.true in
    txn_there c.args.self.now c.args.txn found
