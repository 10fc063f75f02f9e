use Rattle.std.proofs.Common.{rules, not}
use Rattle.std.proofs.lemmas.Fn.{filter_same}
use Rattle.rq_model.specs.declared.txn.Sub.{Sub}
use Rattle.rq_model.specs.Vocabulary.{same_txn}
use Rattle.rq_analysis.proofs.numbers.end.Goals as goal

pub returns : goal.returns
returns c =
    filter_same _ (λ (o : Sub). not (same_txn c.args.txn o.txn)) _ (λ x b f' k. search rules) _ _ c.retain.ensures.filtered
