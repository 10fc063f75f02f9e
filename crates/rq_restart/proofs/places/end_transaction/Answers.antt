use Rattle.std.proofs.Common.{rules, not}
use Rattle.std.proofs.lemmas.Fn.{filter_same}
use Rattle.rq_model.specs.Vocabulary.{same_txn}
use Rattle.rq_restart.specs.declared.places.Place.{Place}
use Rattle.rq_restart.proofs.places.end_transaction.Goals as goal

pub returns : goal.returns
returns c = filter_same _ (λ (p : Place). not (same_txn p.by.txn c.args.ended)) _ (λ x b f' k. search rules) _ _ c.retain.ensures.filtered
