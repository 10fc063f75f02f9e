use Rattle.std.proofs.Common.{rules, not}
use Rattle.std.proofs.lemmas.Fn.{filter_same}
use Rattle.rq_views.specs.Log.{same_op}
use Rattle.rq_restart.specs.declared.places.Place.{Place}
use Rattle.rq_restart.proofs.places.end_operation.Goals as goal

pub returns : goal.returns
returns c = filter_same _ (λ (p : Place). not (same_op p.by c.args.ended)) _ (λ x b f' k. search rules) _ _ c.retain.ensures.filtered
