use Rattle.std.proofs.Common.{arith, ap, ◌∙◌}
use Rattle.std.proofs.lemmas.List.{get_or_default}
use Rattle.rq_restart.specs.declared.places.Place.{Place}
use Rattle.rq_restart.proofs.Placing.{in_there, no_lsn, none_with}
use Rattle.rq_restart.proofs.places.place_with.Goals as goal

pub returns-then-index-places-clause-none : goal.returns-then-index-places-clause-none
returns-then-index-places-clause-none c =
    let e = c.first_from-index.ensures in
    none_with c.args.places.now c.first_from-index.result c.args.lsn c.requires e.below e.above (λ within d. absurd (omega arith))

pub returns-then-place-lsn-clause-some : goal.returns-then-place-lsn-clause-some
returns-then-place-lsn-clause-some c = (in_there c.args.places.now c.first_from-index.result no_lsn c.if-index-places.false, c.if-place-lsn.true)

pub returns-else-place-lsn-clause-none : goal.returns-else-place-lsn-clause-none
returns-else-place-lsn-clause-none c =
    let places = c.args.places.now in
    let i = c.first_from-index.result in
    let e = c.first_from-index.ensures in
    none_with places i c.args.lsn c.requires e.below e.above (λ within d same. c.if-place-lsn.false (ap (λ (p : Place). p.lsn) (get_or_default places i no_lsn d within) ∙ same))
