use Rattle.std.proofs.Common.{◌<◌, arith, get_or, length, sym, ap, ◌∙◌}
use Rattle.std.proofs.lemmas.List.{get_or_default}
use Rattle.rq_model.proofs.Lists.{same_is}
use Rattle.rq_txn.specs.declared.table.Place.{Place}
use Rattle.rq_txn.proofs.Placing.{absent_count, absent_txn, no_place, holds_key, at_place_found, in_at}
use Rattle.rq_txn.proofs.table.place_of.Goals as goal

pub returns-then-place-places : goal.returns-then-place-places
returns-then-place-places c =
    let e = c.first_from-place.ensures in
    absent_count c.args.rows.now c.args.places.now c.args.txn c.requires (no_place c.args.places.now c.first_from-place.result c.args.txn.count c.requires.rising e.below e.above (λ within d. absurd (omega arith)))

pub index-requires : goal.index-requires
index-requires c =
    let places = c.args.places.now in
    let i = c.first_from-place.result in
    let p : Place = get_or places i (record { count = 0; key = 0 }) in
    holds_key c.args.rows.now places i p c.requires (omega arith) (get_or_default places i (record { count = 0; key = 0 }) p (omega arith))

pub returns-then-places-place : goal.returns-then-places-place
returns-then-places-place c =
    let places = c.args.places.now in
    let i = c.first_from-place.result in
    let e = c.first_from-place.ensures in
    absent_count c.args.rows.now places c.args.txn c.requires (no_place places i c.args.txn.count c.requires.rising e.below e.above
    (λ within d h. c.if-places-place.true (ap (λ (z : Place). z.count) (get_or_default places i (record { count = 0; key = 0 }) d within) ∙ h)))

pub returns-then-eq : goal.returns-then-eq
returns-then-eq c =
    let places = c.args.places.now in
    let i = c.first_from-place.result in
    let p : Place = get_or places i (record { count = 0; key = 0 }) in
    at_place_found c.args.rows.now places i c.args.txn p c.index.result.now (omega arith) (get_or_default places i (record { count = 0; key = 0 }) p (omega arith)) c.index.ensures (same_is c.index.result.now.txn c.args.txn (sym c.if-eq.ensures))

pub returns-else-eq : goal.returns-else-eq
returns-else-eq c =
    let places = c.args.places.now in
    let i = c.first_from-place.result in
    let p : Place = get_or places i (record { count = 0; key = 0 }) in
    let within : i < length places = omega arith in
    absent_txn c.args.rows.now places c.args.txn p c.index.result.now c.requires (in_at places i p within (λ d. get_or_default places i (record { count = 0; key = 0 }) d within)) c.index.ensures (sym c.if-eq.ensures) c.if-places-place.false
