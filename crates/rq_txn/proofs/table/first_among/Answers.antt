use Rattle.std.proofs.Common.{◌≡◌, ltb, true, false, get_or, rules, arith}
use Rattle.std.specs.List.Sorted.{IsPartitionPoint}
use Rattle.std.proofs.lemmas.List.Sorted.{IsPartitionPoint-from_clause, IsPartitionedBy-ltb}
use Rattle.std.proofs.lemmas.Bool.{ltb-true, ltb-false}
use Rattle.rq_txn.specs.declared.table.Place.{Place}
use Rattle.rq_txn.proofs.Placing.{rising_by}
use Rattle.rq_txn.proofs.table.first_among.Goals as goal

pub returns-clause-below : goal.returns-clause-below
returns-clause-below c k d before =
    let places = c.args.places.now in
    let point : IsPartitionPoint (λ (p : Place). ltb p.count c.args.count ≡ true) (λ (p : Place). ltb p.count c.args.count ≡ false) places c.partition_point.result = IsPartitionPoint-from_clause (λ (p : Place). ltb p.count c.args.count) places c.partition_point.result c.partition_point.ensures.partitioned (IsPartitionedBy-ltb (λ (p : Place). p.count) places c.args.count (rising_by places c.requires)) (λ a r f' h. search rules) in
    ltb-true (get_or places k d).count c.args.count (point.0 k d (omega arith) before)

pub returns-clause-above : goal.returns-clause-above
returns-clause-above c k d after within =
    let places = c.args.places.now in
    let point : IsPartitionPoint (λ (p : Place). ltb p.count c.args.count ≡ true) (λ (p : Place). ltb p.count c.args.count ≡ false) places c.partition_point.result = IsPartitionPoint-from_clause (λ (p : Place). ltb p.count c.args.count) places c.partition_point.result c.partition_point.ensures.partitioned (IsPartitionedBy-ltb (λ (p : Place). p.count) places c.args.count (rising_by places c.requires)) (λ a r f' h. search rules) in
    ltb-false (get_or places k d).count c.args.count (point.1 k d after within)
