use Rattle.std.proofs.Common.{◌≡◌, ltb, true, false, get_or, rules, arith}
use Rattle.std.specs.List.Sorted.{IsPartitionPoint}
use Rattle.std.proofs.lemmas.List.Sorted.{IsPartitionPoint-from_clause, IsPartitionedBy-ltb}
use Rattle.std.proofs.lemmas.Bool.{ltb-true, ltb-false}
use Rattle.rq_restart.specs.declared.places.Place.{Place}
use Rattle.rq_restart.proofs.Placing.{never_falls}
use Rattle.rq_restart.proofs.places.first_from.Goals as goal

pub returns-clause-below : goal.returns-clause-below
returns-clause-below c k d before =
    let places = c.args.places.now in
    let point : IsPartitionPoint (λ (p : Place). ltb p.lsn c.args.lsn ≡ true) (λ (p : Place). ltb p.lsn c.args.lsn ≡ false) places c.partition_point.result = IsPartitionPoint-from_clause (λ (p : Place). ltb p.lsn c.args.lsn) places c.partition_point.result c.partition_point.ensures.partitioned (IsPartitionedBy-ltb (λ (p : Place). p.lsn) places c.args.lsn (never_falls places c.requires)) (λ a r f' h. search rules) in
    ltb-true (get_or places k d).lsn c.args.lsn (point.0 k d (omega arith) before)

pub returns-clause-above : goal.returns-clause-above
returns-clause-above c k d after within =
    let places = c.args.places.now in
    let point : IsPartitionPoint (λ (p : Place). ltb p.lsn c.args.lsn ≡ true) (λ (p : Place). ltb p.lsn c.args.lsn ≡ false) places c.partition_point.result = IsPartitionPoint-from_clause (λ (p : Place). ltb p.lsn c.args.lsn) places c.partition_point.result c.partition_point.ensures.partitioned (IsPartitionedBy-ltb (λ (p : Place). p.lsn) places c.args.lsn (never_falls places c.requires)) (λ a r f' h. search rules) in
    ltb-false (get_or places k d).lsn c.args.lsn (point.1 k d after within)
