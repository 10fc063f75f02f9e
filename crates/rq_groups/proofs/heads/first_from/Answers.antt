use Rattle.std.proofs.Common.{◌≡◌, true, false, rules, arith}
use Rattle.std.specs.List.Sorted.{IsPartitionPoint}
use Rattle.std.proofs.lemmas.List.Sorted.{IsPartitionPoint-from_clause}
use Rattle.rq_groups.specs.declared.heads.Head.{Head}
use Rattle.rq_groups.specs.Heads.{is_before}
use Rattle.rq_groups.proofs.Orders.{parted, in_take, in_drop}
use Rattle.rq_groups.proofs.heads.first_from.Goals as goal

pub returns-clause-before : goal.returns-clause-before
returns-clause-before c =
    let heads = c.args.heads.now in
    let point : IsPartitionPoint (λ (h : Head). is_before h.txn c.args.txn ≡ true) (λ (h : Head). is_before h.txn c.args.txn ≡ false) heads c.partition_point.result = IsPartitionPoint-from_clause (λ (h : Head). is_before h.txn c.args.txn) heads c.partition_point.result c.partition_point.ensures.partitioned (parted heads c.args.txn c.requires) (λ a r f' h. search rules) in
    in_take heads c.partition_point.result (λ h. is_before h.txn c.args.txn ≡ true) (λ k d lt l. point.0 k d (omega arith) lt)

pub returns-clause-after : goal.returns-clause-after
returns-clause-after c =
    let heads = c.args.heads.now in
    let point : IsPartitionPoint (λ (h : Head). is_before h.txn c.args.txn ≡ true) (λ (h : Head). is_before h.txn c.args.txn ≡ false) heads c.partition_point.result = IsPartitionPoint-from_clause (λ (h : Head). is_before h.txn c.args.txn) heads c.partition_point.result c.partition_point.ensures.partitioned (parted heads c.args.txn c.requires) (λ a r f' h. search rules) in
    in_drop heads c.partition_point.result (λ h. is_before h.txn c.args.txn ≡ false) (λ k d ge l. point.1 k d ge l)
