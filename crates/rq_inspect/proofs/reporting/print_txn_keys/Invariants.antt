use Rattle.std.proofs.Common.{◌≡◌, ◌++◌, length}
use Rattle.rq_inspect.specs.Reports.{each, txn_key_text}
use Rattle.rq_inspect.proofs.reporting.print_txn_keys.Given as goal

abbrev pub invariant-loop-txn : goal.invariant-loop-txn
invariant-loop-txn l = l.out.items ++ each txn_key_text l.left.keys ≡ l.initial.out.items ++ each txn_key_text l.initial.left.keys

abbrev pub decreases-loop-txn : goal.decreases-loop-txn
decreases-loop-txn l = length l.left.keys
