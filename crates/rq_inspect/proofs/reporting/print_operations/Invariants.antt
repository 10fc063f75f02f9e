use Rattle.std.proofs.Common.{◌≡◌, ◌++◌, length}
use Rattle.rq_inspect.specs.Reports.{each, operation_key_text}
use Rattle.rq_inspect.proofs.reporting.print_operations.Given as goal

abbrev pub invariant-loop-operation : goal.invariant-loop-operation
invariant-loop-operation l = l.out.items ++ each operation_key_text l.left.keys ≡ l.initial.out.items ++ each operation_key_text l.initial.left.keys

abbrev pub decreases-loop-operation : goal.decreases-loop-operation
decreases-loop-operation l = length l.left.keys
