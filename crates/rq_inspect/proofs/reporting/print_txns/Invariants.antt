use Rattle.std.proofs.Common.{◌≡◌, ◌++◌, take}
use Rattle.rq_inspect.specs.Lines.{txn_text}
use Rattle.rq_inspect.specs.Reports.{each}
use Rattle.rq_inspect.proofs.reporting.print_txns.Given as goal

abbrev pub invariant-loop-txn : goal.invariant-loop-txn
invariant-loop-txn l = l.out.items ≡ l.initial.out.items ++ each txn_text (take l.txn-index l.txns)
