use Rattle.rq_txn.proofs.Tallying.{HasLatched}
use Rattle.rq_txn.proofs.tally.Tally.unlatch.Given as goal

abbrev pub invariant-loop-place : goal.invariant-loop-place
invariant-loop-place l = HasLatched l.writes l.place l.self l.initial.self
