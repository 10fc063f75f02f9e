use Rattle.rq_txn.proofs.Tallying.{HasLatched, HasPlacesFrom}
use Rattle.rq_txn.proofs.tally.Tally.latch.Given as goal

abbrev pub invariant-loop-place : goal.invariant-loop-place
invariant-loop-place l = HasLatched l.writes l.place l.initial.self l.self × HasPlacesFrom l.writes l.place l.self
