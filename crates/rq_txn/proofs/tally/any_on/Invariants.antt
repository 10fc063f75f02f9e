use Rattle.std.proofs.Common.{◌≡◌, ◌/◌, map, drop}
use Rattle.rq_level.specs.Given.{has_page}
use Rattle.rq_txn.proofs.tally.any_on.Given as goal

-- the search of what is left is the search of all
abbrev pub invariant-loop-write : goal.invariant-loop-write
invariant-loop-write l = has_page l.page (map (λ w. w.at / 16) (drop l.write-index l.writes)) ≡ has_page l.page (map (λ w. w.at / 16) l.writes)
