use Rattle.std.proofs.Common.{◌≡◌, length}
use Rattle.rq_levels.proofs.store_level.sets_of_levels.Given as goal

-- one set was made for each turn
abbrev pub invariant-loop : goal.invariant-loop
invariant-loop l = length l.sets.items ≡ l.counter
