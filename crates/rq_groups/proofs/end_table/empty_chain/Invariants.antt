use Rattle.std.proofs.Common.{◌+◌, cond}
use Rattle.std.specs.List.{sum_by}
use Rattle.std.specs.Option.{is_some}
use Rattle.rq_groups.proofs.Chained.{held_one, IsUnderWay}
use Rattle.rq_groups.proofs.end_table.empty_chain.Given as goal

-- of a chain only the rest is left
abbrev pub invariant-loop-next : goal.invariant-loop-next
invariant-loop-next l = IsUnderWay l.fn.holders l.holders l.fn.newest l.next

-- each round empties a place, or is the last
abbrev pub decreases-loop-next : goal.decreases-loop-next
decreases-loop-next l = sum_by held_one l.holders + cond (is_some l.next) 1 0
