use Rattle.std.proofs.Common.{ℕ, ◌<◌, ◌/◌, [], length, slice_index_or}
use Rattle.rq_level.specs.declared.writes.SlotWrite.{SlotWrite}
use Rattle.rq_txn.specs.Tallies.{HasPlaces, Latches}
use Rattle.rq_txn.proofs.tally.Tally.reserve.Given as goal

-- the pages of the writes so far have a count
abbrev pub invariant-loop-write : goal.invariant-loop-write
invariant-loop-write l =
    ((k : ℕ) (d : SlotWrite) → k < l.write-index → (slice_index_or l.writes k d).at / 16 < length l.self.latched.counts.items)
    × Latches [] l.initial.self l.self
    × HasPlaces (length l.writes) l.self
