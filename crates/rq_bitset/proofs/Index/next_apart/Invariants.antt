use Rattle.std.proofs.Common.{◌≡◌, ℕ, ◌-◌, ◌/◌, ◌<◌, ◌≤◌, length}
use Rattle.rq_bitset.specs.Flags.{flag_at}
use Rattle.rq_bitset.proofs.Index.next_apart.Given as goal

-- in the words so far each place that is in the set is in the other
abbrev pub invariant-loop-word : goal.invariant-loop-word
invariant-loop-word l = (l.fn.from / 64 < l.word) × ((k : ℕ) → l.fn.from ≤ k → k / 64 < l.word → flag_at l.others k ≡ 0 → flag_at l.self k ≡ 0)

abbrev pub decreases-loop-word : goal.decreases-loop-word
decreases-loop-word l = length l.self - l.word
