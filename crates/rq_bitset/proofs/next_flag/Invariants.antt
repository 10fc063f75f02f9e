use Rattle.std.proofs.Common.{◌≡◌, ◌<◌, ◌≤◌, ◌/◌, ℕ}
use Rattle.rq_bitset.specs.Flags.{flag_at}
use Rattle.rq_bitset.proofs.next_flag.Given as goal

-- no flag of the words so far is set
abbrev pub invariant-loop-word : goal.invariant-loop-word
invariant-loop-word l = (k : ℕ) → l.from ≤ k → k / 64 < l.word → flag_at l.words k ≡ 0
