-- Marks, and the flags that they are read from.
use Rattle.std.proofs.Common.{◌≡◌, ◌≢◌, length, ℕ, zero, suc, ◌+◌, ◌<◌, ◌≤◌, nat_eq, cond, Bool, true, false, List, ◌∷◌, Some, None, replicate, set, refl, ap, ◌∙◌, arith, inl, inr}
use Rattle.std.proofs.lemmas.Bool.{cases_lt}
use Rattle.rq_bitset.specs.Flags.{flag_at, IsNextFlag, OthersStay}
use Rattle.rq_bitset.specs.Bits.{bits_from, is_set, IsNextBit}

-- the same flags, the same marks
pub marks_same : (old new : List ℕ) (from count : ℕ) → ((k : ℕ) → from ≤ k → flag_at new k ≡ flag_at old k) → bits_from new from count ≡ bits_from old from count
unfolding bits_from
marks_same old new from zero same = refl
marks_same old new from (suc count) same =
    ap (λ flag. nat_eq flag 1 ∷ bits_from new (suc from) count) (same from (omega arith))
    ∙ ap (λ rest. nat_eq (flag_at old from) 1 ∷ rest) (marks_same old new (suc from) count (λ k after. same k (omega arith)))

-- where no flag is set, nothing is marked
pub marks_none : (words : List ℕ) (from count : ℕ) → ((k : ℕ) → flag_at words k ≡ 0) → bits_from words from count ≡ replicate count false
unfolding bits_from
marks_none words from zero none = refl
marks_none words from (suc count) none =
    ap (λ flag. nat_eq flag 1 ∷ bits_from words (suc from) count) (none from)
    ∙ ap (λ rest. false ∷ rest) (marks_none words (suc from) count none)

-- a place is marked where its flag is set
mark_within : (words : List ℕ) (from count k : ℕ) → k < count → is_set (bits_from words from count) k ≡ nat_eq (flag_at words (from + k)) 1
unfolding bits_from
mark_within words from zero k below = absurd (omega arith)
mark_within words from (suc count) zero below =
    let place : from ≡ from + 0 = omega arith in ap (λ n. nat_eq (flag_at words n) 1) place
mark_within words from (suc count) (suc k) below =
    let place : suc from + k ≡ from + suc k = omega arith in
    mark_within words (suc from) count k (omega arith) ∙ ap (λ n. nat_eq (flag_at words n) 1) place

pub mark_at : (words : List ℕ) (count k : ℕ) → k < count → is_set (bits_from words 0 count) k ≡ nat_eq (flag_at words k) 1
mark_at words count k below =
    let place : 0 + k ≡ k = omega arith in mark_within words 0 count k below ∙ ap (λ n. nat_eq (flag_at words n) 1) place

-- and none is beyond the last
pub mark_past : (words : List ℕ) (from count k : ℕ) → count ≤ k → is_set (bits_from words from count) k ≡ false
unfolding bits_from
mark_past words from zero k past = refl
mark_past words from (suc count) zero past = absurd (omega arith)
mark_past words from (suc count) (suc k) past = mark_past words (suc from) count k (omega arith)

put_from : (old new : List ℕ) (from count k : ℕ) (marked : Bool) → ((j : ℕ) → j ≢ from + k → flag_at new j ≡ flag_at old j) → (k < count → nat_eq (flag_at new (from + k)) 1 ≡ marked) → bits_from new from count ≡ set (bits_from old from count) k marked
unfolding bits_from
put_from old new from zero k marked others here = refl
put_from old new from (suc count) zero marked others here =
    let place : from ≡ from + 0 = omega arith in
    ap (λ one. one ∷ bits_from new (suc from) count) (ap (λ n. nat_eq (flag_at new n) 1) place ∙ here (omega arith))
    ∙ ap (λ rest. marked ∷ rest) (marks_same old new (suc from) count (λ k after. others k (λ same. absurd (omega (arith, same)))))
put_from old new from (suc count) (suc k) marked others here =
    let next : suc from + k ≡ from + suc k = omega arith in
    ap (λ flag. nat_eq flag 1 ∷ bits_from new (suc from) count) (others from (λ same. absurd (omega (arith, same))))
    ∙ ap (λ rest. nat_eq (flag_at old from) 1 ∷ rest) (put_from old new (suc from) count k marked (λ j other. others j (λ same. other (omega (arith, same))))
    (λ below. ap (λ n. nat_eq (flag_at new n) 1) next ∙ here (omega arith)))

marked_flag : (marked : Bool) (flag : ℕ) → flag ≡ cond marked 1 0 → nat_eq flag 1 ≡ marked
marked_flag true flag is = ap (λ n. nat_eq n 1) is
marked_flag false flag is = ap (λ n. nat_eq n 1) is

-- a place is marked, or not, and the others stay
pub marks_put : (old new : List ℕ) (count k : ℕ) (marked : Bool) → OthersStay k old new → flag_at new k ≡ cond marked 1 0 → bits_from new 0 count ≡ set (bits_from old 0 count) k marked
marks_put old new count k marked others here =
    let place : 0 + k ≡ k = omega arith in
    put_from old new 0 count k marked (λ j other. others j (λ same. other (omega (arith, same))))
    (λ below. ap (λ n. nat_eq (flag_at new n) 1) place ∙ marked_flag marked (flag_at new k) here)

-- nothing is marked beyond the last place
pub marks_put_past : (words : List ℕ) (count k : ℕ) (marked : Bool) → count ≤ k → bits_from words 0 count ≡ set (bits_from words 0 count) k marked
marks_put_past words count k marked past =
    put_from words words 0 count k marked (λ j other. refl) (λ below. absurd (omega (arith, below, past)))

marks_count : (words : List ℕ) (from count : ℕ) → length (bits_from words from count) ≡ count
unfolding bits_from
marks_count words from zero = refl
marks_count words from (suc count) = let rest = marks_count words (suc from) count in omega (arith, rest)

-- no flag is set there: nothing is marked
unmarked : (words : List ℕ) (count k : ℕ) → flag_at words k ≡ 0 → is_set (bits_from words 0 count) k ≡ false
unmarked words count k none =
    elim (cases_lt k count) [
      | inl within ↦ mark_at words count k within ∙ ap (λ n. nat_eq n 1) none
      | inr past ↦ mark_past words 0 count k past
    ]

pub next_mark : (words : List ℕ) (count from place : ℕ) → IsNextFlag words from (Some place) → place < count → IsNextBit (bits_from words 0 count) from (Some place)
next_mark words count from place next within =
    let long = marks_count words 0 count in (
      next.0,
      omega (arith, long, within),
      mark_at words count place within ∙ ap (λ n. nat_eq n 1) next.1,
      λ k after before. unmarked words count k (next.2 k after before),
    )

pub no_mark_within : (words : List ℕ) (count from place : ℕ) → IsNextFlag words from (Some place) → count ≤ place → IsNextBit (bits_from words 0 count) from None
no_mark_within words count from place next past k after =
    elim (cases_lt k count) [
      | inl within ↦ unmarked words count k (next.2 k after (omega (arith, within, past)))
      | inr beyond ↦ mark_past words 0 count k beyond
    ]

pub no_mark : (words : List ℕ) (count from : ℕ) → IsNextFlag words from None → IsNextBit (bits_from words 0 count) from None
no_mark words count from none k after = unmarked words count k (none k after)
