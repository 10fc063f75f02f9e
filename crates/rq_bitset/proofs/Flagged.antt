-- Flags: one that is set or cleared, the next one, and those of the words that have one.
use Rattle.std.proofs.Common.{◌≡◌, ◌≢◌, ℕ, ◌+◌, ◌*◌, ◌/◌, ◌%◌, ◌-◌, ◌^◌, ◌<◌, ◌≤◌, List, length, set, replicate, get_or, slice_index, min, Some, None, bit_and, bit_or, refl, sym, ap, ◌∙◌, arith, inl, inr, w64}
use Rattle.std.specs.Int.{bit_at, bit_not}
use Rattle.std.proofs.lemmas.Bool.{cases_lt, cases_eq}
use Rattle.std.proofs.lemmas.List.{length-replicate, get_or-replicate, get_or_past, get_or-set_same, get_or-set_other, get_or_read}
use Rattle.std.proofs.lemmas.Nat.{shr-shr, shr_below}
use Rattle.std.proofs.lemmas.Nat.Bits.{bit_at-zero, bit_at_set_same, bit_at_set_other, bit_at_clear_same, bit_at_clear_other, bit_at_above, bit_at-lt}
use Rattle.rq_bitset.specs.Flags.{flag_at, AreFlags, IsNextFlag, IsNextInWord, OthersStay, IsNextApart, IsNextApartInWord}

replicated : (n w : ℕ) → get_or {A = ℕ} (replicate n 0) w 0 ≡ 0
replicated n w =
    elim (cases_lt w n) [
      | inl below ↦ get_or-replicate n w 0 0 below
      | inr above ↦ let past : length {A = ℕ} (replicate n 0) ≤ w = omega (arith, length-replicate {A = ℕ}) in get_or_past (replicate n 0) w 0 past
    ]

-- no flag is set in a word that is 0
pub flag_at-zero : (words : List ℕ) (w k : ℕ) → slice_index words w ≡ 0 → k / 64 ≡ w → flag_at words k ≡ 0
unfolding flag_at
flag_at-zero words w k empty here =
    ap (λ n. bit_at n (k % 64)) (ap (λ i. get_or words i 0) here ∙ empty) ∙ bit_at-zero (k % 64)

-- no flag is set beyond the end
pub flag_at-past : (words : List ℕ) (k : ℕ) → length words ≤ k / 64 → flag_at words k ≡ 0
flag_at-past words k past = flag_at-zero words (k / 64) k (get_or_past words (k / 64) 0 past) refl

pub slice_index-unset : (words : List ℕ) (n w : ℕ) → words ≡ replicate n 0 → slice_index words w ≡ 0
slice_index-unset words n w e = ap (λ ws. get_or ws w 0) e ∙ replicated n w

pub flag_at-unset : (words : List ℕ) (n k : ℕ) → words ≡ replicate n 0 → flag_at words k ≡ 0
flag_at-unset words n k e = flag_at-zero words (k / 64) k (slice_index-unset words n (k / 64) e) refl

-- ---- one flag

pub flag_at-set_same : (words : List ℕ) (k : ℕ) → k < 64 * length words → flag_at (set words (k / 64) (bit_or (get_or words (k / 64) 0) (1 * 2 ^ (k % 64) % 2 ^ 64))) k ≡ 1
unfolding flag_at
flag_at-set_same words k below =
    let within : k / 64 < length words = omega arith in
    ap (λ n. bit_at n (k % 64)) (get_or-set_same words (k / 64) (bit_or (get_or words (k / 64) 0) (1 * 2 ^ (k % 64) % 2 ^ 64)) 0 within) ∙ bit_at_set_same w64 (get_or words (k / 64) 0) (k % 64) (omega arith)

pub flag_at-clear_same : (words : List ℕ) (k : ℕ) → k < 64 * length words → flag_at (set words (k / 64) (bit_and (get_or words (k / 64) 0) (bit_not w64 (1 * 2 ^ (k % 64) % 2 ^ 64)))) k ≡ 0
unfolding flag_at
flag_at-clear_same words k below =
    let within : k / 64 < length words = omega arith in
    ap (λ n. bit_at n (k % 64)) (get_or-set_same words (k / 64) (bit_and (get_or words (k / 64) 0) (bit_not w64 (1 * 2 ^ (k % 64) % 2 ^ 64))) 0 within) ∙ bit_at_clear_same w64 (get_or words (k / 64) 0) (k % 64) (omega arith)

-- of a word that is written, each flag is as before whose bit is
flag_at-other : (words : List ℕ) (p k v : ℕ) → p < 64 * length words → (k / 64 ≡ p / 64 → bit_at v (k % 64) ≡ bit_at (get_or words (p / 64) 0) (k % 64)) → flag_at (set words (p / 64) v) k ≡ flag_at words k
unfolding flag_at
flag_at-other words p k v below bit =
    elim (cases_eq (k / 64) (p / 64)) [
      | inl same ↦
          let within : p / 64 < length words = omega arith in
          ap (λ i. bit_at (get_or (set words (p / 64) v) i 0) (k % 64)) same ∙ ap (λ n. bit_at n (k % 64)) (get_or-set_same words (p / 64) v 0 within) ∙ bit same ∙ ap (λ i. bit_at (get_or words i 0) (k % 64)) (sym same)
      | inr other ↦ ap (λ n. bit_at n (k % 64)) (get_or-set_other words (p / 64) (k / 64) v 0 other)
    ]

apart : (k p : ℕ) → k ≢ p → k / 64 ≡ p / 64 → k % 64 ≢ p % 64
apart k p other word bit = other (omega arith)

pub flag_at-set_other : (words : List ℕ) (p : ℕ) → p < 64 * length words → OthersStay p words (set words (p / 64) (bit_or (get_or words (p / 64) 0) (1 * 2 ^ (p % 64) % 2 ^ 64)))
flag_at-set_other words p below k other =
    flag_at-other words p k (bit_or (get_or words (p / 64) 0) (1 * 2 ^ (p % 64) % 2 ^ 64)) below
    (λ same. bit_at_set_other w64 (get_or words (p / 64) 0) (p % 64) (omega arith) (k % 64) (apart k p other same))

pub flag_at-clear_other : (words : List ℕ) (p : ℕ) → p < 64 * length words → OthersStay p words (set words (p / 64) (bit_and (get_or words (p / 64) 0) (bit_not w64 (1 * 2 ^ (p % 64) % 2 ^ 64))))
flag_at-clear_other words p below k other =
    flag_at-other words p k (bit_and (get_or words (p / 64) 0) (bit_not w64 (1 * 2 ^ (p % 64) % 2 ^ 64))) below
    (λ same. bit_at_clear_other w64 (get_or words (p / 64) 0) (p % 64) (omega arith) (k % 64) (omega arith) (apart k p other same))

-- ---- the next flag

flag_at-word : (words : List ℕ) (w i : ℕ) → i < 64 → flag_at words (w * 64 + i) ≡ bit_at (get_or words w 0) i
unfolding flag_at
flag_at-word words w i below =
    let word : (w * 64 + i) / 64 ≡ w = omega arith in
    let bit : (w * 64 + i) % 64 ≡ i = omega arith in
    ap (λ n. bit_at (get_or words n 0) ((w * 64 + i) % 64)) word ∙ ap (bit_at (get_or words w 0)) bit

bit_at-shifted : (n j i : ℕ) → bit_at (n / 2 ^ j) i ≡ bit_at n (j + i)
bit_at-shifted n j i = ap (λ m. m % 2) (shr-shr n j i)

-- the flags from a place on, in its word
flag_at-rest : (words : List ℕ) (from i : ℕ) → from % 64 + i < 64 → flag_at words (from + i) ≡ bit_at (get_or words (from / 64) 0 / 2 ^ (from % 64)) i
flag_at-rest words from i below =
    let place : from + i ≡ from / 64 * 64 + (from % 64 + i) = omega arith in
    ap (flag_at words) place ∙ flag_at-word words (from / 64) (from % 64 + i) below ∙ sym (bit_at-shifted (get_or words (from / 64) 0) (from % 64) i)

pub none_in_word : (words : List ℕ) (from : ℕ) → get_or words (from / 64) 0 / 2 ^ (from % 64) ≡ 0 → IsNextInWord words from None
none_in_word words from empty k after here =
    let place : k ≡ from + (k - from) = omega arith in
    ap (flag_at words) place ∙ flag_at-rest words from (k - from) (omega arith) ∙ ap (λ n. bit_at n (k - from)) empty ∙ bit_at-zero (k - from)

-- where the lowest bit of the rest of a word stands, the word is not left
pub lowest_within : (word j z : ℕ) → word < 2 ^ 64 → j < 64 → bit_at (word / 2 ^ j) z ≡ 1 → j + z < 64
lowest_within word j z fits below one =
    elim (cases_lt (j + z) 64) [
      | inl within ↦ within
      | inr past ↦
          let split : 64 ≡ (64 - j) + j = omega arith in
          let high : word < 2 ^ ((64 - j) + j) = rw (← split) fits in
          let zero = bit_at_above (word / 2 ^ j) (64 - j) z (shr_below word (64 - j) j high) (omega arith) in
          absurd (omega (arith, zero, one))
    ]

pub next_in_word : (words : List ℕ) (from z : ℕ) → from % 64 + z < 64 → bit_at (get_or words (from / 64) 0 / 2 ^ (from % 64)) z ≡ 1 → ((i : ℕ) → i < z → bit_at (get_or words (from / 64) 0 / 2 ^ (from % 64)) i ≡ 0) → IsNextFlag words from (Some (from + z))
next_in_word words from z within one first = (
  omega arith,
  flag_at-rest words from z within ∙ one,
  λ k after before.
      let place : k ≡ from + (k - from) = omega arith in
      ap (flag_at words) place ∙ flag_at-rest words from (k - from) (omega arith) ∙ first (k - from) (omega arith),
)

-- the lowest flag of a word is the next one where none of the words before has one
pub next_in_later : (words : List ℕ) (from w z : ℕ) → from / 64 < w → ((k : ℕ) → from ≤ k → k / 64 < w → flag_at words k ≡ 0) → z < 64 → bit_at (get_or words w 0) z ≡ 1 → ((i : ℕ) → i < z → bit_at (get_or words w 0) i ≡ 0) → IsNextFlag words from (Some (w * 64 + z))
next_in_later words from w z later none within one first = (
  omega arith,
  flag_at-word words w z within ∙ one,
  λ k after before.
      elim (cases_lt (k / 64) w) [
        | inl earlier ↦ none k after earlier
        | inr here ↦
            let place : k ≡ w * 64 + (k - w * 64) = omega arith in
            ap (flag_at words) place ∙ flag_at-word words w (k - w * 64) (omega arith) ∙ first (k - w * 64) (omega arith)
      ],
)

-- ---- flags of the words that have one

-- a word has a flag exactly where a flag of words says so
pub word_of : (words numbers : List ℕ) (w : ℕ) → AreFlags words numbers → flag_at words w ≡ 1 → (1 ≤ slice_index numbers w) × (w < length numbers)
word_of words numbers w are set =
    let some : 1 ≤ slice_index numbers w = omega (arith, are w) in (
      some,
      elim (cases_lt w (length numbers)) [
        | inl below ↦ below
        | inr past ↦ let none = get_or_past numbers w 0 past in absurd (omega arith)
      ],
    )

pub none_of : (words numbers : List ℕ) (w : ℕ) → AreFlags words numbers → flag_at words w ≡ 0 → slice_index numbers w ≡ 0
none_of words numbers w are clear = omega (arith, are w)

pub flags_put : (words new numbers changed : List ℕ) (p : ℕ) → AreFlags words numbers → OthersStay p words new → ((w : ℕ) → w ≢ p → slice_index changed w ≡ slice_index numbers w) → flag_at new p ≡ min 1 (slice_index changed p) → AreFlags new changed
flags_put words new numbers changed p are others apart here k =
    elim (cases_eq k p) [
      | inl same ↦ ap (flag_at new) same ∙ here ∙ ap (λ i. min 1 (slice_index changed i)) (sym same)
      | inr other ↦ others k other ∙ are k ∙ ap (min 1) (sym (apart k other))
    ]

-- the word of a flag that is set is not 0
pub word_set : (words : List ℕ) (k : ℕ) → flag_at words k ≡ 1 → min 1 (slice_index words (k / 64)) ≡ 1
word_set words k set =
    elim (cases_lt 0 (slice_index words (k / 64))) [
      | inl some ↦ omega arith
      | inr none ↦ let zero = flag_at-zero words (k / 64) k (omega arith) refl in absurd (omega arith)
    ]

later_words_empty : (words flags : List ℕ) (from last : ℕ) → AreFlags words flags → ((k : ℕ) → from ≤ k → k / 64 ≡ from / 64 → flag_at flags k ≡ 0) → ((w : ℕ) → from / 64 + 1 ≤ w → w < last → flag_at words w ≡ 0) → (k : ℕ) → from ≤ k → k / 64 < last → flag_at flags k ≡ 0
later_words_empty words flags from last are own none k after before =
    elim (cases_eq (k / 64) (from / 64)) [
      | inl same ↦ own k after same
      | inr other ↦ flag_at-zero flags (k / 64) k (none_of words flags (k / 64) are (none (k / 64) (omega arith) before)) refl
    ]

-- the next flag behind a word without one stands in the next word that has one
pub next_by_words : (words flags : List ℕ) (from w z n : ℕ) → AreFlags words flags → ((k : ℕ) → from ≤ k → k / 64 ≡ from / 64 → flag_at flags k ≡ 0) → IsNextFlag words (from / 64 + 1) (Some w) → n ≡ get_or flags w n → z < 64 → bit_at n z ≡ 1 → ((i : ℕ) → i < z → bit_at n i ≡ 0) → IsNextFlag flags from (Some (w * 64 + z))
next_by_words words flags from w z n are own next read within one first =
    let word : n ≡ get_or flags w 0 = get_or_read flags w n (word_of words flags w are next.1).1 read 0 in
    next_in_later flags from w z (omega (arith, next.0)) (later_words_empty words flags from w are own next.2) within
    (ap (λ m. bit_at m z) (sym word) ∙ one) (λ i below. ap (λ m. bit_at m i) (sym word) ∙ first i below)

pub none_by_words : (words flags : List ℕ) (from : ℕ) → AreFlags words flags → ((k : ℕ) → from ≤ k → k / 64 ≡ from / 64 → flag_at flags k ≡ 0) → IsNextFlag words (from / 64 + 1) None → IsNextFlag flags from None
none_by_words words flags from are own none k after =
    later_words_empty words flags from (k / 64 + 1) are own (λ w later before. none w later) k after (omega arith)

-- where no flag of a word is set from its first on, the next words are to be looked at
pub none_so_far : (words : List ℕ) (from w : ℕ) → ((k : ℕ) → from ≤ k → k / 64 < w → flag_at words k ≡ 0) → get_or words w 0 ≡ 0 → (k : ℕ) → from ≤ k → k / 64 < w + 1 → flag_at words k ≡ 0
none_so_far words from w none empty k after below =
    elim (cases_lt (k / 64) w) [
      | inl earlier ↦ none k after earlier
      | inr here ↦ flag_at-zero words w k empty (omega arith)
    ]

pub none_at_all : (words : List ℕ) (from w : ℕ) → ((k : ℕ) → from ≤ k → k / 64 < w → flag_at words k ≡ 0) → length words ≤ w → IsNextFlag words from None
none_at_all words from w none past k after =
    elim (cases_lt (k / 64) w) [
      | inl earlier ↦ none k after earlier
      | inr here ↦ flag_at-past words k (omega arith)
    ]

-- ---- the flags that are not set in another list

flag_at-lt : (words : List ℕ) (k : ℕ) → flag_at words k < 2
unfolding flag_at
flag_at-lt words k = bit_at-lt (get_or words (k / 64) 0) (k % 64)

-- a flag that is set is one of the list
pub flag_within : (words : List ℕ) (k : ℕ) → flag_at words k ≡ 1 → k < 64 * length words
flag_within words k set =
    elim (cases_lt (k / 64) (length words)) [
      | inl below ↦ omega arith
      | inr past ↦ let zero = flag_at-past words k past in absurd (omega arith)
    ]

-- the bits of a word that are not set in another one
abbrev pub IsApart : ℕ → ℕ → ℕ → Type 0
IsApart n word other = (i : ℕ) → bit_at n i ≡ bit_at word i - bit_at other i

apart_rest : (words others : List ℕ) (from n i : ℕ) → IsApart n (get_or words (from / 64) 0) (get_or others (from / 64) 0) → from % 64 + i < 64 → bit_at (n / 2 ^ (from % 64)) i ≡ flag_at words (from + i) - flag_at others (from + i)
apart_rest words others from n i apart within =
    let a = flag_at-rest words from i within ∙ bit_at-shifted (get_or words (from / 64) 0) (from % 64) i in
    let b = flag_at-rest others from i within ∙ bit_at-shifted (get_or others (from / 64) 0) (from % 64) i in
    let c = bit_at-shifted n (from % 64) i ∙ apart (from % 64 + i) in
    omega (arith, a, b, c)

pub none_apart_in_word : (words others : List ℕ) (from n : ℕ) → IsApart n (get_or words (from / 64) 0) (get_or others (from / 64) 0) → n / 2 ^ (from % 64) ≡ 0 → IsNextApartInWord words others from None
none_apart_in_word words others from n apart empty k after here free =
    let place : from + (k - from) ≡ k = omega arith in
    let bit = sym (apart_rest words others from n (k - from) apart (omega arith)) ∙ ap (λ m. bit_at m (k - from)) empty ∙ bit_at-zero (k - from) in
    let a : flag_at words (from + (k - from)) ≡ flag_at words k = ap (flag_at words) place in
    let b : flag_at others (from + (k - from)) ≡ flag_at others k = ap (flag_at others) place in
    omega (arith, bit, a, b, free)

pub none_apart_past : (words others : List ℕ) (from : ℕ) → length words ≤ from / 64 → IsNextApartInWord words others from None
none_apart_past words others from past k after here free = flag_at-past words k (omega arith)

pub next_apart_in_word : (words others : List ℕ) (from n z : ℕ) → IsApart n (get_or words (from / 64) 0) (get_or others (from / 64) 0) → from % 64 + z < 64 → bit_at (n / 2 ^ (from % 64)) z ≡ 1 → ((i : ℕ) → i < z → bit_at (n / 2 ^ (from % 64)) i ≡ 0) → IsNextApart words others from (Some (from + z))
next_apart_in_word words others from n z apart within one first =
    let bit = sym (apart_rest words others from n z apart within) ∙ one in
    let few = flag_at-lt words (from + z) in (
      omega arith,
      omega (arith, bit, few),
      omega (arith, bit, few),
      λ k after before free.
          let place : from + (k - from) ≡ k = omega arith in
          let zero = sym (apart_rest words others from n (k - from) apart (omega arith)) ∙ first (k - from) (omega arith) in
          let a : flag_at words (from + (k - from)) ≡ flag_at words k = ap (flag_at words) place in
          let b : flag_at others (from + (k - from)) ≡ flag_at others k = ap (flag_at others) place in
          omega (arith, zero, a, b, free),
    )

-- Up to a word each place that is in the one list is in the other.
module _ (flags others : List ℕ) (from word : ℕ) (none : (k : ℕ) → from ≤ k → k / 64 < word → flag_at others k ≡ 0 → flag_at flags k ≡ 0) where
  -- so it is where that word has none that is not
  pub none_there : IsNextApartInWord flags others (word * 64) None
      → (k : ℕ) → from ≤ k → k / 64 < word + 1 → flag_at others k ≡ 0 → flag_at flags k ≡ 0
  none_there there k after before free =
      elim (cases_lt (k / 64) word) [
        | inl earlier ↦ none k after earlier free
        | inr here ↦ there k (omega arith) (omega arith) free
      ]

  -- and up to the next word that has a flag
  pub none_between : (words : List ℕ) (next : ℕ) → AreFlags words flags → ((w : ℕ) → word ≤ w → w < next → flag_at words w ≡ 0)
      → (k : ℕ) → from ≤ k → k / 64 < next → flag_at others k ≡ 0 → flag_at flags k ≡ 0
  none_between words next are empty k after before free =
      elim (cases_lt (k / 64) word) [
        | inl earlier ↦ none k after earlier free
        | inr here ↦ flag_at-zero flags (k / 64) k (none_of words flags (k / 64) are (empty (k / 64) here before)) refl
      ]

  -- or anywhere, where there is no word more
  pub none_past : length flags ≤ word → IsNextApart flags others from None
  none_past past k after free =
      elim (cases_lt (k / 64) word) [
        | inl earlier ↦ none k after earlier free
        | inr beyond ↦ flag_at-past flags k (omega arith)
      ]
