-- Numbers up to a highest one. Some parts of their spellings begin no number in range.
use Rattle.std.proofs.Common.{◌≡◌, ℕ, zero, suc, ◌+◌, ◌-◌, ◌*◌, ◌^◌, ◌<◌, ◌≤◌, true, leb, List, [], ◌∷◌, ◌++◌, length, min, take, drop, replicate, Ok, Err, refl, sym, ap, ◌∙◌, inl, inr, arith}
use Rattle.std.proofs.lemmas.Bool.{cases_lt, leb-true, le-leb}
use Rattle.std.proofs.lemmas.List.{append-nil, length-append, length-drop, length-take, length-replicate, drop-replicate, take_all}
use Rattle.byteorder.specs.Endian.{big_number, big_from}
use Rattle.byteorder.specs.Numbers.{big_from-cons, big_from-take}
use Rattle.rq_record.specs.declared.reading.Stop.TheVariants.{Short, Bad}
use Rattle.rq_bytes.specs.Number.{AreBytes, number}
use Rattle.rq_record.specs.Reading.{positive_at, number_up_to}
use Rattle.rq_bytes.proofs.Strings.{length-number, number_read, number_written}
use Rattle.rq_record.proofs.Readers.{Begins, Field, chosen, cut_length, AreBytes-append, AreBytes-zeros, Field-positive}

abbrev pub IsUpTo : ℕ → ℕ → Type 0
IsUpTo high n = (1 ≤ n) × (n ≤ high)

-- bytes that are wanting count as 0
nothing_there : (i size : ℕ) → big_from i size [] ≡ 0
nothing_there i zero = refl
nothing_there i (suc size) = omega (arith, nothing_there (suc i) size)

zeros_there : (size count : ℕ) → big_number size (replicate count 0) ≡ 0
zeros_there zero count = refl
zeros_there (suc size) zero = nothing_there 0 (suc size)
zeros_there (suc size) (suc count) = omega (arith, big_from-cons 0 size 0 (replicate count 0), zeros_there size count)

-- so zeros behind them leave the number
zeros_behind : (size count : ℕ) (bytes : List ℕ) → big_number size (bytes ++ replicate count 0) ≡ big_number size bytes
zeros_behind zero count bytes = refl
zeros_behind (suc size) count [] = zeros_there (suc size) count ∙ sym (nothing_there 0 (suc size))
zeros_behind (suc size) count (x ∷ xs) =
    ap (λ (n : ℕ). x * 256 ^ size + n) (big_from-cons 0 size x (xs ++ replicate count 0) ∙ zeros_behind size count xs ∙ sym (big_from-cons 0 size x xs))

-- and other bytes make it no less
more_behind : (size : ℕ) (bytes rest : List ℕ) → big_number size bytes ≤ big_number size (bytes ++ rest)
more_behind zero bytes rest = omega arith
more_behind (suc size) [] rest = omega (arith, nothing_there 0 (suc size))
more_behind (suc size) (x ∷ xs) rest = omega (arith, more_behind size xs rest, big_from-cons 0 size x xs, big_from-cons 0 size x (xs ++ rest))

-- so many zeros and a 1
abbrev one_after : ℕ → List ℕ
one_after count = replicate count 0 ++ (1 ∷ [])

one_fits : AreBytes (1 ∷ [])
one_fits zero = omega arith
one_fits (suc i) = omega arith

length-one_after : (count : ℕ) → length (one_after count) ≡ suc count
length-one_after count = omega (arith, length-append {A = ℕ} (replicate count 0) (1 ∷ []), length-replicate {A = ℕ} count 0)

one_there : (count : ℕ) → big_number (suc count) (one_after count) ≡ 1
one_there zero = refl
one_there (suc size) = omega (arith, big_from-cons 0 (suc size) 0 (one_after size), one_there size)

-- so what begins 0 begins 1
one_behind : (size count : ℕ) (bytes : List ℕ) → length bytes + suc count ≡ size → big_number size bytes ≡ 0 → big_number size (bytes ++ one_after count) ≡ 1
one_behind zero count bytes l e = absurd (omega arith)
one_behind (suc size) count [] l e =
    let same : count ≡ size = omega arith in
    ap (λ (n : ℕ). big_number (suc n) (one_after count)) (sym same) ∙ one_there count
one_behind (suc size) count (x ∷ xs) l e =
    let whole : x * 256 ^ size + big_from 0 size xs ≡ 0 = ap (λ (n : ℕ). x * 256 ^ size + n) (sym (big_from-cons 0 size x xs)) ∙ e in
    let one : big_number size (xs ++ one_after count) ≡ 1 = one_behind size count xs (omega arith) (omega arith) in
    let none : x * 256 ^ size ≡ 0 = omega arith in
    omega (arith, big_from-cons 0 size x (xs ++ one_after count), one, none)

-- with such bytes behind them, they begin a number in range
completed : (size high n : ℕ) (bytes rest : List ℕ) → AreBytes bytes → AreBytes rest → 0 < length rest → length bytes + length rest ≡ size
    → big_number size (bytes ++ rest) ≡ n → IsUpTo high n → Begins (number size) (IsUpTo high) bytes
completed size high n bytes rest fits rest_fits more all e is =
    let l : length (bytes ++ rest) ≡ size = omega (arith, length-append bytes rest) in
    let written : number size (big_number size (bytes ++ rest)) ≡ bytes ++ rest =
    number_written size (bytes ++ rest) (AreBytes-append bytes rest fits rest_fits) (omega (arith, l)) ∙ take_all size (bytes ++ rest) (omega (arith, l)) in
    (n, rest, is, more, ap (number size) (sym e) ∙ written)

-- bytes that do not exceed the highest number begin one: the least that begins so, or 1
short_up_to : (size high : ℕ) (bytes : List ℕ) → 1 ≤ high → AreBytes bytes → length bytes < size → big_number size bytes ≤ high → Begins (number size) (IsUpTo high) bytes
short_up_to size high bytes some fits few low =
    let count : ℕ = size - length bytes in
    elim (cases_lt 0 (big_number size bytes)) [
      | inr none ↦
          let nought : big_number size bytes ≡ 0 = omega (arith, none) in
          let zeros : ℕ = count - 1 in
          let l : length (one_after zeros) ≡ count = omega (arith, length-one_after zeros) in
          let rest_fits : AreBytes (one_after zeros) = AreBytes-append (replicate zeros 0) (1 ∷ []) (AreBytes-zeros zeros) one_fits in
          completed size high 1 bytes (one_after zeros) fits rest_fits (omega (arith, l)) (omega (arith, l)) (one_behind size zeros bytes (omega arith) nought) (omega arith, some)
      | inl positive ↦
          let l : length {A = ℕ} (replicate count 0) ≡ count = length-replicate count 0 in
          completed size high (big_number size bytes) bytes (replicate count 0) fits (AreBytes-zeros count) (omega (arith, l)) (omega (arith, l)) (zeros_behind size count bytes) (positive, low)
    ]

-- only a number that is cut short stops its reader
few_bytes : (size : ℕ) (bytes : List ℕ) → 0 < size → AreBytes bytes → positive_at size bytes ≡ Err Short → length bytes < size
few_bytes size bytes pos fits e =
    let b = (Field-positive size pos).short bytes fits e in
    cut_length size (number size b.0) bytes b.1 (length-number size b.0) b.3 b.4

pub Field-up_to : (size high : ℕ) → 0 < size → 1 ≤ high → high < 256 ^ size → Field (number_up_to size high) (number size) (IsUpTo high)
unfolding number_up_to
Field-up_to size high pos some small =
    let plain = Field-positive size pos in
    record {
      found = λ bytes a rest fits e.
          elim (chosen (leb (big_number size bytes) high) (positive_at size bytes) (Err Bad) (Ok (a, rest)) e) [
            | inl (t, h) ↦
                let is = plain.found bytes a rest fits h in
                let read : big_number size bytes ≡ a = ap (big_number size) is.1 ∙ number_read size a rest is.0.1 in
                ((is.0.0, omega (arith, read, leb-true _ _ t)), is.1)
            | inr (t, h) ↦ absurd cc
          ];
      again = λ a rest is.
          let fit : a < 256 ^ size = omega (arith, is.1) in
          let read : big_number size (number size a ++ rest) ≡ a = number_read size a rest fit in
          let test : leb (big_number size (number size a ++ rest)) high ≡ true = le-leb _ _ (omega (arith, read, is.1)) in
          rw test (plain.again a rest (is.0, fit));
      short = λ bytes fits e.
          elim (chosen (leb (big_number size bytes) high) (positive_at size bytes) (Err Bad) (Err Short) e) [
            | inl (t, h) ↦ short_up_to size high bytes some fits (few_bytes size bytes pos fits h) (leb-true _ _ t)
            | inr (t, h) ↦ absurd cc
          ];
      begins = λ a bytes rest is more e.
          let fit : a < 256 ^ size = omega (arith, is.1) in
          let read : big_number size (bytes ++ rest) ≡ a = ap (big_number size) (sym e ∙ sym (append-nil (number size a))) ∙ number_read size a [] fit in
          let test : leb (big_number size bytes) high ≡ true = le-leb _ _ (omega (arith, more_behind size bytes rest, read, is.1)) in
          rw test (plain.begins a bytes rest (is.0, fit) more e);
    }

-- ---- how the least number that begins so is found

-- the first bytes laid over eight zeros are eight bytes
pub laid_length : (count : ℕ) (bytes part : List ℕ) → count ≡ min (length bytes) 8 → part ≡ take count bytes → 8 ≤ length (part ++ drop count (replicate 8 0))
laid_length count bytes part all e =
    omega (arith, length-append part (drop count (replicate 8 0)), length-drop {A = ℕ} count (replicate 8 0), ap length e, length-take count bytes)

-- whose number is theirs
pub laid_number : (count : ℕ) (bytes part : List ℕ) → count ≡ min (length bytes) 8 → part ≡ take count bytes → big_number 8 (part ++ drop count (replicate 8 0)) ≡ big_number 8 bytes
laid_number count bytes part all e =
    let kept : big_number 8 (take count bytes) ≡ big_number 8 bytes =
    elim (cases_lt (length bytes) 8) [
      | inl few ↦ ap (big_number 8) (take_all count bytes (omega (arith, few, all)))
      | inr many ↦ big_from-take 0 8 count bytes (omega (arith, many, all))
    ] in
    ap (λ (t : List ℕ). big_number 8 (t ++ drop count (replicate 8 0))) e
    ∙ ap (λ (t : List ℕ). big_number 8 (take count bytes ++ t)) (drop-replicate count 8 0)
    ∙ zeros_behind 8 (8 - count) (take count bytes)
    ∙ kept
