-- Lists of bytes: their parts, and the numbers in them.
use Rattle.std.proofs.Common.{◌≡◌, ℕ, zero, suc, ◌+◌, ◌*◌, ◌^◌, ◌<◌, ◌≤◌, List, [], ◌∷◌, ◌++◌, length, take, drop, refl, sym, ap, ◌∙◌, inl, inr, ◌⊎◌, arith}
use Rattle.std.proofs.lemmas.Bool.{cases_lt}
use Rattle.std.proofs.lemmas.List.{append-nil, length-take, get_or-take, get_or-drop, get_or_past, get_or-append-add}
use Rattle.std.proofs.lemmas.Nat.{same_from_place, mod_below}
use Rattle.std.specs.Int.{byte_at, bytes_high_first}
use Rattle.byteorder.specs.Endian.{big_bytes, big_number, big_from}
use Rattle.byteorder.specs.Numbers.{big_from-cons, big_from-lt, big_from-take, big_number-reads_back, length-bytes_high_first}
use Rattle.rq_bytes.specs.Number.{AreBytes, number}

pub AreBytes-take : (n : ℕ) (bytes : List ℕ) → AreBytes bytes → AreBytes (take n bytes)
AreBytes-take n bytes h i =
    elim (cases_lt i n) [
      | inl lt ↦ rw (get_or-take n bytes i 0 lt) (h i)
      | inr le ↦ rw (get_or_past (take n bytes) i 0 (omega (arith, length-take n bytes))) (omega arith)
    ]

pub AreBytes-drop : (n : ℕ) (bytes : List ℕ) → AreBytes bytes → AreBytes (drop n bytes)
AreBytes-drop n bytes h i = rw get_or-drop (h (n + i))

pub AreBytes-right : (xs ys : List ℕ) → AreBytes (xs ++ ys) → AreBytes ys
AreBytes-right xs ys h i = rw (get_or-append-add xs ys i 0) at (h (length xs + i))

pub AreBytes-tail : (x : ℕ) (xs : List ℕ) → AreBytes (x ∷ xs) → AreBytes xs
AreBytes-tail x xs h i = h (suc i)

byte_below : (k x : ℕ) → byte_at k x < 256
byte_below zero x = mod_below x 256 (omega arith)
byte_below (suc k) x = mod_below _ 256 (omega arith)

AreBytes-big : (n x : ℕ) → AreBytes (bytes_high_first n x)
AreBytes-big zero x i = omega arith
AreBytes-big (suc n) x zero = byte_below n x
AreBytes-big (suc n) x (suc i) = AreBytes-big n x i

-- a number has one spelling of each length
same_number : (n : ℕ) (xs ys : List ℕ) → AreBytes xs → AreBytes ys → length xs ≡ n → length ys ≡ n → big_from 0 n xs ≡ big_from 0 n ys → xs ≡ ys
same_number zero [] [] f g l m e = refl
same_number zero [] (y ∷ ys) f g l m e = absurd (omega arith)
same_number zero (x ∷ xs) ys f g l m e = absurd (omega arith)
same_number (suc n) [] ys f g l m e = absurd (omega arith)
same_number (suc n) (x ∷ xs) [] f g l m e = absurd (omega arith)
same_number (suc n) (x ∷ xs) (y ∷ ys) f g l m e =
    let whole : x * 256 ^ n + big_from 0 n xs ≡ y * 256 ^ n + big_from 0 n ys = ap (λ (r : ℕ). x * 256 ^ n + r) (sym (big_from-cons 0 n x xs)) ∙ e ∙ ap (λ (r : ℕ). y * 256 ^ n + r) (big_from-cons 0 n y ys) in
    let parts = same_from_place x (big_from 0 n xs) y (big_from 0 n ys) (256 ^ n) (big_from-lt 0 n xs (AreBytes-tail x xs f)) (big_from-lt 0 n ys (AreBytes-tail y ys g)) whole in
    let rest = same_number n xs ys (AreBytes-tail x xs f) (AreBytes-tail y ys g) (omega arith) (omega arith) parts.1 in
    ap (λ (b : ℕ). b ∷ xs) parts.0 ∙ ap (λ (t : List ℕ). y ∷ t) rest

pub length-number : (size n : ℕ) → length (number size n) ≡ size
unfolding number
length-number size n = length-bytes_high_first size n

-- what was written is read
pub number_read : (size n : ℕ) (rest : List ℕ) → n < 256 ^ size → big_number size (number size n ++ rest) ≡ n
unfolding number
number_read size n rest h = big_number-reads_back size n rest h

-- what is read is written so
pub number_written : (size : ℕ) (bytes : List ℕ) → AreBytes bytes → size ≤ length bytes → number size (big_number size bytes) ≡ take size bytes
unfolding number
number_written size bytes f h =
    let n = big_number size bytes in
    let again : big_from 0 size (big_bytes size n) ≡ n = ap (big_from 0 size) (sym (append-nil (big_bytes size n))) ∙ big_number-reads_back size n [] (big_from-lt 0 size bytes f) in
    same_number size (big_bytes size n) (take size bytes) (AreBytes-big size n) (AreBytes-take size bytes f) (length-bytes_high_first size n) (omega (arith, length-take size bytes)) (again ∙ sym (big_from-take 0 size size bytes (omega arith)))

pub AreBytes-number : (size n : ℕ) → AreBytes (number size n)
unfolding number
AreBytes-number size n = AreBytes-big size n

-- a number that is read is as great as its bytes let it be
pub number_below : (size : ℕ) (bytes : List ℕ) → AreBytes bytes → big_number size bytes < 256 ^ size
number_below size bytes f = big_from-lt 0 size bytes f

-- a list that is cut in two ways: one cut stands before the other
pub two_cuts : (xs ys cs bs : List ℕ) → xs ++ ys ≡ cs ++ bs → ((r : List ℕ) × (xs ≡ cs ++ r) × (0 < length r)) ⊎ ((r : List ℕ) × (cs ≡ xs ++ r) × (ys ≡ r ++ bs))
two_cuts [] ys cs bs e = inr (cs, refl, e)
two_cuts (x ∷ xs) ys [] bs e = inl (x ∷ xs, refl, omega arith)
two_cuts (x ∷ xs) ys (a ∷ cs) bs e =
    let heads : x ≡ a = cc in
    let tails : xs ++ ys ≡ cs ++ bs = cc in
    elim (two_cuts xs ys cs bs tails) [
      | inl (r, c, l) ↦ inl (r, ap (λ (h : ℕ). h ∷ xs) heads ∙ ap (λ (t : List ℕ). a ∷ t) c, l)
      | inr (r, c, d) ↦ inr (r, ap (λ (h : ℕ). h ∷ cs) (sym heads) ∙ ap (λ (t : List ℕ). x ∷ t) c, d)
    ]
