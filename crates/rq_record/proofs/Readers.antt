-- Readers of one field, and of one after the other.
use Rattle.std.proofs.Common.{◌≡◌, ℕ, zero, suc, ◌-◌, ◌*◌, ◌^◌, ◌<◌, ◌≤◌, Bool, true, false, cond, ltb, leb, eqb, ◌&&◌, List, [], ◌∷◌, ◌++◌, length, take, drop, replicate, get_or, Result, Ok, Err, refl, sym, ap, subst, ◌∙◌, append_assoc, inl, inr, ◌⊎◌, arith}
use Rattle.std.proofs.lemmas.Bool.{ltb-false, le-ltb, ltb-true, lt-ltb}
use Rattle.std.proofs.lemmas.List.{length-append, length-take, length-replicate, take_at, drop_at, take-append-drop, take_all}
use Rattle.std.proofs.lemmas.Bool.Decides.{nat_tests}
use Rattle.std.proofs.Math.Nat.{mul-le-mul_right, one-le-pow}
use Rattle.byteorder.specs.Endian.{big_number, big_from}
use Rattle.byteorder.specs.Numbers.{big_from-lt, big_from-cons}
use Rattle.rq_record.specs.declared.reading.Stop.{Stop}
use Rattle.rq_record.specs.declared.reading.Stop.TheVariants.{Short, Bad}
use Rattle.rq_bytes.specs.Number.{AreBytes, number}
use Rattle.rq_record.specs.Reading.{◌>>=◌, bytes_at, number_at, positive_at, byte_between}
use Rattle.rq_bytes.proofs.Strings.{AreBytes-take, AreBytes-right, two_cuts, length-number, number_read, number_written}

pub is_positive : (n : ℕ) → eqb n 0 ≡ false → 0 < n
is_positive n h = grind (arith, nat_tests)

pub not_nought : (n : ℕ) → 0 < n → eqb n 0 ≡ false
not_nought n h = grind (arith, nat_tests)

-- a proper beginning of a spelling
abbrev pub Begins : {A : Type 0} → (A → List ℕ) → (A → Type 0) → List ℕ → Type 0
Begins {A} spell Is bytes = (a : A) × (rest : List ℕ) × Is a × (0 < length rest) × (spell a ≡ bytes ++ rest)

-- a reader that reads exactly what is spelled so, and stops short exactly at a proper beginning
pub record Field {A : Type 0} (read : List ℕ → Result (A × List ℕ) Stop) (spell : A → List ℕ) (Is : A → Type 0) : Type 0 where
  pub found : (bytes : List ℕ) (a : A) (rest : List ℕ) → AreBytes bytes → read bytes ≡ Ok (a, rest) → Is a × (bytes ≡ spell a ++ rest)
  pub again : (a : A) (rest : List ℕ) → Is a → read (spell a ++ rest) ≡ Ok (a, rest)
  pub short : (bytes : List ℕ) → AreBytes bytes → read bytes ≡ Err Short → Begins spell Is bytes
  pub begins : (a : A) (bytes rest : List ℕ) → Is a → 0 < length rest → spell a ≡ bytes ++ rest → read bytes ≡ Err Short

-- the same of a reader that makes one value of the fields that it reads
pub record Reads {A C : Type 0} (read : List ℕ → Result (C × List ℕ) Stop) (make : A → C) (spell : A → List ℕ) (Is : A → Type 0) : Type 0 where
  pub found : (bytes : List ℕ) (c : C) (rest : List ℕ) → AreBytes bytes → read bytes ≡ Ok (c, rest) → (a : A) × (c ≡ make a) × Is a × (bytes ≡ spell a ++ rest)
  pub again : (a : A) (rest : List ℕ) → Is a → read (spell a ++ rest) ≡ Ok (make a, rest)
  pub short : (bytes : List ℕ) → AreBytes bytes → read bytes ≡ Err Short → Begins spell Is bytes
  pub begins : (a : A) (bytes rest : List ℕ) → Is a → 0 < length rest → spell a ≡ bytes ++ rest → read bytes ≡ Err Short

-- ---- answers of readers

abbrev pub done : {A : Type 0} → A → Result A Stop
done x = Ok x

pub done_is : {A : Type 0} (x y : A) → done x ≡ done y → x ≡ y
done_is x y e = cc

-- what a step after another answered
pub then_done : {A B : Type 0} (r : Result A Stop) (f : A → Result B Stop) (y : B) → (r >>= f) ≡ Ok y → (x : A) × (r ≡ Ok x) × (f x ≡ Ok y)
then_done (Ok x) f y e = (x, refl, e)
then_done (Err d) f y e = absurd cc

pub then_short : {A B : Type 0} (r : Result A Stop) (f : A → Result B Stop) → (r >>= f) ≡ Err Short → (r ≡ Err Short) ⊎ ((x : A) × (r ≡ Ok x) × (f x ≡ Err Short))
then_short (Ok x) f e = inr (x, refl, e)
then_short (Err Short) f e = inl refl
then_short (Err Bad) f e = absurd cc

-- which way a test went
pub chosen : {A : Type 0} (b : Bool) (x y z : A) → cond b x y ≡ z → ((b ≡ true) × (x ≡ z)) ⊎ ((b ≡ false) × (y ≡ z))
chosen true x y z e = inl (refl, e)
chosen false x y z e = inr (refl, e)

-- ---- one reader after another

pub Reads-then : {A B C : Type 0} (p : List ℕ → Result (A × List ℕ) Stop) (S : A → List ℕ) (V : A → Type 0)
    (q : A → List ℕ → Result (C × List ℕ) Stop) (make : A × B → C) (T : A → B → List ℕ) (W : A → B → Type 0)
    → Field p S V → ((a : A) → V a → Reads (q a) (λ b. make (a, b)) (T a) (W a)) → ((a : A) → V a → (b : B) × W a b)
    → Reads (λ bytes. p bytes >>= λ x. q x.0 x.1) make (λ ab. S ab.0 ++ T ab.0 ab.1) (λ ab. V ab.0 × W ab.0 ab.1)
Reads-then {A} {B} {C} p S V q make T W first second some = record {
  found = λ bytes c rest fits e.
      let x = then_done (p bytes) (λ x. q x.0 x.1) (c, rest) e in
      let one = first.found bytes x.0.0 x.0.1 fits x.1 in
      let rest_fits : AreBytes x.0.1 = AreBytes-right (S x.0.0) x.0.1 (subst AreBytes one.1 fits) in
      let two = (second x.0.0 one.0).found x.0.1 c rest rest_fits x.2 in
      ((x.0.0, two.0), two.1, (one.0, two.2), one.1 ∙ ap (λ (t : List ℕ). S x.0.0 ++ t) two.3 ∙ sym (append_assoc (S x.0.0) (T x.0.0 two.0) rest));
  again = λ ab rest is.
      let regrouped : (S ab.0 ++ T ab.0 ab.1) ++ rest ≡ S ab.0 ++ (T ab.0 ab.1 ++ rest) = append_assoc (S ab.0) (T ab.0 ab.1) rest in
      let one : p ((S ab.0 ++ T ab.0 ab.1) ++ rest) ≡ Ok (ab.0, T ab.0 ab.1 ++ rest) = ap p regrouped ∙ first.again ab.0 (T ab.0 ab.1 ++ rest) is.0 in
      ap (λ (r : Result (A × List ℕ) Stop). r >>= λ x. q x.0 x.1) one ∙ (second ab.0 is.0).again ab.1 rest is.1;
  short = λ bytes fits e.
      elim (then_short (p bytes) (λ x. q x.0 x.1) e) [
        | inl h ↦
            let one = first.short bytes fits h in
            let b = some one.0 one.2 in
            ((one.0, b.0), one.1 ++ T one.0 b.0, (one.2, b.1), omega (arith, one.3, length-append one.1 (T one.0 b.0)), ap (λ (t : List ℕ). t ++ T one.0 b.0) one.4 ∙ append_assoc bytes one.1 (T one.0 b.0))
        | inr (x, h, k) ↦
            let one = first.found bytes x.0 x.1 fits h in
            let rest_fits : AreBytes x.1 = AreBytes-right (S x.0) x.1 (subst AreBytes one.1 fits) in
            let two = (second x.0 one.0).short x.1 rest_fits k in
            ((x.0, two.0), two.1, (one.0, two.2), two.3, ap (λ (t : List ℕ). S x.0 ++ t) two.4 ∙ sym (append_assoc (S x.0) x.1 two.1) ∙ ap (λ (t : List ℕ). t ++ two.1) (sym one.1))
      ];
  begins = λ ab bytes rest is more e.
      elim (two_cuts (S ab.0) (T ab.0 ab.1) bytes rest e) [
        | inl (r, cut, l) ↦
            let one : p bytes ≡ Err Short = first.begins ab.0 bytes r is.0 l cut in
            ap (λ (r : Result (A × List ℕ) Stop). r >>= λ x. q x.0 x.1) one
        | inr (r, cut, d) ↦
            let one : p bytes ≡ Ok (ab.0, r) = ap p cut ∙ first.again ab.0 r is.0 in
            ap (λ (r : Result (A × List ℕ) Stop). r >>= λ x. q x.0 x.1) one ∙ (second ab.0 is.0).begins ab.1 r rest is.1 more d
      ];
}

-- the last field, and what is made of all
pub Reads-last : {A C : Type 0} (p : List ℕ → Result (A × List ℕ) Stop) (S : A → List ℕ) (V : A → Type 0) (make : A → C)
    → Field p S V → Reads (λ bytes. p bytes >>= λ x. Ok (make x.0, x.1)) make S V
Reads-last {A} {C} p S V make first = record {
  found = λ bytes c rest fits e.
      let x = then_done (p bytes) (λ x. Ok (make x.0, x.1)) (c, rest) e in
      let one = first.found bytes x.0.0 x.0.1 fits x.1 in
      let made = done_is (make x.0.0, x.0.1) (c, rest) x.2 in
      (x.0.0, sym (ap (λ (y : C × List ℕ). y.0) made), one.0, one.1 ∙ ap (λ (y : C × List ℕ). S x.0.0 ++ y.1) made);
  again = λ a rest is. ap (λ (r : Result (A × List ℕ) Stop). r >>= λ x. Ok (make x.0, x.1)) (first.again a rest is);
  short = λ bytes fits e.
      elim (then_short (p bytes) (λ x. Ok (make x.0, x.1)) e) [
        | inl h ↦ first.short bytes fits h
        | inr (x, h, k) ↦ absurd (let bad : done (make x.0, x.1) ≡ Err Short = k in cc)
      ];
  begins = λ a bytes rest is more e. ap (λ (r : Result (A × List ℕ) Stop). r >>= λ x. Ok (make x.0, x.1)) (first.begins a bytes rest is more e);
}

-- the value that is made says what its fields are
pub Reads-field : {A C : Type 0} (read : List ℕ → Result (C × List ℕ) Stop) (make : A → C) (S : A → List ℕ) (V : A → Type 0) (spell : C → List ℕ) (Is : C → Type 0)
    → Reads read make S V → ((a : A) → V a → Is (make a) × (spell (make a) ≡ S a)) → ((c : C) → Is c → (a : A) × V a × (make a ≡ c)) → Field read spell Is
Reads-field {A} {C} read make S V spell Is reads to from = record {
  found = λ bytes c rest fits e.
      let x = reads.found bytes c rest fits e in
      let is = to x.0 x.2 in
      let P : C → Type 0 = λ d. Is d × (bytes ≡ spell d ++ rest) in
      subst P (sym x.1) (is.0, x.3 ∙ ap (λ (t : List ℕ). t ++ rest) (sym is.1));
  again = λ c rest is.
      let x = from c is in
      let spelled : spell c ≡ S x.0 = ap spell (sym x.2) ∙ (to x.0 x.1).1 in
      ap (λ (t : List ℕ). read (t ++ rest)) spelled ∙ reads.again x.0 rest x.1 ∙ ap (λ (d : C). done (d, rest)) x.2;
  short = λ bytes fits e.
      let x = reads.short bytes fits e in
      let is = to x.0 x.2 in
      (make x.0, x.1, is.0, x.3, is.1 ∙ x.4);
  begins = λ c bytes rest is more e.
      let x = from c is in
      let spelled : spell c ≡ S x.0 = ap spell (sym x.2) ∙ (to x.0 x.1).1 in
      reads.begins x.0 bytes rest x.1 more (sym spelled ∙ e);
}

pub Field-reads : {A : Type 0} {p : List ℕ → Result (A × List ℕ) Stop} {S : A → List ℕ} {V : A → Type 0} → Field p S V → Reads p (λ a. a) S V
Field-reads f = record {
  found = λ bytes a rest fits e. let x = f.found bytes a rest fits e in (a, refl, x.0, x.1);
  again = f.again;
  short = f.short;
  begins = f.begins;
}

-- ---- single fields

-- a spelling of a number that is cut short
pub cut_length : (size : ℕ) (xs bytes rest : List ℕ) → length xs ≡ size → 0 < length rest → xs ≡ bytes ++ rest → length bytes < size
cut_length size xs bytes rest l more e = omega (arith, length-append bytes rest, ap length e)

pub AreBytes-append : (xs ys : List ℕ) → AreBytes xs → AreBytes ys → AreBytes (xs ++ ys)
AreBytes-append [] ys f g i = g i
AreBytes-append (x ∷ xs) ys f g zero = f zero
AreBytes-append (x ∷ xs) ys f g (suc i) = AreBytes-append xs ys (λ j. f (suc j)) g i

AreBytes-copies : (n b : ℕ) → b < 256 → AreBytes (replicate n b)
AreBytes-copies zero b h i = omega arith
AreBytes-copies (suc n) b h zero = h
AreBytes-copies (suc n) b h (suc i) = AreBytes-copies n b h i

pub AreBytes-zeros : (n : ℕ) → AreBytes (replicate n 0)
AreBytes-zeros n = AreBytes-copies n 0 (omega arith)

pub Field-bytes : (size : ℕ) → Field (bytes_at size) (λ xs. xs) (λ xs. (length xs ≡ size) × AreBytes xs)
unfolding bytes_at
Field-bytes size = record {
  found = λ bytes a rest fits e.
      elim (chosen (ltb (length bytes) size) (Err Short) (done (take size bytes, drop size bytes)) (Ok (a, rest)) e) [
        | inl (t, h) ↦ absurd cc
        | inr (t, h) ↦
            let long : size ≤ length bytes = ltb-false _ _ t in
            let parts = done_is (take size bytes, drop size bytes) (a, rest) h in
            let P : List ℕ × List ℕ → Type 0 = λ x. ((length x.0 ≡ size) × AreBytes x.0) × (bytes ≡ x.0 ++ x.1) in
            subst P parts ((omega (arith, length-take size bytes), AreBytes-take size bytes fits), sym (take-append-drop size bytes))
      ];
  again = λ a rest is.
      let long : ltb (length (a ++ rest)) size ≡ false = le-ltb _ _ (omega (arith, length-append a rest, is.0)) in
      rw (long, take_at a rest size is.0, drop_at a rest size is.0) refl;
  short = λ bytes fits e.
      elim (chosen (ltb (length bytes) size) (Err Short) (done (take size bytes, drop size bytes)) (Err Short) e) [
        | inl (t, h) ↦
            let few : length bytes < size = ltb-true _ _ t in
            let rest : List ℕ = replicate (size - length bytes) 0 in
            let more : length rest ≡ size - length bytes = length-replicate (size - length bytes) 0 in
            (bytes ++ rest, rest, (omega (arith, length-append bytes rest, more), AreBytes-append bytes rest fits (AreBytes-zeros (size - length bytes))), omega (arith, more), refl)
        | inr (t, h) ↦ absurd cc
      ];
  begins = λ a bytes rest is more e.
      let few : ltb (length bytes) size ≡ true = lt-ltb _ _ (cut_length size a bytes rest is.0 more e) in
      rw few refl;
}

-- a number is above 0 where one of its bytes is
byte_positive : (size : ℕ) (xs : List ℕ) (i : ℕ) → i < size → 0 < get_or xs i 0 → 0 < big_from 0 size xs
byte_positive zero xs i h p = absurd (omega arith)
byte_positive (suc size) [] i h p = absurd (omega arith)
byte_positive (suc size) (x ∷ xs) zero h p =
    let unit : 1 ≤ 256 ^ size = one-le-pow size 256 (omega arith) in
    let top : 1 * 256 ^ size ≤ x * 256 ^ size = mul-le-mul_right (256 ^ size) (let q : 1 ≤ x = omega arith in q) in
    omega (arith, top, unit)
byte_positive (suc size) (x ∷ xs) (suc i) h p =
    let rest : 0 < big_from 0 size xs = byte_positive size xs i (omega arith) p in
    omega (arith, rest, big_from-cons 0 size x xs)

filled_byte : (xs : List ℕ) (n : ℕ) → 0 < n → get_or (xs ++ replicate n 255) (length xs) 0 ≡ 255
filled_byte [] zero h = absurd (omega arith)
filled_byte [] (suc n) h = refl
filled_byte (x ∷ xs) n h = filled_byte xs n h

-- a beginning of a number, and the greatest number that begins so
filled : (size : ℕ) (bytes : List ℕ) → AreBytes bytes → length bytes < size
    → (n : ℕ) × (rest : List ℕ) × ((0 < n) × (n < 256 ^ size)) × (0 < length rest) × (number size n ≡ bytes ++ rest)
filled size bytes fits few =
    let rest : List ℕ = replicate (size - length bytes) 255 in
    let more : length rest ≡ size - length bytes = length-replicate (size - length bytes) 255 in
    let all : List ℕ = bytes ++ rest in
    let all_fit : AreBytes all = AreBytes-append bytes rest fits (AreBytes-copies (size - length bytes) 255 (omega arith)) in
    let l : length all ≡ size = omega (arith, length-append bytes rest, more) in
    let n : ℕ = big_number size all in
    let written : number size n ≡ all = number_written size all all_fit (omega (arith, l)) ∙ take_all size all (omega (arith, l)) in
    (n, rest, (byte_positive size all (length bytes) few (rw (filled_byte bytes (size - length bytes) (omega arith)) (omega arith)), big_from-lt 0 size all all_fit), omega (arith, more), written)

pub Field-number : (size : ℕ) → 0 < size → Field (number_at size) (number size) (λ n. n < 256 ^ size)
unfolding number_at
Field-number size pos = record {
  found = λ bytes a rest fits e.
      elim (chosen (ltb (length bytes) size) (Err Short) (done (big_number size bytes, drop size bytes)) (Ok (a, rest)) e) [
        | inl (t, h) ↦ absurd cc
        | inr (t, h) ↦
            let long : size ≤ length bytes = ltb-false _ _ t in
            let parts = done_is (big_number size bytes, drop size bytes) (a, rest) h in
            let P : ℕ × List ℕ → Type 0 = λ x. (x.0 < 256 ^ size) × (bytes ≡ number size x.0 ++ x.1) in
            subst P parts (big_from-lt 0 size bytes fits, sym (ap (λ (t : List ℕ). t ++ drop size bytes) (number_written size bytes fits long) ∙ take-append-drop size bytes))
      ];
  again = λ a rest is.
      let l = length-number size a in
      let long : ltb (length (number size a ++ rest)) size ≡ false = le-ltb _ _ (omega (arith, length-append (number size a) rest, l)) in
      rw (long, number_read size a rest is, drop_at (number size a) rest size l) refl;
  short = λ bytes fits e.
      elim (chosen (ltb (length bytes) size) (Err Short) (done (big_number size bytes, drop size bytes)) (Err Short) e) [
        | inl (t, h) ↦
            let f = filled size bytes fits (ltb-true _ _ t) in
            (f.0, f.1, f.2.1, f.3, f.4)
        | inr (t, h) ↦ absurd cc
      ];
  begins = λ a bytes rest is more e.
      let few : ltb (length bytes) size ≡ true = lt-ltb _ _ (cut_length size (number size a) bytes rest (length-number size a) more e) in
      rw few refl;
}

short_positive : (size : ℕ) (bytes : List ℕ) → AreBytes bytes → number_at size bytes ≡ Err Short → Begins (number size) (λ n. (0 < n) × (n < 256 ^ size)) bytes
unfolding number_at
short_positive size bytes fits e =
    elim (chosen (ltb (length bytes) size) (Err Short) (done (big_number size bytes, drop size bytes)) (Err Short) e) [
      | inl (t, h) ↦ filled size bytes fits (ltb-true _ _ t)
      | inr (t, h) ↦ absurd cc
    ]

pub Field-positive : (size : ℕ) → 0 < size → Field (positive_at size) (number size) (λ n. (0 < n) × (n < 256 ^ size))
unfolding positive_at
Field-positive size pos =
    let plain = Field-number size pos in
    let step : ℕ × List ℕ → Result (ℕ × List ℕ) Stop = λ n. cond (eqb n.0 0) (Err Bad) (Ok n) in
    record {
      found = λ bytes a rest fits e.
          let x = then_done (number_at size bytes) step (a, rest) e in
          elim (chosen (eqb x.0.0 0) (Err Bad) (done x.0) (Ok (a, rest)) x.2) [
            | inl (t, h) ↦ absurd cc
            | inr (t, h) ↦
                let is = plain.found bytes x.0.0 x.0.1 fits x.1 in
                let P : ℕ × List ℕ → Type 0 = λ y. ((0 < y.0) × (y.0 < 256 ^ size)) × (bytes ≡ number size y.0 ++ y.1) in
                subst P (done_is x.0 (a, rest) h) ((is_positive x.0.0 t, is.0), is.1)
          ];
      again = λ a rest is.
          let one : number_at size (number size a ++ rest) ≡ Ok (a, rest) = plain.again a rest is.1 in
          let test : eqb a 0 ≡ false = not_nought a is.0 in
          ap (λ (r : Result (ℕ × List ℕ) Stop). r >>= step) one ∙ rw test refl;
      short = λ bytes fits e.
          elim (then_short (number_at size bytes) step e) [
            | inl h ↦ short_positive size bytes fits h
            | inr (x, h, k) ↦ elim (chosen (eqb x.0 0) (Err Bad) (done x) (Err Short) k) [ inl (t, h) ↦ absurd cc | inr (t, h) ↦ absurd cc ]
          ];
      begins = λ a bytes rest is more e. ap (λ (r : Result (ℕ × List ℕ) Stop). r >>= step) (plain.begins a bytes rest is.1 more e);
    }

pub within : (low high b : ℕ) → (low ≤ b) × (b ≤ high) → (leb low b && leb b high) ≡ true
within low high b is = grind (arith, nat_tests)

pub within_is : (low high b : ℕ) → (leb low b && leb b high) ≡ true → (low ≤ b) × (b ≤ high)
within_is low high b e = grind (arith, nat_tests)

byte_found : (low high : ℕ) (bytes : List ℕ) (a : ℕ) (rest : List ℕ) → AreBytes bytes → byte_between low high bytes ≡ Ok (a, rest) → ((low ≤ a) × (a ≤ high)) × (bytes ≡ (a ∷ []) ++ rest)
unfolding byte_between
byte_found low high [] a rest fits e = absurd cc
byte_found low high (b ∷ bs) a rest fits e =
    elim (chosen (leb low b && leb b high) (done (b, bs)) (Err Bad) (Ok (a, rest)) e) [
      | inl (t, h) ↦
          let P : ℕ × List ℕ → Type 0 = λ x. ((low ≤ x.0) × (x.0 ≤ high)) × (b ∷ bs ≡ (x.0 ∷ []) ++ x.1) in
          subst P (done_is (b, bs) (a, rest) h) (within_is low high b t, refl)
      | inr (t, h) ↦ absurd cc
    ]

byte_short : (low high : ℕ) → low ≤ high → (bytes : List ℕ) → AreBytes bytes → byte_between low high bytes ≡ Err Short → Begins (λ b. b ∷ []) (λ b. (low ≤ b) × (b ≤ high)) bytes
unfolding byte_between
byte_short low high some [] fits e = (low, low ∷ [], (omega arith, some), omega arith, refl)
byte_short low high some (b ∷ bs) fits e =
    elim (chosen (leb low b && leb b high) (done (b, bs)) (Err Bad) (Err Short) e) [ inl (t, h) ↦ absurd cc | inr (t, h) ↦ absurd cc ]

byte_begins : (low high : ℕ) (a : ℕ) (bytes rest : List ℕ) → (low ≤ a) × (a ≤ high) → 0 < length rest → a ∷ [] ≡ bytes ++ rest → byte_between low high bytes ≡ Err Short
unfolding byte_between
byte_begins low high a [] rest is more e = refl
byte_begins low high a (b ∷ bs) rest is more e = absurd (omega (arith, ap length e, length-append bs rest))

pub Field-byte : (low high : ℕ) → low ≤ high → high < 256 → Field (byte_between low high) (λ b. b ∷ []) (λ b. (low ≤ b) × (b ≤ high))
unfolding byte_between
Field-byte low high some small = record {
  found = byte_found low high;
  again = λ a rest is. ap (λ (t : Bool). cond t (done (a, rest)) (Err Bad)) (within low high a is);
  short = byte_short low high some;
  begins = byte_begins low high;
}

-- ---- readers that do not depend on one another

abbrev pub also : {A B : Type 0} → (A → List ℕ) → (B → List ℕ) → A × B → List ℕ
also S T ab = S ab.0 ++ T ab.1

abbrev pub both : {A B : Type 0} → (A → Type 0) → (B → Type 0) → A × B → Type 0
both V W ab = V ab.0 × W ab.1

abbrev pub Some-of : {A : Type 0} → (A → Type 0) → Type 0
Some-of {A} V = (a : A) × V a

pub pair : {A B : Type 0} {V : A → Type 0} {W : B → Type 0} → Some-of V → Some-of W → Some-of (both V W)
pair x y = ((x.0, y.0), (x.1, y.1))

pub Reads-and : {A B C : Type 0} {p : List ℕ → Result (A × List ℕ) Stop} {S : A → List ℕ} {V : A → Type 0} {make : A × B → C}
    (k : A × List ℕ → Result (C × List ℕ) Stop) (T : B → List ℕ) (W : B → Type 0) → Field p S V → Some-of W → ((a : A) → Reads (λ rest. k (a, rest)) (λ b. make (a, b)) T W)
    → Reads (λ bytes. p bytes >>= k) make (also S T) (both V W)
Reads-and {p = p} {S = S} {V = V} {make = make} k T W first some second =
    Reads-then p S V (λ a rest. k (a, rest)) make (λ _. T) (λ _. W) first (λ a _. second a) (λ _ _. some)
