-- What the reader of deeds answers is the deed that the bytes are.
use Rattle.std.proofs.Common.{◌≡◌, ℕ, ◌+◌, ◌<◌, ◌≤◌, Bool, true, false, cond, ltb, leb, eqb, not, ◌&&◌, List, [], ◌∷◌, length, drop, Option, Some, None, Result, Ok, Err, refl, sym, ap, subst, ◌∙◌, inl, inr, arith}
use Rattle.std.proofs.lemmas.Bool.{eqb-true, leb-true, le-leb, ltb-false, le-ltb}
use Rattle.std.proofs.lemmas.Bool.Decides.{nat_tests}
use Rattle.std.proofs.lemmas.List.{length-drop, drop-drop}
use Rattle.byteorder.specs.Endian.{big_number}
use Rattle.rq_model.specs.declared.record.Deed.{Deed}
use Rattle.rq_model.specs.declared.record.Deed.TheVariants.{Append, UnlinkHead, Close, Mark}
use Rattle.rq_model.specs.Deeds.{deed_in, append_in, unlink_head_in, close_in, mark_fields, mark_in}
use Rattle.rq_record.specs.declared.reading.Stop.{Stop}
use Rattle.rq_record.specs.declared.reading.Stop.TheVariants.{Short, Bad}
use Rattle.rq_record.specs.Reading.{◌>>=◌, number_at, positive_at}
use Rattle.rq_record.specs.DeedReading.{append_at, unlink_head_at, close_at, mark_at, deed_at, tag_deed_at, deed_of}
use Rattle.rq_record.proofs.Readers.{done, done_is, then_done, chosen, not_nought, is_positive}

-- ---- numbers, where there are bytes enough

abbrev number_and_rest : ℕ → List ℕ → ℕ × List ℕ
number_and_rest size bytes = (big_number size bytes, drop size bytes)

number_able : (size : ℕ) (bytes : List ℕ) → size ≤ length bytes → number_at size bytes ≡ done (number_and_rest size bytes)
unfolding number_at
number_able size bytes long = let test : ltb (length bytes) size ≡ false = le-ltb _ _ long in rw test refl

number_only : (size : ℕ) (bytes : List ℕ) (x : ℕ × List ℕ) → number_at size bytes ≡ Ok x → (size ≤ length bytes) × (x ≡ number_and_rest size bytes)
unfolding number_at
number_only size bytes x e =
    elim (chosen (ltb (length bytes) size) (Err Short) (done (number_and_rest size bytes)) (Ok x) e) [
      | inl (t, h) ↦ absurd cc
      | inr (t, h) ↦ (ltb-false _ _ t, sym (done_is (number_and_rest size bytes) x h))
    ]

positive_able : (size : ℕ) (bytes : List ℕ) → size ≤ length bytes → 0 < big_number size bytes → positive_at size bytes ≡ done (number_and_rest size bytes)
unfolding positive_at
positive_able size bytes long positive =
    let step : ℕ × List ℕ → Result (ℕ × List ℕ) Stop = λ n. cond (eqb n.0 0) (Err Bad) (Ok n) in
    let test : eqb (big_number size bytes) 0 ≡ false = not_nought (big_number size bytes) positive in
    ap (λ (r : Result (ℕ × List ℕ) Stop). r >>= step) (number_able size bytes long) ∙ ap (λ (t : Bool). cond t (Err Bad) (done (number_and_rest size bytes))) test

positive_only : (size : ℕ) (bytes : List ℕ) (x : ℕ × List ℕ) → positive_at size bytes ≡ Ok x → (size ≤ length bytes) × (0 < big_number size bytes) × (x ≡ number_and_rest size bytes)
unfolding positive_at
positive_only size bytes x e =
    let step : ℕ × List ℕ → Result (ℕ × List ℕ) Stop = λ n. cond (eqb n.0 0) (Err Bad) (Ok n) in
    let y = then_done (number_at size bytes) step x e in
    let number = number_only size bytes y.0 y.1 in
    elim (chosen (eqb y.0.0 0) (Err Bad) (done y.0) (Ok x) y.2) [
      | inl (t, h) ↦ absurd cc
      | inr (t, h) ↦ (number.0, subst (λ (z : ℕ × List ℕ). 0 < z.0) number.1 (is_positive y.0.0 t), sym (done_is y.0 x h) ∙ number.1)
    ]

-- ---- one after the other

-- a reader that gives this value of all bytes of which this holds, and stops at all others
record Partly {C : Type 0} (read : List ℕ → Result C Stop) (Can : List ℕ → Type 0) (value : List ℕ → C) : Type 0 where
  able : (bytes : List ℕ) → Can bytes → read bytes ≡ Ok (value bytes)
  only : (bytes : List ℕ) (c : C) → read bytes ≡ Ok c → Can bytes

Partly-and : {A C : Type 0} {p : List ℕ → Result (A × List ℕ) Stop} {Can : List ℕ → Type 0} {value : List ℕ → A × List ℕ}
    (k : A × List ℕ → Result C Stop) (Rest : List ℕ → Type 0) (made : A × List ℕ → C) → Partly p Can value
    → ((a : A) → Partly (λ rest. k (a, rest)) Rest (λ rest. made (a, rest)))
    → Partly (λ bytes. p bytes >>= k) (λ bytes. Can bytes × Rest (value bytes).1) (λ bytes. made (value bytes))
Partly-and {A} {C} {p = p} {Can = Can} {value = value} k Rest made first second = record {
  able = λ bytes can. ap (λ (r : Result (A × List ℕ) Stop). r >>= k) (first.able bytes can.0) ∙ (second (value bytes).0).able (value bytes).1 can.1;
  only = λ bytes c e.
      let x = then_done (p bytes) k c e in
      let can = first.only bytes x.0 x.1 in
      let same : x.0 ≡ value bytes = done_is x.0 (value bytes) (sym x.1 ∙ first.able bytes can) in
      (can, subst (λ (y : A × List ℕ). Rest y.1) same ((second x.0.0).only x.0.1 c x.2));
}

abbrev Has : ℕ → List ℕ → Type 0
Has size bytes = size ≤ length bytes

abbrev HasPositive : ℕ → List ℕ → Type 0
HasPositive size bytes = (size ≤ length bytes) × (0 < big_number size bytes)

Partly-number : (size : ℕ) → Partly (number_at size) (Has size) (number_and_rest size)
Partly-number size = record { able = number_able size; only = λ bytes x e. (number_only size bytes x e).0 }

Partly-positive : (size : ℕ) → Partly (positive_at size) (HasPositive size) (number_and_rest size)
Partly-positive size = record {
  able = λ bytes can. positive_able size bytes can.0 can.1;
  only = λ bytes x e. let is = positive_only size bytes x e in (is.0, is.1);
}

Partly-body : {C : Type 0} (make : List ℕ → C) → Partly (λ rest. cond (leb (length rest) 216) (Ok (make rest)) (Err Bad)) (λ rest. length rest ≤ 216) make
Partly-body {C} make = record {
  able = λ bytes can. ap (λ (t : Bool). cond t (done (make bytes)) (Err Bad)) (le-leb _ _ can);
  only = λ bytes c e.
      elim (chosen (leb (length bytes) 216) (done (make bytes)) (Err Bad) (Ok c) e) [
        | inl (t, h) ↦ leb-true _ _ t
        | inr (t, h) ↦ absurd cc
      ];
}

Partly-end : {C : Type 0} (c : C) → Partly (λ rest. cond (eqb (length rest) 0) (Ok c) (Err Bad)) (λ rest. length rest ≡ 0) (λ rest. c)
Partly-end {C} c = record {
  able = λ bytes can. ap (λ (n : ℕ). cond (eqb n 0) (done c) (Err Bad)) can;
  only = λ bytes d e.
      elim (chosen (eqb (length bytes) 0) (done c) (Err Bad) (Ok d) e) [
        | inl (t, h) ↦ eqb-true _ _ t
        | inr (t, h) ↦ absurd cc
      ];
}

-- ---- the kinds

abbrev IsShort : List ℕ → Type 0
IsShort rest = length rest ≤ 216

abbrev after : ℕ → (List ℕ → Type 0) → List ℕ → Type 0
after size P bytes = Has size bytes × P (drop size bytes)

abbrev after_positive : ℕ → (List ℕ → Type 0) → List ℕ → Type 0
after_positive size P bytes = HasPositive size bytes × P (drop size bytes)

Partly-append : Partly append_at (after 4 (after_positive 8 (after 8 (after 8 IsShort)))) (λ bytes. Append (big_number 4 bytes) (big_number 8 (drop 4 bytes)) (big_number 8 (drop 8 (drop 4 bytes))) (big_number 8 (drop 8 (drop 8 (drop 4 bytes)))) (drop 8 (drop 8 (drop 8 (drop 4 bytes)))))
unfolding append_at
Partly-append =
    Partly-and _ (after_positive 8 (after 8 (after 8 IsShort))) (λ x. Append x.0 (big_number 8 x.1) (big_number 8 (drop 8 x.1)) (big_number 8 (drop 8 (drop 8 x.1))) (drop 8 (drop 8 (drop 8 x.1)))) (Partly-number 4)
    (λ sender. Partly-and _ (after 8 (after 8 IsShort)) (λ x. Append sender x.0 (big_number 8 x.1) (big_number 8 (drop 8 x.1)) (drop 8 (drop 8 x.1))) (Partly-positive 8)
    (λ sequence. Partly-and _ (after 8 IsShort) (λ x. Append sender sequence x.0 (big_number 8 x.1) (drop 8 x.1)) (Partly-number 8)
    (λ tag. Partly-and _ IsShort (λ x. Append sender sequence tag x.0 x.1) (Partly-number 8)
    (λ previous. Partly-body (λ body. Append sender sequence tag previous body)))))

Partly-unlink_head : Partly unlink_head_at (after 4 (after_positive 8 (after 8 IsShort))) (λ bytes. UnlinkHead (big_number 4 bytes) (big_number 8 (drop 4 bytes)) (big_number 8 (drop 8 (drop 4 bytes))) (drop 8 (drop 8 (drop 4 bytes))))
unfolding unlink_head_at
Partly-unlink_head =
    Partly-and _ (after_positive 8 (after 8 IsShort)) (λ x. UnlinkHead x.0 (big_number 8 x.1) (big_number 8 (drop 8 x.1)) (drop 8 (drop 8 x.1))) (Partly-number 4)
    (λ sender. Partly-and _ (after 8 IsShort) (λ x. UnlinkHead sender x.0 (big_number 8 x.1) (drop 8 x.1)) (Partly-positive 8)
    (λ sequence. Partly-and _ IsShort (λ x. UnlinkHead sender sequence x.0 x.1) (Partly-number 8)
    (λ tag. Partly-body (λ body. UnlinkHead sender sequence tag body))))

Partly-close : Partly close_at (after 4 (λ rest. length rest ≡ 0)) (λ bytes. Close (big_number 4 bytes))
unfolding close_at
Partly-close = Partly-and _ (λ rest. length rest ≡ 0) (λ x. Close x.0) (Partly-number 4) (λ sender. Partly-end (Close sender))

Partly-mark : Partly mark_at (after 4 (after 8 (after 8 (λ rest. length rest ≡ 0)))) (λ bytes. Mark (big_number 4 bytes) (big_number 8 (drop 4 bytes)) (big_number 8 (drop 8 (drop 4 bytes))))
unfolding mark_at
Partly-mark =
    Partly-and _ (after 8 (after 8 (λ rest. length rest ≡ 0))) (λ x. Mark x.0 (big_number 8 x.1) (big_number 8 (drop 8 x.1))) (Partly-number 4)
    (λ client. Partly-and _ (after 8 (λ rest. length rest ≡ 0)) (λ x. Mark client x.0 (big_number 8 x.1)) (Partly-number 8)
    (λ tag. Partly-and _ (λ rest. length rest ≡ 0) (λ x. Mark client tag x.0) (Partly-number 8)
    (λ previous. Partly-end (Mark client tag previous))))

-- ---- the deed that the bytes are

-- what is read where a test is passed, and only there
read_where : (test : Bool) (r : Result Deed Stop) (d : Deed) → (test ≡ true → r ≡ Ok d) → ((e : Deed) → r ≡ Ok e → test ≡ true) → deed_of r ≡ cond test (Some d) None
read_where true r d able only = ap deed_of (able refl)
read_where false (Ok e) d able only = absurd (let h : false ≡ true = only e refl in cc)
read_where false (Err stop) d able only = refl

abbrev in_bounds : ℕ → ℕ → ℕ → Bool
in_bounds low n sequence = not (ltb n low) && not (ltb (low + 216) n) && ltb 0 sequence

bounds_true : (low n sequence : ℕ) → in_bounds low n sequence ≡ true → (low ≤ n) × (n ≤ low + 216) × (0 < sequence)
bounds_true low n sequence t = grind (arith, nat_tests)

true_bounds : (low n sequence : ℕ) → low ≤ n → n ≤ low + 216 → 0 < sequence → in_bounds low n sequence ≡ true
true_bounds low n sequence a b c = grind (arith, nat_tests)

append_is : (bytes : List ℕ) → deed_of (append_at bytes) ≡ append_in bytes
append_is bytes =
    let l4 = length-drop 4 bytes in
    let l12 = length-drop 8 (drop 4 bytes) in
    let l20 = length-drop 8 (drop 8 (drop 4 bytes)) in
    let l28 = length-drop 8 (drop 8 (drop 8 (drop 4 bytes))) in
    let sequence = big_number 8 (drop 4 bytes) in
    let test = in_bounds 28 (length bytes) sequence in
    let make : List ℕ → List ℕ → List ℕ → Deed = λ tag previous body. Append (big_number 4 bytes) sequence (big_number 8 tag) (big_number 8 previous) body in
    let d12 : drop 8 (drop 4 bytes) ≡ drop 12 bytes = drop-drop 8 4 bytes in
    let d20 : drop 8 (drop 8 (drop 4 bytes)) ≡ drop 20 bytes = ap (drop 8) d12 ∙ drop-drop 8 12 bytes in
    let d28 : drop 8 (drop 8 (drop 8 (drop 4 bytes))) ≡ drop 28 bytes = ap (drop 8) d20 ∙ drop-drop 8 20 bytes in
    let same : make (drop 8 (drop 4 bytes)) (drop 8 (drop 8 (drop 4 bytes))) (drop 8 (drop 8 (drop 8 (drop 4 bytes)))) ≡ make (drop 12 bytes) (drop 20 bytes) (drop 28 bytes) =
    ap (λ (t : List ℕ). make t (drop 8 (drop 8 (drop 4 bytes))) (drop 8 (drop 8 (drop 8 (drop 4 bytes))))) d12 ∙ ap (λ (t : List ℕ). make (drop 12 bytes) t (drop 8 (drop 8 (drop 8 (drop 4 bytes))))) d20
    ∙ ap (λ (t : List ℕ). make (drop 12 bytes) (drop 20 bytes) t) d28 in
    let read = read_where test (append_at bytes) (make (drop 8 (drop 4 bytes)) (drop 8 (drop 8 (drop 4 bytes))) (drop 8 (drop 8 (drop 8 (drop 4 bytes)))))
    (λ t. let b = bounds_true 28 (length bytes) sequence t in Partly-append.able bytes (omega arith, ((omega arith, b.2), (omega arith, (omega arith, omega arith)))))
    (λ e h. let can = Partly-append.only bytes e h in true_bounds 28 (length bytes) sequence (omega arith) (omega arith) can.1.0.1) in
    read ∙ ap (λ (d : Deed). cond test (Some d) None) same

unlink_head_is : (bytes : List ℕ) → deed_of (unlink_head_at bytes) ≡ unlink_head_in bytes
unlink_head_is bytes =
    let l4 = length-drop 4 bytes in
    let l12 = length-drop 8 (drop 4 bytes) in
    let l20 = length-drop 8 (drop 8 (drop 4 bytes)) in
    let sequence = big_number 8 (drop 4 bytes) in
    let test = in_bounds 20 (length bytes) sequence in
    let make : List ℕ → List ℕ → Deed = λ tag body. UnlinkHead (big_number 4 bytes) sequence (big_number 8 tag) body in
    let d12 : drop 8 (drop 4 bytes) ≡ drop 12 bytes = drop-drop 8 4 bytes in
    let d20 : drop 8 (drop 8 (drop 4 bytes)) ≡ drop 20 bytes = ap (drop 8) d12 ∙ drop-drop 8 12 bytes in
    let same : make (drop 8 (drop 4 bytes)) (drop 8 (drop 8 (drop 4 bytes))) ≡ make (drop 12 bytes) (drop 20 bytes) =
    ap (λ (t : List ℕ). make t (drop 8 (drop 8 (drop 4 bytes)))) d12 ∙ ap (λ (t : List ℕ). make (drop 12 bytes) t) d20 in
    let read = read_where test (unlink_head_at bytes) (make (drop 8 (drop 4 bytes)) (drop 8 (drop 8 (drop 4 bytes))))
    (λ t. let b = bounds_true 20 (length bytes) sequence t in Partly-unlink_head.able bytes (omega arith, ((omega arith, b.2), (omega arith, omega arith))))
    (λ e h. let can = Partly-unlink_head.only bytes e h in true_bounds 20 (length bytes) sequence (omega arith) (omega arith) can.1.0.1) in
    read ∙ ap (λ (d : Deed). cond test (Some d) None) same

close_is : (bytes : List ℕ) → deed_of (close_at bytes) ≡ close_in bytes
close_is bytes =
    let l = length-drop 4 bytes in
    read_where (eqb (length bytes) 4) (close_at bytes) (Close (big_number 4 bytes))
    (λ t. let n : length bytes ≡ 4 = eqb-true _ _ t in Partly-close.able bytes (omega arith, omega arith))
    (λ e h. let can = Partly-close.only bytes e h in (let n : length bytes ≡ 4 = omega arith in rw n refl))

mark_is : (bytes : List ℕ) → deed_of (mark_at bytes) ≡ mark_fields bytes
mark_is bytes =
    let l4 = length-drop 4 bytes in
    let l12 = length-drop 8 (drop 4 bytes) in
    let l20 = length-drop 8 (drop 8 (drop 4 bytes)) in
    let test = eqb (length bytes) 20 in
    let make : List ℕ → Deed = λ previous. Mark (big_number 4 bytes) (big_number 8 (drop 4 bytes)) (big_number 8 previous) in
    let read = read_where test (mark_at bytes) (make (drop 8 (drop 4 bytes)))
    (λ t. let n : length bytes ≡ 20 = eqb-true _ _ t in Partly-mark.able bytes (omega arith, (omega arith, (omega arith, omega arith))))
    (λ e h. let can = Partly-mark.only bytes e h in (let n : length bytes ≡ 20 = omega arith in rw n refl)) in
    read ∙ ap (λ (d : List ℕ). cond test (Some (make d)) None) (drop-drop 8 4 bytes)

either : (test : Bool) (x y : Result Deed Stop) (a b : Option Deed) → deed_of x ≡ a → deed_of y ≡ b → deed_of (cond test x y) ≡ cond test a b
either true x y a b e f = e
either false x y a b e f = f

-- what is read of any bytes is the deed that they are
pub read_is : (bytes : List ℕ) → deed_of (deed_at bytes) ≡ deed_in bytes
unfolding deed_at
read_is [] = refl
read_is (kind ∷ fields) =
    either (eqb kind 1) (append_at fields) _ (append_in fields) _ (append_is fields)
    (either (eqb kind 2) (unlink_head_at fields) _ (unlink_head_in fields) _ (unlink_head_is fields)
    (either (eqb kind 3) (close_at fields) (Err Bad) (close_in fields) None (close_is fields) refl))

pub mark_read_is : (bytes : List ℕ) → deed_of (tag_deed_at bytes) ≡ mark_in bytes
unfolding tag_deed_at
mark_read_is [] = refl
mark_read_is (kind ∷ fields) = either (eqb kind 1) (mark_at fields) (Err Bad) (mark_fields fields) None (mark_is fields) refl
