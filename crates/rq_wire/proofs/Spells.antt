-- What is read as a request is that request's frame, and the other way.
use Rattle.std.proofs.Common.{◌≡◌, ℕ, suc, ◌+◌, ◌-◌, ◌^◌, ◌<◌, ◌≤◌, Bool, true, false, cond, List, [], ◌∷◌, ◌++◌, length, take, drop, refl, sym, ap, ◌∙◌, subst, arith, length-append, append_assoc, inl, inr, ◌⊎◌}
use Rattle.std.specs.Prelude.{nat_lt, ◌==◌, slice_index, Option, Some, None}
use Rattle.std.proofs.lemmas.Bool.Decides.{nat_tests}
use Rattle.std.proofs.lemmas.List.{take-append-drop, length-take, length-drop, append-nil, drop-drop}
use Rattle.std.proofs.lemmas.Bool.{ltb-false, le-ltb, eqb-true}
use Rattle.std.proofs.Math.Seq.{take-append_seam, drop-append_seam}
use Rattle.byteorder.specs.Endian.{big_number}
use Rattle.rq_bytes.specs.Number.{number_at, AreBytes, number}
use Rattle.rq_wire.specs.declared.request.Request.{Request}
use Rattle.rq_wire.specs.declared.request.Request.TheVariants.{Begin, Send, Receive, ReceiveFrom, Close, Commit, Abort, LastTag, Mark, ClientTag}
use Rattle.rq_wire.specs.declared.look.Prefix.TheVariants.{Frame}
use Rattle.rq_wire.specs.Looks.{is_size, is_kind, only, whole_frame, tag_request_in, request_in, looks}
use Rattle.rq_wire.specs.Spelling.{IsRequest, frame, request_kind, request_fields, spelled}
use Rattle.rq_bytes.proofs.Strings.{AreBytes-take, AreBytes-drop, length-number, number_read, number_written, number_below}
use Rattle.rq_wire.proofs.Fronts.{picked, told, size}

-- ---- from requests to bytes

-- the bytes of a frame's head, with anything behind it
module _ (kind : ℕ) (fields rest : List ℕ) where
  abbrev whole : List ℕ
  whole = frame kind fields ++ rest

  regrouped : whole ≡ number 2 (1 + length fields) ++ ((kind ∷ fields) ++ rest)
  unfolding frame
  regrouped = append_assoc (number 2 (1 + length fields)) (kind ∷ fields) rest

  third : slice_index whole 2 ≡ kind
  unfolding frame number
  third = refl

  behind_third : drop 3 whole ≡ fields ++ rest
  unfolding frame number
  behind_third = refl

  size_told : length fields ≤ 511 → number_at 2 0 whole ≡ 1 + length fields
  size_told short = ap (big_number 2) regrouped ∙ number_read 2 (1 + length fields) ((kind ∷ fields) ++ rest) (omega
      arith)

  length-whole : length whole ≡ 3 + length fields + length rest
  length-whole =
      let e = ap (λ (l : List ℕ). length l) regrouped in
      omega (
        arith,
        e,
        length-append (number 2 (1 + length fields)) ((kind ∷ fields) ++ rest),
        length-number 2 (1 +
            length fields),
        length-append fields rest,
      )

  pub looks_frame : 0 < kind → kind < 11 → length fields ≤ 511
      → looks whole ≡ whole_frame (request_in kind fields) (2 + (1 + length fields))
  looks_frame some most short =
      let size = size_told short in
      let long = length-whole in
      let inner : take (1 + length fields - 1) (drop 3 whole) ≡ fields =
      ap (λ (n : ℕ). take n (drop 3 whole)) (omega arith) ∙ ap (take (length fields)) behind_third
      ∙ take-append_seam fields rest in
      picked (nat_lt (length whole) 2) (is_size (number_at 2 0 whole)) (nat_lt (length whole) 3) (is_kind
      (slice_index whole 2)) (nat_lt (length whole) (2 + number_at 2 0 whole))
      (whole_frame (request_in (slice_index whole 2) (take (number_at 2 0 whole - 1) (drop 3 whole))) (2 + number_at
      2 0 whole))
      (whole_frame (request_in kind fields) (2 + (1 + length fields)))
      (le-ltb (length whole) 2 (omega (arith, long)))
      (rw size (grind (arith, nat_tests)))
      (le-ltb (length whole) 3 (omega (arith, long)))
      (rw third (grind (arith, nat_tests)))
      (rw size (le-ltb (length whole) (2 + (1 + length fields)) (omega (arith, long))))
      (rw (size, third, inner) (refl {a = whole_frame (request_in kind fields) (2 + (1 + length fields))}))

four : (sender : ℕ) → (length (number 4 sender) == 4) ≡ true
four sender = rw (length-number 4 sender) refl

alone : (width n : ℕ) → n < 256 ^ width → number_at width 0 (number width n) ≡ n
alone width n is = ap (big_number width) (sym (append-nil (number width n))) ∙ number_read width n [] is

behind_sender : (s t : ℕ) (b : List ℕ) → drop 4 (number 4 s ++ (number 8 t ++ b)) ≡ number 8 t ++ b
unfolding number
behind_sender s t b = refl

behind_both : (s t : ℕ) (b : List ℕ) → drop 12 (number 4 s ++ (number 8 t ++ b)) ≡ b
unfolding number
behind_both s t b = refl

send_back : (s t : ℕ) (b : List ℕ) → (s < 256 ^ 4) × (t < 256 ^ 8) × (length b ≤ 499) × AreBytes b
    → request_in 2 (number 4 s ++ (number 8 t ++ b)) ≡ Some (Send s t b)
send_back s t b is =
    let all = number 4 s ++ (number 8 t ++ b) in
    let long : 12 ≤ length all = omega (
      arith,
      length-append (number 4 s) (number 8 t ++ b),
      length-append (number 8
          t) b,
      length-number 4 s,
      length-number 8 t,
    ) in
    let first : number_at 4 0 all ≡ s = number_read 4 s (number 8 t ++ b) is.0 in
    let second : number_at 8 4 all ≡ t = ap (big_number 8) (behind_sender s t b) ∙ number_read 8 t b is.1 in
    let third : drop 12 all ≡ b = behind_both s t b in
    rw (le-ltb (length all) 12 long, first, second, third) refl

behind_client : (c t : ℕ) → drop 4 (number 4 c ++ number 8 t) ≡ number 8 t
unfolding number
behind_client c t = refl

mark_back : (c t : ℕ) → (c < 256 ^ 4) × (t < 256 ^ 8) → request_in 9 (number 4 c ++ number 8 t) ≡ Some (Mark c t)
mark_back c t is =
    let all = number 4 c ++ number 8 t in
    let long : length all ≡ 12 = omega (arith, length-append (number 4 c) (number 8 t), length-number 4 c, length-number 8 t) in
    let first : number_at 4 0 all ≡ c = number_read 4 c (number 8 t) is.0 in
    let second : number_at 8 4 all ≡ t = ap (big_number 8) (behind_client c t) ∙ alone 8 t is.1 in
    rw (long, first, second) refl

-- the fields of a request are read as that request
read_back : (r : Request) → IsRequest r → request_in (request_kind r) (request_fields r) ≡ Some r
read_back (Send sender tag body) is = send_back sender tag body is
read_back (ReceiveFrom sender) is = rw (four sender, alone 4 sender is) refl
read_back (Close sender) is = rw (four sender, alone 4 sender is) refl
read_back (LastTag sender) is = rw (four sender, alone 4 sender is) refl
read_back (Mark client tag) is = mark_back client tag is
read_back (ClientTag client) is = rw (four client, alone 4 client is) refl
read_back _ is = refl

in_range : (r : Request) → (0 < request_kind r) × (request_kind r < 11)
in_range Begin = (omega arith, omega arith)
in_range _ = (omega arith, omega arith)

short_fields : (r : Request) → IsRequest r → length (request_fields r) ≤ 511
short_fields Begin is = omega arith
short_fields (Send sender tag body) is =
    omega (
      arith,
      length-append (number 4 sender) (number 8 tag ++ body),
      length-append (number 8 tag) body,
      length-number 4 sender,
      length-number 8 tag,
      is.2,
    )
short_fields Receive is = omega arith
short_fields (ReceiveFrom sender) is = omega (arith, length-number 4 sender)
short_fields (Close sender) is = omega (arith, length-number 4 sender)
short_fields Commit is = omega arith
short_fields Abort is = omega arith
short_fields (LastTag sender) is = omega (arith, length-number 4 sender)
short_fields (Mark client tag) is =
    omega (arith, length-append (number 4 client) (number 8 tag), length-number 4 client, length-number 8 tag)
short_fields (ClientTag client) is = omega (arith, length-number 4 client)

length-frame : (kind : ℕ) (fields : List ℕ) → length (frame kind fields) ≡ 2 + (1 + length fields)
unfolding frame
length-frame kind fields = omega (
  arith,
  length-append (number 2 (1 + length fields)) (kind ∷ fields),
  length-number
      2 (1 + length fields),
)

-- the frame of a request is read as that request
pub spelled_is_read : (r : Request) (rest : List ℕ) → IsRequest r
    → looks (spelled r ++ rest) ≡ Frame r (length (spelled r))
unfolding spelled
spelled_is_read r rest is =
    let range = in_range r in
    looks_frame (request_kind r) (request_fields r) rest range.0 range.1 (short_fields r is)
    ∙ ap (λ (o : Option Request). whole_frame o (2 + (1 + length (request_fields r)))) (read_back r is)
    ∙ ap (Frame r) (sym (length-frame (request_kind r) (request_fields r)))

-- no frame begins another
pub apart : (kind other : ℕ) (fields others x y : List ℕ) → length fields ≤ 511 → length others ≤ 511
    → frame kind fields ++ x ≡ frame other others ++ y → (kind ≡ other) × (fields ≡ others) × (x ≡ y)
apart kind other fields others x y short shorts e =
    let sizes : 1 + length fields ≡ 1 + length others = sym (size_told kind fields x short) ∙ ap (number_at 2 0) e
    ∙ size_told other others y shorts in
    let same : length fields ≡ length others = omega (arith, sizes) in
    let behinds : fields ++ x ≡ others ++ y = sym (behind_third kind fields x) ∙ ap (drop 3) e
    ∙ behind_third other others y in (
      sym (third kind fields x) ∙ ap (λ (l : List ℕ). slice_index l 2) e ∙ third other others y,
      sym (take-append_seam fields x) ∙ ap (λ (n : ℕ). take n (fields ++ x)) same ∙ ap (take (length others)) behinds
          ∙ take-append_seam others y,
      sym (drop-append_seam fields x) ∙ ap (λ (n : ℕ). drop n (fields ++ x)) same ∙ ap (drop (length others)) behinds
          ∙ drop-append_seam others y,
    )

-- ---- from bytes to requests

three_more : (m : ℕ) → 3 + m ≡ suc (suc (suc m))
three_more m = omega arith

-- these are the kind and the fields of a request
record Spells (kind : ℕ) (fields : List ℕ) (r : Request) : Type 0 where
  of_kind : kind ≡ request_kind r
  of_fields : fields ≡ request_fields r
  good : IsRequest r

chosen : {A : Type 0} (b : Bool) (x y z : A) → cond b x y ≡ z → ((b ≡ true) × (x ≡ z)) ⊎ ((b ≡ false) × (y ≡ z))
chosen true x y z e = inl (refl, e)
chosen false x y z e = inr (refl, e)

some_is : (q r : Request) → Some q ≡ Some r → q ≡ r
some_is q r e = cc

no_fields : (fields : List ℕ) → (length fields == 0) ≡ true → fields ≡ []
no_fields [] e = refl
no_fields (x ∷ xs) e = absurd (omega (arith, eqb-true (length (x ∷ xs)) 0 e))

take_whole : (n : ℕ) (xs : List ℕ) → length xs ≡ n → take n xs ≡ xs
take_whole n xs h = ap (λ (k : ℕ). take k xs) (sym h) ∙ ap (take (length xs)) (sym (append-nil xs)) ∙ take-append_seam xs []

-- a request that says no more than its kind
plain : (kind n : ℕ) (fields : List ℕ) (q r : Request) → (kind == n) ≡ true → only (length fields == 0) q ≡ Some r
    → n ≡ request_kind q → request_fields q ≡ [] → IsRequest q → Spells kind fields r
plain kind n fields q r k e of none good =
    elim (chosen (length fields == 0) (Some q) None (Some r) e) [
      | inl (empty, is) ↦ subst (Spells kind fields) (some_is q r is) (record {
        of_kind = eqb-true kind n k
            ∙ of;
        of_fields = no_fields fields empty ∙ sym none;
        good = good;
      })
      | inr (not_so, is) ↦ absurd (let bad : None ≡ Some r = is in cc)
    ]

-- a request that says a sender or a client
with_sender : (kind : ℕ) (fields : List ℕ) (q : ℕ → Request) (r : Request) → AreBytes fields
    → only (length fields == 4) (q (number_at 4 0 fields)) ≡ Some r
    → kind ≡ request_kind (q (number_at 4 0 fields)) → request_fields (q (number_at 4 0 fields)) ≡ number 4
    (number_at 4 0 fields) → (number_at 4 0 fields < 256 ^ 4 → IsRequest (q (number_at 4 0 fields)))
    → Spells kind fields r
with_sender kind fields q r bytes e of says good =
    elim (chosen (length fields == 4) (Some (q (number_at 4 0 fields))) None (Some r) e) [
      | inl (long, is) ↦
          let four_long : length fields ≡ 4 = eqb-true (length fields) 4 long in
          subst (Spells kind fields) (some_is (q (number_at 4 0 fields)) r is) (record {
            of_kind = of;
            of_fields = sym (says ∙ number_written 4 fields bytes (omega (arith, four_long))
                ∙ take_whole 4 fields four_long);
            good = good (number_below 4 fields bytes);
          })
      | inr (not_so, is) ↦ absurd (let bad : None ≡ Some r = is in cc)
    ]

send_spells : (fields : List ℕ) → AreBytes fields → 12 ≤ length fields → length fields ≤ 511
    → Spells 2 fields (Send (number_at 4 0 fields) (number_at 8 4 fields) (drop 12 fields))
send_spells fields bytes least most =
    let rest = drop 4 fields in
    let rest_bytes : AreBytes rest = AreBytes-drop 4 fields bytes in
    let first : number 4 (number_at 4 0 fields) ≡ take 4 fields =
    number_written 4 fields bytes (omega (arith, least)) in
    let second : number 8 (number_at 8 4 fields) ≡ take 8 rest =
    number_written 8 rest rest_bytes (omega (arith, least, length-drop 4 fields)) in
    let third : drop 12 fields ≡ drop 8 rest = sym (drop-drop 8 4 fields) in
    let joined : number 8 (number_at 8 4 fields) ++ drop 12 fields ≡ rest =
    ap (λ (l : List ℕ). l ++ drop 12 fields) second ∙ ap (λ (l : List ℕ). take 8 rest ++ l) third
    ∙ take-append-drop 8 rest in
    record {
      of_kind = refl;
      of_fields = sym (ap (λ (l : List ℕ). l ++ (number 8 (number_at 8 4 fields) ++ drop 12 fields)) first
          ∙ ap (λ (l : List ℕ). take 4 fields ++ l) joined ∙ take-append-drop 4 fields);
      good = (
        number_below 4 fields bytes,
        number_below 8 rest rest_bytes,
        omega (
          arith,
          most,
          length-drop 12
              fields,
        ),
        AreBytes-drop 12 fields bytes,
      );
    }

send_told : (fields : List ℕ) (r : Request) → AreBytes fields → length fields ≤ 511 → request_in 2 fields ≡ Some r
    → Spells 2 fields r
send_told fields r bytes most e =
    elim (chosen (nat_lt (length fields) 12) None (Some (Send (number_at 4 0 fields) (number_at 8 4 fields) (drop 12
    fields))) (Some r) e) [
      | inl (not_so, is) ↦ absurd (let bad : None ≡ Some r = is in cc)
      | inr (long, is) ↦ subst (Spells 2 fields) (some_is _ r is) (send_spells fields bytes (ltb-false (length fields) 12
          long) most)
    ]

mark_spells : (fields : List ℕ) → AreBytes fields → length fields ≡ 12
    → Spells 9 fields (Mark (number_at 4 0 fields) (number_at 8 4 fields))
mark_spells fields bytes long =
    let rest = drop 4 fields in
    let rest_bytes : AreBytes rest = AreBytes-drop 4 fields bytes in
    let eight : length rest ≡ 8 = omega (arith, long, length-drop 4 fields) in
    let first : number 4 (number_at 4 0 fields) ≡ take 4 fields =
    number_written 4 fields bytes (omega (arith, long)) in
    let second : number 8 (number_at 8 4 fields) ≡ rest =
    number_written 8 rest rest_bytes (omega (arith, eight)) ∙ take_whole 8 rest eight in
    record {
      of_kind = refl;
      of_fields = sym (ap (λ (l : List ℕ). l ++ number 8 (number_at 8 4 fields)) first
          ∙ ap (λ (l : List ℕ). take 4 fields ++ l) second ∙ take-append-drop 4 fields);
      good = (number_below 4 fields bytes, number_below 8 rest rest_bytes);
    }

mark_told : (kind : ℕ) (fields : List ℕ) (r : Request) → AreBytes fields → (kind == 9) ≡ true
    → only (length fields == 12) (Mark (number_at 4 0 fields) (number_at 8 4 fields)) ≡ Some r → Spells kind fields r
mark_told kind fields r bytes k e =
    elim (chosen (length fields == 12) (Some (Mark (number_at 4 0 fields) (number_at 8 4 fields))) None (Some r) e) [
      | inl (long, is) ↦
          let spells = subst (Spells 9 fields) (some_is _ r is)
          (mark_spells fields bytes (eqb-true (length fields) 12 long)) in
          subst (λ (n : ℕ). Spells n fields r) (sym (eqb-true kind 9 k)) spells
      | inr (not_so, is) ↦ absurd (let bad : None ≡ Some r = is in cc)
    ]

only_ten : (kind : ℕ) → is_kind kind ≡ true → (kind == 1) ≡ false → (kind == 2) ≡ false → (kind == 3) ≡ false
    → (kind == 4) ≡ false → (kind == 5) ≡ false → (kind == 6) ≡ false → (kind == 7) ≡ false → (kind == 8) ≡ false
    → (kind == 9) ≡ false → kind ≡ 10
only_ten kind known n1 n2 n3 n4 n5 n6 n7 n8 n9 = grind (arith, nat_tests)

size_in : (n : ℕ) → is_size n ≡ true → (0 < n) × (n < 513)
size_in n e = (grind (arith, nat_tests), grind (arith, nat_tests))

whole_is : (o : Option Request) (size : ℕ) (r : Request) (n : ℕ) → whole_frame o size ≡ Frame r n
    → (o ≡ Some r) × (size ≡ n)
whole_is None size r n e = absurd cc
whole_is (Some q) size r n e = (cc, cc)

tags_told : (kind : ℕ) (fields : List ℕ) (r : Request) → AreBytes fields
    → ((kind == 8) ≡ false → (kind == 9) ≡ false → kind ≡ 10) → tag_request_in kind fields ≡ Some r
    → Spells kind fields r
tags_told kind fields r bytes last whole =
    elim (chosen (kind == 8) _ _ _ whole) [
      | inl (k, g) ↦ with_sender kind fields LastTag r bytes g (eqb-true kind 8 k) refl (λ b. b)
      | inr (n8, e) ↦ elim (chosen (kind == 9) _ _ _ e) [
        | inl (k, g) ↦ mark_told kind fields r bytes k g
        | inr (n9, g) ↦ with_sender kind fields ClientTag r bytes g (last n8 n9) refl (λ b. b)
      ]
    ]

-- what is read from fields has these fields
fields_told : (kind : ℕ) (fields : List ℕ) (r : Request) → AreBytes fields → length fields ≤ 511
    → is_kind kind ≡ true → request_in kind fields ≡ Some r → Spells kind fields r
fields_told kind fields r bytes most known whole =
    elim (chosen (kind == 1) _ _ _ whole) [
      | inl (k, g) ↦ plain kind 1 fields Begin r k g refl refl tt
      | inr (n1, e) ↦ elim (chosen (kind == 2) _ _ _ e) [
        | inl (k, g) ↦
            let is = eqb-true kind 2 k in
            subst (λ (n : ℕ). Spells n fields r) (sym is) (send_told fields r bytes most (subst (λ (n : ℕ).
            request_in n fields ≡ Some r) is whole))
        | inr (n2, e) ↦ elim (chosen (kind == 3) _ _ _ e) [
          | inl (k, g) ↦ plain kind 3 fields Receive r k g refl refl tt
          | inr (n3, e) ↦ elim (chosen (kind == 4) _ _ _ e) [
            | inl (k, g) ↦ with_sender kind fields ReceiveFrom r bytes g (eqb-true kind 4 k) refl (λ b. b)
            | inr (n4, e) ↦ elim (chosen (kind == 5) _ _ _ e) [
              | inl (k, g) ↦ with_sender kind fields Close r bytes g (eqb-true kind 5 k) refl (λ b. b)
              | inr (n5, e) ↦ elim (chosen (kind == 6) _ _ _ e) [
                | inl (k, g) ↦ plain kind 6 fields Commit r k g refl refl tt
                | inr (n6, e) ↦ elim (chosen (kind == 7) _ _ _ e) [
                  | inl (k, g) ↦ plain kind 7 fields Abort r k g refl refl tt
                  | inr (n7, g) ↦ tags_told kind fields r bytes (only_ten kind known n1 n2 n3 n4 n5 n6 n7) g
                ]
              ]
            ]
          ]
        ]
      ]
    ]

cut : (a b k : ℕ) (rest : List ℕ) (m : ℕ) → AreBytes (a ∷ b ∷ k ∷ rest) → number_at 2 0 (a ∷ b ∷ k ∷ rest) ≡ 1 + m
    → 3 + m ≤ length (a ∷ b ∷ k ∷ rest)
    → a ∷ b ∷ k ∷ rest ≡ frame k (take m rest) ++ drop (3 + m) (a ∷ b ∷ k ∷ rest)
unfolding frame
cut a b k rest m are e long =
    let fits : m ≤ length rest = omega (arith, long) in
    let inner : 1 + length (take m rest) ≡ 1 + m = omega (arith, fits, length-take m rest) in
    let head : number 2 (1 + length (take m rest)) ≡ a ∷ b ∷ [] = ap (number 2) (inner ∙ sym e)
    ∙ number_written 2 (a ∷ b ∷ k ∷ rest) are (omega arith) in
    let behind : drop (3 + m) (a ∷ b ∷ k ∷ rest) ≡ drop m rest =
    ap (λ (n : ℕ). drop n (a ∷ b ∷ k ∷ rest)) (three_more m) in
    sym (rw (head, behind) (ap (λ (l : List ℕ). a ∷ b ∷ k ∷ l) (take-append-drop m rest)))

-- the bytes of a frame: its head, its fields and what is behind it
frame_cut : (bytes : List ℕ) (m : ℕ) → AreBytes bytes → number_at 2 0 bytes ≡ 1 + m → 3 + m ≤ length bytes
    → bytes ≡ frame (slice_index bytes 2) (take m (drop 3 bytes)) ++ drop (3 + m) bytes
frame_cut [] m bytes e long = absurd (omega (arith, long))
frame_cut (a ∷ []) m bytes e long = absurd (omega (arith, long))
frame_cut (a ∷ b ∷ []) m bytes e long = absurd (omega (arith, long))
frame_cut (a ∷ b ∷ k ∷ rest) m bytes e long = cut a b k rest m bytes e long

pub read_is_spelled : (bytes : List ℕ) (r : Request) (n : ℕ) → AreBytes bytes → looks bytes ≡ Frame r n
    → IsRequest r × (bytes ≡ spelled r ++ drop n bytes)
unfolding spelled
read_is_spelled bytes r n are e =
    let p = told bytes r n e in
    let sized : (0 < size bytes) × (size bytes < 513) = size_in (size bytes) p.sized in
    let all : 2 + size bytes ≤ length bytes = ltb-false (length bytes) (2 + size bytes) p.cut in
    let kind = slice_index bytes 2 in
    let fields = take (size bytes - 1) (drop 3 bytes) in
    let read = whole_is (request_in kind fields) (2 + size bytes) r n p.front in
    let short : length fields ≤ 511 = omega (arith, length-take (size bytes - 1) (drop 3 bytes), sized.1) in
    let s = fields_told kind fields r (AreBytes-take (size bytes - 1) (drop 3 bytes) (AreBytes-drop 3 bytes are))
    short p.known read.0 in
    let here : 3 + (size bytes - 1) ≡ n = omega (arith, sized.0, read.1) in
    let cut = frame_cut bytes (size bytes - 1) are (omega (arith, sized.0)) (omega (arith, sized.0, all)) in (
      s.good,
      cut ∙ ap (λ (k : ℕ). frame k fields ++ drop (3 + (size bytes - 1)) bytes) s.of_kind
          ∙ ap (λ (f : List ℕ). frame (request_kind r) f ++ drop (3 + (size bytes - 1)) bytes) s.of_fields
          ∙ ap (λ (k : ℕ). frame (request_kind r) (request_fields r) ++ drop k bytes) here,
    )

-- a frame begins with its length
pub frames_count : (kind : ℕ) (fields : List ℕ) → length fields ≤ 511
    → 2 + number_at 2 0 (frame kind fields) ≡ length (frame kind fields)
frames_count kind fields short =
    let told : number_at 2 0 (frame kind fields) ≡ 1 + length fields =
    ap (number_at 2 0) (sym (append-nil (frame kind fields))) ∙ size_told kind fields [] short in
    ap (λ (n : ℕ). 2 + n) told ∙ sym (length-frame kind fields)
