-- The length and the kind before the fields, and a whole record.
use Rattle.std.proofs.Common.{◌≡◌, ℕ, zero, suc, ◌+◌, ◌-◌, ◌/◌, ◌%◌, ◌^◌, ◌<◌, ◌≤◌, Bool, true, false, cond, ltb, leb, eqb, ◌&&◌, List, [], ◌∷◌, ◌++◌, length, drop, replicate, Option, Some, None, Ok, Err, refl, sym, ap, subst, ◌∙◌, append_assoc, inl, inr, arith}
use Rattle.std.proofs.lemmas.Bool.{ltb-false, le-ltb, lt-ltb, eqb-true}
use Rattle.std.proofs.lemmas.Bool.Decides.{nat_tests}
use Rattle.std.proofs.lemmas.List.{append-nil, length-append, length-replicate, drop_at, take-append-drop}
use Rattle.byteorder.specs.Endian.{big_number}
use Rattle.rq_model.specs.declared.txn.Txn.{Txn}
use Rattle.rq_model.specs.declared.record.Record.{Record}
use Rattle.rq_model.specs.declared.record.Record.TheVariants.{PageOp, PageUndo, OpEnd, OpVoid, CompEnd, Commit, Restart, AbortEnd, Base}
use Rattle.rq_record.specs.declared.reading.Stop.TheVariants.{Short, Bad}
use Rattle.rq_record.specs.declared.reading.Kind.{Kind}
use Rattle.rq_record.specs.declared.reading.Kind.TheVariants as kinds
use Rattle.rq_record.specs.Spelling.{kind_number, fields, spelling, IsRecord}
use Rattle.rq_bytes.specs.Number.{AreBytes, number}
use Rattle.rq_record.specs.Reading.{◌>>=◌, op_end_at, kind_of, is_size, begins_size, size_at, known, kind_at, fields_at, record_at}
use Rattle.rq_bytes.proofs.Strings.{length-number, number_read, number_written}
use Rattle.rq_record.proofs.Readers.{Begins, Field, Reads, done, done_is, chosen, cut_length, AreBytes-zeros, Reads-then, Field-reads, Reads-field, within, within_is}
use Rattle.rq_record.proofs.Records.{kind_from, IsOf, length-page_op, length-page_undo, length-op_end, length-op_void, length-comp_end, length-commit, length-restart, length-abort_end, length-base, Field-page_op, Field-page_undo, Field-op_end, Field-op_void, Field-comp_end, Field-commit, Field-restart, Field-abort_end, Field-base}

-- ---- the lengths

-- the lengths of a kind's records
abbrev pub IsSizeOf : Kind → ℕ → Type 0
IsSizeOf kinds.PageOp size = size ≡ 542
IsSizeOf kinds.PageUndo size = size ≡ 294
IsSizeOf kinds.OpEnd size = (27 ≤ size) × (size ≤ 282)
IsSizeOf kinds.OpVoid size = size ≡ 25
IsSizeOf kinds.CompEnd size = size ≡ 33
IsSizeOf kinds.Restart size = size ≡ 9
IsSizeOf _ size = size ≡ 17

-- a length is that of some kind
kind_of_size : (size : ℕ) → is_size size ≡ true → (kind : Kind) × IsSizeOf kind size
unfolding is_size
kind_of_size size e =
    elim (chosen (leb 27 size && leb size 282) true _ true e) [
      | inl (t, h) ↦ (kinds.OpEnd, within_is 27 282 size t)
      | inr (f, e) ↦ elim (chosen (eqb size 9) true _ true e) [
        | inl (t, h) ↦ (kinds.Restart, eqb-true _ _ t)
        | inr (f, e) ↦ elim (chosen (eqb size 17) true _ true e) [
          | inl (t, h) ↦ (kinds.Commit, eqb-true _ _ t)
          | inr (f, e) ↦ elim (chosen (eqb size 25) true _ true e) [
            | inl (t, h) ↦ (kinds.OpVoid, eqb-true _ _ t)
            | inr (f, e) ↦ elim (chosen (eqb size 294) true _ true e) [
              | inl (t, h) ↦ (kinds.PageUndo, eqb-true _ _ t)
              | inr (f, e) ↦ (kinds.PageOp, eqb-true _ _ e)
            ]
          ]
        ]
      ]
    ]

inside : (size : ℕ) → (27 ≤ size) × (size ≤ 282) → is_size size ≡ true
unfolding is_size
inside size is = ap (λ (t : Bool). cond t true (cond (eqb size 9) true (cond (eqb size 17) true (cond (eqb size 25) true (cond (eqb size 294) true (eqb size 542)))))) (within 27 282 size is)

size_of_kind : (kind : Kind) (size : ℕ) → IsSizeOf kind size → is_size size ≡ true
unfolding is_size
size_of_kind kinds.OpEnd size is = inside size is
size_of_kind _ size e = ap is_size e

small_kind : (kind : Kind) (size : ℕ) → IsSizeOf kind size → size ≤ 542
small_kind kinds.OpEnd size is = omega (arith, is)
small_kind _ size e = omega arith

small : (size : ℕ) → is_size size ≡ true → size ≤ 542
small size e = let k = kind_of_size size e in small_kind k.0 size k.1

-- the length that begins so
filled_size : (bytes : List ℕ) → begins_size bytes ≡ true → Begins (number 4) (λ n. is_size n ≡ true) bytes
unfolding begins_size is_size number
filled_size [] e = (9, 0 ∷ 0 ∷ 0 ∷ 9 ∷ [], refl, omega arith, refl)
filled_size (zero ∷ []) e = (9, 0 ∷ 0 ∷ 9 ∷ [], refl, omega arith, refl)
filled_size (suc a ∷ []) e = absurd (omega (arith, eqb-true _ _ e))
filled_size (zero ∷ zero ∷ []) e = (9, 0 ∷ 9 ∷ [], refl, omega arith, refl)
filled_size (zero ∷ suc b ∷ []) e = absurd (omega (arith, eqb-true _ _ e))
filled_size (suc a ∷ b ∷ []) e = absurd (grind (arith, nat_tests))
filled_size (zero ∷ zero ∷ zero ∷ []) e = (9, 9 ∷ [], refl, omega arith, refl)
filled_size (zero ∷ zero ∷ suc zero ∷ []) e = (256, 0 ∷ [], refl, omega arith, refl)
filled_size (zero ∷ zero ∷ suc (suc zero) ∷ []) e = (542, 30 ∷ [], refl, omega arith, refl)
filled_size (zero ∷ zero ∷ suc (suc (suc c)) ∷ []) e = absurd (grind (arith, nat_tests))
filled_size (zero ∷ suc b ∷ c ∷ []) e = absurd (grind (arith, nat_tests))
filled_size (suc a ∷ b ∷ c ∷ []) e = absurd (grind (arith, nat_tests))
filled_size (a ∷ b ∷ c ∷ d ∷ rest) e = absurd cc

below_three : (n : ℕ) → n ≤ 2 → leb n 2 ≡ true
below_three n h = grind (arith, nat_tests)

heads_begin : (a b c d : ℕ) (bytes rest : List ℕ) → a ∷ b ∷ c ∷ d ∷ [] ≡ bytes ++ rest → 0 < length rest → a ≡ 0 → b ≡ 0 → c ≤ 2 → begins_size bytes ≡ true
unfolding begins_size
heads_begin a b c d [] rest e more a0 b0 c2 = refl
heads_begin a b c d (x ∷ []) rest e more a0 b0 c2 =
    let h : x ≡ 0 = cc in
    ap (λ (n : ℕ). eqb n 0) h
heads_begin a b c d (x ∷ y ∷ []) rest e more a0 b0 c2 =
    let h : x ≡ 0 = cc in
    let i : y ≡ 0 = cc in
    ap (λ (n : ℕ). eqb n 0 && eqb y 0) h ∙ ap (λ (n : ℕ). eqb n 0) i
heads_begin a b c d (x ∷ y ∷ z ∷ []) rest e more a0 b0 c2 =
    let h : x ≡ 0 = cc in
    let i : y ≡ 0 = cc in
    let j : z ≡ c = cc in
    let k : z ≤ 2 = omega arith in
    ap (λ (n : ℕ). eqb n 0 && (eqb y 0 && leb z 2)) h ∙ ap (λ (n : ℕ). eqb n 0 && leb z 2) i ∙ below_three z k
heads_begin a b c d (x ∷ y ∷ z ∷ w ∷ bytes) rest e more a0 b0 c2 = absurd (omega (arith, ap length e, length-append bytes rest))

size_begins : (n : ℕ) (bytes rest : List ℕ) → n ≤ 542 → 0 < length rest → number 4 n ≡ bytes ++ rest → begins_size bytes ≡ true
unfolding number
size_begins n bytes rest low more e =
    heads_begin (n / 256 ^ 3 % 256) (n / 256 ^ 2 % 256) (n / 256 ^ 1 % 256) (n % 256) bytes rest e more (omega arith) (omega arith) (omega arith)

abbrev pub IsSize : ℕ → Type 0
IsSize n = is_size n ≡ true

size_again : (bytes : List ℕ) (a : ℕ) (rest : List ℕ) → ltb (length bytes) 4 ≡ false → big_number 4 bytes ≡ a → drop 4 bytes ≡ rest → IsSize a → size_at bytes ≡ Ok (a, rest)
unfolding size_at
size_again bytes a rest long read left is =
    let test : is_size (big_number 4 bytes) ≡ true = ap is_size read ∙ is in
    rw (long, test, read, left) refl

Field-size : Field size_at (number 4) IsSize
unfolding size_at
Field-size = record {
  found = λ bytes a rest fits e.
      elim (chosen (ltb (length bytes) 4) _ _ (Ok (a, rest)) e) [
        | inl (t, h) ↦ elim (chosen (begins_size bytes) (Err Short) (Err Bad) (Ok (a, rest)) h) [ inl (u, k) ↦ absurd cc | inr (u, k) ↦ absurd cc ]
        | inr (t, h) ↦ elim (chosen (is_size (big_number 4 bytes)) (done (big_number 4 bytes, drop 4 bytes)) (Err Bad) (Ok (a, rest)) h) [
          | inl (u, k) ↦
              let long : 4 ≤ length bytes = ltb-false _ _ t in
              let P : ℕ × List ℕ → Type 0 = λ x. IsSize x.0 × (bytes ≡ number 4 x.0 ++ x.1) in
              subst P (done_is (big_number 4 bytes, drop 4 bytes) (a, rest) k) (u, sym (ap (λ (t : List ℕ). t ++ drop 4 bytes) (number_written 4 bytes fits long) ∙ take-append-drop 4 bytes))
          | inr (u, k) ↦ absurd cc
        ]
      ];
  again = λ a rest is.
      let l = length-number 4 a in
      let long : ltb (length (number 4 a ++ rest)) 4 ≡ false = le-ltb _ _ (omega (arith, length-append (number 4 a) rest, l)) in
      let low = small a is in
      let read : big_number 4 (number 4 a ++ rest) ≡ a = number_read 4 a rest (omega (arith, low)) in
      size_again (number 4 a ++ rest) a rest long read (drop_at (number 4 a) rest 4 l) is;
  short = λ bytes fits e.
      elim (chosen (ltb (length bytes) 4) _ _ (Err Short) e) [
        | inl (t, h) ↦ elim (chosen (begins_size bytes) (Err Short) (Err Bad) (Err Short) h) [ inl (u, k) ↦ filled_size bytes u | inr (u, k) ↦ absurd cc ]
        | inr (t, h) ↦ elim (chosen (is_size (big_number 4 bytes)) (done (big_number 4 bytes, drop 4 bytes)) (Err Bad) (Err Short) h) [ inl (u, k) ↦ absurd cc | inr (u, k) ↦ absurd cc ]
      ];
  begins = λ a bytes rest is more e.
      let few : ltb (length bytes) 4 ≡ true = lt-ltb _ _ (cut_length 4 (number 4 a) bytes rest (length-number 4 a) more e) in
      let test : begins_size bytes ≡ true = size_begins a bytes rest (small a is) more e in
      rw (few, test) refl;
}

-- ---- the kinds

abbrev pub number_of : Kind → ℕ
number_of kinds.PageOp = 1
number_of kinds.PageUndo = 2
number_of kinds.OpEnd = 3
number_of kinds.OpVoid = 4
number_of kinds.CompEnd = 5
number_of kinds.Commit = 6
number_of kinds.Restart = 7
number_of kinds.AbortEnd = 8
number_of kinds.Base = 9

abbrev Names : ℕ → ℕ → Kind → Type 0
Names b size kind = (b ≡ number_of kind) × IsSizeOf kind size

abbrev some : Kind → Option Kind
some kind = Some kind

some_is : (j k : Kind) → some j ≡ some k → j ≡ k
some_is j k e = cc

both_true : (b n size m : ℕ) → (eqb b n && eqb size m) ≡ true → (b ≡ n) × (size ≡ m)
both_true b n size m e = grind (arith, nat_tests)

op_end_true : (b size : ℕ) → (eqb b 3 && (leb 27 size && leb size 282)) ≡ true → (b ≡ 3) × ((27 ≤ size) × (size ≤ 282))
op_end_true b size e = grind (arith, nat_tests)

named : (b size : ℕ) (j k : Kind) → Names b size j → some j ≡ some k → Names b size k
named b size j k h e = subst (Names b size) (some_is j k e) h

-- the last two kinds
last_named : (b size : ℕ) (k : Kind) → cond (eqb b 8 && eqb size 17) (some kinds.AbortEnd) (cond (eqb b 9 && eqb size 17) (some kinds.Base) None) ≡ Some k → Names b size k
last_named b size k e =
    elim (chosen (eqb b 8 && eqb size 17) (some kinds.AbortEnd) _ (Some k) e) [
      | inl (t, h) ↦ named b size kinds.AbortEnd k (both_true b 8 size 17 t) h
      | inr (f, e) ↦ elim (chosen (eqb b 9 && eqb size 17) (some kinds.Base) None (Some k) e) [
        | inl (t, h) ↦ named b size kinds.Base k (both_true b 9 size 17 t) h
        | inr (f, e) ↦ absurd cc
      ]
    ]

-- a kind that is named so has that number and may be so long
kind_named : (b size : ℕ) (k : Kind) → kind_of b size ≡ Some k → Names b size k
unfolding kind_of
kind_named b size k e =
    elim (chosen (eqb b 1 && eqb size 542) (some kinds.PageOp) _ (Some k) e) [
      | inl (t, h) ↦ named b size kinds.PageOp k (both_true b 1 size 542 t) h
      | inr (f, e) ↦ elim (chosen (eqb b 2 && eqb size 294) (some kinds.PageUndo) _ (Some k) e) [
        | inl (t, h) ↦ named b size kinds.PageUndo k (both_true b 2 size 294 t) h
        | inr (f, e) ↦ elim (chosen (eqb b 3 && (leb 27 size && leb size 282)) (some kinds.OpEnd) _ (Some k) e) [
          | inl (t, h) ↦ named b size kinds.OpEnd k (op_end_true b size t) h
          | inr (f, e) ↦ elim (chosen (eqb b 4 && eqb size 25) (some kinds.OpVoid) _ (Some k) e) [
            | inl (t, h) ↦ named b size kinds.OpVoid k (both_true b 4 size 25 t) h
            | inr (f, e) ↦ elim (chosen (eqb b 5 && eqb size 33) (some kinds.CompEnd) _ (Some k) e) [
              | inl (t, h) ↦ named b size kinds.CompEnd k (both_true b 5 size 33 t) h
              | inr (f, e) ↦ elim (chosen (eqb b 6 && eqb size 17) (some kinds.Commit) _ (Some k) e) [
                | inl (t, h) ↦ named b size kinds.Commit k (both_true b 6 size 17 t) h
                | inr (f, e) ↦ elim (chosen (eqb b 7 && eqb size 9) (some kinds.Restart) _ (Some k) e) [
                  | inl (t, h) ↦ named b size kinds.Restart k (both_true b 7 size 9 t) h
                  | inr (f, e) ↦ last_named b size k e
                ]
              ]
            ]
          ]
        ]
      ]
    ]

kind_op_end : (size : ℕ) → (27 ≤ size) × (size ≤ 282) → kind_of 3 size ≡ Some kinds.OpEnd
unfolding kind_of
kind_op_end size is = rw (within 27 282 size is) refl

kind_is : (kind : Kind) (size : ℕ) → IsSizeOf kind size → kind_of (number_of kind) size ≡ Some kind
unfolding kind_of
kind_is kinds.PageOp size e = ap (kind_of 1) e
kind_is kinds.PageUndo size e = ap (kind_of 2) e
kind_is kinds.OpEnd size is = kind_op_end size is
kind_is kinds.OpVoid size e = ap (kind_of 4) e
kind_is kinds.CompEnd size e = ap (kind_of 5) e
kind_is kinds.Commit size e = ap (kind_of 6) e
kind_is kinds.Restart size e = ap (kind_of 7) e
kind_is kinds.AbortEnd size e = ap (kind_of 8) e
kind_is kinds.Base size e = ap (kind_of 9) e

abbrev pub kind_bytes : Kind → List ℕ
kind_bytes kind = number_of kind ∷ []

known_ok : (o : Option Kind) (rest : List ℕ) (k : Kind) (left : List ℕ) → known o rest ≡ Ok (k, left) → (o ≡ Some k) × (rest ≡ left)
known_ok None rest k left e = absurd cc
known_ok (Some j) rest k left e =
    let parts = done_is (j, rest) (k, left) e in
    (ap (λ (x : Kind × List ℕ). some x.0) parts, ap (λ (x : Kind × List ℕ). x.1) parts)

known_long : (o : Option Kind) (rest : List ℕ) → known o rest ≡ Err Short → ⊥
known_long None rest e = cc
known_long (Some j) rest e = cc

kind_found : (size : ℕ) (bytes : List ℕ) (a : Kind) (rest : List ℕ) → AreBytes bytes → kind_at size bytes ≡ Ok (a, rest) → IsSizeOf a size × (bytes ≡ kind_bytes a ++ rest)
unfolding kind_at
kind_found size [] a rest fits e = absurd cc
kind_found size (b ∷ bs) a rest fits e =
    let k = known_ok (kind_of b size) bs a rest e in
    let n = kind_named b size a k.0 in
    (n.1, ap (λ (x : ℕ). x ∷ bs) n.0 ∙ ap (λ (t : List ℕ). number_of a ∷ t) k.1)

kind_short : (size : ℕ) → IsSize size → (bytes : List ℕ) → AreBytes bytes → kind_at size bytes ≡ Err Short → Begins kind_bytes (λ k. IsSizeOf k size) bytes
unfolding kind_at
kind_short size is [] fits e = let k = kind_of_size size is in (k.0, kind_bytes k.0, k.1, omega arith, refl)
kind_short size is (b ∷ bs) fits e = absurd (known_long (kind_of b size) bs e)

kind_begins : (size : ℕ) (a : Kind) (bytes rest : List ℕ) → IsSizeOf a size → 0 < length rest → kind_bytes a ≡ bytes ++ rest → kind_at size bytes ≡ Err Short
unfolding kind_at
kind_begins size a [] rest is more e = refl
kind_begins size a (b ∷ bs) rest is more e = absurd (omega (arith, ap length e, length-append bs rest))

Field-kind : (size : ℕ) → IsSize size → Field (kind_at size) kind_bytes (λ k. IsSizeOf k size)
unfolding kind_at
Field-kind size is = record {
  found = kind_found size;
  again = λ a rest h. ap (λ (o : Option Kind). known o rest) (kind_is a size h);
  short = kind_short size is;
  begins = kind_begins size;
}

-- ---- the fields

Field-fields : (size : ℕ) (kind : Kind) → IsSizeOf kind size → Field (fields_at size kind) fields (IsOf kind size)
Field-fields size kinds.PageOp e = subst (λ (n : ℕ). Field (fields_at n kinds.PageOp) fields (IsOf kinds.PageOp n)) (sym e) Field-page_op
Field-fields size kinds.PageUndo e = subst (λ (n : ℕ). Field (fields_at n kinds.PageUndo) fields (IsOf kinds.PageUndo n)) (sym e) Field-page_undo
Field-fields size kinds.OpEnd is =
    let whole : 26 + (size - 26) ≡ size = omega (arith, is) in
    subst (λ (n : ℕ). Field (op_end_at (size - 26)) fields (IsOf kinds.OpEnd n)) whole (Field-op_end (size - 26) (omega (arith, is)) (omega (arith, is)))
Field-fields size kinds.OpVoid e = subst (λ (n : ℕ). Field (fields_at n kinds.OpVoid) fields (IsOf kinds.OpVoid n)) (sym e) Field-op_void
Field-fields size kinds.CompEnd e = subst (λ (n : ℕ). Field (fields_at n kinds.CompEnd) fields (IsOf kinds.CompEnd n)) (sym e) Field-comp_end
Field-fields size kinds.Commit e = subst (λ (n : ℕ). Field (fields_at n kinds.Commit) fields (IsOf kinds.Commit n)) (sym e) Field-commit
Field-fields size kinds.Restart e = subst (λ (n : ℕ). Field (fields_at n kinds.Restart) fields (IsOf kinds.Restart n)) (sym e) Field-restart
Field-fields size kinds.AbortEnd e = subst (λ (n : ℕ). Field (fields_at n kinds.AbortEnd) fields (IsOf kinds.AbortEnd n)) (sym e) Field-abort_end
Field-fields size kinds.Base e = subst (λ (n : ℕ). Field (fields_at n kinds.Base) fields (IsOf kinds.Base n)) (sym e) Field-base

-- ---- a whole record

size_of_record : (r : Record) → IsRecord r → IsSizeOf (kind_from r) (1 + length (fields r))
size_of_record (PageOp txn operation page slot before after) is = length-page_op txn operation page slot before after is.1.4.0 is.1.5.0
size_of_record (PageUndo txn operation undone page slot after) is = length-page_undo txn operation undone page slot after is.1.5.0
size_of_record (OpEnd txn operation level deed) is =
    let e = length-op_end txn operation level deed in
    (omega (arith, e, is.0.3), omega (arith, e, is.0.4))
size_of_record (OpVoid txn operation) is = length-op_void txn operation
size_of_record (CompEnd txn operation undone) is = length-comp_end txn operation undone
size_of_record (Commit txn) is = length-commit txn
size_of_record (Restart incarnation) is = length-restart incarnation
size_of_record (AbortEnd txn) is = length-abort_end txn
size_of_record (Base records incarnation) is = length-base records incarnation

number_from : (r : Record) → kind_number r ≡ number_of (kind_from r)
number_from (PageOp txn operation page slot before after) = refl
number_from _ = refl

-- each kind has a record of each of its lengths
first_txn : Txn
first_txn = record { incarnation = 1; count = 1 }

zeros : ℕ → List ℕ
zeros n = replicate n 0

length-zeros : (n : ℕ) → length (zeros n) ≡ n
unfolding zeros
length-zeros n = length-replicate {A = ℕ} n 0

zeros_fit : (n : ℕ) → AreBytes (zeros n)
unfolding zeros
zeros_fit n = AreBytes-zeros n

some_of : (kind : Kind) (size : ℕ) → IsSizeOf kind size → (r : Record) × IsOf kind size r
unfolding first_txn
some_of kinds.PageOp size e =
    let image : (length (zeros 256) ≡ 256) × AreBytes (zeros 256) = (length-zeros 256, zeros_fit 256) in
    (PageOp first_txn 1 0 1 (zeros 256) (zeros 256), ((((omega arith, omega arith), omega arith, (omega arith, omega arith)), ((omega arith, omega arith), omega arith, omega arith, omega arith, image, image)), refl, length-page_op first_txn 1 0 1 (zeros 256) (zeros 256) image.0 image.0 ∙ sym e))
some_of kinds.PageUndo size e =
    let image : (length (zeros 256) ≡ 256) × AreBytes (zeros 256) = (length-zeros 256, zeros_fit 256) in
    (PageUndo first_txn 1 1 0 1 (zeros 256), ((((omega arith, omega arith), omega arith, omega arith, (omega arith, omega arith)), ((omega arith, omega arith), omega arith, omega arith, omega arith, omega arith, image)), refl, length-page_undo first_txn 1 1 0 1 (zeros 256) image.0 ∙ sym e))
some_of kinds.OpEnd size is =
    let deed : List ℕ = zeros (size - 26) in
    let l : length deed ≡ size - 26 = length-zeros (size - 26) in
    let e = length-op_end first_txn 1 1 deed in
    (OpEnd first_txn 1 1 deed, ((((omega arith, omega arith), omega arith, omega arith, omega (arith, l, is), omega (arith, l, is)), ((omega arith, omega arith), omega arith, omega arith, omega (arith, l, is), zeros_fit (size - 26))), refl, omega (arith, e, l, is)))
some_of kinds.OpVoid size e = (OpVoid first_txn 1, ((((omega arith, omega arith), omega arith), ((omega arith, omega arith), omega arith)), refl, length-op_void first_txn 1 ∙ sym e))
some_of kinds.CompEnd size e = (CompEnd first_txn 1 1, ((((omega arith, omega arith), omega arith, omega arith), ((omega arith, omega arith), omega arith, omega arith)), refl, length-comp_end first_txn 1 1 ∙ sym e))
some_of kinds.Commit size e = (Commit first_txn, (((omega arith, omega arith), (omega arith, omega arith)), refl, length-commit first_txn ∙ sym e))
some_of kinds.Restart size e = (Restart 1, ((omega arith, omega arith), refl, length-restart 1 ∙ sym e))
some_of kinds.AbortEnd size e = (AbortEnd first_txn, (((omega arith, omega arith), (omega arith, omega arith)), refl, length-abort_end first_txn ∙ sym e))
some_of kinds.Base size e = (Base 1 1, (((omega arith, omega arith, omega arith, omega arith), (omega arith, omega arith)), refl, length-base 1 1 ∙ sym e))

abbrev Parts : Type 0
Parts = ℕ × (Kind × Record)

abbrev record_of : Parts → Record
record_of x = x.1.1

abbrev parts_bytes : Parts → List ℕ
parts_bytes x = number 4 x.0 ++ (kind_bytes x.1.0 ++ fields x.1.1)

abbrev AreParts : Parts → Type 0
AreParts x = IsSize x.0 × (IsSizeOf x.1.0 x.0 × IsOf x.1.0 x.0 x.1.1)

Reads-parts : Reads record_at record_of parts_bytes AreParts
unfolding record_at
Reads-parts =
    Reads-then size_at (number 4) IsSize (λ size bytes. kind_at size bytes >>= λ kind. fields_at size kind.0 kind.1) record_of
    (λ size x. kind_bytes x.0 ++ fields x.1) (λ size x. IsSizeOf x.0 size × IsOf x.0 size x.1) Field-size
    (λ size is. Reads-then (kind_at size) kind_bytes (λ kind. IsSizeOf kind size) (fields_at size) (λ x. x.1)
    (λ kind. fields) (λ kind. IsOf kind size) (Field-kind size is) (λ kind h. Field-reads (Field-fields size kind h)) (λ kind h. some_of kind size h))
    (λ size is.
    let kind = kind_of_size size is in
    let r = some_of kind.0 size kind.1 in
    ((kind.0, r.0), (kind.1, r.1)))

to_record : (x : Parts) → AreParts x → IsRecord (record_of x) × (spelling (record_of x) ≡ parts_bytes x)
unfolding spelling
to_record x v =
    let r = x.1.1 in
    let of = v.1.1 in
    (of.0, ap (λ (n : ℕ). number 4 n ++ (kind_number r ∷ fields r)) of.2 ∙ ap (λ (b : ℕ). number 4 x.0 ++ (b ∷ fields r)) (number_from r ∙ ap number_of of.1))

from_record : (r : Record) → IsRecord r → (x : Parts) × AreParts x × (record_of x ≡ r)
from_record r is =
    let size = size_of_record r is in
    ((1 + length (fields r), (kind_from r, r)), (size_of_kind (kind_from r) (1 + length (fields r)) size, (size, (is, refl, refl))), refl)

-- the reader of records reads exactly the spellings of records
pub Field-record : Field record_at spelling IsRecord
Field-record = Reads-field record_at record_of parts_bytes AreParts spelling IsRecord Reads-parts to_record from_record

-- ---- laws of spellings

-- no spelling begins another, and a record has one
pub one_spelling : (r s : Record) (x y : List ℕ) → IsRecord r → IsRecord s → spelling r ++ x ≡ spelling s ++ y → (r ≡ s) × (x ≡ y)
one_spelling r s x y f g e =
    let one : done (r, x) ≡ done (s, y) = sym (Field-record.again r x f) ∙ ap record_at e ∙ Field-record.again s y g in
    let parts = done_is (r, x) (s, y) one in
    (ap (λ (p : Record × List ℕ). p.0) parts, ap (λ (p : Record × List ℕ). p.1) parts)

pub length-spelling : (r : Record) → length (spelling r) ≡ 4 + (1 + length (fields r))
unfolding spelling
length-spelling r = omega (arith, length-append (number 4 (1 + length (fields r))) (kind_number r ∷ fields r), length-number 4 (1 + length (fields r)))

first_four : (r : Record) (rest : List ℕ) → 1 + length (fields r) < 256 ^ 4 → big_number 4 (spelling r ++ rest) ≡ 1 + length (fields r)
unfolding spelling
first_four r rest h =
    let n : ℕ = 1 + length (fields r) in
    ap (big_number 4) (append_assoc (number 4 n) (kind_number r ∷ fields r) rest) ∙ number_read 4 n ((kind_number r ∷ fields r) ++ rest) h

-- the first four bytes count those that follow
pub framed : (r : Record) (rest : List ℕ) → IsRecord r → 4 + big_number 4 (spelling r ++ rest) ≡ length (spelling r)
framed r rest is =
    let low = small_kind (kind_from r) (1 + length (fields r)) (size_of_record r is) in
    omega (arith, first_four r rest (omega (arith, low)), length-spelling r)

pub short_spelling : (r : Record) → IsRecord r → length (spelling r) ≤ 546
short_spelling r is = omega (arith, small_kind (kind_from r) (1 + length (fields r)) (size_of_record r is), length-spelling r)

pub framed_whole : (r : Record) → IsRecord r → 4 + big_number 4 (spelling r) ≡ length (spelling r)
framed_whole r is = ap (λ (t : List ℕ). 4 + big_number 4 t) (sym (append-nil (spelling r))) ∙ framed r [] is

large_kind : (kind : Kind) (size : ℕ) → IsSizeOf kind size → 9 ≤ size
large_kind kinds.OpEnd size is = omega (arith, is)
large_kind _ size e = omega arith

pub long_spelling : (r : Record) → IsRecord r → 13 ≤ length (spelling r)
long_spelling r is = omega (arith, large_kind (kind_from r) (1 + length (fields r)) (size_of_record r is), length-spelling r)
