-- The reader of deeds reads exactly what spells one.
use Rattle.std.proofs.Common.{◌≡◌, ℕ, ◌^◌, ◌<◌, Bool, cond, leb, eqb, List, [], ◌∷◌, ◌++◌, length, Option, Some, Result, Ok, Err, refl, sym, ap, subst, ◌∙◌, ◌⊎◌, inl, inr, arith}
use Rattle.std.specs.Prelude.{IfSome}
use Rattle.std.proofs.lemmas.Bool.{eqb-true, leb-true, le-leb}
use Rattle.std.proofs.lemmas.List.{append-nil, nil_from_length, length-append}
use Rattle.rq_model.specs.declared.record.Deed.{Deed}
use Rattle.rq_model.specs.declared.record.Deed.TheVariants.{Append, UnlinkHead, Close, Mark}
use Rattle.rq_record.specs.declared.reading.Stop.{Stop}
use Rattle.rq_record.specs.declared.reading.Stop.TheVariants.{Bad}
use Rattle.rq_bytes.specs.Number.{AreBytes, number}
use Rattle.rq_model.specs.Deeds.{spelled_deed, deed_in, mark_in, deed_by, deed_level, TellsItself}
use Rattle.rq_model.proofs.Deeds.{by_its_level}
use Rattle.rq_record.specs.Deeds.{IsBody, IsDeed}
use Rattle.rq_record.specs.Reading.{◌>>=◌, number_at, positive_at}
use Rattle.rq_record.specs.DeedReading.{append_at, unlink_head_at, close_at, mark_at, deed_at, tag_deed_at, deed_of}
use Rattle.rq_bytes.proofs.Strings.{AreBytes-right, AreBytes-tail, length-number}
use Rattle.rq_record.proofs.DeedIn.{read_is, mark_read_is}
use Rattle.rq_record.proofs.Readers.{Field, Field-number, Field-positive, done, done_is, then_done, chosen, also, both}

-- a reader of all the bytes
record Reader {A C : Type 0} (read : List ℕ → Result C Stop) (make : A → C) (spell : A → List ℕ) (Is : A → Type 0) : Type 0 where
  found : (bytes : List ℕ) (c : C) → AreBytes bytes → read bytes ≡ Ok c → (a : A) × (c ≡ make a) × Is a × (bytes ≡ spell a)
  again : (a : A) → Is a → read (spell a) ≡ Ok (make a)

Reader-and : {A B C : Type 0} {p : List ℕ → Result (A × List ℕ) Stop} {S : A → List ℕ} {V : A → Type 0} {make : A × B → C}
    (k : A × List ℕ → Result C Stop) (T : B → List ℕ) (W : B → Type 0) → Field p S V → ((a : A) → Reader (λ rest. k (a, rest)) (λ b. make (a, b)) T W)
    → Reader (λ bytes. p bytes >>= k) make (also S T) (both V W)
Reader-and {A} {B} {C} {p = p} {S = S} {V = V} {make = make} k T W first second = record {
  found = λ bytes c fits e.
      let x = then_done (p bytes) k c e in
      let one = first.found bytes x.0.0 x.0.1 fits x.1 in
      let two = (second x.0.0).found x.0.1 c (AreBytes-right (S x.0.0) x.0.1 (subst AreBytes one.1 fits)) x.2 in
      ((x.0.0, two.0), two.1, (one.0, two.2), one.1 ∙ ap (λ (t : List ℕ). S x.0.0 ++ t) two.3);
  again = λ ab is.
      let one : p (S ab.0 ++ T ab.1) ≡ Ok (ab.0, T ab.1) = first.again ab.0 (T ab.1) is.0 in
      ap (λ (r : Result (A × List ℕ) Stop). r >>= k) one ∙ (second ab.0).again ab.1 is.1;
}

abbrev pub plain : List ℕ → List ℕ
plain xs = xs

Reader-body : {C : Type 0} (make : List ℕ → C) → Reader (λ rest. cond (leb (length rest) 216) (Ok (make rest)) (Err Bad)) make plain IsBody
Reader-body {C} make = record {
  found = λ bytes c fits e.
      elim (chosen (leb (length bytes) 216) (done (make bytes)) (Err Bad) (Ok c) e) [
        | inl (t, h) ↦ (bytes, sym (done_is (make bytes) c h), (leb-true _ _ t, fits), refl)
        | inr (t, h) ↦ absurd cc
      ];
  again = λ body is. ap (λ (t : Bool). cond t (done (make body)) (Err Bad)) (le-leb _ _ is.0);
}

abbrev nothing : Unit {0} → List ℕ
nothing _ = []

abbrev Always : Unit {0} → Type 0
Always _ = Unit {0}

Reader-end : {C : Type 0} (c : C) → Reader (λ rest. cond (eqb (length rest) 0) (Ok c) (Err Bad)) (λ (x : Unit {0}). c) nothing Always
Reader-end {C} c = record {
  found = λ bytes d fits e.
      elim (chosen (eqb (length bytes) 0) (done c) (Err Bad) (Ok d) e) [
        | inl (t, h) ↦ (tt, sym (done_is c d h), tt, nil_from_length bytes (eqb-true _ _ t))
        | inr (t, h) ↦ absurd cc
      ];
  again = λ x is. refl;
}

Field-u32 : Field (number_at 4) (number 4) (λ n. n < 256 ^ 4)
Field-u32 = Field-number 4 (omega arith)

Field-tag : Field (number_at 8) (number 8) (λ n. n < 256 ^ 8)
Field-tag = Field-number 8 (omega arith)

Field-sequence : Field (positive_at 8) (number 8) (λ n. (0 < n) × (n < 256 ^ 8))
Field-sequence = Field-positive 8 (omega arith)

abbrev IsSender : ℕ → Type 0
IsSender n = n < 256 ^ 4

abbrev IsTag : ℕ → Type 0
IsTag n = n < 256 ^ 8

abbrev IsSequence : ℕ → Type 0
IsSequence n = (0 < n) × (n < 256 ^ 8)

-- ---- a message put at the end

abbrev AppendFields : Type 0
AppendFields = ℕ × (ℕ × (ℕ × (ℕ × List ℕ)))

abbrev make_append : AppendFields → Deed
make_append x = Append x.0 x.1.0 x.1.1.0 x.1.1.1.0 x.1.1.1.1

Reader-append : Reader append_at make_append (also (number 4) (also (number 8) (also (number 8) (also (number 8) plain)))) (both IsSender (both IsSequence (both IsTag (both IsTag IsBody))))
unfolding append_at
Reader-append =
    Reader-and _ (also (number 8) (also (number 8) (also (number 8) plain))) (both IsSequence (both IsTag (both IsTag IsBody))) Field-u32
    (λ sender. Reader-and _ (also (number 8) (also (number 8) plain)) (both IsTag (both IsTag IsBody)) Field-sequence
    (λ sequence. Reader-and _ (also (number 8) plain) (both IsTag IsBody) Field-tag
    (λ tag. Reader-and _ plain IsBody Field-tag
    (λ previous. Reader-body (λ body. Append sender sequence tag previous body)))))

-- ---- the first message taken

abbrev UnlinkFields : Type 0
UnlinkFields = ℕ × (ℕ × (ℕ × List ℕ))

abbrev make_unlink_head : UnlinkFields → Deed
make_unlink_head x = UnlinkHead x.0 x.1.0 x.1.1.0 x.1.1.1

Reader-unlink_head : Reader unlink_head_at make_unlink_head (also (number 4) (also (number 8) (also (number 8) plain))) (both IsSender (both IsSequence (both IsTag IsBody)))
unfolding unlink_head_at
Reader-unlink_head =
    Reader-and _ (also (number 8) (also (number 8) plain)) (both IsSequence (both IsTag IsBody)) Field-u32
    (λ sender. Reader-and _ (also (number 8) plain) (both IsTag IsBody) Field-sequence
    (λ sequence. Reader-and _ plain IsBody Field-tag
    (λ tag. Reader-body (λ body. UnlinkHead sender sequence tag body))))

-- ---- a group closed

abbrev make_close : ℕ × Unit {0} → Deed
make_close x = Close x.0

Reader-close : Reader close_at make_close (also (number 4) nothing) (both IsSender Always)
unfolding close_at
Reader-close = Reader-and _ nothing Always Field-u32 (λ sender. Reader-end (Close sender))

-- ---- a mark

abbrev MarkFields : Type 0
MarkFields = ℕ × (ℕ × (ℕ × Unit {0}))

abbrev make_mark : MarkFields → Deed
make_mark x = Mark x.0 x.1.0 x.1.1.0

Reader-mark : Reader mark_at make_mark (also (number 4) (also (number 8) (also (number 8) nothing))) (both IsSender (both IsTag (both IsTag Always)))
unfolding mark_at
Reader-mark =
    Reader-and _ (also (number 8) (also (number 8) nothing)) (both IsTag (both IsTag Always)) Field-u32
    (λ client. Reader-and _ (also (number 8) nothing) (both IsTag Always) Field-tag
    (λ tag. Reader-and _ nothing Always Field-tag (λ previous. Reader-end (Mark client tag previous))))

-- ---- a deed

IsRead : List ℕ → Deed → Type 0
IsRead bytes d = IsDeed d × (bytes ≡ spelled_deed d)

append_found : (kind : ℕ) (bytes : List ℕ) (d : Deed) → AreBytes bytes → kind ≡ 1 → append_at bytes ≡ Ok d → IsRead (kind ∷ bytes) d
unfolding IsRead number
append_found kind bytes d fits k e =
    let x = Reader-append.found bytes d fits e in
    let a = x.0 in
    let v = x.2 in
    let P : Deed → Type 0 = λ d. IsDeed d × (kind ∷ bytes ≡ spelled_deed d) in
    subst P (sym x.1) ((v.1.0.0, (v.0, v.1.0.1, v.1.1.0, v.1.1.1.0, v.1.1.1.1)), ap (λ (b : ℕ). b ∷ bytes) k ∙ ap (λ (t : List ℕ). 1 ∷ t) x.3)

unlink_head_found : (kind : ℕ) (bytes : List ℕ) (d : Deed) → AreBytes bytes → kind ≡ 2 → unlink_head_at bytes ≡ Ok d → IsRead (kind ∷ bytes) d
unfolding IsRead number
unlink_head_found kind bytes d fits k e =
    let x = Reader-unlink_head.found bytes d fits e in
    let v = x.2 in
    let P : Deed → Type 0 = λ d. IsDeed d × (kind ∷ bytes ≡ spelled_deed d) in
    subst P (sym x.1) ((v.1.0.0, (v.0, v.1.0.1, v.1.1.0, v.1.1.1)), ap (λ (b : ℕ). b ∷ bytes) k ∙ ap (λ (t : List ℕ). 2 ∷ t) x.3)

close_found : (kind : ℕ) (bytes : List ℕ) (d : Deed) → AreBytes bytes → kind ≡ 3 → close_at bytes ≡ Ok d → IsRead (kind ∷ bytes) d
unfolding IsRead number
close_found kind bytes d fits k e =
    let x = Reader-close.found bytes d fits e in
    let P : Deed → Type 0 = λ d. IsDeed d × (kind ∷ bytes ≡ spelled_deed d) in
    subst P (sym x.1) ((tt, x.2.0), ap (λ (b : ℕ). b ∷ bytes) k ∙ ap (λ (t : List ℕ). 3 ∷ t) (x.3 ∙ append-nil (number 4 x.0.0)))

-- the bytes of its fields, one behind the other
mark_spelling : (client tag previous : ℕ) → also (number 4) (also (number 8) (also (number 8) nothing)) (client, (tag, (previous, tt))) ≡ number 4 client ++ (number 8 tag ++ number 8 previous)
mark_spelling client tag previous = ap (λ (t : List ℕ). number 4 client ++ (number 8 tag ++ t)) (append-nil (number 8 previous))

mark_found : (bytes : List ℕ) (d : Deed) → AreBytes bytes → tag_deed_at bytes ≡ Ok d → IsRead bytes d
unfolding IsRead number tag_deed_at
mark_found [] d fits e = absurd cc
mark_found (kind ∷ bytes) d fits e =
    elim (chosen (eqb kind 1) (mark_at bytes) (Err Bad) (Ok d) e) [
      | inl (t, h) ↦
          let x = Reader-mark.found bytes d (AreBytes-tail kind bytes fits) h in
          let v = x.2 in
          let P : Deed → Type 0 = λ d. IsDeed d × (kind ∷ bytes ≡ spelled_deed d) in
          subst P (sym x.1) ((tt, (v.0, v.1.0, v.1.1.0)), ap (λ (b : ℕ). b ∷ bytes) (eqb-true _ _ t) ∙ ap (λ (t : List ℕ). 1 ∷ t) (x.3 ∙ mark_spelling x.0.0 x.0.1.0 x.0.1.1.0))
      | inr (t, h) ↦ absurd cc
    ]

deed_found : (bytes : List ℕ) (d : Deed) → AreBytes bytes → deed_at bytes ≡ Ok d → IsRead bytes d
unfolding deed_at
deed_found [] d fits e = absurd cc
deed_found (kind ∷ bytes) d fits e =
    let rest_fits = AreBytes-tail kind bytes fits in
    elim (chosen (eqb kind 1) (append_at bytes) _ (Ok d) e) [
      | inl (t, h) ↦ append_found kind bytes d rest_fits (eqb-true _ _ t) h
      | inr (t, e) ↦ elim (chosen (eqb kind 2) (unlink_head_at bytes) _ (Ok d) e) [
        | inl (t, h) ↦ unlink_head_found kind bytes d rest_fits (eqb-true _ _ t) h
        | inr (t, e) ↦ elim (chosen (eqb kind 3) (close_at bytes) (Err Bad) (Ok d) e) [
          | inl (t, h) ↦ close_found kind bytes d rest_fits (eqb-true _ _ t) h
          | inr (t, h) ↦ absurd cc
        ]
      ]
    ]

deed_again : (d : Deed) → IsDeed d → deed_level d ≡ 1 → deed_at (spelled_deed d) ≡ Ok d
unfolding deed_at number
deed_again (Append sender sequence tag previous body) is one =
    let f = is.1 in
    Reader-append.again (sender, (sequence, (tag, (previous, body)))) (f.0, ((is.0, f.1), (f.2, (f.3, f.4))))
deed_again (UnlinkHead sender sequence tag body) is one =
    let f = is.1 in
    Reader-unlink_head.again (sender, (sequence, (tag, body))) (f.0, ((is.0, f.1), (f.2, f.3)))
deed_again (Close sender) is one = ap close_at (sym (append-nil (number 4 sender))) ∙ Reader-close.again (sender, tt) (is.1, tt)
deed_again (Mark client tag previous) is one = absurd (let h : 2 ≡ 1 = one in omega (arith, h))

mark_again : (d : Deed) → IsDeed d → deed_level d ≡ 2 → tag_deed_at (spelled_deed d) ≡ Ok d
unfolding tag_deed_at number
mark_again (Append sender sequence tag previous body) is two = absurd (let h : 1 ≡ 2 = two in omega (arith, h))
mark_again (UnlinkHead sender sequence tag body) is two = absurd (let h : 1 ≡ 2 = two in omega (arith, h))
mark_again (Close sender) is two = absurd (let h : 1 ≡ 2 = two in omega (arith, h))
mark_again (Mark client tag previous) is two =
    let f = is.1 in
    ap mark_at (sym (mark_spelling client tag previous)) ∙ Reader-mark.again (client, (tag, (previous, tt))) (f.0, (f.1, (f.2, tt)))

-- a deed that was read, if one was
some_found : (bytes : List ℕ) (x : Result Deed Stop) → ((d : Deed) → x ≡ Ok d → IsRead bytes d) → IfSome (deed_of x) (λ d. IsDeed d × (bytes ≡ spelled_deed d))
unfolding IsRead
some_found bytes (Ok d) found = found d refl
some_found bytes (Err s) found = tt

-- what is decoded is spelled so, and what is spelled so is decoded
pub decoded_some : (bytes : List ℕ) (o : Option Deed) → AreBytes bytes → o ≡ deed_of (deed_at bytes) → IfSome o (λ d. IsDeed d × (bytes ≡ spelled_deed d))
decoded_some bytes o fits e =
    let P : Option Deed → Type 0 = λ o. IfSome o (λ d. IsDeed d × (bytes ≡ spelled_deed d)) in
    subst P (sym e) (some_found bytes (deed_at bytes) (λ d read. deed_found bytes d fits read))

pub mark_some : (bytes : List ℕ) (o : Option Deed) → AreBytes bytes → o ≡ deed_of (tag_deed_at bytes) → IfSome o (λ d. IsDeed d × (bytes ≡ spelled_deed d))
mark_some bytes o fits e =
    let P : Option Deed → Type 0 = λ o. IfSome o (λ d. IsDeed d × (bytes ≡ spelled_deed d)) in
    subst P (sym e) (some_found bytes (tag_deed_at bytes) (λ d read. mark_found bytes d fits read))

pub decoded_only : (bytes : List ℕ) (o : Option Deed) → o ≡ deed_of (deed_at bytes) → (d : Deed) → IsDeed d → deed_level d ≡ 1 → bytes ≡ spelled_deed d → o ≡ Some d
decoded_only bytes o e d is one h = e ∙ ap (λ (b : List ℕ). deed_of (deed_at b)) h ∙ ap deed_of (deed_again d is one)

pub mark_only : (bytes : List ℕ) (o : Option Deed) → o ≡ deed_of (tag_deed_at bytes) → (d : Deed) → IsDeed d → deed_level d ≡ 2 → bytes ≡ spelled_deed d → o ≡ Some d
mark_only bytes o e d is two h = e ∙ ap (λ (b : List ℕ). deed_of (tag_deed_at b)) h ∙ ap deed_of (mark_again d is two)

-- what is read is the deed that the bytes are
pub decoded_told : (bytes : List ℕ) (o : Option Deed) → o ≡ deed_of (deed_at bytes) → o ≡ deed_in bytes
decoded_told bytes o e = e ∙ read_is bytes

told_by_chains : (d : Deed) → IsDeed d → deed_level d ≡ 1 → TellsItself d
told_by_chains d is one = by_its_level d one ∙ sym (read_is (spelled_deed d)) ∙ ap deed_of (deed_again d is one)

-- the same of a mark
pub mark_told : (bytes : List ℕ) (o : Option Deed) → o ≡ deed_of (tag_deed_at bytes) → o ≡ mark_in bytes
mark_told bytes o e = e ∙ mark_read_is bytes

-- the spelling of a deed tells that deed
pub deeds_are_told : (d : Deed) → IsDeed d → TellsItself d
deeds_are_told (Append sender sequence tag previous body) is = told_by_chains (Append sender sequence tag previous body) is refl
deeds_are_told (UnlinkHead sender sequence tag body) is = told_by_chains (UnlinkHead sender sequence tag body) is refl
deeds_are_told (Close sender) is = told_by_chains (Close sender) is refl
deeds_are_told (Mark client tag previous) is =
    let d : Deed = Mark client tag previous in
    sym (mark_read_is (spelled_deed d)) ∙ ap deed_of (mark_again d is refl)

abbrev some : Deed → Option Deed
some d = Some d

some_is : (d e : Deed) → some d ≡ some e → d ≡ e
some_is d e h = cc

of_a_level : (d : Deed) → (deed_level d ≡ 1) ⊎ (deed_level d ≡ 2)
of_a_level (Append sender sequence tag previous body) = inl refl
of_a_level (UnlinkHead sender sequence tag body) = inl refl
of_a_level (Close sender) = inl refl
of_a_level (Mark client tag previous) = inr refl

-- a mark is shorter than a deed of chains that begins as it does
short_mark : (client tag previous : ℕ) (e : Deed) → deed_level e ≡ 1 → spelled_deed (Mark client tag previous) ≡ spelled_deed e → ⊥
unfolding number
short_mark client tag previous (Append sender sequence old before body) one h =
    let a = length-append (number 4 client) (number 8 tag ++ number 8 previous) in
    let b = length-append (number 8 tag) (number 8 previous) in
    let c = length-append (number 4 sender) (number 8 sequence ++ (number 8 old ++ (number 8 before ++ body))) in
    let d = length-append (number 8 sequence) (number 8 old ++ (number 8 before ++ body)) in
    let e = length-append (number 8 old) (number 8 before ++ body) in
    let f = length-append (number 8 before) body in
    let same : length (1 ∷ (number 4 client ++ (number 8 tag ++ number 8 previous))) ≡ length (1 ∷ (number 4 sender ++ (number 8 sequence ++ (number 8 old ++ (number 8 before ++ body))))) = ap length h in
    omega (arith, a, b, c, d, e, f, same, length-number 4 client, length-number 8 tag, length-number 8 previous, length-number 4 sender, length-number 8 sequence, length-number 8 old, length-number 8 before)
short_mark client tag previous (UnlinkHead sender sequence old body) one h = absurd cc
short_mark client tag previous (Close sender) one h = absurd cc
short_mark client tag previous (Mark other old before) one h = absurd (let k : 2 ≡ 1 = one in omega (arith, k))

mark_apart : (d e : Deed) → deed_level d ≡ 2 → deed_level e ≡ 1 → spelled_deed d ≡ spelled_deed e → ⊥
mark_apart (Append sender sequence tag previous body) e two one h = let k : 1 ≡ 2 = two in omega (arith, k)
mark_apart (UnlinkHead sender sequence tag body) e two one h = let k : 1 ≡ 2 = two in omega (arith, k)
mark_apart (Close sender) e two one h = let k : 1 ≡ 2 = two in omega (arith, k)
mark_apart (Mark client tag previous) e two one h = short_mark client tag previous e one h

same_level : (d e : Deed) → spelled_deed d ≡ spelled_deed e → deed_level d ≡ deed_level e
same_level d e h = elim (of_a_level d) [
  | inl one ↦ elim (of_a_level e) [ inl also_one ↦ one ∙ sym also_one | inr two ↦ absurd (mark_apart e d two one (sym h)) ]
  | inr two ↦ elim (of_a_level e) [ inl one ↦ absurd (mark_apart d e two one h) | inr also_two ↦ two ∙ sym also_two ]
]

pub one_deed : (d e : Deed) → IsDeed d → IsDeed e → spelled_deed d ≡ spelled_deed e → d ≡ e
one_deed d e f g h =
    some_is d e (sym (deeds_are_told d f) ∙ ap (λ (n : ℕ). deed_by n (spelled_deed d)) (same_level d e h) ∙ ap (deed_by (deed_level e)) h ∙ deeds_are_told e g)
