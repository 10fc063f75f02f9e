-- What is named by a log whose records follow the rules.
use Rattle.std.proofs.Common.{◌≡◌, ℕ, ◌+◌, ◌<◌, ◌≤◌, true, false, ◌||◌, ◌&&◌, max, nat_eq, List, [], ◌∷◌, length, Some, inl, inr, refl, sym, ◌∙◌, ap, subst, arith, ◌⊎◌}
use Rattle.std.proofs.lemmas.Bool.{and_from, cases_Bool, cases_lt, eq-eqb, eqb-true, true≢false, ne_eqb, or_left, or_parts, or_right, not-true}
use Rattle.rq_model.specs.declared.txn.Txn.{Txn}
use Rattle.rq_model.specs.declared.txn.Sub.{Sub}
use Rattle.rq_model.specs.declared.record.Record.{Record}
use Rattle.rq_model.specs.declared.record.Record.TheVariants as records
use Rattle.rq_model.specs.Unended.{any_record}
use Rattle.rq_model.specs.Vocabulary.{In, first, same_txn}
use Rattle.rq_model.proofs.Lists.{In-filter, same_is, same_self}
use Rattle.rq_views.specs.Log.{same_op}
use Rattle.rq_views.specs.Items.{operation}
use Rattle.rq_views.specs.Numbers.{number_in}
use Rattle.rq_views.proofs.Overlay.{same_self as op_self}
use Rattle.rq_analysis.specs.declared.open_work.UndoableWrite.{UndoableWrite}
use Rattle.rq_analysis.specs.OpenWorkView.{undoable_at}
use Rattle.rq_analysis.specs.Rules.{FollowAll, FollowsRules, ends_of, greatest_number, has_op, left_of, standing, takes_back, undoes, writes_of}
use Rattle.rq_analysis.specs.RuleTheorems.{IsEndOf, IsWriteOf, RulesTell, names_end, names_write, record_at}
use Rattle.rq_analysis.proofs.Lists.{first_in}
use Rattle.rq_analysis.proofs.Operations.{within_greatest}
use Rattle.rq_analysis.proofs.Owed as owed
use Rattle.rq_analysis.proofs.Writes as written

-- a record behind the newest
behind : (r : Record) (log : List Record) (lsn : ℕ) → lsn < length log + 1 → record_at lsn (r ∷ log) ≡ record_at lsn log
behind r log lsn lt = let other : nat_eq lsn (length log + 1) ≡ false = ne_eqb lsn (length log + 1) (λ e. absurd (omega (arith, lt, e))) in rw other refl

newest : (r : Record) (log : List Record) → record_at (length log + 1) (r ∷ log) ≡ Some r
newest r log = let own : nat_eq (length log + 1) (length log + 1) ≡ true = eq-eqb (length log + 1) (length log + 1) refl in rw own refl

-- a write of an operation is that of a record
abbrev IsThere : List Record → UndoableWrite → Type 0
IsThere log p = (after : List ℕ) × (record_at p.lsn log ≡ Some (records.PageOp p.by.txn p.by.number p.page p.slot p.before after))

older_there : (o : Sub) (r : Record) (log : List Record) (p : UndoableWrite) → In p (writes_of o log) → IsThere log p → IsThere (r ∷ log) p
older_there o r log p i h = (h.0, behind r log p.lsn (written.all_below (length log + 1) (writes_of o log) p (written.writes_below o log) i) ∙ h.1)

newest_there : (o : Sub) (t : Txn) (n page slot : ℕ) (before after : List ℕ) (log : List Record) (p : UndoableWrite) → (In p (writes_of o log) → IsThere log p)
    → In p (undoable_at (length log + 1) (operation t n) page slot before ∷ writes_of o log) → IsThere (records.PageOp t n page slot before after ∷ log) p
newest_there o t n page slot before after log p h i = elim i [
  | inl e ↦ subst (IsThere (records.PageOp t n page slot before after ∷ log)) (sym e) (after, newest (records.PageOp t n page slot before after) log)
  | inr k ↦ older_there o (records.PageOp t n page slot before after) log p k (h k)
]

write_there : (o : Sub) (log : List Record) (p : UndoableWrite) → In p (writes_of o log) → IsThere log p
write_there o [] p i = absurd i
write_there o (records.PageOp t n page slot before after ∷ log) p i = elim (cases_Bool (same_op (operation t n) o)) [
  | inl y ↦ newest_there o t n page slot before after log p (write_there o log p) (rw y at i)
  | inr m ↦ (let j : In p (writes_of o log) = rw m at i in older_there o (records.PageOp t n page slot before after) log p j (write_there o log p j))
]
write_there o (records.PageUndo t n undone page slot after ∷ log) p i = older_there o (records.PageUndo t n undone page slot after) log p i (write_there o log p i)
write_there o (records.OpEnd t n level deed ∷ log) p i = older_there o (records.OpEnd t n level deed) log p i (write_there o log p i)
write_there o (records.OpVoid t n ∷ log) p i = older_there o (records.OpVoid t n) log p i (write_there o log p i)
write_there o (records.CompEnd t n undone ∷ log) p i = older_there o (records.CompEnd t n undone) log p i (write_there o log p i)
write_there o (records.Commit t ∷ log) p i = older_there o (records.Commit t) log p i (write_there o log p i)
write_there o (records.AbortEnd t ∷ log) p i = older_there o (records.AbortEnd t) log p i (write_there o log p i)
write_there o (records.Restart j ∷ log) p i = older_there o (records.Restart j) log p i (write_there o log p i)
write_there o (records.Base many j ∷ log) p i = older_there o (records.Base many j) log p i (write_there o log p i)

-- that of the PageUndo that follows
named_there : (log : List Record) (t : Txn) (n lsn page slot : ℕ) (after : List ℕ) → first (standing (operation t n) log) ≡ Some (undoable_at lsn (operation t n) page slot after)
    → IsThere log (undoable_at lsn (operation t n) page slot after) × (any_record (undoes (operation t n) lsn) log ≡ false)
named_there log t n lsn page slot after e =
    let p = undoable_at lsn (operation t n) page slot after in
    let i = In-filter (written.stands (operation t n) log) (writes_of (operation t n) log) p (first_in (standing (operation t n) log) p e) in
    (write_there (operation t n) log p i.0, not-true (any_record (undoes (operation t n) lsn) log) i.1)

same_writer : (t u : Txn) (n m p q s r : ℕ) (a b x y : List ℕ) → Some (records.PageOp t n p s a x) ≡ Some (records.PageOp u m q r b y) → operation t n ≡ operation u m
same_writer t u n m p q s r a b x y e = let k : t ≡ u = cc in let l : n ≡ m = cc in λ i. record { txn = k i; number = l i }

-- none names what is not there yet
none_later : (log : List Record) (lsn : ℕ) → FollowAll log → length log < lsn → any_record (names_write lsn) log ≡ false
none_later [] lsn f lt = refl
none_later (records.PageUndo t n undone page slot after ∷ log) lsn f lt =
    let a = written.names_older (operation t n) log (undoable_at undone (operation t n) page slot after) f.0.undoes in
    let other : nat_eq undone lsn ≡ false = ne_eqb undone lsn (λ e. absurd (omega (arith, a, e, lt))) in
    rw other (none_later log lsn f.1 (omega (arith, lt)))
none_later (records.PageOp t n page slot before after ∷ log) lsn f lt = none_later log lsn f.1 (omega (arith, lt))
none_later (_ ∷ log) lsn f lt = none_later log lsn f.1 (omega (arith, lt))

-- where a record has this LSN, it is the newest, or one behind
at_or_behind : (r : Record) (log : List Record) (lsn : ℕ) (x : Record) → record_at lsn (r ∷ log) ≡ Some x → ((lsn ≡ length log + 1) × (r ≡ x)) ⊎ (record_at lsn log ≡ Some x)
at_or_behind r log lsn x e = elim (cases_Bool (nat_eq lsn (length log + 1))) [
  | inl y ↦ inl (eqb-true lsn (length log + 1) y, same_one r x (rw y at e))
  | inr n ↦ inr (rw n at e)
] where
  same_one : (a b : Record) → Some a ≡ Some b → a ≡ b
  same_one a b k = cc

module _ (t : Txn) (n lsn page slot : ℕ) (before after : List ℕ) where
  abbrev the_write : Record
  the_write = records.PageOp t n page slot before after

  module _ (log : List Record) (f : FollowAll log) (k : record_at lsn log ≡ Some the_write) (ih : any_record (undoes (operation t n) lsn) log ≡ false → any_record (names_write lsn) log ≡ false) where
    -- one that names it is of its operation
    one_more : (x : Record) → FollowsRules log x → any_record (undoes (operation t n) lsn) (x ∷ log) ≡ false → any_record (names_write lsn) (x ∷ log) ≡ false
    one_more (records.PageUndo u m undone p s a) g h =
        let parts = or_parts (same_op (operation u m) (operation t n) && nat_eq undone lsn) (any_record (undoes (operation t n) lsn) log) h in
        elim (cases_Bool (nat_eq undone lsn)) [
          | inl y ↦
              let w = (named_there log u m undone p s a g.undoes).0 in
              let is : operation u m ≡ operation t n = same_writer u t m n p page s slot a before w.0 after (sym w.1 ∙ ap (λ (i : ℕ). record_at i log) (eqb-true undone lsn y) ∙ k) in
              let own : same_op (operation u m) (operation t n) ≡ true = ap (λ (o : Sub). same_op o (operation t n)) is ∙ op_self (operation t n) in
              absurd (true≢false (sym (and_from (same_op (operation u m) (operation t n)) (nat_eq undone lsn) own y) ∙ parts.0))
          | inr off ↦ rw off (ih parts.1)
        ]
    one_more (records.PageOp u m p s b a) g h = ih h
    one_more _ g h = ih h

  not_named : (log : List Record) → FollowAll log → record_at lsn log ≡ Some the_write → any_record (undoes (operation t n) lsn) log ≡ false → any_record (names_write lsn) log ≡ false
  not_named [] f e h = refl
  not_named (r ∷ log) f e h = elim (at_or_behind r log lsn the_write e) [
    | inl k ↦ subst (λ (x : Record). any_record (names_write lsn) (x ∷ log) ≡ false) (sym k.1) (none_later log lsn f.1 (let a = k.0 in omega (arith, a)))
    | inr k ↦ one_more log f.1 k (not_named log f.1 k) r f.0 h
  ]

undone_told : (log : List Record) (t : Txn) (n lsn page slot : ℕ) (after : List ℕ) → FollowAll (records.PageUndo t n lsn page slot after ∷ log) → IsWriteOf log t n lsn page slot after
undone_told log t n lsn page slot after f =
    let k = named_there log t n lsn page slot after f.0.undoes in
    record { after = k.0.0; there = k.0.1; not_named = not_named t n lsn page slot after k.0.0 log f.1 k.0.1 k.1 }

-- the same of OpEnds and CompEnds
abbrev EndsThere : List Record → Txn → ℕ → Type 0
EndsThere log t lsn = (number : ℕ) × (level : ℕ) × (deed : List ℕ) × (record_at lsn log ≡ Some (records.OpEnd t number level deed))

older_end : (t : Txn) (r : Record) (log : List Record) (lsn : ℕ) → In lsn (ends_of t log) → EndsThere log t lsn → EndsThere (r ∷ log) t lsn
older_end t r log lsn i h = (h.0, h.1, h.2, behind r log lsn (owed.all_below (length log + 1) (ends_of t log) lsn (owed.ends_below t log) i) ∙ h.3)

newest_end : (t u : Txn) (n level : ℕ) (deed : List ℕ) (log : List Record) (lsn : ℕ) → u ≡ t → (In lsn (ends_of t log) → EndsThere log t lsn)
    → In lsn ((length log + 1) ∷ ends_of t log) → EndsThere (records.OpEnd u n level deed ∷ log) t lsn
newest_end t u n level deed log lsn is h i = elim i [
  | inl e ↦ (n, level, deed, ap (λ k. record_at k (records.OpEnd u n level deed ∷ log)) e ∙ newest (records.OpEnd u n level deed) log ∙ ap (λ (v : Txn). Some (records.OpEnd v n level deed)) is)
  | inr k ↦ older_end t (records.OpEnd u n level deed) log lsn k (h k)
]

end_there : (t : Txn) (log : List Record) (lsn : ℕ) → In lsn (ends_of t log) → EndsThere log t lsn
end_there t [] lsn i = absurd i
end_there t (records.OpEnd u n level deed ∷ log) lsn i = elim (cases_Bool (same_txn u t)) [
  | inl y ↦ newest_end t u n level deed log lsn (same_is u t y) (end_there t log lsn) (rw y at i)
  | inr m ↦ (let j : In lsn (ends_of t log) = rw m at i in older_end t (records.OpEnd u n level deed) log lsn j (end_there t log lsn j))
]
end_there t (records.PageOp u n page slot before after ∷ log) lsn i = older_end t (records.PageOp u n page slot before after) log lsn i (end_there t log lsn i)
end_there t (records.PageUndo u n undone page slot after ∷ log) lsn i = older_end t (records.PageUndo u n undone page slot after) log lsn i (end_there t log lsn i)
end_there t (records.OpVoid u n ∷ log) lsn i = older_end t (records.OpVoid u n) log lsn i (end_there t log lsn i)
end_there t (records.CompEnd u n undone ∷ log) lsn i = older_end t (records.CompEnd u n undone) log lsn i (end_there t log lsn i)
end_there t (records.Commit u ∷ log) lsn i = older_end t (records.Commit u) log lsn i (end_there t log lsn i)
end_there t (records.AbortEnd u ∷ log) lsn i = older_end t (records.AbortEnd u) log lsn i (end_there t log lsn i)
end_there t (records.Restart j ∷ log) lsn i = older_end t (records.Restart j) log lsn i (end_there t log lsn i)
end_there t (records.Base many j ∷ log) lsn i = older_end t (records.Base many j) log lsn i (end_there t log lsn i)

end_named : (log : List Record) (t : Txn) (lsn : ℕ) → first (left_of t log) ≡ Some lsn → EndsThere log t lsn × (any_record (takes_back t lsn) log ≡ false)
end_named log t lsn e =
    let i = In-filter (owed.is_left t log) (ends_of t log) lsn (first_in (left_of t log) lsn e) in
    (end_there t log lsn i.0, not-true (any_record (takes_back t lsn) log) i.1)

same_ender : (t u : Txn) (n m i j : ℕ) (a b : List ℕ) → Some (records.OpEnd t n i a) ≡ Some (records.OpEnd u m j b) → t ≡ u
same_ender t u n m i j a b e = cc

no_later_end : (log : List Record) (lsn : ℕ) → FollowAll log → length log < lsn → any_record (names_end lsn) log ≡ false
no_later_end [] lsn f lt = refl
no_later_end (records.CompEnd t n undone ∷ log) lsn f lt =
    let a = owed.names_older t log undone f.0.takes_back in
    let other : nat_eq undone lsn ≡ false = ne_eqb undone lsn (λ e. absurd (omega (arith, a, e, lt))) in
    rw other (no_later_end log lsn f.1 (omega (arith, lt)))
no_later_end (records.PageOp t n page slot before after ∷ log) lsn f lt = no_later_end log lsn f.1 (omega (arith, lt))
no_later_end (_ ∷ log) lsn f lt = no_later_end log lsn f.1 (omega (arith, lt))

module _ (t : Txn) (n level lsn : ℕ) (deed : List ℕ) where
  abbrev the_end : Record
  the_end = records.OpEnd t n level deed

  module _ (log : List Record) (f : FollowAll log) (k : record_at lsn log ≡ Some the_end) (ih : any_record (takes_back t lsn) log ≡ false → any_record (names_end lsn) log ≡ false) where
    -- one that names it is of its transaction
    end_more : (x : Record) → FollowsRules log x → any_record (takes_back t lsn) (x ∷ log) ≡ false → any_record (names_end lsn) (x ∷ log) ≡ false
    end_more (records.CompEnd u m undone) g h =
        let parts = or_parts (same_txn u t && nat_eq undone lsn) (any_record (takes_back t lsn) log) h in
        elim (cases_Bool (nat_eq undone lsn)) [
          | inl y ↦
              let w = (end_named log u undone g.takes_back).0 in
              let is : u ≡ t = same_ender u t w.0 n w.1 level w.2 deed (sym w.3 ∙ ap (λ (i : ℕ). record_at i log) (eqb-true undone lsn y) ∙ k) in
              let own : same_txn u t ≡ true = ap (λ (v : Txn). same_txn v t) is ∙ same_self t in
              absurd (true≢false (sym (and_from (same_txn u t) (nat_eq undone lsn) own y) ∙ parts.0))
          | inr off ↦ rw off (ih parts.1)
        ]
    end_more (records.PageOp u m p s b a) g h = ih h
    end_more _ g h = ih h

  end_not_named : (log : List Record) → FollowAll log → record_at lsn log ≡ Some the_end → any_record (takes_back t lsn) log ≡ false → any_record (names_end lsn) log ≡ false
  end_not_named [] f e h = refl
  end_not_named (r ∷ log) f e h = elim (at_or_behind r log lsn the_end e) [
    | inl k ↦ subst (λ (x : Record). any_record (names_end lsn) (x ∷ log) ≡ false) (sym k.1) (no_later_end log lsn f.1 (let a = k.0 in omega (arith, a)))
    | inr k ↦ end_more log f.1 k (end_not_named log f.1 k) r f.0 h
  ]

taken_told : (log : List Record) (t : Txn) (n lsn : ℕ) → FollowAll (records.CompEnd t n lsn ∷ log) → IsEndOf log t lsn
taken_told log t n lsn f =
    let k = end_named log t lsn f.0.takes_back in
    record { number = k.0.0; level = k.0.1; deed = k.0.2; there = k.0.3; not_named = end_not_named t k.0.0 k.0.1 lsn k.0.2 log f.1 k.0.3 k.1 }

-- an operation with a number beyond the greatest before the record is the record's
one_of : (t : Txn) (n : ℕ) (o : Sub) (log : List Record) → (has_op o log ≡ false → o.number ≡ greatest_number o.txn log + 1)
    → (n ≤ greatest_number t log → has_op (operation t n) log ≡ true) → n ≤ max (number_in t (Some o)) (greatest_number t log)
    → (same_op o (operation t n) || has_op (operation t n) log) ≡ true
one_of t n o log new rest le = elim (cases_lt (greatest_number t log) n) [
  | inr within ↦ or_right (same_op o (operation t n)) (has_op (operation t n) log) (rest within)
  | inl beyond ↦ elim (cases_Bool (same_txn o.txn t)) [
    | inr other ↦ (let k : n ≤ max 0 (greatest_number t log) = rw other at le in absurd (omega (arith, k, beyond)))
    | inl own ↦
        let is : o.txn ≡ t = same_is o.txn t own in
        let k : n ≤ max o.number (greatest_number t log) = rw own at le in
        elim (cases_Bool (has_op o log)) [
          | inl y ↦
              let a : o.number ≤ greatest_number o.txn log = within_greatest o.txn o.number log y in
              let b : greatest_number o.txn log ≡ greatest_number t log = ap (λ (u : Txn). greatest_number u log) is in
              absurd (omega (arith, a, b, k, beyond))
          | inr off ↦
              let a : o.number ≡ greatest_number o.txn log + 1 = new off in
              let b : greatest_number o.txn log ≡ greatest_number t log = ap (λ (u : Txn). greatest_number u log) is in
              let c : o.number ≡ n = omega (arith, a, b, k, beyond) in
              or_left (same_op o (operation t n)) (has_op (operation t n) log) (and_from (same_txn o.txn t) (nat_eq o.number n) own (eq-eqb o.number n c))
        ]
  ]
]

none_more : (g n : ℕ) → n ≤ max 0 g → n ≤ g
none_more g n le = omega (arith, le)

has_begun : (o : Sub) (log : List Record) → has_op o log ≡ true → has_op o log ≡ false → o.number ≡ greatest_number o.txn log + 1
has_begun o log y off = absurd (true≢false (sym y ∙ off))

no_gaps : (log : List Record) (t : Txn) (n : ℕ) → FollowAll log → 1 ≤ n → n ≤ greatest_number t log → has_op (operation t n) log ≡ true
no_gaps [] t n f low le = absurd (omega (arith, low, le))
no_gaps (records.PageOp u m page slot before after ∷ log) t n f low le = one_of t n (operation u m) log f.0.numbered (no_gaps log t n f.1 low) le
no_gaps (records.PageUndo u m undone page slot after ∷ log) t n f low le = one_of t n (operation u m) log (has_begun (operation u m) log f.0.begun) (no_gaps log t n f.1 low) le
no_gaps (records.OpEnd u m level deed ∷ log) t n f low le = one_of t n (operation u m) log (has_begun (operation u m) log f.0.begun) (no_gaps log t n f.1 low) le
no_gaps (records.OpVoid u m ∷ log) t n f low le = one_of t n (operation u m) log (has_begun (operation u m) log f.0.begun) (no_gaps log t n f.1 low) le
no_gaps (records.CompEnd u m undone ∷ log) t n f low le = one_of t n (operation u m) log (has_begun (operation u m) log f.0.begun) (no_gaps log t n f.1 low) le
no_gaps (_ ∷ log) t n f low le = no_gaps log t n f.1 low (none_more (greatest_number t log) n le)

pub rules_told : RulesTell
rules_told = record { undone = undone_told; taken_back = taken_told; no_gaps = no_gaps }
