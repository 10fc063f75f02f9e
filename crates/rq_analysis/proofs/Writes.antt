-- The writes of an operation that are not undone are kept.
use Rattle.std.proofs.Common.{◌≡◌, ℕ, suc, ◌+◌, ◌<◌, ◌≤◌, Bool, true, false, not, ◌||◌, ◌&&◌, nat_eq, List, [], ◌∷◌, length, Some, inl, inr, refl, sym, ◌∙◌, ap, subst, arith}
use Rattle.std.specs.List.{filter}
use Rattle.std.proofs.lemmas.Bool.{cases_Bool, eq-eqb, ne_eqb, or_parts}
use Rattle.rq_model.specs.declared.txn.Sub.{Sub}
use Rattle.rq_model.specs.declared.record.Record.{Record}
use Rattle.rq_model.specs.declared.record.Record.TheVariants as records
use Rattle.rq_model.specs.Unended.{any_record}
use Rattle.rq_model.specs.Vocabulary.{In, first}
use Rattle.rq_model.proofs.Lists.{In-filter}
use Rattle.rq_views.specs.Log.{same_op}
use Rattle.rq_views.specs.Items.{operation}
use Rattle.rq_views.proofs.Overlay.{same_is as op_is}
use Rattle.rq_views.proofs.AllOpen.{tail}
use Rattle.rq_analysis.specs.declared.open_work.UndoableWrite.{UndoableWrite}
use Rattle.rq_analysis.specs.OpenWorkView.{open_work_of, undoable_at, undoable_by, without_newest, without_undoable}
use Rattle.rq_analysis.proofs.Stacks as stacks
use Rattle.rq_analysis.proofs.Marks.{none_written}
use Rattle.rq_analysis.proofs.Noting.{filter_twice, filter_same}
use Rattle.rq_analysis.proofs.Undoable.{apart, undoable}
use Rattle.rq_analysis.specs.Rules.{FollowAll, has_op_end, standing, undoes, writes_of}
use Rattle.rq_analysis.proofs.Lists.{first_in, first_split}

abbrev pub stands : Sub → List Record → UndoableWrite → Bool
stands o log p = not (any_record (undoes o p.lsn) log)

-- the newest stands first, and all have an LSN below this one
abbrev pub AreBelow : ℕ → List UndoableWrite → Type 0
AreBelow n [] = Unit {0}
AreBelow n (p ∷ ps) = (p.lsn < n) × AreBelow p.lsn ps

below_more : (m n : ℕ) (ps : List UndoableWrite) → m ≤ n → AreBelow m ps → AreBelow n ps
below_more m n [] le h = tt
below_more m n (p ∷ ps) le h = ((let a = h.0 in omega (arith, a, le)), h.1)

below_filter : (f : UndoableWrite → Bool) (n : ℕ) (ps : List UndoableWrite) → AreBelow n ps → AreBelow n (filter f ps)
below_filter f n [] h = tt
below_filter f n (p ∷ ps) h = elim (cases_Bool (f p)) [
  | inl y ↦ rw y (h.0, below_filter f p.lsn ps h.1)
  | inr m ↦ rw m (let a = h.0 in below_more p.lsn n (filter f ps) (omega (arith, a)) (below_filter f p.lsn ps h.1))
]

pub all_below : (n : ℕ) (ps : List UndoableWrite) (p : UndoableWrite) → AreBelow n ps → In p ps → p.lsn < n
all_below n [] p h i = absurd i
all_below n (q ∷ ps) p h i = elim i [
  | inl e ↦ (let a : p.lsn ≡ q.lsn = ap (λ (x : UndoableWrite). x.lsn) e in let b = h.0 in omega (arith, a, b))
  | inr j ↦ (let a = all_below q.lsn ps p h.1 j in let b = h.0 in omega (arith, a, b))
]

-- a write is one of a record of the log
older_below : (o : Sub) (log : List Record) → AreBelow (length log + 1) (writes_of o log) → AreBelow (suc (length log) + 1) (writes_of o log)
older_below o log h = below_more (length log + 1) (suc (length log) + 1) (writes_of o log) (omega arith) h

pub writes_below : (o : Sub) (log : List Record) → AreBelow (length log + 1) (writes_of o log)
writes_below o [] = tt
writes_below o (records.PageOp t n page slot before after ∷ log) = elim (cases_Bool (same_op (operation t n) o)) [
  | inl y ↦ rw y (omega arith, writes_below o log)
  | inr m ↦ rw m (older_below o log (writes_below o log))
]
writes_below o (_ ∷ log) = older_below o log (writes_below o log)

-- what a PageUndo names is a record behind it
pub names_older : (o : Sub) (log : List Record) (p : UndoableWrite) → first (standing o log) ≡ Some p → p.lsn < length log + 1
names_older o log p e =
    let k = In-filter (stands o log) (writes_of o log) p (first_in (standing o log) p e) in
    all_below (length log + 1) (writes_of o log) p (writes_below o log) k.0

-- none names one that is not there yet
none_later : (o : Sub) (log : List Record) (lsn : ℕ) → FollowAll log → length log < lsn → any_record (undoes o lsn) log ≡ false
none_later o [] lsn f lt = refl
none_later o (records.PageUndo t n undone page slot after ∷ log) lsn f lt =
    let a = names_older (operation t n) log (undoable_at undone (operation t n) page slot after) f.0.undoes in
    let other : nat_eq undone lsn ≡ false = ne_eqb undone lsn (λ e. absurd (omega (arith, a, e, lt))) in
    rw other (none_there (same_op (operation t n) o) (any_record (undoes o lsn) log) (none_later o log lsn f.1 (omega (arith, lt))))
  where
    none_there : (b c : Bool) → c ≡ false → ((b && false) || c) ≡ false
    none_there true c e = e
    none_there false c e = e
none_later o (records.PageOp t n page slot before after ∷ log) lsn f lt = none_later o log lsn f.1 (omega (arith, lt))
none_later o (_ ∷ log) lsn f lt = none_later o log lsn f.1 (omega (arith, lt))

-- the first alone is left out
all_but : (n : ℕ) (ps : List UndoableWrite) → AreBelow n ps → filter (λ p. not (nat_eq n p.lsn)) ps ≡ ps
all_but n ps h = but n n ps (omega arith) h where
  but : (n m : ℕ) (ps : List UndoableWrite) → m ≤ n → AreBelow m ps → filter (λ p. not (nat_eq n p.lsn)) ps ≡ ps
  but n m [] le h = refl
  but n m (p ∷ ps) le h =
      let lt = h.0 in
      let other : nat_eq n p.lsn ≡ false = ne_eqb n p.lsn (λ e. absurd (omega (arith, e, lt, le))) in
      rw other (ap (λ l. p ∷ l) (but n p.lsn ps (omega (arith, lt, le)) h.1))

but_first : (n : ℕ) (qs : List UndoableWrite) (p : UndoableWrite) → AreBelow n qs → first qs ≡ Some p → filter (λ q. not (nat_eq p.lsn q.lsn)) qs ≡ tail qs
but_first n qs p h e =
    let k = first_split qs p e in
    let b : AreBelow n (p ∷ k.0) = subst (AreBelow n) k.1 h in
    let own : nat_eq p.lsn p.lsn ≡ true = eq-eqb p.lsn p.lsn refl in
    ap (filter (λ q. not (nat_eq p.lsn q.lsn))) k.1 ∙ rw own (all_but p.lsn k.0 b.1) ∙ ap tail (sym k.1)

ended_other : (u o : Sub) (log : List Record) → same_op u o ≡ false → filter (undoable_by o) (without_undoable u (undoable log)) ≡ filter (undoable_by o) (undoable log)
ended_other u o log n = stacks.other_none (undoable_by u) (undoable_by o) (undoable log) (apart u o n)

undone_one : (u o : Sub) (lsn : ℕ) (log : List Record) → same_op u o ≡ false → standing o log ≡ filter (λ p. not ((same_op u o && nat_eq lsn p.lsn) || any_record (undoes o p.lsn) log)) (writes_of o log)
undone_one u o lsn log n = filter_same (stands o log) (λ p. not ((same_op u o && nat_eq lsn p.lsn) || any_record (undoes o p.lsn) log)) (writes_of o log) (λ p. rw n refl)

undone_own : (u o : Sub) (lsn : ℕ) (log : List Record) → same_op u o ≡ true
    → filter (λ p. not (nat_eq lsn p.lsn)) (standing o log) ≡ filter (λ p. not ((same_op u o && nat_eq lsn p.lsn) || any_record (undoes o p.lsn) log)) (writes_of o log)
undone_own u o lsn log y =
    sym (filter_twice (λ p. nat_eq lsn p.lsn) (λ p. any_record (undoes o p.lsn) log) (writes_of o log))
    ∙ filter_same (λ p. not (nat_eq lsn p.lsn || any_record (undoes o p.lsn) log)) (λ p. not ((same_op u o && nat_eq lsn p.lsn) || any_record (undoes o p.lsn) log)) (writes_of o log) (λ p. rw y refl)

-- of an operation without an end those writes are kept that no PageUndo names
pub undoable_kept : (log : List Record) → FollowAll log → (o : Sub) → has_op_end o log ≡ false → filter (undoable_by o) (open_work_of log).undoable ≡ standing o log
undoable_kept [] f o g = refl
undoable_kept (records.PageOp t n page slot before after ∷ log) f o g = elim (cases_Bool (same_op (operation t n) o)) [
  | inl y ↦
      let none : any_record (undoes o (length log + 1)) log ≡ false = none_later o log (length log + 1) f.1 (omega arith) in
      rw (y, none) (ap (λ l. undoable_at (length log + 1) (operation t n) page slot before ∷ l) (undoable_kept log f.1 o g))
  | inr m ↦ rw m (undoable_kept log f.1 o g)
]
undoable_kept (records.PageUndo t n lsn page slot after ∷ log) f o g = elim (cases_Bool (same_op (operation t n) o)) [
  | inl y ↦
      let is : operation t n ≡ o = op_is (operation t n) o y in
      let named : first (standing o log) ≡ Some (undoable_at lsn (operation t n) page slot after) = ap (λ (u : Sub). first (standing u log)) (sym is) ∙ f.0.undoes in
      ap (λ (u : Sub). filter (undoable_by o) (without_newest u (undoable log))) is ∙ stacks.own_newest (undoable_by o) (undoable log) ∙ ap tail (undoable_kept log f.1 o g)
      ∙ sym (but_first (length log + 1) (standing o log) (undoable_at lsn (operation t n) page slot after) (below_filter (stands o log) (length log + 1) (writes_of o log) (writes_below o log)) named)
      ∙ undone_own (operation t n) o lsn log y
  | inr m ↦ stacks.other_newest (undoable_by (operation t n)) (undoable_by o) (undoable log) (apart (operation t n) o m) ∙ undoable_kept log f.1 o g ∙ undone_one (operation t n) o lsn log m
]
undoable_kept (records.OpEnd t n level deed ∷ log) f o g = let k = or_parts (same_op (operation t n) o) (has_op_end o log) g in ended_other (operation t n) o log k.0 ∙ undoable_kept log f.1 o k.1
undoable_kept (records.OpVoid t n ∷ log) f o g = let k = or_parts (same_op (operation t n) o) (has_op_end o log) g in ended_other (operation t n) o log k.0 ∙ undoable_kept log f.1 o k.1
undoable_kept (records.CompEnd t n undone ∷ log) f o g = let k = or_parts (same_op (operation t n) o) (has_op_end o log) g in ended_other (operation t n) o log k.0 ∙ undoable_kept log f.1 o k.1
undoable_kept (records.Base many i ∷ log) f o g = sym (ap (filter (stands o (records.Base many i ∷ log))) (ap (writes_of o) f.0.begins ∙ none_written o many))
undoable_kept (_ ∷ log) f o g = undoable_kept log f.1 o g
