-- What bytes and records tell is one.
use Rattle.std.proofs.Common.{◌≡◌, ◌≢◌, ℕ, ◌↔◌, nat_eq, List, [], ◌∷◌, ◌++◌, length, drop, refl, sym, ◌∙◌, ap, subst, Bool, true, false, Option, Some, None, inl, inr, true≢false}
use Rattle.std.specs.Prelude.{IfSome, IfNone}
use Rattle.std.proofs.lemmas.Bool.{cases_Bool, eqb-true, eq-eqb}
use Rattle.std.proofs.lemmas.List.{take-append-drop}
use Rattle.rq_model.specs.declared.record.Record.{Record}
use Rattle.rq_model.specs.declared.txn.Sub.{Sub}
use Rattle.rq_views.specs.Log.{same_op}
use Rattle.rq_views.proofs.Overlay.{same_is as op_is}
use Rattle.rq_level.specs.Meaning.{AppliesOnce, IsAppliedOnce, Redo}
use Rattle.rq_page.specs.Pages.{IsWritten, lsn_of, rest_of_header, slot_of}
use Rattle.rq_record.specs.declared.step.Step.{Step}
use Rattle.rq_record.specs.declared.step.Step.TheVariants as steps
use Rattle.rq_record.specs.Decoding.{IfRecord, IsFront}
use Rattle.rq_record.specs.Spelling.{BeginsRecord, HoldsRecord, IsRecord, spelling}
use Rattle.rq_analysis.specs.declared.open_work.UndoableWrite.{UndoableWrite}
use Rattle.rq_analysis.specs.OpenWorkView.{OpenWorkView, has_sub}
use Rattle.rq_analysis.specs.declared.open_work.NextUndo.{NextUndo}
use Rattle.rq_analysis.specs.declared.open_work.NextUndo.TheVariants.{Void, Write}
use Rattle.rq_analysis.specs.Pages.{IsNextUndo, IsUndoneNext, NoneIsSpent, op_less, undo_of, void_of}
use Rattle.rq_analysis.specs.Pages.IsNextUndo.{Voids, Undoes}
use Rattle.rq_analysis.proofs.Next.{op_turn}
use Rattle.rq_laws.specs.Alike.{PagesAlike}

-- ---- pages

the_same : (x y : List ℕ) → x ≡ y → PagesAlike x y
the_same x y e = record { lsn = ap lsn_of e; header = ap rest_of_header e; slots = λ k low high. ap (slot_of k) e }

pub written_alike : (old old2 x y : List ℕ) (n stamp : ℕ) (image : List ℕ) → old ≡ old2 → IsWritten old x n image stamp → IsWritten old2 y n image stamp → PagesAlike x y
written_alike old old2 x y n stamp image is f h = record {
  lsn = f.lsn ∙ sym h.lsn;
  header = f.header ∙ ap rest_of_header is ∙ sym h.header;
  slots = λ k low high. elim (cases_Bool (nat_eq k n)) [
    | inl here ↦ (let e = eqb-true k n here in ap (λ i. slot_of i x) e ∙ f.slot ∙ sym h.slot ∙ sym (ap (λ i. slot_of i y) e))
    | inr there ↦ (let ne : k ≢ n = (λ e. true≢false (sym (eq-eqb k n e) ∙ there)) in f.others k low high ne ∙ ap (slot_of k) is ∙ sym (h.others k low high ne))
  ];
}

redone_here : (old x y : List ℕ) (lsn : ℕ) (w : Redo) (a b : Bool) → IsAppliedOnce old lsn w a x → IsAppliedOnce old lsn w b y → a ≡ b → PagesAlike x y
redone_here old x y lsn w true true f g e = written_alike old old x y w.slot lsn w.after refl (f.done refl) (g.done refl)
redone_here old x y lsn w true false f g e = absurd (true≢false e)
redone_here old x y lsn w false true f g e = absurd (true≢false (sym e))
redone_here old x y lsn w false false f g e = the_same x y (f.kept refl ∙ sym (g.kept refl))

redone_one : (old x y : List ℕ) (lsn : ℕ) (w : Option Redo) (a b : Bool) → AppliesOnce w old lsn a x → AppliesOnce w old lsn b y → (a ≡ b) × PagesAlike x y
redone_one old x y lsn None a b f g = (f.0 ∙ sym g.0, the_same x y (f.1 ∙ sym g.1))
redone_one old x y lsn (Some w) a b f g =
    let e = f.answer ∙ sym g.answer in
    (e, redone_here old x y lsn w a b f g e)

-- a record is applied to the same pages, and leaves the same there
pub redone_alike : (old old2 x y : List ℕ) (lsn : ℕ) (w : Option Redo) (a b : Bool) → old ≡ old2 → AppliesOnce w old lsn a x → AppliesOnce w old2 lsn b y → (a ≡ b) × PagesAlike x y
redone_alike old old2 x y lsn w a b is f g = redone_one old x y lsn w a b f (subst (λ (o : List ℕ). AppliesOnce w o lsn b y) (sym is) g)

-- ---- bytes

abbrev Finds : List ℕ → Step → Type 0
Finds input a = (r : Record) (rest : List ℕ) → IsRecord r → input ≡ spelling r ++ rest → a ≡ steps.Record r (length (spelling r))

step_one : (input : List ℕ) (a b : Step) → IfRecord a (λ r used. IsFront r used input) → Finds input a → (a ≡ steps.Short) ↔ BeginsRecord input → (a ≡ steps.Bad) ↔ ((HoldsRecord input → ⊥) × (BeginsRecord input → ⊥))
    → Finds input b → (b ≡ steps.Short) ↔ BeginsRecord input → (b ≡ steps.Bad) ↔ ((HoldsRecord input → ⊥) × (BeginsRecord input → ⊥)) → a ≡ b
step_one input (steps.Record r used) b front found short bad found2 short2 bad2 =
    let e : input ≡ spelling r ++ drop used input = sym (take-append-drop used input) ∙ ap (λ xs. xs ++ drop used input) front.2 in
    found r (drop used input) front.0 e ∙ sym (found2 r (drop used input) front.0 e)
step_one input steps.Short b front found short bad found2 short2 bad2 = sym (short2.1 (short.0 refl))
step_one input steps.Bad b front found short bad found2 short2 bad2 = sym (bad2.1 (bad.0 refl))

-- the same bytes are read as the same
pub step_same : (input again : List ℕ) (a b : Step) → input ≡ again → IfRecord a (λ r used. IsFront r used input) → Finds input a → (a ≡ steps.Short) ↔ BeginsRecord input → (a ≡ steps.Bad) ↔ ((HoldsRecord input → ⊥) × (BeginsRecord input → ⊥))
    → Finds again b → (b ≡ steps.Short) ↔ BeginsRecord again → (b ≡ steps.Bad) ↔ ((HoldsRecord again → ⊥) × (BeginsRecord again → ⊥)) → a ≡ b
step_same input again a b is front found short bad =
    subst (λ (i : List ℕ). Finds i b → (b ≡ steps.Short) ↔ BeginsRecord i → (b ≡ steps.Bad) ↔ ((HoldsRecord i → ⊥) × (BeginsRecord i → ⊥)) → a ≡ b) is
    (step_one input a b front found short bad)

-- ---- records that undo

least_one : (a b : Sub) → op_less a b ≡ false → op_less b a ≡ false → a ≡ b
least_one a b n m = elim (cases_Bool (same_op b a)) [
  | inl s ↦ sym (op_is b a s)
  | inr d ↦ absurd (true≢false (sym (op_turn a b d n) ∙ m))
]

first_one : (p q : UndoableWrite) (ps qs : List UndoableWrite) → p ∷ ps ≡ q ∷ qs → p ≡ q
first_one p q ps qs e = cc

none_undoable : (p : UndoableWrite) (ps : List UndoableWrite) → [] ≡ p ∷ ps → ⊥
none_undoable p ps e = cc

sub_of : (o q : Sub) → void_of o ≡ void_of q → o ≡ q
sub_of o q e = (let t : o.txn ≡ q.txn = cc in let n : o.number ≡ q.number = cc in ap (λ x. record { txn = x; number = o.number }) t ∙ ap (λ x. record { txn = q.txn; number = x }) n)

voids_one : (h : OpenWorkView) (r s : Record) (o q : Sub) → r ≡ void_of o → s ≡ void_of q → IsNextUndo h r → IsNextUndo h s → o ≡ q
voids_one h r s o q a b (Voids x spent least is) (Voids y other lowest are) = sub_of o q (sym a ∙ is ∙ ap void_of (least_one x y (lowest x spent) (least y other)) ∙ sym are ∙ b)
voids_one h r s o q a b (Voids x spent least is) (Undoes p ps none undoable are) = absurd (true≢false (sym (none x spent.unfinished) ∙ spent.none))
voids_one h r s o q a b (Undoes p ps none undoable is) second = absurd (let e : void_of o ≡ undo_of p = sym a ∙ is in cc e)

-- nothing is voided where each has a write left
voids_none : (h : OpenWorkView) (r : Record) (o : Sub) → r ≡ void_of o → NoneIsSpent h → IsNextUndo h r → ⊥
voids_none h r o a none (Voids x spent least is) = true≢false (sym (none x spent.unfinished) ∙ spent.none)
voids_none h r o a none (Undoes p ps other undoable is) = (let e : void_of o ≡ undo_of p = sym a ∙ is in cc e)

undo_one : (h : OpenWorkView) (r s : NextUndo) → IsUndoneNext h r → IsUndoneNext h s → r ≡ s
undo_one h (Void o) (Void q) f g = ap Void (voids_one h (void_of o) (void_of q) o q refl refl f g)
undo_one h (Void o) (Write n) f g = absurd (voids_none h (void_of o) o refl g.2.none f)
undo_one h (Write n) (Void o) f g = absurd (voids_none h (void_of o) o refl f.2.none g)
undo_one h (Write n) (Write m) f g = ap Write (sym f.1 ∙ ap (λ (p : UndoableWrite). p.lsn) (first_one f.0 g.0 f.2.older g.2.older (sym f.2.first ∙ g.2.first)) ∙ g.1)

voids_some : (h : OpenWorkView) (r : Record) → (h.unfinished ≡ [] → h.undoable ≡ []) → h.unfinished ≡ [] → IsNextUndo h r → ⊥
voids_some h r own e (Voids o spent least is) = true≢false (sym spent.unfinished ∙ ap (has_sub o) e)
voids_some h r own e (Undoes p ps none undoable is) = none_undoable p ps (sym (own e) ∙ undoable)

none_next : (h : OpenWorkView) (r : NextUndo) → (h.unfinished ≡ [] → h.undoable ≡ []) → h.unfinished ≡ [] → IsUndoneNext h r → ⊥
none_next h (Void o) own e f = voids_some h (void_of o) own e f
none_next h (Write n) own e f = none_undoable f.0 f.2.older (sym (own e) ∙ f.2.first)

undo_here : (h : OpenWorkView) (p q : Option NextUndo) → (h.unfinished ≡ [] → h.undoable ≡ []) → IfSome p (IsUndoneNext h) → IfNone p (h.unfinished ≡ []) → IfSome q (IsUndoneNext h) → IfNone q (h.unfinished ≡ []) → p ≡ q
undo_here h None None own f n g m = refl
undo_here h None (Some s) own f n g m = absurd (none_next h s own n g)
undo_here h (Some r) None own f n g m = absurd (none_next h r own m f)
undo_here h (Some r) (Some s) own f n g m = ap Some (undo_one h r s f g)

-- what is undone next of operations without an end is one
pub undo_same : (h k : OpenWorkView) (p q : Option NextUndo) → h ≡ k → (h.unfinished ≡ [] → h.undoable ≡ []) → IfSome p (IsUndoneNext h) → IfNone p (h.unfinished ≡ []) → IfSome q (IsUndoneNext k) → IfNone q (k.unfinished ≡ []) → p ≡ q
undo_same h k p q is own f n = subst (λ (j : OpenWorkView). IfSome q (IsUndoneNext j) → IfNone q (j.unfinished ≡ []) → p ≡ q) is (undo_here h p q own f n)
