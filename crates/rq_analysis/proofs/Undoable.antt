-- What is noted of a legal log is what its fold over slots tells of each operation.
use Rattle.std.proofs.Common.{◌≡◌, ℕ, ◌+◌, true, false, cond, not, ◌&&◌, ◌||◌, Bool, List, [], ◌∷◌, length, map, Some, refl, sym, ◌∙◌, ap, subst, inl, inr}
use Rattle.std.specs.List.{filter}
use Rattle.std.proofs.lemmas.Bool.{cases_Bool, or_parts, or_left, or_right, false≢true, true≢false}
use Rattle.std.proofs.lemmas.List.{length-map}
use Rattle.rq_model.specs.declared.txn.Sub.{Sub}
use Rattle.rq_model.specs.declared.record.Record.{Record}
use Rattle.rq_model.specs.declared.record.Record.TheVariants.{PageOp, PageUndo, OpEnd, OpVoid, CompEnd, Restart, Base}
use Rattle.rq_model.specs.Vocabulary.{In}
use Rattle.rq_model.specs.Incarnations.{InOrder, IsOf, incarnation_of}
use Rattle.rq_page.specs.Sizes.{Sizes, address}
use Rattle.rq_page.specs.Slots.{Slot, held_in, IsSlotOf}
use Rattle.rq_views.specs.Log.{Write, same_op, rest_of}
use Rattle.rq_views.specs.Legal.{IsLegalLog, lsns, rest_numbers, began, over, under_way}
use Rattle.rq_views.specs.Items.{items, item_of, layout_of, operation}
use Rattle.rq_views.proofs.Overlay.{same_is as op_is, same_self as op_self}
use Rattle.rq_views.proofs.AllOpen.{tail}
use Rattle.rq_views.proofs.Idle.{idle_writes}
use Rattle.rq_store.specs.Fitting.{left_by}
use Rattle.rq_store.specs.Whole.{BeforesAreSlots}
use Rattle.rq_analysis.specs.declared.open_work.UndoableWrite.{UndoableWrite}
use Rattle.rq_analysis.specs.OpenWorkView.{undoable_by, without_newest, without_undoable, open_work_of}
use Rattle.rq_analysis.proofs.Quiet.{unbegun, unbegun_lsns}
use Rattle.rq_analysis.proofs.Stacks.{in_newest, other_newest, other_none, own_newest, own_none}
use Rattle.rq_analysis.proofs.Lists.{in_undoable, in_with, with_in, in_without, without_in, op_other}

abbrev pub IsLegal : Sizes → List Record → Type 0
IsLegal z log = IsLegalLog (layout_of z) (items z log)

abbrev pub undoable : List Record → List UndoableWrite
undoable log = (open_work_of log).undoable

abbrev unfinished : List Record → List Sub
unfinished log = (open_work_of log).unfinished

abbrev pub lsn_of : UndoableWrite → ℕ
lsn_of p = p.lsn

-- where a write goes, and what stood there before it
abbrev pub Place : Type 0
Place = ℕ × Slot

abbrev pub undoable_place : Sizes → UndoableWrite → Place
undoable_place z p = (address p.page p.slot, held_in z p.page p.before)

abbrev pub write_place : Write → Place
write_place w = (w.at, w.before)

abbrev places : Sizes → Sub → List UndoableWrite → List Place
places z o ps = map (undoable_place z) (filter (undoable_by o) ps)

abbrev written : Sizes → Sub → List Record → List Place
written z o log = map write_place ((left_by z log).writes o)

abbrev rest_places : List Place → List Place
rest_places [] = []
rest_places (p ∷ ps) = ps

map_rest : (z : Sizes) (ps : List UndoableWrite) → map (undoable_place z) (tail ps) ≡ rest_places (map (undoable_place z) ps)
map_rest z [] = refl
map_rest z (p ∷ ps) = refl

write_rest : (ws : List Write) → map write_place (rest_of ws) ≡ rest_places (map write_place ws)
write_rest [] = refl
write_rest (w ∷ ws) = refl

lsn_rest : (ps : List UndoableWrite) → map lsn_of (tail ps) ≡ rest_numbers (map lsn_of ps)
lsn_rest [] = refl
lsn_rest (p ∷ ps) = refl

pub apart : (p o : Sub) → same_op p o ≡ false → (x : UndoableWrite) → undoable_by p x ≡ true → undoable_by o x ≡ false
apart p o n x e = ap (λ y. same_op y o) (op_is x.by p e) ∙ n

own_rest : (p o : Sub) (ps : List UndoableWrite) → same_op p o ≡ true → filter (undoable_by o) (without_newest p ps) ≡ tail (filter (undoable_by o) ps)
own_rest p o ps e = subst (λ q. filter (undoable_by o) (without_newest q ps) ≡ tail (filter (undoable_by o) ps)) (sym (op_is p o e)) (own_newest (undoable_by o) ps)

own_gone : (p o : Sub) (ps : List UndoableWrite) → same_op p o ≡ true → filter (undoable_by o) (without_undoable p ps) ≡ []
own_gone p o ps e = subst (λ q. filter (undoable_by o) (without_undoable q ps) ≡ []) (sym (op_is p o e)) (own_none (undoable_by o) ps)

ended_writes : (z : Sizes) (o p : Sub) (log : List Record) → places z o (undoable log) ≡ written z o log
    → places z o (without_undoable p (undoable log)) ≡ map write_place (cond (same_op p o) [] ((left_by z log).writes o))
ended_writes z o p log ih = elim (cases_Bool (same_op p o)) [
  | inl y ↦ ap (map (undoable_place z)) (own_gone p o (undoable log) y) ∙ rw y refl
  | inr n ↦ ap (map (undoable_place z)) (other_none (undoable_by p) (undoable_by o) (undoable log) (apart p o n)) ∙ ih ∙ rw n refl
]

-- of each operation, its writes not undone
pub own_writes : (z : Sizes) (o : Sub) (log : List Record) → IsLegal z log → map (undoable_place z) (filter (undoable_by o) (open_work_of log).undoable) ≡ map write_place ((left_by z log).writes o)
own_writes z o [] g = refl
own_writes z o (PageOp t n page slot before after ∷ log) g = elim (cases_Bool (same_op (operation t n) o)) [
  | inl y ↦ rw y (ap (λ l. (address page slot, held_in z page before) ∷ l) (own_writes z o log g.1))
  | inr m ↦ rw m (own_writes z o log g.1)
]
own_writes z o (PageUndo t n undone page slot after ∷ log) g = elim (cases_Bool (same_op (operation t n) o)) [
  | inl y ↦ ap (map (undoable_place z)) (own_rest (operation t n) o (undoable log) y) ∙ map_rest z (filter (undoable_by o) (undoable log)) ∙ ap rest_places (own_writes z o log g.1) ∙ sym (write_rest ((left_by z log).writes o)) ∙ rw y refl
  | inr m ↦ ap (map (undoable_place z)) (other_newest (undoable_by (operation t n)) (undoable_by o) (undoable log) (apart (operation t n) o m)) ∙ own_writes z o log g.1 ∙ rw m refl
]
own_writes z o (OpEnd t n level deed ∷ log) g = ended_writes z o (operation t n) log (own_writes z o log g.1)
own_writes z o (OpVoid t n ∷ log) g = ended_writes z o (operation t n) log (own_writes z o log g.1)
own_writes z o (CompEnd t n undone ∷ log) g = ended_writes z o (operation t n) log (own_writes z o log g.1)
own_writes z o (Base many i ∷ log) g = sym (ap (map write_place) (idle_writes (layout_of z) (items z log) o g.1 (g.0.idle o)))
own_writes z o (_ ∷ log) g = own_writes z o log g.1

other_end : (o p : Sub) (log : List Record) (ns : List ℕ) → same_op p o ≡ false → map lsn_of (filter (undoable_by o) (undoable log)) ≡ ns → map lsn_of (filter (undoable_by o) (without_undoable p (undoable log))) ≡ ns
other_end o p log ns n ih = ap (map lsn_of) (other_none (undoable_by p) (undoable_by o) (undoable log) (apart p o n)) ∙ ih

-- and their LSNs, where it has no end
pub own_lsns : (z : Sizes) (o : Sub) (log : List Record) → IsLegal z log → over o (items z log) ≡ false → map lsn_of (filter (undoable_by o) (open_work_of log).undoable) ≡ lsns o (items z log)
own_lsns z o [] w g = refl
own_lsns z o (PageOp t n page slot before after ∷ log) w g = elim (cases_Bool (same_op (operation t n) o)) [
  | inl y ↦ rw y (ap (λ (k : ℕ). (k + 1) ∷ map lsn_of (filter (undoable_by o) (undoable log))) (sym (length-map log (item_of z))) ∙ ap (λ l. (length (items z log) + 1) ∷ l) (own_lsns z o log w.1 g))
  | inr m ↦ rw m (own_lsns z o log w.1 g)
]
own_lsns z o (PageUndo t n undone page slot after ∷ log) w g = elim (cases_Bool (same_op (operation t n) o)) [
  | inl y ↦ ap (map lsn_of) (own_rest (operation t n) o (undoable log) y) ∙ lsn_rest (filter (undoable_by o) (undoable log)) ∙ ap rest_numbers (own_lsns z o log w.1 g) ∙ rw y refl
  | inr m ↦ ap (map lsn_of) (other_newest (undoable_by (operation t n)) (undoable_by o) (undoable log) (apart (operation t n) o m)) ∙ own_lsns z o log w.1 g ∙ rw m refl
]
own_lsns z o (OpEnd t n level deed ∷ log) w g = let k = or_parts (same_op (operation t n) o) (over o (items z log)) g in other_end o (operation t n) log (lsns o (items z log)) k.0 (own_lsns z o log w.1 k.1)
own_lsns z o (OpVoid t n ∷ log) w g = let k = or_parts (same_op (operation t n) o) (over o (items z log)) g in other_end o (operation t n) log (lsns o (items z log)) k.0 (own_lsns z o log w.1 k.1)
own_lsns z o (CompEnd t n undone ∷ log) w g = let k = or_parts (same_op (operation t n) o) (over o (items z log)) g in other_end o (operation t n) log (lsns o (items z log)) k.0 (own_lsns z o log w.1 k.1)
own_lsns z o (Base many i ∷ log) w g = sym (unbegun_lsns o (items z log) (unbegun (items z log) i w.0 o g))
own_lsns z o (_ ∷ log) w g = own_lsns z o log w.1 g

pub way_parts : (b c : Bool) → (b && not c) ≡ true → (b ≡ true) × (c ≡ false)
way_parts true true e = absurd (false≢true e)
way_parts true false e = (refl, refl)
way_parts false c e = absurd (false≢true e)

pub way_from : (b c : Bool) → b ≡ true → c ≡ false → (b && not c) ≡ true
way_from b c e f = rw (e, f) refl

pub under_began : (z : Sizes) (o : Sub) (log : List Record) → under_way o (items z log) ≡ true → began o (items z log) ≡ true
under_began z o log h = (way_parts (began o (items z log)) (over o (items z log)) h).0

pub under_open : (z : Sizes) (o : Sub) (log : List Record) → under_way o (items z log) ≡ true → over o (items z log) ≡ false
under_open z o log h = (way_parts (began o (items z log)) (over o (items z log)) h).1

-- an end of another operation
still : (z : Sizes) (o p : Sub) (log : List Record) → same_op p o ≡ false → under_way o (items z log) ≡ true → ((same_op p o || began o (items z log)) && not (same_op p o || over o (items z log))) ≡ true
still z o p log n h = rw n h

-- what is noted as unfinished is under way
pub noted_way : (z : Sizes) (log : List Record) → IsLegal z log → (o : Sub) → In o (open_work_of log).unfinished → under_way o (items z log) ≡ true
noted_way z [] g o h = absurd h
noted_way z (PageOp t n page slot before after ∷ log) g o h = elim (in_with (operation t n) (unfinished log) o h) [
  | inl e ↦ way_from (same_op (operation t n) o || began o (items z log)) (over o (items z log)) (or_left (same_op (operation t n) o) (began o (items z log)) (ap (same_op (operation t n)) e ∙ op_self (operation t n))) (ap (λ p. over p (items z log)) e ∙ g.0.going)
  | inr i ↦ let k = noted_way z log g.1 o i in way_from (same_op (operation t n) o || began o (items z log)) (over o (items z log)) (or_right (same_op (operation t n) o) (began o (items z log)) (under_began z o log k)) (under_open z o log k)
]
noted_way z (PageUndo t n undone page slot after ∷ log) g o h = let k = noted_way z log g.1 o h in way_from (same_op (operation t n) o || began o (items z log)) (over o (items z log)) (or_right (same_op (operation t n) o) (began o (items z log)) (under_began z o log k)) (under_open z o log k)
noted_way z (OpEnd t n level deed ∷ log) g o h = let k = in_without (operation t n) (unfinished log) o h in still z o (operation t n) log k.1 (noted_way z log g.1 o k.0)
noted_way z (OpVoid t n ∷ log) g o h = let k = in_without (operation t n) (unfinished log) o h in still z o (operation t n) log k.1 (noted_way z log g.1 o k.0)
noted_way z (CompEnd t n undone ∷ log) g o h = let k = in_without (operation t n) (unfinished log) o h in still z o (operation t n) log k.1 (noted_way z log g.1 o k.0)
noted_way z (Base many i ∷ log) g o h = absurd h
noted_way z (_ ∷ log) g o h = noted_way z log g.1 o h

-- an undoable write is of an operation that is noted as unfinished
pub undoable_noted : (log : List Record) (p : UndoableWrite) → In p (open_work_of log).undoable → In p.by (open_work_of log).unfinished
undoable_noted [] p h = absurd h
undoable_noted (PageOp t n page slot before after ∷ log) p h = elim h [
  | inl e ↦ with_in (operation t n) (unfinished log) p.by (inl (ap (λ (q : UndoableWrite). q.by) e))
  | inr i ↦ with_in (operation t n) (unfinished log) p.by (inr (undoable_noted log p i))
]
undoable_noted (PageUndo t n undone page slot after ∷ log) p h = undoable_noted log p (in_newest (undoable_by (operation t n)) (undoable log) p h)
undoable_noted (OpEnd t n level deed ∷ log) p h = let k = in_undoable (operation t n) (undoable log) p h in without_in (operation t n) (unfinished log) p.by (undoable_noted log p k.0) (op_other p.by (operation t n) k.1)
undoable_noted (OpVoid t n ∷ log) p h = let k = in_undoable (operation t n) (undoable log) p h in without_in (operation t n) (unfinished log) p.by (undoable_noted log p k.0) (op_other p.by (operation t n) k.1)
undoable_noted (CompEnd t n undone ∷ log) p h = let k = in_undoable (operation t n) (undoable log) p h in without_in (operation t n) (unfinished log) p.by (undoable_noted log p k.0) (op_other p.by (operation t n) k.1)
undoable_noted (Base many i ∷ log) p h = absurd h
undoable_noted (_ ∷ log) p h = undoable_noted log p h

-- what stood there before it is a slot of the store
pub undoable_before : (z : Sizes) (log : List Record) → BeforesAreSlots z log → (p : UndoableWrite) → In p (open_work_of log).undoable → IsSlotOf z p.page p.slot p.before
undoable_before z [] b p h = absurd h
undoable_before z (PageOp t n page slot before after ∷ log) b p h = elim h [
  | inl e ↦ subst (λ (q : UndoableWrite). IsSlotOf z q.page q.slot q.before) (sym e) b.0
  | inr i ↦ undoable_before z log b.1 p i
]
undoable_before z (PageUndo t n undone page slot after ∷ log) b p h = undoable_before z log b.1 p (in_newest (undoable_by (operation t n)) (undoable log) p h)
undoable_before z (OpEnd t n level deed ∷ log) b p h = undoable_before z log b.1 p (in_undoable (operation t n) (undoable log) p h).0
undoable_before z (OpVoid t n ∷ log) b p h = undoable_before z log b.1 p (in_undoable (operation t n) (undoable log) p h).0
undoable_before z (CompEnd t n undone ∷ log) b p h = undoable_before z log b.1 p (in_undoable (operation t n) (undoable log) p h).0
undoable_before z (Base many i ∷ log) b p h = absurd h
undoable_before z (_ ∷ log) b p h = undoable_before z log b.1 p h

-- what is noted as unfinished is of the running incarnation
pub noted_order : (z : Sizes) (log : List Record) → IsLegal z log → InOrder log → (o : Sub) → In o (open_work_of log).unfinished → IsOf (incarnation_of log) (Some o.txn)
noted_order z [] g r o h = absurd h
noted_order z (PageOp t n page slot before after ∷ log) g r o h = elim (in_with (operation t n) (unfinished log) o h) [
  | inl e ↦ subst (λ (p : Sub). IsOf (incarnation_of log) (Some p.txn)) (sym e) r.0
  | inr i ↦ noted_order z log g.1 r.1 o i
]
noted_order z (OpEnd t n level deed ∷ log) g r o h = noted_order z log g.1 r.1 o (in_without (operation t n) (unfinished log) o h).0
noted_order z (OpVoid t n ∷ log) g r o h = noted_order z log g.1 r.1 o (in_without (operation t n) (unfinished log) o h).0
noted_order z (CompEnd t n undone ∷ log) g r o h = noted_order z log g.1 r.1 o (in_without (operation t n) (unfinished log) o h).0
noted_order z (Restart i ∷ log) g r o h = absurd (true≢false (sym (noted_way z log g.1 o h) ∙ g.0.idle o))
noted_order z (Base many i ∷ log) g r o h = absurd h
noted_order z (_ ∷ log) g r o h = noted_order z log g.1 r.1 o h
