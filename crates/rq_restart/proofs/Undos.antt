-- Undoing operations that have no end, record by record.
use Rattle.std.proofs.Common.{◌≡◌, ℕ, ◌+◌, ◌<◌, false, List, [], ◌∷◌, length, inl, inr, refl, sym, ◌∙◌, ap, subst, arith}
use Rattle.rq_disk.specs.Device.{Images}
use Rattle.rq_model.specs.declared.record.Record.{Record}
use Rattle.rq_model.specs.declared.record.Record.TheVariants.{PageOp, PageUndo, OpEnd, OpVoid, CompEnd, Base}
use Rattle.rq_model.specs.declared.refusal.Refusal.{Refusal}
use Rattle.rq_model.specs.declared.refusal.Refusal.TheVariants as why
use Rattle.rq_model.specs.declared.refusal.Damage.TheVariants as damage
use Rattle.rq_model.specs.declared.txn.Sub.{Sub}
use Rattle.rq_model.specs.Vocabulary.{In, first}
use Rattle.rq_page.specs.Sizes.{Sizes}
use Rattle.rq_disk.specs.declared.device.LogDevice.{Ghosts}
use Rattle.rq_log.specs.Reading.{IsRead}
use Rattle.rq_log.proofs.Moments.{started}
use Rattle.rq_record.specs.Spelling.{IsInRange, IsSlotNumber, IsTxnInRange}
use Rattle.rq_model.specs.Bases.{is_base}
use Rattle.rq_log.specs.Spelled.{AreSpelled}
use Rattle.rq_views.specs.Items.{operation}
use Rattle.rq_store.specs.Opening.{MayRedo, Redoes}
use Rattle.rq_store.specs.Fitting.{told_by}
use Rattle.rq_analysis.specs.declared.open_work.UndoableWrite.{UndoableWrite}
use Rattle.rq_analysis.specs.OpenWorkView.{OpenWorkView, open_work_of, undoable_by}
use Rattle.rq_analysis.specs.declared.open_work.NextUndo.{NextUndo}
use Rattle.rq_analysis.specs.declared.open_work.NextUndo.TheVariants.{Void, Write}
use Rattle.rq_analysis.specs.Pages.{IsNextUndo, IsUndoing, IsUndoneNext, undo_of, void_of, work}
use Rattle.rq_analysis.specs.Pages.IsNextUndo.{Voids, Undoes}
use Rattle.rq_analysis.proofs.Lists.{in_undoable, in_with, in_without, sub_in}
use Rattle.rq_analysis.proofs.Stacks.{in_newest}
use Rattle.rq_analysis.proofs.Undos.{undo_leaves_less}
use Rattle.rq_restart.specs.Again.{IsLike, IsLikeUndo, NextNotUndoneFor}
use Rattle.rq_restart.specs.Found.{MayComeNext}
use Rattle.rq_restart.specs.Repeating.{ArePagesCounted, Belongs, IsRecordRedone, Repeats}
use Rattle.rq_restart.specs.Undoing.{HasUndoLeft, IsRepeatedOn, NamesDevice, StepStops, UndoStops}
use Rattle.rq_restart.proofs.Repeated.{before_from, counted_more}

-- what a log's records say is in range, and so is what is noted of them
abbrev pub IsOpInRange : Sub → Type 0
IsOpInRange o = IsTxnInRange o.txn × (0 < o.number)

noted_range : (log : List Record) → AreSpelled log → (o : Sub) → In o (open_work_of log).unfinished → IsOpInRange o
noted_range [] a o h = absurd h
noted_range (PageOp t n page slot before after ∷ log) a o h = elim (in_with (operation t n) (open_work_of log).unfinished o h) [
  | inl e ↦ subst IsOpInRange (sym e) (a.0.0.0, a.0.0.1)
  | inr i ↦ noted_range log a.1 o i
]
noted_range (OpEnd t n level deed ∷ log) a o h = noted_range log a.1 o (in_without (operation t n) (open_work_of log).unfinished o h).0
noted_range (OpVoid t n ∷ log) a o h = noted_range log a.1 o (in_without (operation t n) (open_work_of log).unfinished o h).0
noted_range (CompEnd t n undone ∷ log) a o h = noted_range log a.1 o (in_without (operation t n) (open_work_of log).unfinished o h).0
noted_range (Base many i ∷ log) a o h = absurd h
noted_range (_ ∷ log) a o h = noted_range log a.1 o h

abbrev pub IsUndoableInRange : UndoableWrite → Type 0
IsUndoableInRange p = IsOpInRange p.by × (0 < p.lsn) × IsSlotNumber p.slot

pub undoable_range : (log : List Record) → AreSpelled log → (p : UndoableWrite) → In p (open_work_of log).undoable → IsUndoableInRange p
undoable_range [] a p h = absurd h
undoable_range (PageOp t n page slot before after ∷ log) a p h = elim h [
  | inl e ↦ subst IsUndoableInRange (sym e) ((a.0.0.0, a.0.0.1), omega arith, a.0.0.2)
  | inr i ↦ undoable_range log a.1 p i
]
undoable_range (PageUndo t n undone page slot after ∷ log) a p h = undoable_range log a.1 p (in_newest (undoable_by (operation t n)) (open_work_of log).undoable p h)
undoable_range (OpEnd t n level deed ∷ log) a p h = undoable_range log a.1 p (in_undoable (operation t n) (open_work_of log).undoable p h).0
undoable_range (OpVoid t n ∷ log) a p h = undoable_range log a.1 p (in_undoable (operation t n) (open_work_of log).undoable p h).0
undoable_range (CompEnd t n undone ∷ log) a p h = undoable_range log a.1 p (in_undoable (operation t n) (open_work_of log).undoable p h).0
undoable_range (Base many i ∷ log) a p h = absurd h
undoable_range (_ ∷ log) a p h = undoable_range log a.1 p h

-- none of these records is a Base
pub undo_is_no_base : (h : OpenWorkView) (r : Record) → IsNextUndo h r → is_base r ≡ false
undo_is_no_base h r (Voids o spent least e) = ap is_base e
undo_is_no_base h r (Undoes p ps none first e) = ap is_base e

like_no_base : (q r : Record) → IsLike q r → is_base q ≡ false → is_base r ≡ false
like_no_base (PageUndo t n undone page slot after) r k h = ap is_base k.4
like_no_base _ r k h = ap is_base k ∙ h

pub like_is_no_base : (h : OpenWorkView) (r : Record) → IsLikeUndo h r → is_base r ≡ false
like_is_no_base h r like = like_no_base like.0 r like.2 (undo_is_no_base h like.0 like.1)

-- but for what it writes a record is in range, and leaves the same open
pub like_range : (q r : Record) → IsLike q r → IsInRange q → IsInRange r
like_range (PageUndo t n undone page slot after) r k h = subst IsInRange (sym k.4) (h.0, h.1, h.2, k.3)
like_range _ r k h = subst IsInRange (sym k) h

like_work : (q r : Record) (log : List Record) → IsLike q r → open_work_of (r ∷ log) ≡ open_work_of (q ∷ log)
like_work (PageUndo t n undone page slot after) r log k = ap (λ x. open_work_of (x ∷ log)) k.4
like_work _ r log k = ap (λ x. open_work_of (x ∷ log)) k

pub undo_range : (log : List Record) (h : OpenWorkView) (r : Record) → h ≡ open_work_of log → AreSpelled log → IsNextUndo h r → IsInRange r
undo_range log h r e a next = by (subst (λ k. IsNextUndo k r) e next) where
  by : IsNextUndo (open_work_of log) r → IsInRange r
  by (Voids o s least is) = rw is (noted_range log a o (sub_in o (open_work_of log).unfinished s.unfinished))
  by (Undoes p ps none undoable is) =
      let k = undoable_range log a p (rw undoable (inl refl)) in
      rw is (k.0.0, k.0.1, k.1, k.2)

module _ (log : List Record) (h : OpenWorkView) (r : Record) (is : h ≡ open_work_of log) (like : IsLikeUndo h r) where
  pub like_undo_range : AreSpelled log → IsInRange r
  like_undo_range are = like_range like.0 r like.2 (undo_range log h like.0 is are like.1)

  pub like_undo_less : (after : OpenWorkView) (grown : List Record) → grown ≡ r ∷ log → after ≡ open_work_of grown → work after < work h
  like_undo_less after grown more noted =
      let less : work (open_work_of (like.0 ∷ log)) < work (open_work_of log) = undo_leaves_less log like.0 (subst (λ j. IsNextUndo j like.0) is like.1) in
      let a : work after ≡ work (open_work_of (like.0 ∷ log)) = ap work (noted ∙ ap open_work_of more ∙ like_work like.0 r log like.2) in
      let b : work h ≡ work (open_work_of log) = ap work is in
      omega (arith, less, a, b)

module _ {L : Type 0} (g : Ghosts L) (only_now : (d : L) (c : List ℕ) → g.left_since d (g.moment d) c → g.may_leave d c) where
  pub still : (d : L) → IsRead g d d
  still d = record { same = refl; honest = λ h. h; leaves = λ c left. left; moments = started g d (g.may_leave d) (only_now d) }

-- one record more is repeated, or doesn't belong
module _ (z y : Sizes) (log : List Record) (r : Record) (sizes : y ≡ z) (count : ℕ) (all : count ≡ length log + 1) where
  pub one_repeated : (old new : Images) → MayComeNext log r → MayRedo y old count r → Redoes (told_by r) count old new → IsRecordRedone z log r old new
  one_repeated old new next may redone = record {
    belongs = record { next = next.next; follows = next.follows; may = subst (λ x. MayRedo x old (length log + 1) r) sizes (subst (λ n. MayRedo y old n r) all may) };
    redone = subst (λ n. Redoes (told_by r) n old new) all redone;
  }

  pub belongs_then : (old : Images) → Belongs z log r old → MayComeNext log r × MayRedo y old count r
  belongs_then old b = (
    record { next = b.next; follows = b.follows },
    subst (λ n. MayRedo y old n r) (sym all) (subst (λ x. MayRedo x old (length log + 1) r) (sym sizes) b.may),
  )

-- a record undoes what is next
one_next : (h : OpenWorkView) (next : NextUndo) → IsUndoneNext h next → (r : Record) × IsNextUndo h r
one_next h (Void o) there = (void_of o, there)
one_next h (Write lsn) there = (undo_of there.0, Undoes there.0 there.2.older there.2.none there.2.first refl)

-- one such record more
module _ (z y : Sizes) (log last : List Record) (first now : Images) (sizes : y ≡ z) (k : IsRepeatedOn z log first last now) where
  pub going_more : (r : Record) (grown : List Record) (after : Images) → is_base r ≡ false → grown ≡ r ∷ last → IsRecordRedone y last r now after → IsRepeatedOn z log first grown after
  going_more r grown after plain more one = subst (λ l. IsRepeatedOn z log first l after) (sym more) (record {
    repeated = λ start before. (now, before_from (now ≡ start) r plain (k.repeated start before), subst (λ x. IsRecordRedone x last r now after) sizes one);
    counted = λ before. subst (λ n. ArePagesCounted z n after) (let e : length last + 1 ≡ length (r ∷ last) = omega arith in e) (counted_more z last r now after (subst (λ x. IsRecordRedone x last r now after) sizes one) (k.counted before));
  })

  module _ (undoing : IsUndoing log last) where
    left_to_undo : (r : Record) (h : OpenWorkView) → h ≡ open_work_of last → IsNextUndo h r → HasUndoLeft log
    left_to_undo r h is next = record { undone = last; undoing = undoing; newest = r; next = subst (λ j. IsNextUndo j r) is next }

    -- what is next was not made
    pub going_stops : (r : Record) (h : OpenWorkView) (e : Refusal) → h ≡ open_work_of last → IsNextUndo h r → StepStops (length last) (Belongs y last r now) e → (start : Images) → Repeats z log start first → UndoStops z log start e
    going_stops r h why.NoMemory is next s start before = left_to_undo r h is next
    going_stops r h why.LogFull is next s start before = record { undone = last; undoing = undoing; full = s }
    going_stops r h (why.Damaged (damage.Record lsn)) is next s start before = record {
      undone = last;
      undoing = undoing;
      newest = r;
      next = subst (λ j. IsNextUndo j r) is next;
      place = s.0;
      mid = now;
      repeated = k.repeated start before;
      bad = λ b. s.1 (subst (λ x. Belongs x last r now) (sym sizes) b);
    }
    going_stops r h _ is next s start before = absurd s

    -- or its page could not be had
    pub going_without : (r : Record) (h : OpenWorkView) (e : Refusal) → h ≡ open_work_of last → IsNextUndo h r → NamesDevice e → (start : Images) → Repeats z log start first → UndoStops z log start e
    going_without r h why.DiskRead is next s start before = left_to_undo r h is next
    going_without r h why.DiskWrite is next s start before = left_to_undo r h is next
    going_without r h _ is next s start before = absurd s

    -- or it was not told
    pub going_waits : {L : Type 0} (g : Ghosts L) (a b : L) (h : OpenWorkView) (next : NextUndo) (e : Refusal) → h ≡ open_work_of last → IsUndoneNext h next → NextNotUndoneFor g e next (length last) a b → g.honest b → (start : Images) → UndoStops z log start e
    going_waits g a b h (Void sub) e is there s honest start = absurd s
    going_waits g a b h (Write lsn) why.NoMemory is there s honest start = (let n = one_next h (Write lsn) there in left_to_undo n.0 h is n.1)
    going_waits g a b h (Write lsn) why.DiskRead is there s honest start = (let n = one_next h (Write lsn) there in left_to_undo n.0 h is n.1)
    going_waits g a b h (Write lsn) why.LogFull is there s honest start = record { undone = last; undoing = undoing; full = s.0 }
    going_waits g a b h (Write lsn) (why.Damaged (damage.Record n)) is there s honest start = absurd (s.2 honest)
    going_waits g a b h (Write lsn) _ is there s honest start = absurd s
