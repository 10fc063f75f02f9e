-- Each record by which an operation without an end is undone: that the log is whole with it, and what is left to do.
use Rattle.std.proofs.Common.{◌≡◌, ℕ, suc, ◌<◌, ◌≤◌, Bool, true, not, List, [], ◌∷◌, ◌++◌, map, length, refl, sym, ◌∙◌, ap, subst, inl, arith}
use Rattle.std.specs.List.{filter}
use Rattle.std.proofs.lemmas.Bool.{false≢true}
use Rattle.rq_model.specs.declared.txn.Sub.{Sub}
use Rattle.rq_model.specs.declared.txn.Txn.{Txn}
use Rattle.rq_model.specs.declared.record.Record.{Record}
use Rattle.rq_model.specs.Vocabulary.{In}
use Rattle.rq_model.specs.Content.{content, deeds, has_commit, no_group, with_deeds}
use Rattle.rq_model.specs.Incarnations.{ArePlain, Extends, is_plain}
use Rattle.rq_model.specs.Unended as unended
use Rattle.rq_model.proofs.Cuts.{plain_commits}
use Rattle.rq_page.specs.Sizes.{Sizes, address}
use Rattle.rq_page.specs.Slots.{Slot, held_in}
use Rattle.rq_views.specs.Log.{Write, IsNewest, same_op}
use Rattle.rq_views.specs.Legal.{IsFirst, lsns}
use Rattle.rq_views.specs.Items.{items}
use Rattle.rq_views.proofs.Idle.{idle_quiet}
use Rattle.rq_views.proofs.Overlay.{same_self as op_self}
use Rattle.rq_store.specs.Fitting.{left_by}
use Rattle.rq_store.specs.Whole.{IsWhole}
use Rattle.rq_store.proofs.Behind.{way_behind}
use Rattle.rq_store.proofs.Opening.{idle_log}
use Rattle.rq_analysis.specs.declared.open_work.UndoableWrite.{UndoableWrite}
use Rattle.rq_analysis.specs.OpenWorkView.{OpenWorkView, open_work_of, has_sub, undoable_by, without_sub, without_undoable, without_newest}
use Rattle.rq_analysis.specs.Pages.{IsSpent, IsNextUndo, UndoesBehind, IsUndoing, IsUndone, void_of, undo_of, work}
use Rattle.rq_analysis.specs.Pages.IsNextUndo.{Voids, Undoes}
use Rattle.rq_analysis.specs.PageUndoTheorems.{IsUndoneFrom}
use Rattle.rq_analysis.proofs.Lists.{sub_in, filter_le, filter_less}
use Rattle.rq_analysis.proofs.Stacks.{none_own}
use Rattle.rq_analysis.proofs.Noting.{noted_unfinished, noted_active, pairs_of}
use Rattle.rq_analysis.proofs.Undoable.{Place, undoable_place, write_place, lsn_of, own_writes, own_lsns, noted_way, under_began, under_open, undoable_noted, undoable_before, noted_order}

no_places : (ws : List Write) → map write_place ws ≡ [] → ws ≡ []
no_places [] e = refl
no_places (w ∷ ws) e = cc

newest_place : (ws : List Write) (at : ℕ) (x : Slot) (ps : List Place) → map write_place ws ≡ (at, x) ∷ ps → IsNewest ws at x
newest_place [] at x ps e = cc
newest_place (w ∷ ws) at x ps e = let same : (w.at, w.before) ≡ (at, x) = cc in (ap (λ (p : Place). p.0) same, ap (λ (p : Place). p.1) same)

-- the void of an operation whose writes are all undone
void_whole : (z : Sizes) (log : List Record) (o : Sub) → IsWhole z log → IsSpent (open_work_of log) o → IsWhole z (void_of o ∷ log)
void_whole z log o w h =
    let i : In o (open_work_of log).unfinished = sub_in o (open_work_of log).unfinished h.unfinished in
    let way = noted_way z log w.legal o i in
    let none : map write_place ((left_by z log).writes o) ≡ [] = sym (own_writes z o log w.legal) ∙ ap (map (undoable_place z)) (none_own (undoable_by o) (open_work_of log).undoable h.none) in
    record {
      legal = (record { all_undone = no_places ((left_by z log).writes o) none; begun = under_began z o log way; going = under_open z o log way }, w.legal);
      told = (tt, w.told);
      rules = (tt, (λ t e. absurd (false≢true e)), w.rules);
      reads = (tt, w.reads);
      in_store = (tt, w.in_store);
      befores = (tt, w.befores);
      based = (tt, w.based);
      behind = (way_behind z log o w.legal w.behind way, w.behind);
      order = (noted_order z log w.legal w.order o i, w.order);
      room = (tt, w.room);
      numbers = (tt, w.numbers);
    }

-- the undo of the newest write
undo_whole : (z : Sizes) (log : List Record) (p : UndoableWrite) (ps : List UndoableWrite) → IsWhole z log → (open_work_of log).undoable ≡ p ∷ ps → IsWhole z (undo_of p ∷ log)
undo_whole z log p ps w f =
    let i : In p (open_work_of log).undoable = rw f (inl refl) in
    let g = undoable_noted log p i in
    let open_still = under_open z p.by log (noted_way z log w.legal p.by g) in
    let own : filter (undoable_by p.by) (open_work_of log).undoable ≡ p ∷ filter (undoable_by p.by) ps = ap (filter (undoable_by p.by)) f ∙ rw (op_self p.by) refl in
    let ws : map write_place ((left_by z log).writes p.by) ≡ undoable_place z p ∷ map (undoable_place z) (filter (undoable_by p.by) ps) = sym (own_writes z p.by log w.legal) ∙ ap (map (undoable_place z)) own in
    let ns : lsns p.by (items z log) ≡ p.lsn ∷ map lsn_of (filter (undoable_by p.by) ps) = sym (own_lsns z p.by log w.legal open_still) ∙ ap (map lsn_of) own in
    record {
      legal = (
        record {
          newest = newest_place ((left_by z log).writes p.by) (address p.page p.slot) (held_in z p.page p.before) (map (undoable_place z) (filter (undoable_by p.by) ps)) ws;
          lsn = subst (IsFirst p.lsn) (sym ns) refl;
          going = open_still;
        },
        w.legal,
      );
      told = (tt, w.told);
      rules = (tt, (λ t e. absurd (false≢true e)), w.rules);
      reads = (tt, w.reads);
      in_store = (undoable_before z log w.befores p i, w.in_store);
      befores = (tt, w.befores);
      based = (tt, w.based);
      behind = (way_behind z log p.by w.legal w.behind (noted_way z log w.legal p.by g), w.behind);
      order = (noted_order z log w.legal w.order p.by g, w.order);
      room = (tt, w.room);
      numbers = (tt, w.numbers);
    }

pub undo_keeps_whole : (z : Sizes) (log : List Record) (r : Record) → IsWhole z log → IsNextUndo (open_work_of log) r → IsWhole z (r ∷ log)
undo_keeps_whole z log r w (Voids o h least e) = rw e (void_whole z log o w h)
undo_keeps_whole z log r w (Undoes p ps none f e) = rw e (undo_whole z log p ps w f)

without_less : (o : Sub) (os : List Sub) → In o os → length (without_sub o os) < length os
without_less o os i = filter_less (λ u. not (same_op o u)) os o i (ap not (op_self o))

newest_less : (p : UndoableWrite) (ps : List UndoableWrite) → length (without_newest p.by (p ∷ ps)) ≡ length ps
newest_less p ps = rw (op_self p.by) refl

pub undo_leaves_less : (log : List Record) (r : Record) → IsNextUndo (open_work_of log) r → work (open_work_of (r ∷ log)) < work (open_work_of log)
undo_leaves_less log r (Voids o h least e) =
    let a = without_less o (open_work_of log).unfinished (sub_in o (open_work_of log).unfinished h.unfinished) in
    let b : length (without_undoable o (open_work_of log).undoable) ≤ length (open_work_of log).undoable = filter_le (λ p. not (undoable_by o p)) (open_work_of log).undoable in
    rw e (omega (arith, a, b))
undo_leaves_less log r (Undoes p ps none f e) =
    let a : length (without_newest p.by (open_work_of log).undoable) ≡ length ps = ap (λ l. length (without_newest p.by l)) f ∙ newest_less p ps in
    let b : length (open_work_of log).undoable ≡ suc (length ps) = ap length f in
    rw e (omega (arith, a, b))

pub undo_is_plain : (h : OpenWorkView) (r : Record) → IsNextUndo h r → is_plain r ≡ true
undo_is_plain h r (Voids o s least e) = rw e refl
undo_is_plain h r (Undoes p ps none f e) = rw e refl

-- no more have their Commit
void_commits : (o : Sub) (log : List Record) → has_commit (void_of o ∷ log) ≡ has_commit log
void_commits o log = λ i. λ t. has_commit log t

undo_commits : (p : UndoableWrite) (log : List Record) → has_commit (undo_of p ∷ log) ≡ has_commit log
undo_commits p log = λ i. λ t. has_commit log t

same_deeds : (log : List Record) (s : ℕ) (p : Txn → Bool) → p ≡ has_commit log → with_deeds s (deeds p log) no_group ≡ content log s
same_deeds log s p e = ap (λ q. with_deeds s (deeds q log) no_group) e

-- what such a record leaves as it was
abbrev Stays : Sizes → List Record → Record → Type 0
Stays z log r = ((open_work_of (r ∷ log)).active ≡ (open_work_of log).active) × ((left_by z (r ∷ log)).quiet ≡ (left_by z log).quiet) × ((s : ℕ) → content (r ∷ log) s ≡ content log s)

stays : (z : Sizes) (log : List Record) (r : Record) → IsNextUndo (open_work_of log) r → Stays z log r
stays z log r (Voids o s least e) = subst (Stays z log) (sym e) (refl, refl, (λ s. same_deeds log s (has_commit (void_of o ∷ log)) (void_commits o log)))
stays z log r (Undoes p ps none f e) = subst (Stays z log) (sym e) (refl, refl, (λ s. same_deeds log s (has_commit (undo_of p ∷ log)) (undo_commits p log)))

behind_whole : (z : Sizes) (log front : List Record) → IsWhole z log → UndoesBehind log front → IsWhole z (front ++ log)
behind_whole z log [] w h = w
behind_whole z log (r ∷ front) w h = undo_keeps_whole z (front ++ log) r (behind_whole z log front w h.1) h.0

pub behind_plain : (log front : List Record) → UndoesBehind log front → ArePlain front
behind_plain log [] h = tt
behind_plain log (r ∷ front) h = (undo_is_plain (open_work_of (front ++ log)) r h.0, behind_plain log front h.1)

behind_active : (z : Sizes) (log front : List Record) → UndoesBehind log front → (open_work_of (front ++ log)).active ≡ (open_work_of log).active
behind_active z log [] h = refl
behind_active z log (r ∷ front) h = (stays z (front ++ log) r h.0).0 ∙ behind_active z log front h.1

behind_quiet : (z : Sizes) (log front : List Record) → UndoesBehind log front → (left_by z (front ++ log)).quiet ≡ (left_by z log).quiet
behind_quiet z log [] h = refl
behind_quiet z log (r ∷ front) h = (stays z (front ++ log) r h.0).1 ∙ behind_quiet z log front h.1

behind_content : (z : Sizes) (log front : List Record) (s : ℕ) → UndoesBehind log front → content (front ++ log) s ≡ content log s
behind_content z log [] s h = refl
behind_content z log (r ∷ front) s h = (stays z (front ++ log) r h.0).2 s ∙ behind_content z log front s h.1

pairs_none : (os : List Sub) → os ≡ [] → pairs_of os ≡ []
pairs_none os e = ap pairs_of e

module _ (z : Sizes) (log front : List Record) (w : IsWhole z log) (h : UndoesBehind log front) (none : (open_work_of (front ++ log)).unfinished ≡ []) where
  abbrev grown : List Record
  grown = front ++ log

  whole : IsWhole z grown
  whole = behind_whole z log front w h

  ended : unended.unfinished grown ≡ []
  ended = sym (noted_unfinished z grown whole.legal) ∙ pairs_none (open_work_of grown).unfinished none

  pub undone_all : IsUndoneFrom z log grown
  undone_all = record {
    whole = whole;
    extends = (front, refl, behind_plain log front h);
    content = λ s. behind_content z log front s h;
    committed = plain_commits front log (behind_plain log front h);
    none_unfinished = ended;
    lost = sym (noted_active z grown whole.legal whole.reads) ∙ behind_active z log front h ∙ noted_active z log w.legal w.reads;
    slots = λ a. idle_quiet _ (items z grown) whole.legal (idle_log z grown whole.legal ended) a ∙ ap (λ q. q a) (behind_quiet z log front h);
  }

pub undone_from : (z : Sizes) (log last : List Record) → IsWhole z log → IsUndone log last → IsUndoneFrom z log last
undone_from z log last w h =
    let u = h.undoing in
    subst (λ l. IsUndoneFrom z log l) u.are (undone_all z log u.front w u.undoes (ap (λ l. (open_work_of l).unfinished) u.are ∙ h.none))

-- on the way there the log is whole too, and has what it had
pub undoing_whole : (z : Sizes) (log last : List Record) → IsWhole z log → IsUndoing log last → IsWhole z last
undoing_whole z log last w h = subst (IsWhole z) h.are (behind_whole z log h.front w h.undoes)

pub undoing_extends : (log last : List Record) → IsUndoing log last → Extends log last
undoing_extends log last h = (h.front, h.are, behind_plain log h.front h.undoes)

-- no record yet, and one more
pub undoing_none : (log : List Record) → IsUndoing log log
undoing_none log = record { front = []; are = refl; undoes = tt }

pub undoing_more : (log last : List Record) (r : Record) → IsUndoing log last → IsNextUndo (open_work_of last) r → IsUndoing log (r ∷ last)
undoing_more log last r h next = record {
  front = r ∷ h.front;
  are = ap (λ l. r ∷ l) h.are;
  undoes = (subst (λ l. IsNextUndo (open_work_of l) r) (sym h.are) next, h.undoes);
}

-- where nothing is to be undone, nothing is
nothing_next : (h : OpenWorkView) (r : Record) → h.unfinished ≡ [] → h.undoable ≡ [] → IsNextUndo h r → ⊥
nothing_next h r none no_undoable (Voids o s least e) = false≢true (sym (ap (has_sub o) none) ∙ s.unfinished)
nothing_next h r none no_undoable (Undoes p ps spent undoable e) = some_not_none (sym undoable ∙ no_undoable) where
  some_not_none : p ∷ ps ≡ [] → ⊥
  some_not_none k = cc k

nothing_behind : (log front : List Record) → (open_work_of log).unfinished ≡ [] → (open_work_of log).undoable ≡ [] → UndoesBehind log front → front ≡ []
nothing_behind log [] none no_undoable h = refl
nothing_behind log (r ∷ front) none no_undoable h =
    let e = nothing_behind log front none no_undoable h.1 in
    absurd (nothing_next (open_work_of log) r none no_undoable (subst (λ f. IsNextUndo (open_work_of (f ++ log)) r) e h.0))

pub nothing_undone : (log last : List Record) → (open_work_of log).unfinished ≡ [] → (open_work_of log).undoable ≡ [] → IsUndoing log last → last ≡ log
nothing_undone log last none no_undoable h = sym h.are ∙ ap (λ f. f ++ log) (nothing_behind log h.front none no_undoable h.undoes)
