-- What is kept of places behind a record.
use Rattle.std.proofs.Common.{◌≡◌, ◌≢◌, ◌↔◌, ◌⊎◌, inl, inr, ℕ, zero, suc, ◌+◌, ◌<◌, ◌≤◌, get_or, arith, Bool, true, false, not, ◌||◌, List, [], ◌∷◌, ◌++◌, length, refl, sym, ◌∙◌, ap, subst}
use Rattle.std.proofs.lemmas.Bool.{cases_lt, not-true, not_from_false, or_parts}
use Rattle.std.specs.List.{filter}
use Rattle.std.proofs.lemmas.List.{append-nil}
use Rattle.std.specs.List.Sorted.{IsNonDecreasingBy}
use Rattle.std.proofs.lemmas.List.Kept.{AllPairs-filter}
use Rattle.std.proofs.lemmas.List.Quantifiers.{all_pairs_push}
use Rattle.rq_model.specs.declared.txn.Txn.{Txn}
use Rattle.rq_model.specs.declared.txn.Sub.{Sub}
use Rattle.rq_model.specs.declared.record.Record.{Record}
use Rattle.rq_model.specs.declared.record.Record.TheVariants as records
use Rattle.rq_model.specs.Unended.{any_record}
use Rattle.rq_model.specs.Vocabulary.{In, same_txn}
use Rattle.rq_model.proofs.Lists.{In-filter}
use Rattle.rq_log.specs.Places.{IsAt}
use Rattle.rq_log.specs.Spelled.{spelled}
use Rattle.rq_model.specs.Bases.{is_base, standing}
use Rattle.rq_model.proofs.Bases.{standing_plain}
use Rattle.rq_analysis.specs.declared.dues.PendingUndo.{PendingUndo}
use Rattle.rq_analysis.specs.declared.open_work.UndoableWrite.{UndoableWrite}
use Rattle.rq_analysis.specs.Dues.{due_of, dues, end_due}
use Rattle.rq_analysis.specs.OpenWorkView.{open_work_of, undoable_by}
use Rattle.rq_analysis.proofs.Stacks.{in_newest}
use Rattle.rq_views.specs.Log.{same_op}
use Rattle.rq_views.specs.Items.{operation}
use Rattle.rq_views.proofs.AllOpen.{filter_in}
use Rattle.rq_restart.specs.declared.places.Place.{Place}
use Rattle.rq_restart.specs.Places.{AreRising, IsDueKept, IsKept, IsOpenIn, IsWriteKept, OpenPlaces, PlacesAreOpen, UndosHavePlaces, end_at, ends_after, ends_operation, ends_txn, no_places, place_at, places_after, places_of, write_at, writes_after}

all_stay : (xs : List Place) → filter (λ p. not false) xs ≡ xs
all_stay [] = refl
all_stay (x ∷ xs) = ap (λ l. x ∷ l) (all_stay xs)

none_stays : (xs : List Place) → filter (λ p. not true) xs ≡ []
none_stays [] = refl
none_stays (x ∷ xs) = none_stays xs

abbrev places : List Place → List Place → OpenPlaces
places writes ends = record { writes = writes; ends = ends }

both : {a b c d : List Place} → a ≡ b → c ≡ d → places a c ≡ places b d
both {a} {b} {c} {d} e f = ap (λ (l : List Place). places l c) e ∙ ap (places b) f

-- as it was, with nothing added
pub as_was : (xs : List Place) → xs ≡ filter (λ p. not false) xs ++ []
as_was xs = sym (append-nil (filter (λ p. not false) xs) ∙ all_stay xs)

pub one_more : (xs : List Place) (p : Place) → xs ++ (p ∷ []) ≡ filter (λ q. not false) xs ++ (p ∷ [])
one_more xs p = ap (λ l. l ++ (p ∷ [])) (sym (all_stay xs))

pub none_more : (xs : List Place) → xs ≡ xs ++ []
none_more xs = sym (append-nil xs)

pub none_left : (xs : List Place) → [] ≡ filter (λ p. not true) xs ++ []
none_left xs = sym (append-nil _ ∙ none_stays xs)

pub base_noted : (lsn place : ℕ) (s : OpenPlaces) (many i : ℕ) → no_places ≡ places_after lsn place (records.Base many i) s
base_noted lsn place s many i = both (none_left s.writes) (none_left s.ends)

-- as each of the two lists is changed
pub both_after : (lsn place : ℕ) (r : Record) (s : OpenPlaces) (writes ends old_writes old_ends : List Place) → writes ≡ writes_after lsn place r old_writes → ends ≡ ends_after lsn place r old_ends → places old_writes old_ends ≡ s → places writes ends ≡ places_after lsn place r s
both_after lsn place r s writes ends old_writes old_ends a b is = both a b ∙ ap (places_after lsn place r) is

-- ---- among places

pub in_there : (ps : List Place) (i : ℕ) (d : Place) → i < length ps → In (get_or ps i d) ps
in_there [] i d lt = absurd (omega (arith, lt))
in_there (x ∷ ps) zero d lt = inl refl
in_there (x ∷ ps) (suc i) d lt = inr (in_there ps i d (omega (arith, lt)))

index_of : (ps : List Place) (p : Place) → In p ps → (k : ℕ) × (k < length ps) × (get_or ps k p ≡ p)
index_of [] p i = absurd i
index_of (x ∷ ps) p (inl e) = (zero, omega arith, sym e)
index_of (x ∷ ps) p (inr i) = let rest = index_of ps p i in (suc rest.0, (let within = rest.1 in omega (arith, within)), rest.2)

-- ---- of a log

in_left : (xs ys : List Place) (p : Place) → In p xs → In p (xs ++ ys)
in_left (x ∷ xs) ys p (inl e) = inl e
in_left (x ∷ xs) ys p (inr i) = inr (in_left xs ys p i)
in_left [] ys p i = absurd i

in_right : (xs ys : List Place) (p : Place) → In p ys → In p (xs ++ ys)
in_right [] ys p i = i
in_right (x ∷ xs) ys p i = inr (in_right xs ys p i)

in_either : (xs ys : List Place) (p : Place) → In p (xs ++ ys) → In p xs ⊎ In p ys
in_either [] ys p i = inr i
in_either (x ∷ xs) ys p (inl e) = inl (inl e)
in_either (x ∷ xs) ys p (inr i) = elim (in_either xs ys p i) [ inl a ↦ inl (inr a) | inr b ↦ inr b ]

module _ (at : ℕ → ℕ → Record → List Place) (ends : Record → Place → Bool) (table : List Record → List Place) (none : table [] ≡ [])
    (more : (r : Record) (log : List Record) → table (r ∷ log) ≡ filter (λ p. not (ends r p)) (table log) ++ at (length log + 1) (length (spelled log)) r)
    (one : (lsn place : ℕ) (r : Record) (p : Place) → In p (at lsn place r) → at lsn place r ≡ p ∷ []) where
  open_in : (log : List Record) (p : Place) → In p (table log) → IsOpenIn at ends log p
  open_in [] p i = absurd (subst (In p) none i)
  open_in (r ∷ log) p i = elim (in_either (filter (λ q. not (ends r q)) (table log)) (at (length log + 1) (length (spelled log)) r) p (subst (In p) (more r log) i)) [
    | inl old ↦
        let kept = In-filter (λ q. not (ends r q)) (table log) p old in
        let k = open_in log p kept.0 in
        record { newer = r ∷ k.newer; made = k.made; older = k.older; is = ap (λ l. r ∷ l) k.is; there = k.there; none_ends = ap (λ b. b || any_record (λ q. ends q p) k.newer) (not-true (ends r p) kept.1) ∙ k.none_ends }
    | inr new ↦ record { newer = []; made = r; older = log; is = refl; there = one (length log + 1) (length (spelled log)) r p new; none_ends = refl }
  ]

  stays_in : (newer older : List Record) (r : Record) (p : Place) → at (length older + 1) (length (spelled older)) r ≡ p ∷ [] → any_record (λ q. ends q p) newer ≡ false → In p (table (newer ++ (r ∷ older)))
  stays_in [] older r p there none_ends =
      subst (In p) (sym (more r older)) (in_right (filter (λ q. not (ends r q)) (table older)) (at (length older + 1) (length (spelled older)) r) p (subst (In p) (sym there) (inl refl)))
  stays_in (q ∷ newer) older r p there none_ends =
      let log : List Record = newer ++ (r ∷ older) in
      let none = or_parts (ends q p) (any_record (λ x. ends x p) newer) none_ends in
      subst (In p) (sym (more q log)) (in_left (filter (λ x. not (ends q x)) (table log)) (at (length log + 1) (length (spelled log)) q) p
      (filter_in (λ x. not (ends q x)) (table log) p (stays_in newer older r p there none.1) (not_from_false (ends q p) none.0)))

  exactly_open : (log : List Record) (p : Place) → In p (table log) ↔ IsOpenIn at ends log p
  exactly_open log p = (open_in log p, λ k. subst (λ l. In p (table l)) (sym k.is) (stays_in k.newer k.older k.made p k.there k.none_ends))

one_write : (lsn place : ℕ) (r : Record) (p : Place) → In p (write_at lsn place r) → write_at lsn place r ≡ p ∷ []
one_write lsn place (records.PageOp t n page slot before after) p (inl e) = ap (λ q. q ∷ []) (sym e)
one_write lsn place (records.PageOp t n page slot before after) p (inr i) = absurd i
one_write lsn place _ p i = absurd i

one_end : (lsn place : ℕ) (r : Record) (p : Place) → In p (end_at lsn place r) → end_at lsn place r ≡ p ∷ []
one_end lsn place (records.OpEnd t n level deed) p (inl e) = ap (λ q. q ∷ []) (sym e)
one_end lsn place (records.OpEnd t n level deed) p (inr i) = absurd i
one_end lsn place _ p i = absurd i

-- ---- of what is to be undone

-- a record more leaves a record where it stands, and its place if its operation's are left
kept_more : (log : List Record) (r : Record) (kept now : List Place) (lsn : ℕ) (by : Sub) (made : Record) → is_base r ≡ false → ((p : Place) → p.by ≡ by → In p kept → In p now) → IsKept log kept lsn by made → IsKept (r ∷ log) now lsn by made
kept_more log r kept now lsn by made plain stays k = record {
  place = k.place;
  among = stays (record { lsn = lsn; by = by; place = k.place }) refl k.among;
  there = (r ∷ k.there.0, k.there.1, standing_plain r log plain ∙ ap (λ l. r ∷ l) k.there.2, k.there.3);
}

-- where none are taken out
left_in : (xs ys : List Place) (p : Place) → In p xs → In p (filter (λ q. not false) xs ++ ys)
left_in xs ys p i = in_left (filter (λ q. not false) xs) ys p (subst (In p) (sym (all_stay xs)) i)

write_more : (log : List Record) (r : Record) (w : UndoableWrite) → is_base r ≡ false → ((p : Place) → p.by ≡ w.by → In p (places_of log).writes → In p (places_of (r ∷ log)).writes) → IsWriteKept log w → IsWriteKept (r ∷ log) w
write_more log r w plain stays k = (k.0, kept_more log r (places_of log).writes (places_of (r ∷ log)).writes w.lsn w.by _ plain stays k.1)

-- of an operation that has no end yet
other_in : (o : Sub) (w : UndoableWrite) (xs : List Place) → not (undoable_by o w) ≡ true → (p : Place) → p.by ≡ w.by → In p xs → In p (filter (λ q. not (same_op q.by o)) xs ++ [])
other_in o w xs other p same i =
    in_left (filter (λ q. not (same_op q.by o)) xs) [] p (filter_in (λ q. not (same_op q.by o)) xs p i (subst (λ b. not (same_op b o) ≡ true) (sym same) other))

ended_more : (log : List Record) (r : Record) (o : Sub) (w : UndoableWrite) → is_base r ≡ false → (places_of (r ∷ log)).writes ≡ filter (λ q. not (same_op q.by o)) (places_of log).writes ++ [] → not (undoable_by o w) ≡ true → IsWriteKept log w → IsWriteKept (r ∷ log) w
ended_more log r o w plain left other k = write_more log r w plain (λ p same i. subst (In p) (sym left) (other_in o w (places_of log).writes other p same i)) k

still_more : (log : List Record) (r : Record) (w : UndoableWrite) (own : List Place) → is_base r ≡ false → (places_of (r ∷ log)).writes ≡ filter (λ q. not false) (places_of log).writes ++ own → IsWriteKept log w → IsWriteKept (r ∷ log) w
still_more log r w own plain left k = write_more log r w plain (λ p same i. subst (In p) (sym left) (left_in (places_of log).writes own p i)) k

write_kept : (log : List Record) (w : UndoableWrite) → In w (open_work_of log).undoable → IsWriteKept log w
write_kept [] w i = absurd i
write_kept (records.PageOp t n page slot before after ∷ log) w (inl e) =
    let r : Record = records.PageOp t n page slot before after in
    subst (IsWriteKept (r ∷ log)) (sym e) (
      after,
      record {
        place = length (spelled log);
        among = in_right (filter (λ q. not false) (places_of log).writes) (place_at (length log + 1) (length (spelled log)) t n ∷ []) (place_at (length log + 1) (length (spelled log)) t n) (inl refl);
        there = ([], standing log, refl, refl);
      },
    )
write_kept (records.PageOp t n page slot before after ∷ log) w (inr i) = still_more log (records.PageOp t n page slot before after) w (place_at (length log + 1) (length (spelled log)) t n ∷ []) refl refl (write_kept log w i)
write_kept (records.PageUndo t n undone page slot after ∷ log) w i = still_more log (records.PageUndo t n undone page slot after) w [] refl refl (write_kept log w (in_newest (undoable_by (operation t n)) (open_work_of log).undoable w i))
write_kept (records.OpEnd t n level deed ∷ log) w i =
    let k = In-filter (λ q. not (undoable_by (operation t n) q)) (open_work_of log).undoable w i in
    ended_more log (records.OpEnd t n level deed) (operation t n) w refl refl k.1 (write_kept log w k.0)
write_kept (records.OpVoid t n ∷ log) w i =
    let k = In-filter (λ q. not (undoable_by (operation t n) q)) (open_work_of log).undoable w i in
    ended_more log (records.OpVoid t n) (operation t n) w refl refl k.1 (write_kept log w k.0)
write_kept (records.CompEnd t n undone ∷ log) w i =
    let k = In-filter (λ q. not (undoable_by (operation t n) q)) (open_work_of log).undoable w i in
    ended_more log (records.CompEnd t n undone) (operation t n) w refl refl k.1 (write_kept log w k.0)
write_kept (records.Commit t ∷ log) w i = still_more log (records.Commit t) w [] refl refl (write_kept log w i)
write_kept (records.AbortEnd t ∷ log) w i = still_more log (records.AbortEnd t) w [] refl refl (write_kept log w i)
write_kept (records.Restart n ∷ log) w i = still_more log (records.Restart n) w [] refl refl (write_kept log w i)
write_kept (records.Base many n ∷ log) w i = absurd i

due_more : (log : List Record) (r : Record) (d : PendingUndo) → is_base r ≡ false → ((p : Place) → p.by ≡ operation d.txn d.number → In p (places_of log).ends → In p (places_of (r ∷ log)).ends) → IsDueKept log d → IsDueKept (r ∷ log) d
due_more log r d plain stays k = kept_more log r (places_of log).ends (places_of (r ∷ log)).ends d.lsn (operation d.txn d.number) _ plain stays k

due_still : (log : List Record) (r : Record) (d : PendingUndo) (own : List Place) → is_base r ≡ false → (places_of (r ∷ log)).ends ≡ filter (λ q. not false) (places_of log).ends ++ own → IsDueKept log d → IsDueKept (r ∷ log) d
due_still log r d own plain left k = due_more log r d plain (λ p same i. subst (In p) (sym left) (left_in (places_of log).ends own p i)) k

-- of a transaction that has no end yet
due_ended : (log : List Record) (r : Record) (t : Txn) (d : PendingUndo) → is_base r ≡ false → (places_of (r ∷ log)).ends ≡ filter (λ q. not (same_txn q.by.txn t)) (places_of log).ends ++ [] → not (due_of t d) ≡ true → IsDueKept log d → IsDueKept (r ∷ log) d
due_ended log r t d plain left other k = due_more log r d plain
    (λ p same i. subst (In p) (sym left) (in_left (filter (λ q. not (same_txn q.by.txn t)) (places_of log).ends) [] p
    (filter_in (λ q. not (same_txn q.by.txn t)) (places_of log).ends p i (subst (λ (o : Sub). not (same_txn o.txn t) ≡ true) (sym same) other)))) k

due_kept : (log : List Record) (d : PendingUndo) → In d (dues log) → IsDueKept log d
due_kept [] d i = absurd i
due_kept (records.OpEnd t n level deed ∷ log) d (inl e) =
    let r : Record = records.OpEnd t n level deed in
    subst (IsDueKept (r ∷ log)) (sym e) (record {
      place = length (spelled log);
      among = in_right (filter (λ q. not false) (places_of log).ends) (place_at (length log + 1) (length (spelled log)) t n ∷ []) (place_at (length log + 1) (length (spelled log)) t n) (inl refl);
      there = ([], standing log, refl, refl);
    })
due_kept (records.OpEnd t n level deed ∷ log) d (inr i) = due_still log (records.OpEnd t n level deed) d (place_at (length log + 1) (length (spelled log)) t n ∷ []) refl refl (due_kept log d i)
due_kept (records.CompEnd t n undone ∷ log) d i = due_still log (records.CompEnd t n undone) d [] refl refl (due_kept log d (in_newest (due_of t) (dues log) d i))
due_kept (records.Commit t ∷ log) d i =
    let k = In-filter (λ x. not (due_of t x)) (dues log) d i in
    due_ended log (records.Commit t) t d refl refl k.1 (due_kept log d k.0)
due_kept (records.AbortEnd t ∷ log) d i =
    let k = In-filter (λ x. not (due_of t x)) (dues log) d i in
    due_ended log (records.AbortEnd t) t d refl refl k.1 (due_kept log d k.0)
due_kept (records.PageOp t n page slot before after ∷ log) d i = due_still log (records.PageOp t n page slot before after) d [] refl refl (due_kept log d i)
due_kept (records.PageUndo t n undone page slot after ∷ log) d i = due_still log (records.PageUndo t n undone page slot after) d [] refl refl (due_kept log d i)
due_kept (records.OpVoid t n ∷ log) d i = due_still log (records.OpVoid t n) d [] refl refl (due_kept log d i)
due_kept (records.Restart n ∷ log) d i = due_still log (records.Restart n) d [] refl refl (due_kept log d i)
due_kept (records.Base many n ∷ log) d i = absurd i

-- ---- by rising LSN, and of a record with this LSN one place at most

risen : (xs ys : List Place) → AreRising xs → ((p : Place) → In p ys → ys ≡ p ∷ []) → ((p q : Place) → In p xs → In q ys → p.lsn < q.lsn) → AreRising (xs ++ ys)
risen xs [] rise one above = subst AreRising (sym (append-nil xs)) rise
risen xs (y ∷ ys) rise one above =
    subst (λ l. AreRising (xs ++ l)) (sym (one y (inl refl)))
    (all_pairs_push (λ (p q : Place). p.lsn < q.lsn) xs y rise (λ k d lt. above (get_or xs k d) y (in_there xs k d lt) (inl refl)))

pub never_falls : (ps : List Place) → AreRising ps → IsNonDecreasingBy (λ (p : Place). p.lsn) ps
never_falls ps rise i j d le within = elim (cases_lt i j) [
  | inl less ↦ (let k = rise i j d less within in omega (arith, k))
  | inr not_less ↦ (let same : i ≡ j = omega (arith, le, not_less) in let k = ap (λ n. (get_or ps n d).lsn) same in omega (arith, k))
]

module _ (at : ℕ → ℕ → Record → List Place) (ends : Record → Place → Bool) (table : List Record → List Place) (none : table [] ≡ [])
    (more : (r : Record) (log : List Record) → table (r ∷ log) ≡ filter (λ p. not (ends r p)) (table log) ++ at (length log + 1) (length (spelled log)) r)
    (one : (lsn place : ℕ) (r : Record) (p : Place) → In p (at lsn place r) → at lsn place r ≡ p ∷ []) (own : (lsn place : ℕ) (r : Record) (p : Place) → In p (at lsn place r) → p.lsn ≡ lsn) where
  old_or_new : (r : Record) (log : List Record) (p : Place) → In p (table (r ∷ log)) → In p (table log) ⊎ In p (at (length log + 1) (length (spelled log)) r)
  old_or_new r log p i = elim (in_either (filter (λ q. not (ends r q)) (table log)) (at (length log + 1) (length (spelled log)) r) p (subst (In p) (more r log) i)) [
    | inl old ↦ inl (In-filter (λ q. not (ends r q)) (table log) p old).0
    | inr new ↦ inr new
  ]

  lsn_within : (log : List Record) (p : Place) → In p (table log) → p.lsn ≤ length log
  lsn_within [] p i = absurd (subst (In p) none i)
  lsn_within (r ∷ log) p i = elim (old_or_new r log p i) [
    | inl old ↦ (let k = lsn_within log p old in omega (arith, k))
    | inr new ↦ (let k = own (length log + 1) (length (spelled log)) r p new in omega (arith, k))
  ]

  rise : (log : List Record) → AreRising (table log)
  rise [] = subst AreRising (sym none) (λ i j d less within. absurd (omega (arith, within)))
  rise (r ∷ log) =
      let old = filter (λ p. not (ends r p)) (table log) in
      let new = at (length log + 1) (length (spelled log)) r in
      subst AreRising (sym (more r log)) (risen old new (AllPairs-filter (λ (p q : Place). p.lsn < q.lsn) (λ p. not (ends r p)) (table log) (rise log)) (one (length log + 1) (length (spelled log)) r)
      (λ p q i j. let a = lsn_within log p (In-filter (λ x. not (ends r x)) (table log) p i).0 in let b = own (length log + 1) (length (spelled log)) r q j in omega (arith, a, b)))

  one_kept : (log : List Record) (p q : Place) → In p (table log) → In q (table log) → p.lsn ≡ q.lsn → p ≡ q
  one_kept [] p q i j e = absurd (subst (In p) none i)
  one_kept (r ∷ log) p q i j e =
      let n = length log + 1 in
      let place = length (spelled log) in
      elim (old_or_new r log p i) [
        | inl old ↦ elim (old_or_new r log q j) [
          | inl also ↦ one_kept log p q old also e
          | inr new ↦ (let a = lsn_within log p old in let b = own n place r q new in absurd (omega (arith, a, b, e)))
        ]
        | inr new ↦ elim (old_or_new r log q j) [
          | inl old ↦ (let a = lsn_within log q old in let b = own n place r p new in absurd (omega (arith, a, b, e)))
          | inr also ↦ (let same : p ∷ [] ≡ q ∷ [] = sym (one n place r p new) ∙ one n place r q also in let is : p ≡ q = cc in is)
        ]
      ]

own_write : (lsn place : ℕ) (r : Record) (p : Place) → In p (write_at lsn place r) → p.lsn ≡ lsn
own_write lsn place (records.PageOp t n page slot before after) p (inl e) = ap (λ (q : Place). q.lsn) e
own_write lsn place (records.PageOp t n page slot before after) p (inr i) = absurd i
own_write lsn place _ p i = absurd i

own_end : (lsn place : ℕ) (r : Record) (p : Place) → In p (end_at lsn place r) → p.lsn ≡ lsn
own_end lsn place (records.OpEnd t n level deed) p (inl e) = ap (λ (q : Place). q.lsn) e
own_end lsn place (records.OpEnd t n level deed) p (inr i) = absurd i
own_end lsn place _ p i = absurd i

pub writes_rise : (log : List Record) → AreRising (places_of log).writes
writes_rise = rise write_at (λ r q. ends_operation r q.by) (λ log. (places_of log).writes) refl (λ r log. refl) one_write own_write

pub ends_rise : (log : List Record) → AreRising (places_of log).ends
ends_rise = rise end_at (λ r q. ends_txn r q.by.txn) (λ log. (places_of log).ends) refl (λ r log. refl) one_end own_end

pub places_are_open : PlacesAreOpen
places_are_open = record {
  writes = exactly_open write_at (λ r q. ends_operation r q.by) (λ log. (places_of log).writes) refl (λ r log. refl) one_write;
  ends = exactly_open end_at (λ r q. ends_txn r q.by.txn) (λ log. (places_of log).ends) refl (λ r log. refl) one_end;
  writes_rise = writes_rise;
  ends_rise = ends_rise;
}

-- the record of a write that is not undone stands where its LSN is kept, and is of its operation
pub write_there : (log : List Record) (w : UndoableWrite) (p : Place) → In w (open_work_of log).undoable → In p (places_of log).writes → p.lsn ≡ w.lsn → (p.by ≡ w.by) × ((after : List ℕ) × IsAt log p.place (records.PageOp w.by.txn w.by.number w.page w.slot w.before after))
write_there log w p i j e =
    let k = write_kept log w i in
    let q : Place = record { lsn = w.lsn; by = w.by; place = k.1.place } in
    let same : p ≡ q = one_kept write_at (λ r x. ends_operation r x.by) (λ log. (places_of log).writes) refl (λ r log. refl) one_write own_write log p q j k.1.among e in
    (ap (λ (x : Place). x.by) same, (k.0, subst (λ n. IsAt log n (records.PageOp w.by.txn w.by.number w.page w.slot w.before k.0)) (sym (ap (λ (x : Place). x.place) same)) k.1.there))

pub write_found : (log : List Record) (w : UndoableWrite) → In w (open_work_of log).undoable → ((p : Place) → In p (places_of log).writes → p.lsn ≢ w.lsn) → ⊥
write_found log w i none = let k = write_kept log w i in none (record { lsn = w.lsn; by = w.by; place = k.1.place }) k.1.among refl

-- so does that of what is to be taken back, and it is of its operation
pub due_there : (log : List Record) (d : PendingUndo) (p : Place) → In d (dues log) → In p (places_of log).ends → p.lsn ≡ d.lsn → (p.by ≡ operation d.txn d.number) × IsAt log p.place (end_due d)
due_there log d p i j e =
    let k = due_kept log d i in
    let q : Place = record { lsn = d.lsn; by = operation d.txn d.number; place = k.place } in
    let same : p ≡ q = one_kept end_at (λ r x. ends_txn r x.by.txn) (λ log. (places_of log).ends) refl (λ r log. refl) one_end own_end log p q j k.among e in
    (ap (λ (x : Place). x.by) same, subst (λ n. IsAt log n (end_due d)) (sym (ap (λ (x : Place). x.place) same)) k.there)

pub due_found : (log : List Record) (d : PendingUndo) → In d (dues log) → ((p : Place) → In p (places_of log).ends → p.lsn ≢ d.lsn) → ⊥
due_found log d i none = let k = due_kept log d i in none (record { lsn = d.lsn; by = operation d.txn d.number; place = k.place }) k.among refl

-- ---- a place that is looked for by its LSN

-- what a list gives beyond its end
abbrev pub no_lsn : Place
no_lsn = record { lsn = 0; by = record { txn = record { incarnation = 0; count = 0 }; number = 0 }; place = 0 }

-- behind all with a smaller LSN, where it is not the first of the others, there is none
pub none_with : (ps : List Place) (i lsn : ℕ) → AreRising ps → ((k : ℕ) (d : Place) → k < i → (get_or ps k d).lsn < lsn) → ((k : ℕ) (d : Place) → i ≤ k → k < length ps → lsn ≤ (get_or ps k d).lsn) → (i < length ps → (d : Place) → (get_or ps i d).lsn ≢ lsn) → (p : Place) → In p ps → p.lsn ≢ lsn
none_with ps i lsn rise below above other p there same =
    let at = index_of ps p there in
    let here = ap (λ (q : Place). q.lsn) at.2 in
    elim (cases_lt at.0 i) [
      | inl before ↦ let less = below at.0 p before in absurd (omega (arith, less, here, same))
      | inr behind ↦
          let within : i < length ps = let k = at.1 in omega (arith, k, behind) in
          let first = above i p (omega arith) within in
          let least = never_falls ps rise i at.0 p behind at.1 in
          other within p (omega (arith, first, least, here, same))
    ]

pub undos_have_places : UndosHavePlaces
undos_have_places = record { writes = write_kept; dues = due_kept }
