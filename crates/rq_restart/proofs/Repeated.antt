-- Pages that a log was repeated on.
use Rattle.std.proofs.Common.{◌≡◌, ◌⊎◌, ℕ, ◌+◌, ◌-◌, ◌≤◌, List, [], ◌∷◌, length, drop, false, Option, Some, None, inl, inr, refl, sym, ◌∙◌, ap, subst, arith}
use Rattle.std.proofs.lemmas.Bool.{cases_eq, cases_lt}
use Rattle.std.proofs.lemmas.List.{drop-drop}
use Rattle.rq_disk.specs.Device.{Images}
use Rattle.rq_model.specs.declared.record.Record.{Record}
use Rattle.rq_model.specs.declared.record.Record.TheVariants as records
use Rattle.rq_model.specs.Bases.{IsMarked, base_lsn, is_base, marked}
use Rattle.rq_model.specs.Incarnations.{IsNext, incarnation_of}
use Rattle.rq_model.proofs.Bases.{base_within, length_marks}
use Rattle.rq_page.specs.Sizes.{Sizes}
use Rattle.rq_page.specs.Pages.{IsWritten, lsn_of, slot_of}
use Rattle.rq_page.specs.Formatted.{count_in}
use Rattle.rq_views.specs.InStore.{InStore}
use Rattle.rq_store.specs.Opening.{FitsUpTo, IsCounted, IsLeft, IsSoundWrite, Redoes}
use Rattle.rq_store.specs.Fitting.{AllHoldBase, ToldWrite, oldest, told_by}
use Rattle.rq_store.specs.Whole.{AreBased, IsWhole}
use Rattle.rq_store.proofs.Cutting.{whole_dropped}
use Rattle.rq_store.proofs.Fitting.{oldest_all}
use Rattle.rq_store.proofs.Redoing.{oldest_store, redo_base, redo_keeps_base, redo_one}
use Rattle.rq_analysis.specs.Rules.{BeforeIt, FollowAll, IsNextIn, IsReadInOrder}
use Rattle.rq_analysis.proofs.Marked.{marked_length}
use Rattle.rq_analysis.proofs.Whole.{follow_marks}
use Rattle.rq_restart.specs.Repeating.{ArePagesCounted, IsRecordRedone, Repeats}

-- what was made of the pages before a record that is no Base
pub before_from : {A : Type 0} (B : Type 0) (r : Record) → is_base r ≡ false → A → BeforeIt r A B
before_from B (records.Base many i) plain h = absurd (cc plain)
before_from B _ plain h = h

-- a store that was left so, over a log with a Base perhaps
module _ (z : Sizes) (log : List Record) (first : Images) (left : IsLeft z first log) where
  -- pages on their way through the records up to some
  pub record AreUpTo (k : ℕ) (mid : Images) : Type 0 where
    pub fits : FitsUpTo z mid log k
    pub based : AllHoldBase z mid log

  -- where the Base stands nothing is made of them
  pub at_base : (mid : Images) → mid ≡ first → AreUpTo (base_lsn log) mid
  at_base mid same = record {
    fits = subst (λ (f : ℕ → List ℕ). FitsUpTo z f log (base_lsn log)) (sym same) (redo_base z log first left.fits left.based);
    based = subst (λ (f : ℕ → List ℕ). AllHoldBase z f log) (sym same) left.based;
  }

  same_images : (old new : ℕ → List ℕ) → ((p : ℕ) → new p ≡ old p) → new ≡ old
  same_images old new h = λ i. λ p. h p i

  -- the first records of the log before one more
  pub first_less : (r : Record) (front : List Record) → oldest (length (r ∷ front)) log ≡ r ∷ front → length (r ∷ front) ≤ length log → oldest (length front) log ≡ front
  first_less r front are within =
      let one : length log - length front ≡ (length log - length (r ∷ front)) + 1 = omega (arith, within) in
      ap (λ (n : ℕ). drop n log) one ∙ sym (drop-drop 1 (length log - length (r ∷ front)) log) ∙ ap (drop 1) are

  first_based : (front : List Record) → oldest (length front) log ≡ front → AreBased front
  first_based front are = (subst (IsWhole z) are (whole_dropped z (length log - length front) log left.whole)).based

  -- one record more
  one_up : (r : Record) (front : List Record) → oldest (length (r ∷ front)) log ≡ r ∷ front → length (r ∷ front) ≤ length log → base_lsn front ≡ base_lsn log → (old new : Images) → AreUpTo (length front) old → IsRecordRedone z (marked front) r old new → AreUpTo (length (r ∷ front)) new
  one_up r front are within same old new f one =
      let k : ℕ = length front in
      let up : k + 1 ≡ length (r ∷ front) = omega arith in
      let before = first_less r front are within in
      let grown : oldest (k + 1) log ≡ r ∷ oldest k log = ap (λ (n : ℕ). oldest n log) up ∙ are ∙ ap (λ (l : List Record). r ∷ l) (sym before) in
      let store : InStore z (r ∷ front) = subst (InStore z) are (oldest_store z log (length (r ∷ front)) left.whole.in_store) in
      let redone : Redoes (told_by r) (k + 1) old new = subst (λ (n : ℕ). Redoes (told_by r) (n + 1) old new) (marked_length front (first_based front before)) one.redone in
      let low = base_within front in
      record {
        fits = subst (λ (n : ℕ). FitsUpTo z new log n) up (redo_one z log k r grown (omega (arith, within)) store.0 old new redone f.fits);
        based = redo_keeps_base z log (told_by r) (k + 1) old new (omega (arith, low, same)) redone f.based;
      }

  -- pages that the first records were repeated on, as they are read, are as these leave them
  pub up_to : (front : List Record) → oldest (length front) log ≡ front → length front ≤ length log → base_lsn front ≡ base_lsn log → (mid : Images) → Repeats z (marked front) first mid → AreUpTo (length front) mid
  up_to [] are within same mid h = subst (λ (k : ℕ). AreUpTo k mid) (sym same) (at_base mid (ap (λ (p : Images). p) h))
  up_to (records.Base many i ∷ front) are within same mid h =
      let e : length front + 1 ≡ length (records.Base many i ∷ front) = omega arith in
      subst (λ (k : ℕ). AreUpTo k mid) (sym same ∙ e) (at_base mid (same_images h.0 mid h.2.redone ∙ ap (λ (p : Images). p) h.1))
  up_to (r ∷ front) are within same mid h =
      one_up r front are within same h.0 mid (up_to front (first_less r front are within) (omega (arith, within)) same h.0 h.1) h.2

  pub all_up_to : (last : Images) → Repeats z (marked log) first last → AreUpTo (length log) last
  all_up_to last h = up_to log (oldest_all log) (omega arith) refl last h

-- where no number of the pages is beyond so many records, none is once one more of them is written
pub written_within : (z : Sizes) (n k : ℕ) (r : Record) (old new : Images) → Redoes (told_by r) k old new → IsSoundWrite z k (told_by r) → k ≤ n → ArePagesCounted z n old → ArePagesCounted z n new
written_within z n k r old new redone sound_write le all p low high = by (told_by r) redone sound_write where
  by : (w : Option ToldWrite) → Redoes w k old new → IsSoundWrite z k w → IsCounted z n p (new p)
  by None same sound = subst (IsCounted z n p) (sym (same p)) (all p low high)
  by (Some w) made sound = elim (cases_eq p w.page) [
    | inr ne ↦ subst (IsCounted z n p) (sym (made.others p ne)) (all p low high)
    | inl same ↦ subst (λ q. IsCounted z n q (new q)) (sym same) (elim (cases_lt (lsn_of (old w.page)) k) [
      | inr ge ↦ subst (IsCounted z n w.page) (sym (made.kept ge)) (subst (λ q. IsCounted z n q (old q)) same (all p low high))
      | inl lt ↦ written (subst (λ q. IsCounted z n q (old q)) same (all p low high)) (made.made lt)
    ])
  ] where
    written : IsCounted z n w.page (old w.page) → IsWritten (old w.page) (new w.page) w.slot w.after k → IsCounted z n w.page (new w.page)
    written c is = record {
      lsn = (let e = is.lsn in omega (arith, e, le));
      slots = λ j a b. elim (cases_eq j w.slot) [
        | inl here ↦ subst (λ m. count_in z w.page (slot_of m (new w.page)) ≤ n) (sym here) (subst (λ bytes. count_in z w.page bytes ≤ n) (sym is.slot) (let s = sound.count in omega (arith, s, le)))
        | inr there ↦ subst (λ bytes. count_in z w.page bytes ≤ n) (sym (is.others j a b there)) (c.slots j a b)
      ];
    }

-- so it is of one that was repeated
pub counted_within : (z : Sizes) (n : ℕ) (log : List Record) (r : Record) (old new : Images) → IsRecordRedone z log r old new → length log + 1 ≤ n → ArePagesCounted z n old → ArePagesCounted z n new
counted_within z n log r old new one le all = written_within z n (length log + 1) r old new one.redone one.belongs.may.write le all

pub counted_over : (z : Sizes) (n m : ℕ) (pages : Images) → n ≤ m → ArePagesCounted z n pages → ArePagesCounted z m pages
counted_over z n m pages le all p low high = let c = all p low high in record { lsn = (let e = c.lsn in omega (arith, e, le)); slots = λ j a b. (let s = c.slots j a b in omega (arith, s, le)) }

pub counted_longer : (z : Sizes) (count : ℕ) (pages : Images) → ArePagesCounted z count pages → ArePagesCounted z (count + 1) pages
counted_longer z count pages all = counted_over z count (count + 1) pages (omega arith) all

pub written_more : (z : Sizes) (count : ℕ) (r : Record) (old new : Images) → Redoes (told_by r) (count + 1) old new → IsSoundWrite z (count + 1) (told_by r) → ArePagesCounted z count old → ArePagesCounted z (count + 1) new
written_more z count r old new redone sound all = written_within z (count + 1) (count + 1) r old new redone sound (omega arith) (counted_longer z count old all)

pub counted_more : (z : Sizes) (log : List Record) (r : Record) (old new : Images) → IsRecordRedone z log r old new → ArePagesCounted z (length log) old → ArePagesCounted z (length log + 1) new
counted_more z log r old new one all = counted_within z (length log + 1) log r old new one (omega arith) (counted_longer z (length log) old all)

-- nor once all are
pub repeated_counted : (z : Sizes) (n : ℕ) (log : List Record) (first last : Images) → Repeats z log first last → length log ≤ n → ArePagesCounted z n first → ArePagesCounted z n last
repeated_counted z n [] first last r le all = subst (ArePagesCounted z n) (sym r) all
repeated_counted z n (records.Base many i ∷ log) first last r le all = counted_within z n log (records.Base many i) r.0 last r.2 (omega (arith, le)) (subst (ArePagesCounted z n) (sym r.1) all)
repeated_counted z n (q ∷ log) first last r le all = counted_within z n log q r.0 last r.2 (omega (arith, le)) (repeated_counted z n log first r.0 r.1 (omega (arith, le)) all)

-- A page is no older than it was. It is as it was, or has the LSN of one of so many records.
pub record IsAsOrWithin (n : ℕ) (old new : List ℕ) : Type 0 where
  pub later : lsn_of old ≤ lsn_of new
  pub either : (new ≡ old) ⊎ (lsn_of new ≤ n)

as_it_is : (n : ℕ) (old new : List ℕ) → new ≡ old → IsAsOrWithin n old new
as_it_is n old new same = record { later = (let e = ap lsn_of same in omega (arith, e)); either = inl same }

written_lsn : (w : Option ToldWrite) (n lsn : ℕ) (old new : Images) → lsn ≤ n → Redoes w lsn old new → (p : ℕ) → IsAsOrWithin n (old p) (new p)
written_lsn None n lsn old new le same p = as_it_is n (old p) (new p) (same p)
written_lsn (Some w) n lsn old new le made p = elim (cases_eq p w.page) [
  | inr ne ↦ as_it_is n (old p) (new p) (made.others p ne)
  | inl here ↦ subst (λ (q : ℕ). IsAsOrWithin n (old q) (new q)) (sym here) (elim (cases_lt (lsn_of (old w.page)) lsn) [
    | inr ge ↦ as_it_is n (old w.page) (new w.page) (made.kept ge)
    | inl lt ↦ let e = (made.made lt).lsn in record { later = omega (arith, e, lt); either = inr (omega (arith, e, le)) }
  ])
]

then_written : (n : ℕ) (a b c : List ℕ) → IsAsOrWithin n a b → IsAsOrWithin n b c → IsAsOrWithin n a c
then_written n a b c h k = record {
  later = (let x = h.later in let y = k.later in omega (arith, x, y));
  either = elim k.either [
    | inr within ↦ inr within
    | inl same ↦ elim h.either [ inl first ↦ inl (same ∙ first) | inr within ↦ inr (let e = ap lsn_of same in omega (arith, e, within)) ]
  ];
}

-- so it is of each page that a log was repeated on
pub repeated_lsn : (z : Sizes) (n : ℕ) (log : List Record) (first last : Images) → Repeats z log first last → length log ≤ n → (p : ℕ) → IsAsOrWithin n (first p) (last p)
repeated_lsn z n [] first last r le p = as_it_is n (first p) (last p) (ap (λ (f : Images). f p) r)
repeated_lsn z n (records.Base many i ∷ log) first last r le p = as_it_is n (first p) (last p) (r.2.redone p ∙ ap (λ (f : Images). f p) r.1)
repeated_lsn z n (q ∷ log) first last r le p = then_written n (first p) (r.0 p) (last p) (repeated_lsn z n log first r.0 r.1 (omega (arith, le)) p) (written_lsn (told_by q) n (length log + 1) r.0 last (omega (arith, le)) r.2.redone p)

-- what was gone through is in order, and was read
pub repeated_read : (z : Sizes) (log : List Record) (first last : Images) → Repeats z log first last → IsReadInOrder log × FollowAll log
repeated_read z [] first last r = (tt, tt)
repeated_read z (records.Base many i ∷ log) first last r = ((r.2.belongs.next, tt), (r.2.belongs.follows, subst FollowAll (sym r.2.belongs.follows.begins) (follow_marks many)))
repeated_read z (q ∷ log) first last r =
    let older = repeated_read z log first r.0 r.1 in
    ((r.2.belongs.next, older.0), (r.2.belongs.follows, older.1))

-- there are no more incarnations than records
pub few_read : (log : List Record) → IsReadInOrder log → IsMarked log → incarnation_of log ≤ length log
few_read [] o f = omega arith
few_read (records.Base many i ∷ log) o f =
    let few = o.0.1 in
    let all = ap (λ (l : List Record). length l) f ∙ length_marks many in
    omega (arith, few, all)
few_read (records.Restart i ∷ log) o f = (let ih = few_read log o.1 f in let e : i ≡ incarnation_of log + 1 = o.0 in omega (arith, ih, e))
few_read (_ ∷ log) o f = let ih = few_read log o.1 f in omega (arith, ih)

-- before its Base stand marks alone
pub follow_marked : (log : List Record) → FollowAll log → IsMarked log
follow_marked [] f = tt
follow_marked (records.Base many i ∷ log) f = f.0.begins
follow_marked (_ ∷ log) f = follow_marked log f.1

-- a plain record is the next as it is read where it is the next
pub next_in : (log : List Record) (r : Record) → is_base r ≡ false → IsNext (incarnation_of log) r → IsNextIn log r
next_in log (records.Base many i) plain n = absurd (cc plain)
next_in log _ plain n = n

pub next_of : (log : List Record) (r : Record) → is_base r ≡ false → IsNextIn log r → IsNext (incarnation_of log) r
next_of log (records.Base many i) plain n = absurd (cc plain)
next_of log _ plain n = n

-- one record more was read
pub order_more : (log : List Record) (r : Record) → is_base r ≡ false → IsNextIn log r → IsReadInOrder log → IsReadInOrder (r ∷ log)
order_more log r plain n o = (n, before_from (Unit {0}) r plain o)

-- and before its Base stand marks alone, still
pub marked_more : (log : List Record) (r : Record) → is_base r ≡ false → IsMarked log → IsMarked (r ∷ log)
marked_more log (records.Base many i) plain m = absurd (cc plain)
marked_more log _ plain m = m
