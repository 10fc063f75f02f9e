-- What each call leaves of the transactions that have not ended.
use Rattle.std.proofs.Common.{◌≡◌, ◌≢◌, ℕ, ◌/◌, ◌<◌, ◌≤◌, List, refl, sym, ◌∙◌, ap, subst, true, false, Option, Some, None, inl, inr, ◌⊎◌, ◌&&◌, nat_eq, arith}
use Rattle.std.proofs.lemmas.Bool.{cases_Bool, true≢false, or_cases, and_parts, eqb-true}
use Rattle.std.proofs.lemmas.Option.{same_Some}
use Rattle.rq_model.specs.declared.txn.Txn.{Txn}
use Rattle.rq_model.specs.declared.record.Deed.{Deed}
use Rattle.rq_model.specs.declared.record.Record.{Record}
use Rattle.rq_model.specs.Vocabulary.{In, same_txn, is_some}
use Rattle.rq_model.proofs.Lists.{same_is, not_same}
use Rattle.rq_page.specs.Sizes.{Sizes, directory_at, sender_count}
use Rattle.rq_views.specs.Plans.{turn_sender, deed_sender}
use Rattle.rq_views.specs.InStore.{IsStranger}
use Rattle.rq_views.proofs.Tags.{deed_of as turn_deed}
use Rattle.rq_txn.specs.declared.Aim.{Aim}
use Rattle.rq_txn.specs.Rows.{Under, Row, deed_of, found_row, change_row, without_row, latched_by}
use Rattle.rq_txn.specs.declared.Aim.TheVariants.{Doing, Undoing}
use Rattle.rq_store.proofs.RowLists.{found_in, changed, found_other, found_still, distinct_change, distinct_gone, gone, found_gone}
use Rattle.rq_groups.specs.declared.Held.{Held}
use Rattle.rq_groups.specs.Ends.{HeldEnds, has_held, with_held, is_free_for, released}
use Rattle.rq_store.specs.Rows.{HoldsFor}
use Rattle.rq_store.specs.Settled.{IsSettled, AreEnds}
use Rattle.rq_sound.specs.Rows.{own_slot, turn_of}
use Rattle.rq_sound.specs.Standing.{FollowsPlan, IsAsPlanned, HoldsAll, IsRow, AreApart, AreStanding}
use Rattle.rq_store.proofs.Ends.{without_ends, held_other, held_still, for_other, free_alone}
use Rattle.rq_sound.proofs.Beside.{SaysSame, row_beside, settled_beside}
use Rattle.rq_sound.proofs.Own.{latches_own, same_slot, sender_slot}

pub aim_sender : (a : Aim) → turn_sender (turn_of a) ≡ deed_sender (deed_of a)
aim_sender (Doing d) = refl
aim_sender (Undoing lsn d) = refl

aim_deed : (a : Aim) → turn_deed (turn_of a) ≡ deed_of a
aim_deed (Doing d) = refl
aim_deed (Undoing lsn d) = refl

-- an operation has latched the page of its deed's own slot
pub own_latched : (z : Sizes) (log : List Record) (ends : HeldEnds) (t : Txn) (u : Under) → FollowsPlan z log ends t u → latched_by u (own_slot z (deed_of u.aim) / 16) ≡ true
own_latched z log ends t u g = subst (λ d. latched_by u (own_slot z d / 16) ≡ true) (aim_deed u.aim) (latches_own z (turn_of u.aim) u.writes g.plan)

-- so one of a sender has latched that of the sender's directory slot
pub directory_latched : (z : Sizes) (log : List Record) (ends : HeldEnds) (t : Txn) (u : Under) → FollowsPlan z log ends t u → deed_sender (deed_of u.aim) < sender_count z
    → latched_by u (directory_at (deed_sender (deed_of u.aim)) / 16) ≡ true
directory_latched z log ends t u g below = subst (λ a. latched_by u (a / 16) ≡ true) (sender_slot z (deed_of u.aim) g.of_store below) (own_latched z log ends t u g)

-- and operations with pages of their own are of groups of their own
pub senders_differ : (z : Sizes) (log : List Record) (ends : HeldEnds) (t q : Txn) (u v : Under) → FollowsPlan z log ends t u → FollowsPlan z log ends q v → ((p : ℕ) → latched_by u p ≡ true → latched_by v p ≡ false) → deed_sender (deed_of u.aim) ≢ deed_sender (deed_of v.aim)
senders_differ z log ends t q u v g h apart same =
    let slot : own_slot z (deed_of u.aim) ≡ own_slot z (deed_of v.aim) = same_slot z (deed_of u.aim) (deed_of v.aim) g.of_store h.of_store same in
    true≢false (sym (own_latched z log ends q v h) ∙ ap (λ a. latched_by v (a / 16)) (sym slot) ∙ apart (own_slot z (deed_of u.aim) / 16) (own_latched z log ends t u g))

pub not_found : (t : Txn) (rows : List Row) (r : Row) → found_row t rows ≡ Some r → (q : Txn) → found_row q rows ≡ None → q ≢ t
not_found t rows r e q f n = let bad : Some r ≡ None = sym e ∙ ap (λ y. found_row y rows) (sym n) ∙ f in cc

going_over : (z : Sizes) (log new : List Record) (ends after : HeldEnds) (q : Row) (o : Option Under) → ((u : Under) → o ≡ Some u → FollowsPlan z log ends q.txn u → FollowsPlan z new after q.txn u) → IsAsPlanned z log ends q o → IsAsPlanned z new after q o
going_over z log new ends after q None k g = tt
going_over z log new ends after q (Some u) k g = (k u refl g.0, g.1, g.2)

-- one row changes, and the ends stay
module _ (z : Sizes) (log new : List Record) (ends : HeldEnds) (rows : List Row) (i b : ℕ) (k : AreStanding z log ends rows i b) (t : Txn) (r : Row) (f : Row → Row) (at_row : found_row t rows ≡ Some r) (keeps : (q : Row) → (f q).txn ≡ q.txn)
    (says : (q : Txn) → q ≢ t → SaysSame z log new q) (going : (q : Row) → In q rows → q.txn ≢ t → (u : Under) → q.under ≡ Some u → FollowsPlan z log ends q.txn u → FollowsPlan z new ends q.txn u)
    (own : IsRow z new ends i b (f r)) (pages : (u : Under) → (f r).under ≡ Some u → (v : Under) × (r.under ≡ Some v) × ((p : ℕ) → latched_by u p ≡ latched_by v p)) (strange : (q : Txn) → q ≢ t → IsStranger q log → IsStranger q new) where
  abbrev now : List Row
  now = change_row t f rows

  place : In r rows × (r.txn ≡ t)
  place = found_in t rows r at_row

  each_now : (q : Row) → In q now → IsRow z new ends i b q
  each_now q j = elim (changed t f rows r q k.distinct at_row j) [
    | inl e ↦ subst (λ (y : Row). IsRow z new ends i b y) (sym e) own
    | inr h ↦ row_beside z log new ends ends i b b q (omega arith) (says q.txn h.1) (λ x. x) (going_over z log new ends ends q q.under (going q h.0 h.1) (k.each q h.0).going) (k.each q h.0)
  ]

  apart_now : AreApart now
  apart_now p q u v a j l ne e g on = elim (changed t f rows r p k.distinct at_row j) [
    | inl x ↦ elim (changed t f rows r q k.distinct at_row l) [
      | inl y ↦ absurd (ne (ap (λ (w : Row). w.txn) (x ∙ sym y)))
      | inr y ↦
          let m = pages u (ap (λ (w : Row). w.under) (sym x) ∙ e) in
          k.apart r q m.0 v a place.0 y.0 (λ s. y.1 (sym s ∙ place.1)) m.1 g (sym (m.2 a) ∙ on)
    ]
    | inr x ↦ elim (changed t f rows r q k.distinct at_row l) [
      | inl y ↦
          let m = pages v (ap (λ (w : Row). w.under) (sym y) ∙ g) in
          m.2 a ∙ k.apart p r u m.0 a x.0 place.0 (λ s. x.1 (s ∙ place.1)) e m.1 on
      | inr y ↦ k.apart p q u v a x.0 y.0 ne e g on
    ]
  ]

  known : (q : Txn) → i ≡ q.incarnation → q ≡ t → q.count ≤ b
  known q e s = let c = (k.each r place.0).counted in let h : q.count ≡ r.txn.count = ap (λ (w : Txn). w.count) (s ∙ sym place.1) in omega (arith, c, h)

  pub stands_changed : AreStanding z new ends now i b
  stands_changed = record {
    each = each_now;
    distinct = distinct_change t f rows keeps k.distinct;
    others = λ q e. let was = found_other t q f rows keeps e in let n = not_found t rows r at_row q was in settled_beside z log new q (says q n) (k.others q was);
    apart = apart_now;
    sending = record { one = k.sending.one; living = λ q n h. found_still t q f rows keeps (k.sending.living q n h) };
    receiving = record { one = k.receiving.one; living = λ q n h. found_still t q f rows keeps (k.receiving.living q n h) };
    strangers = λ q e m. strange q (λ s. (let c = known q (sym e) s in absurd (omega (arith, c, m)))) (k.strangers q e m);
  }

ends_left : (t : Txn) (rows : List Row) (hs : List Held) → AreEnds rows hs → AreEnds (without_row t rows) (released t hs)
ends_left t rows hs h = record {
  one = λ q u s a b. h.one q u s (held_still t q s hs a).1 (held_still t u s hs b).1;
  living = λ q s a. let g = held_still t q s hs a in ap (λ (o : Option Row). is_some o) (found_gone t q rows g.0) ∙ h.living q s g.1;
}

-- a transaction ends: its row and its ends are gone
module _ (z : Sizes) (log new : List Record) (ends : HeldEnds) (rows : List Row) (i b : ℕ) (k : AreStanding z log ends rows i b) (t : Txn) (r : Row) (at_row : found_row t rows ≡ Some r)
    (says : (q : Txn) → q ≢ t → SaysSame z log new q) (going : (q : Txn) (u : Under) → HoldsFor (without_ends t ends) q (deed_of u.aim) → FollowsPlan z log ends q u → FollowsPlan z new (without_ends t ends) q u)
    (own : IsSettled z new t) (strange : (q : Txn) → q ≢ t → IsStranger q log → IsStranger q new) where
  abbrev after : HeldEnds
  after = without_ends t ends

  holds_still : (q : Txn) → q ≢ t → HoldsAll ends q log → HoldsAll after q log
  holds_still q n h = record {
    sends = λ g y. held_other t q g ends.sending n ∙ h.sends g y;
    takes = λ g y. held_other t q g ends.receiving n ∙ h.takes g y;
  }

  row_left : (q : Row) → In q (without_row t rows) → IsRow z new after i b q
  row_left q j =
      let g = gone t rows q j in
      row_beside z log new ends after i b b q (omega arith) (says q.txn g.1) (holds_still q.txn g.1) (going_over z log new ends after q q.under (λ u e h. going q.txn u (for_other t q.txn ends (deed_of u.aim) g.1 h.held) h) (k.each q g.0).going) (k.each q g.0)

  pub stands_gone : AreStanding z new after (without_row t rows) i b
  stands_gone = record {
    each = row_left;
    distinct = distinct_gone t rows k.distinct;
    others = λ q e. elim (cases_Bool (same_txn q t)) [
      | inl y ↦ subst (IsSettled z new) (sym (same_is q t y)) own
      | inr m ↦ let n = not_same q t m in settled_beside z log new q (says q n) (k.others q (sym (found_gone t q rows n) ∙ e))
    ];
    apart = λ p q u v a j l ne e g on. k.apart p q u v a (gone t rows p j).0 (gone t rows q l).0 ne e g on;
    sending = ends_left t rows ends.sending k.sending;
    receiving = ends_left t rows ends.receiving k.receiving;
    strangers = λ q e m. strange q (λ s. (let place = found_in t rows r at_row in let c = (k.each r place.0).counted in let h : q.count ≡ r.txn.count = ap (λ (w : Txn). w.count) (s ∙ sym place.1) in absurd (omega (arith, c, h, m)))) (k.strangers q e m);
  }

-- an operation starts: its row changes, and the ends may grow; nobody else has latched its pages
module _ (z : Sizes) (log : List Record) (ends after : HeldEnds) (rows : List Row) (i b : ℕ) (k : AreStanding z log ends rows i b) (t : Txn) (r : Row) (f : Row → Row) (u : Under) (at_row : found_row t rows ≡ Some r) (keeps : (q : Row) → (f q).txn ≡ q.txn)
    (under : (f r).under ≡ Some u) (own : IsRow z log after i b (f r)) (kept : (q : Txn) (d : Deed) → HoldsFor ends q d → HoldsFor after q d) (all : (q : Txn) → HoldsAll ends q log → HoldsAll after q log)
    (sending : AreEnds rows after.sending) (receiving : AreEnds rows after.receiving)
    (free : (q : Row) → In q rows → q.txn ≢ t → (v : Under) → q.under ≡ Some v → (p : ℕ) → latched_by u p ≡ true → latched_by v p ≡ false) (with_ends : (q : Txn) (v : Under) → HoldsFor after q (deed_of v.aim) → FollowsPlan z log ends q v → FollowsPlan z log after q v) where
  same_says : (q : Txn) → SaysSame z log log q
  same_says q = record { running = refl; earlier_is = refl; undone = refl; done = refl; told = refl; greatest_is = refl; under_way_is = λ n. refl }

  one_under : (x y : Under) → Some x ≡ Some y → x ≡ y
  one_under x y e = same_Some x y e

  back : (x y : Under) (p : ℕ) → (latched_by y p ≡ true → latched_by x p ≡ false) → latched_by x p ≡ true → latched_by y p ≡ false
  back x y p h on = elim (cases_Bool (latched_by y p)) [ inl e ↦ absurd (true≢false (sym on ∙ h e)) | inr e ↦ e ]

  pub stands_started : AreStanding z log after (change_row t f rows) i b
  stands_started = record {
    each = λ q j. elim (changed t f rows r q k.distinct at_row j) [
      | inl e ↦ subst (λ (y : Row). IsRow z log after i b y) (sym e) own
      | inr h ↦ row_beside z log log ends after i b b q (omega arith) (same_says q.txn) (all q.txn) (going_over z log log ends after q q.under (λ v e g. with_ends q.txn v (kept q.txn (deed_of v.aim) g.held) g) (k.each q h.0).going) (k.each q h.0)
    ];
    distinct = distinct_change t f rows keeps k.distinct;
    others = λ q e. k.others q (found_other t q f rows keeps e);
    apart = λ p q x y a j l ne e g on. elim (changed t f rows r p k.distinct at_row j) [
      | inl m ↦ elim (changed t f rows r q k.distinct at_row l) [
        | inl n ↦ absurd (ne (ap (λ (w : Row). w.txn) (m ∙ sym n)))
        | inr n ↦ free q n.0 n.1 y g a (ap (λ (w : Under). latched_by w a) (one_under u x (sym under ∙ ap (λ (w : Row). w.under) (sym m) ∙ e)) ∙ on)
      ]
      | inr m ↦ elim (changed t f rows r q k.distinct at_row l) [
        | inl n ↦
            let is : u ≡ y = one_under u y (sym under ∙ ap (λ (w : Row). w.under) (sym n) ∙ g) in
            ap (λ (w : Under). latched_by w a) (sym is) ∙ back x u a (free p m.0 m.1 x e a) on
        | inr n ↦ k.apart p q x y a m.0 n.0 ne e g on
      ]
    ];
    sending = record { one = sending.one; living = λ q n h. found_still t q f rows keeps (sending.living q n h) };
    receiving = record { one = receiving.one; living = λ q n h. found_still t q f rows keeps (receiving.living q n h) };
    strangers = k.strangers;
  }

-- who holds one once t has taken it held it before, or is t
held_then : (t q : Txn) (e f : ℕ) (hs : List Held) → has_held q f (with_held t e hs) ≡ true → (has_held q f hs ≡ true) ⊎ ((q ≡ t) × (f ≡ e))
held_then t q e f hs h = elim (cases_Bool (has_held t e hs)) [
  | inl y ↦ inl (rw y at h)
  | inr n ↦ elim (or_cases (same_txn t q && nat_eq e f) (has_held q f hs) (rw n at h)) [
    | inl a ↦ let p = and_parts (same_txn t q) (nat_eq e f) a in inr (sym (same_is t q p.0), sym (eqb-true e f p.1))
    | inr b ↦ inl b
  ]
]

pub ends_taken : (t : Txn) (e : ℕ) (rows : List Row) (hs : List Held) → AreEnds rows hs → is_some (found_row t rows) ≡ true → is_free_for t e hs ≡ true → AreEnds rows (with_held t e hs)
ends_taken t e rows hs a there free = record {
  one = λ p q f x y. elim (held_then t p e f hs x) [
    | inl u ↦ elim (held_then t q e f hs y) [
      | inl v ↦ a.one p q f u v
      | inr v ↦ free_alone t p e hs free (subst (λ g. has_held p g hs ≡ true) v.1 u) ∙ sym v.0
    ]
    | inr u ↦ elim (held_then t q e f hs y) [
      | inl v ↦ u.0 ∙ sym (free_alone t q e hs free (subst (λ g. has_held q g hs ≡ true) u.1 v))
      | inr v ↦ u.0 ∙ sym v.0
    ]
  ];
  living = λ q f x. elim (held_then t q e f hs x) [ inl u ↦ a.living q f u | inr u ↦ subst (λ (y : Txn). is_some (found_row y rows) ≡ true) (sym u.0) there ];
}
