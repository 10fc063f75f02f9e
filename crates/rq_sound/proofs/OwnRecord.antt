-- What is so of a transaction whose operation is under way, and of its next record.
use Rattle.std.proofs.Common.{◌≡◌, ◌≢◌, ℕ, ◌+◌, ◌≤◌, ◌||◌, ◌&&◌, List, take, reverse, length, max, refl, sym, ◌∙◌, ap, subst, Bool, true, false, not, cond, nat_eq, Some, inl, inr, arith}
use Rattle.std.proofs.lemmas.Bool.{cases_Bool, cases_eq, true≢false, eqb-true, eq-eqb}
use Rattle.std.proofs.lemmas.List.{length-map, length-reverse, length-take}
use Rattle.rq_model.specs.declared.txn.Sub.{Sub}
use Rattle.rq_model.specs.declared.record.Record.{Record}
use Rattle.rq_model.specs.Vocabulary.{In, same_txn}
use Rattle.rq_page.specs.Sizes.{Sizes}
use Rattle.rq_views.specs.Log.{same_op, Write}
use Rattle.rq_views.specs.Items.{items, operation, layout_of}
use Rattle.rq_views.specs.Legal.{began, over, has_end as ended}
use Rattle.rq_views.proofs.Overlay.{same_self as same_op_self}
use Rattle.rq_views.proofs.Strangers.{has_end_same}
use Rattle.rq_groups.specs.Ends.{HeldEnds}
use Rattle.rq_model.specs.Incarnations.{incarnation_of}
use Rattle.rq_views.specs.Numbers.{greatest}
use Rattle.rq_views.proofs.Idle.{unbegun_writes}
use Rattle.rq_level.specs.Writes.{write_of, writes_of}
use Rattle.rq_txn.specs.Rows.{Under, Row, found_row, deed_of, latched_by}
use Rattle.rq_store.specs.Rows.{is_under, unmade}
use Rattle.rq_store.proofs.RowLists.{found_in}
use Rattle.rq_sound.specs.Standing.{FollowsPlan, IsAsPlanned, IsAimOf, IsRow, AreStanding}
use Rattle.rq_store.proofs.Others.{other_number, own_greatest}
use Rattle.rq_sound.proofs.Standings.{senders_differ}
use Rattle.rq_views.specs.Plans.{deed_sender}

over_ended : (a b : Bool) → (a && not (true || b)) ≡ false
over_ended true b = refl
over_ended false b = refl

module _ (z : Sizes) (log : List Record) (ends : HeldEnds) (rows : List Row) (i b : ℕ) (k : AreStanding z log ends rows i b) (incarnation : incarnation_of log ≡ i) (some : 1 ≤ i) (r : Row) (at_row : found_row r.txn rows ≡ Some r) where
  pub place : In r rows
  place = (found_in r.txn rows r at_row).0

  pub row : IsRow z log ends i b r
  row = k.each r place

  pub of_order : (1 ≤ incarnation_of log) × (r.txn.incarnation ≡ incarnation_of log)
  of_order = (subst (λ n. 1 ≤ n) (sym incarnation) some, row.of_incarnation ∙ sym incarnation)

  pub running : ended r.txn (items z log) ≡ false
  running = has_end_same z r.txn log ∙ row.running

  module _ (u : Under) (under : r.under ≡ Some u) where
    pub going : FollowsPlan z log ends r.txn u × (r.number ≡ u.number) × IsAimOf r u.aim
    going = subst (IsAsPlanned z log ends r) under row.going

    abbrev o : Sub
    o = operation r.txn u.number

    number_is : greatest r.txn (items z log) + unmade (Some u) ≡ u.number
    number_is = ap (λ w. greatest r.txn (items z log) + unmade w) (sym under) ∙ row.numbered ∙ going.1

    -- where nothing of it is made its number is the next, and where something is it has a record
    pub next_number : began o (items z log) ≡ false → u.number ≡ greatest r.txn (items z log) + 1
    next_number none = elim (cases_eq u.made 0) [
      | inl first ↦ sym (ap (λ n. greatest r.txn (items z log) + cond (nat_eq n 0) 1 0) (sym first) ∙ number_is)
      | inr more ↦
          let made = take u.made (writes_of z u.writes) in
          let a : length (reverse made) ≡ 0 = ap (λ (ws : List Write). length ws) (sym going.0.written ∙ unbegun_writes (layout_of z) (items z log) o none) in
          let b : length (reverse made) ≡ length made = length-reverse made in
          let c = length-take u.made (writes_of z u.writes) in
          let d : length (writes_of z u.writes) ≡ length u.writes = length-map u.writes (write_of z) in
          let e = going.0.made in
          absurd (omega (arith, a, b, c, d, e, more))
    ]

    -- once it has a record more, its number is the greatest
    pub greatest_now : max (cond (same_txn r.txn r.txn) u.number 0) (greatest r.txn (items z log)) ≡ r.number
    greatest_now = own_greatest r.txn r.txn u.number (greatest r.txn (items z log)) refl (let a = number_is in omega (arith, a)) ∙ sym going.1

    -- once it has its end, nothing of its transaction is under way
    pub idle_now : (n : ℕ) → ((same_op o (operation r.txn n) || began (operation r.txn n) (items z log)) && not (same_op o (operation r.txn n) || over (operation r.txn n) (items z log))) ≡ false
    idle_now n = elim (cases_Bool (nat_eq u.number n)) [
      | inl y ↦
          let same : same_op o (operation r.txn n) ≡ true = ap (λ (m : ℕ). same_op o (operation r.txn m)) (sym (eqb-true u.number n y)) ∙ same_op_self o in
          ap (λ b. (b || began (operation r.txn n) (items z log)) && not (b || over (operation r.txn n) (items z log))) same ∙ over_ended (true || began (operation r.txn n) (items z log)) (over (operation r.txn n) (items z log))
      | inr m ↦
          let other : same_op o (operation r.txn n) ≡ false = other_number r.txn r.txn u.number n (λ e. true≢false (sym (eq-eqb u.number n e) ∙ m)) in
          ap (λ b. (b || began (operation r.txn n) (items z log)) && not (b || over (operation r.txn n) (items z log))) other ∙ row.idle n (ap (is_under n) under ∙ m)
    ]

    -- and others are of other senders
    pub others_differ : (q : Row) → In q rows → q.txn ≢ r.txn → (v : Under) → q.under ≡ Some v → deed_sender (deed_of u.aim) ≢ deed_sender (deed_of v.aim)
    others_differ q j n v e =
        let h : FollowsPlan z log ends q.txn v = (subst (IsAsPlanned z log ends q) e (k.each q j).going).0 in
        senders_differ z log ends r.txn q.txn u v going.0 h (λ p on. k.apart r q u v p place j (λ s. n (sym s)) under e on)

    pub others_apart : (q : Row) → In q rows → q.txn ≢ r.txn → (v : Under) → q.under ≡ Some v → (p : ℕ) → latched_by u p ≡ true → latched_by v p ≡ false
    others_apart q j n v e p on = k.apart r q u v p place j (λ s. n (sym s)) under e on
