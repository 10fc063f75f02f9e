-- What the calls answer, from what their bodies found and made.
use Rattle.std.proofs.Common.{◌≡◌, ℕ, zero, suc, ◌+◌, ◌-◌, ◌*◌, ◌^◌, ◌<◌, ◌≤◌, ◌&&◌, List, [], ◌∷◌, length, map, refl, sym, ◌∙◌, ap, subst, Bool, true, false, not, nat_eq, nat_lt, Option, Some, None, IfSome, arith, inl, inr, ◌⊎◌}
use Rattle.std.specs.List.{sum_by, slice_get, slice_index_or}
use Rattle.std.proofs.lemmas.Bool.{cases_Bool, false_from_ne_true, eqb-true, eq-eqb, and_from, le-ltb, lt-ltb}
use Rattle.std.proofs.lemmas.List.Sums.{sum_by-cons}
use Rattle.std.proofs.lemmas.Option.{slice_get_within, slice_get-get_or, same_Some}
use Rattle.rq_model.specs.Deeds.{TellsItself}
use Rattle.rq_model.specs.declared.txn.Txn.{Txn}
use Rattle.rq_model.specs.declared.txn.Sub.{Sub}
use Rattle.rq_model.specs.declared.record.Deed.{Deed}
use Rattle.rq_model.specs.declared.record.Deed.TheVariants.{Append, UnlinkHead, Close, Mark}
use Rattle.rq_model.specs.declared.record.Record.{Record}
use Rattle.rq_model.specs.declared.record.Record.TheVariants as records
use Rattle.rq_model.specs.declared.refusal.Refusal.{Refusal}
use Rattle.rq_model.specs.declared.refusal.Refusal.TheVariants as why
use Rattle.rq_model.specs.Vocabulary.{In, client_group, is_some, same_txn}
use Rattle.rq_views.specs.InStore.{IsDeedOf}
use Rattle.rq_model.specs.History.{Call, Group}
use Rattle.rq_model.specs.History.Call.{Commit, Step, Finish, Show, Last_tag, Client_tag}
use Rattle.rq_model.specs.History.Entry.{Ready, Shown}
use Rattle.rq_model.specs.Ledger.{Open, found, runs, group_in, sent_in, tag_of}
use Rattle.rq_model.specs.Legal.{OnFound}
use Rattle.rq_model.specs.Tests.{has_under, is_aborting, steps_left, log_full, tests, first_of, NoneHolds, Passes, ready_tests, any_busy, below}
use Rattle.rq_model.specs.Replay.Reply.{Gave_lsn, Gave_commit, Gave_ready, Gave_client_tag, Gave_content, Gave_tag}
use Rattle.rq_page.specs.Sizes.{Sizes, client_count, sender_count}
use Rattle.rq_level.specs.declared.writes.Gist.{Gist}
use Rattle.rq_level.specs.declared.writes.SlotWrite.{SlotWrite}
use Rattle.rq_level.specs.Writes.{IsSlotWrite, AreSlotWrites, answer_of}
use Rattle.rq_txn.specs.declared.Finished.{Finished}
use Rattle.rq_txn.specs.declared.Aim.{Aim}
use Rattle.rq_txn.specs.declared.Aim.TheVariants.{Doing, Undoing}
use Rattle.rq_txn.specs.Rows.{Row, Under, deed_of, found_row, finished_of, any_under, change_row, without_row, row_stepped, row_finished, row_taken_back}
use Rattle.rq_groups.specs.Sent.{sent_count, sent_tag}
use Rattle.rq_model.specs.Content.{tag_after}
use Rattle.rq_sound.specs.Calls.{sends_for}
use Rattle.rq_sound.proofs.Unchanged.{unchanged}
use Rattle.rq_engine.specs.Moves.{with_tags, with_sends, with_taken, without_taken}
use Rattle.rq_engine.proofs.Tags.{count-with_tags, tag-with_tags}
use Rattle.rq_groups.specs.Ends.{HeldEnds, released}
use Rattle.rq_store.specs.Sends.{group_of, place_count}
use Rattle.rq_store.specs.State.{State, ledger_of, size_of, owed_one, owed_under, job_under, left_under, phase_of}
use Rattle.rq_groups.specs.Waiting.{waits}
use Rattle.rq_store.specs.Settled.{takes_one}
use Rattle.rq_sound.specs.Counted.{sends_in, takes_all}
use Rattle.rq_sound.specs.Sound.{IsSound}
use Rattle.rq_store.proofs.RowSums.{one_of_sum}
use Rattle.rq_store.specs.Steps.{page_op, op_end, gave_done}
use Rattle.rq_sound.specs.ModelSteps.{IsModelStep}
use Rattle.rq_store.proofs.RowLists.{found_in}
use Rattle.rq_store.proofs.Opens.{busy_is}
use Rattle.rq_model.specs.Commits.{committed_of}
use Rattle.rq_engine.proofs.Standing.{going_at, refused_steps, step_steps, finish_steps, commit_steps}
use Rattle.rq_engine.specs.Earlier.{on}
use Rattle.rq_engine.specs.Invariant.{EndFits, IsConsistent, end_bytes, end_of, room_one, room_of}
use Rattle.rq_engine.proofs.Waits.{AreDeedsOf, waits-with_sends, waits-without_taken}
use Rattle.rq_engine.specs.Lists.{FinishSays, IsFinished}
use Rattle.rq_engine.specs.Says.{outcome_of}
use Rattle.rq_engine.specs.declared.operations.Ending.TheVariants.{Deed as Ends, Inverse}
use Rattle.rq_engine.specs.Answers.{Refuses, OnUnder, IsDoing, IsUnderWay, IsNotUnderWay, NotFound, IsOther, Idle, CannotFinish, IsMade, HasNothingUnderWay, ending_of}
use Rattle.rq_engine.proofs.Keeping.{kept_at, under_at, kept_stepped, kept_finished, kept_undone, kept_committed}
use Rattle.rq_content.specs.Read.{IsNoDamage}
use Rattle.rq_engine.proofs.Refusals.{refuse, refuse_failed, found_of, found_some, found_none, no_memory, not_full}

-- the row and the operation that are going
pub record Going (s : State) (sub : Sub) (P : Row → Under → Type 0) : Type 0 where
  pub row : Row
  pub under : Under
  pub found : found_row sub.txn s.rows ≡ Some row
  pub is : row.under ≡ Some under
  pub number : under.number ≡ sub.number
  pub so : P row under

on_under : (n : ℕ) (P : Row → Under → Type 0) (r : Row) (o : Option Under) → OnUnder n P r o → (u : Under) × (o ≡ Some u) × (u.number ≡ n) × P r u
on_under n P r None h = absurd h
on_under n P r (Some u) h = (u, refl, h.0, h.1)

pub going_of : (s : State) (sub : Sub) (P : Row → Under → Type 0) → IsUnderWay s sub P → Going s sub P
going_of s sub P h =
    let f = found_of (λ r. OnUnder sub.number P r r.under) (found_row sub.txn s.rows) h in
    let u = on_under sub.number P f.0 f.0.under f.2 in
    record { row = f.0; under = u.0; found = f.1; is = u.1; number = u.2; so = u.3 }

-- one row's part of a sum
sum_at : (f : Row → ℕ) (t : Txn) (rows : List Row) (r : Row) → found_row t rows ≡ Some r → f r ≤ sum_by f rows
sum_at f t [] r e = cc
sum_at f t (q ∷ rows) r e = elim (cases_Bool (same_txn q.txn t)) [
  | inl y ↦ let s : q ≡ r = same_Some q r (rw y at e) in let a = sum_by-cons f q rows in let b : f q ≡ f r = ap f s in omega (arith, a, b)
  | inr n ↦ let h = sum_at f t rows r (rw n at e) in let a = sum_by-cons f q rows in omega (arith, a, h)
]

module _ (s : State) (f : Bool) (o res : ℕ) (k : IsConsistent s f o res) (sub : Sub) (P : Row → Under → Type 0) (h : IsUnderWay s sub P) where
  abbrev g : Going s sub P
  g = going_of s sub P h

  -- its numbers are in range
  pub going_range : ((0 < sub.txn.incarnation) × (0 < sub.txn.count)) × (0 < sub.number)
  going_range =
      let row = kept_at s f o res sub.txn g.row k g.found in
      let u = under_at s f o res sub.txn g.row g.under k g.found g.is in
      let i = (found_in sub.txn s.rows g.row g.found).1 in
      let a : sub.txn.incarnation ≡ s.incarnation = ap (λ (t : Txn). t.incarnation) (sym i) ∙ row.mine in
      let b : g.row.txn.count ≡ sub.txn.count = ap (λ (t : Txn). t.count) i in
      let c = k.incarnation in
      let d = row.low in
      let n = u.number in
      let m = g.number in
      ((omega (arith, a, c), omega (arith, b, d)), omega (arith, n, m))

  -- it is owed records, and the room for them
  pub going_owed : 1 ≤ o
  going_owed =
      let a = sum_at owed_one sub.txn s.rows g.row g.found in
      let b : owed_one g.row ≡ length g.under.writes - g.under.made + 1 = ap owed_under g.is in
      let c = k.owes in
      omega (arith, a, b, c)

  pub going_room : 546 * (length g.under.writes - g.under.made) + end_bytes g.under.aim ≤ res
  going_room =
      let a = sum_at room_one sub.txn s.rows g.row g.found in
      let b : room_one g.row ≡ 546 * (length g.under.writes - g.under.made) + end_bytes g.under.aim = ap room_of g.is in
      let c = k.room in
      omega (arith, a, b, c)

  pub going_sender : IsDeedOf s.sizes (deed_of g.under.aim)
  going_sender = (under_at s f o res sub.txn g.row g.under k g.found g.is).sender

  pub going_end : EndFits g.under.aim
  going_end = (under_at s f o res sub.txn g.row g.under k g.found g.is).fits

  pub going_slots : AreSlotWrites s.sizes g.under.writes
  going_slots = (under_at s f o res sub.txn g.row g.under k g.found g.is).slots

write_at : (z : Sizes) (ws : List SlotWrite) (i : ℕ) (w : SlotWrite) → AreSlotWrites z ws → slice_get ws i ≡ Some w → IsSlotWrite z w
write_at z ws i w h e =
    let lt = slice_get_within ws i w e in
    let at : slice_index_or ws i w ≡ w = same_Some (slice_index_or ws i w) w (sym (slice_get-get_or ws i w lt) ∙ e) in
    subst (IsSlotWrite z) at (h i w lt)

abbrev pub MakesNext : SlotWrite → Under → Type 0
MakesNext w u = slice_get u.writes u.made ≡ Some w

abbrev pub Next : SlotWrite → Row → Under → Type 0
Next w r u = MakesNext w u

abbrev pub AllMade : Aim → Row → Under → Type 0
AllMade aim r u = (length u.writes ≤ u.made) × (u.aim ≡ aim)

module _ (s : State) (f : Bool) (o res : ℕ) (k : IsConsistent s f o res) (sub : Sub) (w : SlotWrite) (h : IsUnderWay s sub (Next w)) where
  abbrev gw : Going s sub (Next w)
  gw = going_of s sub (Next w) h

  more : gw.under.made < length gw.under.writes
  more = slice_get_within gw.under.writes gw.under.made w gw.so

  pub next_slot : IsSlotWrite s.sizes w
  next_slot = write_at s.sizes gw.under.writes gw.under.made w (going_slots s f o res k sub (Next w) h) gw.so

  pub next_room : 546 ≤ res
  next_room = let a = going_room s f o res k sub (Next w) h in let b = more in omega (arith, a, b)

  pub next_more : IfSome (found_row sub.txn s.rows) (λ (r : Row). IfSome r.under (λ (u : Under). u.made < length u.writes))
  next_more = subst (λ (q : Option Row). IfSome q (λ (r : Row). IfSome r.under (λ (u : Under). u.made < length u.writes))) (sym gw.found) (subst (λ (q : Option Under). IfSome q (λ (u : Under). u.made < length u.writes)) (sym gw.is) more)

  pub next_kept : (x : Record) (images : List (List ℕ)) (left : ℕ) → left + 546 ≡ res → IsConsistent (record s { rows = change_row sub.txn row_stepped s.rows; images = images; records = x ∷ s.records }) f (o - 1) left
  next_kept x images left e = kept_stepped s f o res k sub.txn gw.row gw.found gw.under x images left gw.is more e

module _ (s : State) (f : Bool) (o res : ℕ) (k : IsConsistent s f o res) (sub : Sub) (aim : Aim) (h : IsUnderWay s sub (AllMade aim)) where
  abbrev gd : Going s sub (AllMade aim)
  gd = going_of s sub (AllMade aim) h

  pub end_room : end_bytes aim ≤ res
  end_room = let a = going_room s f o res k sub (AllMade aim) h in let c : end_bytes gd.under.aim ≡ end_bytes aim = ap end_bytes gd.so.1 in omega (arith, a, c)

  pub end_fits : EndFits aim
  end_fits = subst EndFits gd.so.1 (going_end s f o res k sub (AllMade aim) h)

  pub end_sender : IsDeedOf s.sizes (deed_of aim)
  end_sender = subst (λ (x : Aim). IsDeedOf s.sizes (deed_of x)) gd.so.1 (going_sender s f o res k sub (AllMade aim) h)

  all_made : gd.under.made ≡ length gd.under.writes
  all_made = let a = (under_at s f o res sub.txn gd.row gd.under k gd.found gd.is).made in let b = gd.so.0 in omega (arith, a, b)

  same_end : (left : ℕ) → left + end_bytes aim ≡ res → left + end_bytes gd.under.aim ≡ res
  same_end left e = let c : end_bytes gd.under.aim ≡ end_bytes aim = ap end_bytes gd.so.1 in omega (arith, c, e)

  pub end_kept : (d : Deed) (x : Record) (end : Finished) (left : ℕ) → left + end_bytes aim ≡ res → end.lsn ≡ length s.records + 1 → end.deed ≡ deed_of aim → TellsItself end.deed → x ≡ end_of sub.txn end → IsConsistent (record s { rows = change_row sub.txn (row_finished end) s.rows; records = x ∷ s.records; waiting = without_taken d s.waiting }) f (o - 1) left
  end_kept d x end left e at is reads told = kept_finished s f o res k sub.txn gd.row gd.found gd.under x end left d gd.is all_made (same_end left e)
      (record { lsn = omega (arith, at); sender = subst (IsDeedOf s.sizes) (sym is) end_sender; reads = reads })
      (told ∙ ap (λ t. end_of t end) (sym (found_in sub.txn s.rows gd.row gd.found).1)) at

  pub undo_kept : (d : Deed) (x : Record) (cells left : ℕ) → left + end_bytes aim ≡ res → IsConsistent (record s { rows = change_row sub.txn row_taken_back s.rows; records = x ∷ s.records; cells_in_use = cells; waiting = with_taken d s.waiting }) f (o - 1) left
  undo_kept d x cells left e = kept_undone s f o res k sub.txn gd.row gd.found gd.under x cells left d gd.is all_made (same_end left e)

-- what is so of an operation is so of the one under way that it is
found_under : (r : Row) (q : Option Under) (n : ℕ) (v : Under) (P : Under → Type 0) → P v → OnUnder n (λ r u. u ≡ v) r q → OnUnder n (λ r u. P u) r q
found_under r None n v P p h = h
found_under r (Some u) n v P p h = (h.0, subst P (sym h.1) p)

found_in_row : (q : Option Row) (n : ℕ) (v : Under) (P : Under → Type 0) → P v → OnFound q (λ r. OnUnder n (λ r u. u ≡ v) r r.under) → OnFound q (λ r. OnUnder n (λ r u. P u) r r.under)
found_in_row None n v P p h = h
found_in_row (Some r) n v P p h = found_under r r.under n v P p h

pub under_is : (s t : State) → s ≡ t → (sub : Sub) (v : Under) → IsUnderWay s sub (λ r u. u ≡ v) → (P : Under → Type 0) → P v → IsUnderWay t sub (λ r u. P u)
under_is s t same sub v h P p = subst (λ (x : State). IsUnderWay x sub (λ r u. P u)) same (found_in_row (found_row sub.txn s.rows) sub.number v P p h)

-- what is so of the operation by two reasons
pub under_both : (s : State) (sub : Sub) (P Q R : Row → Under → Type 0) → ((r : Row) (u : Under) → P r u → Q r u → R r u) → IsUnderWay s sub P → IsUnderWay s sub Q → IsUnderWay s sub R
under_both s sub P Q R both h k =
    let g = going_of s sub P h in
    rw (g.found, g.is) (g.number, both g.row g.under g.so (rw (g.found, g.is) at k).1)

pub under_any : (s : State) (f : Bool) (o res : ℕ) (k : IsConsistent s f o res) (sub : Sub) (P : Row → Under → Type 0) → IsUnderWay s sub P → IsUnderWay s sub (λ r u. Unit {0})
under_any s f o res k sub P h = under_both s sub P P (λ r u. Unit {0}) (λ r u a b. tt) h h

doing_deed : (a : Aim) (d : Deed) → IsDoing a → deed_of a ≡ d → a ≡ Doing d
doing_deed (Doing e) d h k = ap Doing k
doing_deed (Undoing lsn e) d h k = absurd h

-- the deed that it is there to do
pub doing_is : (s : State) (f : Bool) (o res : ℕ) (k : IsConsistent s f o res) (sub : Sub) (d : Deed) → IsUnderWay s sub (λ r u. (length u.writes ≤ u.made) × IsDoing u.aim) → IsUnderWay s sub (λ r u. deed_of u.aim ≡ d) → IsUnderWay s sub (AllMade (Doing d))
doing_is s f o res k sub d h e = under_both s sub _ (λ r u. deed_of u.aim ≡ d) (AllMade (Doing d)) (λ r u a b. (a.0, doing_deed u.aim d a.1 b)) h e

undoing_deed : (a : Aim) (lsn : ℕ) (d : Deed) → ending_of a ≡ Inverse lsn → deed_of a ≡ d → a ≡ Undoing lsn d
undoing_deed (Doing e) lsn d h k = cc
undoing_deed (Undoing n e) lsn d h k = cc

-- the deed that it is there to take back
pub undoing_is : (s : State) (f : Bool) (o res : ℕ) (k : IsConsistent s f o res) (sub : Sub) (lsn : ℕ) (d : Deed) → IsUnderWay s sub (λ r u. (length u.writes ≤ u.made) × (ending_of u.aim ≡ Inverse lsn)) → IsUnderWay s sub (λ r u. deed_of u.aim ≡ d) → IsUnderWay s sub (AllMade (Undoing lsn d))
undoing_is s f o res k sub lsn d h e = under_both s sub _ (λ r u. deed_of u.aim ≡ d) (AllMade (Undoing lsn d)) (λ r u a b. (a.0, undoing_deed u.aim lsn d a.1 b)) h e

-- an operation has one deed
pub same_deed : (s : State) (f : Bool) (o res : ℕ) (k : IsConsistent s f o res) (sub : Sub) (aim : Aim) (d : Deed) → IsUnderWay s sub (λ r u. u.aim ≡ aim) → IsUnderWay s sub (λ r u. deed_of u.aim ≡ d) → deed_of aim ≡ d
same_deed s f o res k sub aim d h e = let g = going_of s sub _ (under_both s sub (λ r u. u.aim ≡ aim) (λ r u. deed_of u.aim ≡ d) (λ r u. deed_of aim ≡ d) (λ r u a b. ap deed_of (sym a) ∙ b) h e) in g.so

pub only_aim : (s : State) (sub : Sub) (aim : Aim) → IsUnderWay s sub (AllMade aim) → IsUnderWay s sub (λ r u. u.aim ≡ aim)
only_aim s sub aim h = under_both s sub (AllMade aim) (AllMade aim) (λ r u. u.aim ≡ aim) (λ r u a b. a.1) h h

aim_doing : (a : Aim) (gist : Gist) → ending_of a ≡ Ends gist → (d : Deed) × (a ≡ Doing d)
aim_doing (Doing d) gist h = (d, refl)
aim_doing (Undoing lsn d) gist h = cc

-- there is a deed that it is there to do
pub doing_of : (s : State) (sub : Sub) (gist : Gist) → IsUnderWay s sub (λ r u. (length u.writes ≤ u.made) × (ending_of u.aim ≡ Ends gist)) → (d : Deed) × IsUnderWay s sub (AllMade (Doing d))
doing_of s sub gist h =
    let g = going_of s sub _ h in
    let e = aim_doing g.under.aim gist g.so.1 in
    (e.0, rw (g.found, g.is) (g.number, (g.so.0, e.1)))

aim_undoing : (a : Aim) (lsn : ℕ) → ending_of a ≡ Inverse lsn → (d : Deed) × (a ≡ Undoing lsn d)
aim_undoing (Doing d) lsn h = cc
aim_undoing (Undoing n d) lsn h = (d, undoing_deed (Undoing n d) lsn d h refl)

-- there is one that it is there to take back
pub undoing_of : (s : State) (sub : Sub) (lsn : ℕ) → IsUnderWay s sub (λ r u. (length u.writes ≤ u.made) × (ending_of u.aim ≡ Inverse lsn)) → (d : Deed) × IsUnderWay s sub (AllMade (Undoing lsn d))
undoing_of s sub lsn h =
    let g = going_of s sub _ h in
    let e = aim_undoing g.under.aim lsn g.so.1 in
    (e.0, rw (g.found, g.is) (g.number, (g.so.0, e.1)))

-- one more write
pub step_done : (s new : State) (sub : Sub) (w : SlotWrite) (lsn : ℕ) → s.failed ≡ false → IsUnderWay s sub (Next w) → IsMade s sub w new → lsn ≡ length s.records + 1 → IsSound s → IsModelStep s (Step sub.txn sub.number) (Gave_lsn lsn) new
step_done s new sub w lsn running h m at k =
    let g = going_of s sub (Next w) h in
    let a = step_steps s k sub.txn g.row g.under w new.images g.found g.is g.so m.slots m.put_in m.before m.slot running in
    let b = subst (λ (n : ℕ). IsModelStep s (Step sub.txn n) (Gave_lsn (length s.records + 1)) (record s { rows = change_row sub.txn row_stepped s.rows; images = new.images; records = page_op sub.txn n w ∷ s.records })) g.number a in
    subst (λ (n : ℕ). IsModelStep s (Step sub.txn sub.number) (Gave_lsn n) new) (sym at) (subst (λ (x : State). IsModelStep s (Step sub.txn sub.number) (Gave_lsn (length s.records + 1)) x) (sym m.state) b)

-- the ledger finds what is going, and what is not
ledger_going : (s : State) (k : IsSound s) (sub : Sub) (P : Row → Under → Type 0) (g : Going s sub P) → has_under sub.number (found sub.txn (ledger_of s).open_ones) ≡ true
ledger_going s k sub P g =
    let n = (going_at s k sub.txn g.row g.under g.found g.is).1 in
    ap (has_under sub.number) (found_some s sub.txn g.row g.found) ∙ and_from _ _ (ap (λ (y : Option Under). is_some (job_under y)) g.is) (eq-eqb g.row.number sub.number (n ∙ g.number))

not_under : (s : State) (k : IsSound s) (sub : Sub) → IsNotUnderWay s sub → has_under sub.number (found sub.txn (ledger_of s).open_ones) ≡ false
not_under s k sub h = at (found_row sub.txn s.rows) refl h where
  under : (r : Row) (o : Option Under) → found_row sub.txn s.rows ≡ Some r → r.under ≡ o → IsOther sub.number o → (is_some (job_under o) && nat_eq r.number sub.number) ≡ false
  under r None e u h = refl
  under r (Some v) e u h = false_from_ne_true (nat_eq r.number sub.number) (λ y. h (sym (going_at s k sub.txn r v e u).1 ∙ eqb-true r.number sub.number y))

  at : (o : Option Row) → found_row sub.txn s.rows ≡ o → NotFound (λ r. IsOther sub.number r.under) o → has_under sub.number (found sub.txn (ledger_of s).open_ones) ≡ false
  at None e h = ap (has_under sub.number) (found_none s sub.txn e)
  at (Some r) e h = ap (has_under sub.number) (found_some s sub.txn r e) ∙ under r r.under e refl h

-- no write is left
pub step_ready : (s : State) (sub : Sub) → s.failed ≡ false → IsUnderWay s sub (λ r u. slice_get u.writes u.made ≡ None) → IsSound s → IsModelStep s (Step sub.txn sub.number) Gave_ready s
step_ready s sub running h k =
    let g = going_of s sub (λ r u. slice_get u.writes u.made ≡ None) h in
    let left : left_under g.row.under ≡ 0 = ap left_under g.is ∙ (let e = none_left g.under.writes g.under.made g.so in omega (arith, e)) in
    record {
      entry = Ready sub.txn sub.number;
      says = refl;
      legal = (
        (ap (λ b. not (runs (phase_of b))) running, (ap not (ledger_going s k sub (λ r u. slice_get u.writes u.made ≡ None) g), tt)),
        subst (λ (y : Option Open). OnFound y (λ (q : Open). q.left ≡ 0)) (sym (found_some s sub.txn g.row g.found)) left,
      );
      after = refl;
      sound = k;
      goes_on = (0, refl);
      stays_forced = omega arith;
    }
  where
    none_left : (ws : List SlotWrite) (i : ℕ) → slice_get ws i ≡ None → length ws ≤ i
    none_left [] i e = omega arith
    none_left (w ∷ ws) zero e = cc
    none_left (w ∷ ws) (suc i) e = let h = none_left ws i e in omega (arith, h)

unknown_operation : (s : State) (sub : Sub) (c : Call) → s.failed ≡ false → IsNotUnderWay s sub → (c ≡ Step sub.txn sub.number) ⊎ (c ≡ Finish sub.txn sub.number) → Refuses s c why.UnknownOperation
unknown_operation s sub c running h w k = elim w [
  | inl e ↦ refuse s c why.UnknownOperation refl tt (ap (λ x. first_of (tests (size_of s.sizes) (ledger_of s) x)) e ∙ (rw (running, not_under s k sub h) refl)) k
  | inr e ↦ refuse s c why.UnknownOperation refl tt (ap (λ x. first_of (tests (size_of s.sizes) (ledger_of s) x)) e ∙ (rw (running, not_under s k sub h) refl)) k
]

pub step_idle : (s : State) (sub : Sub) (r : Refusal) → Idle s sub r → Refuses s (Step sub.txn sub.number) r
step_idle s sub why.Failed h = refuse_failed s (Step sub.txn sub.number) h
step_idle s sub why.UnknownOperation h = unknown_operation s sub (Step sub.txn sub.number) h.0 h.1 (inl refl)
step_idle s sub _ h = absurd h

-- the end of a deed answers what the model gives for it
pub answer_gives : (d : Deed) → outcome_of (answer_of d) ≡ gave_done d
answer_gives (Append s n tag previous body) = refl
answer_gives (UnlinkHead s n tag body) = refl
answer_gives (Close s) = refl
answer_gives (Mark c tag previous) = refl

pub finish_done : (s new : State) (sub : Sub) (d : Deed) → s.failed ≡ false → IsUnderWay s sub (AllMade (Doing d)) → new ≡ record s { rows = change_row sub.txn (row_finished (record { lsn = length s.records + 1; number = sub.number; deed = d })) s.rows; records = op_end sub.txn sub.number d ∷ s.records; waiting = without_taken d s.waiting } → IsSound s → IsModelStep s (Finish sub.txn sub.number) (gave_done d) new
finish_done s new sub d running h e k =
    let g = going_of s sub (AllMade (Doing d)) h in
    let made = (going_at s k sub.txn g.row g.under g.found g.is).0 in
    let all = g.so.0 in
    let a = finish_steps s k sub.txn g.row g.under d (without_taken d s.waiting) g.found g.is g.so.1 (omega (arith, made, all)) (λ p. waits-without_taken d s.waiting p) running in
    let b = subst (λ (n : ℕ). IsModelStep s (Finish sub.txn n) (gave_done d) (record s { rows = change_row sub.txn (row_finished (record { lsn = length s.records + 1; number = n; deed = d })) s.rows; records = op_end sub.txn n d ∷ s.records; waiting = without_taken d s.waiting })) g.number a in
    subst (λ (x : State). IsModelStep s (Finish sub.txn sub.number) (gave_done d) x) (sym e) b

steps_are_left : (s : State) (sub : Sub) → s.failed ≡ false → IsUnderWay s sub (λ r u. u.made < length u.writes) → Refuses s (Finish sub.txn sub.number) why.Unfinished
steps_are_left s sub running h k =
    let g = going_of s sub (λ r u. u.made < length u.writes) h in
    let more : steps_left (found sub.txn (ledger_of s).open_ones) ≡ true = ap steps_left (found_some s sub.txn g.row g.found) ∙ ap (λ (y : Option Under). nat_lt 0 (left_under y)) g.is ∙ lt-ltb 0 (length g.under.writes - g.under.made) (let m = g.so in omega (arith, m)) in
    refuse s (Finish sub.txn sub.number) why.Unfinished refl tt (rw (running, ledger_going s k sub (λ r u. u.made < length u.writes) g, more) refl) k

pub finish_says : (s new : State) (sub : Sub) (d : Deed) → IsFinished s sub (answer_of d) new → FinishSays s sub (answer_of d) new
finish_says s new sub (Append sender sequence tag previous body) h = h
finish_says s new sub (UnlinkHead sender sequence tag body) h = h
finish_says s new sub (Close sender) h = h
finish_says s new sub (Mark client tag previous) h = h

pub finish_idle : (s : State) (sub : Sub) (r : Refusal) → CannotFinish s sub r → Refuses s (Finish sub.txn sub.number) r
finish_idle s sub why.Failed h = refuse_failed s (Finish sub.txn sub.number) h
finish_idle s sub why.UnknownOperation h = unknown_operation s sub (Finish sub.txn sub.number) h.0 h.1 (inr refl)
finish_idle s sub why.Unfinished h = steps_are_left s sub h.0 h.1
finish_idle s sub _ h = absurd h

-- a commit
pub commit_range : (s : State) (f : Bool) (o res n : ℕ) (t : Txn) → IsConsistent s f o res → HasNothingUnderWay s t n → (0 < t.incarnation) × (0 < t.count)
commit_range s f o res n t k h =
    let r = found_of (λ r. (r.under ≡ None) × (n ≡ r.number + 1)) (found_row t s.rows) h in
    let row = kept_at s f o res t r.0 k r.1 in
    let i = (found_in t s.rows r.0 r.1).1 in
    let a : t.incarnation ≡ s.incarnation = ap (λ (x : Txn). x.incarnation) (sym i) ∙ row.mine in
    let b : r.0.txn.count ≡ t.count = ap (λ (x : Txn). x.count) i in
    let c = k.incarnation in
    let d = row.low in
    (omega (arith, a, c), omega (arith, b, d))

pub commit_kept : (s : State) (f : Bool) (o res n : ℕ) (t : Txn) (x : Record) (ends : HeldEnds) (cells : ℕ) → IsConsistent s f o res → HasNothingUnderWay s t n → log_full (ledger_of s) 1 ≡ false
    → IsConsistent (record s { rows = without_row t s.rows; ends = ends; records = x ∷ s.records; cells_in_use = cells; waiting = with_sends (finished_of (found_row t s.rows)) s.waiting; sent = with_tags (sender_count s.sizes) (finished_of (found_row t s.rows)) s.sent }) f o res
commit_kept s f o res n t x ends cells k h room =
    let r = found_of (λ r. (r.under ≡ None) × (n ≡ r.number + 1)) (found_row t s.rows) h in
    subst (λ (q : Option Row). IsConsistent (record s { rows = without_row t s.rows; ends = ends; records = x ∷ s.records; cells_in_use = cells; waiting = with_sends (finished_of q) s.waiting; sent = with_tags (sender_count s.sizes) (finished_of q) s.sent }) f o res) (sym r.1)
    (kept_committed s f o res k t r.0 r.1 x ends cells r.2.0 (not_full s 1 room))

-- each finished deed is of the store, and each sender and client has its numbers
pub record AreCountable (s : State) : Type 0 where
  stored : (r : Row) → In r s.rows → AreDeedsOf s.sizes r.finished
  senders : length s.waiting ≡ sender_count s.sizes
  counts : length s.sent.counts ≡ place_count s.sizes
  tags : length s.sent.tags ≡ place_count s.sizes

pub countable_on : (e : List Record) (s : State) {f : Bool} {o res : ℕ} → IsConsistent s f o res → AreCountable (on e s)
countable_on e s k = record { stored = λ r i x j. ((k.rows r i).done x j).sender; senders = k.senders; counts = k.sent.counts; tags = k.sent.tags }

pub commit_done : (s : State) (n lsn cells : ℕ) (t : Txn) → AreCountable s → s.failed ≡ false → NoneHolds (ready_tests (ledger_of s) t false) → HasNothingUnderWay s t n → log_full (ledger_of s) 1 ≡ false → lsn ≡ length s.records + 1 → cells ≡ s.cells_in_use - sum_by takes_one (finished_of (found_row t s.rows)) → IsSound s
    → IsModelStep s (Commit t) (Gave_commit (record { txn = t; lsn = lsn })) (record s { rows = without_row t s.rows; ends = record { sending = released t s.ends.sending; receiving = released t s.ends.receiving }; records = records.Commit t ∷ s.records; cells_in_use = cells; waiting = with_sends (finished_of (found_row t s.rows)) s.waiting; sent = with_tags (sender_count s.sizes) (finished_of (found_row t s.rows)) s.sent })
commit_done s n lsn cells t c running tested h room at freed k =
    let r = found_of (λ r. (r.under ≡ None) × (n ≡ r.number + 1)) (found_row t s.rows) h in
    let fs = finished_of (found_row t s.rows) in
    let own : fs ≡ r.0.finished = ap finished_of r.1 in
    let taken : sum_by takes_one fs ≡ sum_by takes_one r.0.finished = ap (sum_by takes_one) own in
    let part = one_of_sum takes_all s.rows r.0 (found_in t s.rows r.0 r.1).0 in
    let used = k.counted.used in
    let forward : r.0.aborting ≡ false = sym (ap is_aborting (found_some s t r.0 r.1)) ∙ tested.1.1.0 in
    let enough : sum_by takes_one r.0.finished ≤ s.cells_in_use = omega (arith, part, used) in
    let stored : AreDeedsOf s.sizes r.0.finished = c.stored r.0 (found_in t s.rows r.0 r.1).0 in
    let waited : (g : ℕ) → g < sender_count s.sizes → waits (with_sends fs s.waiting) g ≡ waits s.waiting g + sends_in g r.0 =
    (λ g m. ap (λ l. waits (with_sends l s.waiting) g) own ∙ waits-with_sends s.sizes r.0.finished s.waiting g stored m (let l = c.senders in omega (arith, l, m))) in
    let n = sender_count s.sizes in
    let few : n ≤ 2 ^ 32 = (let d = k.range.directory_high in omega (arith, d)) in
    let counted : (i : ℕ) → i < place_count s.sizes → sent_count (with_tags n fs s.sent) i ≡ sent_count s.sent i + sends_in (group_of s.sizes i) r.0 =
    (λ i m. ap (λ l. sent_count (with_tags n l s.sent) i) own ∙ count-with_tags s.sizes few i r.0.finished s.sent stored (let l = c.counts in omega (arith, l, m))) in
    let tagged : (i : ℕ) → i < place_count s.sizes → sent_tag (with_tags n fs s.sent) i ≡ tag_after (sent_tag s.sent i) (sends_for (group_of s.sizes i) r.0) =
    (λ i m. ap (λ l. sent_tag (with_tags n l s.sent) i) own ∙ tag-with_tags s.sizes few i r.0.finished s.sent stored (let l = c.tags in omega (arith, l, m))) in
    subst (λ (m : ℕ). IsModelStep s (Commit t) (Gave_commit (record { txn = t; lsn = m })) (record s { rows = without_row t s.rows; ends = record { sending = released t s.ends.sending; receiving = released t s.ends.receiving }; records = records.Commit t ∷ s.records; cells_in_use = cells; waiting = with_sends fs s.waiting; sent = with_tags (sender_count s.sizes) fs s.sent })) (sym at)
    (commit_steps s k t r.0 cells (with_sends fs s.waiting) (with_tags (sender_count s.sizes) fs s.sent) r.1 r.2.0 forward (omega (arith, freed, taken, enough)) waited counted tagged running room)

-- what a sender's committed sends come to
pub tag_told : (s : State) (g sent tag : ℕ) → s.failed ≡ false → g < sender_count s.sizes → sent ≡ sent_count s.sent g → tag ≡ sent_tag s.sent g → IsSound s → IsModelStep s (Last_tag g) (Gave_tag sent tag) s
tag_told s g sent tag running below counted tagged k =
    let here : group_of s.sizes g ≡ g = rw (lt-ltb g (sender_count s.sizes) below) refl in
    let m : g < place_count s.sizes = omega (arith, below) in
    rw (counted ∙ k.sent.counts g m ∙ ap (λ e. length (sent_in (committed_of s.records) e)) here, tagged ∙ k.sent.tags g m ∙ ap (λ e. tag_of (sent_in (committed_of s.records) e)) here) (unchanged.tells s g k running below)

-- what a client's committed marks come to
pub client_told : (s : State) (c count tag : ℕ) → s.failed ≡ false → c < client_count s.sizes → count ≡ sent_count s.sent (sender_count s.sizes + c) → tag ≡ sent_tag s.sent (sender_count s.sizes + c) → IsSound s → IsModelStep s (Client_tag c) (Gave_client_tag count tag) s
client_told s c count tag running below counted tagged k =
    let i : ℕ = sender_count s.sizes + c in
    let behind : i - sender_count s.sizes ≡ c = omega arith in
    let here : group_of s.sizes i ≡ client_group c = rw (le-ltb i (sender_count s.sizes) (omega arith)) (ap client_group behind) in
    let m : i < place_count s.sizes = omega (arith, below) in
    rw (counted ∙ k.sent.counts i m ∙ ap (λ e. length (sent_in (committed_of s.records) e)) here, tagged ∙ k.sent.tags i m ∙ ap (λ e. tag_of (sent_in (committed_of s.records) e)) here) (unchanged.tells_client s c k running below)

-- the content
pub content_passes : (s : State) → s.failed ≡ false → any_under s.rows ≡ false → Passes (size_of s.sizes) (ledger_of s) Show
content_passes s running idle = (ap (λ b. not (runs (phase_of b))) running, (busy_is s.ends s.rows ∙ idle, tt))

-- memory is wanting, or a page could not be read
pub content_refused : (s : State) → s.failed ≡ false → any_under s.rows ≡ false → (r : Refusal) → IsNoDamage r → Refuses s Show r
content_refused s running idle r none = elim none [
  | inl memory ↦ subst (Refuses s Show) (sym memory) (no_memory s Show running (λ _. content_passes s running idle) (λ _. refl))
  | inr read ↦ subst (Refuses s Show) (sym read) (λ k. (refused_steps s k Show why.DiskRead (ap (λ b. runs (phase_of b)) running) refl, refl))
]

pub content_done : (s : State) (groups : List Group) → s.failed ≡ false → any_under s.rows ≡ false → groups ≡ map (group_in (committed_of s.records)) (below (sender_count s.sizes)) → IsSound s → IsModelStep s Show (Gave_content groups) s
content_done s groups running idle e k = record {
  entry = Shown groups;
  says = refl;
  legal = (content_passes s running idle, e);
  after = refl;
  sound = k;
  goes_on = (0, refl);
  stays_forced = omega arith;
}

pub content_busy : (s : State) → s.failed ≡ false → any_under s.rows ≡ true → Refuses s Show why.Unfinished
content_busy s running busy = refuse s Show why.Unfinished refl tt (let b : any_busy (ledger_of s).open_ones ≡ true = busy_is s.ends s.rows ∙ busy in rw (running, b) refl)
