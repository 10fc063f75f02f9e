-- What a sound store gives the calls.
use Rattle.std.proofs.Common.{◌≡◌, ℕ, ◌+◌, ◌-◌, ◌/◌, ◌%◌, ◌<◌, ◌≤◌, ◌&&◌, List, ◌∷◌, length, refl, ◌∙◌, ap, subst, true, false, nat_lt, Some, None, arith}
use Rattle.std.specs.List.{slice_get}
use Rattle.std.proofs.lemmas.Bool.{and_from, lt-ltb}
use Rattle.std.proofs.Math.Bool.{and-false}
use Rattle.rq_model.specs.declared.txn.Txn.{Txn}
use Rattle.rq_model.specs.declared.record.Deed.{Deed}
use Rattle.rq_model.specs.declared.record.Deed.TheVariants.{Append, Close, Mark, UnlinkHead}
use Rattle.rq_model.specs.declared.record.Record.TheVariants as records
use Rattle.rq_model.specs.declared.refusal.Refusal.{Refusal}
use Rattle.rq_model.specs.declared.refusal.Refusal.TheVariants.{DiskWrite}
use Rattle.rq_model.specs.Deeds.{TellsItself}
use Rattle.rq_model.specs.History.{Call}
use Rattle.rq_model.specs.History.Call.{Start_close, Start_mark, Commit, Start_send, Start_receive, Start_receive_from, Step, Finish, Force, Hand_over}
use Rattle.rq_model.specs.History.Entry.{Refused}
use Rattle.rq_model.specs.Ledger.{after, found}
use Rattle.rq_model.specs.Legal.{LegalRefusal}
use Rattle.rq_model.specs.Tests.{Passes, any_gives, below, gives, log_full}
use Rattle.rq_model.specs.Replay.Reply.{Gave_sub, Gave_none, Gave_refusal, Gave_lsn, Gave_commit, Gave_forced, Gave_handed_over}
use Rattle.rq_page.specs.Sizes.{sender_count}
use Rattle.rq_views.specs.Log.{put}
use Rattle.rq_views.specs.Stored.{slots_in}
use Rattle.rq_page.specs.Slots.{IsSlotOf, held_in}
use Rattle.rq_level.specs.declared.writes.SlotWrite.{SlotWrite}
use Rattle.rq_txn.specs.declared.Aim.TheVariants.{Doing}
use Rattle.rq_txn.specs.Rows.{Row, Under, change_row, deed_of, found_row, row_finished, row_started, row_stepped, without_row}
use Rattle.rq_groups.specs.Sent.{SentBy, sent_count, sent_tag}
use Rattle.rq_model.specs.Content.{tag_after}
use Rattle.rq_model.specs.Vocabulary.{client_group}
use Rattle.rq_sound.specs.Calls.{sends_for}
use Rattle.rq_groups.specs.Ends.{is_free_for, released, with_held}
use Rattle.rq_groups.specs.Waiting.{waits}
use Rattle.rq_store.specs.Plans.{IsSendPlan, IsTakePlan, NoneWaits, WaitsFor}
use Rattle.rq_store.specs.Sends.{group_of, place_count}
use Rattle.rq_store.specs.State.{State, ledger_of, size_of}
use Rattle.rq_store.specs.Steps.{IsPutIn, gave_done, op_end, page_op, took}
use Rattle.rq_store.proofs.RowLists.{found_in}
use Rattle.rq_engine.specs.Closes.{IsClosePlan}
use Rattle.rq_engine.specs.Marks.{IsMarkPlan}
use Rattle.rq_sound.specs.Counted.{appends_aim, sends_in, takes_all}
use Rattle.rq_sound.specs.Plans.{AreUnlatched, IsNew}
use Rattle.rq_sound.specs.Sound.{IsSound}
use Rattle.rq_sound.specs.Standing.{IsAsPlanned}
use Rattle.rq_sound.specs.Starts.{MayDo}
use Rattle.rq_sound.specs.ModelSteps.{IsModelStep}
use Rattle.rq_sound.proofs.AbortSteps.{abort_steps}
use Rattle.rq_sound.proofs.DeedSteps.{deed_steps}
use Rattle.rq_sound.proofs.Planned.{plans_start}
use Rattle.rq_sound.proofs.Refusals.{refusal_steps}
use Rattle.rq_sound.proofs.Unchanged.{unchanged}
use Rattle.rq_sound.proofs.Waits.{waits_given}

pub refused_steps : (s : State) → IsSound s → (c : Call) (r : Refusal) → LegalRefusal (size_of s.sizes) (ledger_of s) c r → after (Refused c r) (ledger_of s) ≡ ledger_of s → IsModelStep s c (Gave_refusal r) s
refused_steps s k c r legal same = refusal_steps.refused s c r k legal same

pub failed_steps : (s : State) → IsSound s → s.failed ≡ false → (c : Call) → IsModelStep s c (Gave_refusal DiskWrite) (record s { failed = true })
failed_steps s k running c = refusal_steps.fails s c k running

pub hand_over_steps : (s : State) → IsSound s → s.failed ≡ false → IsModelStep s Hand_over Gave_handed_over s
hand_over_steps s k running = unchanged.hands_over s k running

pub force_steps : (s : State) → IsSound s → s.failed ≡ false → IsModelStep s Force (Gave_forced (length s.records)) (record s { forced = length s.records })
force_steps s k running = abort_steps.forces s k running

-- what is so of the transaction's own number is so of the one it is found by
pub at_own : (s : State) (t : Txn) (r : Row) (P : Txn → Type 0) → found_row t s.rows ≡ Some r → (found_row r.txn s.rows ≡ Some r → P r.txn) → P t
at_own s t r P e h = let i = (found_in t s.rows r e).1 in subst P i (h (ap (λ q. found_row q s.rows) i ∙ e))

-- an operation under way has no more writes made than it has, and the number that its row has
pub going_at : (s : State) (k : IsSound s) (t : Txn) (r : Row) (u : Under) → found_row t s.rows ≡ Some r → r.under ≡ Some u → (u.made ≤ length u.writes) × (r.number ≡ u.number)
going_at s k t r u e under =
    let g = subst (IsAsPlanned s.sizes s.records s.ends r) under (k.standing.each r (found_in t s.rows r e).0).going in
    (g.0.made, g.1)

-- one more write
pub step_steps : (s : State) (k : IsSound s) (t : Txn) (r : Row) (u : Under) (w : SlotWrite) (images : List (List ℕ)) → found_row t s.rows ≡ Some r → r.under ≡ Some u → slice_get u.writes u.made ≡ Some w
    → ((a : ℕ) → slots_in s.sizes images a ≡ put (slots_in s.sizes s.images) w.at (held_in s.sizes (w.at / 16) w.after) a) → IsPutIn s w images → IsSlotOf s.sizes (w.at / 16) (w.at % 16) w.before → IsSlotOf s.sizes (w.at / 16) (w.at % 16) w.after → s.failed ≡ false
    → IsModelStep s (Step t u.number) (Gave_lsn (length s.records + 1)) (record s { rows = change_row t row_stepped s.rows; images = images; records = page_op t u.number w ∷ s.records })
step_steps s k t r u w images at_row under next slots put_in before slot running =
    at_own s t r (λ q. IsModelStep s (Step q u.number) (Gave_lsn (length s.records + 1)) (record s { rows = change_row q row_stepped s.rows; images = images; records = page_op q u.number w ∷ s.records })) at_row (λ e. abort_steps.steps s r u w images k running (record {
      at_row = e;
      under = under;
      next = next;
      before = before;
      after = slot;
      made = record { image = slots; page = put_in.page; others = put_in.others; superblock = put_in.superblock; headers = put_in.headers };
    }))

-- a deed's end
pub finish_steps : (s : State) (k : IsSound s) (t : Txn) (r : Row) (u : Under) (d : Deed) (ws : List ℕ) → found_row t s.rows ≡ Some r → r.under ≡ Some u → u.aim ≡ Doing d → u.made ≡ length u.writes → ((g : ℕ) → waits ws g ≡ waits s.waiting g - took g d) → s.failed ≡ false
    → IsModelStep s (Finish t u.number) (gave_done d) (record s { rows = change_row t (row_finished (record { lsn = length s.records + 1; number = u.number; deed = d })) s.rows; records = op_end t u.number d ∷ s.records; waiting = ws })
finish_steps s k t r u d ws at_row under aim made waited running =
    at_own s t r (λ q. IsModelStep s (Finish q u.number) (gave_done d) (record s { rows = change_row q (row_finished (record { lsn = length s.records + 1; number = u.number; deed = d })) s.rows; records = op_end q u.number d ∷ s.records; waiting = ws })) at_row
    (λ e. deed_steps.finishes s r u d ws k running (record { at_row = e; under = under; aim_is = aim; made = made }) waited)

pub commit_steps : (s : State) (k : IsSound s) (t : Txn) (r : Row) (cells : ℕ) (ws : List ℕ) (ss : SentBy) → found_row t s.rows ≡ Some r → r.under ≡ None → r.aborting ≡ false → cells + takes_all r ≡ s.cells_in_use
    → ((g : ℕ) → g < sender_count s.sizes → waits ws g ≡ waits s.waiting g + sends_in g r) → ((i : ℕ) → i < place_count s.sizes → sent_count ss i ≡ sent_count s.sent i + sends_in (group_of s.sizes i) r)
    → ((i : ℕ) → i < place_count s.sizes → sent_tag ss i ≡ tag_after (sent_tag s.sent i) (sends_for (group_of s.sizes i) r)) → s.failed ≡ false → log_full (ledger_of s) 1 ≡ false
    → IsModelStep s (Commit t) (Gave_commit (record { txn = t; lsn = length s.records + 1 })) (record s { rows = without_row t s.rows; ends = record { sending = released t s.ends.sending; receiving = released t s.ends.receiving }; records = records.Commit t ∷ s.records; cells_in_use = cells; waiting = ws; sent = ss })
commit_steps s k t r cells ws ss at_row idle forward freed waited counted tagged running room =
    at_own s t r (λ q. IsModelStep s (Commit q) (Gave_commit (record { txn = q; lsn = length s.records + 1 })) (record s { rows = without_row q s.rows; ends = record { sending = released q s.ends.sending; receiving = released q s.ends.receiving }; records = records.Commit q ∷ s.records; cells_in_use = cells; waiting = ws; sent = ss })) at_row
    (λ e. deed_steps.commits s r cells ws ss k running (record { idle = record { at_row = e; idle = idle }; forward = forward; freed = freed; waits = waited; counts = counted; tags = tagged }) room)

-- what is planned on pages that nobody has latched
module _ (s : State) (k : IsSound s) (r : Row) (u : Under) (at_row : found_row r.txn s.rows ≡ Some r) (idle : r.under ≡ None) (free : AreUnlatched s u.writes) (number : u.number ≡ r.number + 1) where
  new : (d : Deed) → u.aim ≡ Doing d → u.made ≡ 0 → IsNew s r u (Doing d)
  new d aim made = record {
    idle = record { at_row = at_row; idle = idle };
    number = number;
    made = made;
    aim_is = aim;
    free = free;
  }

  reads_of : (d : Deed) → u.aim ≡ Doing d → TellsItself (deed_of u.aim) → TellsItself d
  reads_of d aim h = subst TellsItself (ap deed_of aim) h

  -- a send
  own_send : (e tag : ℕ) (body : List ℕ) → IsSendPlan s.sizes (slots_in s.sizes s.images) u e tag body → Passes (size_of s.sizes) (ledger_of s) (Start_send r.txn (record { sender = e; tag = tag; body = body }))
      → IsModelStep s (Start_send r.txn (record { sender = e; tag = tag; body = body })) (Gave_sub r.txn (r.number + 1))
      (record s { rows = change_row r.txn (row_started u) s.rows; ends = record { sending = with_held r.txn e s.ends.sending; receiving = s.ends.receiving }; cells_in_use = s.cells_in_use + 1 })
  own_send e tag body plan passes =
      let d : Deed = Append e (plan.directory.sent + 1) tag plan.directory.last_tag body in
      let may : MayDo s r u d = plans_start.deeds s r u d k (new d plan.aim plan.made) (record {
        directory = plan.directory;
        new = plan.new;
        old = plan.old;
        directory_is = plan.directory_is;
        sequence = refl;
        previous_is = refl;
        cell = plan.cell;
        free = plan.free;
        beside = plan.beside;
        writes = plan.writes;
      }) (reads_of d plan.aim plan.reads) tt passes in
      subst (λ (n : ℕ). IsModelStep s (Start_send r.txn (record { sender = e; tag = tag; body = body })) (Gave_sub r.txn (r.number + 1))
      (record s { rows = change_row r.txn (row_started u) s.rows; ends = record { sending = with_held r.txn e s.ends.sending; receiving = s.ends.receiving }; cells_in_use = s.cells_in_use + n })) (ap appends_aim plan.aim)
      (deed_steps.starts s r u d k may passes)

  -- a close
  own_close : (e : ℕ) → IsClosePlan s.sizes (slots_in s.sizes s.images) u e → Passes (size_of s.sizes) (ledger_of s) (Start_close r.txn e)
      → IsModelStep s (Start_close r.txn e) (Gave_sub r.txn (r.number + 1))
      (record s { rows = change_row r.txn (row_started u) s.rows; ends = record { sending = with_held r.txn e s.ends.sending; receiving = s.ends.receiving } })
  own_close e plan passes =
      let d : Deed = Close e in
      let may : MayDo s r u d = plans_start.deeds s r u d k (new d plan.aim plan.made) plan.marking (reads_of d plan.aim plan.reads) tt passes in
      subst (λ (n : ℕ). IsModelStep s (Start_close r.txn e) (Gave_sub r.txn (r.number + 1))
      (record s { rows = change_row r.txn (row_started u) s.rows; ends = record { sending = with_held r.txn e s.ends.sending; receiving = s.ends.receiving }; cells_in_use = n }))
      (let a : appends_aim u.aim ≡ 0 = ap appends_aim plan.aim in let same : s.cells_in_use + appends_aim u.aim ≡ s.cells_in_use = omega (arith, a) in same)
      (deed_steps.starts s r u d k may passes)

  -- a mark
  own_mark : (c tag : ℕ) → IsMarkPlan s.sizes (slots_in s.sizes s.images) u c tag → Passes (size_of s.sizes) (ledger_of s) (Start_mark r.txn c tag)
      → IsModelStep s (Start_mark r.txn c tag) (Gave_sub r.txn (r.number + 1))
      (record s { rows = change_row r.txn (row_started u) s.rows; ends = record { sending = with_held r.txn (client_group c) s.ends.sending; receiving = s.ends.receiving } })
  own_mark c tag plan passes =
      let d : Deed = Mark c tag plan.previous in
      let may : MayDo s r u d = plans_start.deeds s r u d k (new d plan.aim plan.made) plan.tagging (reads_of d plan.aim plan.reads) tt passes in
      subst (λ (n : ℕ). IsModelStep s (Start_mark r.txn c tag) (Gave_sub r.txn (r.number + 1))
      (record s { rows = change_row r.txn (row_started u) s.rows; ends = record { sending = with_held r.txn (client_group c) s.ends.sending; receiving = s.ends.receiving }; cells_in_use = n }))
      (let a : appends_aim u.aim ≡ 0 = ap appends_aim plan.aim in let same : s.cells_in_use + appends_aim u.aim ≡ s.cells_in_use = omega (arith, a) in same)
      (deed_steps.starts s r u d k may passes)

  -- a receive
  module _ (e : ℕ) (plan : IsTakePlan s.sizes (slots_in s.sizes s.images) u e) (wait : 1 ≤ waits s.waiting e) (passes : Passes (size_of s.sizes) (ledger_of s) (Start_receive_from r.txn e)) where
    abbrev deed : Deed
    deed = UnlinkHead e (plan.directory.received + 1) plan.cell.tag plan.cell.body

    may_take : MayDo s r u deed
    may_take = plans_start.deeds s r u deed k (new deed plan.aim plan.made) (record {
      directory = plan.directory;
      cell = plan.cell;
      next = plan.next;
      directory_is = plan.directory_is;
      sequence = refl;
      tag_is = refl;
      body_is = refl;
      head_is = plan.head_is;
      beside = plan.beside;
      writes = plan.writes;
    }) (reads_of deed plan.aim plan.reads) wait passes

    no_more : s.cells_in_use + appends_aim u.aim ≡ s.cells_in_use
    no_more = (let a : appends_aim u.aim ≡ 0 = ap appends_aim plan.aim in omega (arith, a))

    abbrev taken : ℕ → State
    taken n = record s { rows = change_row r.txn (row_started u) s.rows; ends = record { sending = s.ends.sending; receiving = with_held r.txn e s.ends.receiving }; cells_in_use = n }

    own_take : IsModelStep s (Start_receive r.txn) (Gave_sub r.txn (r.number + 1)) (taken s.cells_in_use)
    own_take = subst (λ (n : ℕ). IsModelStep s (Start_receive r.txn) (Gave_sub r.txn (r.number + 1)) (taken n)) no_more
        (deed_steps.receives_any s r u e (plan.directory.received + 1) plan.cell.tag plan.cell.body k may_take passes)

    own_take_from : IsModelStep s (Start_receive_from r.txn e) (Gave_sub r.txn (r.number + 1)) (taken s.cells_in_use)
    own_take_from = subst (λ (n : ℕ). IsModelStep s (Start_receive_from r.txn e) (Gave_sub r.txn (r.number + 1)) (taken n)) no_more
        (deed_steps.starts s r u deed k may_take passes)

pub start_steps : (s : State) (k : IsSound s) (t : Txn) (r : Row) (u : Under) (e tag : ℕ) (body : List ℕ) → found_row t s.rows ≡ Some r → r.under ≡ None → AreUnlatched s u.writes → u.number ≡ r.number + 1
    → IsSendPlan s.sizes (slots_in s.sizes s.images) u e tag body
    → Passes (size_of s.sizes) (ledger_of s) (Start_send t (record { sender = e; tag = tag; body = body }))
    → IsModelStep s (Start_send t (record { sender = e; tag = tag; body = body })) (Gave_sub t (r.number + 1)) (record s { rows = change_row t (row_started u) s.rows; ends = record { sending = with_held t e s.ends.sending; receiving = s.ends.receiving }; cells_in_use = s.cells_in_use + 1 })
start_steps s k t r u e tag body at_row idle free number plan passes =
    at_own s t r (λ q. Passes (size_of s.sizes) (ledger_of s) (Start_send q (record { sender = e; tag = tag; body = body }))
    → IsModelStep s (Start_send q (record { sender = e; tag = tag; body = body })) (Gave_sub q (r.number + 1)) (record s { rows = change_row q (row_started u) s.rows; ends = record { sending = with_held q e s.ends.sending; receiving = s.ends.receiving }; cells_in_use = s.cells_in_use + 1 })) at_row
    (λ f. own_send s k r u f idle free number e tag body plan) passes

pub close_steps : (s : State) (k : IsSound s) (t : Txn) (r : Row) (u : Under) (e : ℕ) → found_row t s.rows ≡ Some r → r.under ≡ None → AreUnlatched s u.writes → u.number ≡ r.number + 1 → IsClosePlan s.sizes (slots_in s.sizes s.images) u e
    → Passes (size_of s.sizes) (ledger_of s) (Start_close t e)
    → IsModelStep s (Start_close t e) (Gave_sub t (r.number + 1)) (record s { rows = change_row t (row_started u) s.rows; ends = record { sending = with_held t e s.ends.sending; receiving = s.ends.receiving } })
close_steps s k t r u e at_row idle free number plan passes =
    at_own s t r (λ q. Passes (size_of s.sizes) (ledger_of s) (Start_close q e)
    → IsModelStep s (Start_close q e) (Gave_sub q (r.number + 1)) (record s { rows = change_row q (row_started u) s.rows; ends = record { sending = with_held q e s.ends.sending; receiving = s.ends.receiving } })) at_row
    (λ f. own_close s k r u f idle free number e plan) passes

pub mark_steps : (s : State) (k : IsSound s) (t : Txn) (r : Row) (u : Under) (c tag : ℕ) → found_row t s.rows ≡ Some r → r.under ≡ None → AreUnlatched s u.writes → u.number ≡ r.number + 1 → IsMarkPlan s.sizes (slots_in s.sizes s.images) u c tag
    → Passes (size_of s.sizes) (ledger_of s) (Start_mark t c tag)
    → IsModelStep s (Start_mark t c tag) (Gave_sub t (r.number + 1)) (record s { rows = change_row t (row_started u) s.rows; ends = record { sending = with_held t (client_group c) s.ends.sending; receiving = s.ends.receiving } })
mark_steps s k t r u c tag at_row idle free number plan passes =
    at_own s t r (λ q. Passes (size_of s.sizes) (ledger_of s) (Start_mark q c tag)
    → IsModelStep s (Start_mark q c tag) (Gave_sub q (r.number + 1)) (record s { rows = change_row q (row_started u) s.rows; ends = record { sending = with_held q (client_group c) s.ends.sending; receiving = s.ends.receiving } })) at_row
    (λ f. own_mark s k r u f idle free number c tag plan) passes

pub take_steps : (s : State) (k : IsSound s) (t : Txn) (r : Row) (u : Under) (e : ℕ) → found_row t s.rows ≡ Some r → r.under ≡ None → AreUnlatched s u.writes → u.number ≡ r.number + 1 → IsTakePlan s.sizes (slots_in s.sizes s.images) u e → 1 ≤ waits s.waiting e
    → Passes (size_of s.sizes) (ledger_of s) (Start_receive_from t e)
    → IsModelStep s (Start_receive t) (Gave_sub t (r.number + 1)) (record s { rows = change_row t (row_started u) s.rows; ends = record { sending = s.ends.sending; receiving = with_held t e s.ends.receiving } })
take_steps s k t r u e at_row idle free number plan wait passes =
    at_own s t r (λ q. Passes (size_of s.sizes) (ledger_of s) (Start_receive_from q e)
    → IsModelStep s (Start_receive q) (Gave_sub q (r.number + 1)) (record s { rows = change_row q (row_started u) s.rows; ends = record { sending = s.ends.sending; receiving = with_held q e s.ends.receiving } })) at_row
    (λ f p. own_take s k r u f idle free number e plan wait p) passes

pub take_from_steps : (s : State) (k : IsSound s) (t : Txn) (r : Row) (u : Under) (e : ℕ) → found_row t s.rows ≡ Some r → r.under ≡ None → AreUnlatched s u.writes → u.number ≡ r.number + 1 → IsTakePlan s.sizes (slots_in s.sizes s.images) u e → 1 ≤ waits s.waiting e
    → Passes (size_of s.sizes) (ledger_of s) (Start_receive_from t e)
    → IsModelStep s (Start_receive_from t e) (Gave_sub t (r.number + 1)) (record s { rows = change_row t (row_started u) s.rows; ends = record { sending = s.ends.sending; receiving = with_held t e s.ends.receiving } })
take_from_steps s k t r u e at_row idle free number plan wait passes =
    at_own s t r (λ q. Passes (size_of s.sizes) (ledger_of s) (Start_receive_from q e)
    → IsModelStep s (Start_receive_from q e) (Gave_sub q (r.number + 1)) (record s { rows = change_row q (row_started u) s.rows; ends = record { sending = s.ends.sending; receiving = with_held q e s.ends.receiving } })) at_row
    (λ f p. own_take_from s k r u f idle free number e plan wait p) passes

-- which groups give a message
module _ (s : State) (k : IsSound s) (t : Txn) (r : Row) (at_row : found_row t s.rows ≡ Some r) where
  pub gives_one : (g : ℕ) → WaitsFor s t g → gives (ledger_of s) t (found t (ledger_of s).open_ones) g ≡ true
  gives_one g w = at_own s t r (λ q. WaitsFor s q g → gives (ledger_of s) q (found q (ledger_of s).open_ones) g ≡ true) at_row
      (λ e w. waits_given.each s r g k e w.0 ∙ and_from _ _ w.1 (lt-ltb 0 (waits s.waiting g) (let n = w.2 in omega (arith, n)))) w

  pub gives_none : (g : ℕ) → g < sender_count s.sizes → is_free_for t g s.ends.receiving ≡ true → waits s.waiting g ≡ 0 → gives (ledger_of s) t (found t (ledger_of s).open_ones) g ≡ false
  gives_none g m free n = at_own s t r (λ q. gives (ledger_of s) q (found q (ledger_of s).open_ones) g ≡ false) at_row
      (λ e. waits_given.each s r g k e m ∙ ap (λ w. is_free_for r.txn g s.ends.receiving && nat_lt 0 w) n ∙ and-false (is_free_for r.txn g s.ends.receiving))

  pub some_gives : (g : ℕ) → WaitsFor s t g → any_gives (below (sender_count s.sizes)) (ledger_of s) t (found t (ledger_of s).open_ones) ≡ true
  some_gives g w = at_own s t r (λ q. WaitsFor s q g → any_gives (below (sender_count s.sizes)) (ledger_of s) q (found q (ledger_of s).open_ones) ≡ true) at_row (λ e w. waits_given.some s r g k e w) w

  pub none_gives : NoneWaits s t → any_gives (below (sender_count s.sizes)) (ledger_of s) t (found t (ledger_of s).open_ones) ≡ false
  none_gives none = at_own s t r (λ q. NoneWaits s q → any_gives (below (sender_count s.sizes)) (ledger_of s) q (found q (ledger_of s).open_ones) ≡ false) at_row (λ e w. waits_given.none s r k e w) none

  module _ (idle : r.under ≡ None) where
    pub none_steps : NoneWaits s t → Passes (size_of s.sizes) (ledger_of s) (Start_receive t) → IsModelStep s (Start_receive t) Gave_none s
    none_steps none passes = at_own s t r (λ q. NoneWaits s q → Passes (size_of s.sizes) (ledger_of s) (Start_receive q) → IsModelStep s (Start_receive q) Gave_none s) at_row
        (λ e w p. deed_steps.none s r k (record { at_row = e; idle = idle }) w p) none passes

    pub none_from_steps : (g : ℕ) → g < sender_count s.sizes → is_free_for t g s.ends.receiving ≡ true → waits s.waiting g ≡ 0 → Passes (size_of s.sizes) (ledger_of s) (Start_receive_from t g) → IsModelStep s (Start_receive_from t g) Gave_none s
    none_from_steps g m free none passes = at_own s t r (λ q. is_free_for q g s.ends.receiving ≡ true → Passes (size_of s.sizes) (ledger_of s) (Start_receive_from q g) → IsModelStep s (Start_receive_from q g) Gave_none s) at_row
        (λ e f p. deed_steps.none_from s r g k (record { at_row = e; idle = idle }) m f none p) free passes
