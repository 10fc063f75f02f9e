-- What a close answers, from what its tests found.
use Rattle.std.proofs.Common.{◌≡◌, ℕ, ◌+◌, ◌<◌, ◌≤◌, ◌||◌, refl, sym, ◌∙◌, ap, subst, true, false, not, nat_lt, None}
use Rattle.std.proofs.lemmas.Bool.{lt-ltb, le-ltb}
use Rattle.rq_model.specs.declared.txn.Txn.{Txn}
use Rattle.rq_model.specs.declared.refusal.Refusal.TheVariants as why
use Rattle.rq_model.specs.History.{Call}
use Rattle.rq_model.specs.History.Call.{Start_close}
use Rattle.rq_model.specs.Ledger.{found, ended_in}
use Rattle.rq_model.specs.Replay.Reply.{Gave_sub}
use Rattle.rq_model.specs.Tests.{Passes, NoneHolds, free_to_send, has_closed, log_full, ready_tests}
use Rattle.rq_page.specs.declared.directory.Directory.{Directory}
use Rattle.rq_page.specs.Sizes.{sender_count, directory_at}
use Rattle.rq_page.specs.Slots.Slot.{Sender}
use Rattle.rq_views.specs.Items.{items}
use Rattle.rq_views.specs.Legal.{view}
use Rattle.rq_views.specs.Stored.{slots_in}
use Rattle.rq_txn.specs.Rows.{found_row, change_row, row_started}
use Rattle.rq_groups.specs.Ends.{is_free_for, with_held}
use Rattle.rq_store.specs.State.{State, ledger_of, size_of}
use Rattle.rq_store.proofs.RowLists.{found_in}
use Rattle.rq_sound.proofs.Groups.{slots_tell}
use Rattle.rq_sound.specs.Plans.{AreUnlatched}
use Rattle.rq_sound.specs.Sound.{IsSound}
use Rattle.rq_sound.specs.ModelSteps.{IsModelStep}
use Rattle.rq_sound.proofs.FreeEnds.{free_is}
use Rattle.rq_engine.specs.Plans.{Planned, under_plan}
use Rattle.rq_engine.specs.Answers.{Refuses, HasNothingUnderWay}
use Rattle.rq_engine.specs.Closes.{IsClosePlan, close_latched}
use Rattle.rq_engine.proofs.Latches.{latched_busy}
use Rattle.rq_engine.proofs.Refusals.{refuse, found_of}
use Rattle.rq_engine.proofs.SendCalls.{closed_here, ready_row}
use Rattle.rq_engine.proofs.Standing.{refused_steps, close_steps}

module _ (s : State) (t : Txn) (e : ℕ) (h : NoneHolds (ready_tests (ledger_of s) t false)) where
  abbrev call : Call
  call = Start_close t e

  pub unknown : sender_count s.sizes ≤ e → Refuses s call why.UnknownSender
  unknown m k = refuse s call why.UnknownSender refl tt (rw (h.0, h.1.0, h.1.1.0, h.1.1.1.0, ap not (le-ltb e (sender_count s.sizes) m)) refl) k

  module _ (below : e < sender_count s.sizes) where
    known : not (nat_lt e (sender_count s.sizes)) ≡ false
    known = ap not (lt-ltb e (sender_count s.sizes) below)

    pub busy : is_free_for t e s.ends.sending ≡ false → Refuses s call why.SenderBusy
    busy n k = refuse s call why.SenderBusy refl tt (rw (h.0, h.1.0, h.1.1.0, h.1.1.1.0, known, free_is s k t e, n) refl) k

    module _ (free : is_free_for t e s.ends.sending ≡ true) (d : Directory) (at : slots_in s.sizes s.images (directory_at e) ≡ Sender e d) where
      closed_by : (k : IsSound s) → (ended_in (ledger_of s).committed e || has_closed e (found t (ledger_of s).open_ones)) ≡ d.closed
      closed_by k = let r = ready_row s t h in closed_here s k t r.0 e d r.1 below free at

      free_by : (k : IsSound s) → not (free_to_send t e (ledger_of s).open_ones) ≡ false
      free_by k = ap not (free_is s k t e ∙ free)

      pub closed : d.closed ≡ true → Refuses s call why.Closed
      closed c k = refuse s call why.Closed refl tt (rw (h.0, h.1.0, h.1.1.0, h.1.1.1.0, known, free_by k, closed_by k, c) refl) k

      -- the group is open
      pub is_open : d.closed ≡ false → (k : IsSound s) → (view (items s.sizes s.records) e).closed ≡ false
      is_open c k =
          let ready = ready_row s t h in
          let r = found_of (λ r. (r.under ≡ None) × (ready.0 ≡ r.number + 1)) (found_row t s.rows) ready.1 in
          let own = found_in t s.rows r.0 r.1 in
          slots_tell.flag s r.0 e d k (record { at_row = ap (λ (q : Txn). found_row q s.rows) own.1 ∙ r.1; idle = r.2.0 }) below (ap (λ (q : Txn). is_free_for q e s.ends.sending) own.1 ∙ free) at ∙ c

      module _ (open_now : d.closed ≡ false) where
        pub log_is_full : log_full (ledger_of s) 2 ≡ true → Refuses s call why.LogFull
        log_is_full c k = refuse s call why.LogFull refl tt (rw (h.0, h.1.0, h.1.1.0, h.1.1.1.0, known, free_by k, closed_by k, open_now, c) refl) k

        pub passes : log_full (ledger_of s) 2 ≡ false → IsSound s → Passes (size_of s.sizes) (ledger_of s) call
        passes c k = (h.0, (h.1.0, (h.1.1.0, (h.1.1.1.0, (known, (free_by k, (closed_by k ∙ open_now, (c, tt))))))))

  -- a close that meets a latched page
  pub refused : (IsSound s → Passes (size_of s.sizes) (ledger_of s) call) → close_latched s e ≡ true → Refuses s call why.Latched
  refused may on k = (refused_steps s k call why.Latched (may k, refl) refl, latched_busy s.rows _ on)

  -- a close that has started
  pub close_done : (new : State) (n : ℕ) (plan : Planned) → HasNothingUnderWay s t n → AreUnlatched s plan.writes → IsClosePlan s.sizes (slots_in s.sizes s.images) (under_plan n plan) e
      → (IsSound s → Passes (size_of s.sizes) (ledger_of s) call)
      → new ≡ record s { rows = change_row t (row_started (under_plan n plan)) s.rows; ends = record { sending = with_held t e s.ends.sending; receiving = s.ends.receiving } }
      → IsSound s → IsModelStep s call (Gave_sub t n) new
  close_done new n plan ready off planned may is k =
      let r = found_of (λ r. (r.under ≡ None) × (n ≡ r.number + 1)) (found_row t s.rows) ready in
      let a = close_steps s k t r.0 (under_plan n plan) e r.1 r.2.0 off r.2.1 planned (may k) in
      let c = subst (λ (m : ℕ). IsModelStep s call (Gave_sub t m) (record s { rows = change_row t (row_started (under_plan n plan)) s.rows; ends = record { sending = with_held t e s.ends.sending; receiving = s.ends.receiving } })) (sym r.2.1) a in
      subst (λ (x : State). IsModelStep s call (Gave_sub t n) x) (sym is) c
