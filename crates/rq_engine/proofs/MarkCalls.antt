-- What a mark answers, from what its tests found.
use Rattle.std.proofs.Common.{◌≡◌, ℕ, ◌+◌, ◌<◌, ◌≤◌, refl, sym, ◌∙◌, ap, subst, true, false, not, nat_lt, None}
use Rattle.std.proofs.lemmas.Bool.{lt-ltb, le-ltb}
use Rattle.rq_model.specs.declared.txn.Txn.{Txn}
use Rattle.rq_model.specs.declared.refusal.Refusal.TheVariants as why
use Rattle.rq_model.specs.History.{Call}
use Rattle.rq_model.specs.History.Call.{Start_mark}
use Rattle.rq_model.specs.Replay.Reply.{Gave_sub}
use Rattle.rq_model.specs.Tests.{Passes, NoneHolds, free_to_send, log_full, ready_tests}
use Rattle.rq_model.specs.Vocabulary.{client_group}
use Rattle.rq_page.specs.Sizes.{client_count}
use Rattle.rq_views.specs.Stored.{slots_in}
use Rattle.rq_txn.specs.Rows.{found_row, change_row, row_started}
use Rattle.rq_groups.specs.Ends.{is_free_for, with_held}
use Rattle.rq_store.specs.State.{State, ledger_of, size_of}
use Rattle.rq_sound.specs.Plans.{AreUnlatched}
use Rattle.rq_sound.specs.Sound.{IsSound}
use Rattle.rq_sound.specs.ModelSteps.{IsModelStep}
use Rattle.rq_sound.proofs.FreeEnds.{free_is}
use Rattle.rq_engine.specs.Plans.{Planned, under_plan}
use Rattle.rq_engine.specs.Answers.{Refuses, HasNothingUnderWay}
use Rattle.rq_engine.specs.Marks.{IsMarkPlan, mark_latched}
use Rattle.rq_engine.proofs.Latches.{latched_busy}
use Rattle.rq_engine.proofs.Refusals.{refuse, found_of}
use Rattle.rq_engine.proofs.Standing.{mark_steps, refused_steps}

module _ (s : State) (t : Txn) (c tag : ℕ) (h : NoneHolds (ready_tests (ledger_of s) t false)) where
  abbrev call : Call
  call = Start_mark t c tag

  pub unknown : client_count s.sizes ≤ c → Refuses s call why.UnknownClient
  unknown m k = refuse s call why.UnknownClient refl tt (rw (h.0, h.1.0, h.1.1.0, h.1.1.1.0, ap not (le-ltb c (client_count s.sizes) m)) refl) k

  module _ (below : c < client_count s.sizes) where
    known : not (nat_lt c (client_count s.sizes)) ≡ false
    known = ap not (lt-ltb c (client_count s.sizes) below)

    pub busy : is_free_for t (client_group c) s.ends.sending ≡ false → Refuses s call why.ClientBusy
    busy n k = refuse s call why.ClientBusy refl tt (rw (h.0, h.1.0, h.1.1.0, h.1.1.1.0, known, free_is s k t (client_group c), n) refl) k

    module _ (free : is_free_for t (client_group c) s.ends.sending ≡ true) where
      free_by : (k : IsSound s) → not (free_to_send t (client_group c) (ledger_of s).open_ones) ≡ false
      free_by k = ap not (free_is s k t (client_group c) ∙ free)

      pub log_is_full : log_full (ledger_of s) 2 ≡ true → Refuses s call why.LogFull
      log_is_full full k = refuse s call why.LogFull refl tt (rw (h.0, h.1.0, h.1.1.0, h.1.1.1.0, known, free_by k, full) refl) k

      pub passes : log_full (ledger_of s) 2 ≡ false → IsSound s → Passes (size_of s.sizes) (ledger_of s) call
      passes room k = (h.0, (h.1.0, (h.1.1.0, (h.1.1.1.0, (known, (free_by k, (room, tt)))))))

  -- a mark that meets a latched page
  pub refused : (IsSound s → Passes (size_of s.sizes) (ledger_of s) call) → mark_latched s c ≡ true → Refuses s call why.Latched
  refused may on k = (refused_steps s k call why.Latched (may k, refl) refl, latched_busy s.rows _ on)

  -- a mark that has started
  pub mark_done : (new : State) (n : ℕ) (plan : Planned) → HasNothingUnderWay s t n → AreUnlatched s plan.writes → IsMarkPlan s.sizes (slots_in s.sizes s.images) (under_plan n plan) c tag
      → (IsSound s → Passes (size_of s.sizes) (ledger_of s) call)
      → new ≡ record s { rows = change_row t (row_started (under_plan n plan)) s.rows; ends = record { sending = with_held t (client_group c) s.ends.sending; receiving = s.ends.receiving } }
      → IsSound s → IsModelStep s call (Gave_sub t n) new
  mark_done new n plan ready off planned may is k =
      let r = found_of (λ r. (r.under ≡ None) × (n ≡ r.number + 1)) (found_row t s.rows) ready in
      let a = mark_steps s k t r.0 (under_plan n plan) c tag r.1 r.2.0 off r.2.1 planned (may k) in
      let e = subst (λ (m : ℕ). IsModelStep s call (Gave_sub t m) (record s { rows = change_row t (row_started (under_plan n plan)) s.rows; ends = record { sending = with_held t (client_group c) s.ends.sending; receiving = s.ends.receiving } })) (sym r.2.1) a in
      subst (λ (x : State). IsModelStep s call (Gave_sub t n) x) (sym is) e
