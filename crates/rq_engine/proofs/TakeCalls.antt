-- What a receive answers, from what its tests found.
use Rattle.std.proofs.Common.{◌≡◌, ℕ, ◌+◌, ◌<◌, ◌≤◌, ◌&&◌, refl, sym, ◌∙◌, ap, subst, Bool, true, false, not, nat_lt, Some, None, inl, inr, length, arith, Result}
use Rattle.std.proofs.lemmas.Bool.{lt-ltb, true≢false, and_right, cases_lt}
use Rattle.rq_model.specs.declared.txn.Txn.{Txn}
use Rattle.rq_model.specs.declared.refusal.Refusal.TheVariants as why
use Rattle.rq_model.specs.History.{Call}
use Rattle.rq_model.specs.History.Call.{Start_receive, Start_receive_from}
use Rattle.rq_model.specs.Ledger.{found, runs}
use Rattle.rq_model.specs.Tests.{Passes, NoneHolds, below, any_gives, gives, free_to_receive, log_full, ready_tests}
use Rattle.rq_model.specs.Replay.Reply.{Gave_sub, Gave_none, Gave_refusal}
use Rattle.rq_page.specs.Sizes.{sender_count}
use Rattle.rq_views.specs.Stored.{slots_in}
use Rattle.rq_txn.specs.Rows.{Row, found_row, change_row, row_started}
use Rattle.rq_groups.specs.Ends.{is_free_for, with_held}
use Rattle.rq_groups.specs.Waiting.{waits}
use Rattle.rq_store.specs.State.{State, ledger_of, phase_of, size_of}
use Rattle.rq_sound.specs.Sound.{IsSound}
use Rattle.rq_store.specs.Plans.{IsTakePlan, NoneWaits, WaitsFor}
use Rattle.rq_sound.specs.ModelSteps.{IsModelStep}
use Rattle.rq_sound.proofs.FreeEnds.{free_to_take}
use Rattle.rq_sound.specs.Groups.{slots_now}
use Rattle.rq_sound.specs.Latching.{behind_head}
use Rattle.rq_sound.specs.Plans.{AreUnlatched}
use Rattle.rq_engine.proofs.Latches.{any_busy}
use Rattle.rq_engine.proofs.Standing.{refused_steps, take_steps, take_from_steps, gives_one, gives_none, some_gives, none_gives, none_steps, none_from_steps}
use Rattle.rq_groups.specs.declared.End.TheVariants.{Receiving}
use Rattle.rq_level.specs.Ops.Doing.{Receive}
use Rattle.rq_planner.specs.Asked.Task.{Chain}
use Rattle.rq_engine.specs.Lists.{IsTakeStarted}
use Rattle.rq_engine.specs.Plans.{HasStarted, Planned, under_plan, HasBegun, HasBegunTake, MayTake}
use Rattle.rq_engine.proofs.Leveled.{take_plan}
use Rattle.rq_engine.specs.Answers.{IsCausedIn, Refuses, HasNothingUnderWay}
use Rattle.rq_engine.specs.Receives.{IsTakeCall}
use Rattle.rq_engine.specs.Sends.{take_latched}
use Rattle.rq_engine.proofs.Refusals.{refuse, found_of, no_memory}
use Rattle.rq_engine.proofs.SendCalls.{ready_row}
use Rattle.std.proofs.lemmas.List.{get_or_past}
use Rattle.rq_model.specs.declared.refusal.Refusal.{Refusal}
use Rattle.rq_groups.specs.declared.End.{End}
use Rattle.rq_groups.specs.Sides.{with_end}
use Rattle.rq_planner.specs.Asked.{Task}
use Rattle.rq_engine.specs.KeptUp.{AreButRead, HasReadSoFar, HasTried, with_images_of}
use Rattle.rq_engine.specs.Opened.{OpenStore}
use Rattle.rq_engine.proofs.KeptUp.{tried_then}
use Rattle.rq_disk.specs.declared.device.PageDevice as page_device

-- a transaction that is not ready is refused so
module _ (s : State) (t : Txn) (h : NoneHolds (ready_tests (ledger_of s) t false)) where
  -- the row of a transaction that is ready
  own_row : (r : Row) × (found_row t s.rows ≡ Some r) × (r.under ≡ None)
  own_row = let n = ready_row s t h in let f = found_of (λ r. (r.under ≡ None) × (n.0 ≡ r.number + 1)) (found_row t s.rows) n.1 in (f.0, f.1, f.2.0)

  -- none is given where none waits
  pub none_done : NoneWaits s t → IsSound s → IsModelStep s (Start_receive t) Gave_none s
  none_done none k =
      let g = none_gives s k t own_row.0 own_row.1 none in
      none_steps s k t own_row.0 own_row.1 own_row.2 none (h.0, (h.1.0, (h.1.1.0, (h.1.1.1.0, (ap (λ b. b && log_full (ledger_of s) 4) g, tt)))))

  running : s.failed ≡ false
  running = phase s.failed h.0 where
    phase : (b : Bool) → not (runs (phase_of b)) ≡ false → b ≡ false
    phase true e = absurd (true≢false e)
    phase false e = refl

  module _ (e : ℕ) where
    pub receiver_busy : e < sender_count s.sizes → is_free_for t e s.ends.receiving ≡ false → Refuses s (Start_receive_from t e) why.ReceiverBusy
    receiver_busy m busy k = refuse s (Start_receive_from t e) why.ReceiverBusy refl tt (rw (h.0, h.1.0, h.1.1.0, h.1.1.1.0, ap not (lt-ltb e (sender_count s.sizes) m), ap not (free_to_take s k t e ∙ busy)) refl) k

    pub none_from_done : e < sender_count s.sizes → is_free_for t e s.ends.receiving ≡ true → waits s.waiting e ≡ 0 → IsSound s → IsModelStep s (Start_receive_from t e) Gave_none s
    none_from_done m free none k =
        let g = gives_none s k t own_row.0 own_row.1 e m free none in
        none_from_steps s k t own_row.0 own_row.1 own_row.2 e m free none
        (h.0, (h.1.0, (h.1.1.0, (h.1.1.1.0, (ap not (lt-ltb e (sender_count s.sizes) m), (ap not (free_to_take s k t e ∙ free), (ap (λ b. b && log_full (ledger_of s) 4) g, tt)))))))

    module _ (m : e < sender_count s.sizes) (free : is_free_for t e s.ends.receiving ≡ true) (wait : 1 ≤ waits s.waiting e) where
      pub some : (k : IsSound s) → any_gives (below (sender_count s.sizes)) (ledger_of s) t (found t (ledger_of s).open_ones) ≡ true
      some k = some_gives s k t own_row.0 own_row.1 e (m, free, wait)

      pub one : (k : IsSound s) → gives (ledger_of s) t (found t (ledger_of s).open_ones) e ≡ true
      one k = gives_one s k t own_row.0 own_row.1 e (m, free, wait)

      known : not (nat_lt e (sender_count s.sizes)) ≡ false
      known = ap not (lt-ltb e (sender_count s.sizes) m)

      is_free : (k : IsSound s) → not (free_to_receive t e (ledger_of s).open_ones) ≡ false
      is_free k = ap not (free_to_take s k t e ∙ free)

      pub log_is_full : log_full (ledger_of s) 4 ≡ true → (call : Call) → IsTakeCall t e call → Refuses s call why.LogFull
      log_is_full c call is k = elim is [
        | inl x ↦ subst (λ (y : Call). IsModelStep s y (Gave_refusal why.LogFull) s × IsCausedIn s y why.LogFull) (sym x) (refuse s (Start_receive t) why.LogFull refl tt (rw (h.0, h.1.0, h.1.1.0, h.1.1.1.0, some k, c) refl) k)
        | inr x ↦ subst (λ (y : Call). IsModelStep s y (Gave_refusal why.LogFull) s × IsCausedIn s y why.LogFull) (sym x) (refuse s (Start_receive_from t e) why.LogFull refl tt (rw (h.0, h.1.0, h.1.1.0, h.1.1.1.0, known, is_free k, one k, c) refl) k)
      ]

      module _ (room : log_full (ledger_of s) 4 ≡ false) where
        pub passes : (k : IsSound s) → Passes (size_of s.sizes) (ledger_of s) (Start_receive t)
        passes k = (h.0, (h.1.0, (h.1.1.0, (h.1.1.1.0, (and_right _ _ room, tt)))))

        pub passes_from : (k : IsSound s) → Passes (size_of s.sizes) (ledger_of s) (Start_receive_from t e)
        passes_from k = (h.0, (h.1.0, (h.1.1.0, (h.1.1.1.0, (known, (is_free k, (and_right _ _ room, tt)))))))

        -- a receive that memory is wanting for
        pub take_memory : (call : Call) → IsTakeCall t e call → Refuses s call why.NoMemory
        take_memory call is k = elim is [
          | inl x ↦ subst (λ (y : Call). IsModelStep s y (Gave_refusal why.NoMemory) s × IsCausedIn s y why.NoMemory) (sym x) (no_memory s (Start_receive t) running passes some k)
          | inr x ↦ subst (λ (y : Call). IsModelStep s y (Gave_refusal why.NoMemory) s × IsCausedIn s y why.NoMemory) (sym x) (no_memory s (Start_receive_from t e) running passes_from one k)
        ]

        -- a receive that meets a latched page
        pub any_refused : ((g : ℕ) → WaitsFor s t g → take_latched s g ≡ true) → Refuses s (Start_receive t) why.Latched
        any_refused h k = (refused_steps s k (Start_receive t) why.Latched (passes k, some k) refl, any_busy s.rows (behind_head (slots_now s) e) (h e (m, free, wait)))

        pub from_refused : take_latched s e ≡ true → Refuses s (Start_receive_from t e) why.Latched
        from_refused h k = (refused_steps s k (Start_receive_from t e) why.Latched (passes_from k, one k) refl, any_busy s.rows (behind_head (slots_now s) e) h)

        -- a receive that has started
        pub take_done : (new : State) (n : ℕ) (plan : Planned) → HasNothingUnderWay s t n → AreUnlatched s plan.writes → IsTakePlan s.sizes (slots_in s.sizes s.images) (under_plan n plan) e
            → new ≡ record s { rows = change_row t (row_started (under_plan n plan)) s.rows; ends = record { sending = s.ends.sending; receiving = with_held t e s.ends.receiving } }
            → (call : Call) → IsTakeCall t e call → IsSound s → IsModelStep s call (Gave_sub t n) new
        take_done new n plan ready off planned is call c k =
            let r = found_of (λ r. (r.under ≡ None) × (n ≡ r.number + 1)) (found_row t s.rows) ready in
            subst (λ (x : State). IsModelStep s call (Gave_sub t n) x) (sym is) (elim c [
              | inl x ↦ subst (λ (y : Call). IsModelStep s y (Gave_sub t n) after) (sym x) (subst (λ (m : ℕ). IsModelStep s (Start_receive t) (Gave_sub t m) after) (sym r.2.1) (take_steps s k t r.0 (under_plan n plan) e r.1 r.2.0 off r.2.1 planned wait (passes_from k)))
              | inr x ↦ subst (λ (y : Call). IsModelStep s y (Gave_sub t n) after) (sym x) (subst (λ (m : ℕ). IsModelStep s (Start_receive_from t e) (Gave_sub t m) after) (sym r.2.1) (take_from_steps s k t r.0 (under_plan n plan) e r.1 r.2.0 off r.2.1 planned wait (passes_from k)))
            ])
          where
            after : State
            after = record s { rows = change_row t (row_started (under_plan n plan)) s.rows; ends = record { sending = s.ends.sending; receiving = with_held t e s.ends.receiving } }

-- what it makes of the lists
pub take_started : (s : State) (t : Txn) (n e : ℕ) (new : State) → HasNothingUnderWay s t n → WaitsFor s t e → HasStarted s t n (Receiving e) (Chain (Receive e)) new → IsTakeStarted s t e (record { txn = t; number = n }) new
take_started s t n e new ready w b = (refl, w, record { under = under_plan n b.plan; number = refl; ready = ready; plan = take_plan s e n b.plan w.0 b.planned; lists = b.state })

-- a message waits that may be taken: its sender is one of the store
pub waits_for : {inside s : State} (t : Txn) (e : ℕ) → inside ≡ s → length inside.waiting ≡ sender_count inside.sizes → is_free_for t e inside.ends.receiving ≡ true → 1 ≤ waits inside.waiting e → WaitsFor s t e
waits_for {inside} {s} t e is senders free some = subst (λ (x : State). WaitsFor x t e) is (below, free, some) where
  below : e < sender_count inside.sizes
  below = elim (cases_lt e (sender_count inside.sizes)) [
    | inl lt ↦ lt
    | inr past ↦ let none : waits inside.waiting e ≡ 0 = get_or_past inside.waiting e 0 (omega (arith, senders, past)) in absurd (omega (arith, none, some))
  ]

-- ---- over pages that were read

module _ (s m : State) (lists : AreButRead s m) (t : Txn) where
  pub may_then : (n : ℕ) → MayTake s t n → MayTake m t n
  may_then n may = subst (λ (x : State). MayTake x t n) (sym lists) (record { ready = may.ready; log = may.log })

  pub waits_back : (e : ℕ) → WaitsFor m t e → WaitsFor s t e
  waits_back e w = subst (λ (x : State). WaitsFor x t e) lists w

  begun_back : (n : ℕ) (end : End) (task : Task) (new : State) → HasBegun m t n end task (with_images_of m new) → HasBegun s t n end task (with_images_of s new)
  begun_back n end task new h = record {
    plan = h.plan;
    asked = h.asked;
    state = ap (with_images_of s) h.state ∙ ap (λ (x : State). record x { rows = change_row t (row_started (under_plan n h.plan)) x.rows; ends = with_end t end x.ends; images = s.images }) lists;
  }

-- what one receive of those that are tried makes of the store
module _ {P L X : Type 0} (g : page_device.Ghosts P) (old mid new : OpenStore P L) (t : Txn) (n : ℕ) (read : HasReadSoFar g old mid) (answer : Result X Refusal) where
  pub take_tried : (e : ℕ) → WaitsFor mid.state t e → HasTried g mid (HasBegun mid.state t n (Receiving e) (Chain (Receive e))) answer new → HasTried g old (HasBegunTake old.state t n) answer new
  take_tried e w h = tried_then g old mid new (HasBegun mid.state t n (Receiving e) (Chain (Receive e))) (HasBegunTake old.state t n) read
      (λ s b. record { sender = e; waits = waits_back old.state mid.state read.0.lists t e w; begun = begun_back old.state mid.state read.0.lists t n (Receiving e) (Chain (Receive e)) s b }) answer h

  pub takes_tried : HasTried g mid (HasBegunTake mid.state t n) answer new → HasTried g old (HasBegunTake old.state t n) answer new
  takes_tried h = tried_then g old mid new (HasBegunTake mid.state t n) (HasBegunTake old.state t n) read
      (λ s b. record { sender = b.sender; waits = waits_back old.state mid.state read.0.lists t b.sender b.waits; begun = begun_back old.state mid.state read.0.lists t n (Receiving b.sender) (Chain (Receive b.sender)) s b.begun }) answer h
