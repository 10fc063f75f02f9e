-- What a send answers, from what its tests found.
use Rattle.std.proofs.Common.{◌≡◌, ℕ, ◌+◌, ◌*◌, ◌<◌, ◌≤◌, ◌||◌, List, length, refl, sym, option_map, ◌∙◌, ap, subst, Bool, true, false, not, nat_eq, nat_lt, Option, Some, None, arith}
use Rattle.std.proofs.lemmas.Bool.{false_from_ne_true, eqb-true, eq-eqb, lt-ltb, le-ltb}
use Rattle.rq_model.specs.declared.txn.Txn.{Txn}
use Rattle.rq_model.specs.declared.refusal.Refusal.TheVariants as why
use Rattle.rq_model.specs.Vocabulary.{is_some, message_of}
use Rattle.rq_model.specs.History.{Call}
use Rattle.rq_model.specs.History.Call.{Start_send}
use Rattle.rq_model.specs.Ledger.{found, ended_in}
use Rattle.rq_model.specs.Tests.{Passes, is_busy, NoneHolds, free_to_send, has_closed, log_full, cells_in_use, ready_tests}
use Rattle.rq_page.specs.declared.directory.Directory.{Directory}
use Rattle.rq_page.specs.Sizes.{sender_count, cell_count, directory_at}
use Rattle.rq_page.specs.Slots.Slot.{Sender}
use Rattle.rq_views.specs.Stored.{slots_in}
use Rattle.rq_txn.proofs.Finding.{found_change_same}
use Rattle.rq_level.specs.declared.writes.SlotWrite.{SlotWrite}
use Rattle.rq_txn.specs.Rows.{Row, Under, found_row, change_row, row_started}
use Rattle.rq_groups.specs.Ends.{with_held, is_free_for}
use Rattle.rq_store.specs.State.{State, ledger_of, size_of, job_under}
use Rattle.rq_store.specs.Plans.{IsSendPlan}
use Rattle.rq_sound.specs.Sound.{IsSound}
use Rattle.rq_store.proofs.RowLists.{found_in}
use Rattle.rq_sound.specs.ModelSteps.{IsModelStep}
use Rattle.rq_sound.proofs.FreeEnds.{free_is}
use Rattle.rq_sound.proofs.Asked.{cells_are}
use Rattle.rq_sound.specs.Plans.{AreUnlatched}
use Rattle.rq_sound.proofs.Contracts.{answered}
use Rattle.rq_sound.proofs.Groups.{slots_tell}
use Rattle.rq_engine.proofs.Latches.{send_busy}
use Rattle.rq_engine.proofs.Standing.{refused_steps, start_steps}
use Rattle.rq_model.specs.Replay.Reply.{Gave_sub}
use Rattle.rq_engine.specs.Plans.{Planned, under_plan}
use Rattle.rq_engine.specs.Answers.{Refuses, HasNothingUnderWay, OnUnder}
use Rattle.rq_model.specs.Legal.{OnFound}
use Rattle.rq_engine.specs.Invariant.{IsConsistent, IsUnderConsistent, end_bytes}
use Rattle.rq_engine.specs.Sends.{FitsUnder, HasRoom, SendIsLatched}
use Rattle.rq_engine.proofs.Keeping.{kept_started}
use Rattle.rq_engine.proofs.Refusals.{not_full, refuse, found_of, on_found, found_some, found_none}

-- what is closed by the slots is closed by the ledger, for whoever may send
pub closed_here : (s : State) (k : IsSound s) (t : Txn) (n g : ℕ) (d : Directory) → HasNothingUnderWay s t n → g < sender_count s.sizes → is_free_for t g s.ends.sending ≡ true → slots_in s.sizes s.images (directory_at g) ≡ Sender g d
    → (ended_in (ledger_of s).committed g || has_closed g (found t (ledger_of s).open_ones)) ≡ d.closed
closed_here s k t n g d ready below free at =
    let r = found_of (λ r. (r.under ≡ None) × (n ≡ r.number + 1)) (found_row t s.rows) ready in
    let i = found_in t s.rows r.0 r.1 in
    let own : is_free_for r.0.txn g s.ends.sending ≡ true = ap (λ (q : Txn). is_free_for q g s.ends.sending) i.1 ∙ free in
    let at_row : found_row r.0.txn s.rows ≡ Some r.0 = ap (λ (q : Txn). found_row q s.rows) i.1 ∙ r.1 in
    ap (λ o. ended_in (ledger_of s).committed g || has_closed g o) (found_some s t r.0 r.1) ∙ sym (answered.closed s g r.0 k i.0 own)
    ∙ slots_tell.flag s r.0 g d k (record { at_row = at_row; idle = r.2.0 }) below own at

no_job : (o : Option Under) → is_some (job_under o) ≡ false → o ≡ None
no_job None e = refl
no_job (Some u) e = cc

-- who passes the tests of a transaction is ready
pub ready_row : (s : State) (t : Txn) → NoneHolds (ready_tests (ledger_of s) t false) → (n : ℕ) × HasNothingUnderWay s t n
ready_row s t h = at (found_row t s.rows) refl where
  at : (o : Option Row) → found_row t s.rows ≡ o → (n : ℕ) × HasNothingUnderWay s t n
  at None e = let bad : true ≡ false = sym (ap (λ o. not (is_some o)) (found_none s t e)) ∙ h.1.0 in cc
  at (Some r) e = (r.number + 1, on_found (λ q. (q.under ≡ None) × (r.number + 1 ≡ q.number + 1)) (found_row t s.rows) r e (no_job r.under (sym (ap is_busy (found_some s t r e)) ∙ h.1.1.1.0), refl))

module _ (s : State) (t : Txn) (e tag : ℕ) (body : List ℕ) (h : NoneHolds (ready_tests (ledger_of s) t false)) (below : e < sender_count s.sizes) (short : length body ≤ 216) where
  abbrev call : Call
  call = Start_send t (message_of e tag body)

  known : not (nat_lt e (sender_count s.sizes)) ≡ false
  known = ap not (lt-ltb e (sender_count s.sizes) below)

  fits : nat_lt 216 (length body) ≡ false
  fits = le-ltb 216 (length body) short

  pub busy : is_free_for t e s.ends.sending ≡ false → Refuses s call why.SenderBusy
  busy n k = refuse s call why.SenderBusy refl tt (rw (h.0, h.1.0, h.1.1.0, h.1.1.1.0, known, fits, free_is s k t e, n) refl) k

  module _ (free : is_free_for t e s.ends.sending ≡ true) where
    closed_by : (k : IsSound s) (d : Directory) → slots_in s.sizes s.images (directory_at e) ≡ Sender e d → (ended_in (ledger_of s).committed e || has_closed e (found t (ledger_of s).open_ones)) ≡ d.closed
    closed_by k d at = let r = ready_row s t h in closed_here s k t r.0 e d r.1 below free at

    free_by : (k : IsSound s) → not (free_to_send t e (ledger_of s).open_ones) ≡ false
    free_by k = ap not (free_is s k t e ∙ free)

    pub closed : (d : Directory) → slots_in s.sizes s.images (directory_at e) ≡ Sender e d → d.closed ≡ true → Refuses s call why.Closed
    closed d at c k = refuse s call why.Closed refl tt (rw (h.0, h.1.0, h.1.1.0, h.1.1.1.0, known, fits, free_by k, closed_by k d at, c) refl) k

    module _ (d : Directory) (at : slots_in s.sizes s.images (directory_at e) ≡ Sender e d) (not_closed : d.closed ≡ false) where
      pub full : cell_count s.sizes ≤ s.cells_in_use → Refuses s call why.Full
      full c k =
          let b = k.counted.bound in
          let eq : nat_eq (cells_in_use (size_of s.sizes) (ledger_of s)) (cell_count s.sizes) ≡ true = ap (λ n. nat_eq n (cell_count s.sizes)) (cells_are s k) ∙ eq-eqb s.cells_in_use (cell_count s.sizes) (omega (arith, b, c)) in
          refuse s call why.Full refl tt (rw (h.0, h.1.0, h.1.1.0, h.1.1.1.0, known, fits, free_by k, closed_by k d at, not_closed, eq) refl) k

      module _ (room : s.cells_in_use < cell_count s.sizes) where
        some_room : (k : IsSound s) → nat_eq (cells_in_use (size_of s.sizes) (ledger_of s)) (cell_count s.sizes) ≡ false
        some_room k = ap (λ n. nat_eq n (cell_count s.sizes)) (cells_are s k) ∙ false_from_ne_true (nat_eq s.cells_in_use (cell_count s.sizes)) (λ y. let e = eqb-true s.cells_in_use (cell_count s.sizes) y in omega (arith, e, room))

        pub log_is_full : log_full (ledger_of s) 4 ≡ true → Refuses s call why.LogFull
        log_is_full c k = refuse s call why.LogFull refl tt (rw (h.0, h.1.0, h.1.1.0, h.1.1.1.0, known, fits, free_by k, closed_by k d at, not_closed, some_room k, c) refl) k

        pub passes : log_full (ledger_of s) 4 ≡ false → IsSound s → Passes (size_of s.sizes) (ledger_of s) call
        passes c k = (h.0, (h.1.0, (h.1.1.0, (h.1.1.1.0, (known, (fits, (free_by k, (closed_by k d at ∙ not_closed, (some_room k, (c, tt))))))))))

-- where the log is not full for so many records, it has room for a plan of no more
pub has_room : (s : State) (ws : List SlotWrite) (more : ℕ) → log_full (ledger_of s) more ≡ false → length ws + 1 ≤ more → HasRoom s ws
has_room s ws more full few = let left = not_full s more full in omega (arith, left, few)

-- the operation that begins is kept as every other
pub start_kept : (s : State) (f : Bool) (o res room : ℕ) (t : Txn) (u : Under) → IsConsistent s f o res → HasNothingUnderWay s t u.number → HasRoom s u.writes → FitsUnder s.sizes u → room ≡ 546 * length u.writes + end_bytes u.aim
    → IsConsistent (record s { rows = change_row t (row_started u) s.rows }) f (o + (length u.writes + 1)) (res + room)
start_kept s f o res room t u k h left fits room_is =
    let r = found_of (λ r. (r.under ≡ None) × (u.number ≡ r.number + 1)) (found_row t s.rows) h in
    let number = r.2.1 in
    let made = fits.made in
    let under : IsUnderConsistent s.sizes u = record { number = omega (arith, number); made = omega (arith, made); few = fits.few; slots = fits.slots; sender = fits.sender; fits = fits.fits } in
    let a = kept_started s f o res k t r.0 r.1 u s.ends s.cells_in_use r.2.0 under number made (omega (arith, left)) in
    let same : res + (546 * length u.writes + end_bytes u.aim) ≡ res + room = omega (arith, room_is) in
    subst (λ (m : ℕ). IsConsistent (record s { rows = change_row t (row_started u) s.rows }) f (o + (length u.writes + 1)) m) same a

-- a send that meets a latched page
pub send_refused : (s : State) (t : Txn) (g tag : ℕ) (body : List ℕ) → (IsSound s → Passes (size_of s.sizes) (ledger_of s) (Start_send t (message_of g tag body))) → s.cells_in_use < cell_count s.sizes → SendIsLatched s g
    → Refuses s (Start_send t (message_of g tag body)) why.Latched
send_refused s t g tag body may room latched k = (refused_steps s k (Start_send t (message_of g tag body)) why.Latched (may k, refl) refl, send_busy s k g room latched)

-- a send that has started
pub send_done : (s new : State) (t : Txn) (n e tag : ℕ) (body : List ℕ) (plan : Planned) → HasNothingUnderWay s t n → NoneHolds (ready_tests (ledger_of s) t false) → AreUnlatched s plan.writes
    → IsSendPlan s.sizes (slots_in s.sizes s.images) (under_plan n plan) e tag body → is_free_for t e s.ends.sending ≡ true → s.cells_in_use < cell_count s.sizes → (IsSound s → Passes (size_of s.sizes) (ledger_of s) (Start_send t (message_of e tag body)))
    → new ≡ record s { rows = change_row t (row_started (under_plan n plan)) s.rows; ends = record { sending = with_held t e s.ends.sending; receiving = s.ends.receiving }; cells_in_use = s.cells_in_use + 1 }
    → IsSound s → IsModelStep s (Start_send t (message_of e tag body)) (Gave_sub t n) new
send_done s new t n e tag body plan ready h off p free room may is k =
    let r = found_of (λ r. (r.under ≡ None) × (n ≡ r.number + 1)) (found_row t s.rows) ready in
    let a = start_steps s k t r.0 (under_plan n plan) e tag body r.1 r.2.0 off r.2.1 p (may k) in
    let c = subst (λ (m : ℕ). IsModelStep s (Start_send t (message_of e tag body)) (Gave_sub t m) (record s { rows = change_row t (row_started (under_plan n plan)) s.rows; ends = record { sending = with_held t e s.ends.sending; receiving = s.ends.receiving }; cells_in_use = s.cells_in_use + 1 })) (sym r.2.1) a in
    subst (λ (x : State). IsModelStep s (Start_send t (message_of e tag body)) (Gave_sub t n) x) (sym is) c

-- what was planned is under way
pub going_started : (s : State) (rows : List Row) (t : Txn) (n : ℕ) (plan : Planned) (P : Row → Under → Type 0) → HasNothingUnderWay s t n → rows ≡ change_row t (row_started (under_plan n plan)) s.rows
    → ((r : Row) → P r (under_plan n plan)) → OnFound (found_row t rows) (λ r. OnUnder n P r r.under)
going_started s rows t n plan P ready is holds =
    let r = found_of (λ r. (r.under ≡ None) × (n ≡ r.number + 1)) (found_row t s.rows) ready in
    let found : found_row t rows ≡ Some (row_started (under_plan n plan) r.0) =
    ap (found_row t) is ∙ found_change_same t (row_started (under_plan n plan)) s.rows (λ q. refl) ∙ ap (option_map (row_started (under_plan n plan))) r.1 in
    on_found (λ q. OnUnder n P q q.under) (found_row t rows) (row_started (under_plan n plan) r.0) found (refl, holds (row_started (under_plan n plan) r.0))
