-- A log at its bound.
use Rattle.std.proofs.lemmas.List.{append-nil}
use Rattle.std.proofs.Common.{◌≡◌, ◌⊎◌, ⊎_elim, ℕ, zero, suc, ◌+◌, ◌-◌, ◌^◌, ◌≤◌, ◌<◌, Bool, false, true, not, cond, List, [], ◌∷◌, length, drop, Option, Some, None, refl, sym, ap, ◌∙◌, subst, inl, inr, arith}
use Rattle.std.specs.List.{filter, sum_by}
use Rattle.std.proofs.lemmas.Bool.{lt-ltb, le-ltb}
use Rattle.rq_restart.proofs.Pasts.{undone_on, work_on}
use Rattle.rq_restart.specs.Past.{IsPast}
use Rattle.rq_engine.specs.Earlier.{rebased}
use Rattle.rq_model.specs.declared.record.Record.{Record}
use Rattle.rq_model.specs.declared.record.Record.TheVariants as records
use Rattle.rq_model.specs.declared.refusal.Refusal.{Refusal}
use Rattle.rq_model.specs.declared.refusal.Refusal.TheVariants as why
use Rattle.rq_model.specs.declared.txn.Txn.{Txn}
use Rattle.rq_model.specs.Commits.{committed_of}
use Rattle.rq_model.specs.Content.{has_end}
use Rattle.rq_model.specs.History.{Call}
use Rattle.rq_model.specs.History.Call.{Commit, Start_close, Start_send}
use Rattle.rq_model.specs.Incarnations.{incarnation_of}
use Rattle.rq_model.specs.Legal.{Legal}
use Rattle.rq_model.specs.History.Entry.{Committed, Started}
use Rattle.rq_model.specs.History.Job.{Ending, Sending}
use Rattle.rq_model.specs.Replay.{Number}
use Rattle.rq_model.specs.Replay.Reply.{Gave_commit, Gave_refusal}
use Rattle.rq_model.specs.Tests.{NoneHolds, Passes, first_of, log_full, owed, ready_tests, tests}
use Rattle.rq_model.specs.Unended.{any_record, lost, operation_ended, operations, unfinished, workers}
use Rattle.rq_model.proofs.Lists.{same_self}
use Rattle.rq_disk.specs.Device.{Images}
use Rattle.rq_disk.specs.declared.mem_log.MemLog.{MemLog}
use Rattle.rq_disk.specs.declared.mem_pages.MemPages.{MemPages}
use Rattle.rq_log.specs.Spelled.{AreSpelled, spelled}
use Rattle.rq_page.specs.Sizes.{Sizes, sender_count}
use Rattle.rq_txn.specs.declared.Finished.{Finished}
use Rattle.rq_groups.specs.Waiting.{waits}
use Rattle.rq_engine.specs.Lists.{done_by}
use Rattle.rq_engine.specs.Moves.{with_sends, with_tags}
use Rattle.rq_engine.specs.declared.event.CommitNo.{CommitNo}
use Rattle.rq_store.specs.Settled.{takes_one}
use Rattle.rq_txn.specs.Rows.{found_row, fresh_row, finished_of}
use Rattle.rq_store.specs.Fitting.{AllFit, FitsLog, image_in, left_by}
use Rattle.rq_sound.specs.Sound.{IsSound}
use Rattle.rq_store.specs.State.{State, ledger_of, size_of}
use Rattle.rq_sound.specs.ModelSteps.{IsModelStep}
use Rattle.rq_store.specs.Whole.{IsWhole}
use Rattle.rq_store.proofs.Based.{unbased}
use Rattle.rq_store.proofs.Cutting.{fits_log_longer}
use Rattle.rq_store.proofs.Formatting.{formatted_fits}
use Rattle.rq_store.proofs.Opening.{restarted_whole}
use Rattle.rq_groups.specs.Sent.{sent_count, sent_tag}
use Rattle.rq_sound.proofs.Contracts.{calls_keep}
use Rattle.rq_sound.proofs.DeedSteps.{deed_steps}
use Rattle.rq_sound.proofs.Opened.{opened_sound}
use Rattle.rq_store.proofs.WorkedFits.{whole_empty}
use Rattle.rq_engine.specs.Says.{commit_number}
use Rattle.rq_engine.specs.declared.event.Event.TheVariants as event
use Rattle.rq_engine.specs.declared.event.Reply.TheVariants as reply
use Rattle.rq_engine.proofs.Crashing.{fit_kept, runs_through_cuts}
use Rattle.rq_store.specs.Opening.{next_restart}
use Rattle.rq_engine.specs.Crash.{AreFit, RunsThroughCuts}
use Rattle.rq_engine.specs.Earlier.{on, rebased, rebased_one}
use Rattle.rq_engine.proofs.Owned.{steps_own}
use Rattle.rq_engine.proofs.Refusals.{refuse, refuse_full}
use Rattle.rq_engine.proofs.Standing.{close_steps, start_steps}
use Rattle.rq_analysis.specs.OpenWorkView.{OpenWorkView, open_work_of}
use Rattle.rq_analysis.proofs.Undos.{nothing_undone, undoing_none}
use Rattle.rq_restart.specs.Aborting.{RepeatedFrom}
use Rattle.rq_restart.specs.Checked.{IsEnded, IsReadAndRedone}
use Rattle.rq_chain_check.specs.Links.{AreLinked}
use Rattle.rq_chain_check.proofs.Sound.{sound_linked}
use Rattle.rq_restart.specs.Repeating.{Repeats, slots_on}
use Rattle.rq_analysis.specs.Pages.{IsUndone}
use Rattle.rq_restart.specs.RolledBack.{IsRolledBack}
use Rattle.rq_restart.specs.Restarting.{IsBegunFrom, LeavesSome, StopsOver, WereRead}
use Rattle.rq_log.proofs.Moments.{weaker}
use Rattle.rq_restart.proofs.Aborts.{aborting_none, behind_none, active_lost}
use Rattle.rq_analysis.specs.Recovered.IsRecovered.{NoneLost}
use Rattle.rq_analysis.specs.Recovered.IsRecovering.{Undoing}
use Rattle.rq_log.proofs.Runs.{ends_all}
use Rattle.rq_restart.proofs.Parsing.{front_within}
use Rattle.rq_restart.proofs.Repeated.{follow_marked, repeated_read}
use Rattle.rq_model.specs.Bases.{HasNoBase, standing}
use Rattle.rq_core.specs.Devices.{mem_log, mem_pages}
use Rattle.rq_core.specs.Worked.{hello}
use Rattle.rq_cases.specs.Aborts.{close_turned, turned, undone}
use Rattle.rq_cases.specs.Applied.{Makes, MeetsAll}
use Rattle.rq_cases.specs.Bounds.{BoundsAreJudged, Closes, Commits, IsFullForClose, IsFullForSend, Sends, just_opened, one_begun, one_committed, only_one, restarts}
use Rattle.rq_cases.specs.Closes.{close_under}
use Rattle.rq_cases.specs.Opened.{over}
use Rattle.rq_cases.specs.Openings.{Checked, IsRefused}
use Rattle.rq_cases.specs.Restarting.{read_pages}
use Rattle.rq_cases.specs.Run.{send_under}
use Rattle.rq_cases.specs.Store.{formatted_pages, sizes}
use Rattle.rq_cases.specs.Worlds.{Hold}
use Rattle.rq_cases.proofs.Closes.{close_plan}
use Rattle.rq_cases.proofs.Bytes.{the_log}
use Rattle.rq_cases.proofs.Held.{leaves_beginning, log_seen, pages_fit, pages_now, same_beginning}
use Rattle.rq_cases.proofs.Openings.{formatted_are, only_read}
use Rattle.rq_cases.proofs.Pages.{are_formatted, range}
use Rattle.rq_cases.proofs.Restarting.{counted_read, pages_seen_are}
use Rattle.rq_model.specs.Bases.{gone as gone_of}
use Rattle.rq_model.proofs.Bases.{none_gone}
use Rattle.rq_cases.proofs.Running.{first_sound, send_plan}

-- what such a log is of
incarnation_is : (n : ℕ) → incarnation_of (restarts n) ≡ n
incarnation_is zero = refl
incarnation_is (suc n) = (let e = incarnation_is n in omega (arith, e))

-- none of them is unknown
one_known : (e : List Record) (i k : ℕ) (rest : List Record) → i ≡ suc k → rebased_one e (records.Restart i) rest ≡ records.Restart i ∷ rest
one_known e i k rest is = subst (λ (j : ℕ). rebased_one e (records.Restart j) rest ≡ records.Restart j ∷ rest) (sym is) refl

same_restarts : (e : List Record) (n : ℕ) → rebased e (restarts n) ≡ restarts n
same_restarts e zero = refl
same_restarts e (suc n) =
    let i = incarnation_of (restarts n) in
    one_known e (i + 1) i (rebased e (restarts n)) (omega arith) ∙ ap (λ (l : List Record). next_restart (restarts n) ∷ l) (same_restarts e n)

length_is : (n : ℕ) → length (restarts n) ≡ n
length_is zero = refl
length_is (suc n) = (let e = length_is n in omega (arith, e))

all_new : (n : ℕ) → drop n (restarts n) ≡ []
all_new zero = refl
all_new (suc n) = all_new n

restarts_plain : (n : ℕ) → HasNoBase (restarts n)
restarts_plain zero = tt
restarts_plain (suc n) = (refl, restarts_plain n)

are_spelled : (n : ℕ) → n < 2 ^ 64 → AreSpelled (restarts n)
are_spelled zero low = tt
are_spelled (suc n) low = (let e = incarnation_is n in ((omega arith, omega (arith, e, low)), are_spelled n (omega (arith, low))))

none_committed : (n : ℕ) → committed_of (restarts n) ≡ []
none_committed zero = refl
none_committed (suc n) = none_committed n

no_operations : (n : ℕ) → operations (restarts n) ≡ []
no_operations zero = refl
no_operations (suc n) = no_operations n

no_workers : (n : ℕ) → workers (restarts n) ≡ []
no_workers zero = refl
no_workers (suc n) = no_workers n

none_unfinished : (n : ℕ) → unfinished (restarts n) ≡ []
none_unfinished n = ap (filter (λ (p : Txn × ℕ). not (any_record (operation_ended p.0 p.1) (restarts n)))) (no_operations n)

none_lost : (n : ℕ) → lost (restarts n) ≡ []
none_lost n = ap (filter (λ (t : Txn). not (has_end (restarts n) t))) (no_workers n)

whole : (n : ℕ) → IsWhole sizes (restarts n)
whole zero = whole_empty sizes
whole (suc n) = restarted_whole sizes (restarts n) (whole n) (none_unfinished n) (none_lost n)

same_slots : (n a : ℕ) → (left_by sizes (restarts n)).slots a ≡ (left_by sizes []).slots a
same_slots zero a = refl
same_slots (suc n) a = same_slots n a

fit : (n : ℕ) → FitsLog sizes (image_in formatted_pages) (restarts n)
fit n = fits_log_longer sizes (image_in formatted_pages) [] (restarts n) (n, all_new n) (formatted_fits sizes (image_in formatted_pages) range are_formatted)

-- the store over it is sound
opened_one : (n : ℕ) → IsSound (just_opened n)
opened_one n =
    opened_sound sizes formatted_pages (restarts n) range (whole n) (none_unfinished n) (none_lost n)
    (λ a. first_sound.pages a ∙ sym (same_slots n a)) (fit n) (unbased sizes (restarts n) (image_in formatted_pages) (restarts_plain n) (fit n))

begun_sound : (n : ℕ) → IsSound (one_begun n)
begun_sound n = calls_keep.begins (just_opened n) (opened_one n)

-- tests that all pass tell no refusal
pub none_first : (tests : List (Bool × Refusal)) → NoneHolds tests → first_of tests ≡ None
none_first [] h = refl
none_first (t ∷ ts) h = rw h.0 (none_first ts h.1)

clash : true ≡ false → ⊥
clash e = cc e

module _ (n : ℕ) where
  abbrev s : State
  s = one_begun n

  abbrev t : Txn
  t = only_one n

  ready : NoneHolds (ready_tests (ledger_of s) t false)
  ready = rw (same_self t) (refl, (refl, (refl, (refl, tt))))

  commit_full : 2 ^ 50 ≤ n + 1 → log_full (ledger_of s) 1 ≡ true
  commit_full le = (let e = length_is n in lt-ltb _ _ (omega (arith, e, le)))

  commit_free : n + 2 ≤ 2 ^ 50 → log_full (ledger_of s) 1 ≡ false
  commit_free le = (let e = length_is n in le-ltb _ _ (omega (arith, e, le)))

  send_full : 2 ^ 50 < n + 5 → log_full (ledger_of s) 4 ≡ true
  send_full le = (let e = length_is n in lt-ltb _ _ (omega (arith, e, le)))

  send_free : n + 5 ≤ 2 ^ 50 → log_full (ledger_of s) 4 ≡ false
  send_free le = (let e = length_is n in le-ltb _ _ (omega (arith, e, le)))

  close_full : 2 ^ 50 < n + 3 → log_full (ledger_of s) 2 ≡ true
  close_full le = (let e = length_is n in lt-ltb _ _ (omega (arith, e, le)))

  close_free : n + 3 ≤ 2 ^ 50 → log_full (ledger_of s) 2 ≡ false
  close_free le = (let e = length_is n in le-ltb _ _ (omega (arith, e, le)))

  commit_passes : n + 2 ≤ 2 ^ 50 → Passes (size_of sizes) (ledger_of s) (Commit t)
  commit_passes le = (ready.0, (ready.1.0, (ready.1.1.0, (ready.1.1.1.0, (commit_free le, tt)))))

  send_passes : n + 5 ≤ 2 ^ 50 → Passes (size_of sizes) (ledger_of s) (Start_send t hello)
  send_passes le =
      let full = send_free le in
      rw (same_self t, none_committed n) (refl, (refl, (refl, (refl, (refl, (refl, (refl, (refl, (refl, (full, tt))))))))))

  close_passes : n + 3 ≤ 2 ^ 50 → Passes (size_of sizes) (ledger_of s) (Start_close t 0)
  close_passes le =
      let full = close_free le in
      rw (same_self t, none_committed n) (refl, (refl, (refl, (refl, (refl, (refl, (refl, (full, tt))))))))

  at_row : found_row t s.rows ≡ Some (fresh_row t)
  at_row = rw (same_self t) refl

  commits : n + 2 ≤ 2 ^ 50 → (new : State) × Commits n (record { txn = t; lsn = length s.records + 1 }) new
  commits le = (_, deed_steps.commits s (fresh_row t) s.cells_in_use s.waiting s.sent (begun_sound n) refl (record { idle = record { at_row = at_row; idle = refl }; forward = refl; freed = omega arith; waits = λ g low. omega arith; counts = λ g low. omega arith; tags = λ g low. refl }) (commit_free le))

  sends : n + 5 ≤ 2 ^ 50 → (new : State) × Sends n 1 new
  sends le = (_, start_steps s (begun_sound n) t (fresh_row t) (send_under 0) 0 7 (104 ∷ []) at_row refl (λ page of. refl) refl send_plan (send_passes le))

  send_refused : 2 ^ 50 < n + 5 → IsFullForSend n s
  send_refused le =
      let full = send_full le in
      (refuse s (Start_send t hello) why.LogFull refl tt (rw (same_self t, none_committed n, full) refl) (begun_sound n)).0

  closes : n + 3 ≤ 2 ^ 50 → (new : State) × Closes n 1 new
  closes le = (_, close_steps s (begun_sound n) t (fresh_row t) (close_under 0) 0 at_row refl (λ page of. refl) refl close_plan (close_passes le))

  close_refused : 2 ^ 50 < n + 3 → IsFullForClose n s
  close_refused le =
      let full = close_full le in
      (refuse s (Start_close t 0) why.LogFull refl tt (rw (same_self t, none_committed n, full) refl) (begun_sound n)).0

  -- the whole call
  module _ (pages : MemPages) (log : MemLog) (h : Hold pages formatted_pages log (restarts (suc n))) where
    meets : MeetsAll (over s pages log)
    meets = record {
      honest = (tt, tt);
      sound = begun_sound n;
      fit =
          let none : 0 ≡ length s.records - length s.records = omega arith in
          subst (λ (k : ℕ). AllFit (mem_pages.may_be pages) sizes (drop k s.records)) none
          (pages_fit pages h.0 s.records (suc n, all_new (suc n)) (restarts_plain (suc n)));
    }

    none_done : done_by s t ≡ []
    none_done = ap finished_of at_row

    -- no record of it is unknown
    same_begun : (e : List Record) → on e s ≡ s
    same_begun e = ap (λ (l : List Record). record s { records = l }) (same_restarts e (suc n))

    begun_over : (e : List Record) (P : State → Type 0) → P s → P (on e s)
    begun_over e P h = subst P (sym (same_begun e)) h

    committed_over : (e : List Record) (P : State → State → Type 0) → P s (one_committed n) → P (on e s) (on e (one_committed n))
    committed_over e P h =
        let c = one_committed n in
        let same : on e c ≡ c = ap (λ (l : List Record). record c { records = records.Commit t ∷ l }) (same_restarts e (suc n)) in
        begun_over e (λ a. P a (on e c)) (subst (P s) (sym same) h)

    commit_whole : (number : CommitNo) → n + 2 ≤ 2 ^ 50 → number.txn ≡ t → number.lsn ≡ n + 2
        → Makes (over s pages log) (event.Commit t) (reply.Committed number) (over (one_committed n) pages log)
    commit_whole number le of at =
        let length_of = length_is n in
        let none_away : 0 < s.forced → gone_of s.records < s.forced = λ some. (let none = none_gone s.records (restarts_plain (suc n)) in omega (arith, none, some)) in
        let told : AreSpelled s.records = are_spelled (suc n) (omega (arith, le)) in
        let here = same_beginning log (restarts (suc n)) h.1 s.records (restarts_plain (suc n)) s.forced 0 (omega arith) refl in
        let next : number.lsn ≡ length s.records + 1 = omega (arith, at, length_of) in
        let is : commit_number number ≡ record { txn = t; lsn = length s.records + 1 } = (λ i. record { txn = of i; lsn = next i }) in
        let taken : sum_by takes_one (done_by s t) ≡ 0 = ap (sum_by takes_one) none_done in
        let ws : (g : ℕ) → waits (with_sends (done_by s t) s.waiting) g ≡ waits s.waiting g =
        (λ g. ap (λ (fs : List Finished). waits (with_sends fs s.waiting) g) none_done) in
        let counted : (g : ℕ) → sent_count (with_tags (sender_count s.sizes) (done_by s t) s.sent) g ≡ sent_count s.sent g =
        (λ g. ap (λ (fs : List Finished). sent_count (with_tags (sender_count s.sizes) fs s.sent) g) none_done) in
        let tagged : (g : ℕ) → sent_tag (with_tags (sender_count s.sizes) (done_by s t) s.sent) g ≡ sent_tag s.sent g =
        (λ g. ap (λ (fs : List Finished). sent_tag (with_tags (sender_count s.sizes) fs s.sent) g) none_done) in
        let made : Commits n (record { txn = t; lsn = length s.records + 1 }) (one_committed n) =
        deed_steps.commits s (fresh_row t) (one_committed n).cells_in_use (one_committed n).waiting (one_committed n).sent (begun_sound n) refl
        (record { idle = record { at_row = at_row; idle = refl }; forward = refl; freed = omega (arith, taken); waits = λ g low. (let e = ws g in omega (arith, e)); counts = λ g low. (let e = counted g in omega (arith, e)); tags = λ g low. tagged g })
        (commit_free le) in
        let steps : Commits n (commit_number number) (one_committed n) =
        subst (λ (x : Number). Commits n x (one_committed n)) (sym is) made in
        record {
          steps = λ honest earlier long k. committed_over earlier (λ a b. IsModelStep a (Commit t) (Gave_commit (commit_number number)) b) steps;
          cause = λ honest earlier long k. tt;
          latched = λ earlier long k. tt;
          frames = tt;
          frame_count = refl;
          sizes = refl;
          unknown = refl;
          replacing = refl;
          checkpoint = tt;
          failed = (λ e. cc e, λ e. cc e);
          refused = tt;
          lists = record { txn = of; lsn = next; ready = (1, rw (same_self t) (refl, refl)); lists = refl };
          begun = tt;
          changes = refl;
          starts = λ true_pages. tt;
          writes = tt;
          pages = refl;
          log = refl;
          honest = λ honest. honest;
          any_moment = λ none honest. here;
          fit = λ honest whole earlier long k.
              committed_over earlier (λ a b. AreFit mem_pages (over a pages log) → AreFit mem_pages (over b pages log))
              (λ fits. fit_kept mem_pages mem_log pages_now (over s pages log) (over (one_committed n) pages log) (begun_sound n) fits (told, none_away)
              (event.Commit t) (reply.Committed number) tt (Commit t) _ refl refl steps tt refl);
          crash = λ none honest earlier long k fits.
              committed_over earlier (λ a b. AreFit mem_pages (over a pages log) → RunsThroughCuts mem_pages mem_log (over a pages log) (over b pages log))
              (λ fits. runs_through_cuts mem_pages mem_log pages_now (over s pages log) (over (one_committed n) pages log) (begun_sound n) fits (told, none_away)
              (event.Commit t) (reply.Committed number) tt tt refl
              (leaves_beginning log (restarts (suc n)) h.1 s.records (restarts_plain (suc n)) s.forced 0 (omega arith) refl) here) fits;
        }

    refused_whole : 2 ^ 50 ≤ n + 1 → n + 1 < 2 ^ 64 → Makes (over s pages log) (event.Commit t) (reply.Refused why.LogFull) (over s pages log)
    refused_whole le low =
        let none_away : 0 < s.forced → gone_of s.records < s.forced = λ some. (let none = none_gone s.records (restarts_plain (suc n)) in omega (arith, none, some)) in
        let told : AreSpelled s.records = are_spelled (suc n) (omega (arith, low)) in
        let here = same_beginning log (restarts (suc n)) h.1 s.records (restarts_plain (suc n)) s.forced 0 (omega arith) refl in
        record {
          steps = λ honest earlier long k.
              begun_over earlier (λ a. IsModelStep a (Commit t) (Gave_refusal why.LogFull) a) (refuse_full s t ready (commit_full le) (begun_sound n)).0;
          cause = λ honest earlier long k. tt;
          latched = λ earlier long k. tt;
          frames = tt;
          frame_count = refl;
          sizes = refl;
          unknown = refl;
          replacing = refl;
          checkpoint = tt;
          failed = (λ e. cc e, λ e. cc e);
          refused = refl;
          lists = tt;
          begun = tt;
          changes = refl;
          starts = λ true_pages. tt;
          writes = tt;
          pages = refl;
          log = refl;
          honest = λ honest. honest;
          any_moment = λ none honest. here;
          fit = λ honest whole earlier long k fits. fits;
          crash = λ none honest earlier long k fits.
              begun_over earlier (λ a. AreFit mem_pages (over a pages log) → RunsThroughCuts mem_pages mem_log (over a pages log) (over a pages log))
              (λ fits. runs_through_cuts mem_pages mem_log pages_now (over s pages log) (over s pages log) (begun_sound n) fits (told, none_away)
              (event.Commit t) (reply.Refused why.LogFull) tt tt refl
              (leaves_beginning log (restarts (suc n)) h.1 s.records (restarts_plain (suc n)) s.forced 0 (omega arith) refl) here) fits;
        }

-- what a refusal tells of the tests
full_says : (n : ℕ) (c : Call) (new : State) → IsModelStep (one_begun n) c (Gave_refusal why.LogFull) new
    → first_of (tests (size_of sizes) (ledger_of (one_begun n)) c) ≡ Some why.LogFull
full_says n c new x = subst (Legal (size_of sizes) (ledger_of (one_begun n))) x.says x.legal

not_full : (n : ℕ) (c : Call) (new : State) → Passes (size_of sizes) (ledger_of (one_begun n)) c → IsModelStep (one_begun n) c (Gave_refusal why.LogFull) new → ⊥
not_full n c new passes x =
    let e = sym (none_first (tests (size_of sizes) (ledger_of (one_begun n)) c) passes) ∙ full_says n c new x in
    cc e

not_committed : (n : ℕ) (number : Number) (new : State) → 2 ^ 50 ≤ n + 1 → Commits n number new → ⊥
not_committed n number new le x =
    let l : Legal (size_of sizes) (ledger_of (one_begun n)) (Committed (only_one n) number.lsn) = subst (Legal (size_of sizes) (ledger_of (one_begun n))) x.says.1 x.legal in
    clash (sym (commit_full n le) ∙ l.0.1.1.1.1.0)

not_sent : (n number : ℕ) (new : State) → 2 ^ 50 < n + 5 → Sends n number new → ⊥
not_sent n number new le x =
    let l : Legal (size_of sizes) (ledger_of (one_begun n)) (Started (only_one n) number (Sending hello)) = subst (Legal (size_of sizes) (ledger_of (one_begun n))) x.says.1 x.legal in
    clash (sym (send_full n le) ∙ l.0.1.1.1.1.1.1.1.1.1.0)

not_closed : (n number : ℕ) (new : State) → 2 ^ 50 < n + 3 → Closes n number new → ⊥
not_closed n number new le x =
    let l : Legal (size_of sizes) (ledger_of (one_begun n)) (Started (only_one n) number (Ending 0)) = subst (Legal (size_of sizes) (ledger_of (one_begun n))) x.says.1 x.legal in
    clash (sym (close_full n le) ∙ l.0.1.1.1.1.1.1.1.0)

-- such a log is gone through on pages that stay
repeats : (n : ℕ) → Repeats sizes (restarts n) read_pages read_pages
repeats zero = refl
repeats (suc n) = (
  read_pages,
  repeats n,
  record {
    belongs = record {
      next = refl;
      follows = record { running = tt; going = tt; begun = tt; numbered = tt; undoes = tt; takes_back = tt; reads = tt; begins = tt };
      may = record { write = tt; before = tt };
    };
    redone = λ p. refl;
  },
)

ended : (n : ℕ) → IsEnded (restarts n)
ended zero = refl
ended (suc n) = ended n

no_operation : (n : ℕ) → (open_work_of (restarts n)).unfinished ≡ []
no_operation zero = refl
no_operation (suc n) = no_operation n

none_undoable : (n : ℕ) → (open_work_of (restarts n)).undoable ≡ []
none_undoable zero = refl
none_undoable (suc n) = none_undoable n

gone : (n : ℕ) → IsReadAndRedone sizes (restarts n) read_pages read_pages
gone n = record {
  repeated = repeats n;
  counted_read = counted_read (length (restarts n));
  counted = counted_read (length (restarts n));
}

undoes : (n : ℕ) → IsUndone (restarts n) (restarts n)
undoes n = record { undoing = undoing_none (restarts n); none = no_operation n }

abbrev rolls_back : (n : ℕ) → IsRolledBack (restarts n) (restarts n)
rolls_back n = record { undone = restarts n; undoes = undoes n; aborting = behind_none (restarts n); ended = ended n; none_lost = λ e. refl }

linked : (n : ℕ) → AreLinked sizes (slots_on sizes read_pages)
linked n = sound_linked.left sizes (slots_on sizes read_pages) (restarts n) (whole n) (none_unfinished n) (λ a. first_sound.pages a ∙ sym (same_slots n a))

lost_none : (n : ℕ) → (e : List Record) → IsPast e (restarts n) → IsWhole sizes (rebased e (restarts n)) → lost (rebased e (restarts n)) ≡ []
lost_none n e past w = sym (active_lost sizes (rebased e (restarts n)) w) ∙ ap (λ (h : OpenWorkView). h.active) (work_on e (restarts n) past w.based) ∙ ended n

module _ (n : ℕ) (pages : MemPages) (log : MemLog) (h : Hold pages formatted_pages log (restarts n)) where
  checked : (new : MemLog) → n < 2 ^ 50 → Checked pages log new read_pages (restarts (suc n))
  checked new low = record {
    images = formatted_pages;
    sound = formatted_are;
    seen = λ honest p below. sym (ap (λ (seen : Images). seen p) (pages_seen_are pages formatted_pages h.0));
    older = restarts n;
    marks = follow_marked (restarts n) (repeated_read sizes (restarts n) read_pages read_pages (repeats n)).1;
    are_spelled = are_spelled n (omega (arith, low));
    reads = λ honest. ends_all (standing (restarts n)) (mem_log.seen log) (log_seen log (restarts n) h.1);
    rolled_back = restarts n;
    rolled_back_on = record { read_and_redone = (read_pages, gone n); rolls_back = rolls_back n; planned = tt; repeated = repeats n; linked = linked n; recovered = λ e past left. NoneLost (undone_on e (restarts n) past left.whole.based (restarts n) (undoes n)) (lost_none n e past left.whole) };
    begun = refl;
    room = (let e = length_is n in omega (arith, e, low));
  }

  were : WereRead mem_pages mem_log pages log pages sizes formatted_pages
  were = record { sound = formatted_are; seen = λ honest p below. sym (ap (λ (seen : Images). seen p) (pages_seen_are pages formatted_pages h.0)) }

  -- nothing was written, and all the log was read
  left_alone : LeavesSome mem_pages mem_log pages log pages sizes
  left_alone = record {
    front = restarts n;
    begins = ([], log_seen log (restarts n) h.1 ∙ sym (append-nil (spelled (restarts n))));
    made = [];
    left = record {
      images = formatted_pages;
      were = were;
      now = λ page c may. inl may;
      moments = record { later = omega arith; each = λ images left page. inl (pages_now pages images left page) };
    };
  }

  full_restart : (count : ℕ) → 2 ^ 50 ≤ n → n < 2 ^ 64 → IsRefused pages log count why.LogFull pages log
  full_restart count le low =
      let e = length_is n in
      inr (record {
        sizes = sizes;
        images = formatted_pages;
        were = were;
        fails = (refl, refl);
        read = λ enough. (
          record { same = refl; honest = λ h. h; crash = λ p c may. may; time = record { later = omega arith; nothing_else = λ t c before since. inl since; keeps = λ t c before past. past } },
          λ other. only_read log,
          λ honest. weaker mem_log log log (mem_log.may_leave log) (λ c. mem_log.may_leave log c ⊎ IsBegunFrom mem_pages mem_log pages log pages c) (only_read log).moments (λ c may. inl may),
          refl,
        );
        told = λ other honest older spelled ends. record { now = older; more = ([], refl); told = spelled; is = ends; first = inl ([], sym (append-nil (mem_log.seen log))) };
        unread = λ honest none. only_read log;
        over = λ k. inr (
          restarts n,
          are_spelled n low,
          λ honest. ends_all (standing (restarts n)) (mem_log.seen log) (log_seen log (restarts n) h.1),
          (
            record {
              undone = restarts n;
              undoing = undoing_none (restarts n);
              now = restarts n;
              aborting = aborting_none sizes (RepeatedFrom sizes read_pages) (restarts n);
              turn = inl refl;
              none_lost = λ e. refl;
              full = omega (arith, e, le);
              recovering = λ e past left. Undoing (undoing_none (rebased e (restarts n)));
            },
            (read_pages, gone n),
          ),
        );
        leaves = λ honest. left_alone;
        written = record {
          now = λ page c may. inl may;
          time = record { later = omega arith; nothing_else = λ t c before since. inl since; keeps = λ t c before past. past };
        };
      })

  fits_over : (z : Sizes) (first : Images) (new : MemLog) → n < 2 ^ 50 → StopsOver mem_log z first why.LogFull log new → ⊥
  fits_over z first new low (inl l) = ⊎_elim
      (λ s.
      let more = s.1 tt in
      let f = front_within (restarts n) l.front (mem_log.seen log) more.0 (are_spelled n (omega (arith, low))) l.are_spelled (ends_all (standing (restarts n)) (mem_log.seen log) (log_seen log (restarts n) h.1)) more.2 (follow_marked l.front (repeated_read z l.front first l.mid l.repeated).1) (whole n).based in
      let e = length_is n in
      let many = s.0 in
      omega (arith, f, e, many, low))
      (⊎_elim (λ w. (let e = w.0 in cc e)) (⊎_elim (λ b. (let e = b.told in cc e)) (⊎_elim (λ p. ⊎_elim (λ e. cc e) (λ e. cc e) p.is) (λ f. (let e = f.is in cc e))))) l.why
  fits_over z first new low (inr r) =
      let same : restarts n ≡ r.0 = the_log (restarts n) (restarts_plain n) r.0 (mem_log.seen log) (are_spelled n (omega (arith, low))) r.1 (log_seen log (restarts n) h.1) (r.2 tt) in
      let e = length_is n in
      let d : length (restarts n) ≡ length r.0 = ap (λ (x : List Record). length x) same in
      let b = r.3.0 in
      let undone : b.undone ≡ r.0 = nothing_undone r.0 b.undone (subst (λ l. (open_work_of l).unfinished ≡ []) same (no_operation n)) (subst (λ l. (open_work_of l).undoable ≡ []) same (none_undoable n)) b.undoing in
      let f : length b.now ≡ length r.0 = ap (λ (x : List Record). length x) (b.none_lost (subst IsEnded same (ended n)) ∙ undone) in
      let long = b.full in
      omega (arith, low, e, d, f, long)

-- with nothing under way, what a call counts as is all that is counted
room_for : (n cost : ℕ) (s : State) → sum_by owed (ledger_of s).open_ones ≡ 0 → n + cost ≤ 2 ^ 50
    → log_full (record (ledger_of s) { records = n }) cost ≡ false
room_for n cost s none le = le-ltb _ _ (omega (arith, none, le))

no_room_for : (n cost : ℕ) (s : State) → sum_by owed (ledger_of s).open_ones ≡ 0 → 2 ^ 50 < n + cost
    → log_full (record (ledger_of s) { records = n }) cost ≡ true
no_room_for n cost s none low = lt-ltb _ _ (omega (arith, none, low))

abbrev when_full : Bool → Option Refusal
when_full full = cond full (Some why.LogFull) None

pub bounds : BoundsAreJudged
bounds = record {
  sound = begun_sound;
  records_are = length_more;
  commit_fits = commits;
  commit_is_full = λ n le. (refuse_full (one_begun n) (only_one n) (ready n) (commit_full n le) (begun_sound n)).0;
  full_where_it_fits = λ n new le. not_full n (Commit (only_one n)) new (commit_passes n le);
  fits_where_it_is_full = not_committed;
  send_fits = sends;
  send_is_full = send_refused;
  full_where_a_send_fits = λ n new le. not_full n (Start_send (only_one n) hello) new (send_passes n le);
  send_where_it_is_full = not_sent;
  close_fits = closes;
  close_is_full = close_refused;
  full_where_a_close_fits = λ n new le. not_full n (Start_close (only_one n) 0) new (close_passes n le);
  close_where_it_is_full = not_closed;
  fits_beside = λ n le. le-ltb _ _ (omega (arith, le));
  full_beside_it = λ n le. lt-ltb _ _ (omega (arith, le));
  undo_fits = λ n le. ap when_full (room_for n 4 turned refl le);
  undo_is_full = λ n low. ap when_full (no_room_for n 4 turned refl low);
  open_fits = λ n le. ap when_full (room_for n 2 close_turned refl le);
  open_is_full = λ n low. ap when_full (no_room_for n 2 close_turned refl low);
  end_fits = λ n le. ap when_full (room_for n 1 undone refl le);
  end_is_full = λ n low. ap when_full (no_room_for n 1 undone refl low);
  nothing_left_fits = λ n. refl;
  before_the_commit = meets;
  commit_made = λ n pages log number le of at h. commit_whole n pages log h number le of at;
  commit_refused = λ n pages log le low h. refused_whole n pages log h le low;
  refused_where_it_fits = λ n pages log new le a.
      not_full n (Commit (only_one n)) new.state (commit_passes n le) (steps_own _ _ _ _ _ _ a (tt, tt) (begun_sound n));
  committed_where_it_is_full = λ n pages log number new le a.
      not_committed n (commit_number number) new.state le (steps_own _ _ _ _ _ _ a (tt, tt) (begun_sound n));
  restart_fits = λ n pages log new low h. checked n pages log h new low;
  restart_is_full = λ n pages log count le low h. full_restart n pages log h count le low;
  restart_full_where_it_fits = λ n pages new_pages log new_log count low h s.
      ⊎_elim (λ p. p.stops) (λ r. fits_over n pages log h r.sizes _ new_log low (r.over (inr tt, tt))) s;
} where
  length_more : (n : ℕ) → length (one_begun n).records ≡ n + 1
  length_more n = (let e = length_is n in omega (arith, e))
