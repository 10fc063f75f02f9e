-- Each function of a world, over the devices in memory.
use Rattle.rq_model.specs.Causes.{HasCause, calls_device, reads_pages, starts_one, writes_out}
use Rattle.std.proofs.lemmas.Bool.{or_right}
use Rattle.std.proofs.Common.{◌||◌, ◌↔◌, Bool, false, ◌≡◌, ℕ, List, [], ◌∷◌, arith, refl, sym, ◌∙◌, ap, subst, true, Some, Result, Ok, Err, IfErr, IfOk, ⊎_elim}
use Rattle.rq_model.specs.declared.refusal.Refusal.{Refusal}
use Rattle.rq_model.specs.declared.refusal.Refusal.TheVariants as why
use Rattle.rq_model.specs.History.{Entry, Call}
use Rattle.rq_model.specs.History.Call.{Show}
use Rattle.rq_model.specs.History.Entry.{Restarted as Restarted_entry, Refused as Refused_entry}
use Rattle.rq_model.specs.Ledger.{Ledger, Phase, ledger, runs}
use Rattle.rq_model.specs.Ledger.Phase.{Running as Runs, Shut}
use Rattle.rq_model.specs.Growth.{growth}
use Rattle.rq_model.specs.Legal.{IsLegal}
use Rattle.rq_model.specs.Tests.{Size, any_busy, size_at}
use Rattle.rq_model.specs.Promises.{AcknowledgedStay, CheckpointCrashGoesOn, CrashGoesOn, FifoThroughout, GrowthGoesOn, RestartGoesOn, ShutCrashGoesOn, StillStoreRefuses}
use Rattle.rq_model.specs.Replay.{Says}
use Rattle.rq_model.specs.Replay.Reply.{Gave_refusal}
use Rattle.rq_disk.specs.declared.mem_log.MemLog.{MemLog}
use Rattle.rq_disk.specs.declared.mem_pages.MemPages.{MemPages}
use Rattle.rq_page.specs.Sizes.{Sizes}
use Rattle.rq_store.specs.State.{ledger_of, phase_of, size_of}
use Rattle.rq_engine.specs.Applied.{Applied}
use Rattle.rq_engine.specs.Opened.{OpenStore}
use Rattle.rq_engine.specs.Says.{call_of, gave}
use Rattle.rq_engine.specs.declared.event.Event.{Event}
use Rattle.rq_engine.specs.declared.event.Reply.{Reply}
use Rattle.rq_engine.specs.declared.event.Reply.TheVariants as reply
use Rattle.rq_engine.specs.Earlier.{on}
use Rattle.rq_restart.specs.Once.{OneLogEach, OneSizeEach}
use Rattle.rq_restart.specs.Opens.{KeepsStores, Opens, Refuses}
use Rattle.rq_restart.specs.Underway.{pages_left, log_left}
use Rattle.rq_restart.specs.declared.restart.Report.{Report}
use Rattle.rq_restart.specs.declared.restart.Stopped.{Stopped}
use Rattle.rq_core.specs.Chosen.{HasFrames}
use Rattle.rq_core.specs.Devices.{mem_pages, mem_log}
use Rattle.rq_core.specs.Happenings.{Happening, Answer, AddsCall, growth_in, Course, MayCrashIt, Tells, called, is_of_device, EndsWithoutCrash, MayRestart, is_no_crash}
use Rattle.rq_core.specs.Happenings.Answer.{Answered, Crashed, Refused, Restarted}
use Rattle.rq_core.specs.Happened.{Keeps}
use Rattle.rq_core.specs.Headline.{LeavesStores, LeftBy, LeftLast, sizes_at}
use Rattle.rq_core.specs.Runs.{CanCrash, IsFresh, IsHeadline, IsOpened, IsRefused, Ran}
use Rattle.rq_core.specs.World.{IsOpen, IsShut, LeftBehind}
use Rattle.rq_core.specs.World.World.{Is_open, Is_shut}
use Rattle.rq_core.specs.Happenings.Happening.{Stops_in}
use Rattle.rq_core.proofs.Devices.{log_now, page_now, some_page, some_log}
use Rattle.rq_core.proofs.HalfMade.{plain_leaves}
use Rattle.rq_core.proofs.Worlds.{caused, read_of, reopened, runs_there, stands_at, stays_shut, calls, leaves_open, leaves_shut, headline}

abbrev pub Engine : Type 0
Engine = OpenStore MemPages MemLog

-- a call of an open store
pub asks : (z : Sizes) (course : Course) (x : Happening) (e : Event) (r : Reply) (old new : Engine) → called course x ≡ Some (call_of e) → Applied mem_pages mem_log old e r new → Ran z course (Is_open old) → Ran z ((x, Answered (gave r)) ∷ course) (Is_open new)
asks z course x e r old new is a ran = calls mem_pages mem_log (λ d. tt) (λ d. tt) z page_now log_now course x e r old new is a ran

-- a store that is shut, whatever a crash at its end leaves
pub shut_crashes : (z : Sizes) (course : Course) (x : Happening) (h : List Entry) (pages : MemPages) (log : MemLog) → ShutCrashGoesOn (size_of z) → Tells course h → IsLegal (size_of z) h → (s : IsShut mem_pages mem_log z h pages log)
    → ((p : Phase) → p ≡ Shut → MayCrashIt x p) → growth_in x (growth h) ≡ growth h → CanCrash z course x pages log
shut_crashes z course x h pages log law tells legal s may same = record {
  history = h;
  tells = tells;
  legal = legal;
  range = s.range;
  may = may (ledger h).phase s.phase;
  leaves = subst (λ g. LeavesStores mem_pages mem_log z g h pages log) (sym same) (leaves_shut mem_pages mem_log (λ d. tt) (λ d. tt) z law h pages log legal s);
}

-- a call of a store that is shut
pub not_open : ((size : Size) → StillStoreRefuses size) → (z : Sizes) (course : Course) (x : Happening) (call : Call) (pages : MemPages) (log : MemLog) → called course x ≡ Some call → Ran z course (Is_shut pages log)
    → Ran z ((x, Answered (Gave_refusal why.Failed)) ∷ course) (Is_shut pages log)
not_open law z course x call pages log is ran =
    let s : IsShut mem_pages mem_log z ran.history pages log = ran.stands in
    record {
      history = Refused_entry call why.Failed ∷ ran.history;
      tells = (ran.history, ran.tells, subst (λ c. AddsCall c (Gave_refusal why.Failed) ran.history (Refused_entry call why.Failed ∷ ran.history)) (sym is) (Refused_entry call why.Failed, says call, tt, refl));
      legal = (law (size_at (size_of z) ran.history) (ledger ran.history) call (ap runs s.phase), ran.legal);
      stands = record { range = s.range; phase = s.phase; older = s.older; ties = s.ties; left = s.left };
      counted = tt;
    } where
      says : (c : Call) → Says c (Gave_refusal why.Failed) (Refused_entry c why.Failed)
      says c = refl

-- a course that ended without a crash
ended : (z : Sizes) (history : List Entry) (course : Course) (pages : MemPages) (log : MemLog) → EndsWithoutCrash course → LeftLast mem_pages mem_log z history course pages log
ended z history [] pages log h = tt
ended z history (a ∷ course) pages log h = by a.1 h where
  by : (a : Answer) → is_no_crash a → LeftBy mem_pages mem_log z history a pages log
  by (Crashed n) h = absurd h
  by _ h = tt

-- the headline at the end
pub open_ends : (z : Sizes) (course : Course) (e : Engine) (pages : MemPages) (log : MemLog) → ((h : List Entry) → IsLegal (size_of z) h → FifoThroughout h) → AcknowledgedStay (size_of z) → CrashGoesOn (size_of z) → CheckpointCrashGoesOn (size_of z) → GrowthGoesOn (size_of z) → Ran z course (Is_open e)
    → Keeps mem_pages mem_log e → pages ≡ e.pages → log ≡ e.log → IsHeadline z course pages log
open_ends z course e pages log fifo stay law half grows ran keeps i j =
    let o : IsOpen mem_pages mem_log z ran.history e = ran.stands in
    let left : LeftBehind mem_pages mem_log ran.history (growth ran.history) (on o.past e.state) e.pages e.log = ⊎_elim (λ w. plain_leaves mem_pages mem_log ran.history (on o.past e.state) e.pages e.log w.stays (keeps w.untried tt o.past o.long o.sound w.fit)) (λ half. half.leaves) o.devices in
    let stores = leaves_open mem_pages mem_log (λ d. tt) (λ d. tt) z law half grows ran.history (on o.past e.state) (stands_at z ran.history (on o.past e.state) ran.legal o.sizes o.ledger o.sound) (runs_there ran.history (on o.past e.state) o.ledger) (growth ran.history) e.pages e.log left in
    headline mem_pages mem_log (λ d. tt) (λ d. tt) z fifo stay course ran.history pages log ran.tells ran.legal
    (subst (λ d. LeavesStores mem_pages mem_log z (growth ran.history) ran.history d log) (sym i) (subst (λ d. LeavesStores mem_pages mem_log z (growth ran.history) ran.history e.pages d) (sym j) stores)) (ended z ran.history course pages log ran.counted)

pub shut_ends : (z : Sizes) (course : Course) (pages : MemPages) (log : MemLog) → ((h : List Entry) → IsLegal (size_of z) h → FifoThroughout h) → AcknowledgedStay (size_of z) → ShutCrashGoesOn (size_of z) → Ran z course (Is_shut pages log)
    → IsHeadline z course pages log
shut_ends z course pages log fifo stay law ran =
    headline mem_pages mem_log (λ d. tt) (λ d. tt) z fifo stay course ran.history pages log ran.tells ran.legal
    (leaves_shut mem_pages mem_log (λ d. tt) (λ d. tt) z law ran.history pages log ran.legal ran.stands) ran.counted

-- a restart that opened a store, in so many frames
pub opened_in : (pages : MemPages) (log : MemLog) (frames : ℕ) (r : Result (Engine × Report) (Stopped MemPages MemLog)) → IfOk r (λ o. Opens mem_pages mem_log pages log frames o.0 o.1) → IfOk r (λ o. IsOpened pages log o.1 o.0)
opened_in pages log frames (Ok o) opens = record { frames = frames; opens = opens }
opened_in pages log frames (Err s) opens = tt

pub framed_in : (pages : MemPages) (log : MemLog) (frames : ℕ) (r : Result (Engine × Report) (Stopped MemPages MemLog)) → IfOk r (λ o. Opens mem_pages mem_log pages log frames o.0 o.1) → IfOk r (λ o. HasFrames frames (Is_open o.0))
framed_in pages log frames (Ok o) opens = opens.frames
framed_in pages log frames (Err s) opens = tt

-- a restart that was refused
pub stays : (pages : MemPages) (log : MemLog) (frames : ℕ) (r : Result (Engine × Report) (Stopped MemPages MemLog)) → IfErr r (λ s. Refuses mem_pages mem_log pages log frames s.refusal s.pages s.log) → KeepsStores mem_pages mem_log pages log (pages_left r) (log_left r)
    → IfErr r (λ s. IsRefused pages log s.refusal s.pages s.log)
stays pages log frames (Ok o) why keeps = tt
stays pages log frames (Err s) why keeps = record { frames = frames; refuses = why; keeps = keeps }

-- a restart that opened the store, as a happening
pub opened : OneLogEach → OneSizeEach → (z : Sizes) → RestartGoesOn (size_of z) → (course : Course) (x : Happening) (pages : MemPages) (log : MemLog) (report : Report) (new : Engine) → MayRestart course x → IsOpened pages log report new
    → Ran z course (Is_shut pages log) → Ran z ((x, Restarted report) ∷ course) (Is_open new)
opened one size_once z goes course x pages log report new may o ran =
    let w = reopened mem_pages mem_log (λ d. tt) (λ d. tt) z some_page some_log one size_once goes ran.history pages log report new ran.legal ran.stands o in
    record {
      history = Restarted_entry report.incarnation report.records ∷ ran.history;
      tells = (ran.history, ran.tells, (may, refl));
      legal = w.legal;
      stands = w.stands;
      counted = tt;
    }

-- what a restart that was refused leaves is shut as before
pub refused_stays : OneLogEach → (z : Sizes) (h : List Entry) (pages : MemPages) (log : MemLog) (r : Refusal) (new_pages : MemPages) (new_log : MemLog) → IsRefused pages log r new_pages new_log → IsShut mem_pages mem_log z h pages log
    → IsShut mem_pages mem_log z h new_pages new_log
refused_stays one z h pages log r new_pages new_log stopped here =
    let read = read_of mem_pages mem_log (λ d. tt) (λ d. tt) z some_page some_log h pages log here in
    stays_shut mem_pages mem_log (λ d. tt) (λ d. tt) z some_page some_log one h pages new_pages log new_log here read (stopped.keeps.crash tt tt (sizes_at z h) read.read read.told read.reads read.each)

-- a restart that was refused, as a happening
pub refuses : OneLogEach → (z : Sizes) (course : Course) (x : Happening) (pages new_pages : MemPages) (log new_log : MemLog) (r : Refusal) → MayRestart course x → IsRefused pages log r new_pages new_log → Ran z course (Is_shut pages log)
    → Ran z ((x, Refused r) ∷ course) (Is_shut new_pages new_log)
refuses one z course x pages new_pages log new_log r may stopped ran =
    let s : IsShut mem_pages mem_log z ran.history pages log = ran.stands in
    let now = refused_stays one z ran.history pages log r new_pages new_log stopped s in
    record { history = ran.history; tells = (ran.history, ran.tells, (may, s.phase, refl)); legal = ran.legal; stands = now; counted = tt }

-- a store that is formatted, and of which nothing has happened
pub begins : (z : Sizes) (pages : MemPages) (log : MemLog) → IsFresh z pages log → Ran z [] (Is_shut pages log)
begins z pages log fresh = record {
  history = [];
  tells = refl;
  legal = tt;
  stands = record {
    range = fresh.range;
    phase = refl;
    older = [];
    ties = record { committed = refl; records = refl; incarnation = omega arith };
    left = λ images bytes a b. ([], ([], refl, tt), fresh.left images bytes a b);
  };
  counted = tt;
}

-- a stop in a call, which a device refused
starts_reads : (c : Call) → starts_one c ≡ true → reads_pages c ≡ true
starts_reads Show e = refl
starts_reads c e = e

or_more : (w x y : Bool) → (x ≡ true → y ≡ true) → (w || x) ≡ true → (w || y) ≡ true
or_more true x y more e = refl
or_more false x y more e = more e

stop_asks : (r : Refusal) (b : Bool) (c : Call) → is_of_device r ≡ true → HasCause b c r → calls_device c ≡ true
stop_asks why.DiskWrite b c d h = or_more (writes_out c) (starts_one c) (reads_pages c) (starts_reads c) h
stop_asks why.DiskRead b c d h = or_right (writes_out c) (reads_pages c) h
stop_asks _ b c d h = cc d

stop_runs : (r : Refusal) (failed : Bool) → is_of_device r ≡ true → ((reply.Refused r ≡ reply.Refused why.Failed) ↔ (failed ≡ true)) → phase_of failed ≡ Runs
stop_runs r false d e = refl
stop_runs r true d e = absurd (other r d (e.1 refl)) where
  other : (r : Refusal) → is_of_device r ≡ true → reply.Refused r ≡ reply.Refused why.Failed → ⊥
  other why.DiskWrite d e = cc e
  other why.DiskRead d e = cc e
  other _ d e = cc d

pub stop_may : (z : Sizes) (course : Course) (e : Event) (r : Refusal) (old new : Engine) (ran : Ran z course (Is_open old)) → Applied mem_pages mem_log old e (reply.Refused r) new → is_of_device r ≡ true → MayCrashIt (Stops_in (call_of e)) (ledger ran.history).phase
stop_may z course e r old new ran a device =
    let o : IsOpen mem_pages mem_log z ran.history old = ran.stands in (
      ap (λ (l : Ledger). l.phase) (sym o.ledger) ∙ stop_runs r old.state.failed device a.failed,
      stop_asks r (any_busy (ledger_of (on o.past old.state)).open_ones) (call_of e) device (caused e (reply.Refused r) (on o.past old.state) (a.cause (tt, tt) o.past o.long o.sound)),
    )
