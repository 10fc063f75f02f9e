-- What a run tells.
use Rattle.std.proofs.Common.{ℕ, IsTrue, List, [], ◌∷◌, refl, sym, subst}
use Rattle.rq_model.specs.History.{Entry}
use Rattle.rq_model.specs.Growth.{growth}
use Rattle.rq_model.specs.Ledger.{ledger}
use Rattle.rq_model.specs.Legal.{IsLegal}
use Rattle.rq_model.specs.Tests.{Size}
use Rattle.rq_model.specs.Promises.{AcknowledgedStay, CheckpointCrashGoesOn, CrashGoesOn, FifoThroughout, GrowthGoesOn, RestartGoesOn, ShutCrashGoesOn, StillStoreRefuses}
use Rattle.rq_disk.specs.declared.mem_log.MemLog.{MemLog}
use Rattle.rq_disk.specs.declared.mem_pages.MemPages.{MemPages}
use Rattle.rq_page.specs.Sizes.{Sizes, IsInRange}
use Rattle.rq_store.specs.State.{size_of}
use Rattle.rq_engine.specs.Applied.{Applied}
use Rattle.rq_engine.specs.Earlier.{on}
use Rattle.rq_engine.specs.declared.event.Event.{Event}
use Rattle.rq_engine.specs.declared.event.Reply.{Reply}
use Rattle.rq_restart.specs.Once.{OneLogEach, OneSizeEach}
use Rattle.rq_core.specs.Devices.{mem_pages, mem_log}
use Rattle.rq_core.specs.Happenings.{Answer, Course, DoesNothing, Happening, MayCrashIt, call_growth, called, growth_in, restarts}
use Rattle.rq_core.specs.Happenings.Answer.{Answered, Crashed, Nothing, Refused, Restarted, Running}
use Rattle.rq_core.specs.Happenings.Happening.{Crashes, Stops_in, Stops_restart}
use Rattle.rq_core.specs.Happened.{CrashesOpen, CrashesShut, IsAsked, IsLast, IsNotOpen, StopsRestart}
use Rattle.rq_core.specs.Runs.{CanCrash, Happened, IsHeadline, IsRun, Led, GivesUp, MemWorld, Ran}
use Rattle.rq_core.specs.World.{IsOpen, LeftBehind}
use Rattle.rq_core.specs.World.World.{Is_open, Is_shut}
use Rattle.rq_core.proofs.Arms.{Engine, asks, begins, not_open, open_ends, opened, refused_stays, refuses, shut_crashes, shut_ends, stop_may}
use Rattle.rq_core.proofs.Devices.{log_now, page_now, some_page, some_log}
use Rattle.rq_core.proofs.HalfMade.{left_handed, left_stopped}
use Rattle.rq_core.proofs.Worlds.{crashed, leaves_open, runs_there, stands_at}

-- what holds of the words that a run is told in
pub record Laws (z : Sizes) : Type 0 where
  pub one : OneLogEach
  pub size_once : OneSizeEach
  pub fifo : (h : List Entry) → IsLegal (size_of z) h → FifoThroughout h
  pub stay : AcknowledgedStay (size_of z)
  pub crash : CrashGoesOn (size_of z)
  pub half : CheckpointCrashGoesOn (size_of z)
  pub grows : GrowthGoesOn (size_of z)
  pub shut : ShutCrashGoesOn (size_of z)
  pub restart : RestartGoesOn (size_of z)
  pub still : (size : Size) → StillStoreRefuses size

module _ (z : Sizes) (k : Laws z) (course : Course) where
  -- a crash of an open store
  may_crash : (x : Happening) (e : Event) (r : Reply) (old mid : Engine) → IsLast x e r → Applied mem_pages mem_log old e r mid → (ran : Ran z course (Is_open old)) → MayCrashIt x (ledger ran.history).phase
  may_crash Crashes e r old mid last a ran = tt
  may_crash (Stops_in call) e r old mid last a ran =
      subst (λ c. MayCrashIt (Stops_in c) (ledger ran.history).phase) last.0 (stop_may z course e last.1 old mid ran (subst (λ y. Applied mem_pages mem_log old e y mid) last.2 a) last.3)
  may_crash _ e r old mid last a ran = absurd last

  left_behind : (x : Happening) (e : Event) (r : Reply) (old mid : Engine) → IsLast x e r → Applied mem_pages mem_log old e r mid → (ran : Ran z course (Is_open old)) → LeftBehind mem_pages mem_log ran.history (growth_in x (growth ran.history)) (on ran.stands.past old.state) mid.pages mid.log
  left_behind Crashes e r old mid last a ran =
      let o : IsOpen mem_pages mem_log z ran.history old = ran.stands in
      left_handed mem_pages mem_log z page_now log_now ran.history o.past old mid o.long o.ledger r (subst (λ y. Applied mem_pages mem_log old y r mid) last a) (tt, tt) o.sound o.devices
  left_behind (Stops_in call) e r old mid last a ran =
      let o : IsOpen mem_pages mem_log z ran.history old = ran.stands in
      subst (λ c. LeftBehind mem_pages mem_log ran.history (call_growth c (growth ran.history)) (on o.past old.state) mid.pages mid.log) last.0
      (left_stopped mem_pages mem_log z page_now log_now ran.history o.past old mid o.long o.ledger e last.1 last.3 (subst (λ y. Applied mem_pages mem_log old e y mid) last.2 a) (tt, tt) o.sound o.devices)
  left_behind _ e r old mid last a ran = absurd last

  -- of what its last call went through, a crash behind it leaves the end
  crashes_open : (x : Happening) (old : Engine) (pages : MemPages) (log : MemLog) (n : ℕ) → CrashesOpen mem_pages mem_log x old pages log n → Ran z course (Is_open old) → Ran z ((x, Crashed n) ∷ course) (Is_shut pages log)
  crashes_open x old pages log n c ran =
      let o : IsOpen mem_pages mem_log z ran.history old = ran.stands in
      let there = stands_at z ran.history (on o.past old.state) ran.legal o.sizes o.ledger o.sound in
      let can : CanCrash z course x c.mid.pages c.mid.log = record {
        history = ran.history;
        tells = ran.tells;
        legal = ran.legal;
        range = subst IsInRange there.sizes there.range;
        may = may_crash x c.event c.told old c.mid c.last c.applied ran;
        leaves = leaves_open mem_pages mem_log (λ d. tt) (λ d. tt) z k.crash k.half k.grows ran.history (on o.past old.state) there (runs_there ran.history (on o.past old.state) o.ledger)
            (growth_in x (growth ran.history)) c.mid.pages c.mid.log (left_behind x c.event c.told old c.mid c.last c.applied ran);
      } in
      crashed mem_pages mem_log (λ d. tt) (λ d. tt) z some_page some_log course x c.mid.pages pages c.mid.log log n can c.crashed

  crashes_shut : (x : Happening) (pages : MemPages) (log : MemLog) (new_pages : MemPages) (new_log : MemLog) (n : ℕ) → CrashesShut mem_pages mem_log x pages log new_pages new_log n → Ran z course (Is_shut pages log) → Ran z ((x, Crashed n) ∷ course) (Is_shut new_pages new_log)
  crashes_shut Crashes pages log new_pages new_log n c ran =
      crashed mem_pages mem_log (λ d. tt) (λ d. tt) z some_page some_log course Crashes pages new_pages log new_log n (shut_crashes z course Crashes ran.history pages log k.shut ran.tells ran.legal ran.stands (λ p s. tt) refl) c
  crashes_shut Stops_restart pages log new_pages new_log n c ran =
      let there : StopsRestart mem_pages mem_log pages log new_pages new_log n = c in
      let left = refused_stays k.one z ran.history pages log there.refusal there.mid_pages there.mid_log there.refused ran.stands in
      crashed mem_pages mem_log (λ d. tt) (λ d. tt) z some_page some_log course Stops_restart there.mid_pages new_pages there.mid_log new_log n (shut_crashes z course Stops_restart ran.history there.mid_pages there.mid_log k.shut ran.tells ran.legal left (λ p s. s) refl) there.crashed
  crashes_shut _ pages log new_pages new_log n c ran = absurd c

  nothing : (x : Happening) (w : MemWorld) → DoesNothing course x → Ran z course w → Ran z ((x, Nothing) ∷ course) w
  nothing x (Is_open e) does ran = record { history = ran.history; tells = (ran.history, ran.tells, (does, refl)); legal = ran.legal; stands = ran.stands; counted = tt }
  nothing x (Is_shut pages log) does ran = record { history = ran.history; tells = (ran.history, ran.tells, (does, refl)); legal = ran.legal; stands = ran.stands; counted = tt }

  running : (x : Happening) (e : Engine) → IsTrue (restarts x) → Ran z course (Is_open e) → Ran z ((x, Running) ∷ course) (Is_open e)
  running x e may ran =
      let o : IsOpen mem_pages mem_log z ran.history e = ran.stands in
      record { history = ran.history; tells = (ran.history, ran.tells, (may, runs_there ran.history (on o.past e.state) o.ledger, refl)); legal = ran.legal; stands = o; counted = tt }

  -- whatever happens, the course goes on
  goes_on : (x : Happening) (old : MemWorld) (a : Answer) (new : MemWorld) → Happened course x old a new → Ran z course old → Ran z ((x, a) ∷ course) new
  goes_on x (Is_open old) (Answered r) (Is_open new) h ran =
      let s : IsAsked mem_pages mem_log (called course x) r old new = h in
      subst (λ g. Ran z ((x, Answered g) ∷ course) (Is_open new)) (sym s.reply_is) (asks z course x s.event s.told old new s.call_is s.applied ran)
  goes_on x (Is_open old) (Answered r) (Is_shut pages log) h ran = absurd h
  goes_on x (Is_shut pages log) (Answered r) new h ran =
      let s : IsNotOpen (called course x) r = h.0 in
      subst (λ w. Ran z ((x, Answered r) ∷ course) w) (sym h.1) (subst (λ g. Ran z ((x, Answered g) ∷ course) (Is_shut pages log)) (sym s.reply_is) (not_open k.still z course x s.made pages log s.call_is ran))
  goes_on x (Is_open old) (Crashed n) (Is_shut pages log) h ran = crashes_open x old pages log n h ran
  goes_on x (Is_shut pages log) (Crashed n) (Is_shut new_pages new_log) h ran = crashes_shut x pages log new_pages new_log n h ran
  goes_on x (Is_open old) (Crashed n) (Is_open new) h ran = absurd h
  goes_on x (Is_shut pages log) (Crashed n) (Is_open new) h ran = absurd h
  goes_on x (Is_shut pages log) (Restarted report) (Is_open new) h ran = opened k.one k.size_once z k.restart course x pages log report new h.0 h.1 ran
  goes_on x (Is_shut pages log) (Restarted report) (Is_shut new_pages new_log) h ran = absurd h.1
  goes_on x (Is_open old) (Restarted report) new h ran = absurd h.1
  goes_on x (Is_shut pages log) (Refused r) (Is_shut new_pages new_log) h ran = refuses k.one z course x pages new_pages log new_log r h.0 h.1 ran
  goes_on x (Is_shut pages log) (Refused r) (Is_open new) h ran = absurd h.1
  goes_on x (Is_open old) (Refused r) new h ran = absurd h.1
  goes_on x (Is_open old) Running new h ran = subst (λ w. Ran z ((x, Running) ∷ course) w) (sym h.1) (running x old h.0 ran)
  goes_on x (Is_shut pages log) Running new h ran = absurd h.1
  goes_on x old Nothing new h ran = subst (λ w. Ran z ((x, Nothing) ∷ course) w) (sym h.1) (nothing x old h.0 ran)

module _ (z : Sizes) (k : Laws z) where
  begun : (w : MemWorld) → Led z [] w → Ran z [] w
  begun (Is_shut pages log) h = begins z pages log (record { range = h.0; left = h.1 })
  begun (Is_open e) h = absurd h

  -- the course tells a history
  pub led_tells : (course : Course) (w : MemWorld) → Led z course w → Ran z course w
  led_tells [] w h = begun w h
  led_tells (a ∷ course) w h = goes_on z k course a.0 h.0 a.1 w h.2 (led_tells course h.0 h.1)

  ends : (course : Course) (pages : MemPages) (log : MemLog) (w : MemWorld) → Ran z course w → GivesUp w pages log → IsHeadline z course pages log
  ends course pages log (Is_open e) ran g =
      open_ends z course e pages log k.fifo k.stay k.crash k.half k.grows ran g.2 g.0 g.1
  ends course pages log (Is_shut d e) ran g =
      subst (λ y. IsHeadline z course y log) (sym g.0) (subst (λ y. IsHeadline z course d y) (sym g.1) (shut_ends z course d e k.fifo k.stay k.shut ran))

  pub told : (course : Course) (pages : MemPages) (log : MemLog) → IsRun z course pages log → IsHeadline z course pages log
  told course pages log run = ends course pages log run.end (led_tells course run.end run.led) run.given
