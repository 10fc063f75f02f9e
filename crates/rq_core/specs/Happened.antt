-- A run: what each happening makes of the store that it meets, and what that store answers.
use Rattle.std.specs.Prelude.{◌≡◌, ℕ, IsTrue, true, false, List, [], ◌∷◌, Option, Some}
use Rattle.rq_model.specs.declared.record.Record.{Record}
use Rattle.rq_model.specs.declared.refusal.Refusal.{Refusal}
use Rattle.rq_model.specs.declared.refusal.Refusal.TheVariants as why
use Rattle.rq_model.specs.History.{Call}
use Rattle.rq_model.specs.Replay.{Reply as Gave}
use Rattle.rq_model.specs.Replay.Reply.{Gave_refusal}
use Rattle.rq_disk.specs.Device.{Images, Leaves, Only}
use Rattle.rq_log.specs.Counted.{LastLsn}
use Rattle.rq_disk.specs.declared.device.LogDevice as log_device
use Rattle.rq_disk.specs.declared.device.PageDevice as page_device
use Rattle.rq_page.specs.Sizes.{Sizes, IsInRange}
use Rattle.rq_engine.specs.Earlier.{IsEarlier, on, over}
use Rattle.rq_sound.specs.Sound.{IsSound}
use Rattle.rq_engine.specs.declared.event.Event.{Event}
use Rattle.rq_engine.specs.declared.event.Event.TheVariants as event
use Rattle.rq_engine.specs.declared.event.Reply.{Reply}
use Rattle.rq_engine.specs.declared.event.Reply.TheVariants as reply
use Rattle.rq_engine.specs.Applied.{Applied}
use Rattle.rq_engine.specs.Crash.{AreFit, LeavesCut}
use Rattle.rq_engine.specs.Devices.{EachPair}
use Rattle.rq_engine.specs.Opened.{OpenStore}
use Rattle.rq_engine.specs.Says.{call_of, gave}
use Rattle.rq_restart.specs.declared.restart.Report.{Report}
use Rattle.rq_restart.specs.Opens as restart
use Rattle.rq_restart.specs.Underway.{IsStore}
use Rattle.rq_core.specs.Happenings.{Answer, Course, DoesNothing, Happening, called, is_of_device, restarts}
use Rattle.rq_core.specs.Happenings.Answer.{Answered, Crashed, Nothing, Refused, Restarted, Running}
use Rattle.rq_core.specs.Happenings.Happening.{Crashes, Stops_in, Stops_restart}
use Rattle.rq_core.specs.World.{World}
use Rattle.rq_core.specs.World.World.{Is_open, Is_shut}

-- The last event of a store that is open before a crash, and its answer. Between two calls it is a hand-over, since what was
-- not handed over may outlive the crash too. Inside a call it is that call, in which a device failed.
abbrev pub IsLast : Happening → Event → Reply → Type 0
IsLast Crashes e r = e ≡ event.HandOver
IsLast (Stops_in call) e r = (call_of e ≡ call) × (f : Refusal) × (r ≡ reply.Refused f) × (is_of_device f ≡ true)
IsLast _ e r = ⊥

-- a store that is not open answers a call so
pub record IsNotOpen (call : Option Call) (reply : Gave) : Type 0 where
  pub made : Call
  pub call_is : call ≡ Some made
  pub reply_is : reply ≡ Gave_refusal why.Failed

module _ {P L : Type 0} (p : page_device.Ghosts P) (l : log_device.Ghosts L) where
  -- an engine with this store was asked, and answered so
  pub record IsAsked (call : Option Call) (reply : Gave) (old new : OpenStore P L) : Type 0 where
    pub event : Event
    pub told : Reply
    pub call_is : call ≡ Some (call_of event)
    pub reply_is : reply ≡ gave told
    pub applied : Applied p l old event told new

  -- What a crash leaves of both devices. Of each it is one of those that it may leave. Of the log it is so many records, with
  -- those before its Base.
  pub record IsCrashed (pages new_pages : P) (log new_log : L) (count : ℕ) : Type 0 where
    pub pages_left : (images : Images) → Leaves (p.may_be new_pages) images → Leaves (p.may_be pages) images
    pub pages_only : (page : ℕ) → Only (p.seen new_pages page) (p.may_be new_pages page)
    pub log_left : (bytes : List ℕ) → l.may_leave new_log bytes → l.may_leave log bytes
    pub log_only : (bytes : List ℕ) → l.may_leave new_log bytes → bytes ≡ l.seen new_log
    pub holds : LastLsn (l.seen new_log) count

  -- What is so of every open store whose log no failed call may have replaced, whatever stood before its Base. A crash leaves a part of its
  -- log, with pages that fit.
  abbrev pub Keeps : OpenStore P L → Type 0
  Keeps s = s.replacing ≡ false → l.honest s.log → (e : List Record) → IsEarlier e s.state → IsSound (on e s.state)
      → AreFit p (over e s) → LeavesCut p l (over e s)

  -- a crash of an open store: behind its last call, of what that has left
  pub record CrashesOpen (x : Happening) (old : OpenStore P L) (pages : P) (log : L) (count : ℕ) : Type 0 where
    pub event : Event
    pub told : Reply
    pub last : IsLast x event told
    pub mid : OpenStore P L
    pub applied : Applied p l old event told mid
    pub crashed : IsCrashed mid.pages pages mid.log log count

  -- a restart opened the store that stands on these devices, in some frames
  pub record IsOpened (pages : P) (log : L) (report : Report) (new : OpenStore P L) : Type 0 where
    pub frames : ℕ
    pub opens : restart.Opens p l pages log frames new report

  -- a restart refused to open it for this, in some frames, and left the devices so
  pub record IsRefused (pages : P) (log : L) (refusal : Refusal) (new_pages : P) (new_log : L) : Type 0 where
    pub frames : ℕ
    pub refuses : restart.Refuses p l pages log frames refusal new_pages new_log
    pub keeps : restart.KeepsStores p l pages log new_pages new_log

  -- a crash inside a restart: behind a restart that was refused, of what that has left
  pub record StopsRestart (pages : P) (log : L) (new_pages : P) (new_log : L) (count : ℕ) : Type 0 where
    pub refusal : Refusal
    pub mid_pages : P
    pub mid_log : L
    pub refused : IsRefused pages log refusal mid_pages mid_log
    pub by_device : is_of_device refusal ≡ true
    pub crashed : IsCrashed mid_pages new_pages mid_log new_log count

  abbrev pub CrashesShut : Happening → P → L → P → L → ℕ → Type 0
  CrashesShut Crashes pages log new_pages new_log count = IsCrashed pages new_pages log new_log count
  CrashesShut Stops_restart pages log new_pages new_log count = StopsRestart pages log new_pages new_log count
  CrashesShut _ pages log new_pages new_log count = ⊥

  -- each answer by itself, from the world that the happening meets to the one that it leaves
  abbrev pub Answers : Option Call → World P L → Gave → World P L → Type 0
  Answers call (Is_open old) reply (Is_open new) = IsAsked call reply old new
  Answers call (Is_open old) reply (Is_shut pages log) = ⊥
  Answers call (Is_shut pages log) reply new = IsNotOpen call reply × (new ≡ Is_shut pages log)

  abbrev pub CrashesTo : Happening → World P L → ℕ → World P L → Type 0
  CrashesTo x (Is_open old) count (Is_shut pages log) = CrashesOpen x old pages log count
  CrashesTo x (Is_shut pages log) count (Is_shut new_pages new_log) = CrashesShut x pages log new_pages new_log count
  CrashesTo x (Is_open old) count (Is_open new) = ⊥
  CrashesTo x (Is_shut pages log) count (Is_open new) = ⊥

  abbrev pub Opens : World P L → Report → World P L → Type 0
  Opens (Is_shut pages log) report (Is_open new) = IsOpened pages log report new
  Opens (Is_shut pages log) report (Is_shut new_pages new_log) = ⊥
  Opens (Is_open old) report new = ⊥

  abbrev pub StaysShut : World P L → Refusal → World P L → Type 0
  StaysShut (Is_shut pages log) refusal (Is_shut new_pages new_log) = IsRefused pages log refusal new_pages new_log
  StaysShut (Is_shut pages log) refusal (Is_open new) = ⊥
  StaysShut (Is_open old) refusal new = ⊥

  abbrev pub StaysOpen : World P L → World P L → Type 0
  StaysOpen (Is_open old) new = new ≡ Is_open old
  StaysOpen (Is_shut pages log) new = ⊥

  -- The happening met the one world, was answered so, and left the other.
  abbrev pub Happened : Course → Happening → World P L → Answer → World P L → Type 0
  Happened course x old (Answered reply) new = Answers (called course x) old reply new
  Happened course x old (Crashed count) new = CrashesTo x old count new
  Happened course x old (Restarted report) new = IsTrue (restarts x) × Opens old report new
  Happened course x old (Refused refusal) new = IsTrue (restarts x) × StaysShut old refusal new
  Happened course x old Running new = IsTrue (restarts x) × StaysOpen old new
  Happened course x old Nothing new = DoesNothing course x × (new ≡ old)

  -- both devices were formatted for this size
  abbrev pub Begins : Sizes → World P L → Type 0
  Begins z (Is_shut pages log) = IsInRange z × EachPair p l pages log (IsStore z [])
  Begins z (Is_open engine) = ⊥

  -- The course led from a store that was formatted to this world, one happening after the other.
  abbrev pub Led : Sizes → Course → World P L → Type 0
  Led z [] world = Begins z world
  Led z (a ∷ course) world = (met : World P L) × Led z course met × Happened course a.0 met a.1 world

  -- the devices of a world that is given up
  abbrev pub GivesUp : World P L → P → L → Type 0
  GivesUp (Is_shut old_pages old_log) pages log = (pages ≡ old_pages) × (log ≡ old_log)
  GivesUp (Is_open engine) pages log = (pages ≡ engine.pages) × (log ≡ engine.log) × Keeps engine

  -- the course was run, and these are the devices at its end
  pub record IsRun (z : Sizes) (course : Course) (pages : P) (log : L) : Type 0 where
    pub end : World P L
    pub led : Led z course end
    pub given : GivesUp end pages log
