-- What a run refuses: replies, refusals and reports that the store did not give.
use Rattle.std.specs.Prelude.{◌≡◌, ℕ, false, List, length, Some}
use Rattle.rq_model.specs.declared.record.Record.{Record}
use Rattle.rq_model.specs.declared.refusal.Refusal.{Refusal}
use Rattle.rq_model.specs.declared.refusal.Refusal.TheVariants as why
use Rattle.rq_model.specs.History.{Call}
use Rattle.rq_model.specs.History.Call.{Write_page}
use Rattle.rq_model.specs.Replay.{Reply}
use Rattle.rq_model.specs.Replay.Reply.{Gave_refusal, Gave_written}
use Rattle.rq_model.specs.Unended.{lost, unfinished}
use Rattle.rq_disk.specs.declared.mem_log.MemLog.{MemLog}
use Rattle.rq_disk.specs.declared.mem_pages.MemPages.{MemPages}
use Rattle.rq_log.specs.Spelled.{EndsWith}
use Rattle.rq_page.specs.Formatted.{IsFormatted}
use Rattle.rq_page.specs.Sizes.{Sizes, IsInRange}
use Rattle.rq_store.specs.State.{State}
use Rattle.rq_store.specs.Whole.{IsWhole}
use Rattle.rq_sound.specs.Latching.{IsLatched}
use Rattle.rq_sound.specs.Sound.{IsSound}
use Rattle.rq_engine.specs.Earlier.{IsEarlier, IsSoundOver, on}
use Rattle.rq_engine.specs.Opened.{OpenStore}
use Rattle.rq_restart.specs.Restarting.{Stops}
use Rattle.rq_core.specs.Devices.{mem_pages, mem_log}
use Rattle.rq_restart.specs.declared.restart.Report.{Report}
use Rattle.rq_core.specs.Happenings.{Course}
use Rattle.rq_core.specs.Happened.{IsAsked}
use Rattle.rq_core.specs.Runs.{IsOpened, IsRefused, Led}
use Rattle.rq_core.specs.World.World.{Is_open, Is_shut}

-- An open store over devices in memory was asked this, and answered so.
abbrev pub Replied : Call → Reply → OpenStore MemPages MemLog → OpenStore MemPages MemLog → Type 0
Replied call reply old new = IsAsked mem_pages mem_log (Some call) reply old new

-- Why a restart was refused, by the log that it read. Memory was wanting, a device failed then, or it was refused as LogFull.
-- For LogFull that log is at its greatest length. It is never refused for what stands on its devices. The sizes are those that its
-- first page tells.
pub record IsRefusedOver (pages : MemPages) (log : MemLog) (refusal : Refusal) (new_pages : MemPages) (new_log : MemLog)
    : Type 0 where
  pub z : Sizes
  pub range : IsInRange z
  pub told : IsFormatted z 0 (mem_pages.seen pages 0)
  pub read : List Record
  pub reads : EndsWith read (mem_log.seen log)
  pub whole : IsWhole z read
  pub cause : Stops (Unit {0}) z read refusal (mem_pages.faults pages) (mem_pages.faults new_pages) (mem_log.faults log)
      (mem_log.faults new_log)

-- others have latched all that the call may start, whatever stood before the store's Base; and there is what may have
pub record IsLatchedOver (s : State) (call : Call) : Type 0 where
  pub some : IsSoundOver s
  pub each : (past : List Record) → IsEarlier past s → IsSound (on past s) → IsLatched (on past s) call

-- what a restart reports is so of the log that it read, and of the store that it opened
pub record IsReportedOver (log : MemLog) (report : Report) (new : OpenStore MemPages MemLog) : Type 0 where
  pub read : List Record
  pub reads : EndsWith read (mem_log.seen log)
  pub whole : IsWhole new.state.sizes read
  pub unfinished_are : report.unfinished ≡ length (unfinished read)
  pub lost_are : report.lost ≡ length (lost read)
  pub records_are : report.records ≡ length new.state.records

pub record AreRunsJudged : Type 0 where
  -- where a page write is answered Nothing, nothing was handed over
  pub nothing : (page : ℕ) (old new : OpenStore MemPages MemLog) → Replied (Write_page page) (Gave_written false) old new
      → new.log ≡ old.log
  -- a call is refused as Latched only where the very store that it met has latched all that the call may start
  pub latched : (z : Sizes) (course : Course) (call : Call) (old new : OpenStore MemPages MemLog)
      → Led z course (Is_open old) → Replied call (Gave_refusal why.Latched) old new → IsLatchedOver old.state call
  pub refused : (z : Sizes) (course : Course) (pages new_pages : MemPages) (log new_log : MemLog) (refusal : Refusal)
      → Led z course (Is_shut pages log) → IsRefused pages log refusal new_pages new_log
      → IsRefusedOver pages log refusal new_pages new_log
  pub reported : (z : Sizes) (course : Course) (pages : MemPages) (log : MemLog) (report : Report)
      (new : OpenStore MemPages MemLog) → Led z course (Is_shut pages log) → IsOpened pages log report new
      → IsReportedOver log report new
