-- What a run refuses.
use Rattle.std.proofs.Common.{◌≡◌, ℕ, false, List, Option, Some, None, true≢false, refl, sym, ◌∙◌, ap, subst}
use Rattle.rq_model.specs.declared.record.Record.{Record}
use Rattle.rq_model.specs.declared.refusal.Refusal.{Refusal}
use Rattle.rq_model.specs.declared.refusal.Refusal.TheVariants as why
use Rattle.rq_model.specs.History.{Call, Entry}
use Rattle.rq_model.specs.History.Call.{Write_page}
use Rattle.rq_model.specs.Legal.{Legal, LegalRefusal}
use Rattle.rq_model.specs.Replay.{Reply as Gave}
use Rattle.rq_model.specs.Replay.Reply.{Gave_refusal}
use Rattle.rq_model.specs.Tests.{starts}
use Rattle.rq_disk.specs.declared.mem_log.MemLog.{MemLog}
use Rattle.rq_disk.specs.declared.mem_pages.MemPages.{MemPages}
use Rattle.rq_page.specs.Sizes.{Sizes}
use Rattle.rq_store.specs.State.{State, ledger_of, size_of}
use Rattle.rq_store.specs.Whole.{IsWhole}
use Rattle.rq_sound.specs.Latching.{IsLatched}
use Rattle.rq_sound.specs.Sound.{IsSound}
use Rattle.rq_engine.specs.Applied.{Applied, LatchedSay}
use Rattle.rq_engine.specs.Earlier.{IsEarlier, on}
use Rattle.rq_engine.specs.Opened.{OpenStore}
use Rattle.rq_engine.specs.Says.{LogSays, call_of, gave}
use Rattle.rq_engine.specs.declared.event.Event.{Event}
use Rattle.rq_engine.specs.declared.event.Event.TheVariants as event
use Rattle.rq_level.specs.declared.writes.Outcome.TheVariants as outcome
use Rattle.rq_engine.specs.declared.event.Progress.TheVariants as progress
use Rattle.rq_engine.specs.declared.event.Reply.{Reply}
use Rattle.rq_engine.specs.declared.event.Reply.TheVariants as reply
use Rattle.rq_restart.specs.Once.{OneSizeEach}
use Rattle.rq_restart.specs.Restarting.{IsLeftOn, Reports, Stops}
use Rattle.rq_core.specs.Devices.{mem_pages, mem_log}
use Rattle.rq_restart.specs.declared.restart.Report.{Report}
use Rattle.rq_core.specs.Happenings.{Course}
use Rattle.rq_core.specs.Judged.{AreRunsJudged, Replied, IsLatchedOver, IsRefusedOver, IsReportedOver}
use Rattle.rq_core.specs.Runs.{IsOpened, IsRefused, Led, MemWorld, Ran}
use Rattle.rq_core.specs.Headline.{sizes_at}
use Rattle.rq_core.specs.World.{IsOpen, IsShut}
use Rattle.rq_core.specs.World.World.{Is_open, Is_shut}
use Rattle.rq_core.proofs.Devices.{some_page, some_log}
use Rattle.rq_core.proofs.Worlds.{read_of}

still_log : (page : ℕ) (e : Event) (r : Reply) (old new : OpenStore MemPages MemLog) → Some (Write_page page) ≡ Some (call_of e) → LogSays mem_log old new e r → new.log ≡ old.log
still_log page event.HandOver r old new is h = cc is
still_log page event.Force r old new is h = cc is
still_log page event.Checkpoint r old new is h = cc is
still_log page (event.Migrate pages) r old new is h = cc is
still_log page _ r old new is h = h

-- the reply that gave a refusal
abbrev refusal_in : Gave → Refusal → Refusal
refusal_in (Gave_refusal r) other = r
refusal_in _ other = other

refused_so : (told : Reply) (r : Refusal) → Gave_refusal r ≡ gave told → told ≡ reply.Refused r
refused_so (reply.Refused k) r e = ap (λ g. reply.Refused (refusal_in g r)) (sym e)
refused_so (reply.Stepped progress.Ready) r e = cc e
refused_so (reply.Stepped (progress.Done lsn)) r e = cc e
refused_so (reply.Finished outcome.Sent) r e = cc e
refused_so (reply.Finished (outcome.Message m)) r e = cc e
refused_so (reply.Finished outcome.Closed) r e = cc e
refused_so (reply.Finished outcome.Undone) r e = cc e
refused_so _ r e = cc e

abbrev call_in : Option Call → Call → Call
call_in (Some call) other = call
call_in None other = other

-- which calls may be refused as latched, and where
module _ (s : State) where
  starts_none : (c : Call) → starts (size_of s.sizes) (ledger_of s) c ≡ false → LegalRefusal (size_of s.sizes) (ledger_of s) c why.Latched → IsLatched s c
  starts_none c none legal = absurd (true≢false (sym legal.1 ∙ none))

  by_latches : (e : Event) → LegalRefusal (size_of s.sizes) (ledger_of s) (call_of e) why.Latched → LatchedSay (Unit {0}) s e (reply.Refused why.Latched) → IsLatched s (call_of e)
  by_latches event.Begin legal say = starts_none (call_of event.Begin) refl legal
  by_latches (event.StartSend txn sender tag body) legal say = say tt
  by_latches (event.StartReceive txn) legal say = say tt
  by_latches (event.StartReceiveFrom txn sender) legal say = say tt
  by_latches (event.StartClose txn sender) legal say = say
  by_latches (event.StartMark txn client tag) legal say = say
  by_latches (event.Step sub) legal say = starts_none (call_of (event.Step sub)) refl legal
  by_latches (event.Finish sub) legal say = starts_none (call_of (event.Finish sub)) refl legal
  by_latches (event.Commit txn) legal say = starts_none (call_of (event.Commit txn)) refl legal
  by_latches (event.Acknowledged number) legal say = starts_none (call_of (event.Acknowledged number)) refl legal
  by_latches (event.StartAbort txn) legal say = starts_none (call_of (event.StartAbort txn)) refl legal
  by_latches (event.UndoNext txn) legal say = say tt
  by_latches (event.EndAbort txn) legal say = starts_none (call_of (event.EndAbort txn)) refl legal
  by_latches event.HandOver legal say = starts_none (call_of event.HandOver) refl legal
  by_latches event.Force legal say = starts_none (call_of event.Force) refl legal
  by_latches event.Checkpoint legal say = starts_none (call_of event.Checkpoint) refl legal
  by_latches (event.Migrate pages) legal say = starts_none (call_of (event.Migrate pages)) refl legal
  by_latches (event.WritePage page) legal say = starts_none (call_of (event.WritePage page)) refl legal
  by_latches (event.LastTag sender) legal say = starts_none (call_of (event.LastTag sender)) refl legal
  by_latches (event.ClientTag client) legal say = starts_none (call_of (event.ClientTag client)) refl legal
  by_latches event.Content legal say = starts_none (call_of event.Content) refl legal

-- why a restart was refused, of devices that are known to hold a store
given : (r : Refusal) (left : Type 0) (z : Sizes) (older : List Record) (a b c d : ℕ) → left → Stops left z older r a b c d → Stops (Unit {0}) z older r a b c d
given why.NoMemory left z older a b c d there s = tt
given why.DiskRead left z older a b c d there s = s
given why.DiskWrite left z older a b c d there s = s
given why.LogFull left z older a b c d there s = λ u. s there
given (why.Damaged e) left z older a b c d there s = λ u. s there
given _ left z older a b c d there s = absurd s

-- a restart of a store that is shut was refused
pub refused_over : (z : Sizes) (h : List Entry) (pages new_pages : MemPages) (log new_log : MemLog) (r : Refusal) → IsShut mem_pages mem_log z h pages log → IsRefused pages log r new_pages new_log → IsRefusedOver pages log r new_pages new_log
refused_over z h pages new_pages log new_log r here stopped =
    let there = read_of mem_pages mem_log (λ d. tt) (λ d. tt) z some_page some_log h pages log here in
    let y = sizes_at z h in
    record {
      z = y;
      range = here.range;
      told = there.left.fits.superblock;
      read = there.read;
      reads = there.reads;
      whole = there.left.whole;
      cause = given r (IsLeftOn mem_pages y pages new_pages there.read) y there.read (mem_pages.faults pages) (mem_pages.faults new_pages) (mem_log.faults log) (mem_log.faults new_log) (record { honest = tt; left = there.left })
          (stopped.refuses.stops tt y (record { range = here.range; formatted = there.left.fits.superblock }) there.read (record { honest = tt; are_spelled = there.told; reads = there.reads }));
    }

module _ (size_once : OneSizeEach) (met : (z : Sizes) (course : Course) (w : MemWorld) → Led z course w → Ran z course w) (z : Sizes) (course : Course) where
  latched : (call : Call) (old new : OpenStore MemPages MemLog) → Led z course (Is_open old) → Replied call (Gave_refusal why.Latched) old new → IsLatchedOver old.state call
  latched call old new led a = record { some = (o.past, o.long, o.sound); each = each } where
    ran : Ran z course (Is_open old)
    ran = met z course (Is_open old) led

    o : IsOpen mem_pages mem_log z ran.history old
    o = ran.stands

    each : (past : List Record) → IsEarlier past old.state → IsSound (on past old.state) → IsLatched (on past old.state) call
    each past long sound =
        let b : Applied mem_pages mem_log old a.event (reply.Refused why.Latched) new = subst (λ r. Applied mem_pages mem_log old a.event r new) (refused_so a.told why.Latched a.reply_is) a.applied in
        let s = b.steps (tt, tt) past long sound in
        let legal : LegalRefusal (size_of old.state.sizes) (ledger_of (on past old.state)) (call_of a.event) why.Latched = subst (Legal (size_of old.state.sizes) (ledger_of (on past old.state))) s.says s.legal in
        let is : call_of a.event ≡ call = ap (λ o. call_in o call) (sym a.call_is) in
        subst (IsLatched (on past old.state)) is (by_latches (on past old.state) a.event legal (b.latched past long sound))

  refused : (pages new_pages : MemPages) (log new_log : MemLog) (r : Refusal) → Led z course (Is_shut pages log) → IsRefused pages log r new_pages new_log → IsRefusedOver pages log r new_pages new_log
  refused pages new_pages log new_log r led stopped =
      let ran : Ran z course (Is_shut pages log) = met z course (Is_shut pages log) led in
      refused_over z ran.history pages new_pages log new_log r ran.stands stopped

  reported : (pages : MemPages) (log : MemLog) (report : Report) (new : OpenStore MemPages MemLog) → Led z course (Is_shut pages log) → IsOpened pages log report new → IsReportedOver log report new
  reported pages log report new led opened =
      let ran : Ran z course (Is_shut pages log) = met z course (Is_shut pages log) led in
      let here : IsShut mem_pages mem_log z ran.history pages log = ran.stands in
      let there = read_of mem_pages mem_log (λ d. tt) (λ d. tt) z some_page some_log ran.history pages log here in
      let told : Reports new.state.sizes there.read new.state.records report.incarnation report.records report.unfinished report.lost = (opened.opens.over there.read (record { honest = tt; are_spelled = there.told; reads = there.reads })).reports in
      let is : new.state.sizes ≡ sizes_at z ran.history = size_once new.state.sizes (sizes_at z ran.history) (mem_pages.seen pages 0) (opened.opens.sizes tt) (record { range = here.range; formatted = there.left.fits.superblock }) in
      let whole : IsWhole new.state.sizes there.read = subst (λ y. IsWhole y there.read) (sym is) there.left.whole in
      record { read = there.read; reads = there.reads; whole = whole; unfinished_are = told.unfinished_are whole; lost_are = told.lost_are whole; records_are = told.records_are }

pub judged : OneSizeEach → ((z : Sizes) (course : Course) (w : MemWorld) → Led z course w → Ran z course w) → AreRunsJudged
judged size_once met = record {
  nothing = λ page old new a. still_log page a.event a.told old new a.call_is a.applied.log;
  latched = latched size_once met;
  refused = refused size_once met;
  reported = reported size_once met;
}
