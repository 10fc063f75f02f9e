-- Audits that replay, engines that were sound when they were shared and marks that were published, of a shared engine;
-- and those that aren't.
use Rattle.std.specs.Prelude.{List, [], ◌∷◌}
use Rattle.rq_model.specs.declared.record.Record.TheVariants.{Base, Restart}
use Rattle.rq_model.specs.History.Call.{Begin, Start_receive}
use Rattle.rq_model.specs.Replay.Reply.{Gave_none, Gave_sub, Gave_txn}
use Rattle.rq_disk.specs.declared.mem_log.MemLog.{MemLog}
use Rattle.rq_disk.specs.declared.mem_pages.MemPages.{MemPages}
use Rattle.rq_views.specs.WorkedItems.{t1, t2}
use Rattle.rq_model.specs.declared.txn.Txn.{Txn}
use Rattle.rq_txn.specs.Rows.{fresh_row}
use Rattle.rq_store.specs.Opening.{opened}
use Rattle.rq_store.specs.State.{State}
use Rattle.rq_shared.specs.Entries.{BeginsSound, Follows, Noted, WasSound}
use Rattle.rq_core.specs.Devices.{mem_log, mem_pages}
use Rattle.rq_cases.specs.Opened.{over}
use Rattle.rq_cases.specs.Run.{begun_again, forced, log_5, take_started}
use Rattle.rq_cases.specs.Store.{formatted_pages, sizes}

-- transaction 1.2 is begun, and its receive is started
abbrev pub began : Noted
began = record { pass = 1; call = Begin; gave = Gave_txn t2 }

abbrev pub took : Noted
took = record { pass = 2; call = Start_receive t2; gave = Gave_sub t2 1 }

-- the audit leads from one state to the other, over the same devices
abbrev pub Leads : State → List Noted → State → Type 0
Leads base audit new = (pages : MemPages) (log : MemLog)
    → Follows mem_pages mem_log (over base pages log) audit (over new pages log)

abbrev pub LeadsNot : State → List Noted → State → Type 0
LeadsNot base audit new = (pages : MemPages) (log : MemLog)
    → Follows mem_pages mem_log (over base pages log) audit (over new pages log) → ⊥

-- more records are forced than there are: it is not sound
abbrev pub beyond : State
beyond = record forced { forced = 6 }

-- A restart opened it over a log that a Base begins, and knows nothing of the record that stood before that. Then a transaction
-- is begun.
abbrev pub behind_a_base : State
behind_a_base = opened sizes formatted_pages (Base 1 1 ∷ Restart 0 ∷ [])

abbrev pub next : Txn
next = record { incarnation = 2; count = 1 }

abbrev pub begun_behind : State
begun_behind = record behind_a_base { rows = fresh_row next ∷ []; begins = 1 }

-- an engine in this state may be shared under this premise
abbrev pub MayBeShared : Type 0 → State → Type 0
MayBeShared premise s = (pages : MemPages) (log : MemLog) → WasSound mem_pages mem_log premise (over s pages log)

-- an engine whose audit began in this state, before those two calls, was sound then under this premise
abbrev pub Began : Type 0 → State → MemPages → MemLog → Type 0
Began premise s pages log = BeginsSound mem_pages mem_log premise (record {
  engine = over take_started pages log;
  audit = began ∷ took ∷ [];
  base = over s pages log;
  taken = 0;
})

pub record AuditsAreJudged : Type 0 where
  pub of_two_calls : Leads forced (began ∷ took ∷ []) take_started
  pub call_left_out : LeadsNot forced (took ∷ []) take_started
  pub all_left_out : LeadsNot forced [] begun_again
  pub another_number : LeadsNot forced (record { pass = 1; call = Begin; gave = Gave_txn t1 } ∷ []) begun_again
  pub another_call : LeadsNot forced (record { pass = 1; call = Begin; gave = Gave_none } ∷ []) begun_again
  -- no call adds a record of which nothing is known
  pub adds_a_mark : LeadsNot forced [] (record forced { records = Restart 0 ∷ log_5 })
  -- behind a Base, whatever stood before that
  pub led_behind : Leads behind_a_base (record { pass = 1; call = Begin; gave = Gave_txn next } ∷ []) begun_behind
  pub not_led_behind : LeadsNot behind_a_base (record { pass = 1; call = Begin; gave = Gave_txn t1 } ∷ []) begun_behind
  -- what is shared is sound, or its premise fails
  pub shared_sound : MayBeShared (Unit {0}) forced
  pub shared_behind : MayBeShared (Unit {0}) behind_a_base
  pub shared_unsound : (pages : MemPages) (log : MemLog)
      → WasSound mem_pages mem_log (Unit {0}) (over beyond pages log) → ⊥
  pub shared_without_premise : MayBeShared ⊥ beyond
  pub began_sound : (pages : MemPages) (log : MemLog) → Began (Unit {0}) forced pages log
  pub began_unsound : (pages : MemPages) (log : MemLog) → Began (Unit {0}) beyond pages log → ⊥
  pub began_without_premise : (pages : MemPages) (log : MemLog) → Began ⊥ beyond pages log
