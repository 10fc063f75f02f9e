-- What calls answer, what that says of devices, and what is shown: over the worked run, and what isn't so.
use Rattle.std.specs.Prelude.{◌≡◌, List, [], ◌∷◌, Option, Some, None}
use Rattle.rq_model.specs.declared.record.Record.{Record}
use Rattle.rq_model.specs.History.Call.{Acknowledge, Commit, Force}
use Rattle.rq_model.specs.Replay.{Number}
use Rattle.rq_model.specs.Replay.Reply.{Gave_commit, Gave_forced, Gave_receipt}
use Rattle.rq_disk.specs.declared.mem_log.MemLog.{MemLog}
use Rattle.rq_disk.specs.declared.mem_pages.MemPages.{MemPages}
use Rattle.rq_store.specs.State.{State}
use Rattle.rq_views.specs.WorkedItems.{t1}
use Rattle.rq_engine.specs.Opened.{OpenStore}
use Rattle.rq_shared.specs.Calls.{IsTaken}
use Rattle.rq_shared.specs.Entries.{Noted}
use Rattle.rq_shared.specs.Receipts.{IsDurable, IsReceiptOf}
use Rattle.rq_core.specs.Devices.{mem_log, mem_pages}
use Rattle.rq_cases.specs.Audits.{began, beyond, took}
use Rattle.rq_cases.specs.Opened.{IsNewLog, over}
use Rattle.rq_cases.specs.Run.{committed, forced, log_1, log_5}

-- the commit of the send
abbrev pub of_send : Number
of_send = record { txn = t1; lsn = 5 }

abbrev pub asked_commit : Noted
asked_commit = record { pass = 1; call = Commit t1; gave = Gave_commit of_send }

abbrev pub asked_force : Noted
asked_force = record { pass = 2; call = Force; gave = Gave_forced 5 }

abbrev pub asked_receipt : Option Number → Noted
asked_receipt given = record { pass = 1; call = Acknowledge t1 5; gave = Gave_receipt given }

-- it was taken of a kept engine that began as this store, under this premise
abbrev pub AnAuditOf : Type 0 → State → MemPages → MemLog → List Noted → Type 0
AnAuditOf premise s pages log audit =
    IsTaken mem_pages mem_log premise (record { base = over s pages log; before = 0; audit = audit })

abbrev pub AnAudit : MemPages → MemLog → List Noted → Type 0
AnAudit pages log audit = AnAuditOf (Unit {0}) forced pages log audit

pub record ReceiptsAreJudged : Type 0 where
  -- a commit that no crash takes, and one that a crash may take
  pub durable : (pages : MemPages) (log : MemLog) → IsNewLog log log_5
      → IsDurable mem_log [] (over forced pages log) of_send
  pub not_forced : (pages : MemPages) (log : MemLog) → IsNewLog log log_1
      → IsDurable mem_log [] (over committed pages log) of_send → ⊥
  pub of_no_commit : (earlier : List Record) (s : OpenStore MemPages MemLog) (n : Number) → s.state.records ≡ log_1
      → IsDurable mem_log earlier s n → ⊥
  -- one that stood before what is known
  pub among_the_earlier : (s : OpenStore MemPages MemLog) → IsDurable mem_log log_5 s of_send → ⊥
  -- the audit that is left tells of the commit and of its receipt; or the commit was not forced, or it was taken before
  pub its_receipt : IsReceiptOf (asked_commit ∷ asked_force ∷ asked_receipt (Some of_send) ∷ []) of_send
  pub no_receipt_yet : IsReceiptOf (asked_commit ∷ asked_receipt None ∷ []) of_send → ⊥
  pub commit_taken_before : IsReceiptOf (asked_force ∷ asked_receipt (Some of_send) ∷ []) of_send → ⊥
  -- an audit that some kept engine had, and one that none had
  pub taken : (pages : MemPages) (log : MemLog) → AnAudit pages log (began ∷ took ∷ [])
  pub taken_of_nobody : (pages : MemPages) (log : MemLog) → AnAudit pages log (took ∷ []) → ⊥
  -- one that began with a store that was not sound: under a premise that holds there is none, under one that fails there
  -- may be
  pub taken_of_unsound : (pages : MemPages) (log : MemLog) → AnAuditOf (Unit {0}) beyond pages log [] → ⊥
  pub taken_without_premise : (pages : MemPages) (log : MemLog) → AnAuditOf ⊥ beyond pages log []
