-- What calls of a shared engine say, of a pass and of a seat.
use Rattle.std.specs.Prelude.{◌≡◌, ◌≢◌, ℕ, ◌+◌, ◌≤◌, [], ◌∷◌, ◌++◌}
use Rattle.rq_model.specs.declared.refusal.Refusal.TheVariants.{NoMemory}
use Rattle.rq_disk.specs.declared.device.LogDevice as log_device
use Rattle.rq_disk.specs.declared.device.PageDevice as page_device
use Rattle.rq_engine.specs.Applied.{Applied}
use Rattle.rq_engine.specs.declared.event.Event.{Event}
use Rattle.rq_engine.specs.declared.event.Event.TheVariants.{Force}
use Rattle.rq_engine.specs.declared.event.Reply.TheVariants.{Forced, Refused}
use Rattle.rq_shared.specs.declared.kept.Stamped.{Stamped}
use Rattle.rq_shared.specs.Entries.{Audited, TakenAudit, Follows, BeginsSound, OneMore, noted}
use Rattle.rq_shared.specs.Marks.{MarkView}
use Rattle.rq_shared.specs.NoEntry.{LeavesNone}
use Rattle.rq_shared.specs.Passes.{PassView}

-- The call of this event was made under a pass, and answered by this stamp. The pass counts it, but where memory was
-- wanting.
pub record IsCalled (old : PassView) (e : Event) (s : Stamped) (new : PassView) : Type 0 where
  pub pass : s.pass ≡ old.number
  pub event : s.event ≡ e
  pub number : new.number ≡ old.number
  pub counted : s.reply ≢ Refused NoMemory → new.calls ≡ old.calls + 1
  pub refused : s.reply ≡ Refused NoMemory → new.calls ≡ old.calls
  pub taken : new.taken ≡ old.taken

-- An audit of so many entries was taken under a pass, which counts them.
pub record CountsTaken (old : PassView) (entries : ℕ) (new : PassView) : Type 0 where
  pub number : new.number ≡ old.number
  pub calls : new.calls ≡ old.calls
  pub taken : new.taken ≡ old.taken + entries

-- One call of a kept engine, by whatever name: its stamp, and what it made of the engine and its audit.
pub record IsStepOf {P L : Type 0} (p : page_device.Ghosts P) (l : log_device.Ghosts L) (old : Audited P L) (number : ℕ)
    (e : Event) (s : Stamped) (new : Audited P L) : Type 0 where
  pub pass : s.pass ≡ number
  pub event : s.event ≡ e
  pub entry : s.reply ≢ Refused NoMemory → OneMore old.audit new.audit (noted number e s.reply)
  pub applied : s.reply ≢ Refused NoMemory → Applied p l old.engine e s.reply new.engine
  pub no_entry : s.reply ≡ Refused NoMemory → LeavesNone p e old new
  pub base : (new.base ≡ old.base) × (new.taken ≡ old.taken)

-- A force was called, and what was answered was published: the seat has seen at least as much.
pub record IsForced (old : PassView) (was : MarkView) (s : Stamped) (new : PassView) (now : MarkView) : Type 0 where
  pub called : IsCalled old Force s new
  pub table : now.table ≡ was.table
  pub seen : was.saw ≤ now.saw
  pub published : (lsn : ℕ) → s.reply ≡ Forced lsn → now.published ≡ was.published ++ lsn ∷ []
  pub forced : (lsn : ℕ) → s.reply ≡ Forced lsn → lsn ≤ now.saw

-- The audit of a kept engine was taken: it is handed on as it was, and replays to that engine.
pub record IsTakenOf {P L : Type 0} (p : page_device.Ghosts P) (l : log_device.Ghosts L) (k : Audited P L)
    (t : TakenAudit P L) : Type 0 where
  pub base : t.base ≡ k.base
  pub before : t.before ≡ k.taken
  pub audit : t.audit ≡ k.audit
  pub replays : Follows p l t.base t.audit k.engine

-- it is that of some kept engine, and under this premise it begins with a sound one
abbrev pub IsTaken : {P L : Type 0} → page_device.Ghosts P → log_device.Ghosts L → Type 0 → TakenAudit P L → Type 0
IsTaken {P} {L} p l premise t = (k : Audited P L) × IsTakenOf p l k t × BeginsSound p l premise k
