-- What the device of a log tells that is gone on with, whatever the pages are: the records that it told, and others behind.
use Rattle.std.specs.Prelude.{◌≡◌, ◌⊎◌, ℕ, List, ◌++◌}
use Rattle.rq_model.specs.declared.record.Record.{Record}
use Rattle.rq_model.specs.Bases.{standing}
use Rattle.rq_disk.specs.declared.device.LogDevice.{Ghosts}
use Rattle.rq_log.specs.Crash.{LeavesOnly}
use Rattle.rq_log.specs.Spelled.{spelled, AreSpelled, EndsWith, GoOnTo}

-- what stands of a log is what stood of an older one, and records behind
abbrev pub StandsBehind : List Record → List Record → Type 0
StandsBehind older now = (behind : List Record) × (standing now ≡ behind ++ standing older)

-- These bytes tell the log that was read with records behind it, and a torn end perhaps. They are the first of all that these spell or,
-- as long as the end that was read is not cut off, of what was read.
pub record TellsBehind (older : List Record) (seen bytes : List ℕ) : Type 0 where
  pub now : List Record
  pub more : StandsBehind older now
  pub told : AreSpelled now
  pub is : EndsWith now bytes
  pub first : GoOnTo bytes seen ⊎ ((all : List Record) × AreSpelled all × StandsBehind older all × GoOnTo bytes (spelled all))

module _ {L : Type 0} (l : Ghosts L) where
  -- it tells no log
  abbrev pub TellsNone : L → Type 0
  TellsNone log = (older : List Record) → AreSpelled older → EndsWith older (l.seen log) → ⊥

  -- a crash might have left it of the log before, or it tells that log with records behind
  abbrev pub WasLeftOrTells : L → List Record → List ℕ → Type 0
  WasLeftOrTells log older c = l.may_leave log c ⊎ TellsBehind older (l.seen log) c

  -- so does all that a crash leaves, now and at any moment since, and at the end what the device reads as
  pub record KeepsTold (log now : L) (older : List Record) (ended : Type 0) : Type 0 where
    pub crash : (c : List ℕ) → l.may_leave now c → WasLeftOrTells log older c
    pub moments : LeavesOnly l log now (WasLeftOrTells log older)
    pub reads : ended → TellsBehind older (l.seen log) (l.seen now)

  -- whatever log an honest device told
  abbrev pub GoesOnTelling : L → L → Type 0 → Type 0
  GoesOnTelling log now ended =
      l.honest now → (older : List Record) → AreSpelled older → EndsWith older (l.seen log) → KeepsTold log now older ended
