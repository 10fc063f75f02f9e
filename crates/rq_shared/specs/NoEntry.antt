-- What a call leaves of a kept engine that left no entry.
use Rattle.std.specs.Prelude.{◌≡◌}
use Rattle.rq_disk.specs.declared.device.PageDevice as page_device
use Rattle.rq_engine.specs.KeptUp.{KeepsUp}
use Rattle.rq_engine.specs.Says.{call_of}
use Rattle.rq_engine.specs.declared.event.Event.{Event}
use Rattle.rq_shared.specs.Entries.{Audited}

-- Pages of the engine were perhaps read, and of a start others written out; where the call reads none, it is as it was. So are its
-- audit, what that begins with, and how much was taken before.
pub record LeavesNone {P L : Type 0} (p : page_device.Ghosts P) (e : Event) (old new : Audited P L) : Type 0 where
  pub engine : KeepsUp p (call_of e) old.engine new.engine
  pub audit : new.audit ≡ old.audit
  pub base : new.base ≡ old.base
  pub taken : new.taken ≡ old.taken
