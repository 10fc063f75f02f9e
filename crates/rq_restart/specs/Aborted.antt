-- What a call leaves that undoes lost transactions.
use Rattle.std.specs.Prelude.{IfErr, OnErr, OnOk, List, Result}
use Rattle.rq_model.specs.declared.record.Record.{Record}
use Rattle.rq_model.specs.declared.refusal.Refusal.{Refusal}
use Rattle.rq_disk.specs.declared.device.LogDevice as log_device
use Rattle.rq_disk.specs.declared.device.PageDevice as page_device
use Rattle.rq_log.specs.Logged.{Logged}
use Rattle.rq_pool.specs.Pooled.{Pooled}
use Rattle.rq_store.specs.State.{State}
use Rattle.rq_restart.specs.Aborting.{AbortStops, AbortsBehind, AbortsFrom, HasGoneOn, IsAbortingFrom, IsShown}
use Rattle.rq_restart.specs.Standing.{Found, KeepsStore, StandsOver}
use Rattle.rq_restart.specs.Undoing.{GoesOn, HaveBeenHonest, HaveToldTruly}

-- Records came behind the log, as is said of them, and were repeated on the pages, or it is told why no more did. A store of which the
-- one was so is one of which the other is then. Where the call stopped, each crash so far left a store of it.
pub record Carries {P L : Type 0} (p : page_device.Ghosts P) (l : log_device.Ghosts L) (came : Type 0) (on_way : List Record → Type 0)
    (before after : List Record → State → Type 0) (old : Pooled P) (log : Logged L) (result : Result Unit Refusal) (new : Pooled P)
    (now : Logged L) : Type 0 where
  pub gone_on : OnOk result (HaveToldTruly p l old new now.device
      → HasGoneOn old.sizes came log.records now.records old new before after)
  pub stops : IfErr result (λ e. HaveToldTruly p l old new now.device → AbortStops old.sizes on_way log.records old before e)
  pub goes_on : GoesOn p l old log.device log.records result new now.device now.records
  pub way : HaveBeenHonest p l new.device now.device → (f : Found P L) → StandsOver p l f before old log
      → OnOk result (StandsOver p l f after new now) × OnErr result (KeepsStore p l f new.device now.device)

-- so rounds of undoing came, and a store that was shown is shown then
pub record Aborts {P L : Type 0} (p : page_device.Ghosts P) (l : log_device.Ghosts L) (old : Pooled P) (log : Logged L)
    (result : Result Unit Refusal) (new : Pooled P) (now : Logged L) : Type 0 where
  pub behind : OnOk result (l.honest now.device → AbortsBehind log.records now.records)
  pub carries : Carries p l (AbortsFrom old.sizes log.records old now.records) (IsAbortingFrom old.sizes log.records old)
      (IsShown log.records old) (IsShown now.records new) old log result new now
