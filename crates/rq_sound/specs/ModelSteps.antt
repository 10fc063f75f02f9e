-- One call of a store: what it was, what it gave, and what that makes of the ledger.
use Rattle.std.specs.Prelude.{◌≡◌, ◌≤◌}
use Rattle.rq_model.specs.History.{Entry, Call}
use Rattle.rq_model.specs.Ledger.{after}
use Rattle.rq_model.specs.Legal.{Legal}
use Rattle.rq_model.specs.Replay.{Reply, Says}
use Rattle.rq_store.specs.State.{size_of, State, ledger_of}
use Rattle.rq_store.specs.Steps.{Continues}
use Rattle.rq_sound.specs.Sound.{IsSound}

-- The call with what it gave is an entry that may come next, and the store after it is what the entry makes of the
-- store before. Its log goes on, and what was forced stays forced.
pub record IsModelStep (old : State) (call : Call) (gave : Reply) (new : State) : Type 0 where
  pub entry : Entry
  pub says : Says call gave entry
  pub legal : Legal (size_of old.sizes) (ledger_of old) entry
  pub after : ledger_of new ≡ after entry (ledger_of old)
  pub sound : IsSound new
  pub goes_on : Continues old.records new.records
  pub stays_forced : old.forced ≤ new.forced
