-- The call that a change of a store makes, how it is answered, and what it leaves.
use Rattle.std.specs.Prelude.{ℕ}
use Rattle.rq_model.specs.declared.refusal.Refusal.{Refusal}
use Rattle.rq_model.specs.History.{Call}
use Rattle.rq_model.specs.History.Call.{Checkpoint as Checkpoint_call, Migrate as Migrate_call}
use Rattle.rq_model.specs.Replay.{Reply}
use Rattle.rq_model.specs.Replay.Reply.{Gave_checkpoint, Gave_migrated}
use Rattle.rq_disk.specs.declared.device.LogDevice as log_device
use Rattle.rq_disk.specs.declared.device.PageDevice as page_device
use Rattle.rq_engine.specs.Checkpoint.{HasMadeOneRecord, NotCheckpointed}
use Rattle.rq_engine.specs.Migration.{HasMigrated, NotMigrated}
use Rattle.rq_engine.specs.Opened.{OpenStore}
use Rattle.rqm.specs.declared.change.Change.{Change}
use Rattle.rqm.specs.declared.change.Change.TheVariants.{Checkpoint, Migrate}

abbrev pub call_made : Change → Call
call_made Checkpoint = Checkpoint_call
call_made (Migrate tags) = Migrate_call tags

abbrev pub answered_by : Change → ℕ → Reply
answered_by Checkpoint lsn = Gave_checkpoint lsn
answered_by (Migrate tags) lsn = Gave_migrated lsn

module _ {P L : Type 0} (p : page_device.Ghosts P) (l : log_device.Ghosts L) where
  -- what it makes of the store and both devices
  abbrev pub HasChanged : Change → OpenStore P L → OpenStore P L → ℕ → Type 0
  HasChanged Checkpoint old new lsn = HasMadeOneRecord p l old new lsn
  HasChanged (Migrate tags) old new lsn = HasMigrated p l tags old new lsn

  -- why it was refused, and what that leaves
  abbrev pub NotChanged : Change → OpenStore P L → OpenStore P L → Refusal → Type 0
  NotChanged Checkpoint old new r = NotCheckpointed p l old new r
  NotChanged (Migrate tags) old new r = NotMigrated p l tags old new r
