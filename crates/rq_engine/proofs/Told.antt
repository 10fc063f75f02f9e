-- What is told of a place of the log, of an engine.
use Rattle.std.proofs.Common.{◌≡◌, ℕ, ◌+◌, ◌^◌, ◌<◌, ◌≤◌, false, List, length, arith}
use Rattle.rq_model.specs.declared.record.Record.{Record}
use Rattle.rq_model.specs.declared.refusal.Refusal.{Refusal}
use Rattle.rq_model.specs.declared.refusal.Refusal.TheVariants as why
use Rattle.rq_model.specs.declared.refusal.Damage.TheVariants as damage
use Rattle.rq_disk.specs.declared.device.LogDevice.{Ghosts}
use Rattle.rq_log.specs.Places.{NotToldFor}
use Rattle.rq_log.specs.Spelled.{AreSpelled, spelled}
use Rattle.rq_model.specs.Bases.{standing}
use Rattle.rq_model.proofs.Bases.{length_standing}
use Rattle.rq_log.proofs.Keeping.{few_bytes}
use Rattle.rq_engine.specs.Opened.{NotTold, OpenStore}

-- a number of 64 bits counts the bytes of its log
pub log_fits : (records : List Record) (more : ℕ) → AreSpelled records → length records + more ≤ 2 ^ 50 → length (spelled records) < 2 ^ 64
log_fits records more are few = let bytes = few_bytes (standing records) are in let all = length_standing records in omega (arith, bytes, few, all)

pub not_told : {P L : Type 0} (g : Ghosts L) (old new : OpenStore P L) (place : ℕ) (e : Refusal) → old.state.failed ≡ false → length (spelled old.state.records) < 2 ^ 64
    → NotToldFor g e old.state.records place old.log new.log → NotTold g old place new e
not_told g old new place why.DiskRead running few h = (running, h.0, λ honest. h.1 honest few)
not_told g old new place (why.Damaged (damage.Record lsn)) running few h = (running, h.0, h.1, λ honest. h.2 honest few)
not_told g old new place _ running few h = absurd h
