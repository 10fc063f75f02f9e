-- What is decoded.
use Rattle.std.specs.Prelude.{◌≡◌, ℕ, ◌-◌, ◌≤◌, List, length, take, Result, Ok, Err}
use Rattle.rq_model.specs.declared.record.Record.{Record}
use Rattle.rq_record.specs.declared.reading.Stop.{Stop}
use Rattle.rq_record.specs.declared.reading.Stop.TheVariants as stops
use Rattle.rq_record.specs.declared.step.Step.{Step}
use Rattle.rq_record.specs.declared.step.Step.TheVariants as steps
use Rattle.rq_record.specs.declared.step.Decoded.{Decoded}
use Rattle.rq_record.specs.declared.step.Decoded.TheVariants as fronts
use Rattle.rq_record.specs.Spelling.{IsRecord, spelling}

-- a fact of the record that was decoded, and of the number of its bytes
abbrev pub IfRecord : Step → (Record → ℕ → Type 0) → Type 0
IfRecord (steps.Record r used) P = P r used
IfRecord steps.Short P = Unit {0}
IfRecord steps.Bad P = Unit {0}

-- the first bytes, so many of them, are the record's
abbrev pub IsFront : Record → ℕ → List ℕ → Type 0
IsFront r used bytes = IsRecord r × (used ≤ length bytes) × (take used bytes ≡ spelling r)

-- the answer that reading gives
abbrev pub step_of : List ℕ → Result (Record × List ℕ) Stop → Step
step_of bytes (Ok x) = steps.Record x.0 (length bytes - length x.1)
step_of bytes (Err stops.Short) = steps.Short
step_of bytes (Err stops.Bad) = steps.Bad

-- the answer, with the record that was lent
abbrev pub step_with : Decoded → Record → Step
step_with (fronts.Record used) r = steps.Record r used
step_with fronts.Short r = steps.Short
step_with fronts.Bad r = steps.Bad
