-- Other records in place of those of which nothing is known. A store may be opened over a log that tells only how many records
-- stood before it. It has a mark for each of those, a Restart of incarnation 0, which no log has.
use Rattle.std.specs.Prelude.{◌≡◌, zero, List, [], ◌∷◌, length}
use Rattle.rq_model.specs.declared.record.Record.{Record}
use Rattle.rq_model.specs.declared.record.Record.TheVariants.{Restart}
use Rattle.rq_store.specs.State.{State}
use Rattle.rq_sound.specs.Sound.{IsSound}
use Rattle.rq_engine.specs.Opened.{OpenStore}

abbrev pub unknown_one : Record → List Record → List Record → List Record
unknown_one (Restart zero) log rest = Restart zero ∷ log
unknown_one _ log rest = rest

-- the records of which nothing is known, and what stands before them
abbrev pub unknown : List Record → List Record
unknown [] = []
unknown (r ∷ log) = unknown_one r log (unknown log)

abbrev pub rebased_one : List Record → Record → List Record → List Record
rebased_one e (Restart zero) rest = e
rebased_one e r rest = r ∷ rest

-- the log with these in their place
abbrev pub rebased : List Record → List Record → List Record
rebased e [] = []
rebased e (r ∷ log) = rebased_one e r (rebased e log)

-- the store, had these been the earlier records
abbrev pub on : List Record → State → State
on e s = record s { records = rebased e s.records }

-- as many as stand there
abbrev pub IsEarlier : List Record → State → Type 0
IsEarlier e s = length e ≡ length (unknown s.records)

-- there are some with which it is sound
abbrev pub IsSoundOver : State → Type 0
IsSoundOver s = (e : List Record) × IsEarlier e s × IsSound (on e s)

abbrev pub over : {P L : Type 0} → List Record → OpenStore P L → OpenStore P L
over e s = record s { state = on e s.state }
