use Rattle.std.proofs.Common.{◌≡◌, ◌-◌, ◌^◌, map, take, length}
use Rattle.std.specs.Prelude.{min}
use Rattle.rq_model.specs.Vocabulary.{last_or}
use Rattle.rq_reference.specs.Plain.{done_of, tags_in}
use Rattle.rq_reference.proofs.scans.told.Given as goal

-- those of the transactions so far
abbrev pub invariant-loop-row : goal.invariant-loop-row
invariant-loop-row l =
    let tags = tags_in l.tagged (map done_of (take l.row-index l.committed)) l.number in
    (l.told.0 ≡ min (2 ^ 64 - 1) (length tags)) × (l.told.1 ≡ last_or 0 tags)
