use Rattle.std.proofs.Common.{◌≡◌, ◌+◌, ◌-◌, ◌^◌, map, take, length}
use Rattle.std.specs.Prelude.{min}
use Rattle.std.specs.List.{filter_map}
use Rattle.rq_model.specs.Vocabulary.{last_or}
use Rattle.rq_reference.specs.Plain.{op_of, tag_for}
use Rattle.rq_reference.proofs.scans.told_with.Given as goal

-- those so far
abbrev pub invariant-loop-act : goal.invariant-loop-act
invariant-loop-act l =
    let tags = filter_map (tag_for l.tagged l.number) (map op_of (take l.act-index l.acts)) in
    (l.count ≡ min (2 ^ 64 - 1) (l.fn.told.0 + length tags)) × (l.last ≡ last_or l.fn.told.1 tags)
