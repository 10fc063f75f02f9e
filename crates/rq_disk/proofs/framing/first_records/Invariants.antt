use Rattle.std.proofs.Common.{◌-◌, ◌≤◌, length, take}
use Rattle.rq_disk.specs.Records.{AreRecords}
use Rattle.rq_disk.proofs.framing.first_records.Given as goal

abbrev pub invariant-loop-count : goal.invariant-loop-count
invariant-loop-count l = record {
  within : l.end ≤ length l.bytes;
  whole : AreRecords l.count (take l.end l.bytes);
  at_most : l.count ≤ l.limit;
}

abbrev pub decreases-loop-count : goal.decreases-loop-count
decreases-loop-count l = l.limit - l.count
