use Rattle.std.proofs.Common.{◌≤◌, take, drop}
use Rattle.rq_disk.specs.Replay.{AllWrites, StartsFresh}
use Rattle.rq_disk.proofs.replay.calls_synced.Given as goal

abbrev pub invariant-loop-index : goal.invariant-loop-index
invariant-loop-index l = record {
  within : l.synced ≤ l.index;
  fresh : StartsFresh (take l.synced l.calls);
  writes : AllWrites (drop l.synced (take l.index l.calls));
}
