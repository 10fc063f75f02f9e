use Rattle.std.proofs.Common.{◌≡◌, [], length, take}
use Rattle.rq_core.specs.Chosen.{LedAsChosen, entered}
use Rattle.rq_core.specs.Views.{world_of}
use Rattle.rq_core.proofs.world.World.run.Given as goal

-- what has happened so far, with its answers, led to the store
abbrev pub invariant-loop-happening : goal.invariant-loop-happening
invariant-loop-happening g l = record {
  each : length l.entries.items ≡ l.happening-index;
  led : LedAsChosen l.fn.self (entered [] (take l.happening-index l.happenings) l.entries.items) (world_of l.store);
}
