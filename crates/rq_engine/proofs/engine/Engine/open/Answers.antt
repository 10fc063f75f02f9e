use Rattle.std.proofs.Common.{rules}
use Rattle.rq_engine.proofs.Frames.{fixed_none}
use Rattle.rq_engine.proofs.engine.Engine.open.Goals as goal

pub invariant_of-result : goal.invariant_of-result
invariant_of-result g c = record {
  kept = search rules;
  durable = search rules;
  cells = search rules;
  frames_are = rw (c.new.ensures) (fixed_none _ c.requires.loose);
}
