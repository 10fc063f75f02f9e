use Rattle.rq_core.proofs.Devices.{formatted}
use Rattle.rq_core.proofs.world.World.new.Goals as goal

pub invariant_of-result : goal.invariant_of-result
invariant_of-result c = formatted c.args.layout c.format.new.pages c.new-log.result c.new-2.result.items c.pages.ensures.in_range c.in-Ok.ensures.durable c.new-log.ensures.log c.new-2.ensures.items
