use Rattle.rq_core.proofs.Arms.{framed_in, opened_in, stays}
use Rattle.rq_core.proofs.world.try_restart.Goals as goal

pub returns-clause-opened : goal.returns-clause-opened
returns-clause-opened g c = opened_in c.args.pages c.args.log c.args.frames.count c.restart.result c.restart.ensures.opened

pub returns-clause-frames : goal.returns-clause-frames
returns-clause-frames g c = framed_in c.args.pages c.args.log c.args.frames.count c.restart.result c.restart.ensures.opened

pub returns-clause-refused : goal.returns-clause-refused
returns-clause-refused g c = stays c.args.pages c.args.log c.args.frames.count c.restart.result c.restart.ensures.refused c.restart.ensures.left
