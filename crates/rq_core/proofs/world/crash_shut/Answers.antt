use Rattle.rq_core.specs.Views.{answer_in, world_of}
use Rattle.rq_core.proofs.Steps.{shut_left}
use Rattle.rq_core.proofs.world.crash_shut.Goals as goal

pub returns-clause-happened : goal.returns-clause-happened
returns-clause-happened g c = λ course x is. shut_left course x (answer_in c.crash.result.1) (world_of c.crash.result.0) c.args.pages c.args.log is c.crash.ensures.left
