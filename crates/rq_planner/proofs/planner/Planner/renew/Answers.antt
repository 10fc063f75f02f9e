use Rattle.std.proofs.Common.{rules}
use Rattle.rq_planner.proofs.planner.Planner.renew.Goals as goal

pub returns : goal.returns
returns g c = search rules
