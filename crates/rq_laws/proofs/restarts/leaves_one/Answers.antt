use Rattle.rq_laws.proofs.Restarting.{left_one}
use Rattle.rq_laws.proofs.restarts.leaves_one.Goals as goal

pub returns : goal.returns
returns g c = left_one g.P.PageDevice g.L.LogDevice _ _ c.args.frames.count _ c.restart.ensures.opened
