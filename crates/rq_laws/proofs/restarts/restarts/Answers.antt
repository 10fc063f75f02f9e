use Rattle.rq_laws.proofs.Restarting.{begin_alike, report_alike, state_alike}
use Rattle.rq_laws.proofs.restarts.restarts.Goals as goal

pub returns : goal.returns
returns g c = record {
  incarnation = begin_alike g.P.PageDevice g.L.LogDevice _ _ _ _ c.args.frames.count _ _ c.requires.log c.restart.ensures.opened c.restart-2.ensures.opened;
  report = report_alike g.P.PageDevice g.L.LogDevice _ _ _ _ c.args.frames.count _ _ c.requires.log c.restart.ensures.opened c.restart-2.ensures.opened;
  state = state_alike g.P.PageDevice g.L.LogDevice _ _ _ _ c.args.frames.count _ _ c.requires.log c.restart.ensures.opened c.restart-2.ensures.opened;
}
