use Rattle.std.proofs.Common.{◌∙◌, ap}
use Rattle.rq_engine.proofs.Opened.{none_tried}
use Rattle.rq_engine.proofs.Checkpointing.{left_at_rest}
use Rattle.rq_engine.proofs.Crashing.{leaves_cut_over}
use Rattle.rq_engine.proofs.engine.Engine.shows_kept.Goals as goal

pub returns-clause-cut : goal.returns-clause-cut
returns-clause-cut g c =
    λ none h earlier long k fit.
    leaves_cut_over g.P.PageDevice g.L.LogDevice g.met.P.PageDevice.only_now c.args.self.now earlier
    (rw (← c.self.view_is) (λ h. c.shows_kept.ensures.log.leaves h (c.self.invariant.durable, none_tried _ (ap (λ s. s.replacing) c.self.view_is ∙ none)))) (rw (← c.self.view_is) (c.shows_kept.ensures.log.spelled, c.shows_kept.ensures.log.based)) h long k fit

pub returns-clause-at_rest : goal.returns-clause-at_rest
returns-clause-at_rest g c =
    rw (← c.self.view_is) (λ h bytes may. left_at_rest g.L.LogDevice c.self.inside.log c.shows_kept.ensures.log c.self.invariant.durable h bytes may)
