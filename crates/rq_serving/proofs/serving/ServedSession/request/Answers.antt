use Rattle.std.proofs.Common.{sym, subst}
use Rattle.rq_session.specs.declared.stage.Stage.{Stage}
use Rattle.rq_serving.specs.Held.{IsHeldAt}
use Rattle.rq_serving.proofs.Holding.{stays_held}
use Rattle.rq_serving.proofs.serving.ServedSession.request.Goals as goal

pub invariant_of-self : goal.invariant_of-self
invariant_of-self g c =
    let here = c.args.self.now in record {
      held_at = subst (λ (s : Stage). IsHeldAt s here.held) (sym c.input.ensures.stage)
          (stays_held here.session.stage c.args.request here.held here.held_at);
    }
