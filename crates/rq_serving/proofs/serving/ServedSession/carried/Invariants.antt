use Rattle.rq_serving.proofs.Carrying.{IsAsking}
use Rattle.rq_serving.proofs.serving.ServedSession.carried.Given as goal

-- so far the session was carried on to this call, which may be made
abbrev pub invariant-loop : goal.invariant-loop
invariant-loop g l =
    IsAsking g.G.Gate.answers g.S.Steps.made g.S.Steps.told l.fn.self.gate l.self.gate l.fn.steps l.steps
    l.fn.self.session l.fn.first l.self.session l.event
