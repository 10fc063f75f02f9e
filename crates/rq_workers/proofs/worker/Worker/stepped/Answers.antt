use Rattle.std.proofs.Common.{sym, ◌∙◌}
use Rattle.rq_workers.proofs.Leading.{arrives, carries_on, between_asked, turns_again, turns_ready, turns_last}
use Rattle.rq_workers.proofs.worker.Worker.stepped.Goals as goal

pub loop-preserved : goal.loop-preserved
loop-preserved g c = λ k.
    between_asked k c.args.sub c.asks.result _ _ _ _
    (arrives k _ _ _ _ _ (carries_on k _ _ _ _ _ _ (c.loop.invariant k) (c.answered.ensures k)) (turns_again c.args.sub c.answered.result (sym c.after_step.ensures ∙ c.in-Again.is)))
    c.asks.ensures

pub returns-in-Ready : goal.returns-in-Ready
returns-in-Ready g c = λ k.
    arrives k _ _ _ _ _ (carries_on k _ _ _ _ _ _ (c.loop.invariant k) (c.answered.ensures k)) (turns_ready c.args.sub c.answered.result (sym c.after_step.ensures ∙ c.in-Ready.is))

pub returns-in-Last : goal.returns-in-Last
returns-in-Last g c = λ k.
    arrives k _ _ _ _ _ (carries_on k _ _ _ _ _ _ (c.loop.invariant k) (c.answered.ensures k)) (turns_last c.args.sub c.answered.result c.in-Last.last (sym c.after_step.ensures ∙ c.in-Last.is))
