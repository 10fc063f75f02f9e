use Rattle.std.proofs.Common.{ap, refl, sym, ◌∙◌}
use Rattle.rq_serving.specs.Carried.{may_call}
use Rattle.rq_serving.specs.declared.serving.Served.TheVariants as came
use Rattle.rq_serving.proofs.Holding.{told_again}
use Rattle.rq_serving.proofs.Carrying.{asks_first, ends_first, asks_on, ends_on, holds_on}
use Rattle.rq_serving.proofs.serving.ServedSession.carried.Goals as goal

pub returns-in-Err : goal.returns-in-Err
returns-in-Err g c =
    ends_first g.G.Gate.answers g.S.Steps.made g.S.Steps.told _ _ _ _ _ _ _ _ c.asked.ensures.gate c.asked.ensures.same.0
    c.in-Err.ensures.came c.asked.ensures.same.1

pub loop-init : goal.loop-init
loop-init g c =
    asks_first g.G.Gate.answers g.S.Steps.made g.S.Steps.told _ _ _ _ _ _ _ c.asked.ensures.gate c.asked.ensures.same.0 c.in-Ok.ensures.asks

pub loop-preserved : goal.loop-preserved
loop-preserved g c =
    asks_on g.G.Gate.answers g.S.Steps.made g.S.Steps.told _ _ _ _ _ _ _ _ _ _ _ _ c.loop.invariant c.in-Do.ensures.call
    (ap (λ b. may_call b c.in-Do.event) (sym c.has_stopped.ensures) ∙ sym c.may_be_made.ensures ∙ c.if-may_be_made.true)

pub returns-else-may_be_made : goal.returns-else-may_be_made
returns-else-may_be_made g c =
    ends_on g.G.Gate.answers g.S.Steps.made g.S.Steps.told _ _ _ _ _ _ _ _ _ _ _ _ _ _ c.loop.invariant c.in-Do.ensures.call refl
    (ap (λ b. may_call b c.in-Do.event) (sym c.has_stopped.ensures) ∙ sym c.may_be_made.ensures ∙ c.if-may_be_made.false, refl) c.called.ensures.held

pub invariant_of-self-in-Again : goal.invariant_of-self-in-Again
invariant_of-self-in-Again g c =
    let called = c.in-Again.ensures.call in
    record { held_at = told_again _ _ called.stamp.reply _ _ _ called.next_is called.stage refl }

pub returns-in-Again : goal.returns-in-Again
returns-in-Again g c = holds_on g.G.Gate.answers g.S.Steps.made g.S.Steps.told _ _ _ _ _ _ _ _ _ _ _ _ c.loop.invariant c.in-Again.ensures.call

pub returns-in-Await : goal.returns-in-Await
returns-in-Await g c =
    ends_on g.G.Gate.answers g.S.Steps.made g.S.Steps.told _ _ _ _ _ _ _ _ _ _ _ _ _ _ c.loop.invariant c.in-Await.ensures.call refl
    (ap came.Waits c.lsn.ensures) c.called.ensures.held

pub returns-in-Answer : goal.returns-in-Answer
returns-in-Answer g c =
    ends_on g.G.Gate.answers g.S.Steps.made g.S.Steps.told _ _ _ _ _ _ _ _ _ _ _ _ _ _ c.loop.invariant c.in-Answer.ensures.call refl refl c.called.ensures.held

pub returns-in-End : goal.returns-in-End
returns-in-End g c =
    ends_on g.G.Gate.answers g.S.Steps.made g.S.Steps.told _ _ _ _ _ _ _ _ _ _ _ _ _ _ c.loop.invariant c.in-End.ensures.call refl refl c.called.ensures.held
