use Rattle.std.proofs.Common.{sym, ap, ◌∙◌}
use Rattle.rq_engine.specs.Says.{call_of}
use Rattle.rq_workers.specs.Operations.{started_stage, after_asking}
use Rattle.rq_workers.proofs.Leading.{arrives, start_answered, start_refused, started_is}
use Rattle.rq_workers.proofs.worker.Worker.started.Goals as goal

pub returns-then-not-may_be_tried_again : goal.returns-then-not-may_be_tried_again
returns-then-not-may_be_tried_again g c =
    let k = call_of c.args.start.now in
    let h = c.tried-heard.result in
    arrives k _ _ _ _ _ (start_answered k h _ _ _ _ c.loop.invariant c.tried-heard.ensures (sym c.may_be_tried_again.ensures ∙ c.if-not-may_be_tried_again.true)) (sym (ap started_stage c.operation.ensures ∙ started_is h))

pub returns-then-not-asks : goal.returns-then-not-asks
returns-then-not-asks g c =
    let k = call_of c.args.start.now in
    let h = c.tried-heard.result in
    arrives k _ _ _ _ _ (start_refused k h c.asks.result _ _ _ _ _ c.loop.invariant c.tried-heard.ensures (sym c.may_be_tried_again.ensures ∙ c.if-not-may_be_tried_again.false) c.asks.ensures) (ap (after_asking h) c.if-not-asks.true)

pub loop-preserved : goal.loop-preserved
loop-preserved g c =
    let k = call_of c.args.start.now in
    let h = c.tried-heard.result in
    arrives k _ _ _ _ _ (start_refused k h c.asks.result _ _ _ _ _ c.loop.invariant c.tried-heard.ensures (sym c.may_be_tried_again.ensures ∙ c.if-not-may_be_tried_again.false) c.asks.ensures) (ap (after_asking h) c.if-not-asks.false)
