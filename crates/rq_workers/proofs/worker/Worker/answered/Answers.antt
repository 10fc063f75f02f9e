use Rattle.std.proofs.Common.{◌≡◌, true, sym, ◌∙◌, subst}
use Rattle.rq_engine.specs.declared.event.Event.{Event}
use Rattle.rq_engine.specs.Says.{call_of}
use Rattle.rq_workers.specs.Acts.{IsCalled, may_call}
use Rattle.rq_workers.proofs.Leading.{part_answered, part_refused, part_may}
use Rattle.rq_workers.proofs.worker.Worker.answered.Goals as goal

pub returns-then-not-is_no_memory : goal.returns-then-not-is_no_memory
returns-then-not-is_no_memory g c = λ k.
    let h = c.calls-heard.result in
    let called = subst (λ e. IsCalled c.loop.self e h c.calls-heard.new.self) c.event.ensures c.calls-heard.ensures in
    part_answered k c.args.part c.args.sub h _ _ _ _ (c.loop.invariant k) called (sym c.is_no_memory.ensures ∙ c.if-not-is_no_memory.true)

pub loop-preserved : goal.loop-preserved
loop-preserved g c = λ k.
    let h = c.calls-heard.result in
    let called = subst (λ e. IsCalled c.loop.self e h c.calls-heard.new.self) c.event.ensures c.calls-heard.ensures in
    part_refused k c.args.part c.args.sub h c.asks.result _ _ _ _ _ (c.loop.invariant k) called (sym c.is_no_memory.ensures ∙ c.if-not-is_no_memory.false) c.asks.ensures

pub calls-heard-requires : goal.calls-heard-requires
calls-heard-requires g c = subst (λ (e : Event). may_call c.loop.self.done (call_of e) ≡ true) (sym c.event.ensures) (part_may c.loop.self.done c.args.part c.args.sub)
