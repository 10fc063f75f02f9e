use Rattle.std.proofs.Common.{ap, sym, ◌∙◌}
use Rattle.rq_chain.specs.Spans.{span_wanted}
use Rattle.rq_chain.proofs.Wanted.{span_tells}
use Rattle.rq_chain.proofs.wants.wanted.Goals as goal

pub returns-in-Some : goal.returns-in-Some
returns-in-Some c = c.slot_of_span.ensures ∙ ap (λ o. span_wanted o c.args.given.now) c.in-Some.ensures ∙ span_tells c.args.op.now c.args.given.now

pub returns-in-None : goal.returns-in-None
returns-in-None c = ap (λ o. span_wanted o c.args.given.now) (sym c.in-None.is ∙ c.span_of.ensures) ∙ span_tells c.args.op.now c.args.given.now
