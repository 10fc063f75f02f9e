use Rattle.std.proofs.Common.{◌≡◌, List, ◌∙◌, ap, sym, subst}
use Rattle.rq_model.specs.declared.record.Record.{Record}
use Rattle.rq_model.specs.Bases.{with_next}
use Rattle.rq_inspect.specs.Reports.{Tells}
use Rattle.rq_inspect.proofs.Stopped.{unread}
use Rattle.rq_inspect.proofs.inspecting.strike_all.Goals as goal

pub loop-report-preserved : goal.loop-report-preserved
loop-report-preserved g c =
    let r = c.next_into.new.into in
    let front = c.loop-report.reader.records in
    let oldest = rw c.in-Ok-true.field-0-test at c.in-Ok-true.ensures.oldest in
    let grown : c.next_into.new.self.records ≡ with_next r front = rw c.in-Ok-true.field-0-test at c.in-Ok-true.ensures.some in
    record {
      struck = λ older h. subst (λ (rs : List Record). Tells older rs c.strike.new.self) (sym grown) (c.strike.ensures older front oldest (c.loop-report.invariant.struck older h));
      reading = c.next_into.ensures.reading;
      count = c.in-Ok-true.ensures.cause ∙ c.loop-report.invariant.count;
      first = c.next_into.ensures.first ∙ c.loop-report.invariant.first;
    }

pub returns-in-Err-clause-unread : goal.returns-in-Err-clause-unread
returns-in-Err-clause-unread g c =
    let l = g.L.LogDevice in
    let was = c.loop-report.invariant in
    unread l c.in-Err.refusal c.loop-report.reader.records c.args.reader.now.first c.loop-report.reader.device c.next_into.new.self.device
    was.reading.are_spelled was.reading.marked was.count (was.reading.read.same ∙ ap l.seen was.first) c.in-Err.ensures.err
