use Rattle.std.proofs.Common.{[], subst, sym}
use Rattle.rq_model.specs.Bases.{with_next}
use Rattle.rq_inspect.specs.Reports.{Reported, Tells}
use Rattle.rq_inspect.proofs.Told.{told_next}
use Rattle.rq_inspect.proofs.reporting.Report.note.Goals as goal

pub returns-clause-noted : goal.returns-clause-noted
returns-clause-noted c = λ log oldest size h.
    subst (λ (x : Reported). Tells (with_next c.args.record.now log) [] (record x { records = c.args.lsn })) (sym c.self.view_is)
    (told_next c.args.record.now log c.args.self.now c.begin.new.self c.end.new.self c.in_ok-begin.ensures.ok c.end.ensures c.args.lsn oldest size h)
