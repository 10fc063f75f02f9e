use Rattle.rq_inspect.proofs.Told.{struck_next}
use Rattle.rq_inspect.proofs.reporting.Report.strike.Goals as goal

pub returns : goal.returns
returns c = λ log again oldest h. struck_next c.args.record.now log again c.args.self.now c.end.new.self c.end.ensures oldest h
