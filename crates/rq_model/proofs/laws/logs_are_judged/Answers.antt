use Rattle.rq_model.proofs.JudgedLogs.{worked_logs}
use Rattle.rq_model.proofs.laws.logs_are_judged.Goals as goal

pub returns : goal.returns
returns c = worked_logs
