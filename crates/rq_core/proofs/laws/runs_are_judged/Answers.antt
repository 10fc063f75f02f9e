use Rattle.rq_core.proofs.Judged.{judged}
use Rattle.rq_core.proofs.laws.runs_are_judged.Goals as goal

pub returns : goal.returns
returns c = judged c.one_size.ensures c.a_run_is_told.ensures.met
