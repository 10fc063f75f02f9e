use Rattle.rq_model.specs.Bases.{standing}
use Rattle.rq_log.proofs.Parsing.{one_log}
use Rattle.rq_restart.proofs.laws.one_log.Goals as goal

pub returns : goal.returns
returns c = λ a b bytes. one_log (standing a) (standing b) bytes
