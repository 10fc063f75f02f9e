use Rattle.rq_chain_check.proofs.Faults.{faults_exact}
use Rattle.rq_chain_check.proofs.faults_are_exact.Goals as goal

pub returns : goal.returns
returns c = faults_exact
