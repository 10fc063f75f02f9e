use Rattle.std.proofs.Common.{rules}
use Rattle.rq_chain.proofs.plans.returned.Goals as goal

pub returns-clause-directory : goal.returns-clause-directory
returns-clause-directory c = search rules
