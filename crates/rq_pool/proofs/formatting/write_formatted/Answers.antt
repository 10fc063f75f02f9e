use Rattle.std.proofs.Common.{rules}
use Rattle.rq_pool.proofs.formatting.write_formatted.Goals as goal

pub returns-in-Ok-clause-written : goal.returns-in-Ok-clause-written
returns-in-Ok-clause-written g c = search rules
