use Rattle.std.proofs.Common.{rules}
use Rattle.rq_analysis.proofs.numbers.take.Goals as goal

pub returns-in-Base : goal.returns-in-Base
returns-in-Base c = search rules
