use Rattle.std.proofs.Common.{rules}
use Rattle.rq_analysis.proofs.ended.EndedTransactions.note.Goals as goal

pub returns-in_default-clause-grows : goal.returns-in_default-clause-grows
returns-in_default-clause-grows c = tt

pub returns-in_default-clause-noted : goal.returns-in_default-clause-noted
returns-in_default-clause-noted c = search rules
