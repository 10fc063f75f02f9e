use Rattle.std.proofs.Common.{rules}
use Rattle.rq_analysis.proofs.open_work.OpenWork.note.Goals as goal

pub returns-in-OpVoid-clause-noted : goal.returns-in-OpVoid-clause-noted
returns-in-OpVoid-clause-noted c = search rules

pub returns-in_ok-begin_transaction-in-OpEnd-clause-noted : goal.returns-in_ok-begin_transaction-in-OpEnd-clause-noted
returns-in_ok-begin_transaction-in-OpEnd-clause-noted c = search rules

pub returns-in-Restart-clause-noted : goal.returns-in-Restart-clause-noted
returns-in-Restart-clause-noted c = search rules
