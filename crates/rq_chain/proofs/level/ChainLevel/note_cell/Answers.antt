use Rattle.std.proofs.Common.{rules}
use Rattle.rq_chain.proofs.level.ChainLevel.note_cell.Goals as goal

pub returns : goal.returns
returns c = search rules
