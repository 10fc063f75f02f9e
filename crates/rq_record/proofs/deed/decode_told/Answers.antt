use Rattle.std.proofs.Common.{rules}
use Rattle.rq_record.proofs.deed.decode_told.Goals as goal

pub returns-in-2 : goal.returns-in-2
returns-in-2 c = search rules
