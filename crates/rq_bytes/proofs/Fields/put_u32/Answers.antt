use Rattle.std.proofs.Common.{rules}
use Rattle.rq_bytes.proofs.Placed.{put_number}
use Rattle.rq_bytes.proofs.Fields.put_u32.Goals as goal

pub returns-then-fits-clause-written : goal.returns-then-fits-clause-written
returns-then-fits-clause-written c = search (rules, put_number 4 c.args.at c.args.n c.args.out.now c.write_u32.new.buf c.write_u32.ensures)
