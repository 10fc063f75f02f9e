use Rattle.rq_bytes.proofs.Placed.{written_is_read, others_read_as_before, length_stays}
use Rattle.rq_bytes.proofs.Fields.written_is_read.Goals as goal

pub returns : goal.returns
returns c = record { reads_back = written_is_read; others = others_read_as_before; length = length_stays }
