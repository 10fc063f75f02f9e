use Rattle.std.proofs.Common.{arith, map}
use Rattle.std.proofs.lemmas.Grind.{common_steps}
use Rattle.rq_reference.specs.Plain.{done_of}
use Rattle.rq_reference.proofs.Plainly.{count_more}
use Rattle.rq_reference.proofs.scans.cells_held.Goals as goal

pub loop-sender-preserved : goal.loop-sender-preserved
loop-sender-preserved c = let h = count_more (map done_of c.args.committed.now) c.loop-sender.sender in grind (arith, common_steps, h, c.in_ok-waiting.ensures)
