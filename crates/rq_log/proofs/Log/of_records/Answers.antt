use Rattle.rq_log.proofs.Kept.{of_these}
use Rattle.rq_log.proofs.Log.of_records.Goals as goal

pub invariant_of-result : goal.invariant_of-result
invariant_of-result g c = of_these g.L.LogDevice c.args.past c.args.device c.args.settled.value c.args.last c.args.size c.args.torn_at c.new.result.items _ c.requires.spelled c.requires.count c.requires.size c.requires.read c.requires.holds c.new.ensures.items
