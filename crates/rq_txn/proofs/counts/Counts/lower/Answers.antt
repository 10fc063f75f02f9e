use Rattle.std.proofs.Common.{ap}
use Rattle.rq_level.specs.Given.{Pages}
use Rattle.rq_txn.proofs.Counting.{goes_out, within_some}
use Rattle.rq_txn.proofs.counts.Counts.lower.Goals as goal

pub invariant_of-self-2 : goal.invariant_of-self-2
invariant_of-self-2 c = record { agree = goes_out c.args.self.now.pages.pages c.args.self.now.counts.items c.args.page c.args.self.now.agree (within_some c.args.self.now.counts.items c.args.page c.requires.some) c.remove.new.self.pages (ap (λ (s : Pages). s.pages) c.remove.ensures) }
