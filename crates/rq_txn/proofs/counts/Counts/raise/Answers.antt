use Rattle.rq_txn.proofs.Counting.{comes_in}
use Rattle.rq_txn.proofs.counts.Counts.raise.Goals as goal

pub invariant_of-self-2 : goal.invariant_of-self-2
invariant_of-self-2 c = record { agree = comes_in c.args.self.now.pages.pages c.args.self.now.counts.items c.args.page c.args.self.now.agree c.requires.within c.put.new.self.pages c.put.ensures.pages }
