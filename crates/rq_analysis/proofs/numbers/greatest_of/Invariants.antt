use Rattle.std.proofs.Common.{◌≡◌, drop, max}
use Rattle.rq_analysis.specs.Numbers.{number_of}
use Rattle.rq_analysis.proofs.numbers.greatest_of.Given as goal

abbrev pub invariant-loop-sub : goal.invariant-loop-sub
invariant-loop-sub l = max l.greatest (number_of l.txn (drop l.sub-index l.numbers)) ≡ number_of l.txn l.numbers
