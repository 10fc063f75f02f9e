use Rattle.std.proofs.Common.{arith}
use Rattle.rq_cases.proofs.openings_are_judged.Goals as goal

pub returns : goal.returns
returns g c = record {
  page_beyond_the_log = λ pages log count s report page low high beyond o.
      (let there = o.within page low high in omega (arith, there, beyond));
  page_older_than_read = λ pages log count s report page honest high older o.
      (let there = o.later honest page high in omega (arith, there, older));
}
