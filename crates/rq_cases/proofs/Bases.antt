-- Stores whose log a Base begins.
use Rattle.std.proofs.Common.{◌≡◌, true, false, refl, arith, rules}
use Rattle.rq_cases.specs.Bases.{BasesAreJudged}
use Rattle.rq_cases.proofs.Behind.{fits, holds, whole}

pub bases : BasesAreJudged
bases = record {
  left = record { whole = whole; fits = fits; based = holds };
  counted = refl;
  miscounted = λ b. (let e : 5 ≡ 4 = b in omega (arith, e));
  behind_its_own = λ b. (let bad : true ≡ false = b.0 in cc bad);
  behind_none_of_its_own = search rules;
  reports_the_first_incarnation = λ older records n undone gone r. (let e : 1 ≡ 4 = r.incarnation_is in omega (arith, e));
  reports_none_unfinished = λ older records i n gone r. (let e : 0 ≡ 1 = r.unfinished_read in omega (arith, e));
  reports_none_lost = λ older records i n undone r. (let e : 0 ≡ 1 = r.lost_read in omega (arith, e));
}
