use Rattle.std.proofs.Common.{ℕ, arith, subst}
use Rattle.rq_restart.specs.Numbers.{IsFirstBeyond, NoneBeyond}
use Rattle.rq_restart.specs.Repeating.{paged}
use Rattle.rq_page.specs.Sizes.{page_count}
use Rattle.rq_restart.proofs.Numbers.{first_uncounted, none_uncounted}
use Rattle.rq_restart.proofs.page_numbers.check_page_numbers.Goals as goal

pub returns-in-Some-clause-names : goal.returns-in-Some-clause-names
returns-in-Some-clause-names g c = λ log first many repeated k.
    let z = c.args.pages.now.sizes in
    first_uncounted z log first (paged c.args.pages.now) c.args.ahead.now repeated c.in-Some.page k
    (subst (λ (n : ℕ). IsFirstBeyond z n c.args.ahead.now (paged c.args.pages.now) c.in-Some.page) many c.in-Some.ensures.some)

pub returns-in-None-clause-counted : goal.returns-in-None-clause-counted
returns-in-None-clause-counted g c = λ log first many repeated k.
    let z = c.args.pages.now.sizes in
    none_uncounted z log first (paged c.args.pages.now) c.args.ahead.now repeated k
    (subst (λ (n : ℕ). NoneBeyond n c.args.ahead.now (paged c.args.pages.now) (page_count z)) many c.in-None.ensures.none)

pub returns-in-None-clause-within : goal.returns-in-None-clause-within
returns-in-None-clause-within g c = λ p low high. (let there = c.in-None.ensures.none p low high in omega (arith, there))
