use Rattle.std.proofs.Common.{ap, sym, ◌∙◌, arith}
use Rattle.std.specs.FinSet as set
use Rattle.rq_analysis.specs.Runs.{Counts}
use Rattle.rq_analysis.proofs.RuleCounts.{Joins, joins_both, joins_one, none_more, run_more, still_apart}
use Rattle.rq_analysis.proofs.ended.EndedTransactions.add.Goals as goal

pub returns-in_default-clause-ok : goal.returns-in_default-clause-ok
returns-in_default-clause-ok c =
    sym c.self.view_is ∙ none_more c.self.inside.runs c.args.count c.in_default.ensures.ordered c.in_default.ensures.none ∙ ap (λ (x : Counts). set.insert x c.args.count) c.self.view_is

-- the run behind the number is joined
both : (c : goal.After-remove) → Joins c.self.inside.runs c.remove.new.self c.args.count c.in-Some.first c.last_with-last.result
both c =
    joins_both c.self.inside.runs c.insert.new.self c.args.count c.in-Some.first c.last_with-last.result c.self.invariant c.in-Some.ensures.some.0 c.in-Some.ensures.some.1 c.last_with-last.ensures.is
    c.last_with-last.ensures.within c.in-Ok.ensures.updates c.remove.new.self c.if-count-last.true c.remove.ensures.updates

-- there is none
one : (c : goal.Else-count-last) → Joins c.self.inside.runs c.insert.new.self c.args.count c.in-Some.first c.last_with-last.result
one c =
    joins_one c.self.inside.runs c.insert.new.self c.args.count c.in-Some.first c.last_with-last.result c.self.invariant c.in-Some.ensures.some.0 c.in-Some.ensures.some.1 c.last_with-last.ensures.is
    c.last_with-last.ensures.within c.in-Ok.ensures.updates (λ more. let few = c.if-count-last.false in omega (arith, more, few))

pub invariant_of-self : goal.invariant_of-self
invariant_of-self c = still_apart c.self.inside.runs c.remove.new.self c.args.count c.in-Some.first c.last_with-last.result c.self.invariant (both c) c.ranges.count.fits

pub invariant_of-self-else-count-last : goal.invariant_of-self-else-count-last
invariant_of-self-else-count-last c = still_apart c.self.inside.runs c.insert.new.self c.args.count c.in-Some.first c.last_with-last.result c.self.invariant (one c) c.ranges.count.fits

pub returns-then-count-last-clause-ok : goal.returns-then-count-last-clause-ok
returns-then-count-last-clause-ok c =
    run_more c.self.inside.runs c.remove.new.self c.args.count c.in-Some.first c.last_with-last.result c.self.invariant (both c) c.in-Some.ensures.ordered c.remove.ensures.ordered
    ∙ ap (λ (x : Counts). set.insert x c.args.count) c.self.view_is

pub returns-else-count-last-clause-ok : goal.returns-else-count-last-clause-ok
returns-else-count-last-clause-ok c =
    run_more c.self.inside.runs c.insert.new.self c.args.count c.in-Some.first c.last_with-last.result c.self.invariant (one c) c.in-Some.ensures.ordered c.insert.ensures.ordered
    ∙ ap (λ (x : Counts). set.insert x c.args.count) c.self.view_is
