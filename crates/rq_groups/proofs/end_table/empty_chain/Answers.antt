use Rattle.std.proofs.Common.{◌≡◌, subst, Option, Some, None, ℕ}
use Rattle.rq_groups.proofs.Chained.{IsUnderWay, none_left, under_way_next, under_way_over}
use Rattle.rq_groups.proofs.end_table.empty_chain.Goals as goal

pub loop-next-preserved : goal.loop-next-preserved
loop-next-preserved c =
    let old = c.args.holders.now in
    let now = c.loop-next.holders in
    let so : IsUnderWay old now c.args.newest (Some c.in-Some.sender) = subst (λ (o : Option ℕ). IsUnderWay old now c.args.newest o) c.in-Some.is c.loop-next.invariant in
    under_way_next old now c.vacate-next.new.self c.args.newest c.vacate-next.result c.in-Some.sender so c.vacate-next.ensures.vacant c.vacate-next.ensures.next

pub returns : goal.returns
returns c t chain h =
    let old = c.args.holders.now in
    let now = c.loop-next.holders in
    let none : c.loop-next.next ≡ None = none_left c.loop-next.next c.in_default.not-Some in
    under_way_over old now c.args.newest t chain (subst (λ (o : Option ℕ). IsUnderWay old now c.args.newest o) none c.loop-next.invariant) h
