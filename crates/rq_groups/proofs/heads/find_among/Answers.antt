use Rattle.std.proofs.Common.{sym, ◌∙◌}
use Rattle.rq_groups.proofs.Orders.{gap_beside}
use Rattle.rq_groups.proofs.heads.find_among.Goals as goal

pub returns-else-eq : goal.returns-else-eq
returns-else-eq c =
    let heads = c.args.heads.now in
    let i = c.first_from-place.result in
    let e = c.first_from-place.ensures in
    let other = sym c.eq.ensures ∙ c.if-eq.false in
    gap_beside heads c.args.txn i (record { txn = record { incarnation = 0; count = 0 }; newest = 0 }) c.requires c.if-place-heads.false e.before e.after other
