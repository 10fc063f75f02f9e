use Rattle.std.proofs.Common.{arith}
use Rattle.rq_txn.proofs.Placing.{below_last, before_last}
use Rattle.rq_txn.proofs.table.first_from.Goals as goal
use Rattle.rq_txn.proofs.table.first_from.Goals.{then-end-eq0-via-then-end-eq0, then-end-eq0-via-else-end-eq0+then-places-end}

pub returns-then-end-eq0-clause-below : goal.returns-then-end-eq0-clause-below
returns-then-end-eq0-clause-below c k d within =
    elim c.then-end-eq0.branch [
      | then-end-eq0-via-then-end-eq0 w ↦ absurd (omega (arith, w.if-end-eq0.true))
      | then-end-eq0-via-else-end-eq0+then-places-end w ↦
          let last = below_last c.args.places.now k d (record { count = 0; key = 0 }) c.requires within in
          omega (arith, last, w.if-places-end.true)
    ]

pub returns-then-places-end-2-clause-below : goal.returns-then-places-end-2-clause-below
returns-then-places-end-2-clause-below c k d within =
    let last = before_last c.args.places.now k d (record { count = 0; key = 0 }) c.requires within in
    omega (arith, last, c.if-places-end-2.true)
