use Rattle.std.proofs.Common.{sym, ◌∙◌, arith}
use Rattle.rq_groups.specs.declared.heads.Head.{Head}
use Rattle.rq_model.proofs.Lists.{same_is}
use Rattle.rq_groups.proofs.Orders.{at_end, gap_at_end}
use Rattle.rq_groups.proofs.heads.find.Goals as goal
use Rattle.rq_groups.proofs.heads.find.Goals.{then-end-eq0-via-then-end-eq0, then-end-eq0-via-else-end-eq0+then-comes_before}

pub returns-then-end-eq0 : goal.returns-then-end-eq0
returns-then-end-eq0 c =
    let d : Head = record { txn = record { incarnation = 0; count = 0 }; newest = 0 } in
    elim c.then-end-eq0.branch [
      | then-end-eq0-via-then-end-eq0 w ↦ gap_at_end c.args.heads.now c.args.txn d c.requires (λ some. absurd (omega (arith, w.if-end-eq0.true)))
      | then-end-eq0-via-else-end-eq0+then-comes_before w ↦ gap_at_end c.args.heads.now c.args.txn d c.requires (λ some. sym w.comes_before.ensures ∙ w.if-comes_before.true)
    ]

pub returns-then-eq : goal.returns-then-eq
returns-then-eq c =
    let d : Head = record { txn = record { incarnation = 0; count = 0 }; newest = 0 } in
    at_end c.args.heads.now c.args.txn d c.requires (omega (arith, c.if-end-eq0.false)) (same_is _ c.args.txn (sym c.eq.ensures ∙ c.if-eq.true))
