use Rattle.std.proofs.Common.{◌++◌, codes, ap, ◌∙◌}
use Rattle.rq_inspect.specs.Keys.{txn_of}
use Rattle.rq_inspect.specs.Lines.{txn_text}
use Rattle.rq_inspect.proofs.Texts.{each_more}
use Rattle.rq_inspect.proofs.reporting.print_txns.Goals as goal

pub loop-txn-preserved : goal.loop-txn-preserved
loop-txn-preserved c =
    let out = c.loop-txn.out.items in
    each_more txn_text c.args.txns.now c.loop-txn.txn-index (record { incarnation = 0; count = 0 }) c.args.out.now.items out c.write.new.self.items
    c.loop-txn-test.true c.loop-txn.invariant
    (c.in_ok-write.ensures.bytes ∙ ap (λ k. out ++ (codes " " ++ txn_text (txn_of k))) c.of-txn.ensures)
