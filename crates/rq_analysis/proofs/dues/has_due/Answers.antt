use Rattle.std.proofs.Common.{[], ◌∙◌}
use Rattle.rq_analysis.specs.Dues.{due_of}
use Rattle.rq_analysis.proofs.Stacks.{found_any}
use Rattle.rq_analysis.proofs.dues.has_due.Goals as goal

pub returns : goal.returns
returns c =
    let e = c.newest_of.ensures in
    c.is_some.ensures ∙ found_any (due_of c.args.txn) c.args.dues.now c.newest_of.result (record { txn = c.args.txn; lsn = 0; number = 0; level = 0; deed = [] }) e.place e.own e.none
