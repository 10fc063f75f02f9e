use Rattle.std.proofs.Common.{rules, List, Option, sym, ap, ◌∙◌}
use Rattle.rq_txn.specs.declared.Finished.{Finished}
use Rattle.rq_txn.specs.declared.Operation.{Operation}
use Rattle.rq_txn.specs.Rows.{row_of, row_taken_back, under_way_of}
use Rattle.rq_txn.proofs.Standing.{front_out}
use Rattle.rq_txn.proofs.Transaction.undo.Goals as goal

pub returns-clause-row : goal.returns-clause-row
returns-clause-row c =
    let row = row_of c.args.self.now in
    let left = front_out c.args.self.now.finished.items c.pop.new.self.items c.pop.result c.pop.ensures.items (search rules) in
    ap (λ (l : List Finished). record (row_taken_back row) { finished = l; under = under_way_of c.take.new.self }) (sym left)
    ∙ ap (λ (o : Option Operation). record (row_taken_back row) { under = under_way_of o }) c.take.ensures.after
