-- The commit list that a log tells.
use Rattle.std.specs.Prelude.{◌+◌, List, [], ◌∷◌, ◌++◌, length}
use Rattle.rq_model.specs.declared.txn.Txn.{Txn}
use Rattle.rq_model.specs.declared.record.Record.{Record}
use Rattle.rq_model.specs.declared.record.Record.TheVariants.{Commit}
use Rattle.rq_model.specs.Vocabulary.{Op, same_txn}
use Rattle.rq_model.specs.Vocabulary.Op.{Send, Take, End, Mark}
use Rattle.rq_model.specs.Ledger.{Done}
use Rattle.rq_model.specs.Content.{Said, deeds}
use Rattle.rq_model.specs.Content.Said.{Added, Removed, Ended, Marked}

-- the operations that deeds tell, oldest first
abbrev pub op_of : Said → Op
op_of (Added m) = Send m
op_of (Removed m) = Take m
op_of (Ended s) = End s
op_of (Marked c tag) = Mark c tag

abbrev pub ops_told : List Said → List Op
ops_told [] = []
ops_told (d ∷ ds) = ops_told ds ++ op_of d ∷ []

abbrev pub told : Txn → List Record → List Op
told t log = ops_told (deeds (λ u. same_txn u t) log)

abbrev pub committed_one : Record → List Record → List Done → List Done
committed_one (Commit t) log c = c ++ record { txn = t; lsn = length log + 1; ops = told t log } ∷ []
committed_one _ log c = c

-- the commit list that a log tells
abbrev pub committed_of : List Record → List Done
committed_of [] = []
committed_of (r ∷ log) = committed_one r log (committed_of log)
