-- The line of a record, as text.
use Rattle.std.specs.Prelude.{ℕ, zero, suc, List, [], ◌++◌, codes, decimal, length}
use Rattle.rq_model.specs.declared.txn.Txn.{Txn}
use Rattle.rq_model.specs.declared.record.Record.{Record}
use Rattle.rq_model.specs.declared.record.Record.TheVariants.{PageOp, PageUndo, OpEnd, OpVoid, CompEnd, Commit, Restart, AbortEnd, Base}

-- a transaction: 2.1
abbrev pub txn_text : Txn → List ℕ
txn_text t = decimal t.incarnation ++ codes "." ++ decimal t.count

-- its third operation: 2.1/3
abbrev pub operation_text : Txn → ℕ → List ℕ
operation_text t n = txn_text t ++ codes "/" ++ decimal n

-- a slot of a page: 2:1
abbrev pub place_text : ℕ → ℕ → List ℕ
place_text page slot = decimal page ++ codes ":" ++ decimal slot

-- what is said of a record
abbrev pub record_text : Record → List ℕ
record_text (PageOp t n page slot before after) = codes "page-op " ++ operation_text t n ++ codes " " ++ place_text page slot
record_text (PageUndo t n undone page slot after) =
    codes "page-undo " ++ operation_text t n ++ codes " " ++ place_text page slot ++ codes " of " ++ decimal undone
record_text (OpEnd t n level deed) =
    codes "op-end " ++ operation_text t n ++ codes " level " ++ decimal level ++ codes " deed " ++ decimal (length deed)
    ++ codes " bytes"
record_text (OpVoid t n) = codes "op-void " ++ operation_text t n
record_text (CompEnd t n undone) = codes "comp-end " ++ operation_text t n ++ codes " of " ++ decimal undone
record_text (Commit t) = codes "commit " ++ txn_text t
record_text (Restart incarnation) = codes "restart " ++ decimal incarnation
record_text (AbortEnd t) = codes "abort-end " ++ txn_text t
record_text (Base many incarnation) = codes "base " ++ decimal many ++ codes " " ++ decimal incarnation

-- the line of the record with this LSN
abbrev pub line_of : ℕ → Record → List ℕ
line_of lsn r = decimal lsn ++ codes " " ++ record_text r ++ codes "\n"

-- that so many bytes behind the records are none, where there are any
abbrev pub torn_text : ℕ → List ℕ
torn_text zero = []
torn_text (suc n) = codes "torn " ++ decimal (suc n) ++ codes " bytes\n"
