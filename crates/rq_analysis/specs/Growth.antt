-- At which records the tables grow that are kept of a log.
use Rattle.std.specs.Prelude.{Bool, true, false, nat_lt, ◌||◌, List, Option, Some, None}
use Rattle.rq_model.specs.declared.txn.Sub.{Sub}
use Rattle.rq_model.specs.declared.record.Record.{Record}
use Rattle.rq_model.specs.declared.record.Record.TheVariants.{PageOp, OpEnd, Commit, AbortEnd}
use Rattle.rq_analysis.specs.Numbers.{number_of}
use Rattle.rq_analysis.specs.Rules.{op_of}

abbrev pub is_page_op : Record → Bool
is_page_op (PageOp t n page slot before after) = true
is_page_op _ = false

abbrev pub is_op_end : Record → Bool
is_op_end (OpEnd t n level deed) = true
is_op_end _ = false

-- it may open an operation or a transaction
abbrev pub opens : Record → Bool
opens r = is_page_op r || is_op_end r

-- it ends a transaction
abbrev pub ends : Record → Bool
ends (Commit t) = true
ends (AbortEnd t) = true
ends _ = false

-- the operation has a greater number than these of its transaction
abbrev pub is_greater : Option Sub → List Sub → Bool
is_greater None os = false
is_greater (Some o) os = nat_lt (number_of o.txn os) o.number

-- a table may grow
abbrev pub grows : Record → List Sub → Bool
grows r os = opens r || ends r || is_greater (op_of r) os
