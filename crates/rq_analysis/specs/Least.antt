-- The operation that is voided next, as it is looked for.
use Rattle.std.specs.Prelude.{cond, List, [], ◌∷◌, Option, Some, None}
use Rattle.rq_model.specs.declared.txn.Sub.{Sub}
use Rattle.rq_analysis.specs.declared.open_work.UndoableWrite.{UndoableWrite}
use Rattle.rq_analysis.specs.Pages.{any_undoable, op_less}

-- the one of the lesser number
abbrev pub lesser_in : Sub → Option Sub → Sub
lesser_in o None = o
lesser_in o (Some p) = cond (op_less p o) p o

-- of these operations the least of which none of these writes is
abbrev pub least_in : List UndoableWrite → List Sub → Option Sub
least_in ps [] = None
least_in ps (o ∷ os) = cond (any_undoable o ps) (least_in ps os) (Some (lesser_in o (least_in ps os)))
