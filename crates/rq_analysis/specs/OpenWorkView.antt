-- What the records of a log come to, one after the other. Everything has ended before a Base: it begins anew there.
use Rattle.std.specs.Prelude.{ℕ, ◌+◌, Bool, false, not, ◌||◌, cond, List, [], ◌∷◌, ◌++◌, length, Option, Some, None}
use Rattle.std.specs.List.{filter}
use Rattle.rq_model.specs.declared.txn.Txn.{Txn}
use Rattle.rq_model.specs.declared.txn.Sub.{Sub}
use Rattle.rq_model.specs.declared.record.Record.{Record}
use Rattle.rq_model.specs.declared.record.Record.TheVariants.{PageOp, PageUndo, OpEnd, OpVoid, CompEnd, Commit, AbortEnd, Base}
use Rattle.rq_model.specs.Vocabulary.{same_txn, has_txn}
use Rattle.rq_views.specs.Log.{same_op}
use Rattle.rq_views.specs.Items.{operation}
use Rattle.rq_model.specs.Incarnations.{incarnation_one}
use Rattle.rq_analysis.specs.declared.open_work.UndoableWrite.{UndoableWrite}
use Rattle.rq_analysis.specs.Stacks.{but_newest_of}

-- the incarnation, the operations that wrote a slot and have no end, their writes that are not undone, the newest first,
-- and the transactions that finished an operation and have no end
pub record OpenWorkView : Type 0 where
  pub incarnation : ℕ
  pub unfinished : List Sub
  pub undoable : List UndoableWrite
  pub active : List Txn

abbrev pub has_sub : Sub → List Sub → Bool
has_sub o [] = false
has_sub o (u ∷ us) = same_op u o || has_sub o us

abbrev pub with_sub : Sub → List Sub → List Sub
with_sub o os = cond (has_sub o os) os (os ++ o ∷ [])

abbrev pub without_sub : Sub → List Sub → List Sub
without_sub o os = filter (λ u. not (same_op o u)) os

abbrev pub with_txn : Txn → List Txn → List Txn
with_txn t ts = cond (has_txn t ts) ts (ts ++ t ∷ [])

abbrev pub without_txn : Txn → List Txn → List Txn
without_txn t ts = filter (λ u. not (same_txn t u)) ts

abbrev pub undoable_by : Sub → UndoableWrite → Bool
undoable_by o p = same_op p.by o

abbrev pub lsn_undoable : Option UndoableWrite → Option ℕ
lsn_undoable None = None
lsn_undoable (Some p) = Some p.lsn

-- all but the newest of the operation's
abbrev pub without_newest : Sub → List UndoableWrite → List UndoableWrite
without_newest o = but_newest_of (undoable_by o)

-- those of other operations
abbrev pub without_undoable : Sub → List UndoableWrite → List UndoableWrite
without_undoable o ps = filter (λ p. not (undoable_by o p)) ps

-- the undoable write that the record with this LSN makes
abbrev pub undoable_at : ℕ → Sub → ℕ → ℕ → List ℕ → UndoableWrite
undoable_at lsn o page slot before = record { lsn = lsn; by = o; page = page; slot = slot; before = before }

abbrev pub unfinished_after : Record → List Sub → List Sub
unfinished_after (PageOp t n page slot before after) os = with_sub (operation t n) os
unfinished_after (OpEnd t n level deed) os = without_sub (operation t n) os
unfinished_after (OpVoid t n) os = without_sub (operation t n) os
unfinished_after (CompEnd t n undone) os = without_sub (operation t n) os
unfinished_after (Base many i) os = []
unfinished_after _ os = os

abbrev pub undoable_after : ℕ → Record → List UndoableWrite → List UndoableWrite
undoable_after lsn (PageOp t n page slot before after) ps = undoable_at lsn (operation t n) page slot before ∷ ps
undoable_after lsn (PageUndo t n undone page slot after) ps = without_newest (operation t n) ps
undoable_after lsn (OpEnd t n level deed) ps = without_undoable (operation t n) ps
undoable_after lsn (OpVoid t n) ps = without_undoable (operation t n) ps
undoable_after lsn (CompEnd t n undone) ps = without_undoable (operation t n) ps
undoable_after lsn (Base many i) ps = []
undoable_after lsn _ ps = ps

abbrev pub active_after : Record → List Txn → List Txn
active_after (OpEnd t n level deed) ts = with_txn t ts
active_after (Commit t) ts = without_txn t ts
active_after (AbortEnd t) ts = without_txn t ts
active_after (Base many i) ts = []
active_after _ ts = ts

abbrev pub open_work_after : ℕ → Record → OpenWorkView → OpenWorkView
open_work_after lsn r h = record {
  incarnation = incarnation_one r h.incarnation;
  unfinished = unfinished_after r h.unfinished;
  undoable = undoable_after lsn r h.undoable;
  active = active_after r h.active;
}

abbrev pub open_work_of : List Record → OpenWorkView
open_work_of [] = record { incarnation = 0; unfinished = []; undoable = []; active = [] }
open_work_of (r ∷ log) = open_work_after (length log + 1) r (open_work_of log)
