-- What is kept of a log, by which its next record is judged.
use Rattle.std.specs.Prelude.{◌≡◌, ◌+◌, ◌⊎◌, true, false, List, [], ◌∷◌, Some}
use Rattle.std.specs.FinSet as set
use Rattle.std.specs.List.{filter}
use Rattle.rq_model.specs.declared.txn.Sub.{Sub}
use Rattle.rq_model.specs.declared.record.Record.{Record}
use Rattle.rq_model.specs.declared.record.Record.TheVariants.{PageOp, PageUndo, OpEnd, OpVoid, CompEnd, Commit, AbortEnd, Restart, Base}
use Rattle.rq_model.specs.Vocabulary.{first}
use Rattle.rq_views.specs.Items.{operation}
use Rattle.rq_analysis.specs.OpenWorkView.{OpenWorkView, open_work_of, has_sub, undoable_at, undoable_by}
use Rattle.rq_analysis.specs.declared.dues.PendingUndo.{PendingUndo}
use Rattle.rq_analysis.specs.Dues.{due_of, dues, lsn_due}
use Rattle.rq_analysis.specs.Numbers.{number_of, numbers}
use Rattle.rq_analysis.specs.Runs.{Counts, has_count}

abbrev pub ended_after : Record → Counts → Counts
ended_after (Commit t) c = set.insert c t.count
ended_after (AbortEnd t) c = set.insert c t.count
ended_after (Restart i) c = set.empty
ended_after (Base many i) c = set.empty
ended_after _ c = c

-- the counts of the running incarnation's transactions that have a Commit or an AbortEnd
abbrev pub ended : List Record → Counts
ended [] = set.empty
ended (r ∷ log) = ended_after r (ended log)

-- these are what is kept of the log
pub record AreTablesOf (log : List Record) (h : OpenWorkView) (ds : List PendingUndo) (os : List Sub) (c : Counts) : Type 0 where
  pub open_work : h ≡ open_work_of log
  pub dues : ds ≡ dues log
  pub numbers : os ≡ numbers log
  pub ended : c ≡ ended log

-- a PageUndo puts back what stood before the newest write of its operation
abbrev pub PutsBack : OpenWorkView → Record → Type 0
PutsBack h (PageUndo t n undone page slot after) =
    first (filter (undoable_by (operation t n)) h.undoable) ≡ Some (undoable_at undone (operation t n) page slot after)
PutsBack h _ = Unit {0}

-- what is asked of a record by what is kept, but that its deed is read
abbrev pub Passes : OpenWorkView → List PendingUndo → List Sub → Counts → Record → Type 0
Passes h ds os c (PageOp t n page slot before after) =
    (has_count t.count c ≡ false)
    × ((has_sub (operation t n) h.unfinished ≡ true) ⊎ (n ≡ number_of t os + 1))
Passes h ds os c (PageUndo t n undone page slot after) =
    (has_count t.count c ≡ false)
    × (has_sub (operation t n) h.unfinished ≡ true) × PutsBack h (PageUndo t n undone page slot after)
Passes h ds os c (OpEnd t n level deed) = (has_count t.count c ≡ false) × (has_sub (operation t n) h.unfinished ≡ true)
Passes h ds os c (OpVoid t n) = (has_count t.count c ≡ false) × (has_sub (operation t n) h.unfinished ≡ true)
Passes h ds os c (CompEnd t n undone) =
    (has_count t.count c ≡ false)
    × (has_sub (operation t n) h.unfinished ≡ true) × (lsn_due (first (filter (due_of t) ds)) ≡ Some undone)
Passes h ds os c (Commit t) = has_count t.count c ≡ false
Passes h ds os c (AbortEnd t) = has_count t.count c ≡ false
Passes h ds os c (Restart i) = Unit {0}
Passes h ds os c (Base many i) = ⊥
