-- What is to be taken back, as a stack: the deeds of transactions with neither Commit nor AbortEnd that no inverse took
-- back, the newest first.
use Rattle.std.specs.Prelude.{◌≡◌, ℕ, ◌+◌, ◌≤◌, Bool, not, List, [], ◌∷◌, ◌++◌, length, Option, Some, None}
use Rattle.std.specs.List.{filter, list_any}
use Rattle.rq_model.specs.declared.txn.Txn.{Txn}
use Rattle.rq_model.specs.declared.record.Deed.{Deed}
use Rattle.rq_model.specs.declared.record.Record.{Record}
use Rattle.rq_model.specs.declared.record.Record.TheVariants.{AbortEnd, Base, CompEnd, Commit, OpEnd}
use Rattle.rq_model.specs.Deeds.{deed_by}
use Rattle.rq_model.specs.Vocabulary.{In, same_txn}
use Rattle.rq_views.specs.Items.{told_deed}
use Rattle.rq_txn.specs.declared.Finished.{Finished}
use Rattle.rq_txn.specs.Rows.{Row, found_row}
use Rattle.rq_store.specs.State.{State}
use Rattle.rq_sound.specs.Sound.{IsSound}
use Rattle.rq_analysis.specs.declared.dues.PendingUndo.{PendingUndo}
use Rattle.rq_analysis.specs.Stacks.{but_newest_of}

abbrev pub due_of : Txn → PendingUndo → Bool
due_of t d = same_txn d.txn t

-- all but the newest of the transaction's
abbrev pub but_newest : Txn → List PendingUndo → List PendingUndo
but_newest t = but_newest_of (due_of t)

-- something of the transaction's is due
abbrev pub any_due : Txn → List PendingUndo → Bool
any_due t = list_any (due_of t)

abbrev pub lsn_due : Option PendingUndo → Option ℕ
lsn_due None = None
lsn_due (Some d) = Some d.lsn

-- those of others
abbrev pub but_own : Txn → List PendingUndo → List PendingUndo
but_own t ds = filter (λ d. not (due_of t d)) ds

abbrev pub dues_after : ℕ → Record → List PendingUndo → List PendingUndo
dues_after n (OpEnd t m level deed) ds = record { txn = t; lsn = n; number = m; level = level; deed = deed } ∷ ds
dues_after n (CompEnd t m undone) ds = but_newest t ds
dues_after n (Commit t) ds = but_own t ds
dues_after n (AbortEnd t) ds = but_own t ds
dues_after n (Base many i) ds = []
dues_after n _ ds = ds

abbrev pub dues : List Record → List PendingUndo
dues [] = []
dues (r ∷ log) = dues_after (length log + 1) r (dues log)

abbrev pub deed_due : PendingUndo → Deed
deed_due d = told_deed (deed_by d.level d.deed)

-- the OpEnd that tells what is due
abbrev pub end_due : PendingUndo → Record
end_due d = OpEnd d.txn d.number d.level d.deed

-- what an operation of this number finished, if that is due
abbrev pub finished_due : ℕ → PendingUndo → Finished
finished_due n d = record { lsn = d.lsn; number = n; deed = deed_due d }

-- the due is the last of its transaction's row, and the newest of all
pub record IsNewestDue (s : State) (d : PendingUndo) : Type 0 where
  pub row : Row
  pub rest : List Finished
  pub number : ℕ
  pub at_row : found_row d.txn s.rows ≡ Some row
  pub last : row.finished ≡ rest ++ finished_due number d ∷ []
  pub newest : (q : Row) (g : Finished) → In q s.rows → In g q.finished → g.lsn ≤ d.lsn

-- Of a sound store the first due is what is taken back next, the rest are due once its inverse has ended, and where
-- nothing is due nobody has anything left.
pub record DuesAreNext : Type 0 where
  pub first : (s : State) (d : PendingUndo) (ds : List PendingUndo) → IsSound s → dues s.records ≡ d ∷ ds → IsNewestDue s d
  pub rest : (log : List Record) (d : PendingUndo) (ds : List PendingUndo) (n undone : ℕ) → dues log ≡ d ∷ ds
      → dues (CompEnd d.txn n undone ∷ log) ≡ ds
  pub none : (s : State) (r : Row) → IsSound s → dues s.records ≡ [] → In r s.rows → r.finished ≡ []
