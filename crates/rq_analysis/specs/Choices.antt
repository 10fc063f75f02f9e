-- Which transaction is next, as it is looked for by the stack of what is to be taken back.
use Rattle.std.specs.Prelude.{◌≡◌, cond, ℕ, List, [], ◌∷◌, map, Option, Some, None}
use Rattle.rq_model.specs.declared.txn.Txn.{Txn}
use Rattle.rq_model.specs.declared.record.Record.{Record}
use Rattle.rq_model.specs.Unended.{lost}
use Rattle.rq_page.specs.Sizes.{Sizes}
use Rattle.rq_txn.specs.declared.Finished.{Finished}
use Rattle.rq_txn.specs.Rows.{Row}
use Rattle.rq_store.specs.State.{State}
use Rattle.rq_sound.specs.Sound.{IsSound}
use Rattle.rq_analysis.specs.declared.dues.PendingUndo.{PendingUndo}
use Rattle.rq_analysis.specs.Dues.{any_due, dues, finished_due}
use Rattle.rq_analysis.specs.Lost.{lost_store}
use Rattle.rq_analysis.specs.Moves.{IsAbortMove}
use Rattle.rq_analysis.specs.Pages.{txn_less}
use Rattle.rq_analysis.specs.Turns.{EndsNext, TakesBackNext}

-- the one of the lesser number: by incarnation, then by count
abbrev pub lesser_in : Txn → Option Txn → Txn
lesser_in t None = t
lesser_in t (Some u) = cond (txn_less u t) u t

-- of these transactions the one of the least number of which nothing is due
abbrev pub least_free : List PendingUndo → List Txn → Option Txn
least_free ds [] = None
least_free ds (t ∷ ts) = cond (any_due t ds) (least_free ds ts) (Some (lesser_in t (least_free ds ts)))

-- the transactions that have not ended are those that are lost in the log
abbrev pub AreLost : State → Type 0
AreLost s = map (λ r. r.txn) s.rows ≡ lost s.records

-- Where they are, the least of them of which nothing is due ends next; where there is none, the first due is taken back;
-- and where nothing is due either, everything has ended. So it is of the store that a crash leaves, and of each that the
-- moves of an abort make of it.
pub record TurnsAreChosen : Type 0 where
  pub ends : (s : State) (t : Txn) → IsSound s → AreLost s → least_free (dues s.records) (lost s.records) ≡ Some t
      → (r : Row) × (r.txn ≡ t) × EndsNext s.rows r
  pub back : (s : State) (d : PendingUndo) (ds : List PendingUndo) → IsSound s → AreLost s
      → least_free (dues s.records) (lost s.records) ≡ None → dues s.records ≡ d ∷ ds
      → (r : Row) × (rest : List Finished) × (n : ℕ) × (r.txn ≡ d.txn) × TakesBackNext s.rows r rest (finished_due n d)
  pub done : (s : State) → IsSound s → AreLost s → least_free (dues s.records) (lost s.records) ≡ None
      → dues s.records ≡ [] → s.rows ≡ []
  pub first : (z : Sizes) (images : List (List ℕ)) (log : List Record) (forced : ℕ)
      → AreLost (lost_store z images log forced)
  pub stay : (s now : State) → IsAbortMove s now → AreLost s → AreLost now
