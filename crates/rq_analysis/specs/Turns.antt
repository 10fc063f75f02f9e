-- Where all transactions are to be undone: which is next, and what is done to it.
use Rattle.std.specs.Prelude.{◌≡◌, ◌≢◌, ◌≤◌, true, false, List, [], ◌∷◌, ◌++◌}
use Rattle.rq_model.specs.Vocabulary.{In}
use Rattle.rq_txn.specs.declared.Finished.{Finished}
use Rattle.rq_txn.specs.Rows.{Row, any_under}
use Rattle.rq_store.specs.State.{State}
use Rattle.rq_analysis.specs.Pages.{txn_less}
use Rattle.rq_analysis.specs.Moves.{IsAbortMove, newest_store}
use Rattle.rq_analysis.specs.Moves.IsAbortMove.{Starts, Writes, Undoes, Ends}

-- every transaction is to be undone
abbrev pub AreAborting : List Row → Type 0
AreAborting rows = (r : Row) → In r rows → r.aborting ≡ true

-- of those with nothing left to undo the least ends first: by incarnation, then by count
pub record EndsNext (rows : List Row) (r : Row) : Type 0 where
  pub row : In r rows
  pub empty : r.finished ≡ []
  pub least : (q : Row) → In q rows → q.finished ≡ [] → txn_less q.txn r.txn ≡ false

-- where each has something left, the newest deed of all is taken back
pub record TakesBackNext (rows : List Row) (r : Row) (rest : List Finished) (f : Finished) : Type 0 where
  pub row : In r rows
  pub last : r.finished ≡ rest ++ f ∷ []
  pub some : (q : Row) → In q rows → q.finished ≢ []
  pub newest : (q : Row) (g : Finished) → In q rows → In g q.finished → g.lsn ≤ f.lsn

pub data NextTurn (rows : List Row) : Type 0 where
  End : (r : Row) → EndsNext rows r → NextTurn rows
  TakeBack : (r : Row) (rest : List Finished) (f : Finished) → TakesBackNext rows r rest f → NextTurn rows

-- a move is in turn: an inverse starts, and a transaction ends, only where nothing is under way, and where it is next
abbrev pub IsInTurn : (s now : State) → IsAbortMove s now → Type 0
IsInTurn s now (Starts r u rest f may lowest e) = (any_under s.rows ≡ false) × TakesBackNext s.rows r rest f
IsInTurn s now (Writes r u w images lsn d aim next e) = Unit {0}
IsInTurn s now (Undoes r u lsn d waiting ready more e) = Unit {0}
IsInTurn s now (Ends r idle aborting none e) = (any_under s.rows ≡ false) × EndsNext s.rows r

-- each of these stores, the newest first, is a move in turn behind the one before
abbrev pub MovesInTurn : State → List State → Type 0
MovesInTurn s [] = Unit {0}
MovesInTurn s (n ∷ ns) = ((m : IsAbortMove (newest_store s ns) n) × IsInTurn (newest_store s ns) n m) × MovesInTurn s ns
