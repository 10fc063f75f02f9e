-- What the abort of a transaction does, move by move.
use Rattle.std.specs.Prelude.{◌≡◌, ℕ, ◌+◌, true, List, [], ◌∷◌}
use Rattle.rq_model.specs.declared.record.Deed.{Deed}
use Rattle.rq_level.specs.declared.writes.SlotWrite.{SlotWrite}
use Rattle.rq_txn.specs.declared.Finished.{Finished}
use Rattle.rq_txn.specs.declared.Aim.TheVariants as aims
use Rattle.rq_txn.specs.Rows.{Row, Under}
use Rattle.rq_groups.specs.Waiting.{waits}
use Rattle.rq_store.specs.State.{State}
use Rattle.rq_store.specs.Steps.{took}
use Rattle.rq_sound.specs.Groups.{slots_now}
use Rattle.rq_sound.specs.Starts.{MayUndo}
use Rattle.rq_sound.specs.Inverses.{InverseTakesLowest}
use Rattle.rq_sound.specs.Calls.{IsIdle, IsNextWrite, IsReady, aborted, started, stepped, undone}

-- an inverse starts, into the lowest free cell where it puts a message back, makes a write or ends, or the abort ends
pub data IsAbortMove (s now : State) : Type 0 where
  Starts : (r : Row) (u : Under) (rest : List Finished) (f : Finished) → MayUndo s r u rest f
      → InverseTakesLowest s.sizes (slots_now s) s.rows f.deed u.writes → now ≡ started s r u s.ends
      → IsAbortMove s now
  Writes : (r : Row) (u : Under) (w : SlotWrite) (images : List (List ℕ)) (lsn : ℕ) (d : Deed)
      → u.aim ≡ aims.Undoing lsn d → IsNextWrite s r u w images → now ≡ stepped s r u w images → IsAbortMove s now
  Undoes : (r : Row) (u : Under) (lsn : ℕ) (d : Deed) (waiting : List ℕ) → IsReady s r u (aims.Undoing lsn d)
      → ((g : ℕ) → waits waiting g ≡ waits s.waiting g + took g d) → now ≡ undone s r u lsn d waiting
      → IsAbortMove s now
  Ends : (r : Row) → IsIdle s r → r.aborting ≡ true → r.finished ≡ [] → now ≡ aborted s r → IsAbortMove s now

-- the newest of these stores, the first where there is none
abbrev pub newest_store : State → List State → State
newest_store s [] = s
newest_store s (n ∷ ns) = n

-- each of these stores, the newest first, is a move behind the one before
abbrev pub MovesBehind : State → List State → Type 0
MovesBehind s [] = Unit {0}
MovesBehind s (n ∷ ns) = IsAbortMove (newest_store s ns) n × MovesBehind s ns

-- the store once every transaction is aborted, by such moves
pub record AreAborted (s now : State) : Type 0 where
  pub stores : List State
  pub last : newest_store s stores ≡ now
  pub moves : MovesBehind s stores
  pub none : now.rows ≡ []
