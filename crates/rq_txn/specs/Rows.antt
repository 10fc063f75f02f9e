-- The transactions that have not ended, the newest first.
use Rattle.std.specs.Prelude.{◌≡◌, ℕ, ◌+◌, ◌/◌, Bool, true, false, cond, not, ◌||◌, List, [], ◌∷◌, ◌++◌, Option, Some, None, map}
use Rattle.std.specs.List.{filter}
use Rattle.rq_model.specs.declared.txn.Txn.{Txn}
use Rattle.rq_model.specs.declared.record.Deed.{Deed}
use Rattle.rq_model.specs.Vocabulary.{front, same_txn, is_some}
use Rattle.rq_level.specs.declared.writes.SlotWrite.{SlotWrite}
use Rattle.rq_level.specs.Given.{has_page}
use Rattle.rq_txn.specs.declared.Aim.{Aim}
use Rattle.rq_txn.specs.declared.Aim.TheVariants.{Doing, Undoing}
use Rattle.rq_txn.specs.declared.Finished.{Finished}
use Rattle.rq_txn.specs.declared.Operation.{Operation}
use Rattle.rq_txn.specs.declared.Transaction.{Transaction}

-- what an operation is there to do or to take back
abbrev pub deed_of : Aim → Deed
deed_of (Doing d) = d
deed_of (Undoing lsn d) = d

-- an operation under way: its slot writes in order, and how many of them are made
pub record Under : Type 0 where
  pub number : ℕ
  pub writes : List SlotWrite
  pub made : ℕ
  pub aim : Aim

-- A transaction that has not ended, with what it has finished and not undone, in order. What it is undoing is not yet
-- undone.
pub record Row : Type 0 where
  pub txn : Txn
  pub aborting : Bool
  pub finished : List Finished
  pub number : ℕ
  pub under : Option Under

abbrev pub under_of : Operation → Under
under_of o = record { number = o.number; writes = o.writes.items; made = o.made; aim = o.aim }

abbrev pub under_way_of : Option Operation → Option Under
under_way_of None = None
under_way_of (Some o) = Some (under_of o)

abbrev pub row_of : Transaction → Row
row_of t = record {
  txn = t.txn;
  aborting = t.aborting;
  finished = t.finished.items;
  number = t.number;
  under = under_way_of t.under_way;
}

abbrev pub fresh_row : Txn → Row
fresh_row t = record { txn = t; aborting = false; finished = []; number = 0; under = None }

-- the transaction's row
abbrev pub found_row : Txn → List Row → Option Row
found_row t [] = None
found_row t (r ∷ rows) = cond (same_txn r.txn t) (Some r) (found_row t rows)

abbrev pub change_row_one : Txn → (Row → Row) → Row → Row
change_row_one t f r = cond (same_txn r.txn t) (f r) r

-- the rows with the transaction's changed
abbrev pub change_row : Txn → (Row → Row) → List Row → List Row
change_row t f rows = map (change_row_one t f) rows

abbrev pub without_row : Txn → List Row → List Row
without_row t rows = filter (λ r. not (same_txn r.txn t)) rows

-- no transaction has two rows
abbrev pub AreDistinct : List Row → Type 0
AreDistinct [] = Unit {0}
AreDistinct (r ∷ rows) = (found_row r.txn rows ≡ None) × AreDistinct rows

-- the operation is under way
abbrev pub row_started : Under → Row → Row
row_started u r = record r { number = u.number; under = Some u }

-- one more of its writes is made
abbrev pub under_stepped : Option Under → Option Under
under_stepped None = None
under_stepped (Some u) = Some (record u { made = u.made + 1 })

abbrev pub row_stepped : Row → Row
row_stepped r = record r { under = under_stepped r.under }

-- its deed is done
abbrev pub row_finished : Finished → Row → Row
row_finished f r = record r { finished = r.finished ++ f ∷ []; under = None }

-- what an operation under way comes to whose end has this LSN
abbrev pub finished_at : ℕ → Option Under → List Finished
finished_at lsn None = []
finished_at lsn (Some u) = record { lsn = lsn; number = u.number; deed = deed_of u.aim } ∷ []

-- its operation under way is finished, and its end has this LSN
abbrev pub row_ended : ℕ → Row → Row
row_ended lsn r = record r { finished = r.finished ++ finished_at lsn r.under; under = None }

-- its inverse is done, and this is left
abbrev pub row_undone : List Finished → Row → Row
row_undone fs r = record r { finished = fs; under = None }

-- so its newest deed is undone
abbrev pub row_taken_back : Row → Row
row_taken_back r = row_undone (front r.finished) r

abbrev pub row_aborting : Row → Row
row_aborting r = record r { aborting = true }

-- some operation is under way
abbrev pub any_under : List Row → Bool
any_under [] = false
any_under (r ∷ rows) = is_some r.under || any_under rows

-- the pages that an operation has latched: those of its writes
abbrev pub latched_by : Under → ℕ → Bool
latched_by u p = has_page p (map (λ w. w.at / 16) u.writes)

abbrev pub latched_under : Option Under → ℕ → Bool
latched_under None p = false
latched_under (Some u) p = latched_by u p

-- some operation under way has latched the page
abbrev pub latched_in : List Row → ℕ → Bool
latched_in [] p = false
latched_in (r ∷ rows) p = latched_under r.under p || latched_in rows p

-- what a transaction has finished and not undone: nothing where it has no row
abbrev pub finished_of : Option Row → List Finished
finished_of None = []
finished_of (Some r) = r.finished
