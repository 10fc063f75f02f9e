-- What no sound store has.
use Rattle.std.specs.Prelude.{◌≡◌, ◌≢◌, ℕ, ◌+◌, ◌<◌, true, false, List, [], ◌∷◌, ◌++◌, Some, length}
use Rattle.rq_model.specs.declared.txn.Txn.{Txn}
use Rattle.rq_model.specs.declared.record.Deed.{Deed}
use Rattle.rq_model.specs.Content.{deeds}
use Rattle.rq_model.specs.Rules.{any_use, uses_send}
use Rattle.rq_model.specs.Vocabulary.{In, same_txn}
use Rattle.rq_txn.specs.declared.Finished.{Finished}
use Rattle.rq_groups.specs.Ends.{has_held}
use Rattle.rq_txn.specs.Rows.{Under, Row, latched_by}
use Rattle.rq_store.specs.State.{State}
use Rattle.rq_txn.specs.declared.Aim.TheVariants as aims
use Rattle.rq_sound.specs.Sound.{IsSound}

-- what no sound store has: two operations that have latched one page; an end with two holders; a deed under way of who
-- aborts, and an inverse of who doesn't, or of a deed that is not the newest; who let go of an end that it used, even
-- where it has undone that; a cell more than are used
pub record NotSound : Type 0 where
  pub one_page : (s : State) (r q : Row) (u v : Under) (p : ℕ) → In r s.rows → In q s.rows → r.txn ≢ q.txn
      → r.under ≡ Some u → q.under ≡ Some v → latched_by u p ≡ true → latched_by v p ≡ true → IsSound s → ⊥
  pub one_end : (s : State) (t u : Txn) (g : ℕ) → t ≢ u → has_held t g s.ends.sending ≡ true
      → has_held u g s.ends.sending ≡ true → IsSound s → ⊥
  pub does : (s : State) (r : Row) (u : Under) (d : Deed) → In r s.rows → r.under ≡ Some u → u.aim ≡ aims.Doing d
      → r.aborting ≡ true → IsSound s → ⊥
  pub undoes : (s : State) (r : Row) (u : Under) (lsn : ℕ) (d : Deed) → In r s.rows → r.under ≡ Some u
      → u.aim ≡ aims.Undoing lsn d → r.aborting ≡ false → IsSound s → ⊥
  pub older : (s : State) (r : Row) (u : Under) (lsn : ℕ) (d : Deed) (rest : List Finished) (f : Finished)
      → In r s.rows → r.under ≡ Some u → u.aim ≡ aims.Undoing lsn d → r.finished ≡ rest ++ f ∷ [] → f.lsn ≢ lsn
      → IsSound s → ⊥
  pub let_go : (s : State) (r : Row) (g : ℕ) → In r s.rows
      → any_use (uses_send g) (deeds (λ u. same_txn u r.txn) s.records) ≡ true
      → has_held r.txn g s.ends.sending ≡ false → IsSound s → ⊥
  pub counts_more : (s : State) → IsSound s → IsSound (record s { cells_in_use = s.cells_in_use + 1 }) → ⊥
  pub forced_beyond : (s : State) → length s.records < s.forced → IsSound s → ⊥
  pub two_rows : (s : State) (r : Row) → s.rows ≡ r ∷ r ∷ [] → IsSound s → ⊥
