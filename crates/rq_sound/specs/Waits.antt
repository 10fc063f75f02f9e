-- Which groups give a transaction a message: what the model's tests ask, by what waits and who holds which ends.
use Rattle.std.specs.Prelude.{◌≡◌, ℕ, ◌<◌, ◌&&◌, true, false, nat_lt, Some}
use Rattle.rq_model.specs.Ledger.{found}
use Rattle.rq_model.specs.Tests.{any_gives, below, gives}
use Rattle.rq_page.specs.Sizes.{sender_count}
use Rattle.rq_groups.specs.Ends.{is_free_for}
use Rattle.rq_groups.specs.Waiting.{waits}
use Rattle.rq_txn.specs.Rows.{Row, found_row}
use Rattle.rq_store.specs.Plans.{WaitsFor, NoneWaits}
use Rattle.rq_store.specs.State.{State, ledger_of}
use Rattle.rq_sound.specs.Sound.{IsSound}

-- a group gives a transaction a message exactly where its receiving end is free for it and a message waits
pub record WaitsAreGiven : Type 0 where
  pub each : (s : State) (r : Row) (g : ℕ) → IsSound s → found_row r.txn s.rows ≡ Some r → g < sender_count s.sizes
      → gives (ledger_of s) r.txn (found r.txn (ledger_of s).open_ones) g
      ≡ (is_free_for r.txn g s.ends.receiving && nat_lt 0 (waits s.waiting g))
  pub some : (s : State) (r : Row) (g : ℕ) → IsSound s → found_row r.txn s.rows ≡ Some r → WaitsFor s r.txn g
      → any_gives (below (sender_count s.sizes)) (ledger_of s) r.txn (found r.txn (ledger_of s).open_ones) ≡ true
  pub none : (s : State) (r : Row) → IsSound s → found_row r.txn s.rows ≡ Some r → NoneWaits s r.txn
      → any_gives (below (sender_count s.sizes)) (ledger_of s) r.txn (found r.txn (ledger_of s).open_ones) ≡ false
