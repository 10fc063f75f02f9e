-- Ends and who holds them, transactions with nothing open in a log, and what finished operations took.
use Rattle.std.specs.Prelude.{◌≡◌, ℕ, true, false, List, []}
use Rattle.rq_model.specs.declared.txn.Txn.{Txn}
use Rattle.rq_model.specs.declared.record.Record.{Record}
use Rattle.rq_model.specs.Vocabulary.{same_txn, is_some}
use Rattle.rq_model.specs.Content.{has_end, deeds}
use Rattle.rq_page.specs.Sizes.{Sizes}
use Rattle.rq_views.specs.Items.{items, operation}
use Rattle.rq_views.specs.Claims.{takes_of}
use Rattle.rq_views.specs.Legal.{open_deeds, under_way}
use Rattle.rq_txn.specs.declared.Finished.{Finished}
use Rattle.rq_txn.specs.Rows.{Row, found_row}
use Rattle.rq_groups.specs.declared.Held.{Held}
use Rattle.rq_groups.specs.Ends.{has_held}

-- no two transactions hold an end, and each that holds one has not ended
pub record AreEnds (rows : List Row) (hs : List Held) : Type 0 where
  pub one : (t u : Txn) (s : ℕ) → has_held t s hs ≡ true → has_held u s hs ≡ true → t ≡ u
  pub living : (t : Txn) (s : ℕ) → has_held t s hs ≡ true → is_some (found_row t rows) ≡ true

-- t has nothing open in the log
pub record IsSettled (z : Sizes) (log : List Record) (t : Txn) : Type 0 where
  pub settled : open_deeds t (items z log) ≡ []
  pub unused : has_end log t ≡ false → deeds (λ u. same_txn u t) log ≡ []
  pub idle : (n : ℕ) → under_way (operation t n) (items z log) ≡ false

-- the messages that finished operations took
abbrev pub takes_one : Finished → ℕ
takes_one f = takes_of f.deed
