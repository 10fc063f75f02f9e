-- What files hold, where a store that is opened from them is sound.
use Rattle.std.specs.Prelude.{ℕ, List}
use Rattle.rq_log.specs.Spelled.{AreSpelled, EndsWith}
use Rattle.rq_model.specs.declared.record.Record.{Record}
use Rattle.rq_page.specs.Sizes.{Sizes}
use Rattle.rq_pool.specs.Reading.{IsSuperblock}
use Rattle.rq_store.specs.Opening.{IsLeft}

-- The pages and the log of a store, as a crash or a clean end may leave one. Its sizes are those that its first page shows. The
-- records are the whole log, with what may have stood before a Base.
pub record HoldStore (pages : ℕ → List ℕ) (log : List ℕ) : Type 0 where
  pub records : List Record
  pub are_spelled : AreSpelled records
  pub reads : EndsWith records log
  pub left : (z : Sizes) → IsSuperblock z (pages 0) → IsLeft z pages records
