-- When an open store with any operations under way goes back to a whole log.
use Rattle.std.specs.Prelude.{◌≡◌, ℕ, ◌≤◌, length}
use Rattle.rq_model.specs.Incarnations.{incarnation_of}
use Rattle.rq_page.specs.Sizes.{IsInRange}
use Rattle.rq_views.specs.Stored.{slots_in}
use Rattle.rq_store.specs.State.{State}
use Rattle.rq_store.specs.Fitting.{left_by, image_in, oldest, AllHoldBase, FitsLog}
use Rattle.rq_store.specs.Sends.{KeepsSends}
use Rattle.rq_store.specs.Whole.{IsWhole}
use Rattle.rq_sound.specs.Standing.{AreStanding}
use Rattle.rq_sound.specs.Counted.{AreCounted}

-- The store goes back to a whole log.
pub record IsSound (s : State) : Type 0 where
  pub range : IsInRange s.sizes
  pub log : IsWhole s.sizes s.records
  pub incarnation : incarnation_of s.records ≡ s.incarnation
  -- the record that began it is forced
  pub begun : incarnation_of (oldest s.forced s.records) ≡ s.incarnation
  pub some : 1 ≤ s.incarnation
  pub pages : (a : ℕ) → slots_in s.sizes s.images a ≡ (left_by s.sizes s.records).slots a
  pub fits : FitsLog s.sizes (image_in s.images) s.records
  pub based : AllHoldBase s.sizes (image_in s.images) s.records
  pub standing : AreStanding s.sizes s.records s.ends s.rows s.incarnation s.begins
  pub counted : AreCounted s.sizes s.records s.rows s.cells_in_use s.waiting
  pub sent : KeepsSends s.sizes s.records s.sent
  pub forced : s.forced ≤ length s.records
