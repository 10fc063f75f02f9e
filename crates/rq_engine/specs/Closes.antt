-- A planned close.
use Rattle.std.specs.Prelude.{◌≡◌, ℕ, ◌/◌, ◌<◌, Bool, true}
use Rattle.rq_model.specs.declared.record.Deed.TheVariants.{Close}
use Rattle.rq_model.specs.Deeds.{TellsItself}
use Rattle.rq_page.specs.Sizes.{Sizes, directory_at, sender_count}
use Rattle.rq_views.specs.Log.{Slots}
use Rattle.rq_txn.specs.declared.Aim.TheVariants.{Doing}
use Rattle.rq_txn.specs.Rows.{Under, deed_of, latched_in}
use Rattle.rq_store.specs.State.{State}
use Rattle.rq_sound.specs.Plans.{IsMarking}

-- the operation closes a sender's group, planned from these slots, and nothing of it is made
pub record IsClosePlan (z : Sizes) (q : Slots) (u : Under) (sender : ℕ) : Type 0 where
  pub made : u.made ≡ 0
  pub below : sender < sender_count z
  pub marking : IsMarking z q u.writes sender true
  pub aim : u.aim ≡ Doing (Close sender)
  pub reads : TellsItself (deed_of u.aim)

-- a close of the group needs a latched page
abbrev pub close_latched : State → ℕ → Bool
close_latched s g = latched_in s.rows (directory_at g / 16)
