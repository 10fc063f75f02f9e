-- A planned mark.
use Rattle.std.specs.Prelude.{◌≡◌, ℕ, ◌/◌, ◌<◌, Bool}
use Rattle.rq_model.specs.declared.record.Deed.TheVariants.{Mark}
use Rattle.rq_model.specs.Deeds.{TellsItself}
use Rattle.rq_page.specs.Sizes.{Sizes, client_count, client_slot_at}
use Rattle.rq_views.specs.Log.{Slots}
use Rattle.rq_txn.specs.declared.Aim.TheVariants.{Doing}
use Rattle.rq_txn.specs.Rows.{Under, deed_of, latched_in}
use Rattle.rq_store.specs.State.{State}
use Rattle.rq_sound.specs.Plans.{IsTagging}

-- the operation marks a tag for a client, planned from these slots, and nothing of it is made
pub record IsMarkPlan (z : Sizes) (q : Slots) (u : Under) (client tag : ℕ) : Type 0 where
  pub previous : ℕ
  pub made : u.made ≡ 0
  pub below : client < client_count z
  pub tagging : IsTagging z q u.writes client tag previous
  pub aim : u.aim ≡ Doing (Mark client tag previous)
  pub reads : TellsItself (deed_of u.aim)

-- a mark of the client needs a latched page
abbrev pub mark_latched : State → ℕ → Bool
mark_latched s c = latched_in s.rows (client_slot_at s.sizes c / 16)
