-- Clients' slots that were given, and the damage that is told of a client's tags.
use Rattle.std.specs.Prelude.{◌≡◌, ℕ, ◌<◌, ◌/◌, List}
use Rattle.rq_model.specs.declared.refusal.Damage.{Damage}
use Rattle.rq_model.specs.declared.refusal.Damage.TheVariants as damage
use Rattle.rq_page.specs.Sizes.{Sizes, client_count, client_slot_at}
use Rattle.rq_page.specs.Slots.{Client, IsClientOf}
use Rattle.rq_page.specs.declared.client.ClientSlot.{ClientSlot}
use Rattle.rq_level.specs.Given.{GivenHolds}
use Rattle.rq_level.specs.declared.slots.Given.{Given}

-- the client is one of the store's, and its slot was given, which holds this
pub record IsClientGiven (z : Sizes) (given : List Given) (c : ℕ) (held : ClientSlot) : Type 0 where
  pub below : c < client_count z
  pub holds : GivenHolds z given (client_slot_at z c) (Client held)
  pub fits : IsClientOf c held

-- it is of the page of the client's slot
abbrev pub IsOfClient : Sizes → ℕ → Damage → Type 0
IsOfClient z c d = d ≡ damage.Page (client_slot_at z c / 16)
