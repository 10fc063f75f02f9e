-- A group of the content, and the same as a view of its chain.
use Rattle.std.specs.Prelude.{◌≡◌, ℕ, ◌+◌, List, length, map}
use Rattle.rq_model.specs.declared.message.Message.{Message}
use Rattle.rq_model.specs.History.{Group}
use Rattle.rq_views.specs.Chain.{View}

abbrev pub message_of : ℕ → ℕ × List ℕ → Message
message_of s m = record { sender = s; tag = m.0; body = m.1 }

-- the view shows what the group of s holds
pub record IsViewOf (s : ℕ) (g : Group) (v : View) : Type 0 where
  pub closed : v.closed ≡ g.closed
  pub received : v.received ≡ g.received
  pub sent : g.sent ≡ v.received + length v.messages
  pub last_tag : v.last_tag ≡ g.last_tag
  pub rest : g.rest ≡ map (message_of s) v.messages
