-- What a connection was fed and gave, until a fault.
use Rattle.std.specs.Prelude.{◌≡◌, ℕ, Bool, List, drop, flat_map}
use Rattle.rq_wire.specs.declared.request.Request.{Request}
use Rattle.rq_wire.specs.declared.frames.Note.{Note}
use Rattle.rq_wire.specs.Looks.{looks}
use Rattle.rq_wire.specs.Stream.{Begins, stop}

abbrev pub fed_bytes : List Note → List ℕ
fed_bytes notes = flat_map (λ (n : Note). drop n.held.value n.unread.value.items) notes

abbrev pub given : List Note → List Request
given notes = flat_map (λ (n : Note). n.requests.value.items) notes

-- all bytes fed, up to the piece with a fault, all requests given, and whether a fault stands behind them
pub record Wire : Type 0 where
  pub bytes : List ℕ
  pub given : List Request
  pub fault : Bool

-- what is kept is what stands behind the requests given: a fault, or what is no whole frame yet
pub record Keeps (bytes : List ℕ) (requests : List Request) (fault : Bool) (unread : List ℕ) : Type 0 where
  pub begins : Begins requests bytes unread
  pub stops : looks unread ≡ stop fault
