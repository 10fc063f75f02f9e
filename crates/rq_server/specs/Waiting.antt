-- Which commits wait at the connections that a round goes over.
use Rattle.std.specs.Prelude.{◌≡◌, ◌≤◌, ℕ, cond, List, [], Option, Some, None}
use Rattle.std.specs.List.{filter_map}
use Rattle.slab.specs.Slab.{Slab, get}
use Rattle.rq_model.specs.Tests.{below}
use Rattle.rq_model.specs.Vocabulary.{In}
use Rattle.rq_server.specs.declared.connection.Connection.{Connection}
use Rattle.rq_server.specs.declared.rounds.Connections.{Connections}

-- the tokens that a round goes over
abbrev pub tokens : Connections → List ℕ
tokens c = cond c.is_held (below c.connections.capacity) c.active.items

-- the commit that waits at a connection
abbrev pub awaited_by : Option Connection → Option ℕ
awaited_by None = None
awaited_by (Some c) = c.awaited

abbrev pub awaited_at : Slab Connection → ℕ → Option ℕ
awaited_at s token = awaited_by (get s token)

-- the commits that wait at those
abbrev pub awaited : Connections → List ℕ
awaited c = filter_map (awaited_at c.connections) (tokens c)

-- none of these LSNs is greater
abbrev pub AreUpTo : ℕ → List ℕ → Type 0
AreUpTo last lsns = (lsn : ℕ) → In lsn lsns → lsn ≤ last

-- the last of these LSNs, if there is one
abbrev pub IsLast : List ℕ → Option ℕ → Type 0
IsLast lsns None = lsns ≡ []
IsLast lsns (Some last) = In last lsns × AreUpTo last lsns
