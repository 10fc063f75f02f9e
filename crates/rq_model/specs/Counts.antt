-- What finished operations count: whose they are, and which of them take a message.
use Rattle.std.specs.Prelude.{ℕ, ◌<◌, ◌≤◌, Bool, true, false, List, [], ◌∷◌}
use Rattle.rq_model.specs.Vocabulary.{Op, client_group}
use Rattle.rq_model.specs.Vocabulary.Op.{Send, Take, End, Mark}

-- the operation took a message
abbrev pub is_taken : Op → Bool
is_taken (Take m) = true
is_taken _ = false

-- the operation is on the group of one of the first n senders, or on that of a client, which is none of these
abbrev pub IsBelow : ℕ → Op → Type 0
IsBelow n (Send m) = m.sender < n
IsBelow n (Take m) = m.sender < n
IsBelow n (End s) = s < n
IsBelow n (Mark client tag) = n ≤ client_group client

-- every operation is so
abbrev pub AllBelow : ℕ → List Op → Type 0
AllBelow n [] = Unit {0}
AllBelow n (op ∷ ops) = IsBelow n op × AllBelow n ops
