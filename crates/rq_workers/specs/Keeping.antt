-- The entries that calls leave in an audit.
use Rattle.std.specs.Prelude.{ℕ, ◌+◌, List, [], ◌∷◌, ◌++◌, if◌then◌else◌}
use Rattle.rq_engine.specs.Says.{gave}
use Rattle.rq_shared.specs.Entries.{Noted}
use Rattle.rq_shared.specs.Tied.{stamp_of, lacked_memory}
use Rattle.rq_shared.specs.declared.kept.Stamped.{Stamped}

-- how many entries a call left
abbrev pub count_left : Stamped → ℕ
count_left s = if lacked_memory (gave s.reply) then 0 else 1

-- how many calls left
abbrev pub counts_left : List Stamped → ℕ
counts_left [] = 0
counts_left (s ∷ ss) = count_left s + counts_left ss

-- the entries of calls, the newest call first: none of one that memory was wanting for
abbrev pub entries_left : List Stamped → List Noted
entries_left [] = []
entries_left (s ∷ ss) = if lacked_memory (gave s.reply) then entries_left ss else entries_left ss ++ stamp_of s ∷ []
