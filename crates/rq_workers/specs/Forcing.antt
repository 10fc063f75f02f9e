-- What stamps say of how many records are forced.
use Rattle.std.specs.Prelude.{ℕ, max, List, [], ◌∷◌}
use Rattle.rq_engine.specs.declared.event.Reply.{Reply}
use Rattle.rq_engine.specs.declared.event.Reply.TheVariants.{Forced}
use Rattle.rq_shared.specs.declared.kept.Stamped.{Stamped}

-- up to which record a reply says that all is forced; 0 where it says nothing of it
abbrev pub lsn_forced : Reply → ℕ
lsn_forced (Forced lsn) = lsn
lsn_forced _ = 0

-- the greatest of these that some stamp says
abbrev pub most_forced : List Stamped → ℕ
most_forced [] = 0
most_forced (s ∷ ss) = max (lsn_forced s.reply) (most_forced ss)
