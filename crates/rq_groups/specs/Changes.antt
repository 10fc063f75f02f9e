-- What is held after changes of it.
use Rattle.std.specs.Prelude.{List, [], ◌∷◌, drop}
use Rattle.rq_groups.specs.declared.Held.{Held}
use Rattle.rq_groups.specs.declared.end_table.Change.{Change}
use Rattle.rq_groups.specs.declared.end_table.Change.TheVariants.{Took, Released, Undid}
use Rattle.rq_groups.specs.Ends.{released}

-- the ends held, the newest first
abbrev pub held_after : List Change → List Held
held_after [] = []
held_after (Took h ∷ cs) = h ∷ held_after cs
held_after (Released t ∷ cs) = released t (held_after cs)
held_after (Undid ∷ cs) = drop 1 (held_after cs)
