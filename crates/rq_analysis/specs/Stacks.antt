-- Lists in which the newest stands first.
use Rattle.std.specs.Prelude.{Bool, cond, List, [], ◌∷◌}

-- all but the newest of which this is so
abbrev pub but_newest_of : {X : Type 0} → (X → Bool) → List X → List X
but_newest_of f [] = []
but_newest_of f (x ∷ xs) = cond (f x) xs (x ∷ but_newest_of f xs)
