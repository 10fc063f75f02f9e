-- The values that a list without bytes holds.
use Rattle.std.specs.Prelude.{List, [], ◌∷◌, Option, Some, None}
use Rattle.std.specs.declared.snapshot.Snapshot.{Snapshot}

abbrev pub noted : {T : Type 0} → Option (Snapshot T × Snapshot (List T)) → List T
noted None = []
noted (Some p) = p.0.value ∷ p.1.value
