-- What a level of a store is, by which of the three it is.
use Rattle.std.specs.Prelude.{ℕ}
use Rattle.rq_level.specs.LevelState.{LevelState, nothing_kept}
use Rattle.rq_levels.specs.declared.store_level.StoreLevel.{StoreLevel}
use Rattle.rq_levels.specs.declared.store_level.StoreLevel.TheVariants as levels

abbrev pub number_of : StoreLevel → ℕ
number_of (levels.Slots level) = 0
number_of (levels.Chains level) = 1
number_of (levels.Tags level) = 2

abbrev pub kept_of : StoreLevel → LevelState
kept_of (levels.Slots level) = nothing_kept
kept_of (levels.Chains level) = level
kept_of (levels.Tags level) = level
