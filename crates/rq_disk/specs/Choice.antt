-- Which image of each page outlives a crash.
use Rattle.std.specs.Prelude.{ℕ, ◌-◌, Option, Some, None, slice_get}
use Rattle.rq_disk.specs.declared.choice.PageChoice.{PageChoice}
use Rattle.rq_disk.specs.declared.choice.PageChoice.TheVariants.{Synced, Newest, Places}

-- the place of a page's image among the synced one, which is 0, and those written since; none is the newest
abbrev pub place_of : PageChoice → ℕ → Option ℕ
place_of Synced page = Some 0
place_of Newest page = None
place_of (Places places) page = slice_get places.items page

-- a place, as counted from an image that was written after `count` others
abbrev pub place_after : Option ℕ → ℕ → Option ℕ
place_after None count = None
place_after (Some place) count = Some (place - count)
