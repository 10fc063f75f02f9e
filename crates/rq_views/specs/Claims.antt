-- The cells that messages hold, and those that they may need again.
use Rattle.std.specs.Prelude.{ℕ, ◌+◌, ◌-◌, ◌≤◌, List, [], ◌∷◌}
use Rattle.std.specs.List.{sum_by}
use Rattle.rq_model.specs.declared.record.Deed.{Deed}
use Rattle.rq_model.specs.declared.record.Deed.TheVariants.{Append, UnlinkHead}
use Rattle.rq_views.specs.Log.{Item}
use Rattle.rq_views.specs.Log.Item.{OpEnd, CompEnd, Commit}
use Rattle.rq_views.specs.Legal.{Placed, open_deeds}

-- how many messages the deed takes
abbrev pub takes_of : Deed → ℕ
takes_of (UnlinkHead sender sequence tag body) = 1
takes_of _ = 0

-- and how many it sends
abbrev pub appends_of : Deed → ℕ
appends_of (Append sender sequence tag previous body) = 1
appends_of _ = 0

abbrev pub takes_placed : Placed → ℕ
takes_placed p = takes_of p.deed

-- how many messages the newest of these sent
abbrev pub newest_appends : List Placed → ℕ
newest_appends [] = 0
newest_appends (p ∷ ps) = appends_of p.deed

abbrev pub claimed_after : Item → List Item → ℕ → ℕ
claimed_after (OpEnd o d) log n = n + appends_of d
claimed_after (CompEnd o u) log n = n - newest_appends (open_deeds o.txn log)
claimed_after (Commit t) log n = n - sum_by takes_placed (open_deeds t log)
claimed_after _ log n = n

-- The cells of messages that are in chains, or that are taken and may be put back: a message claims one from the end of
-- its send until this
-- is undone, or until whoever took it commits.
abbrev pub claimed : List Item → ℕ
claimed [] = 0
claimed (r ∷ log) = claimed_after r log (claimed log)

-- a message that is sent finds a cell that no other claims
abbrev pub MayClaim : ℕ → List Item → Item → Type 0
MayClaim cells log (OpEnd o d) = claimed log + appends_of d ≤ cells
MayClaim cells log _ = Unit {0}

abbrev pub HasRoom : ℕ → List Item → Type 0
HasRoom cells [] = Unit {0}
HasRoom cells (r ∷ log) = MayClaim cells log r × HasRoom cells log
