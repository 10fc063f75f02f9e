-- Which deeds have a spelling.
use Rattle.std.specs.Prelude.{◌≡◌, ℕ, ◌<◌, ◌≤◌, ◌^◌, List, length}
use Rattle.rq_model.specs.declared.record.Deed.{Deed}
use Rattle.rq_model.specs.declared.record.Deed.TheVariants.{Append, UnlinkHead, Close, Mark}
use Rattle.rq_model.specs.Deeds.{spelled_deed, TellsItself}
use Rattle.rq_bytes.specs.Number.{AreBytes}

-- what a deed may say: sequences begin at 1
abbrev pub IsDeedInRange : Deed → Type 0
IsDeedInRange (Append sender sequence tag previous body) = 0 < sequence
IsDeedInRange (UnlinkHead sender sequence tag body) = 0 < sequence
IsDeedInRange (Close sender) = Unit {0}
IsDeedInRange (Mark client tag previous) = Unit {0}

abbrev pub IsBody : List ℕ → Type 0
IsBody body = (length body ≤ 216) × AreBytes body

-- what is so of each deed that a program holds: its fields are of their types
abbrev pub DeedFits : Deed → Type 0
DeedFits (Append sender sequence tag previous body) = (sender < 2 ^ 32) × (sequence < 2 ^ 64) × (tag < 2 ^ 64)
    × (previous < 2 ^ 64) × IsBody body
DeedFits (UnlinkHead sender sequence tag body) = (sender < 2 ^ 32) × (sequence < 2 ^ 64) × (tag < 2 ^ 64) × IsBody body
DeedFits (Close sender) = sender < 2 ^ 32
DeedFits (Mark client tag previous) = (client < 2 ^ 32) × (tag < 2 ^ 64) × (previous < 2 ^ 64)

-- what has a spelling
abbrev pub IsDeed : Deed → Type 0
IsDeed d = IsDeedInRange d × DeedFits d

-- no two deeds have one spelling
abbrev pub EachDeedHasItsSpelling : Type 0
EachDeedHasItsSpelling = (d e : Deed) → IsDeed d → IsDeed e → spelled_deed d ≡ spelled_deed e → d ≡ e

-- the spelling of a deed tells that deed
abbrev pub DeedsAreTold : Type 0
DeedsAreTold = (d : Deed) → IsDeed d → TellsItself d
