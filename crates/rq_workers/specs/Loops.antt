-- What the loop of a log writer does, that of a page writer, and the one that makes checkpoints.
use Rattle.std.specs.Prelude.{◌≡◌, ℕ, ◌+◌, true, false, cond, nat_lt, List, [], ◌∷◌}
use Rattle.rq_engine.specs.declared.event.Event.TheVariants.{Force, WritePage, Checkpoint}
use Rattle.rq_workers.specs.declared.acts.Act.{Act}
use Rattle.rq_workers.specs.declared.acts.Act.TheVariants.{Asked, Made, Forced}

-- rounds, each of a force by the interface's own force behind point 1, where the gate let it through
abbrev pub AreForces : List Act → Type 0
AreForces [] = Unit {0}
AreForces (Forced s ∷ Asked point passed ∷ acts) = (s.value.event ≡ Force) × (point ≡ 1) × (passed ≡ true)
    × AreForces acts
AreForces _ = ⊥

-- the log is written in rounds, until the gate says no at point 1
abbrev pub IsLogWriting : List Act → Type 0
IsLogWriting (Asked point passed ∷ acts) = (point ≡ 1) × (passed ≡ false) × AreForces acts
IsLogWriting _ = ⊥

-- the page behind this one, and the first behind the last
abbrev pub page_after : ℕ → ℕ → ℕ
page_after pages page = cond (nat_lt (page + 1) pages) (page + 1) 0

-- the page whose turn it is after these rounds
abbrev pub next_page : ℕ → List Act → ℕ
next_page pages (Made s ∷ Asked point passed ∷ acts) = page_after pages (next_page pages acts)
next_page pages _ = 0

-- rounds, each of a page written behind point 2, where the gate let it through: the pages by rising number, and again
-- from the first
abbrev pub AreWrites : ℕ → List Act → Type 0
AreWrites pages [] = Unit {0}
AreWrites pages (Made s ∷ Asked point passed ∷ acts) = (s.value.event ≡ WritePage (next_page pages acts)) × (point ≡ 2)
    × (passed ≡ true) × AreWrites pages acts
AreWrites pages _ = ⊥

-- pages are written in rounds, until the gate says no at point 2
abbrev pub IsPageWriting : ℕ → List Act → Type 0
IsPageWriting pages (Asked point passed ∷ acts) = (point ≡ 2) × (passed ≡ false) × AreWrites pages acts
IsPageWriting pages _ = ⊥

-- rounds, each of a checkpoint behind point 5, where the gate let it through
abbrev pub AreCheckpoints : List Act → Type 0
AreCheckpoints [] = Unit {0}
AreCheckpoints (Made s ∷ Asked point passed ∷ acts) = (s.value.event ≡ Checkpoint) × (point ≡ 5) × (passed ≡ true)
    × AreCheckpoints acts
AreCheckpoints _ = ⊥

-- checkpoints are made in rounds, until the gate says no at point 5
abbrev pub IsCheckpointing : List Act → Type 0
IsCheckpointing (Asked point passed ∷ acts) = (point ≡ 5) × (passed ≡ false) × AreCheckpoints acts
IsCheckpointing _ = ⊥
