-- What bytes tell, they tell in one way.
use Rattle.std.specs.Prelude.{◌≡◌, ℕ, List}
use Rattle.rq_model.specs.declared.record.Record.{Record}
use Rattle.rq_model.specs.Bases.{earlier, marked, standing}
use Rattle.rq_log.specs.Spelled.{AreSpelled, EndsWith}
use Rattle.rq_engine.specs.Earlier.{rebased}
use Rattle.rq_page.specs.Sizes.{Sizes}
use Rattle.rq_pool.specs.Reading.{IsSuperblock}

-- bytes are the spelling of what stands of one log at most, with a torn end or none
abbrev pub OneLogEach : Type 0
OneLogEach = (a b : List Record) (bytes : List ℕ) → AreSpelled a → AreSpelled b → EndsWith a bytes → EndsWith b bytes
    → standing a ≡ standing b

-- a log is what is read of it, with what stood before its Base in the place of the marks
abbrev pub ReadWithItsEarlier : Type 0
ReadWithItsEarlier = (log : List Record) → AreSpelled log → rebased (earlier log) (marked log) ≡ log

-- a superblock tells one size
abbrev pub OneSizeEach : Type 0
OneSizeEach = (a b : Sizes) (image : List ℕ) → IsSuperblock a image → IsSuperblock b image → a ≡ b
