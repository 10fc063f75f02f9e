-- What the functions of a world do, over devices in memory.
use Rattle.std.specs.Prelude.{◌≡◌, ℕ, [], Some}
use Rattle.rq_model.specs.History.{Call}
use Rattle.rq_model.specs.declared.refusal.Refusal.{Refusal}
use Rattle.rq_disk.specs.declared.mem_log.MemLog.{MemLog}
use Rattle.rq_disk.specs.declared.mem_pages.MemPages.{MemPages}
use Rattle.rq_page.specs.Sizes.{Sizes, IsInRange}
use Rattle.rq_engine.specs.Devices.{EachPair}
use Rattle.rq_restart.specs.Underway.{IsStore}
use Rattle.rq_core.specs.Devices.{mem_pages, mem_log}
use Rattle.rq_restart.specs.declared.restart.Report.{Report}
use Rattle.rq_core.specs.Happenings.{Happening, Answer, Course, called}
use Rattle.rq_core.specs.Happenings.Answer.{Crashed}
use Rattle.rq_engine.specs.Opened.{OpenStore}
use Rattle.rq_core.specs.Headline as headline
use Rattle.rq_core.specs.World.{World}
use Rattle.rq_core.specs.World.World.{Is_shut}
use Rattle.rq_core.specs.World as world
use Rattle.rq_core.specs.Happened as happened

abbrev pub MemWorld : Type 0
MemWorld = World MemPages MemLog

-- the course leads to the world
abbrev pub Ran : Sizes → Course → MemWorld → Type 0
Ran z course w = world.Ran mem_pages mem_log z course w

abbrev pub CanCrash : Sizes → Course → Happening → MemPages → MemLog → Type 0
CanCrash z course x pages log = world.CanCrash mem_pages mem_log z course x pages log

-- the headline of a course that ends with these devices
abbrev pub IsHeadline : Sizes → Course → MemPages → MemLog → Type 0
IsHeadline z course pages log = headline.IsHeadline mem_pages mem_log z course pages log

-- the happening met the one world, was answered so, and left the other
abbrev pub Happened : Course → Happening → MemWorld → Answer → MemWorld → Type 0
Happened course x old a new = happened.Happened mem_pages mem_log course x old a new

-- the course led to the world
abbrev pub Led : Sizes → Course → MemWorld → Type 0
Led z course w = happened.Led mem_pages mem_log z course w

-- the course was run, and these are the devices at its end
abbrev pub IsRun : Sizes → Course → MemPages → MemLog → Type 0
IsRun z course pages log = happened.IsRun mem_pages mem_log z course pages log

-- the world is given up with these devices
abbrev pub GivesUp : MemWorld → MemPages → MemLog → Type 0
GivesUp w pages log = happened.GivesUp mem_pages mem_log w pages log

abbrev pub IsOpened : MemPages → MemLog → Report → OpenStore MemPages MemLog → Type 0
IsOpened pages log report new = happened.IsOpened mem_pages mem_log pages log report new

abbrev pub IsRefused : MemPages → MemLog → Refusal → MemPages → MemLog → Type 0
IsRefused pages log r new_pages new_log = happened.IsRefused mem_pages mem_log pages log r new_pages new_log

-- a crash leaves this of both devices, and is answered so
abbrev pub IsLeftBy : MemPages → MemLog → Answer → MemWorld → Type 0
IsLeftBy pages log (Crashed n) (Is_shut new_pages new_log) =
    happened.IsCrashed mem_pages mem_log pages new_pages log new_log n
IsLeftBy pages log _ _ = ⊥

-- in any course where the happening may be this
abbrev pub HappensIn : (Course → Happening → Type 0) → MemWorld → Answer → MemWorld → Type 0
HappensIn May old a new = (course : Course) (x : Happening) → May course x → Happened course x old a new

-- the happening makes this call
abbrev pub Makes : Call → Course → Happening → Type 0
Makes call course x = called course x ≡ Some call

-- it is this one
abbrev pub Is : Happening → Course → Happening → Type 0
Is y course x = x ≡ y

-- what is asked for before anything happens: how large the store is, and in how many frames each restart opens it
pub record Fresh : Type 0 where
  pub sizes : Sizes
  pub frames : ℕ

-- a store that is formatted: whatever a crash leaves of it is a store with no record
pub record IsFresh (z : Sizes) (pages : MemPages) (log : MemLog) : Type 0 where
  pub range : IsInRange z
  pub left : EachPair mem_pages mem_log pages log (IsStore z [])
