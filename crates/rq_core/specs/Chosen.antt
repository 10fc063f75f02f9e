-- What a crash leaves of both devices is what was chosen, in memory; and so is in how many frames a restart opens a store.
use Rattle.std.specs.Prelude.{◌≡◌, ℕ, ◌+◌, ◌-◌, ◌^◌, ◌<◌, List, [], ◌∷◌, length, map, min, Option, None, slice_get}
use Rattle.rq_model.specs.declared.refusal.Refusal.{Refusal}
use Rattle.rq_disk.specs.Memory.{crashed_log, crashed_page, fresh_log, reads}
use Rattle.rq_disk.specs.Shown.{log_of, page_count, pages_of}
use Rattle.rq_disk.specs.declared.mem_log.MemLog.{MemLog}
use Rattle.rq_disk.specs.declared.mem_pages.MemPages.{MemPages}
use Rattle.rq_page.specs.Sizes.{page_count as count_of}
use Rattle.rq_engine.specs.declared.event.Event.{Event}
use Rattle.rq_engine.specs.declared.event.Event.TheVariants as event
use Rattle.rq_engine.specs.declared.event.Reply.{Reply}
use Rattle.rq_engine.specs.Applied.{Applied}
use Rattle.rq_engine.specs.Opened.{OpenStore}
use Rattle.rq_restart.specs.Opens.{Refuses}
use Rattle.rq_core.specs.declared.happening.Choice.{Choice}
use Rattle.rq_core.specs.declared.happening.Entry.{Entry}
use Rattle.rq_core.specs.declared.happening.Happening.{Happening as Happens}
use Rattle.rq_core.specs.declared.happening.Happening.TheVariants as happening
use Rattle.rq_core.specs.Devices.{mem_pages, mem_log}
use Rattle.rq_core.specs.Happenings.{Answer, Course}
use Rattle.rq_core.specs.Happenings.Answer.{Crashed, Refused}
use Rattle.rq_core.specs.Happened as happened
use Rattle.rq_core.specs.Runs.{Fresh, GivesUp, Happened, IsRefused, MemWorld}
use Rattle.rq_core.specs.Views.{answer_in, happens}
use Rattle.rq_core.specs.World.World.{Is_open, Is_shut}

-- What outlives a crash. It is so many of the records that are not forced, and so many bytes of the next one. Of each page it
-- is the image at its place, or the newest.
pub record Outlives : Type 0 where
  pub keep : ℕ
  pub torn : ℕ
  pub places : ℕ → Option ℕ

-- so it is of the devices that the crash met
pub record IsChosenOf (o : Outlives) (pages new_pages : MemPages) (log new_log : MemLog) : Type 0 where
  pub log_is : log_of new_log ≡ fresh_log (crashed_log o.keep o.torn (log_of log))
  pub pages_are : (p : ℕ) → p < page_count pages
      → reads (pages_of new_pages) p ≡ crashed_page (o.places p) (pages_of pages) p

abbrev pub IsChosen : Outlives → MemPages → MemLog → MemWorld → Type 0
IsChosen o pages log (Is_shut new_pages new_log) = IsChosenOf o pages new_pages log new_log
IsChosen o pages log (Is_open engine) = ⊥

-- of those that an open store's last call left
pub record OpenLeavesChosen (o : Outlives) (e : Event) (old : OpenStore MemPages MemLog) (new : MemWorld) : Type 0 where
  pub told : Reply
  pub mid : OpenStore MemPages MemLog
  pub applied : Applied mem_pages mem_log old e told mid
  pub chosen : IsChosen o mid.pages mid.log new

-- of those that a restart left, which was refused as one in so many frames may be
pub record ShutLeavesChosen (frames : ℕ) (o : Outlives) (pages : MemPages) (log : MemLog) (new : MemWorld) : Type 0 where
  pub refusal : Refusal
  pub mid_pages : MemPages
  pub mid_log : MemLog
  pub refused : IsRefused pages log refusal mid_pages mid_log
  pub in_frames : Refuses mem_pages mem_log pages log frames refusal mid_pages mid_log
  pub chosen : IsChosen o mid_pages mid_log new

abbrev pub IfCrashed : Answer → Type 0 → Type 0
IfCrashed (Crashed n) said = said
IfCrashed _ said = Unit {0}

abbrev pub outlives : Choice → Outlives
outlives choice = record { keep = choice.keep; torn = choice.bytes; places = slice_get choice.pages.items }

-- all that the devices hold
abbrev pub all_outlives : Outlives
all_outlives = record { keep = 2 ^ 64 - 1; torn = 0; places = λ page. None }

-- where it is open, it has so many frames beside that of the superblock; or one for each page, where these are fewer
abbrev pub HasFrames : ℕ → MemWorld → Type 0
HasFrames frames (Is_open engine) = length engine.frames ≡ min (count_of engine.state.sizes) (frames + 1)
HasFrames frames (Is_shut pages log) = Unit {0}

-- where a restart was refused, so may be one in so many frames
abbrev pub IsRefusedIn : ℕ → MemPages → MemLog → Answer → MemWorld → Type 0
IsRefusedIn frames pages log (Refused r) (Is_shut new_pages new_log) =
    Refuses mem_pages mem_log pages log frames r new_pages new_log
IsRefusedIn frames pages log _ _ = Unit {0}

-- a crash leaves of an open store what the happening chose
abbrev pub OpenAsChosen : Happens → OpenStore MemPages MemLog → Answer → MemWorld → Type 0
OpenAsChosen (happening.Crash choice) old answer new = OpenLeavesChosen (outlives choice) event.HandOver old new
OpenAsChosen (happening.StopIn e place choice) old answer new =
    IfCrashed answer (OpenLeavesChosen (outlives choice) e old new)
OpenAsChosen _ _ _ _ = Unit {0}

-- Of a store that is not open it leaves all that its devices hold, and in a restart what the happening chose. A restart opens it in
-- so many frames, or is refused as one in them may be.
abbrev pub ShutAsChosen : ℕ → Happens → MemPages → MemLog → Answer → MemWorld → Type 0
ShutAsChosen frames (happening.Crash choice) pages log answer new = IsChosen all_outlives pages log new
ShutAsChosen frames happening.Restart pages log answer new = HasFrames frames new × IsRefusedIn frames pages log answer new
ShutAsChosen frames (happening.RestartStop place choice) pages log answer new =
    IfCrashed answer (ShutLeavesChosen frames (outlives choice) pages log new) × HasFrames frames new
    × IsRefusedIn frames pages log answer new
ShutAsChosen _ _ _ _ _ _ = Unit {0}

abbrev pub IsAsChosen : ℕ → Happens → MemWorld → Answer → MemWorld → Type 0
IsAsChosen frames x (Is_open old) answer new = OpenAsChosen x old answer new
IsAsChosen frames x (Is_shut pages log) answer new = ShutAsChosen frames x pages log answer new

-- what happened, with the entries, the newest first
abbrev pub DoneSoFar : Type 0
DoneSoFar = List (Happens × Entry)

abbrev pub course_in : DoneSoFar → Course
course_in done = map (λ (a : Happens × Entry). (happens a.0, answer_in a.1)) done

abbrev pub entered : DoneSoFar → List Happens → List Entry → DoneSoFar
entered done (x ∷ xs) (e ∷ es) = entered ((x, e) ∷ done) xs es
entered done _ _ = done

-- It led to this world, one happening after the other. Each crash left what was chosen. Each restart gave as many frames as were
-- asked for, or was refused as one in so many may be.
abbrev pub LedAsChosen : Fresh → DoneSoFar → MemWorld → Type 0
LedAsChosen first [] world = happened.Begins mem_pages mem_log first.sizes world
LedAsChosen first (a ∷ done) world = (met : MemWorld) × LedAsChosen first done met
    × Happened (course_in done) (happens a.0) met (answer_in a.1) world
    × IsAsChosen first.frames a.0 met (answer_in a.1) world

-- so it was run, and these are the devices at its end
pub record IsRunAsChosen (first : Fresh) (xs : List Happens) (es : List Entry) (pages : MemPages) (log : MemLog)
    : Type 0 where
  pub end : MemWorld
  pub led : LedAsChosen first (entered [] xs es) end
  pub given : GivesUp end pages log
