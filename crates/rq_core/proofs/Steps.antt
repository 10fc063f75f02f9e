-- What the functions of a world say, as happenings.
use Rattle.std.proofs.Common.{◌≡◌, sym, subst, true}
use Rattle.rq_model.specs.declared.refusal.Refusal.{Refusal}
use Rattle.rq_disk.specs.declared.mem_log.MemLog.{MemLog}
use Rattle.rq_disk.specs.declared.mem_pages.MemPages.{MemPages}
use Rattle.rq_engine.specs.Applied.{Applied}
use Rattle.rq_engine.specs.declared.event.Event.{Event}
use Rattle.rq_engine.specs.declared.event.Reply.{Reply}
use Rattle.rq_core.specs.Devices.{mem_pages, mem_log}
use Rattle.rq_core.specs.Happenings.{Answer, Course, Happening, is_of_device}
use Rattle.rq_core.specs.Happenings.Answer.{Crashed}
use Rattle.rq_core.specs.Happenings.Happening.{Crashes, Stops_restart}
use Rattle.rq_core.specs.Happened.{CrashesShut, IsCrashed, IsLast}
use Rattle.rq_core.specs.Runs.{Happened, IsLeftBy, IsRefused, MemWorld}
use Rattle.rq_core.specs.World.World.{Is_open, Is_shut}
use Rattle.rq_core.proofs.Arms.{Engine}

-- a crash of an open store, by what its last call left
pub open_left : (course : Course) (x : Happening) (a : Answer) (new : MemWorld) (e : Event) (r : Reply) (old mid : Engine) (pages : MemPages) (log : MemLog) → IsLast x e r → Applied mem_pages mem_log old e r mid
    → pages ≡ mid.pages → log ≡ mid.log → IsLeftBy pages log a new → Happened course x (Is_open old) a new
open_left course x (Crashed n) (Is_shut new_pages new_log) e r old mid pages log last applied i j left = record {
  event = e;
  told = r;
  last = last;
  mid = mid;
  applied = applied;
  crashed = subst (λ d. IsCrashed mem_pages mem_log d new_pages mid.log new_log n) i (subst (λ d. IsCrashed mem_pages mem_log pages new_pages d new_log n) j left);
}
open_left course x _ _ e r old mid pages log last applied i j left = absurd left

-- a crash of one that is shut
pub shut_left : (course : Course) (x : Happening) (a : Answer) (new : MemWorld) (pages : MemPages) (log : MemLog) → x ≡ Crashes → IsLeftBy pages log a new → Happened course x (Is_shut pages log) a new
shut_left course x (Crashed n) (Is_shut new_pages new_log) pages log is left = subst (λ y. CrashesShut mem_pages mem_log y pages log new_pages new_log n) (sym is) left
shut_left course x _ _ pages log is left = absurd left

-- and in a restart
pub restart_left : (course : Course) (x : Happening) (a : Answer) (new : MemWorld) (pages mid_pages : MemPages) (log mid_log : MemLog) (r : Refusal) → x ≡ Stops_restart → IsRefused pages log r mid_pages mid_log → is_of_device r ≡ true → IsLeftBy mid_pages mid_log a new
    → Happened course x (Is_shut pages log) a new
restart_left course x (Crashed n) (Is_shut new_pages new_log) pages mid_pages log mid_log r is stopped device left =
    subst (λ y. CrashesShut mem_pages mem_log y pages log new_pages new_log n) (sym is) (record { refusal = r; mid_pages = mid_pages; mid_log = mid_log; refused = stopped; by_device = device; crashed = left })
restart_left course x _ _ pages mid_pages log mid_log r is stopped device left = absurd left
