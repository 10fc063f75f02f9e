-- What a program hands in and is answered, as the words of the definitions.
use Rattle.std.specs.Prelude.{List, Option, Some, None, map}
use Rattle.rq_engine.specs.declared.event.CommitNo.{CommitNo}
use Rattle.rq_engine.specs.declared.event.Reply.{Reply}
use Rattle.rq_engine.specs.declared.event.Reply.TheVariants as reply
use Rattle.rq_engine.specs.Says.{call_of, gave}
use Rattle.rq_disk.specs.declared.mem_log.MemLog.{MemLog}
use Rattle.rq_disk.specs.declared.mem_pages.MemPages.{MemPages}
use Rattle.rq_core.specs.declared.happening.Entry.{Entry}
use Rattle.rq_core.specs.declared.happening.Entry.TheVariants as entry
use Rattle.rq_core.specs.declared.happening.Happening.{Happening}
use Rattle.rq_core.specs.declared.happening.Happening.TheVariants as happening
use Rattle.rq_core.specs.declared.world.WorldState.{WorldState}
use Rattle.rq_core.specs.declared.world.WorldState.TheVariants as store
use Rattle.rq_core.specs.Happenings.{Happening as Happens, Answer, Course, course_of}
use Rattle.rq_core.specs.Happenings.Happening.{Asks, Acknowledges, Fails, Crashes, Stops_in, Restarts, Stops_restart}
use Rattle.rq_core.specs.Happenings.Answer.{Answered, Crashed, Restarted, Refused, Running, Nothing}
use Rattle.rq_core.specs.World.{World}
use Rattle.rq_core.specs.World.World.{Is_shut, Is_open}

abbrev pub happens : Happening → Happens
happens (happening.Call event) = Asks (call_of event)
happens (happening.Ack n) = Acknowledges n
happens (happening.Fail n) = Fails
happens (happening.Crash choice) = Crashes
happens (happening.StopIn event n choice) = Stops_in (call_of event)
happens happening.Restart = Restarts
happens (happening.RestartStop n choice) = Stops_restart

abbrev pub answer_in : Entry → Answer
answer_in (entry.Answered reply) = Answered (gave reply)
answer_in (entry.Crashed records) = Crashed records
answer_in (entry.Restarted report) = Restarted report
answer_in (entry.Refused refusal) = Refused refusal
answer_in entry.Running = Running
answer_in entry.Nothing = Nothing

-- the commit that was answered
abbrev pub commit_in : Reply → Option CommitNo
commit_in (reply.Committed number) = Some number
commit_in _ = None

abbrev pub commit_told : Entry → Option CommitNo
commit_told (entry.Answered r) = commit_in r
commit_told _ = None

-- what happened, with what was answered
abbrev pub course : List Happening → List Entry → Course
course xs es = course_of (map happens xs) (map answer_in es)

abbrev pub world_of : {B : Type 0} → WorldState B → World MemPages MemLog
world_of (store.Shut pages log) = Is_shut pages log
world_of (store.Open engine) = Is_open engine
