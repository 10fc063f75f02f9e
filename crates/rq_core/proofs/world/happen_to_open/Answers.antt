use Rattle.std.proofs.Common.{option_map, refl, ap, ◌∙◌, subst, sym}
use Rattle.rq_model.specs.History.Call.{Acknowledge}
use Rattle.rq_engine.specs.Says.{call_of}
use Rattle.rq_core.specs.Happenings.{acknowledging, nth}
use Rattle.rq_core.specs.Happenings.Happening.{Acknowledges, Asks, Crashes, Stops_in}
use Rattle.rq_core.specs.Runs.{Happened}
use Rattle.rq_core.specs.World.World.{Is_open}
use Rattle.rq_core.specs.Views.{answer_in, happens, world_of}
use Rattle.rq_core.proofs.world.happen_to_open.Goals as goal

pub returns-in-Call-clause-happened : goal.returns-in-Call-clause-happened
returns-in-Call-clause-happened g c = λ course same.
    subst (λ h. Happened course (happens h) (Is_open c.args.engine) (answer_in c.ask.result.1) (world_of c.ask.result.0)) (sym c.in-Call.is)
    (c.ask.ensures course (Asks (call_of c.in-Call.event)) refl)

pub returns-in-Some-clause-happened : goal.returns-in-Some-clause-happened
returns-in-Some-clause-happened g c = λ course same.
    let n = c.in-Ack.n in
    let number = c.in-Some.number in
    let told = ap (λ l. acknowledging (nth n l)) same ∙ c.committed.ensures ∙ ap (option_map (λ k. Acknowledge k.txn k.lsn)) c.in-Some.is in
    subst (λ h. Happened course (happens h) (Is_open c.args.engine) (answer_in c.ask-in-Some.result.1) (world_of c.ask-in-Some.result.0)) (sym c.in-Ack.is)
    (c.ask-in-Some.ensures course (Acknowledges n) told)

pub returns-in-Ok-clause-happened : goal.returns-in-Ok-clause-happened
returns-in-Ok-clause-happened g c = λ course same.
    subst (λ h. Happened course (happens h) (Is_open c.args.engine) (answer_in c.crash_open.result.1) (world_of c.crash_open.result.0)) (sym c.in-Crash.is)
    (c.crash_open.ensures.happened course Crashes refl)

pub returns-in-Ok-images-clause-happened : goal.returns-in-Ok-images-clause-happened
returns-in-Ok-images-clause-happened g c = λ course same.
    subst (λ h. Happened course (happens h) (Is_open c.args.engine) (answer_in c.stop_in.result.1) (world_of c.stop_in.result.0)) (sym c.in-StopIn.is)
    (c.stop_in.ensures.happened course (Stops_in (call_of c.in-StopIn.event)) refl)
