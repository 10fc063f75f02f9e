use Rattle.std.proofs.Common.{◌≡◌, refl, rules, subst, sym, true}
use Rattle.rq_disk.specs.Choice.{place_of}
use Rattle.rq_core.specs.Chosen.{ShutLeavesChosen}
use Rattle.rq_core.specs.Happenings.{MayRestart, is_of_device}
use Rattle.rq_core.specs.Views.{answer_in, world_of}
use Rattle.rq_core.proofs.Choosing.{crashed_not_refused, if_crashed}
use Rattle.rq_core.proofs.Steps.{restart_left}
use Rattle.rq_core.proofs.world.reopen_stopped.Goals as goal

pub returns-in-Err-clause-happened : goal.returns-in-Err-clause-happened
returns-in-Err-clause-happened g c = λ course x is.
    let device : is_of_device c.in-Err.stopped.refusal ≡ true = search rules in
    restart_left course x (answer_in c.crash.result.1) (world_of c.crash.result.0) c.args.pages c.in-Err.stopped.pages c.args.log c.in-Err.stopped.log c.in-Err.stopped.refusal is c.in-Err.ensures.refused device c.crash.ensures.left

pub returns-in-Err-2-clause-happened : goal.returns-in-Err-2-clause-happened
returns-in-Err-2-clause-happened g c = λ course x is. (subst (MayRestart course) (sym is) refl, c.in-Err.ensures.refused)

pub returns-in-Ok-clause-happened : goal.returns-in-Ok-clause-happened
returns-in-Ok-clause-happened g c = λ course x is. (subst (MayRestart course) (sym is) refl, c.in-Ok.ensures.opened)

pub returns-in-Err-clause-chosen : goal.returns-in-Err-clause-chosen
returns-in-Err-clause-chosen g c =
    if_crashed (answer_in c.crash.result.1) (ShutLeavesChosen c.args.frames.count (record { keep = c.args.keep; torn = c.args.torn; places = place_of c.args.images }) c.args.pages c.args.log (world_of c.crash.result.0)) (record {
      refusal = c.in-Err.stopped.refusal;
      mid_pages = c.in-Err.stopped.pages;
      mid_log = c.in-Err.stopped.log;
      refused = c.in-Err.ensures.refused;
      in_frames = c.in-Err.ensures.refused_in;
      chosen = c.crash.ensures.chosen;
    })

pub returns-in-Err-clause-refused : goal.returns-in-Err-clause-refused
returns-in-Err-clause-refused g c =
    crashed_not_refused c.args.frames.count c.args.pages c.in-Err.stopped.pages c.args.log c.in-Err.stopped.log (answer_in c.crash.result.1) (world_of c.crash.result.0) c.crash.ensures.left
