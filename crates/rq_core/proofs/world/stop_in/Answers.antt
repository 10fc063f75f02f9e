use Rattle.std.proofs.Common.{subst, sym, ap, refl}
use Rattle.rq_core.specs.Happenings.{called}
use Rattle.rq_disk.specs.Choice.{place_of}
use Rattle.rq_core.specs.Chosen.{OpenLeavesChosen}
use Rattle.rq_core.specs.Happened.{IsLast}
use Rattle.rq_core.specs.Views.{answer_in, world_of}
use Rattle.rq_core.proofs.Choosing.{if_crashed, left_by}
use Rattle.rq_core.proofs.Steps.{open_left}
use Rattle.rq_core.proofs.world.stop_in.Goals as goal

pub returns-then-has_failed-clause-happened : goal.returns-then-has_failed-clause-happened
returns-then-has_failed-clause-happened g c = λ course x is.
    let device = c.has_failed.ensures c.if-has_failed.true in
    open_left course x (answer_in c.crash.result.1) (world_of c.crash.result.0) c.args.event.now c.apply-reply.result c.args.engine c.apply-reply.new.self c.give_back-pages.result.0 c.give_back-pages.result.1
    (subst (λ y. IsLast y c.args.event.now c.apply-reply.result) (sym is) (refl, device.0, device.1, device.2)) c.apply-reply.ensures.applied c.give_back-pages.ensures.pages c.give_back-pages.ensures.log c.crash.ensures.left

pub returns-clause-happened : goal.returns-clause-happened
returns-clause-happened g c = λ course x is. record { event = c.args.event.now; told = c.apply-reply.result; call_is = ap (called course) is; reply_is = refl; applied = c.apply-reply.ensures.applied }

pub returns-then-has_failed-clause-chosen : goal.returns-then-has_failed-clause-chosen
returns-then-has_failed-clause-chosen g c =
    if_crashed (answer_in c.crash.result.1) (OpenLeavesChosen (record { keep = c.args.keep; torn = c.args.torn; places = place_of c.args.images }) c.args.event.now c.args.engine (world_of c.crash.result.0)) (record {
      told = c.apply-reply.result;
      mid = c.apply-reply.new.self;
      applied = c.apply-reply.ensures.applied;
      chosen = left_by (record { keep = c.args.keep; torn = c.args.torn; places = place_of c.args.images }) _ _ _ _ (world_of c.crash.result.0) c.give_back-pages.ensures.pages c.give_back-pages.ensures.log c.crash.ensures.chosen;
    })
