use Rattle.std.proofs.Common.{subst, sym, refl}
use Rattle.rq_engine.specs.declared.event.Event.TheVariants as event
use Rattle.rq_disk.specs.Choice.{place_of}
use Rattle.rq_core.proofs.Choosing.{left_by}
use Rattle.rq_core.specs.Happened.{IsLast}
use Rattle.rq_core.specs.Views.{answer_in, world_of}
use Rattle.rq_core.proofs.Steps.{open_left}
use Rattle.rq_core.proofs.world.crash_open.Goals as goal

pub returns-clause-happened : goal.returns-clause-happened
returns-clause-happened g c = λ course x is.
    open_left course x (answer_in c.crash.result.1) (world_of c.crash.result.0) event.HandOver c.apply.result c.args.engine c.apply.new.self c.give_back-pages.result.0 c.give_back-pages.result.1
    (subst (λ y. IsLast y event.HandOver c.apply.result) (sym is) refl) c.apply.ensures.applied c.give_back-pages.ensures.pages c.give_back-pages.ensures.log c.crash.ensures.left

pub returns-clause-chosen : goal.returns-clause-chosen
returns-clause-chosen g c = record {
  told = c.apply.result;
  mid = c.apply.new.self;
  applied = c.apply.ensures.applied;
  chosen = left_by (record { keep = c.args.keep; torn = c.args.torn; places = place_of c.args.images }) _ _ _ _ (world_of c.crash.result.0) c.give_back-pages.ensures.pages c.give_back-pages.ensures.log c.crash.ensures.chosen;
}
