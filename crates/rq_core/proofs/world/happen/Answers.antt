use Rattle.std.proofs.Common.{◌≡◌, IfOk, map, subst, sym}
use Rattle.rq_core.specs.Chosen.{IsAsChosen}
use Rattle.rq_core.specs.Happenings.{Course, answers_of}
use Rattle.rq_core.specs.Runs.{Happened}
use Rattle.rq_core.specs.Views.{answer_in, happens, world_of}
use Rattle.rq_core.proofs.world.happen.Goals as goal

pub returns-in-Open-clause-happened : goal.returns-in-Open-clause-happened
returns-in-Open-clause-happened g c =
    subst (λ s. IfOk c.happen_to_open.result (λ r. (h : Course) → answers_of h ≡ map answer_in c.args.entries.now → Happened h (happens c.args.happening.now) (world_of s) (answer_in r.1) (world_of r.0)))
    (sym c.in-Open.is) c.happen_to_open.ensures.happened

pub returns-in-Open-clause-chosen : goal.returns-in-Open-clause-chosen
returns-in-Open-clause-chosen g c =
    subst (λ s. IfOk c.happen_to_open.result (λ r. IsAsChosen c.args.frames.count c.args.happening.now (world_of s) (answer_in r.1) (world_of r.0)))
    (sym c.in-Open.is) c.happen_to_open.ensures.chosen
