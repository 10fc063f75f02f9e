use Rattle.rq_cases.proofs.Crashes.{crashes}
use Rattle.rq_cases.proofs.crashes_are_judged.Goals as goal
use Rattle.rq_cases.specs.Store.{small}

pub returns : goal.returns
returns c = crashes (c.crash_goes_on.ensures small) (c.checkpoint_crash_goes_on.ensures small)
