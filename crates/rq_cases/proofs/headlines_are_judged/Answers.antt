use Rattle.rq_cases.proofs.Worlds.{headlines}
use Rattle.rq_cases.proofs.headlines_are_judged.Goals as goal
use Rattle.rq_cases.specs.Store.{small}

pub returns : goal.returns
returns c = headlines (c.first_in_first_out.ensures small) (c.acknowledged_stay.ensures small) (c.crash_goes_on.ensures small) (c.checkpoint_crash_goes_on.ensures small) (c.growth_goes_on.ensures small) (c.shut_crash_goes_on.ensures small)
