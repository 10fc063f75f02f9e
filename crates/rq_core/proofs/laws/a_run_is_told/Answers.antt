use Rattle.rq_store.specs.State.{size_of}
use Rattle.rq_core.proofs.Told.{led_tells, told}
use Rattle.rq_core.proofs.laws.a_run_is_told.Goals as goal

pub returns-clause-met : goal.returns-clause-met
returns-clause-met c = λ z course world run.
    led_tells z
    (record {
      one = c.one_log.ensures;
      size_once = c.one_size.ensures;
      fifo = c.first_in_first_out.ensures (size_of z);
      stay = c.acknowledged_stay.ensures (size_of z);
      crash = c.crash_goes_on.ensures (size_of z);
      half = c.checkpoint_crash_goes_on.ensures (size_of z);
      grows = c.growth_goes_on.ensures (size_of z);
      shut = c.shut_crash_goes_on.ensures (size_of z);
      restart = c.restart_goes_on.ensures (size_of z);
      still = c.still_store_refuses.ensures;
    })
    course world run

pub returns-clause-headline : goal.returns-clause-headline
returns-clause-headline c = λ z course pages log run.
    told z
    (record {
      one = c.one_log.ensures;
      size_once = c.one_size.ensures;
      fifo = c.first_in_first_out.ensures (size_of z);
      stay = c.acknowledged_stay.ensures (size_of z);
      crash = c.crash_goes_on.ensures (size_of z);
      half = c.checkpoint_crash_goes_on.ensures (size_of z);
      grows = c.growth_goes_on.ensures (size_of z);
      shut = c.shut_crash_goes_on.ensures (size_of z);
      restart = c.restart_goes_on.ensures (size_of z);
      still = c.still_store_refuses.ensures;
    })
    course pages log run
