use Rattle.rq_planner.proofs.Handing.{handed_in}
use Rattle.rq_tests.proofs.drops.open_and_close.Goals as goal

pub new-requires-clause-fit : goal.new-requires-clause-fit
new-requires-clause-fit g c =
    handed_in _ _ _ _ _ _ _ _ c.in_ok-levels.ensures.items c.in_ok-push.ensures.items c.in_ok-push-2.ensures.items c.in_ok-push-3.ensures.items c.requires.sizes c.requires.room
