use Rattle.std.proofs.Common.{refl, arith}
use Rattle.rq_levels.specs.Words.{kept_of}
use Rattle.rq_planner.proofs.Handing.{handed_in}
use Rattle.rq_levels.proofs.store_level.levels_of_store.Goals as goal

pub new-requires-3-clause-fit : goal.new-requires-3-clause-fit
new-requires-3-clause-fit c =
    let room = c.in-Ok.ensures.room in
    let free = room.0 in
    let reserved = room.1 in
    handed_in kept_of _ _ _ _ _ _ _ c.in_ok-levels.ensures.items c.in_ok-push.ensures.items c.in_ok-push-2.ensures.items c.in_ok-push-3.ensures.items refl
    (record { free = omega (arith, free); reserved = omega (arith, reserved) })
