use Rattle.std.proofs.Common.{arith, refl}
use Rattle.rq_tags.proofs.Clients.{is_tag_plan}
use Rattle.rq_tags.proofs.marks.mark.Goals as goal

pub returns-in_default-clause-err : goal.returns-in_default-clause-err
returns-in_default-clause-err c = (c.damage_of.ensures, λ can. c.in_default.ensures.none can.held can.below can.held_is)

pub returns-in-Ok-clause-ok : goal.returns-in-Ok-clause-ok
returns-in-Ok-clause-ok c k =
    is_tag_plan c.args.layout.now k c.args.given.now c.args.client c.args.tag _ c.in-Some.held c.counted.result c.in-Some.ensures.some c.in-Ok.ensures.writes c.in-Ok.ensures.slots
    (omega (arith, c.if-held-gt-MARK_LIMIT.false)) c.counted.ensures.held c.spell_mark.ensures.spelled c.spell_mark.ensures.told refl
