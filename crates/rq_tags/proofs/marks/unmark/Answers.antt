use Rattle.std.proofs.Common.{arith}
use Rattle.rq_tags.proofs.Clients.{is_untag_plan}
use Rattle.rq_tags.proofs.marks.unmark.Goals as goal

pub returns-in_default-clause-err : goal.returns-in_default-clause-err
returns-in_default-clause-err c = (c.damage_of.ensures, λ can. c.in_default.ensures.none can.held can.below can.held_is)

pub returns-in-Ok-clause-ok : goal.returns-in-Ok-clause-ok
returns-in-Ok-clause-ok c k =
    is_untag_plan c.args.layout.now k c.args.given.now c.args.client c.args.tag c.take_back.new.plan c.in-Some.held c.uncounted.result c.in-Some.ensures.some
    (rw c.take_back.ensures.writes c.in-Ok.ensures.writes) (rw c.take_back.ensures.writes c.in-Ok.ensures.slots) c.args.previous
    (omega (arith, c.if-held-eq0.false)) (omega (arith, c.if-held-tag.false)) c.uncounted.ensures.held c.take_back.ensures.inverse
