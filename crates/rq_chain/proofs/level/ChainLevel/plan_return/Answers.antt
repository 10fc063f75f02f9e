use Rattle.std.proofs.Common.{ap, ◌∙◌, arith}
use Rattle.rq_level.specs.LevelState.{LevelState, reserved_at}
use Rattle.rq_chain.proofs.Planned.{is_returned}
use Rattle.rq_chain.proofs.level.ChainLevel.plan_return.Goals as goal

pub returns-clause-ok : goal.returns-clause-ok
returns-clause-ok c =
    is_returned c.args.layout.now c.args.self.now c.args.given.now c.args.latched.now.pages c.args.sender c.args.sequence c.args.tag c.args.body.now c.take_back.new.plan _ c.in-Some.group
    c.in-Some-beside_given.head c.in-Some-lowest.free _ (omega (arith, c.if-sender-senders.false, c.senders.ensures.number)) c.in-Some.ensures.group.1 c.in-Some.ensures.holds
    (omega (arith, c.if-group-eq0.false)) (omega (arith, c.if-group-sequence.false)) c.head_of.ensures c.in-Some-beside_given.ensures.beside c.in-Some-lowest.ensures.lowest
    (rw c.take_back.ensures.writes c.in-Ok.ensures.writes) (rw c.take_back.ensures.writes c.in-Ok.ensures.slots) c.take_back.ensures.inverse (c.reserve.ensures ∙ ap (λ (k : LevelState). reserved_at c.args.layout.now k c.in-Some-lowest.free) c.lowest.ensures.kept)
