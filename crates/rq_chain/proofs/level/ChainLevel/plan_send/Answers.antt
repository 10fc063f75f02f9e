use Rattle.std.proofs.Common.{arith, refl, ap, ◌∙◌}
use Rattle.rq_level.specs.LevelState.{reserved_at}
use Rattle.rq_chain.proofs.Planned.{is_sent}
use Rattle.rq_chain.proofs.level.ChainLevel.plan_send.Goals as goal

pub returns-clause-ok : goal.returns-clause-ok
returns-clause-ok c =
    is_sent c.args.layout.now c.args.self.now c.args.given.now c.args.latched.now.pages c.args.sender c.args.tag c.args.body.now _ _ c.in-Some.group
    c.in-Some-beside_given.tail c.in-Some-lowest.free _ (omega (arith, c.if-sender-senders.false, c.senders.ensures.number)) c.in-Some.ensures.group.1 c.in-Some.ensures.holds (omega (arith, c.if-group-gt-SENT_LIMIT.false))
    c.tail_of.ensures c.in-Some-beside_given.ensures.beside c.in-Some-lowest.ensures.lowest c.in-Ok.ensures.writes c.in-Ok.ensures.slots
    c.spell_append.ensures.spelled (c.spell_append.ensures.told (omega arith)) refl
    (c.reserve.ensures ∙ ap (λ k. reserved_at c.args.layout.now k c.in-Some-lowest.free) c.lowest.ensures.kept)
