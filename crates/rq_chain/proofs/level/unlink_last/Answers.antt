use Rattle.std.proofs.Common.{◌≡◌, ◌<◌, true, false, sym, ◌∙◌, arith}
use Rattle.rq_chain.proofs.Planned.{is_unlinked, no_tail, positive}
use Rattle.rq_chain.proofs.level.unlink_last.Goals as goal

pub returns-in_default-cell_given-clause-err : goal.returns-in_default-cell_given-clause-err
returns-in_default-cell_given-clause-err c =
    (c.damage_of.ensures, no_tail c.args.layout.now c.args.given.now c.args.sender c.args.sequence c.tail_of-2.result c.in-Some.group.directory c.tail_of-2.ensures c.in-Some.ensures.holds c.in_default-cell_given.ensures.none)

pub returns-in-Ok-clause-ok : goal.returns-in-Ok-clause-ok
returns-in-Ok-clause-ok c k =
    is_unlinked c.args.layout.now k c.args.given.now c.args.sender c.args.sequence c.args.previous c.take_back.new.plan c.in-Some.group c.in-Some-cell_given.tail c.in-Some-beside_given.front _ _
    (omega (arith, c.if-sender-senders.false, c.senders.ensures.number)) c.in-Some.ensures.group.1 c.in-Some.ensures.holds (omega (arith, c.if-directory.false)) (omega (arith, c.if-directory-sequence.false))
    (let pos : 0 < c.tail_of.result = positive c.tail_of.result (λ e. let no : false ≡ true = sym c.if-is_none.false ∙ c.is_none.ensures.1 e in cc) in omega (arith, pos, c.tail_of.ensures, c.tail_of-2.ensures)) c.tail_of-2.ensures c.in-Some-cell_given.ensures.holds
    (omega (arith, c.if-sequence_in-sequence.false, c.sequence_in.ensures)) c.prev_in.ensures c.in-Some-beside_given.ensures.beside
    (rw c.take_back.ensures.writes c.in-Ok.ensures.writes) (rw c.take_back.ensures.writes c.in-Ok.ensures.slots) c.take_back.ensures.inverse
