use Rattle.std.proofs.Common.{arith}
use Rattle.rq_bitset.proofs.Flagged.{next_in_later, none_so_far, none_at_all}
use Rattle.rq_bitset.proofs.next_flag.Goals as goal

pub returns-then-words-word-ne0 : goal.returns-then-words-word-ne0
returns-then-words-word-ne0 c =
    let e = c.lowest.ensures in
    next_in_later c.args.words.now c.args.from c.loop-word.word c.lowest.result (omega (arith, c.loop-word.auto.word)) c.loop-word.invariant e.within e.set e.first

pub loop-word-preserved : goal.loop-word-preserved
loop-word-preserved c = none_so_far c.args.words.now c.args.from c.loop-word.word c.loop-word.invariant c.if-words-word-ne0.false

pub returns : goal.returns
returns c = none_at_all c.args.words.now c.args.from c.loop-word.word c.loop-word.invariant c.loop-word-test.false
