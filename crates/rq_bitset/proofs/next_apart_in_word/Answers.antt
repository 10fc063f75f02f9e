use Rattle.std.proofs.Common.{arith, sym, ◌%◌}
use Rattle.rq_bitset.proofs.Flagged.{lowest_within, next_apart_in_word, none_apart_in_word, none_apart_past}
use Rattle.rq_bitset.proofs.next_apart_in_word.Goals as goal

pub returns-then-from-words : goal.returns-then-from-words
returns-then-from-words c = none_apart_past c.args.words.now c.args.others.now c.args.from (omega (arith, c.if-from-words.true))

pub returns-then-rest-eq0 : goal.returns-then-rest-eq0
returns-then-rest-eq0 c = none_apart_in_word c.args.words.now c.args.others.now c.args.from c.apart.result (rw (sym c.word_of.ensures) c.apart.ensures) c.if-rest-eq0.true

pub returns : goal.returns
returns c =
    let e = c.lowest.ensures in
    next_apart_in_word c.args.words.now c.args.others.now c.args.from c.apart.result c.lowest.result (rw (sym c.word_of.ensures) c.apart.ensures)
    (lowest_within c.apart.result (c.args.from % 64) c.lowest.result (omega (arith, c.apart.type_inv)) (omega arith) e.set) e.set e.first
