use Rattle.std.proofs.Common.{◌%◌, ◌/◌, get_or, arith}
use Rattle.rq_bitset.proofs.Flagged.{flag_at-past, none_in_word, lowest_within, next_in_word}
use Rattle.rq_bitset.proofs.next_in_word.Goals as goal

pub returns-then-from-words : goal.returns-then-from-words
returns-then-from-words c k after here = flag_at-past c.args.words.now k (omega arith)

pub returns-then-rest-eq0 : goal.returns-then-rest-eq0
returns-then-rest-eq0 c = none_in_word c.args.words.now c.args.from c.if-rest-eq0.true

pub returns : goal.returns
returns c =
    next_in_word c.args.words.now c.args.from c.lowest.result (lowest_within (get_or c.args.words.now (c.args.from / 64) 0) (c.args.from % 64) c.lowest.result (omega (arith, c.type_inv.words (c.args.from / 64))) (omega arith) c.lowest.ensures.set) c.lowest.ensures.set c.lowest.ensures.first
