use Rattle.std.proofs.Common.{sym, ◌∙◌, arith}
use Rattle.rq_bitset.proofs.Flagged.{flags_put, word_set}
use Rattle.rq_bitset.proofs.Index.insert.Goals as goal

pub invariant_of-self : goal.invariant_of-self
invariant_of-self c =
    let i = c.self.inside in
    let k = c.self.invariant in
    let f = c.set_flag.ensures in
    let w = c.set_flag-2.ensures in
    record {
      room = omega arith;
      few = omega arith;
      few_words = omega arith;
      summed = flags_put i.words.items c.set_flag-2.new.words.items i.flags.items c.set_flag.new.words.items _ k.summed w.others f.apart (w.set ∙ sym (word_set c.set_flag.new.words.items c.args.place f.set));
    }
