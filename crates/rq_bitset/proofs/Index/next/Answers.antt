use Rattle.std.proofs.Common.{◌+◌, ◌*◌, ◌/◌, List, ℕ, Some, None, subst}
use Rattle.rq_bitset.specs.Flags.{IsNextFlag, IsNextInWord}
use Rattle.rq_bitset.proofs.Flagged.{next_by_words, none_by_words}
use Rattle.rq_bitset.proofs.Index.next.Goals as goal

pub returns-in-Some-next_flag : goal.returns-in-Some-next_flag
returns-in-Some-next_flag c =
    let i = c.self.inside in
    let e = c.lowest.ensures in
    let own = subst (λ (ws : List ℕ). IsNextInWord ws c.args.from None) c.deref.ensures.value c.in_default.ensures in
    let next = subst (λ (ws : List ℕ). IsNextFlag ws (c.args.from / 64 + 1) (Some c.in-Some-next_flag.word)) c.deref-2.ensures.value c.in-Some-next_flag.ensures in
    subst (λ (ws : List ℕ). IsNextFlag ws c.args.from (Some (c.in-Some-next_flag.word * 64 + c.lowest.result))) c.self.view_is
    (next_by_words i.words.items i.flags.items c.args.from c.in-Some-next_flag.word c.lowest.result c.index.result.now c.self.invariant.summed own next c.index.ensures e.within e.set e.first)

pub returns-in-None : goal.returns-in-None
returns-in-None c =
    let i = c.self.inside in
    let own = subst (λ (ws : List ℕ). IsNextInWord ws c.args.from None) c.deref.ensures.value c.in_default.ensures in
    let next = subst (λ (ws : List ℕ). IsNextFlag ws (c.args.from / 64 + 1) None) c.deref-2.ensures.value c.in-None.ensures in
    subst (λ (ws : List ℕ). IsNextFlag ws c.args.from None) c.self.view_is
    (none_by_words i.words.items i.flags.items c.args.from c.self.invariant.summed own next)
