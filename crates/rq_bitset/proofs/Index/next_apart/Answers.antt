use Rattle.std.proofs.Common.{◌+◌, ◌*◌, ◌/◌, ◌∙◌, List, ℕ, Some, None, arith, ap, length, subst}
use Rattle.rq_bitset.specs.Flags.{AreFlags, IsNextApartInWord, IsNextFlag}
use Rattle.rq_bitset.proofs.Flagged.{none_between, none_past, none_there}
use Rattle.rq_bitset.proofs.Index.next_apart.Goals as goal

pub returns-in_default-next_flag : goal.returns-in_default-next_flag
returns-in_default-next_flag c =
    let i = c.self.inside in
    let word = c.loop-word.word in
    let are = subst (λ (fs : List ℕ). AreFlags i.words.items fs) c.self.view_is c.self.invariant.summed in
    let mine = subst (λ (fs : List ℕ). IsNextApartInWord fs c.deref-in-loop-word-2.result.now (word * 64) None)
    (c.deref-in-loop-word.ensures.value ∙ c.self.view_is) c.in_default-next_apart_in_word.ensures in
    let here = subst (λ (os : List ℕ). IsNextApartInWord c.args.self.now os (word * 64) None)
    (c.deref-in-loop-word-2.ensures.value ∙ c.others.view_is) mine in
    let none = none_there c.args.self.now c.args.others.now c.args.from word c.loop-word.invariant.1 here in
    let empty = subst (λ (ws : List ℕ). IsNextFlag ws (word + 1) None) c.deref-else-index-ne0.ensures.value c.in_default-next_flag.ensures in
    λ k after free. none_between c.args.self.now c.args.others.now c.args.from (word + 1) none i.words.items (k / 64 + 1) are
    (λ w above below. empty w above) k after (omega arith) free

pub loop-word-preserved : goal.loop-word-preserved
loop-word-preserved c =
    let i = c.self.inside in
    let word = c.loop-word.word in
    let are = subst (λ (fs : List ℕ). AreFlags i.words.items fs) c.self.view_is c.self.invariant.summed in
    let mine = subst (λ (fs : List ℕ). IsNextApartInWord fs c.deref-in-loop-word-2.result.now (word * 64) None)
    (c.deref-in-loop-word.ensures.value ∙ c.self.view_is) c.in_default-next_apart_in_word.ensures in
    let here = subst (λ (os : List ℕ). IsNextApartInWord c.args.self.now os (word * 64) None)
    (c.deref-in-loop-word-2.ensures.value ∙ c.others.view_is) mine in
    let none = none_there c.args.self.now c.args.others.now c.args.from word c.loop-word.invariant.1 here in
    let next = subst (λ (ws : List ℕ). IsNextFlag ws (word + 1) (Some c.in-Some-next_flag.next)) c.deref-else-index-ne0.ensures.value c.in-Some-next_flag.ensures in (
      omega (arith, next.0, c.loop-word.invariant.0),
      none_between c.args.self.now c.args.others.now c.args.from (word + 1) none i.words.items c.in-Some-next_flag.next are next.2,
    )

pub returns : goal.returns
returns c =
    none_past c.args.self.now c.args.others.now c.args.from c.loop-word.word c.loop-word.invariant.1 (omega (arith, c.loop-word-test.false, c.len.ensures, ap length c.self.view_is))
