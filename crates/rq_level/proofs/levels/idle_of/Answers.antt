use Rattle.std.proofs.Common.{◌≡◌, ◌+◌, ℕ, ◌∙◌, ap, arith, inl, inr, subst, sym}
use Rattle.std.proofs.lemmas.Bool.{cases_eq}
use Rattle.rq_level.specs.Meaning.{NotesNothing, meaning_of}
use Rattle.rq_level.proofs.OneLevel.{by_index}
use Rattle.rq_level.proofs.levels.idle_of.Goals as goal

pub loop-number-preserved : goal.loop-number-preserved
loop-number-preserved g c i lt = elim (cases_eq i c.loop-number.number) [
  | inl e ↦
      let n = c.loop-number.number in
      let is : g.B.Level.level c.index-all-number.result ≡ n = ap g.B.Level.level c.index-all-number.is ∙ by_index g.B.Level.level 0 c.args.all.now c.requires n c.index-all-number.result c.loop-number-test.true ∙ (let z : 0 + n ≡ n = omega arith in z) in
      subst (λ (m : ℕ). NotesNothing (meaning_of m)) (is ∙ sym e) (c.keeps.ensures c.if-keeps.false)
  | inr ne ↦ c.loop-number.invariant i (omega (arith, lt, ne))
]
