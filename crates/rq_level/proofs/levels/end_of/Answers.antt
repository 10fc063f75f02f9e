use Rattle.std.proofs.Common.{◌≡◌, ◌+◌, ℕ, ◌∙◌, ap, arith, inl, inr, subst, sym}
use Rattle.std.proofs.lemmas.Bool.{cases_eq}
use Rattle.rq_level.specs.Meaning.{NotesNothing, meaning_of}
use Rattle.rq_level.proofs.OneLevel.{by_index}
use Rattle.rq_level.proofs.levels.end_of.Goals.{then-keeps, else-keeps}
use Rattle.rq_level.proofs.levels.end_of.Goals as goal

pub loop-number-preserved : goal.loop-number-preserved
loop-number-preserved g c =
    let n = c.loop-number.number in
    elim c.if-keeps.branch [
      | then-keeps w ↦ let e = w.end-is in (omega (arith, e), λ i le lt. absurd (omega (arith, e, le, lt)))
      | else-keeps w ↦
          let e = w.end-is in
          let within = c.loop-number.invariant.0 in (
            omega (arith, e, within),
            λ i le lt. elim (cases_eq i n) [
              | inl same ↦
                  let is : g.B.Level.level c.index-all-number.result ≡ n = ap g.B.Level.level c.index-all-number.is ∙ by_index g.B.Level.level 0 c.args.all.now c.requires n c.index-all-number.result c.loop-number-test.true ∙ (let z : 0 + n ≡ n = omega arith in z) in
                  subst (λ (m : ℕ). NotesNothing (meaning_of m)) (is ∙ sym same) (c.keeps.ensures w.if-keeps.false)
              | inr other ↦ c.loop-number.invariant.1 i (omega (arith, e, le)) (omega (arith, lt, other))
            ],
          )
    ]
