use Rattle.std.proofs.Common.{◌≡◌, ◌+◌, ℕ, max, take, get_or, sym, ◌∙◌, ap}
use Rattle.rq_pool.specs.declared.ahead.Ahead.{Ahead}
use Rattle.rq_pool.specs.Numbered.{number_in}
use Rattle.rq_restart.proofs.Numbers.{told_elsewhere, told_here}
use Rattle.rq_restart.proofs.page_numbers.number_of.Goals.{then-ahead-place, else-ahead-place}
use Rattle.rq_restart.proofs.page_numbers.number_of.Goals as goal

pub loop-place-preserved : goal.loop-place-preserved
loop-place-preserved c =
    let ahead = c.args.ahead.now in
    let n = c.loop-place.place in
    let p = c.args.page in
    let d : Ahead = record { page = 0; number = 0 } in
    let now : c.if-ahead-place.greatest ≡ number_in (take (n + 1) ahead) p = elim c.if-ahead-place.branch [
      | then-ahead-place w ↦ (let grown : w.max-greatest.result ≡ max c.loop-place.greatest (get_or ahead n d).number = w.max-greatest.ensures in w.greatest-is ∙ grown) ∙ ap (λ (m : ℕ). max m (get_or ahead n d).number) c.loop-place.invariant ∙ sym (told_here ahead n p d c.loop-place-test.true w.if-ahead-place.true)
      | else-ahead-place w ↦ w.greatest-is ∙ c.loop-place.invariant ∙ sym (told_elsewhere ahead n p d c.loop-place-test.true w.if-ahead-place.false)
    ] in
    now
