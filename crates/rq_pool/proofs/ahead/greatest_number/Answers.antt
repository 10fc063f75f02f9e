use Rattle.std.proofs.Common.{◌≡◌, ◌+◌, max, sym, ◌∙◌, ap, subst, arith}
use Rattle.rq_page.specs.Pages.{slot_of}
use Rattle.rq_page.specs.Formatted.{count_in}
use Rattle.rq_pool.proofs.Numbering.{IsGreatest, greatest_all, greatest_more}
use Rattle.rq_pool.proofs.ahead.greatest_number.Goals as goal

pub loop-slot-preserved : goal.loop-slot-preserved
loop-slot-preserved c =
    let z = c.args.layout.now in
    let p = c.args.number in
    let image = c.args.page.now in
    let n = c.loop-slot.slot in
    let e : c.max-greatest.result ≡ max c.loop-slot.greatest (count_in z p (slot_of n image)) = c.max-greatest.ensures ∙ ap (max c.loop-slot.greatest) (c.count.ensures ∙ ap (count_in z p) c.slot.ensures) in
    subst (IsGreatest z p image (n + 1)) (sym e) (greatest_more z p image n c.loop-slot.greatest c.loop-slot.auto.slot c.loop-slot.invariant)

pub returns : goal.returns
returns c =
    let z = c.args.layout.now in
    let p = c.args.number in
    let image = c.args.page.now in
    let high = c.loop-slot-test.false in
    let low = c.loop-slot.auto.slot-end in
    let e : c.loop-slot.slot ≡ 16 = omega (arith, high, low) in
    greatest_all z p image c.loop-slot.greatest (subst (λ n. IsGreatest z p image n c.loop-slot.greatest) e c.loop-slot.invariant)
