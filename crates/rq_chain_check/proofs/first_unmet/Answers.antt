use Rattle.std.proofs.Common.{◌≡◌, ◌/◌, ◌<◌, ◌≤◌, ap, ◌∙◌, arith}
use Rattle.rq_page.specs.Sizes.{Sizes, cell_at, cell_count}
use Rattle.rq_views.specs.Stored.{slots_in}
use Rattle.rq_chain_check.proofs.Followed.{seen_all, seen_unmet}
use Rattle.rq_chain_check.proofs.Nexts.{used_before, seen_next}
use Rattle.rq_chain_check.proofs.first_unmet.Goals as goal

pub returns-then-is_unmet-clause-unmet : goal.returns-then-is_unmet-clause-unmet
returns-then-is_unmet-clause-unmet g c followed =
    let z = c.args.pages.now.sizes in
    let images = c.args.pages.now.images in
    let k = c.loop-place.place in
    let place : c.cell_addr-at.result ≡ cell_at z k = c.cell_addr-at.ensures.value ∙ ap (λ (l : Sizes). cell_at l k) c.layout-layout.ensures.sizes in
    let of_layout : cell_count c.layout-layout.result ≡ cell_count z = ap cell_count c.layout-layout.ensures.sizes in
    let number = c.cell_slots-place-end.ensures.number in
    let below : k < cell_count z = let lt = c.loop-place-test.true in omega (arith, lt, number, of_layout) in
    let page : c.page.result ≡ cell_at z k / 16 = c.page.ensures ∙ ap (λ a. a / 16) place in
    let unmet = c.if-is_unmet.ensures.unmet in
    let used = used_before z (slots_in z images) k c.cell_addr-at.result place c.loop-place.free below unmet.0 c.loop-place.invariant.next in
    seen_unmet z images c.args.met.now k c.page.result followed c.loop-place.invariant.seen below used unmet.1 page

pub loop-place-preserved : goal.loop-place-preserved
loop-place-preserved g c =
    let z = c.args.pages.now.sizes in
    let q = slots_in z c.args.pages.now.images in
    let k = c.loop-place.place in
    let place : c.cell_addr-at.result ≡ cell_at z k = c.cell_addr-at.ensures.value ∙ ap (λ (l : Sizes). cell_at l k) c.layout-layout.ensures.sizes in
    let i = c.loop-place.invariant in
    record {
      seen = seen_next z q k c.cell_addr-at.result place c.args.met.now c.loop-place.free i.seen i.next c.if-is_unmet.ensures.met;
      next = c.passed-next.ensures;
    }

pub returns-clause-whole : goal.returns-clause-whole
returns-clause-whole g c followed =
    let z = c.args.pages.now.sizes in
    let of_layout : cell_count c.layout-layout.result ≡ cell_count z = ap cell_count c.layout-layout.ensures.sizes in
    let number = c.cell_slots-place-end.ensures.number in
    let past : cell_count z ≤ c.loop-place.place = let ge = c.loop-place-test.false in omega (arith, ge, number, of_layout) in
    seen_all z c.args.pages.now.images c.args.met.now c.loop-place.place followed c.loop-place.invariant.seen past
