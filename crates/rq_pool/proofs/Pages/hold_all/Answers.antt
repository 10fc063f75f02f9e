use Rattle.std.proofs.Common.{◌≡◌, ◌<◌, ℕ, length, arith, slice_index_or, sym, subst}
use Rattle.rq_page.specs.Sizes.{Sizes, page_count}
use Rattle.rq_pool.specs.Fixing.{AreSetTo}
use Rattle.rq_pool.proofs.Holding.{set_first, set_next}
use Rattle.rq_pool.proofs.Pages.hold_all.Goals as goal

pub loop-place-init : goal.loop-place-init
loop-place-init g c = set_first c.args.fixed c.args.self.now c.args.pages.now

pub hold_page-requires-clause-low : goal.hold_page-requires-clause-low
hold_page-requires-clause-low g c =
    let lt : c.loop-place.place < length c.args.pages.now = omega (arith, c.loop-place-test.true, c.loop-place.auto.place-end) in
    (c.requires.of_store c.loop-place.place lt).0

pub hold_page-requires-clause-high : goal.hold_page-requires-clause-high
hold_page-requires-clause-high g c =
    let lt : c.loop-place.place < length c.args.pages.now = omega (arith, c.loop-place-test.true, c.loop-place.auto.place-end) in
    subst (λ (z : Sizes). slice_index_or c.args.pages.now c.loop-place.place 0 < page_count z) (sym c.loop-place.invariant.still.sizes) (c.requires.of_store c.loop-place.place lt).1

pub loop-place-preserved : goal.loop-place-preserved
loop-place-preserved g c =
    let lt : c.loop-place.place < length c.args.pages.now = omega (arith, c.loop-place-test.true, c.loop-place.auto.place-end) in
    set_next c.args.fixed c.args.self.now c.loop-place.self c.hold_page.new.self c.args.pages.now c.loop-place.place c.loop-place.invariant lt c.hold_page.ensures.still c.hold_page.ensures.frames

pub returns : goal.returns
returns g c =
    let all : c.loop-place.place ≡ length c.args.pages.now = omega (arith, c.loop-place-test.false, c.loop-place.auto.place-end) in
    subst (λ (k : ℕ). AreSetTo c.args.fixed c.args.self.now c.loop-place.self c.args.pages.now k) all c.loop-place.invariant
