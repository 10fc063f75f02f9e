use Rattle.std.proofs.Common.{◌≡◌, ◌<◌, ℕ, length, arith, refl, slice_index_or, sym, subst}
use Rattle.rq_page.specs.Sizes.{Sizes, page_count}
use Rattle.rq_pool.specs.Fixing.{AreHadTo}
use Rattle.rq_pool.proofs.Bringing.{had_first, had_next, had_not, had_outside, way_on}
use Rattle.rq_pool.proofs.Pages.bring_all.Goals as goal

pub loop-place-init : goal.loop-place-init
loop-place-init g c = had_first g.P.PageDevice c.args.forced c.args.self.now c.args.pages.now c.requires.held

pub bring-requires-clause-low : goal.bring-requires-clause-low
bring-requires-clause-low g c =
    let lt : c.loop-place.place < length c.args.pages.now = omega (arith, c.loop-place-test.true, c.loop-place.auto.place-end) in
    (c.requires.of_store c.loop-place.place lt).0

pub bring-requires-clause-high : goal.bring-requires-clause-high
bring-requires-clause-high g c =
    let lt : c.loop-place.place < length c.args.pages.now = omega (arith, c.loop-place-test.true, c.loop-place.auto.place-end) in
    subst (λ (z : Sizes). slice_index_or c.args.pages.now c.loop-place.place 0 < page_count z) (sym c.loop-place.invariant.way.kept.sizes) (c.requires.of_store c.loop-place.place lt).1

pub loop-place-preserved : goal.loop-place-preserved
loop-place-preserved g c =
    let lt : c.loop-place.place < length c.args.pages.now = omega (arith, c.loop-place-test.true, c.loop-place.auto.place-end) in
    let f = c.in-Ok.ensures in
    had_next g.P.PageDevice c.args.forced c.args.self.now c.loop-place.self c.bring.new.self c.args.pages.now c.loop-place.place c.loop-place.invariant lt f.had f.others f.kept f.counted

pub returns-clause-had : goal.returns-clause-had
returns-clause-had g c =
    let all : c.loop-place.place ≡ length c.args.pages.now = omega (arith, c.loop-place-test.false, c.loop-place.auto.place-end) in
    subst (λ (k : ℕ). AreHadTo g.P.PageDevice c.args.forced c.args.self.now c.loop-place.self c.args.pages.now k) all c.loop-place.invariant

pub returns-clause-way : goal.returns-clause-way
returns-clause-way g c = c.loop-place.invariant.way

pub returns-in-Err-clause-refused : goal.returns-in-Err-clause-refused
returns-in-Err-clause-refused g c =
    let lt : c.loop-place.place < length c.args.pages.now = omega (arith, c.loop-place-test.true, c.loop-place.auto.place-end) in
    had_not g.P.PageDevice c.args.forced c.args.self.now c.loop-place.self c.bring.new.self c.args.pages.now c.loop-place.place c.loop-place.invariant lt c.in-Err.refusal c.requires.of_store c.in-Err.ensures.refused

pub returns-in-Err-clause-way : goal.returns-in-Err-clause-way
returns-in-Err-clause-way g c =
    let lt : c.loop-place.place < length c.args.pages.now = omega (arith, c.loop-place-test.true, c.loop-place.auto.place-end) in
    let f = c.in-Err.ensures in
    way_on g.P.PageDevice c.args.forced c.args.self.now c.loop-place.self c.bring.new.self c.args.pages.now c.loop-place.place c.loop-place.invariant lt f.left f.others f.kept

pub returns-clause-stood : goal.returns-clause-stood
returns-clause-stood g c = λ all. (refl, c.loop-place.invariant.stood all)

pub returns-in-Err-clause-stood : goal.returns-in-Err-clause-stood
returns-in-Err-clause-stood g c =
    let lt : c.loop-place.place < length c.args.pages.now = omega (arith, c.loop-place-test.true, c.loop-place.auto.place-end) in
    λ all. absurd (had_outside g.P.PageDevice c.args.forced c.args.self.now c.loop-place.self c.bring.new.self c.args.pages.now c.loop-place.place c.loop-place.invariant lt c.in-Err.refusal c.in-Err.ensures.refused all)
