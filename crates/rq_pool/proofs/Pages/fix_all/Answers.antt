use Rattle.std.proofs.Common.{IsOk, Result, refl, subst, sym}
use Rattle.std.proofs.lemmas.Bool.{false≢true}
use Rattle.rq_page.specs.Sizes.{Sizes}
use Rattle.rq_pool.specs.Want.{AreOfStore}
use Rattle.rq_pool.proofs.Bringing.{cannot_then, framed_held, had_all, had_fixed, kept_let, not_fixed, not_let, stay_let, stood_still, way_before}
use Rattle.rq_pool.proofs.Holding.{held_last}
use Rattle.rq_pool.proofs.Pages.fix_all.Goals as goal

pub bring_all-requires-clause-of_store : goal.bring_all-requires-clause-of_store
bring_all-requires-clause-of_store g c = subst (λ (z : Sizes). AreOfStore z c.args.pages.now) (sym c.hold_all.ensures.still.sizes) c.requires.of_store

pub bring_all-requires-clause-held : goal.bring_all-requires-clause-held
bring_all-requires-clause-held g c = held_last c.args.self.now c.hold_all.new.self c.args.pages.now c.hold_all.ensures

pub returns-in-Ok-clause-fixed : goal.returns-in-Ok-clause-fixed
returns-in-Ok-clause-fixed g c = had_fixed g.P.PageDevice c.args.forced c.hold_all.new.self c.bring_all.new.self c.args.pages.now c.in-Ok.ensures.had

pub returns-in-Ok-clause-had : goal.returns-in-Ok-clause-had
returns-in-Ok-clause-had g c =
    λ cannot. had_all g.P.PageDevice c.args.forced c.hold_all.new.self c.bring_all.new.self c.args.pages.now c.in-Ok.ensures.had
    (cannot_then g.P.PageDevice c.args.forced c.args.self.now c.hold_all.new.self c.args.pages.now c.hold_all.ensures cannot)

pub returns-in-Err-clause-refused : goal.returns-in-Err-clause-refused
returns-in-Err-clause-refused g c =
    not_let g.P.PageDevice c.args.forced c.args.self.now c.bring_all.new.self c.let_all.new.self c.args.pages.now c.let_all.ensures.still c.in-Err.refusal
    (not_fixed g.P.PageDevice c.args.forced c.args.self.now c.hold_all.new.self c.args.pages.now c.hold_all.ensures c.in-Err.refusal c.bring_all.new.self c.in-Err.ensures.refused)

pub returns-in-Err-clause-left : goal.returns-in-Err-clause-left
returns-in-Err-clause-left g c = c.let_all.ensures.free

pub returns-in-Err-clause-stay : goal.returns-in-Err-clause-stay
returns-in-Err-clause-stay g c =
    let way = way_before g.P.PageDevice c.args.forced c.args.self.now c.hold_all.new.self c.args.pages.now c.hold_all.ensures c.bring_all.new.self c.in-Err.ensures.way in
    stay_let g.P.PageDevice c.args.forced c.args.self.now c.bring_all.new.self c.let_all.new.self c.args.pages.now c.let_all.ensures.still way c.let_all.ensures.stay

pub returns-in-Err-clause-kept : goal.returns-in-Err-clause-kept
returns-in-Err-clause-kept g c =
    let way = way_before g.P.PageDevice c.args.forced c.args.self.now c.hold_all.new.self c.args.pages.now c.hold_all.ensures c.bring_all.new.self c.in-Err.ensures.way in
    kept_let g.P.PageDevice c.args.forced c.args.self.now c.bring_all.new.self c.let_all.new.self c.args.pages.now c.let_all.ensures.still way

pub returns-in-Ok-clause-stood : goal.returns-in-Ok-clause-stood
returns-in-Ok-clause-stood g c all =
    let held = framed_held g.P.PageDevice c.args.forced c.args.self.now c.hold_all.new.self c.args.pages.now c.hold_all.ensures all in
    (refl, stood_still g.P.PageDevice c.args.forced c.args.self.now c.hold_all.new.self c.args.pages.now c.hold_all.ensures c.bring_all.new.self (c.bring_all.ensures.stood held).1)

pub returns-in-Err-clause-stood : goal.returns-in-Err-clause-stood
returns-in-Err-clause-stood g c all =
    let held = framed_held g.P.PageDevice c.args.forced c.args.self.now c.hold_all.new.self c.args.pages.now c.hold_all.ensures all in
    absurd (false≢true (subst (λ (r : Result _ _). IsOk r) c.in-Err.is (c.bring_all.ensures.stood held).0))
