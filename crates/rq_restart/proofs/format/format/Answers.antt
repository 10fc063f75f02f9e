use Rattle.std.proofs.Common.{ℕ, ◌≤◌, ◌<◌, ◌∙◌, [], sym, subst, arith}
use Rattle.std.proofs.lemmas.Result.{on_ok_weaker}
use Rattle.rq_page.specs.Sizes.{Sizes, page_count}
use Rattle.rq_disk.specs.Device.{Holds}
use Rattle.rq_store.specs.Fitting.{FitsLog}
use Rattle.rq_store.proofs.Formatting.{formatted_fits}
use Rattle.rq_store.proofs.Based.{unbased}
use Rattle.rq_store.proofs.Cutting.{only_fit}
use Rattle.rq_restart.proofs.Formats.{formatted_all, formatted_more, other_written, others_synced, first_written, first_synced, within_written, within_synced}
use Rattle.rq_restart.proofs.format.format.Goals as goal

pub loop-number-preserved : goal.loop-number-preserved
loop-number-preserved g c =
    let z : Sizes = c.args.layout.now in
    let p = g.P.PageDevice in
    let l = c.loop-number in
    let new = c.write_formatted.new.pages in
    let image = c.write_formatted.new.page in
    let wrote = c.write_formatted.ensures in
    let done = c.in_ok-write_formatted.ensures in
    let low : 1 ≤ l.number = omega (arith, l.auto.number) in
    let below : l.number < page_count z = let e = c.pages-number-end.ensures.number in let t = c.loop-number-test.true in omega (arith, e, t) in
    record {
      formatted = formatted_more z l.number (p.seen l.pages) (p.seen new) image l.invariant.formatted done.written wrote.formatted;
      untold = other_written p z c.args.pages.now l.pages new l.number image l.invariant.untold low wrote.crash wrote.time;
      within = within_written p z c.args.pages.now l.pages new l.number image l.invariant.within below wrote.formatted wrote.crash wrote.time;
      others = λ q high. wrote.others q (λ e. absurd (omega (arith, e, below, high))) ∙ l.invariant.others q high;
      honest = λ h. l.invariant.honest (wrote.honest h);
      stands = λ h s. absurd (done.runs h (l.invariant.stands (wrote.honest h) s));
      cause = done.cause ∙ l.invariant.cause;
    }

pub returns-clause-fits : goal.returns-clause-fits
returns-clause-fits g c =
    let z : Sizes = c.args.layout.now in
    let seen = g.P.PageDevice.seen in
    let behind : (p : ℕ) → 1 ≤ p → p < page_count z → _ = λ p low high. let e = c.pages-number-end.ensures.number in let t = c.loop-number-test.false in c.loop-number.invariant.formatted p low (omega (arith, e, t, high)) in
    on_ok_weaker c.sync-2.result
    (λ _. subst (λ s. FitsLog z s []) (sym c.sync-2.ensures.seen)
    (formatted_fits z (seen c.write_formatted-2.new.pages) c.pages-number-end.ensures.in_range
    (formatted_all z (seen c.loop-number.pages) (seen c.write_formatted-2.new.pages) c.write_formatted-2.new.page behind
    (subst (λ s. Holds s 0 c.write_formatted-2.new.page (seen c.write_formatted-2.new.pages)) c.sync.ensures.seen c.in_ok-write_formatted-2.ensures.written)
    c.write_formatted-2.ensures.formatted)))
    c.sync-2.ensures.cause

pub returns-clause-durable : goal.returns-clause-durable
returns-clause-durable g c =
    let z : Sizes = c.args.layout.now in
    let seen = g.P.PageDevice.seen in
    let behind : (p : ℕ) → 1 ≤ p → p < page_count z → _ = λ p low high. let e = c.pages-number-end.ensures.number in let t = c.loop-number-test.false in c.loop-number.invariant.formatted p low (omega (arith, e, t, high)) in
    on_ok_weaker c.sync-2.result
    (λ only.
    let fit : FitsLog z (seen c.write_formatted-2.new.pages) [] = formatted_fits z (seen c.write_formatted-2.new.pages) c.pages-number-end.ensures.in_range
    (formatted_all z (seen c.loop-number.pages) (seen c.write_formatted-2.new.pages) c.write_formatted-2.new.page behind
    (subst (λ s. Holds s 0 c.write_formatted-2.new.page (seen c.write_formatted-2.new.pages)) c.sync.ensures.seen c.in_ok-write_formatted-2.ensures.written)
    c.write_formatted-2.ensures.formatted) in
    only_fit (seen c.write_formatted-2.new.pages) (g.P.PageDevice.may_be c.sync-2.new.pages) z [] only fit (unbased z [] (seen c.write_formatted-2.new.pages) tt fit))
    c.sync-2.ensures.durable

pub returns-in_err-write_formatted-clause-any_moment : goal.returns-in_err-write_formatted-clause-any_moment
returns-in_err-write_formatted-clause-any_moment g c =
    let l = c.loop-number in
    let low : 1 ≤ l.number = omega (arith, l.auto.number) in
    (other_written g.P.PageDevice c.args.layout.now c.args.pages.now l.pages c.write_formatted.new.pages l.number c.write_formatted.new.page l.invariant.untold low c.write_formatted.ensures.crash c.write_formatted.ensures.time).run

pub returns-in_err-write_formatted-2-clause-any_moment : goal.returns-in_err-write_formatted-2-clause-any_moment
returns-in_err-write_formatted-2-clause-any_moment g c =
    let z : Sizes = c.args.layout.now in
    let p = g.P.PageDevice in
    let l = c.loop-number in
    let behind : (q : ℕ) → 1 ≤ q → q < page_count z → _ = λ q low high. let e = c.pages-number-end.ensures.number in let t = c.loop-number-test.false in l.invariant.formatted q low (omega (arith, e, t, high)) in
    let synced = others_synced p z c.args.pages.now l.pages c.sync.new.pages l.invariant.untold c.sync.ensures.crash c.sync.ensures.time in
    (first_written p z c.args.pages.now c.sync.new.pages c.write_formatted-2.new.pages (p.seen l.pages) c.write_formatted-2.new.page synced c.in_ok-sync.ensures.durable behind c.write_formatted-2.ensures.formatted c.write_formatted-2.ensures.crash c.write_formatted-2.ensures.time).run

pub returns-clause-any_moment : goal.returns-clause-any_moment
returns-clause-any_moment g c =
    let z : Sizes = c.args.layout.now in
    let p = g.P.PageDevice in
    let l = c.loop-number in
    let behind : (q : ℕ) → 1 ≤ q → q < page_count z → _ = λ q low high. let e = c.pages-number-end.ensures.number in let t = c.loop-number-test.false in l.invariant.formatted q low (omega (arith, e, t, high)) in
    let synced = others_synced p z c.args.pages.now l.pages c.sync.new.pages l.invariant.untold c.sync.ensures.crash c.sync.ensures.time in
    let told = first_written p z c.args.pages.now c.sync.new.pages c.write_formatted-2.new.pages (p.seen l.pages) c.write_formatted-2.new.page synced c.in_ok-sync.ensures.durable behind c.write_formatted-2.ensures.formatted c.write_formatted-2.ensures.crash c.write_formatted-2.ensures.time in
    (first_synced p z c.args.pages.now c.write_formatted-2.new.pages c.sync-2.new.pages told c.sync-2.ensures.crash c.sync-2.ensures.time).run

pub returns-in_err-sync-clause-any_moment : goal.returns-in_err-sync-clause-any_moment
returns-in_err-sync-clause-any_moment g c =
    let l = c.loop-number in
    (others_synced g.P.PageDevice c.args.layout.now c.args.pages.now l.pages c.sync.new.pages l.invariant.untold c.sync.ensures.crash c.sync.ensures.time).run

-- each page by itself
pub returns-in_err-write_formatted-clause-only : goal.returns-in_err-write_formatted-clause-only
returns-in_err-write_formatted-clause-only g c =
    let l = c.loop-number in
    let below : l.number < page_count c.args.layout.now = let e = c.pages-number-end.ensures.number in let t = c.loop-number-test.true in omega (arith, e, t) in
    (within_written g.P.PageDevice c.args.layout.now c.args.pages.now l.pages c.write_formatted.new.pages l.number c.write_formatted.new.page l.invariant.within below c.write_formatted.ensures.formatted c.write_formatted.ensures.crash c.write_formatted.ensures.time).run

pub returns-in_err-sync-clause-only : goal.returns-in_err-sync-clause-only
returns-in_err-sync-clause-only g c =
    let l = c.loop-number in
    (within_synced g.P.PageDevice c.args.layout.now c.args.pages.now l.pages c.sync.new.pages l.invariant.within c.sync.ensures.crash c.sync.ensures.time).run

pub returns-in_err-write_formatted-2-clause-only : goal.returns-in_err-write_formatted-2-clause-only
returns-in_err-write_formatted-2-clause-only g c =
    let z : Sizes = c.args.layout.now in
    let p = g.P.PageDevice in
    let synced = within_synced p z c.args.pages.now c.loop-number.pages c.sync.new.pages c.loop-number.invariant.within c.sync.ensures.crash c.sync.ensures.time in
    (within_written p z c.args.pages.now c.sync.new.pages c.write_formatted-2.new.pages 0 c.write_formatted-2.new.page synced (omega arith) c.write_formatted-2.ensures.formatted c.write_formatted-2.ensures.crash c.write_formatted-2.ensures.time).run

pub returns-clause-only : goal.returns-clause-only
returns-clause-only g c =
    let z : Sizes = c.args.layout.now in
    let p = g.P.PageDevice in
    let synced = within_synced p z c.args.pages.now c.loop-number.pages c.sync.new.pages c.loop-number.invariant.within c.sync.ensures.crash c.sync.ensures.time in
    let first = within_written p z c.args.pages.now c.sync.new.pages c.write_formatted-2.new.pages 0 c.write_formatted-2.new.page synced (omega arith) c.write_formatted-2.ensures.formatted c.write_formatted-2.ensures.crash c.write_formatted-2.ensures.time in
    (within_synced p z c.args.pages.now c.write_formatted-2.new.pages c.sync-2.new.pages first c.sync-2.ensures.crash c.sync-2.ensures.time).run
