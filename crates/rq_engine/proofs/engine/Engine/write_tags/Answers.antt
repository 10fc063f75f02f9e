use Rattle.std.proofs.Common.{ap, refl, rules, sym, ◌∙◌, ◌≡◌, ℕ, subst, arith, inl, inr}
use Rattle.std.proofs.lemmas.Bool.{cases_eq}
use Rattle.rq_page.specs.Sizes.{page_count}
use Rattle.rq_page.specs.Formatted.{IsFormatted}
use Rattle.rq_store.specs.State.{State}
use Rattle.rq_engine.specs.Checkpoint.{CountsOne, IsStopped}
use Rattle.rq_engine.proofs.Checkpointing.{counts_one, keeps_join, kept_join}
use Rattle.rq_engine.proofs.Crashing.{none_fit}
use Rattle.rq_engine.proofs.Opened.{state_is}
use Rattle.rq_engine.proofs.engine.Engine.write_tags.Goals as goal

pub loop-page-init : goal.loop-page-init
loop-page-init g c =
    let first : c.pages-page.result ≡ page_count c.args.self.now.state.sizes = c.pages-page.ensures.number ∙ ap page_count (c.layout.ensures.sizes ∙ ap (λ (s : State). s.sizes) (state_is c.self.view_is)) in
    record {
      low = omega (arith, first);
      state = refl;
      written = λ p low high. absurd (omega (arith, first, low, high));
      beyond = λ p past. (refl, λ b may. may);
      faults = refl;
      changed = refl;
      count = refl;
      log = refl;
      replacing = refl;
      honest = λ h. h;
      fit = none_fit g.P.PageDevice g.L.LogDevice g.met.P.PageDevice.only_now g.met.L.LogDevice.only_now c.args.self.now (c.shows_kept.ensures.spelled, c.shows_kept.ensures.based) c.shows_kept.ensures.leaves;
    }

pub write_tag_page-requires-clause-running : goal.write_tag_page-requires-clause-running
write_tag_page-requires-clause-running g c = ap (λ (s : State). s.failed) c.loop-page.invariant.state ∙ c.requires.running

pub write_tag_page-requires-clause-behind : goal.write_tag_page-requires-clause-behind
write_tag_page-requires-clause-behind g c =
    let low = c.loop-page.invariant.low in
    let same : page_count c.loop-page.self.state.sizes ≡ page_count c.args.self.now.state.sizes = ap (λ (s : State). page_count s.sizes) c.loop-page.invariant.state in
    omega (arith, low, same)

pub returns-in_err-write_tag_page-clause-refused : goal.returns-in_err-write_tag_page-clause-refused
returns-in_err-write_tag_page-clause-refused g c =
    let that : IsStopped c.args.self.now.state c.write_tag_page.new.self.state c.in_err-write_tag_page.field-0.0 =
    subst (λ (s : State). IsStopped s c.write_tag_page.new.self.state c.in_err-write_tag_page.field-0.0) c.loop-page.invariant.state c.in_err-write_tag_page.ensures.refused in
    search (rules, that)

pub returns-in_err-write_tag_page-clause-cause : goal.returns-in_err-write_tag_page-clause-cause
returns-in_err-write_tag_page-clause-cause g c =
    let kept = c.loop-page.invariant in
    let that : CountsOne g.P.PageDevice g.L.LogDevice c.args.self.now c.write_tag_page.new.self =
    counts_one g.P.PageDevice g.L.LogDevice c.args.self.now c.loop-page.self c.write_tag_page.new.self kept.faults (ap g.L.LogDevice.faults kept.log) c.in_err-write_tag_page.ensures.cause in
    search (rules, that)

pub returns-in_err-write_tag_page-clause-beyond : goal.returns-in_err-write_tag_page-clause-beyond
returns-in_err-write_tag_page-clause-beyond g c = λ p past.
    let end = c.pages-page-end.ensures.number in
    let within = c.loop-page-test.true in
    kept_join g.P.PageDevice c.args.self.now.pages c.loop-page.self.pages c.write_tag_page.new.self.pages p (c.loop-page.invariant.beyond p past) (c.in_err-write_tag_page.ensures.others p (λ e. absurd (omega (arith, end, within, past, e))))

pub returns-in_err-write_tag_page-clause-changed : goal.returns-in_err-write_tag_page-clause-changed
returns-in_err-write_tag_page-clause-changed g c = c.in_err-write_tag_page.ensures.changed ∙ c.loop-page.invariant.changed

pub returns-in_err-write_tag_page-clause-log : goal.returns-in_err-write_tag_page-clause-log
returns-in_err-write_tag_page-clause-log g c = c.in_err-write_tag_page.ensures.log ∙ c.loop-page.invariant.log

pub returns-in_err-write_tag_page-clause-replacing : goal.returns-in_err-write_tag_page-clause-replacing
returns-in_err-write_tag_page-clause-replacing g c = c.in_err-write_tag_page.ensures.replacing ∙ c.loop-page.invariant.replacing

pub returns-in_err-write_tag_page-clause-honest : goal.returns-in_err-write_tag_page-clause-honest
returns-in_err-write_tag_page-clause-honest g c = λ h. c.loop-page.invariant.honest (c.in_err-write_tag_page.ensures.honest h)

pub returns-in_err-write_tag_page-clause-fit : goal.returns-in_err-write_tag_page-clause-fit
returns-in_err-write_tag_page-clause-fit g c =
    let kept = c.loop-page.invariant in
    let made = c.in_err-write_tag_page.ensures in
    keeps_join g.P.PageDevice g.L.LogDevice c.args.self.now c.loop-page.self c.write_tag_page.new.self kept.state kept.replacing (λ h. (made.honest h.0, subst g.L.LogDevice.honest made.log h.1)) kept.fit made.fit

pub loop-page-preserved : goal.loop-page-preserved
loop-page-preserved g c =
    let kept = c.loop-page.invariant in
    let made = c.in_ok-write_tag_page.ensures in
    let n = c.loop-page.page in
    let P = g.P.PageDevice in
    let now = c.write_tag_page.new.self in
    let low = kept.low in
    record {
      low = omega (arith, low);
      state = made.state ∙ kept.state;
      written = λ p least most. elim (cases_eq p n) [
        | inl is ↦ subst (λ (q : ℕ). IsFormatted c.args.grown.now q (P.seen now.pages q)) (sym is) made.written
        | inr other ↦ subst (IsFormatted c.args.grown.now p) (sym (made.others p other).0) (kept.written p least (omega (arith, most, other)))
      ];
      beyond = λ p past. kept_join P c.args.self.now.pages c.loop-page.self.pages now.pages p (kept.beyond p past) (made.others p (let end = c.pages-page-end.ensures.number in let within = c.loop-page-test.true in λ e. absurd (omega (arith, end, within, past, e))));
      faults = made.cause.0 ∙ kept.faults;
      changed = made.changed ∙ kept.changed;
      count = made.count ∙ kept.count;
      log = made.log ∙ kept.log;
      replacing = made.replacing ∙ kept.replacing;
      honest = λ h. kept.honest (made.honest h);
      fit = keeps_join P g.L.LogDevice c.args.self.now c.loop-page.self now kept.state kept.replacing (λ h. (made.honest h.0, subst g.L.LogDevice.honest made.log h.1)) kept.fit made.fit;
    }

pub returns-clause-state : goal.returns-clause-state
returns-clause-state g c = c.loop-page.invariant.state

pub returns-clause-written : goal.returns-clause-written
returns-clause-written g c = λ p low high.
    let end = c.pages-page-end.ensures.number in
    let over = c.loop-page-test.false in
    c.loop-page.invariant.written p low (omega (arith, high, end, over))

pub returns-clause-beyond : goal.returns-clause-beyond
returns-clause-beyond g c = c.loop-page.invariant.beyond

pub returns-clause-cause : goal.returns-clause-cause
returns-clause-cause g c = (c.loop-page.invariant.faults, ap g.L.LogDevice.faults c.loop-page.invariant.log)

pub returns-clause-changed : goal.returns-clause-changed
returns-clause-changed g c = c.loop-page.invariant.changed

pub returns-clause-log : goal.returns-clause-log
returns-clause-log g c = c.loop-page.invariant.log

pub returns-clause-replacing : goal.returns-clause-replacing
returns-clause-replacing g c = c.loop-page.invariant.replacing

pub returns-clause-honest : goal.returns-clause-honest
returns-clause-honest g c = c.loop-page.invariant.honest

pub returns-clause-fit : goal.returns-clause-fit
returns-clause-fit g c = c.loop-page.invariant.fit

pub returns-in_err-write_tag_page-clause-count : goal.returns-in_err-write_tag_page-clause-count
returns-in_err-write_tag_page-clause-count g c = c.in_err-write_tag_page.ensures.count ∙ c.loop-page.invariant.count

pub returns-clause-count : goal.returns-clause-count
returns-clause-count g c = c.loop-page.invariant.count
