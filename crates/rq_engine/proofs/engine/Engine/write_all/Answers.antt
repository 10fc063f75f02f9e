use Rattle.std.proofs.Common.{ap, refl, rules, ◌∙◌, Bool, Err, List, subst, arith, Ok}
use Rattle.rq_page.specs.Sizes.{page_count}
use Rattle.rq_pool.specs.declared.Written.{Written}
use Rattle.rq_pool.specs.Pooled.{is_changed}
use Rattle.rq_engine.specs.Checkpoint.{CountsOne, IsStopped}
use Rattle.rq_engine.specs.Opened.{WritesWhen}
use Rattle.rq_engine.proofs.Checkpointing.{cleared, fewer_after, keeps_join, kept_join, page_counts, page_counts_none, page_others, page_stops}
use Rattle.rq_engine.proofs.Crashing.{none_fit}
use Rattle.rq_store.specs.State.{State}
use Rattle.rq_engine.proofs.Opened.{state_is}
use Rattle.rq_engine.proofs.engine.Engine.write_all.Goals as goal

pub loop-page-init : goal.loop-page-init
loop-page-init g c = record {
  low = omega arith;
  state = refl;
  clean = λ p low high. absurd (omega (arith, low, high));
  behind = λ p past. (refl, λ b may. may);
  fewer = λ p h. h;
  faults = refl;
  count = refl;
  log = refl;
  replacing = refl;
  honest = λ h. h;
  fit = none_fit g.P.PageDevice g.L.LogDevice g.met.P.PageDevice.only_now g.met.L.LogDevice.only_now c.args.self.now (c.shows_kept.ensures.spelled, c.shows_kept.ensures.based) c.shows_kept.ensures.leaves;
}

pub returns-in_err-write_page-clause-refused : goal.returns-in_err-write_page-clause-refused
returns-in_err-write_page-clause-refused g c =
    let kept = c.loop-page.invariant in
    let made = c.in_err-write_page.ensures in
    let that : IsStopped c.args.self.now.state c.write_page.new.self.state c.in_err-write_page.field-0.0 =
    page_stops g.P.PageDevice g.L.LogDevice c.args.self.now c.loop-page.self c.write_page.new.self c.loop-page.page c.in_err-write_page.field-0.0
    kept.state c.requires.running c.requires.forced c.requires.within kept.fewer kept.low made.answer made.state in
    search (rules, that)

pub returns-in_err-write_page-clause-cause : goal.returns-in_err-write_page-clause-cause
returns-in_err-write_page-clause-cause g c =
    let kept = c.loop-page.invariant in
    let made = c.in_err-write_page.ensures in
    let stops : IsStopped c.args.self.now.state c.write_page.new.self.state c.in_err-write_page.field-0.0 =
    page_stops g.P.PageDevice g.L.LogDevice c.args.self.now c.loop-page.self c.write_page.new.self c.loop-page.page c.in_err-write_page.field-0.0
    kept.state c.requires.running c.requires.forced c.requires.within kept.fewer kept.low made.answer made.state in
    let that : CountsOne g.P.PageDevice g.L.LogDevice c.args.self.now c.write_page.new.self =
    page_counts g.P.PageDevice g.L.LogDevice c.args.self.now c.loop-page.self c.write_page.new.self c.loop-page.page c.in_err-write_page.field-0.0 stops made.device kept.faults (made.log ∙ kept.log) in
    search (rules, that)

pub returns-in_err-write_page-clause-behind : goal.returns-in_err-write_page-clause-behind
returns-in_err-write_page-clause-behind g c = λ p past.
    let kept = c.loop-page.invariant in
    let end = c.pages-page-end.ensures.number in
    let z = ap page_count (c.layout-layout.ensures.sizes ∙ ap (λ (s : State). s.sizes) (state_is c.self.view_is)) in
    let within = c.loop-page-test.true in
    kept_join g.P.PageDevice c.args.self.now.pages c.loop-page.self.pages c.write_page.new.self.pages p (kept.behind p past)
    (page_others g.P.PageDevice c.loop-page.self c.write_page.new.self c.loop-page.page (Err c.in_err-write_page.field-0.0) c.in_err-write_page.ensures.device p (λ e. absurd (omega (arith, end, z, within, past, e))))

pub returns-in_err-write_page-clause-fewer : goal.returns-in_err-write_page-clause-fewer
returns-in_err-write_page-clause-fewer g c = λ q h.
    let kept = c.loop-page.invariant in
    let made = c.in_err-write_page.ensures in
    ap (λ (f : List Bool). is_changed f q) made.changed ∙ fewer_after c.loop-page.self.changed c.loop-page.page (Err c.in_err-write_page.field-0.0) q (kept.fewer q h)

pub returns-in_err-write_page-clause-fit : goal.returns-in_err-write_page-clause-fit
returns-in_err-write_page-clause-fit g c =
    let kept = c.loop-page.invariant in
    let made = c.in_err-write_page.ensures in
    keeps_join g.P.PageDevice g.L.LogDevice c.args.self.now c.loop-page.self c.write_page.new.self kept.state kept.replacing (λ h. (made.honest h.0, subst g.L.LogDevice.honest made.log h.1)) kept.fit made.fit

pub loop-page-preserved : goal.loop-page-preserved
loop-page-preserved g c =
    let kept = c.loop-page.invariant in
    let made = c.in_ok-write_page.ensures in
    let old = c.loop-page.self in
    let n = c.loop-page.page in
    let w = c.in_ok-write_page.field-0 in
    record {
      low = (let low = kept.low in omega (arith, low));
      state = made.state ∙ kept.state;
      clean = λ p low high. ap (λ (f : List Bool). is_changed f p) made.changed ∙ cleared old.changed n p w
          (λ e. (subst (λ (x : Written). WritesWhen old n (Ok x)) e made.answer).1)
          (λ other. kept.clean p low (omega (arith, high, other)));
      behind = λ p past. kept_join g.P.PageDevice c.args.self.now.pages old.pages c.write_page.new.self.pages p (kept.behind p past) (page_others g.P.PageDevice old c.write_page.new.self n (Ok w) made.device p (let end = c.pages-page-end.ensures.number in let z = ap page_count (c.layout-layout.ensures.sizes ∙ ap (λ (s : State). s.sizes) (state_is c.self.view_is)) in let within = c.loop-page-test.true in λ e. absurd (omega (arith, end, z, within, past, e))));
      fewer = λ p h. ap (λ (f : List Bool). is_changed f p) made.changed ∙ fewer_after old.changed n (Ok w) p (kept.fewer p h);
      faults = page_counts_none g.P.PageDevice g.L.LogDevice c.args.self.now old c.write_page.new.self n w made.device ∙ kept.faults;
      count = made.count ∙ kept.count;
      log = made.log ∙ kept.log;
      replacing = made.replacing ∙ kept.replacing;
      honest = λ h. kept.honest (made.honest h);
      fit = keeps_join g.P.PageDevice g.L.LogDevice c.args.self.now old c.write_page.new.self kept.state kept.replacing (λ h. (made.honest h.0, subst g.L.LogDevice.honest made.log h.1)) kept.fit made.fit;
    }

pub returns-in_err-write_page-clause-count : goal.returns-in_err-write_page-clause-count
returns-in_err-write_page-clause-count g c = c.in_err-write_page.ensures.count ∙ c.loop-page.invariant.count

pub returns-clause-count : goal.returns-clause-count
returns-clause-count g c = c.loop-page.invariant.count
