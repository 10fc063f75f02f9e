use Rattle.std.proofs.Common.{rules, ap, ◌∙◌, refl, true, Ok, Err}
use Rattle.std.proofs.lemmas.Bool.{true≢false}
use Rattle.rq_model.specs.History.Call.{Write_page}
use Rattle.rq_model.specs.declared.refusal.Refusal.TheVariants as why
use Rattle.rq_store.specs.State.{State}
use Rattle.rq_engine.proofs.Standing.{failed_steps}
use Rattle.rq_engine.proofs.Crashing.{none_fit, page_fit}
use Rattle.rq_engine.proofs.Keeping.{kept_device}
use Rattle.rq_engine.proofs.Opened.{state_is}
use Rattle.rq_engine.proofs.Earlier.{from_inside_on}
use Rattle.rq_engine.proofs.engine.Engine.write_page.Goals as goal

pub invariant_of-self-in-Err-DiskWrite : goal.invariant_of-self-in-Err-DiskWrite
invariant_of-self-in-Err-DiskWrite g c =
    record {
      kept = rw (c.in-Err-DiskWrite.ensures.sizes, c.in-Err-DiskWrite.ensures.images) (kept_device _ _ _ _ _ _ c.self.inside.log.forced true _ c.self.invariant.kept refl refl (λ e. absurd (true≢false e)));
      durable = c.self.invariant.durable;
      cells = rw (c.in-Err-DiskWrite.ensures.sizes, c.in-Err-DiskWrite.ensures.images) c.self.invariant.cells;
      frames_are = rw (c.in-Err-DiskWrite.ensures.frames.0) c.self.invariant.frames_are;
    }

pub returns-in-Err-DiskWrite-clause-answered : goal.returns-in-Err-DiskWrite-clause-answered
returns-in-Err-DiskWrite-clause-answered g c h earlier long k =
    let running = ap (λ (s : State). s.failed) (state_is c.self.view_is) ∙ c.in_ok-check_running.ensures.running in
    (from_inside_on earlier (state_is c.self.view_is) long (λ as_many k. rw (c.in-Err-DiskWrite.ensures.sizes, c.in-Err-DiskWrite.ensures.images) (failed_steps _ k running (Write_page c.args.page))) k, refl)

pub returns-in_err-check_running-clause-fit : goal.returns-in_err-check_running-clause-fit
returns-in_err-check_running-clause-fit g c =
    none_fit g.P.PageDevice g.L.LogDevice g.met.P.PageDevice.only_now g.met.L.LogDevice.only_now c.args.self.now (c.shows_kept.ensures.spelled, c.shows_kept.ensures.based) c.shows_kept.ensures.leaves

pub returns-in-Ok-clause-fit : goal.returns-in-Ok-clause-fit
returns-in-Ok-clause-fit g c =
    page_fit g.P.PageDevice g.L.LogDevice g.met.P.PageDevice.only_now g.met.L.LogDevice.only_now c.args.self.now _ (c.shows_kept.ensures.spelled, c.shows_kept.ensures.based) c.shows_kept.ensures.leaves
    c.args.page (Ok c.in-Ok.written) (search rules) (search rules) (search rules) (search rules)

pub returns-in-Err-DiskWrite-clause-fit : goal.returns-in-Err-DiskWrite-clause-fit
returns-in-Err-DiskWrite-clause-fit g c =
    page_fit g.P.PageDevice g.L.LogDevice g.met.P.PageDevice.only_now g.met.L.LogDevice.only_now c.args.self.now _ (c.shows_kept.ensures.spelled, c.shows_kept.ensures.based) c.shows_kept.ensures.leaves
    c.args.page (Err why.DiskWrite) (search rules) (search rules) (search rules) (search rules)

pub returns-in-Err : goal.returns-in-Err
returns-in-Err g c = record {
  answered = search rules;
  sizes = search rules;
  answer = search rules;
  state = search rules;
  changed = search rules;
  device = search rules;
  count = search rules;
  honest = search rules;
  log = search rules;
  replacing = search rules;
  refused = search rules;
  failed = search rules;
  fit = page_fit g.P.PageDevice g.L.LogDevice g.met.P.PageDevice.only_now g.met.L.LogDevice.only_now c.args.self.now _ (c.shows_kept.ensures.spelled, c.shows_kept.ensures.based) c.shows_kept.ensures.leaves
      c.args.page (Err c.in-Err.refusal) (search rules) (search rules) (search rules) (search rules);
}
