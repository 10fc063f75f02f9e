use Rattle.std.proofs.Common.{ap, ◌∙◌, refl, true, inl, inr, length}
use Rattle.std.proofs.lemmas.Bool.{true≢false}
use Rattle.rq_store.specs.State.{State}
use Rattle.rq_engine.proofs.Standing.{failed_steps}
use Rattle.rq_engine.proofs.Keeping.{kept_device}
use Rattle.rq_engine.proofs.Crashing.{log_fit, none_fit}
use Rattle.rq_engine.proofs.Opened.{none_tried, state_is}
use Rattle.rq_engine.proofs.Earlier.{force_inside, from_inside_on}
use Rattle.rq_engine.proofs.engine.Engine.force.Goals as goal

pub invariant_of-self : goal.invariant_of-self
invariant_of-self g c =
    let running = ap (λ (s : State). s.failed) (state_is c.self.view_is) ∙ c.in_ok-check_running.ensures.running in
    record { kept = kept_device _ _ c.force.new.self.failed _ _ c.force.new.self.reserved c.force.new.self.forced c.self.inside.failed c.force.new.self.records c.self.invariant.kept c.in-Ok.ensures.records c.in-Ok.ensures.reserved (λ e. c.in-Ok.ensures.ok.2); durable = c.in-Ok.ensures.settled.0; cells = c.self.invariant.cells; frames_are = c.self.invariant.frames_are }

pub invariant_of-self-in-Err : goal.invariant_of-self-in-Err
invariant_of-self-in-Err g c =
    let running = c.self.invariant.kept.fails (ap (λ (s : State). s.failed) (state_is c.self.view_is) ∙ c.in_ok-check_running.ensures.running) in
    record { kept = kept_device _ _ c.force.new.self.failed _ _ c.force.new.self.reserved c.force.new.self.forced true c.force.new.self.records c.self.invariant.kept c.in-Err.ensures.records c.in-Err.ensures.reserved (λ e. absurd (true≢false e)); durable = rw (c.in-Err.ensures.as_before.1) c.self.invariant.durable; cells = c.self.invariant.cells; frames_are = c.self.invariant.frames_are }

pub returns-in-Ok-clause-answered : goal.returns-in-Ok-clause-answered
returns-in-Ok-clause-answered g c h earlier long =
    let running = ap (λ (s : State). s.failed) (state_is c.self.view_is) ∙ c.in_ok-check_running.ensures.running in
    λ k. rw (c.in-Ok.ensures.ok.1, c.in-Ok.ensures.ok.0, c.in-Ok.ensures.records) (force_inside earlier (state_is c.self.view_is) long running k)

pub returns-in-Err-clause-answered : goal.returns-in-Err-clause-answered
returns-in-Err-clause-answered g c h earlier long k =
    let running = c.self.invariant.kept.fails (ap (λ (s : State). s.failed) (state_is c.self.view_is) ∙ c.in_ok-check_running.ensures.running) in
    let still = ap (λ (s : State). s.failed) (state_is c.self.view_is) ∙ c.in_ok-check_running.ensures.running in
    let why = (c.in-Err.ensures.err running).0 in
    (rw why (from_inside_on earlier (state_is c.self.view_is) long (λ as_many k. rw (c.in-Err.ensures.records, c.in-Err.ensures.as_before.0) (failed_steps _ k still _)) k), rw why refl)

pub returns-in_err-check_running-clause-fit : goal.returns-in_err-check_running-clause-fit
returns-in_err-check_running-clause-fit g c =
    none_fit g.P.PageDevice g.L.LogDevice g.met.P.PageDevice.only_now g.met.L.LogDevice.only_now c.args.self.now (c.shows_kept.ensures.spelled, c.shows_kept.ensures.based) c.shows_kept.ensures.leaves

pub returns-in-Ok-clause-fit : goal.returns-in-Ok-clause-fit
returns-in-Ok-clause-fit g c =
    log_fit g.P.PageDevice g.L.LogDevice g.met.P.PageDevice.only_now g.met.L.LogDevice.only_now c.args.self.now _ (c.shows_kept.ensures.spelled, c.shows_kept.ensures.based) c.shows_kept.ensures.leaves
    _ c.self.view_is refl refl c.in-Ok.ensures.records (inr (c.in-Ok.ensures.ok.1 ∙ c.in-Ok.ensures.ok.0 ∙ ap length c.in-Ok.ensures.records)) c.in-Ok.ensures.honest (λ none h. c.in-Ok.ensures.any_moment h (c.self.invariant.durable, none_tried _ none))

pub returns-in-Err-clause-fit : goal.returns-in-Err-clause-fit
returns-in-Err-clause-fit g c =
    log_fit g.P.PageDevice g.L.LogDevice g.met.P.PageDevice.only_now g.met.L.LogDevice.only_now c.args.self.now _ (c.shows_kept.ensures.spelled, c.shows_kept.ensures.based) c.shows_kept.ensures.leaves
    _ c.self.view_is refl refl c.in-Err.ensures.records (inl c.in-Err.ensures.as_before.0) c.in-Err.ensures.honest (λ none h. c.in-Err.ensures.any_moment h (c.self.invariant.durable, none_tried _ none))
