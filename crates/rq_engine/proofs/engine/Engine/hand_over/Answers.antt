use Rattle.std.proofs.Common.{ap, ◌∙◌, refl, true, inl}
use Rattle.std.proofs.lemmas.Bool.{true≢false}
use Rattle.rq_store.specs.State.{State}
use Rattle.rq_engine.proofs.Standing.{hand_over_steps, failed_steps}
use Rattle.rq_engine.proofs.Keeping.{kept_device}
use Rattle.rq_engine.proofs.Crashing.{log_fit, none_fit}
use Rattle.rq_engine.proofs.Opened.{none_tried, state_is}
use Rattle.rq_engine.proofs.Earlier.{from_inside_on}
use Rattle.rq_engine.proofs.engine.Engine.hand_over.Goals as goal

pub invariant_of-self : goal.invariant_of-self
invariant_of-self g c =
    let running = ap (λ (s : State). s.failed) (state_is c.self.view_is) ∙ c.in_ok-check_running.ensures.running in
    record { kept = kept_device _ _ c.hand_over.new.self.failed _ _ c.hand_over.new.self.reserved c.hand_over.new.self.forced c.self.inside.failed c.hand_over.new.self.records c.self.invariant.kept c.in-Ok.ensures.records c.in-Ok.ensures.reserved (λ e. c.in-Ok.ensures.ok.0); durable = rw (c.in-Ok.ensures.settled) c.self.invariant.durable; cells = c.self.invariant.cells; frames_are = c.self.invariant.frames_are }

pub invariant_of-self-in-Err : goal.invariant_of-self-in-Err
invariant_of-self-in-Err g c =
    let running = c.self.invariant.kept.fails (ap (λ (s : State). s.failed) (state_is c.self.view_is) ∙ c.in_ok-check_running.ensures.running) in
    record { kept = kept_device _ _ c.hand_over.new.self.failed _ _ c.hand_over.new.self.reserved c.hand_over.new.self.forced true c.hand_over.new.self.records c.self.invariant.kept c.in-Err.ensures.records c.in-Err.ensures.reserved (λ e. absurd (true≢false e)); durable = rw (c.in-Err.ensures.settled) c.self.invariant.durable; cells = c.self.invariant.cells; frames_are = c.self.invariant.frames_are }

pub returns-in-Ok-clause-answered : goal.returns-in-Ok-clause-answered
returns-in-Ok-clause-answered g c h earlier long =
    let running = ap (λ (s : State). s.failed) (state_is c.self.view_is) ∙ c.in_ok-check_running.ensures.running in
    from_inside_on earlier (state_is c.self.view_is) long (λ as_many k. rw (c.in-Ok.ensures.records, c.in-Ok.ensures.forced) (hand_over_steps _ k running))

pub returns-in-Err-clause-answered : goal.returns-in-Err-clause-answered
returns-in-Err-clause-answered g c h earlier long k =
    let running = c.self.invariant.kept.fails (ap (λ (s : State). s.failed) (state_is c.self.view_is) ∙ c.in_ok-check_running.ensures.running) in
    let still = ap (λ (s : State). s.failed) (state_is c.self.view_is) ∙ c.in_ok-check_running.ensures.running in
    let why = (c.in-Err.ensures.err running).0 in
    (rw why (from_inside_on earlier (state_is c.self.view_is) long (λ as_many k. rw (c.in-Err.ensures.records, c.in-Err.ensures.forced) (failed_steps _ k still _)) k), rw why refl)

pub returns-in_err-check_running-clause-fit : goal.returns-in_err-check_running-clause-fit
returns-in_err-check_running-clause-fit g c =
    none_fit g.P.PageDevice g.L.LogDevice g.met.P.PageDevice.only_now g.met.L.LogDevice.only_now c.args.self.now (c.shows_kept.ensures.spelled, c.shows_kept.ensures.based) c.shows_kept.ensures.leaves

pub returns-in-Ok-clause-fit : goal.returns-in-Ok-clause-fit
returns-in-Ok-clause-fit g c =
    log_fit g.P.PageDevice g.L.LogDevice g.met.P.PageDevice.only_now g.met.L.LogDevice.only_now c.args.self.now _ (c.shows_kept.ensures.spelled, c.shows_kept.ensures.based) c.shows_kept.ensures.leaves
    _ c.self.view_is refl refl c.in-Ok.ensures.records (inl c.in-Ok.ensures.forced) c.in-Ok.ensures.honest (λ none h. c.in-Ok.ensures.any_moment h (c.self.invariant.durable, none_tried _ none))

pub returns-in-Err-clause-fit : goal.returns-in-Err-clause-fit
returns-in-Err-clause-fit g c =
    log_fit g.P.PageDevice g.L.LogDevice g.met.P.PageDevice.only_now g.met.L.LogDevice.only_now c.args.self.now _ (c.shows_kept.ensures.spelled, c.shows_kept.ensures.based) c.shows_kept.ensures.leaves
    _ c.self.view_is refl refl c.in-Err.ensures.records (inl c.in-Err.ensures.forced) c.in-Err.ensures.honest (λ none h. c.in-Err.ensures.any_moment h (c.self.invariant.durable, none_tried _ none))
