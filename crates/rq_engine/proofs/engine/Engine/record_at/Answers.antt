use Rattle.std.proofs.lemmas.Result.{IfErr-weaker, IfOk-weaker}
use Rattle.rq_store.specs.State.{owed_by}
use Rattle.rq_engine.proofs.Told.{log_fits, not_told}
use Rattle.rq_engine.proofs.engine.Engine.record_at.Goals as goal

pub returns-clause-found : goal.returns-clause-found
returns-clause-found g c =
    let s = c.self.inside in
    let fits = log_fits s.log.records (owed_by s.transactions) c.shows_kept.ensures.log.spelled c.self.invariant.kept.count in
    rw (← c.self.view_is) (IfOk-weaker c.record_at.result _ _ (λ found stands honest. stands honest fits) c.record_at.ensures.found)

pub returns-clause-refusal : goal.returns-clause-refusal
returns-clause-refusal g c =
    let s = c.self.inside in
    let fits = log_fits s.log.records (owed_by s.transactions) c.shows_kept.ensures.log.spelled c.self.invariant.kept.count in
    let running = rw (← c.self.view_is) at c.in_ok-check_running.ensures.running in
    rw (← c.self.view_is) (IfErr-weaker c.record_at.result _ _ (λ e h. not_told g.L.LogDevice _ _ c.args.place e running fits h) (c.record_at.ensures.err (c.self.invariant.kept.fails running)))
