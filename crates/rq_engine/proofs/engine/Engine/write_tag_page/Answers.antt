use Rattle.std.proofs.Common.{refl, true}
use Rattle.std.proofs.lemmas.Bool.{true≢false}
use Rattle.rq_engine.proofs.Checkpointing.{kept_of_others}
use Rattle.rq_engine.proofs.Crashing.{behind_fit}
use Rattle.rq_engine.proofs.Keeping.{kept_device}
use Rattle.rq_engine.proofs.Migrating.{handed}
use Rattle.rq_engine.proofs.engine.Engine.write_tag_page.Goals as goal

pub invariant_of-self-in-Err : goal.invariant_of-self-in-Err
invariant_of-self-in-Err g c =
    rw (c.in-Err.ensures.same) (record {
      kept = kept_device _ _ _ _ _ _ c.self.inside.log.forced true _ c.self.invariant.kept refl refl (λ e. absurd (true≢false e));
      durable = c.self.invariant.durable;
      cells = c.self.invariant.cells;
      frames_are = c.self.invariant.frames_are;
    })

pub returns-in-Ok-clause-fit : goal.returns-in-Ok-clause-fit
returns-in-Ok-clause-fit g c =
    let w = c.in-Ok.ensures.device in
    behind_fit g.P.PageDevice g.L.LogDevice g.met.P.PageDevice.only_now g.met.L.LogDevice.only_now c.args.self.now _ (c.shows_kept.ensures.spelled, c.shows_kept.ensures.based) c.shows_kept.ensures.leaves
    c.args.page w.0 c.requires.behind (rw (← c.self.view_is) w.3) (rw (← c.self.view_is, c.in-Ok.ensures.same) refl) (rw (← c.self.view_is) refl) (rw (← c.self.view_is) refl) (rw (← c.self.view_is) refl)

pub returns-in-Err-clause-fit : goal.returns-in-Err-clause-fit
returns-in-Err-clause-fit g c =
    let w = handed g.P.PageDevice c.args.grown.now c.args.page _ _ c.in-Err.refusal c.in-Err.ensures.err c.in-Err.ensures.device in
    behind_fit g.P.PageDevice g.L.LogDevice g.met.P.PageDevice.only_now g.met.L.LogDevice.only_now c.args.self.now _ (c.shows_kept.ensures.spelled, c.shows_kept.ensures.based) c.shows_kept.ensures.leaves
    c.args.page w.0 c.requires.behind (rw (← c.self.view_is) w.1) (rw (← c.self.view_is, c.in-Err.ensures.same) refl) (rw (← c.self.view_is) refl) (rw (← c.self.view_is) refl) (rw (← c.self.view_is) refl)

pub returns-in-Ok-clause-others : goal.returns-in-Ok-clause-others
returns-in-Ok-clause-others g c =
    let w = c.in-Ok.ensures.device in
    rw (← c.self.view_is) (λ other ne. (w.3.others other ne, kept_of_others g.P.PageDevice c.args.page w.0 _ _ w.3 other ne))

pub returns-in-Err-clause-others : goal.returns-in-Err-clause-others
returns-in-Err-clause-others g c =
    let w = handed g.P.PageDevice c.args.grown.now c.args.page _ _ c.in-Err.refusal c.in-Err.ensures.err c.in-Err.ensures.device in
    rw (← c.self.view_is) (λ other ne. (w.1.others other ne, kept_of_others g.P.PageDevice c.args.page w.0 _ _ w.1 other ne))
