use Rattle.std.proofs.Common.{ap, refl, true}
use Rattle.std.proofs.lemmas.Bool.{true≢false}
use Rattle.rq_disk.specs.Device.{Images}
use Rattle.rq_engine.proofs.Crashing.{sync_fit}
use Rattle.rq_engine.proofs.Keeping.{kept_device}
use Rattle.rq_engine.proofs.engine.Engine.sync_pages.Goals as goal

pub invariant_of-self-in-Err : goal.invariant_of-self-in-Err
invariant_of-self-in-Err g c =
    rw (c.in-Err.ensures.same) (record {
      kept = kept_device _ _ _ _ _ _ c.self.inside.log.forced true _ c.self.invariant.kept refl refl (λ e. absurd (true≢false e));
      durable = c.self.invariant.durable;
      cells = c.self.invariant.cells;
      frames_are = c.self.invariant.frames_are;
    })

pub returns-in-Ok-clause-kept : goal.returns-in-Ok-clause-kept
returns-in-Ok-clause-kept g c = rw (← c.self.view_is) (λ page. (ap (λ (images : Images). images page) c.in-Ok.ensures.device.same, c.in-Ok.ensures.device.crash page))

pub returns-in-Err-clause-kept : goal.returns-in-Err-clause-kept
returns-in-Err-clause-kept g c = rw (← c.self.view_is) (λ page. (ap (λ (images : Images). images page) c.in-Err.ensures.device.same, c.in-Err.ensures.device.crash page))

pub returns-in-Ok-clause-fit : goal.returns-in-Ok-clause-fit
returns-in-Ok-clause-fit g c =
    sync_fit g.P.PageDevice g.L.LogDevice g.met.P.PageDevice.only_now g.met.L.LogDevice.only_now c.args.self.now _ (c.shows_kept.ensures.spelled, c.shows_kept.ensures.based) c.shows_kept.ensures.leaves
    (rw (← c.self.view_is) c.in-Ok.ensures.device) (rw (← c.self.view_is, c.in-Ok.ensures.same) refl) (rw (← c.self.view_is) refl) (rw (← c.self.view_is) refl) (rw (← c.self.view_is) refl)

pub returns-in-Err-clause-fit : goal.returns-in-Err-clause-fit
returns-in-Err-clause-fit g c =
    sync_fit g.P.PageDevice g.L.LogDevice g.met.P.PageDevice.only_now g.met.L.LogDevice.only_now c.args.self.now _ (c.shows_kept.ensures.spelled, c.shows_kept.ensures.based) c.shows_kept.ensures.leaves
    (rw (← c.self.view_is) c.in-Err.ensures.device) (rw (← c.self.view_is, c.in-Err.ensures.same) refl) (rw (← c.self.view_is) refl) (rw (← c.self.view_is) refl) (rw (← c.self.view_is) refl)
