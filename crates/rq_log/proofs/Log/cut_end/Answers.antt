use Rattle.rq_log.proofs.Kept.{cut_kept, uncut_kept, cut_adds, cut_moments, was_cut, none_cut}
use Rattle.rq_log.proofs.Moments.{started}
use Rattle.rq_log.proofs.Log.cut_end.Goals as goal

pub returns-in_default-clause-reads : goal.returns-in_default-clause-reads
returns-in_default-clause-reads g c =
    rw (← c.self.view_is) (λ h. none_cut g.L.LogDevice _ _ c.self.inside.buffer.items _ c.self.invariant (rw (← c.self.view_is) at c.requires) c.in_default.is h)

pub returns-in_default-clause-any_moment : goal.returns-in_default-clause-any_moment
returns-in_default-clause-any_moment g c =
    let d = c.self.inside.device in
    rw (← c.self.view_is) (λ h was. started g.L.LogDevice d _ (λ b left. c.self.invariant.is_log.leaves h was b (g.met.L.LogDevice.only_now d b left)))

pub invariant_of-self : goal.invariant_of-self
invariant_of-self g c =
    cut_kept g.L.LogDevice _ _ c.self.inside.buffer.items _ c.self.invariant (rw (← c.self.view_is) at c.requires) c.in-Some.end c.in-Some.is c.cut.new.self c.cut.ensures.honest c.cut.ensures.crash c.in-Ok.ensures.left

pub invariant_of-self-in-Err : goal.invariant_of-self-in-Err
invariant_of-self-in-Err g c =
    uncut_kept g.L.LogDevice _ _ c.self.inside.buffer.items _ c.self.invariant (rw (← c.self.view_is) at c.requires) c.in-Some.end c.in-Some.is c.cut.new.self c.cut.ensures.honest c.cut.ensures.crash

pub returns-in-Ok-clause-left : goal.returns-in-Ok-clause-left
returns-in-Ok-clause-left g c =
    rw (← c.self.view_is) (cut_adds g.L.LogDevice _ _ c.self.inside.buffer.items _ c.self.invariant (rw (← c.self.view_is) at c.requires) c.in-Some.end c.in-Some.is c.cut.new.self c.cut.ensures.honest c.cut.ensures.crash (g.met.L.LogDevice.only_now c.self.inside.device) c.cut.ensures.time)

pub returns-in-Ok-clause-reads : goal.returns-in-Ok-clause-reads
returns-in-Ok-clause-reads g c =
    rw (← c.self.view_is) (was_cut g.L.LogDevice _ _ c.self.inside.buffer.items _ c.self.invariant (rw (← c.self.view_is) at c.requires) c.in-Some.end c.in-Some.is c.cut.new.self c.cut.ensures.honest c.cut.ensures.crash c.in-Ok.ensures.left)

pub returns-in-Ok-clause-any_moment : goal.returns-in-Ok-clause-any_moment
returns-in-Ok-clause-any_moment g c =
    rw (← c.self.view_is) (cut_moments g.L.LogDevice _ _ c.self.inside.buffer.items _ c.self.invariant (rw (← c.self.view_is) at c.requires) c.in-Some.end c.in-Some.is c.cut.new.self c.cut.ensures.honest c.cut.ensures.crash (g.met.L.LogDevice.only_now c.self.inside.device) c.cut.ensures.time)

pub returns-in-Err-clause-left : goal.returns-in-Err-clause-left
returns-in-Err-clause-left g c =
    rw (← c.self.view_is) (cut_adds g.L.LogDevice _ _ c.self.inside.buffer.items _ c.self.invariant (rw (← c.self.view_is) at c.requires) c.in-Some.end c.in-Some.is c.cut.new.self c.cut.ensures.honest c.cut.ensures.crash (g.met.L.LogDevice.only_now c.self.inside.device) c.cut.ensures.time)

pub returns-in-Err-clause-any_moment : goal.returns-in-Err-clause-any_moment
returns-in-Err-clause-any_moment g c =
    rw (← c.self.view_is) (cut_moments g.L.LogDevice _ _ c.self.inside.buffer.items _ c.self.invariant (rw (← c.self.view_is) at c.requires) c.in-Some.end c.in-Some.is c.cut.new.self c.cut.ensures.honest c.cut.ensures.crash (g.met.L.LogDevice.only_now c.self.inside.device) c.cut.ensures.time)
