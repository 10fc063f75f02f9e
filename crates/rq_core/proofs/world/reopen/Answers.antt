use Rattle.std.proofs.Common.{refl, subst, sym}
use Rattle.rq_core.specs.Happenings.{MayRestart}
use Rattle.rq_core.proofs.world.reopen.Goals as goal

pub returns-in-Err-clause-happened : goal.returns-in-Err-clause-happened
returns-in-Err-clause-happened g c = λ course x is. (subst (MayRestart course) (sym is) refl, c.in-Err.ensures.refused)

pub returns-in-Ok-clause-happened : goal.returns-in-Ok-clause-happened
returns-in-Ok-clause-happened g c = λ course x is. (subst (MayRestart course) (sym is) refl, c.in-Ok.ensures.opened)
