use Rattle.std.proofs.Common.{refl}
use Rattle.rq_core.proofs.world.ask.Goals as goal

pub returns : goal.returns
returns g c = λ course x is. record { event = c.args.event.now; told = c.apply-answer.result; call_is = is; reply_is = refl; applied = c.apply-answer.ensures.applied }
