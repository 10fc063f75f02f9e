use Rattle.std.proofs.Common.{refl}
use Rattle.rq_core.proofs.world.not_open.Goals as goal

pub returns : goal.returns
returns g c = λ call course x is. (record { made = call; call_is = is; reply_is = refl }, refl)
