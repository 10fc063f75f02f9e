use Rattle.rq_chain_check.proofs.Sound.{sound_linked}
use Rattle.rq_chain_check.proofs.sound_stores_are_linked.Goals as goal

pub returns : goal.returns
returns c = sound_linked
