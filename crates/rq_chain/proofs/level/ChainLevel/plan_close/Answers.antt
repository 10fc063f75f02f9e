use Rattle.std.proofs.Common.{refl}
use Rattle.rq_chain.proofs.level.ChainLevel.plan_close.Goals as goal

pub returns-clause-ok : goal.returns-clause-ok
returns-clause-ok c = record { marked = c.in_ok-put_closed.ensures.ok _ refl; deed = c.spell_close.ensures.spelled; reads = c.spell_close.ensures.told; reply = refl; kept = refl }
