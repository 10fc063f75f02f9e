use Rattle.std.proofs.lemmas.Bool.{true≢false}
use Rattle.rq_chain.proofs.level.ChainLevelLevel.keeps.Goals as goal

pub returns : goal.returns
returns c = λ e. absurd (true≢false e)
