use Rattle.rq_core.proofs.Exact.{exact, shows_rest}
use Rattle.rq_core.proofs.laws.always.Goals as goal

pub returns-clause-none : goal.returns-clause-none
returns-clause-none c = λ size. exact size (c.shown_is_committed.ensures size)

pub returns-clause-rest : goal.returns-clause-rest
returns-clause-rest c = λ size. shows_rest size (c.shown_is_committed.ensures size)
