use Rattle.std.proofs.Common.{◌≡◌, true, false, sym, ◌∙◌}
use Rattle.rq_chain.proofs.Givens.{beside_none}
use Rattle.rq_chain.proofs.given.beside_given.Goals as goal

pub returns-in-None-clause-none : goal.returns-in-None-clause-none
returns-in-None-clause-none c =
    beside_none c.args.layout.now c.args.given.now c.args.at (λ e. let no : false ≡ true = sym c.if-is_none.false ∙ c.is_none.ensures.1 e in cc) c.in-None.ensures.none
