use Rattle.std.proofs.Common.{sym, ◌∙◌}
use Rattle.rq_laws.proofs.Told.{redone_alike}
use Rattle.rq_laws.proofs.levels.redoes.Goals as goal

pub returns : goal.returns
returns g c =
    let both = redone_alike _ _ _ _ _ _ _ _ c.requires.same c.redo.ensures.page c.redo-2.ensures.page in
    record {
      applied = both.0;
      pages = both.1;
      kept = λ e. c.redo.ensures.kept ∙ e ∙ sym c.redo-2.ensures.kept;
    }
