use Rattle.rq_laws.proofs.Planning.{level_undoes}
use Rattle.rq_laws.proofs.levels.undoes.Goals as goal

pub returns : goal.returns
returns g c =
    let both = level_undoes _ _ _ _ _ _ _ _ _ _ _ c.requires.level c.requires.kept c.requires.given c.undo.ensures.answer c.undo-2.ensures.answer in
    record { planned = both.0; kept = both.1 }
