use Rattle.rq_level.proofs.OneLevel.{one_kept}
use Rattle.rq_level.proofs.levels.Levels.redo.Goals as goal

pub returns-clause-kept : goal.returns-clause-kept
returns-clause-kept g c = one_kept g.B.Level.kept c.self.inside.all.items c.args.level c.index_mut-it.result.now c.redo.new.self c.args.self.now c.self.view_is c.index_mut-it.ensures.value c.requires.level c.redo.ensures.kept
