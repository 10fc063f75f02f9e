use Rattle.rq_level.specs.Writes.{with_plan}
use Rattle.rq_level.proofs.OneLevel.{one_answered, one_changed}
use Rattle.rq_level.proofs.levels.Levels.undo.Goals as goal

pub returns-clause-answer : goal.returns-clause-answer
returns-clause-answer g c = one_answered g.B.Level.kept g.B.Level.level c.self.inside.all.items c.args.level c.index_mut-it.result.now c.undo.new.self c.args.self.now
    (λ m k l. m.undoes k c.args.record.now c.args.given.now c.args.latched.now.pages (with_plan c.undo.new.plan c.undo.result) l)
    c.self.view_is c.index_mut-it.ensures.value c.requires.level c.self.invariant.0 c.undo.ensures.answer

pub returns-clause-others : goal.returns-clause-others
returns-clause-others g c = one_changed g.B.Level.kept c.self.inside.all.items c.args.level c.undo.new.self c.args.self.now c.self.view_is c.requires.level
