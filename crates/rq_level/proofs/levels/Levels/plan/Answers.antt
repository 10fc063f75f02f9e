use Rattle.rq_level.specs.Writes.{with_plan}
use Rattle.rq_level.proofs.OneLevel.{one_answered, one_changed}
use Rattle.rq_level.proofs.levels.Levels.plan.Goals as goal

pub returns-clause-answer : goal.returns-clause-answer
returns-clause-answer g c = one_answered g.B.Level.kept g.B.Level.level c.self.inside.all.items c.args.level c.index_mut-it.result.now c.plan.new.self c.args.self.now
    (λ m k l. m.plans k c.args.op.now c.args.given.now c.args.latched.now.pages (with_plan c.plan.new.plan c.plan.result) l)
    c.self.view_is c.index_mut-it.ensures.value c.requires.level c.self.invariant.0 c.plan.ensures.answer

pub returns-clause-others : goal.returns-clause-others
returns-clause-others g c = one_changed g.B.Level.kept c.self.inside.all.items c.args.level c.plan.new.self c.args.self.now c.self.view_is c.requires.level
