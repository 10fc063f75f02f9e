use Rattle.rq_level.proofs.OneLevel.{one_noted}
use Rattle.rq_level.proofs.levels.Levels.tell.Goals as goal

pub returns : goal.returns
returns g c = one_noted g.B.Level.kept g.B.Level.level c.self.inside.all.items c.args.level c.index_mut-it.result.now c.noted.new.self c.args.self.now
    (λ m k. m.note k c.args.at c.args.bytes.now)
    c.self.view_is c.index_mut-it.ensures.value c.requires c.self.invariant.0 c.noted.ensures.kept
