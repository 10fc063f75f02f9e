use Rattle.rq_pool.specs.Fixing.{AreHadTo}
use Rattle.rq_pool.proofs.Pages.bring_all.Given as goal

abbrev pub invariant-loop-place : goal.invariant-loop-place
invariant-loop-place g l = AreHadTo g.P.PageDevice l.forced l.fn.self l.self l.pages l.place
