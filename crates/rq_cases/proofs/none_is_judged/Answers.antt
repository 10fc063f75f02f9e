use Rattle.rq_cases.proofs.Courses.{nones}
use Rattle.rq_cases.proofs.none_is_judged.Goals as goal

pub returns : goal.returns
returns c = nones c.shown_is_committed.ensures
