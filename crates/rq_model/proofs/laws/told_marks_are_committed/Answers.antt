use Rattle.rq_model.proofs.Shown.{told_marks}
use Rattle.rq_model.proofs.laws.told_marks_are_committed.Goals as goal

pub returns : goal.returns
returns c = told_marks
