use Rattle.rq_model.proofs.JudgedMarks.{worked_marks}
use Rattle.rq_model.proofs.laws.marks_are_judged.Goals as goal

pub returns : goal.returns
returns c = worked_marks
