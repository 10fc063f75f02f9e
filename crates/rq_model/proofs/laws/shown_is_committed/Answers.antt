use Rattle.rq_model.proofs.Shown.{group_are}
use Rattle.rq_model.proofs.laws.shown_is_committed.Goals as goal

pub returns : goal.returns
returns c = group_are
