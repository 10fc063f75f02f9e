use Rattle.rq_engine.proofs.operations.under_way.Goals as goal
use Rattle.rq_engine.proofs.operations.under_way.Goals.{in_default-via-in-Some+else-operation-sub, in_default-via-in_default}

pub returns-in_default : goal.returns-in_default
returns-in_default c = elim c.in_default.branch [
  | in_default-via-in-Some+else-operation-sub w ↦ rw (c.in_ok-row.ensures.found, w.in-Some.is) w.if-operation-sub.false
  | in_default-via-in_default w ↦ rw (c.in_ok-row.ensures.found, w.in_default.is) tt
]
