use Rattle.std.proofs.Common.{[], ◌∷◌, ◌++◌, ap, ◌∙◌}
use Rattle.rq_model.specs.declared.txn.Sub.{Sub}
use Rattle.rq_restart.specs.declared.places.Place.{Place}
use Rattle.rq_restart.specs.Places.{place_at, without_operation}
use Rattle.rq_restart.proofs.Placing.{as_was, none_left, none_more, one_more}
use Rattle.rq_restart.proofs.places.take_write.Goals as goal

pub returns-in-PageOp : goal.returns-in-PageOp
returns-in-PageOp c = rw c.in-PageOp.is (c.push_reserved.ensures.items ∙ ap (λ (p : Place). c.args.writes.now.items ++ p ∷ []) c.stands.ensures ∙ one_more c.args.writes.now.items (place_at c.args.lsn c.args.place c.in-PageOp.txn c.in-PageOp.operation))

pub returns-in-PageUndo : goal.returns-in-PageUndo
returns-in-PageUndo c = rw c.in-PageUndo.is (as_was c.args.writes.now.items)

pub returns-in-OpEnd : goal.returns-in-OpEnd
returns-in-OpEnd c = rw c.in-OpEnd.is (c.end_operation.ensures ∙ ap (λ (o : Sub). without_operation o c.args.writes.now.items) c.sub.ensures ∙ none_more _)

pub returns-in-OpVoid : goal.returns-in-OpVoid
returns-in-OpVoid c = rw c.in-OpVoid.is (c.end_operation-in-OpVoid.ensures ∙ ap (λ (o : Sub). without_operation o c.args.writes.now.items) c.sub-in-OpVoid.ensures ∙ none_more _)

pub returns-in-CompEnd : goal.returns-in-CompEnd
returns-in-CompEnd c = rw c.in-CompEnd.is (c.end_operation-in-CompEnd.ensures ∙ ap (λ (o : Sub). without_operation o c.args.writes.now.items) c.sub-in-CompEnd.ensures ∙ none_more _)

pub returns-in-Commit : goal.returns-in-Commit
returns-in-Commit c = rw c.in-Commit.is (as_was c.args.writes.now.items)

pub returns-in-AbortEnd : goal.returns-in-AbortEnd
returns-in-AbortEnd c = rw c.in-AbortEnd.is (as_was c.args.writes.now.items)

pub returns-in-Restart : goal.returns-in-Restart
returns-in-Restart c = rw c.in-Restart.is (as_was c.args.writes.now.items)

pub returns-in-Base : goal.returns-in-Base
returns-in-Base c = rw c.in-Base.is (c.clear.ensures.items ∙ none_left c.args.writes.now.items)
