use Rattle.std.proofs.Common.{[], ◌∷◌, ◌++◌, ap, ◌∙◌}
use Rattle.rq_restart.specs.declared.places.Place.{Place}
use Rattle.rq_restart.specs.Places.{place_at}
use Rattle.rq_restart.proofs.Placing.{as_was, none_left, none_more, one_more}
use Rattle.rq_restart.proofs.places.take_end.Goals as goal

pub returns-in-PageOp : goal.returns-in-PageOp
returns-in-PageOp c = rw c.in-PageOp.is (as_was c.args.ends.now.items)

pub returns-in-PageUndo : goal.returns-in-PageUndo
returns-in-PageUndo c = rw c.in-PageUndo.is (as_was c.args.ends.now.items)

pub returns-in-OpEnd : goal.returns-in-OpEnd
returns-in-OpEnd c = rw c.in-OpEnd.is (c.push_reserved.ensures.items ∙ ap (λ (p : Place). c.args.ends.now.items ++ p ∷ []) c.stands.ensures ∙ one_more c.args.ends.now.items (place_at c.args.lsn c.args.place c.in-OpEnd.txn c.in-OpEnd.operation))

pub returns-in-OpVoid : goal.returns-in-OpVoid
returns-in-OpVoid c = rw c.in-OpVoid.is (as_was c.args.ends.now.items)

pub returns-in-CompEnd : goal.returns-in-CompEnd
returns-in-CompEnd c = rw c.in-CompEnd.is (as_was c.args.ends.now.items)

pub returns-in-Commit : goal.returns-in-Commit
returns-in-Commit c = rw c.in-Commit.is (c.end_transaction.ensures ∙ none_more _)

pub returns-in-AbortEnd : goal.returns-in-AbortEnd
returns-in-AbortEnd c = rw c.in-AbortEnd.is (c.end_transaction-in-AbortEnd.ensures ∙ none_more _)

pub returns-in-Restart : goal.returns-in-Restart
returns-in-Restart c = rw c.in-Restart.is (as_was c.args.ends.now.items)

pub returns-in-Base : goal.returns-in-Base
returns-in-Base c = rw c.in-Base.is (c.clear.ensures.items ∙ none_left c.args.ends.now.items)
