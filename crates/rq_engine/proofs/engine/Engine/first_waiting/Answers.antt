use Rattle.std.proofs.Common.{subst}
use Rattle.std.specs.Option.{IfNone, IfSome}
use Rattle.rq_store.specs.State.{State}
use Rattle.rq_store.specs.Plans.{NoneWaits, WaitsFor}
use Rattle.rq_engine.proofs.Free.{none_waits, some_waits}
use Rattle.rq_engine.proofs.Opened.{state_is}
use Rattle.rq_engine.proofs.engine.Engine.first_waiting.Goals as goal

pub returns-clause-none : goal.returns-clause-none
returns-clause-none g c =
    subst (λ (s : State). IfNone c.first_for.result (NoneWaits s c.args.txn)) (state_is c.self.view_is)
    (none_waits _ c.self.inside.waiting c.self.inside.ends.receiving c.args.txn c.first_for.result c.self.invariant.kept.senders c.first_for.ensures.none)

pub returns-clause-waits : goal.returns-clause-waits
returns-clause-waits g c =
    subst (λ (s : State). IfSome c.first_for.result (λ sender. WaitsFor s c.args.txn sender)) (state_is c.self.view_is)
    (some_waits _ c.self.inside.waiting c.self.inside.ends.receiving c.args.txn c.first_for.result c.self.invariant.kept.senders c.first_for.ensures.some)
