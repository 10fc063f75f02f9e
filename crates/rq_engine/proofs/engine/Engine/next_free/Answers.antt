use Rattle.std.proofs.Common.{◌≡◌, ◌≤◌, ◌<◌, ℕ, false, subst}
use Rattle.std.specs.Option.{IfSome, IfNone}
use Rattle.rq_model.specs.declared.txn.Txn.{Txn}
use Rattle.rq_groups.specs.Ends.{is_held}
use Rattle.rq_groups.specs.Waiting.{waits}
use Rattle.rq_store.specs.State.{State}
use Rattle.rq_store.specs.Plans.{WaitsFor}
use Rattle.rq_engine.proofs.Free.{free_first, free_waits}
use Rattle.rq_engine.proofs.Opened.{state_is}
use Rattle.rq_engine.proofs.engine.Engine.next_free.Goals as goal

pub returns-clause-waits : goal.returns-clause-waits
returns-clause-waits g c =
    subst (λ (s : State). IfSome c.next_free.result (λ sender. (t : Txn) → WaitsFor s t sender)) (state_is c.self.view_is)
    (free_waits _ c.self.inside.waiting c.self.inside.ends.receiving c.args.from c.next_free.result c.self.invariant.kept.senders c.next_free.ensures.some)

pub returns-clause-first : goal.returns-clause-first
returns-clause-first g c =
    subst (λ (s : State). IfSome c.next_free.result (λ sender. (c.args.from ≤ sender) × ((e : ℕ) → c.args.from ≤ e → e < sender → is_held e s.ends.receiving ≡ false → waits s.waiting e ≡ 0))) (state_is c.self.view_is)
    (free_first c.self.inside.waiting c.self.inside.ends.receiving c.args.from c.next_free.result c.next_free.ensures.some)

pub returns-clause-none : goal.returns-clause-none
returns-clause-none g c =
    subst (λ (s : State). IfNone c.next_free.result ((e : ℕ) → c.args.from ≤ e → is_held e s.ends.receiving ≡ false → waits s.waiting e ≡ 0)) (state_is c.self.view_is) c.next_free.ensures.none
