use Rattle.std.proofs.Common.{◌≡◌, ◌<◌, ◌≤◌, length, sym, subst, arith}
use Rattle.rq_store.specs.State.{State}
use Rattle.rq_engine.specs.Answers.{IsNotUnderWay, ending_of}
use Rattle.rq_engine.proofs.Calls.{under_is}
use Rattle.rq_engine.proofs.Opened.{state_is}
use Rattle.rq_engine.proofs.engine.Engine.ready.Goals as goal

pub returns-in_default-clause-refused : goal.returns-in_default-clause-refused
returns-in_default-clause-refused g c =
    (c.in_ok-check_running.ensures.running, subst (λ (s : State). IsNotUnderWay s c.args.sub) (state_is c.self.view_is) c.in_default.ensures)

pub returns-then-operation-len-clause-refused : goal.returns-then-operation-len-clause-refused
returns-then-operation-len-clause-refused g c =
    (c.in_ok-check_running.ensures.running, under_is _ _ (state_is c.self.view_is) c.args.sub _ c.in-Some.ensures (λ u. u.made < length u.writes) (omega arith))

pub returns-clause-ready : goal.returns-clause-ready
returns-clause-ready g c =
    under_is _ _ (state_is c.self.view_is) c.args.sub _ c.in-Some.ensures (λ u. (length u.writes ≤ u.made) × (ending_of u.aim ≡ c.ending_of.result)) (omega arith, sym c.ending_of.ensures)
