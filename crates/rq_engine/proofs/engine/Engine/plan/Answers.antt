use Rattle.std.proofs.lemmas.Result.{IfOk-weaker}
use Rattle.std.proofs.Common.{IfOk, List, inr, refl, subst}
use Rattle.rq_level.specs.Writes.{with_plan}
use Rattle.rq_txn.specs.Rows.{Row}
use Rattle.rq_store.specs.State.{State}
use Rattle.rq_planner.specs.Answered.{IsPlanned}
use Rattle.rq_planner.specs.Asked.{IsTaskOf, known_from}
use Rattle.rq_planner.specs.Asked.Asked.{Do}
use Rattle.rq_planner.specs.Lawful.{IsByOwnLatch, IsLawfulPlan}
use Rattle.rq_planner.proofs.Knowing.{is_one}
use Rattle.rq_planner.proofs.Asking.{asks_to_do, there_is_one}
use Rattle.rq_planner.proofs.Readings.{knows_read}
use Rattle.rq_engine.specs.Plans.{IsOwnPlan, LevelsAnswer, known_part, to_job}
use Rattle.rq_engine.proofs.Keeping.{kept_read}
use Rattle.rq_engine.proofs.KeptUp.{plan_counts, plan_reads}
use Rattle.rq_engine.proofs.Leveled.{own_plan}
use Rattle.rq_engine.proofs.Opened.{state_is}
use Rattle.rq_sound.specs.Plans.{AreUnlatched}
use Rattle.rq_engine.proofs.engine.Engine.plan.Goals as goal

pub plan-requires-clause-known : goal.plan-requires-clause-known
plan-requires-clause-known g c = c.self.invariant.cells

pub plan-requires-clause-level : goal.plan-requires-clause-level
plan-requires-clause-level g c = is_one c.self.inside.pages.sizes c.self.inside.pages.images c.self.inside.planner c.args.op.now.level c.self.invariant.cells (there_is_one c.args.op.now.level c.args.op.now.bytes c.requires.asked)

-- pages were perhaps read
pub invariant_of-self : goal.invariant_of-self
invariant_of-self g c =
    let read = c.plan.ensures.read.read in
    record {
      kept = rw (c.spare.ensures, (read.kept 0).sizes) (kept_read c.plan.new.pages.images c.self.invariant.kept);
      durable = c.self.invariant.durable;
      cells = rw (c.plan.ensures.same) (knows_read g.P.PageDevice c.self.inside.pages c.plan.new.pages c.self.inside.planner read c.self.invariant.cells);
      frames_are = rw (c.spare.ensures, read.frames) c.self.invariant.frames_are;
    }

pub returns-clause-lawful : goal.returns-clause-lawful
returns-clause-lawful g c = subst (λ (s : State). IfOk (with_plan c.plan.new.plan c.plan.result) (IsLawfulPlan s.sizes c.args.op.now.level)) (state_is c.self.view_is) (IfOk-weaker (with_plan c.plan.new.plan c.plan.result) _ _ (λ p is. is.lawful) c.plan.ensures.lawful)

pub returns-clause-free : goal.returns-clause-free
returns-clause-free g c =
    subst (λ (s : State). IfOk (with_plan c.plan.new.plan c.plan.result) (λ p. AreUnlatched s p.writes.items)) (state_is c.self.view_is)
    (subst (λ (rows : List Row). IfOk (with_plan c.plan.new.plan c.plan.result) (λ p. AreUnlatched (known_from c.self.inside.pages rows) p.writes.items)) c.spare.ensures c.plan.ensures.free)

pub returns-clause-planned : goal.returns-clause-planned
returns-clause-planned g c given d asked =
    subst (λ (s : State). IsTaskOf s.sizes d → IsPlanned (known_part s) (Do d) (with_plan c.plan.new.plan c.plan.result)) (state_is c.self.view_is)
    (subst (λ (rows : List Row). IsTaskOf c.self.inside.pages.sizes d → IsPlanned (known_from c.self.inside.pages rows) (Do d) (with_plan c.plan.new.plan c.plan.result)) c.spare.ensures (c.plan.ensures.planned (inr given.0, given.1) (Do d) (asks_to_do c.args.op.now d c.requires.forward asked)))

pub returns-clause-answered : goal.returns-clause-answered
returns-clause-answered g c given =
    subst (λ (s : State). LevelsAnswer s (to_job c.args.op.now) (with_plan c.plan.new.plan c.plan.result)) (state_is c.self.view_is) (record {
      levels = c.self.inside.planner;
      knows = c.self.invariant.cells;
      answered = subst (λ (rows : List Row). to_job c.args.op.now (known_from c.self.inside.pages rows) c.self.inside.planner (with_plan c.plan.new.plan c.plan.result)) c.spare.ensures (c.plan.ensures.answered (inr given.0, given.1));
    })

pub returns-clause-read : goal.returns-clause-read
returns-clause-read g c = plan_reads g.P.PageDevice _ c.args.self.now _ c.self.view_is (rw (c.spare.ensures) refl) refl refl c.plan.ensures.read.read

pub returns-clause-counts : goal.returns-clause-counts
returns-clause-counts g c = plan_counts g.P.PageDevice _ c.args.self.now _ c.self.view_is c.plan.result c.plan.ensures.read c.plan.ensures.causes

pub returns-clause-own : goal.returns-clause-own
returns-clause-own g c d told =
    subst (λ (s : State). IsOwnPlan s d (with_plan c.plan.new.plan c.plan.result)) (state_is c.self.view_is)
    (own_plan _ d c.args.op.now told (with_plan c.plan.new.plan c.plan.result) c.plan.ensures.lawful (subst (λ (rows : List Row). IsByOwnLatch c.self.inside.pages.sizes rows d (with_plan c.plan.new.plan c.plan.result)) c.spare.ensures (c.plan.ensures.latched d told)))
