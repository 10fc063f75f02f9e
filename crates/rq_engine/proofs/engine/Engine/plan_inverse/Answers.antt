use Rattle.std.proofs.Common.{IfOk, List, inr, length, refl, subst}
use Rattle.std.proofs.lemmas.Result.{IfOk-weaker}
use Rattle.rq_views.specs.InStore.{IsDeedOf}
use Rattle.rq_level.specs.Asked.{job_back}
use Rattle.rq_level.specs.Writes.{with_plan}
use Rattle.rq_txn.specs.Rows.{Row}
use Rattle.rq_store.specs.State.{State}
use Rattle.rq_planner.specs.Answered.{IsAnsweredBack, IsPlanned, level_back}
use Rattle.rq_planner.specs.Asked.{known_from}
use Rattle.rq_planner.specs.Asked.Asked.{Undo}
use Rattle.rq_planner.specs.Backs.{CanBeTakenBack}
use Rattle.rq_planner.specs.Lawful.{IsLawfulInverse}
use Rattle.rq_planner.proofs.Asking.{asks_back, has_place}
use Rattle.rq_planner.proofs.Knowing.{is_one}
use Rattle.rq_planner.proofs.Readings.{knows_read}
use Rattle.rq_level.proofs.EachLevel.{all_lawful}
use Rattle.rq_engine.specs.Plans.{LevelsAnswer, known_part, to_undo}
use Rattle.rq_engine.proofs.Keeping.{kept_read}
use Rattle.rq_engine.proofs.KeptUp.{plan_counts, plan_reads}
use Rattle.rq_engine.proofs.Leveled.{few_back}
use Rattle.rq_engine.proofs.Opened.{state_is}
use Rattle.rq_sound.specs.Groups.{slots_now}
use Rattle.rq_sound.specs.Plans.{AreUnlatched}
use Rattle.rq_engine.proofs.engine.Engine.plan_inverse.Goals as goal

pub plan_inverse-requires-clause-known : goal.plan_inverse-requires-clause-known
plan_inverse-requires-clause-known g c = c.self.invariant.cells

pub plan_inverse-requires-clause-level : goal.plan_inverse-requires-clause-level
plan_inverse-requires-clause-level g c =
    let told = c.args.told.now in
    is_one c.self.inside.pages.sizes c.self.inside.pages.images c.self.inside.planner (level_back told) c.self.invariant.cells ((all_lawful (level_back told)).reads (job_back told).bytes c.requires.reads)

-- pages were perhaps read
pub invariant_of-self : goal.invariant_of-self
invariant_of-self g c =
    let read = c.plan_inverse.ensures.read.read in
    record {
      kept = rw (c.spare.ensures, (read.kept 0).sizes) (kept_read c.plan_inverse.new.pages.images c.self.invariant.kept);
      durable = c.self.invariant.durable;
      cells = rw (c.plan_inverse.ensures.same) (knows_read g.P.PageDevice c.self.inside.pages c.plan_inverse.new.pages c.self.inside.planner read c.self.invariant.cells);
      frames_are = rw (c.spare.ensures, read.frames) c.self.invariant.frames_are;
    }

pub returns-clause-answered : goal.returns-clause-answered
returns-clause-answered g c given =
    subst (λ (s : State). LevelsAnswer s (to_undo c.args.told.now) (with_plan c.plan_inverse.new.plan c.plan_inverse.result)) (state_is c.self.view_is) (record {
      levels = c.self.inside.planner;
      knows = c.self.invariant.cells;
      answered = subst (λ (rows : List Row). IsAnsweredBack (known_from c.self.inside.pages rows) c.self.inside.planner c.args.told.now (with_plan c.plan_inverse.new.plan c.plan_inverse.result)) c.spare.ensures (c.plan_inverse.ensures.answered (inr given.0, given.1));
    })

pub returns-clause-lawful : goal.returns-clause-lawful
returns-clause-lawful g c = subst (λ (s : State). IfOk (with_plan c.plan_inverse.new.plan c.plan_inverse.result) (IsLawfulInverse s.sizes)) (state_is c.self.view_is) (c.plan_inverse.ensures.lawful c.requires.reads)

pub returns-clause-free : goal.returns-clause-free
returns-clause-free g c =
    subst (λ (s : State). IfOk (with_plan c.plan_inverse.new.plan c.plan_inverse.result) (λ p. AreUnlatched s p.writes.items)) (state_is c.self.view_is)
    (subst (λ (rows : List Row). IfOk (with_plan c.plan_inverse.new.plan c.plan_inverse.result) (λ p. AreUnlatched (known_from c.self.inside.pages rows) p.writes.items)) c.spare.ensures (c.plan_inverse.ensures.free c.requires.reads))

pub returns-clause-planned : goal.returns-clause-planned
returns-clause-planned g c given d told =
    subst (λ (s : State). IsDeedOf s.sizes d → IsPlanned (known_part s) (Undo d) (with_plan c.plan_inverse.new.plan c.plan_inverse.result)) (state_is c.self.view_is)
    (subst (λ (rows : List Row). IsDeedOf c.self.inside.pages.sizes d → IsPlanned (known_from c.self.inside.pages rows) (Undo d) (with_plan c.plan_inverse.new.plan c.plan_inverse.result)) c.spare.ensures (λ own. c.plan_inverse.ensures.planned (inr given.0, given.1) (Undo d) (asks_back c.args.told.now d told) (has_place c.self.inside.pages.sizes d own)))

pub returns-clause-can : goal.returns-clause-can
returns-clause-can g c given d told =
    subst (λ (s : State). IfOk (with_plan c.plan_inverse.new.plan c.plan_inverse.result) (λ p. CanBeTakenBack s.sizes (slots_now s) d)) (state_is c.self.view_is)
    (IfOk-weaker (with_plan c.plan_inverse.new.plan c.plan_inverse.result) _ _ (λ p can. can) (c.plan_inverse.ensures.judged (inr given.0, given.1) d told).can)

pub returns-clause-read : goal.returns-clause-read
returns-clause-read g c = plan_reads g.P.PageDevice _ c.args.self.now _ c.self.view_is (rw (c.spare.ensures) refl) refl refl c.plan_inverse.ensures.read.read

pub returns-clause-counts : goal.returns-clause-counts
returns-clause-counts g c = plan_counts g.P.PageDevice _ c.args.self.now _ c.self.view_is c.plan_inverse.result c.plan_inverse.ensures.read c.plan_inverse.ensures.causes

pub returns-clause-few : goal.returns-clause-few
returns-clause-few g c d told = IfOk-weaker (with_plan c.plan_inverse.new.plan c.plan_inverse.result) _ _ (λ p few. few_back d (length p.writes.items) few) (c.plan_inverse.ensures.few d told)
