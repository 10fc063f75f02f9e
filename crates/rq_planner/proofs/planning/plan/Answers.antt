use Rattle.std.proofs.Common.{refl, ◌≡◌, ℕ, slice_set, subst, arith}
use Rattle.rq_level.specs.Meaning.{kept_at, meaning_of}
use Rattle.rq_level.specs.Writes.{with_plan}
use Rattle.rq_pool.proofs.Fetched.{still_read}
use Rattle.rq_planner.specs.Answered.{MayPlan, wants_of}
use Rattle.rq_planner.specs.Asked.{known_from}
use Rattle.rq_planner.proofs.Choosing.{plan_same}
use Rattle.rq_planner.proofs.Gathered.{answered, not_from}
use Rattle.rq_planner.proofs.Knowing.{of_store}
use Rattle.rq_planner.proofs.Latches.{held_by_latch, plan_unlatched, planned_by_latch}
use Rattle.rq_planner.proofs.Lawful.{lawful_plan, may_refuse, plan_refused}
use Rattle.rq_planner.proofs.Readings.{knows_read, reads_answered, reads_passed, truly_done, truly_passed}
use Rattle.rq_planner.proofs.planning.plan.Goals as goal

pub plan-answer-requires-clause-given : goal.plan-answer-requires-clause-given
plan-answer-requires-clause-given g c =
    let is = c.level.ensures in
    let inside = c.requires.level in
    of_store c.args.pages.now.sizes c.args.pages.now.images c.args.levels.now c.level.result c.gather.new.slots c.requires.known (omega (arith, is, inside)) c.in-Ok.ensures.given

pub returns-in-Ok-clause-same : goal.returns-in-Ok-clause-same
returns-in-Ok-clause-same g c =
    let old = c.args.levels.now in
    let mid = c.plan-answer.new.self in
    let pages = c.gather.new.pages in
    plan_same old mid c.args.op.now.level (subst (λ (n : ℕ). mid ≡ slice_set old n (kept_at mid n)) c.level.ensures c.plan-answer.ensures.others) pages.sizes pages.images
    (knows_read g.P.PageDevice c.args.pages.now pages old c.gather.ensures.read.read c.requires.known) c.requires.level c.give_back.new.levels
    c.args.op.now c.gather.new.slots c.latched.result.now.pages (with_plan c.plan-answer.new.plan c.plan-answer.result)
    (subst (λ (n : ℕ). (meaning_of n).plans (kept_at old n) c.args.op.now c.gather.new.slots c.latched.result.now.pages (with_plan c.plan-answer.new.plan c.plan-answer.result) (kept_at mid n)) c.level.ensures c.plan-answer.ensures.answer)
    c.give_back.ensures.planned c.give_back.ensures.refused

pub returns-in-Ok-clause-read : goal.returns-in-Ok-clause-read
returns-in-Ok-clause-read g c =
    reads_answered g.P.PageDevice c.plan-answer.result c.args.pages.now c.gather.new.pages c.gather.ensures.read.read c.in-Ok.ensures.read.counted
    (plan_refused c.level.result (kept_at c.args.levels.now c.level.result) c.args.op.now c.gather.new.slots c.latched.result.now.pages c.plan-answer.new.plan c.plan-answer.result _ c.plan-answer.ensures.answer)

pub returns-in-Ok-clause-lawful : goal.returns-in-Ok-clause-lawful
returns-in-Ok-clause-lawful g c =
    let old = c.args.levels.now in
    let mid = c.plan-answer.new.self in
    lawful_plan c.args.pages.now.sizes c.args.pages.now.images old c.requires.known c.args.op.now c.gather.new.slots c.latched.result.now.pages (with_plan c.plan-answer.new.plan c.plan-answer.result) (kept_at mid c.args.op.now.level) c.requires.level
    (subst (λ (n : ℕ). (meaning_of n).plans (kept_at old n) c.args.op.now c.gather.new.slots c.latched.result.now.pages (with_plan c.plan-answer.new.plan c.plan-answer.result) (kept_at mid n)) c.level.ensures c.plan-answer.ensures.answer)

pub returns-in-Ok-clause-free : goal.returns-in-Ok-clause-free
returns-in-Ok-clause-free g c =
    let n = c.args.op.now.level in
    let old = c.args.levels.now in
    let mid = c.plan-answer.new.self in
    plan_unlatched c.args.pages.now.sizes c.args.pages.now.images c.args.transactions.now n (kept_at old n) c.gather.new.slots c.latched.result.now.pages c.latched.ensures c.in-Ok.ensures.free
    (of_store c.args.pages.now.sizes c.args.pages.now.images old n c.gather.new.slots c.requires.known c.requires.level c.in-Ok.ensures.given) c.args.op.now (with_plan c.plan-answer.new.plan c.plan-answer.result) (kept_at mid n)
    (subst (λ (i : ℕ). (meaning_of i).plans (kept_at old i) c.args.op.now c.gather.new.slots c.latched.result.now.pages (with_plan c.plan-answer.new.plan c.plan-answer.result) (kept_at mid i)) c.level.ensures c.plan-answer.ensures.answer)

pub returns-in-Ok-clause-latched : goal.returns-in-Ok-clause-latched
returns-in-Ok-clause-latched g c forward =
    let n = c.args.op.now.level in
    let old = c.args.levels.now in
    let mid = c.plan-answer.new.self in
    planned_by_latch c.args.pages.now.sizes c.args.pages.now.images c.args.transactions.now old c.requires.known c.args.op.now forward c.gather.new.slots c.latched.result.now.pages (with_plan c.plan-answer.new.plan c.plan-answer.result) (kept_at mid n) c.in-Ok.ensures.free.unlatched
    (c.in-Ok.ensures.none, subst (λ (i : ℕ). (meaning_of i).plans (kept_at old i) c.args.op.now c.gather.new.slots c.latched.result.now.pages (with_plan c.plan-answer.new.plan c.plan-answer.result) (kept_at mid i)) c.level.ensures c.plan-answer.ensures.answer)

pub returns-in-Ok-clause-causes : goal.returns-in-Ok-clause-causes
returns-in-Ok-clause-causes g c =
    may_refuse c.plan-answer.result
    (plan_refused c.level.result (kept_at c.args.levels.now c.level.result) c.args.op.now c.gather.new.slots c.latched.result.now.pages c.plan-answer.new.plan c.plan-answer.result _ c.plan-answer.ensures.answer)

pub returns-in-Ok-clause-answered : goal.returns-in-Ok-clause-answered
returns-in-Ok-clause-answered g c truly =
    let s = known_from c.args.pages.now c.args.transactions.now in
    let n = c.args.op.now.level in
    let old = c.args.levels.now in
    let mid = c.plan-answer.new.self in
    answered s (wants_of old n) c.args.op.now (MayPlan s (meaning_of n) (kept_at old n) c.args.op.now) c.gather.new.slots (with_plan c.plan-answer.new.plan c.plan-answer.result)
    (c.in-Ok.ensures.all (truly_done g.P.PageDevice _ c.args.pages.now c.gather.new.pages truly.0)) c.in-Ok.ensures.none (record {
      latched = c.latched.result.now.pages;
      on = c.latched.ensures;
      after = kept_at mid n;
      plans = subst (λ (i : ℕ). (meaning_of i).plans (kept_at old i) c.args.op.now c.gather.new.slots c.latched.result.now.pages (with_plan c.plan-answer.new.plan c.plan-answer.result) (kept_at mid i)) c.level.ensures c.plan-answer.ensures.answer;
    })

pub returns-in-Err-clause-read : goal.returns-in-Err-clause-read
returns-in-Err-clause-read g c = reads_passed g.P.PageDevice c.in-Err.refusal c.in-Err.refusal c.args.pages.now c.gather.new.pages (λ fails. fails) c.in-Err.ensures.read

pub returns-in-Err-clause-latched : goal.returns-in-Err-clause-latched
returns-in-Err-clause-latched g c forward =
    held_by_latch c.args.pages.now.sizes c.args.pages.now.images c.args.transactions.now c.args.levels.now c.requires.known c.args.op.now forward c.in-Err.refusal c.in-Err.ensures.held

pub returns-in-Err-clause-answered : goal.returns-in-Err-clause-answered
returns-in-Err-clause-answered g c truly =
    not_from _ _ _ _ c.in-Err.refusal
    (c.in-Err.ensures.refusal (truly_passed g.P.PageDevice (λ e. e) c.in-Err.refusal c.in-Err.refusal c.args.pages.now c.args.pages.now c.gather.new.pages refl refl (still_read g.P.PageDevice c.args.pages.now) truly))
