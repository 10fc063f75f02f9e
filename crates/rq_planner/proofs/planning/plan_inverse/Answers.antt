use Rattle.std.proofs.Common.{refl, ◌≡◌, ◌∙◌, ℕ, None, Err, ap, subst, slice_set, arith}
use Rattle.rq_level.specs.Asked.{job_back}
use Rattle.rq_level.specs.Meaning.{kept_at, meaning_of}
use Rattle.rq_level.specs.Ops.{Job}
use Rattle.rq_level.specs.Writes.{with_plan}
use Rattle.rq_pool.proofs.Fetched.{still_read}
use Rattle.rq_planner.specs.Answered.{HasGathered, IsAnswered, MayUndo, level_back, wants_of}
use Rattle.rq_planner.specs.Asked.{known_from}
use Rattle.rq_planner.specs.Lawful.{AreFreelyGiven}
use Rattle.rq_planner.proofs.Choosing.{undo_same}
use Rattle.rq_planner.proofs.Gathered.{answered, not_from}
use Rattle.rq_planner.proofs.Knowing.{of_store}
use Rattle.rq_planner.proofs.Latches.{inverse_unlatched}
use Rattle.rq_planner.proofs.Lawful.{few_back, lawful_inverse, may_refuse, undo_refused}
use Rattle.rq_planner.proofs.Readings.{knows_read, reads_answered, truly_done, truly_passed}
use Rattle.rq_planner.proofs.planning.plan_inverse.Goals as goal

pub gather-requires-clause-level : goal.gather-requires-clause-level
gather-requires-clause-level g c =
    let is = ap (λ (j : Job). j.level) c.back-op.ensures in
    let inside = c.requires.level in
    omega (arith, is, inside)

pub undo-answer-requires-clause-level : goal.undo-answer-requires-clause-level
undo-answer-requires-clause-level g c =
    let is = c.level.ensures ∙ ap (λ (j : Job). j.level) c.back-op.ensures in
    let inside = c.requires.level in
    omega (arith, is, inside)

pub undo-answer-requires-clause-given : goal.undo-answer-requires-clause-given
undo-answer-requires-clause-given g c =
    let is = c.level.ensures ∙ ap (λ (j : Job). j.level) c.back-op.ensures in
    let inside = c.requires.level in
    of_store c.args.pages.now.sizes c.args.pages.now.images c.args.levels.now c.level.result c.gather.new.slots c.requires.known (omega (arith, is, inside)) c.in-Ok.ensures.given

pub returns-in-Ok-clause-same : goal.returns-in-Ok-clause-same
returns-in-Ok-clause-same g c =
    let old = c.args.levels.now in
    let mid = c.undo-answer.new.self in
    let pages = c.gather.new.pages in
    let is : c.level.result ≡ level_back c.args.told.now = c.level.ensures ∙ ap (λ (j : Job). j.level) c.back-op.ensures in
    undo_same old mid (level_back c.args.told.now) (subst (λ (n : ℕ). mid ≡ slice_set old n (kept_at mid n)) is c.undo-answer.ensures.others) pages.sizes pages.images
    (knows_read g.P.PageDevice c.args.pages.now pages old c.gather.ensures.read.read c.requires.known) c.requires.level c.give_back.new.levels
    c.args.told.now c.gather.new.slots c.latched.result.now.pages (with_plan c.undo-answer.new.plan c.undo-answer.result)
    (subst (λ (n : ℕ). (meaning_of n).undoes (kept_at old n) c.args.told.now c.gather.new.slots c.latched.result.now.pages (with_plan c.undo-answer.new.plan c.undo-answer.result) (kept_at mid n)) is c.undo-answer.ensures.answer)
    c.give_back.ensures.planned c.give_back.ensures.refused

pub returns-in-Ok-clause-read : goal.returns-in-Ok-clause-read
returns-in-Ok-clause-read g c =
    reads_answered g.P.PageDevice c.undo-answer.result c.args.pages.now c.gather.new.pages c.gather.ensures.read.read c.in-Ok.ensures.read.counted
    (undo_refused c.level.result (kept_at c.args.levels.now c.level.result) c.args.told.now c.gather.new.slots c.latched.result.now.pages c.undo-answer.new.plan c.undo-answer.result _ c.undo-answer.ensures.answer)

pub returns-in-Ok-clause-lawful : goal.returns-in-Ok-clause-lawful
returns-in-Ok-clause-lawful g c some =
    let old = c.args.levels.now in
    let mid = c.undo-answer.new.self in
    let n = level_back c.args.told.now in
    let is : c.level.result ≡ n = c.level.ensures ∙ ap (λ (j : Job). j.level) c.back-op.ensures in
    lawful_inverse c.args.pages.now.sizes c.args.pages.now.images old c.requires.known c.args.told.now c.gather.new.slots c.latched.result.now.pages (with_plan c.undo-answer.new.plan c.undo-answer.result) (kept_at mid n) c.requires.level some
    (subst (λ (i : ℕ). (meaning_of i).undoes (kept_at old i) c.args.told.now c.gather.new.slots c.latched.result.now.pages (with_plan c.undo-answer.new.plan c.undo-answer.result) (kept_at mid i)) is c.undo-answer.ensures.answer)

pub returns-in-Ok-clause-few : goal.returns-in-Ok-clause-few
returns-in-Ok-clause-few g c =
    few_back c.level.result (kept_at c.args.levels.now c.level.result) c.args.told.now c.gather.new.slots c.latched.result.now.pages (with_plan c.undo-answer.new.plan c.undo-answer.result) _ c.undo-answer.ensures.answer

pub returns-in-Ok-clause-free : goal.returns-in-Ok-clause-free
returns-in-Ok-clause-free g c some =
    let n = level_back c.args.told.now in
    let old = c.args.levels.now in
    let mid = c.undo-answer.new.self in
    let is : c.level.result ≡ n = c.level.ensures ∙ ap (λ (j : Job). j.level) c.back-op.ensures in
    inverse_unlatched c.args.pages.now.sizes c.args.pages.now.images c.args.transactions.now n (kept_at old n) c.gather.new.slots c.latched.result.now.pages c.latched.ensures
    (subst (λ (j : Job). AreFreelyGiven c.args.transactions.now (meaning_of j.level) (kept_at old j.level) c.gather.new.slots) c.back-op.ensures c.in-Ok.ensures.free)
    (of_store c.args.pages.now.sizes c.args.pages.now.images old n c.gather.new.slots c.requires.known c.requires.level c.in-Ok.ensures.given) c.args.told.now (with_plan c.undo-answer.new.plan c.undo-answer.result) (kept_at mid n) some
    (subst (λ (i : ℕ). (meaning_of i).undoes (kept_at old i) c.args.told.now c.gather.new.slots c.latched.result.now.pages (with_plan c.undo-answer.new.plan c.undo-answer.result) (kept_at mid i)) is c.undo-answer.ensures.answer)

pub returns-in-Ok-clause-causes : goal.returns-in-Ok-clause-causes
returns-in-Ok-clause-causes g c =
    may_refuse c.undo-answer.result
    (undo_refused c.level.result (kept_at c.args.levels.now c.level.result) c.args.told.now c.gather.new.slots c.latched.result.now.pages c.undo-answer.new.plan c.undo-answer.result _ c.undo-answer.ensures.answer)

pub returns-in-Ok-clause-answered : goal.returns-in-Ok-clause-answered
returns-in-Ok-clause-answered g c truly =
    let s = known_from c.args.pages.now c.args.transactions.now in
    let n = level_back c.args.told.now in
    let old = c.args.levels.now in
    let mid = c.undo-answer.new.self in
    let is : c.level.result ≡ n = c.level.ensures ∙ ap (λ (j : Job). j.level) c.back-op.ensures in
    answered s (wants_of old n) (job_back c.args.told.now) (MayUndo s (meaning_of n) (kept_at old n) c.args.told.now) c.gather.new.slots (with_plan c.undo-answer.new.plan c.undo-answer.result)
    (subst (λ (j : Job). HasGathered s (wants_of old j.level) j c.gather.new.slots) c.back-op.ensures (c.in-Ok.ensures.all (truly_done g.P.PageDevice _ c.args.pages.now c.gather.new.pages truly.0)))
    (subst (λ (j : Job). wants_of old j.level j c.gather.new.slots ≡ None) c.back-op.ensures c.in-Ok.ensures.none)
    (record {
      latched = c.latched.result.now.pages;
      on = c.latched.ensures;
      after = kept_at mid n;
      undoes = subst (λ (i : ℕ). (meaning_of i).undoes (kept_at old i) c.args.told.now c.gather.new.slots c.latched.result.now.pages (with_plan c.undo-answer.new.plan c.undo-answer.result) (kept_at mid i)) is c.undo-answer.ensures.answer;
    })

pub returns-in-Err-clause-answered : goal.returns-in-Err-clause-answered
returns-in-Err-clause-answered g c truly =
    let s = known_from c.args.pages.now c.args.transactions.now in
    let n = level_back c.args.told.now in
    not_from s (wants_of c.args.levels.now n) (job_back c.args.told.now) (MayUndo s (meaning_of n) (kept_at c.args.levels.now n) c.args.told.now) c.in-Err.refusal
    (subst (λ (j : Job). IsAnswered s (wants_of c.args.levels.now j.level) j (λ given answer. ⊥) (Err c.in-Err.refusal)) c.back-op.ensures
    (c.in-Err.ensures.refusal (truly_passed g.P.PageDevice (λ e. e) c.in-Err.refusal c.in-Err.refusal c.args.pages.now c.args.pages.now c.gather.new.pages refl refl (still_read g.P.PageDevice c.args.pages.now) truly)))
