use Rattle.std.proofs.Common.{◌≡◌, ℕ, ◌∷◌, ◌+◌, ◌<◌, ◌≤◌, inr, ◌^◌, List, Err, rules, length, take, inl, refl, ◌∙◌, sym, ap, subst, arith}
use Rattle.std.proofs.lemmas.Bool.{cases_lt}
use Rattle.rq_model.specs.declared.record.Record.{Record}
use Rattle.rq_model.specs.Deeds.{deed_by}
use Rattle.rq_model.specs.Vocabulary.{In}
use Rattle.rq_page.specs.Sizes.{Sizes}
use Rattle.rq_pool.proofs.Fetched.{stored_images}
use Rattle.rq_views.specs.Stored.{slots_in}
use Rattle.rq_sound.specs.Rows.{comp_end}
use Rattle.rq_planner.specs.Backs.{IsTakingBack}
use Rattle.rq_planner.specs.Answered.{KnowsCells}
use Rattle.rq_planner.proofs.Readings.{knows_read}
use Rattle.rq_level.specs.Writes.{AreSlotWrites}
use Rattle.rq_pool.specs.Held.{Held}
use Rattle.rq_model.specs.declared.refusal.Refusal.TheVariants as why
use Rattle.rq_model.specs.declared.refusal.Damage.TheVariants as damage
use Rattle.rq_analysis.specs.declared.dues.PendingUndo.{PendingUndo}
use Rattle.rq_analysis.specs.Dues.{dues}
use Rattle.rq_analysis.specs.Numbers.{number_of, numbers}
use Rattle.rq_analysis.specs.OpenWorkView.{OpenWorkView, open_work_of}
use Rattle.rq_record.specs.Spelling.{IsTxnInRange}
use Rattle.rq_restart.specs.Aborting.{AbortsBehind, AbortsFrom, IsAbortingFrom, IsMaking, IsShown, IsShownWithin, RepeatedSince, with_writes}
use Rattle.rq_restart.specs.Repeating.{paged}
use Rattle.rq_restart.specs.Standing.{Found, NoneHeld, StandsOver}
use Rattle.rq_restart.specs.Undoing.{HaveToldTruly}
use Rattle.rq_restart.proofs.Aborts.{aborting_none, all_made, behind_taken, one_gone}
use Rattle.rq_restart.proofs.Carrying.{IsCarriedTo, carried_join, carried_made, carried_on, carried_one, carried_read, carried_stops}
use Rattle.rq_restart.proofs.DueLists.{as_told, due_active, due_range}
use Rattle.rq_restart.proofs.GoingOn.{goes_nowhere, goes_reading, told_first}
use Rattle.rq_restart.proofs.HandedOn.{kept_alike}
use Rattle.rq_restart.proofs.Renewing.{cells_same}
use Rattle.rq_restart.proofs.Rounds.{IsPlannedFirst, bad_due, begun_shown, close_rest, close_shown, closing_stops, few_operations, making_on, plan_stops, shown_way, taken, taken_next}
use Rattle.rq_restart.proofs.RoundsBehind.{no_rounds, rounds_done, rounds_refused}
use Rattle.rq_restart.proofs.StandingOver.{over_read}
use Rattle.rq_restart.proofs.aborting.undo_due.Given.{Over}
use Rattle.rq_restart.proofs.aborting.undo_due.Goals.{After-make_all, After-plan, After-shows_kept, In_ok-append, In_ok-make_all}
use Rattle.rq_restart.proofs.aborting.undo_due.Goals as goal

-- ---- what each step leaves

module _ (g : Over) (c : After-shows_kept g) where
  due_told : In c.requires.first.0 (dues c.args.log.now.records)
  due_told = subst (In c.requires.first.0) (sym c.requires.first.2 ∙ c.requires.found.dues) (inl refl)

  in_range : IsTxnInRange c.args.due.now.txn × (0 < c.args.due.now.lsn)
  in_range =
      let due = c.requires.first in
      let k = due_range c.args.log.now.records c.shows_kept.ensures.log.spelled due.0 due_told in
      (subst IsTxnInRange due.3 k.0, subst (λ n. 0 < n) due.4 k.1)

  -- an honest log told it as it was found
  due_first : g.L.LogDevice.honest c.args.log.now.device → (older : List PendingUndo) × (c.args.analysis.now.dues ≡ c.args.due.now ∷ older)
  due_first h = (let due = c.requires.first in as_told c.args.analysis.now.dues due.0 c.args.due.now due.1 due.2 (due.5 h))

-- the pages that were read show the same store
read_over : (g : Over) (c : After-plan g) (f : Found _ _) → g.P.PageDevice.honest c.plan.new.pages.device → StandsOver g.P.PageDevice g.L.LogDevice f (IsShown c.args.log.now.records c.args.pages.now) c.args.pages.now c.args.log.now → StandsOver g.P.PageDevice g.L.LogDevice f (IsShown c.args.log.now.records c.args.pages.now) c.plan.new.pages c.args.log.now
read_over g c f h so =
    let shown = IsShown c.args.log.now.records c.args.pages.now in
    over_read g.P.PageDevice g.L.LogDevice f shown c.args.pages.now.sizes c.args.pages.now c.args.log.now refl so g.met.P.PageDevice.only_now g.met.P.PageDevice.counts_now g.met.L.LogDevice.counts_now shown c.plan.new.pages (λ x base k same b. b) c.plan.ensures.read.read h

module _ (g : Over) (c : After-make_all g) where
  number : c.in-Some.operation ≡ number_of c.args.due.now.txn c.args.analysis.now.numbers + 1
  number = (let next : c.in-Some.operation ≡ c.greatest.result + 1 = search rules in next ∙ ap (λ (m : ℕ). m + 1) c.greatest.ensures)

  -- what was planned, where both devices told truly
  plan_is : HaveToldTruly g.P.PageDevice g.L.LogDevice c.args.pages.now c.plan.new.pages c.args.log.now.device → IsPlannedFirst c.args.pages.now.sizes c.args.log.now.records c.args.pages.now c.plan.new.pages c.args.analysis.now c.args.due.now c.deref.result.now c.in-Some.operation
  plan_is told =
      let due = c.requires.first in
      let first = as_told c.args.analysis.now.dues due.0 c.args.due.now due.1 due.2 (due.5 told.1) in
      record {
        found = c.requires.found;
        older = first.0;
        first = first.1;
        none = c.requires.none;
        back = subst (IsTakingBack c.args.pages.now.sizes (slots_in c.args.pages.now.sizes c.args.pages.now.images) (deed_by c.args.due.now.level c.args.due.now.deed)) (sym c.deref.ensures.value) (c.in_ok-writes.ensures.back told.0);
        number = number;
        images = stored_images g.P.PageDevice c.args.pages.now c.plan.new.pages c.plan.ensures.read.read told.0;
      }

  plan_then : HaveToldTruly g.P.PageDevice g.L.LogDevice c.args.pages.now c.make_all.new.pages c.make_all.new.log.device → IsPlannedFirst c.args.pages.now.sizes c.args.log.now.records c.args.pages.now c.plan.new.pages c.args.analysis.now c.args.due.now c.deref.result.now c.in-Some.operation
  plan_then told = (let goes = c.make_all.ensures.made.goes_on in plan_is (told_first g.P.PageDevice g.L.LogDevice c.args.pages.now c.plan.new.pages c.make_all.new.pages c.args.log.now.device c.make_all.new.log.device goes.pages_honest goes.log_honest told))

  -- pages were read for it
  to_plan : IsCarriedTo g.P.PageDevice g.L.LogDevice (Unit {0}) c.args.pages.now c.args.log.now (IsShown c.args.log.now.records c.args.pages.now) c.plan.new.pages c.args.log.now (IsShownWithin c.args.log.now.records c.plan.new.pages c.args.due.now c.in-Some.operation c.deref.result.now 0)
  to_plan =
      let log = c.args.log.now in
      let mid = c.plan.new.pages in
      carried_read g.P.PageDevice g.L.LogDevice g.met.P.PageDevice.only_now g.met.P.PageDevice.counts_now g.met.L.LogDevice.counts_now g.met.L.LogDevice.only_now c.args.pages.now log (IsShown log.records c.args.pages.now) (IsShownWithin log.records mid c.args.due.now c.in-Some.operation c.deref.result.now 0) mid (λ told. begun_shown (plan_is told)) c.plan.ensures.read.read c.in_ok-writes.ensures.read.counted

module _ (g : Over) (c : In_ok-make_all g) where
  -- and its writes were made
  to_made : IsCarriedTo g.P.PageDevice g.L.LogDevice (Unit {0}) c.args.pages.now c.args.log.now (IsShown c.args.log.now.records c.args.pages.now) c.plan.new.pages c.args.log.now (IsShownWithin c.args.log.now.records c.plan.new.pages c.args.due.now c.in-Some.operation c.deref.result.now 0)
      → IsCarriedTo g.P.PageDevice g.L.LogDevice (with_writes c.args.due.now.txn c.in-Some.operation (take (length c.deref.result.now) c.deref.result.now) c.args.log.now.records ≡ c.make_all.new.log.records) c.args.pages.now c.args.log.now (IsShown c.args.log.now.records c.args.pages.now) c.make_all.new.pages c.make_all.new.log
      (IsShownWithin c.make_all.new.log.records c.make_all.new.pages c.args.due.now c.in-Some.operation c.deref.result.now (length c.deref.result.now))
  to_made k =
      let made = c.in_ok-make_all.ensures in
      carried_join k (with_writes c.args.due.now.txn c.in-Some.operation (take (length c.deref.result.now) c.deref.result.now) c.args.log.now.records ≡ c.make_all.new.log.records) c.make_all.new.pages c.make_all.new.log (λ told none are. are) (carried_made made.made)

module _ (g : Over) (c : In_ok-append g) where
  -- and their end
  to_end : IsCarriedTo g.P.PageDevice g.L.LogDevice (Unit {0}) c.make_all.new.pages c.make_all.new.log (IsShownWithin c.make_all.new.log.records c.make_all.new.pages c.args.due.now c.in-Some.operation c.deref.result.now (length c.deref.result.now)) c.append.new.pages c.append.new.log (IsShown c.append.new.log.records c.append.new.pages)
  to_end =
      let p = g.met.P.PageDevice in
      let last = c.in_ok-append.ensures in
      let d = c.args.due.now in
      let n = c.in-Some.operation in
      let ws = c.deref.result.now in
      let then = c.make_all.new.pages in
      let older = c.make_all.new.log in
      let new = c.append.new.pages in
      let r : Record = comp_end d.txn n d.lsn in
      let all = IsShownWithin older.records then d n ws (length ws) in
      carried_one g.P.PageDevice g.L.LogDevice p.only_now p.counts_now g.met.L.LogDevice.counts_now (λ rs. Unit {0}) r then older all new c.append.new.log (λ rs. IsShown rs new) refl (λ e. refl) last.records last.sizes last.pages_device last.device last.goes_on (λ h.
      one_gone then.sizes (Unit {0}) older.records r then new all (IsShown (r ∷ older.records) new) tt refl (last.repeated h) (close_shown then.sizes older.records then d n ws new (last.same refl)))

  rest : (c.append.new.analysis.dues ≡ c.requires.first.1) × (c.append.new.analysis.open_work.active ≡ c.make_all.new.analysis.open_work.active)
  rest =
      let due = c.requires.first in
      let made = c.in_ok-make_all.ensures in
      let d = c.args.due.now in
      let n = c.in-Some.operation in
      let mid = c.make_all.new.log.records in
      close_rest mid c.append.new.log.records c.make_all.new.analysis c.append.new.analysis due.0 due.1 n d.lsn made.found c.in_ok-append.ensures.found (c.in_ok-append.ensures.records ∙ ap (λ t. comp_end t n d.lsn ∷ mid) (sym due.3)) (made.rest.0 ∙ due.2)

-- ---- the log is full

pub returns-then-last-ge-LOG_LIMIT-clause-rounds : goal.returns-then-last-ge-LOG_LIMIT-clause-rounds
returns-then-last-ge-LOG_LIMIT-clause-rounds g c =
    let z : Sizes = c.args.pages.now.sizes in
    let log = c.args.log.now in
    let old = c.args.pages.now in
    let only = g.met.L.LogDevice.only_now in
    rounds_refused (no_rounds g.P.PageDevice g.L.LogDevice only old log) old log (Err why.LogFull) why.LogFull refl (goes_nowhere g.P.PageDevice g.L.LogDevice only {X = Unit {0}} old log.device log.records (Err why.LogFull) tt)
    (λ told. record {
      last = log.records;
      aborting = aborting_none z (RepeatedSince z log.records (paged old)) log.records;
      full = (let k = c.last.ensures in let high = c.if-last-ge-LOG_LIMIT.true in omega (arith, k, high));
      way = shown_way z log.records old c.args.analysis.now c.requires.found;
    }) (λ h f so. so.stands.on.path)

-- ---- nothing is planned

pub returns-in_err-writes-clause-rounds : goal.returns-in_err-writes-clause-rounds
returns-in_err-writes-clause-rounds g c =
    let old = c.args.pages.now in
    let log = c.args.log.now in
    let mid = c.plan.new.pages in
    let only = g.met.L.LogDevice.only_now in
    let failed = c.in_err-writes.ensures in
    let e = c.in_err-writes.field-0.0 in
    let at = goal.at.returns-in_err-writes-clause-rounds g c in
    rounds_refused (no_rounds g.P.PageDevice g.L.LogDevice only old log) mid log c.from_residual.result e (search rules) (goes_reading g.P.PageDevice g.L.LogDevice only old mid log.device log.records (Err e) failed.read failed.names)
    (λ told. let first = due_first g at.After-shows_kept told.1 in plan_stops old.sizes log.records old c.args.analysis.now c.requires.found c.args.due.now first.0 first.1 c.requires.none e (failed.stops told.0))
    (λ h f so. (read_over g at.After-plan f h.0 so).stands.on.path)

-- ---- there is no number

pub returns-in_default-clause-rounds : goal.returns-in_default-clause-rounds
returns-in_default-clause-rounds g c =
    let p = g.met.P.PageDevice in
    let l = g.met.L.LogDevice in
    let old = c.args.pages.now in
    let z : Sizes = old.sizes in
    let log = c.args.log.now in
    let mid = c.plan.new.pages in
    let shown = IsShown log.records old in
    let d = c.args.due.now in
    let f = c.args.analysis.now in
    let e = why.Damaged (damage.Record d.lsn) in
    let at = goal.at.returns-in_default-clause-rounds g c in
    let read = carried_read g.P.PageDevice g.L.LogDevice p.only_now p.counts_now l.counts_now l.only_now old log shown shown mid (λ told x base k same b. b) c.plan.ensures.read.read c.in_ok-writes.ensures.read.counted in
    rounds_refused (no_rounds g.P.PageDevice g.L.LogDevice l.only_now old log) mid log (Err e) e refl (carried_on read mid log (Err e) (goes_nowhere g.P.PageDevice g.L.LogDevice l.only_now {X = Unit {0}} mid log.device log.records (Err e) tt))
    (λ told.
    let first = due_first g at.After-shows_kept told.1 in
    let many : 2 ^ 64 ≤ number_of d.txn f.numbers + 1 = (let n = c.greatest.ensures in elim (cases_lt (c.greatest.result + 1) (2 ^ 64)) [ inl low ↦ absurd (c.in_default.ensures low) | inr high ↦ omega (arith, n, high) ]) in
    let none = few_operations z log.records old f c.requires.found d first.0 first.1 c.requires.none many (let last = c.last.ensures in let low = c.if-last-ge-LOG_LIMIT.false in omega (arith, last, low)) in
    let full : 2 ^ 64 ≤ number_of d.txn (numbers log.records) + 1 = subst (λ os. 2 ^ 64 ≤ number_of d.txn os + 1) c.requires.found.numbers many in
    record { last = log.records; aborting = aborting_none z (RepeatedSince z log.records (paged old)) log.records; bad = bad_due z log.records old f c.requires.found d first.0 first.1 c.requires.none d.lsn refl (inr full); none = none })
    (λ h f so. (read_over g at.After-plan f h.0 so).stands.on.path)

-- ---- the writes are made

pub make_all-requires-clause-held : goal.make_all-requires-clause-held
make_all-requires-clause-held g c = subst NoneHeld (sym c.plan.ensures.read.read.frames) c.requires.held

pub make_all-requires-clause-more : goal.make_all-requires-clause-more
make_all-requires-clause-more g c = subst (λ (fs : List Held). 1 < length fs) (sym c.plan.ensures.read.read.frames) c.requires.more

pub make_all-requires-clause-txn : goal.make_all-requires-clause-txn
make_all-requires-clause-txn g c = (in_range g (goal.at.make_all-requires-clause-txn g c).After-shows_kept).0

pub make_all-requires-clause-slots : goal.make_all-requires-clause-slots
make_all-requires-clause-slots g c =
    subst (λ ws. AreSlotWrites c.plan.new.pages.sizes ws) (sym c.deref.ensures.value) (subst (λ z. AreSlotWrites z c.in_ok-writes.writes.items) (sym (c.plan.ensures.read.read.kept 0).sizes) c.in_ok-writes.ensures.lawful)

pub make_all-requires-clause-cells : goal.make_all-requires-clause-cells
make_all-requires-clause-cells g c = subst (KnowsCells c.plan.new.pages.sizes c.plan.new.pages.images) (sym c.plan.ensures.same) (knows_read g.P.PageDevice c.args.pages.now c.plan.new.pages c.args.planner.now c.plan.ensures.read.read c.requires.cells)

pub append-requires-clause-range : goal.append-requires-clause-range
append-requires-clause-range g c = λ are. (let k = in_range g (goal.at.append-requires-clause-range g c).After-shows_kept in (k.0, (omega arith), k.1))

pub append-requires-clause-stands : goal.append-requires-clause-stands
append-requires-clause-stands g c = λ page w. absurd w.is

pub returns-in_err-make_all-clause-rounds : goal.returns-in_err-make_all-clause-rounds
returns-in_err-make_all-clause-rounds g c =
    let made = c.in_err-make_all.ensures.made in
    let start = c.args.pages.now in
    let log = c.args.log.now in
    let d = c.args.due.now in
    let e = c.in_err-make_all.field-0.0 in
    let at = (goal.at.returns-in_err-make_all-clause-rounds g c).After-make_all in
    let plan = to_plan g at in
    let new = c.make_all.new.pages in
    let now = c.make_all.new.log in
    rounds_refused (no_rounds g.P.PageDevice g.L.LogDevice g.met.L.LogDevice.only_now start log) new now c.from_residual-in_err-make_all.result e (search rules) (carried_on plan new now (Err e) made.goes_on)
    (carried_stops plan new now (Err e) made.goes_on (IsMaking d.txn c.in-Some.operation c.deref.result.now log.records) (IsAbortingFrom start.sizes log.records start) (λ told none. making_on (plan_is g at told)) e made.stops)
    (λ h f so. (made.way h f (plan.way (made.goes_on.pages_honest h.0, made.goes_on.log_honest h.1) f so)).1)

-- ---- and their end

pub returns-in_err-append-clause-rounds : goal.returns-in_err-append-clause-rounds
returns-in_err-append-clause-rounds g c =
    let p = g.P.PageDevice in
    let l = g.L.LogDevice in
    let start = c.args.pages.now in
    let log = c.args.log.now in
    let then = c.make_all.new.pages in
    let older = c.make_all.new.log in
    let new = c.append.new.pages in
    let now = c.append.new.log in
    let last = c.in_err-append.ensures in
    let e = c.in_err-append.field-0.0 in
    let aborting = IsAbortingFrom start.sizes log.records start in
    let at = goal.at.returns-in_err-append-clause-rounds g c in
    let made = to_made g at.In_ok-make_all (to_plan g at.After-make_all) in
    rounds_refused (no_rounds p l g.met.L.LogDevice.only_now start log) new now c.from_residual-in_err-append.result e (search rules) (carried_on made new now (Err e) last.goes_on)
    (λ told.
    let k = plan_then g at.After-make_all (told_first p l start then new older.device now.device last.goes_on.pages_honest last.goes_on.log_honest told) in
    carried_stops made new now (Err e) last.goes_on aborting aborting (λ there are rs on. on) e (λ here. closing_stops k older.records c.in_ok-make_all.ensures.records then e (last.stops here.1)) told)
    (λ h f so. kept_alike p l f then.device new.device older.device now.device last.pages_device last.device (made.way (subst p.honest last.pages_device h.0, subst l.honest last.device h.1) f so).stands.on.path)

pub returns-clause-rounds : goal.returns-clause-rounds
returns-clause-rounds g c =
    let made = c.in_ok-make_all.ensures in
    let last = c.in_ok-append.ensures in
    let start = c.args.pages.now in
    let log = c.args.log.now.records in
    let older = c.make_all.new.log.records in
    let d = c.args.due.now in
    let n = c.in-Some.operation in
    let ws = c.deref.result.now in
    let now = c.append.new.log in
    let at = goal.at.returns-clause-rounds g c in
    rounds_done (record {
      behind = λ h.
          let first = due_first g at.After-shows_kept (made.made.goes_on.log_honest (subst g.L.LogDevice.honest last.device h)) in
          subst (AbortsBehind log) (sym last.records) (behind_taken log older d n ws (taken_next start.sizes log start c.args.analysis.now c.requires.found d first.0 first.1 c.requires.none n (number g at.After-make_all)) (all_made d.txn n ws log older made.records));
      carried = carried_join (to_made g at.In_ok-make_all (to_plan g at.After-make_all)) (AbortsFrom start.sizes log start now.records) c.append.new.pages now
          (λ told are none. subst (AbortsFrom start.sizes log start) (sym last.records) (taken (plan_then g at.After-make_all told) older are)) (to_end g at.In_ok-append);
    })

pub returns-clause-rest : goal.returns-clause-rest
returns-clause-rest g c = (let due = c.requires.first in (due.0, due.2 ∙ ap (λ l. due.0 ∷ l) (sym (rest g (goal.at.returns-clause-rest g c).In_ok-append).0)))

-- its CompEnd followed the rules, so it had not ended
pub returns-clause-lost : goal.returns-clause-lost
returns-clause-lost g c = λ k.
    let made = c.in_ok-make_all.ensures in
    let d = c.args.due.now in
    let first = due_first g (goal.at.returns-clause-lost g c).After-shows_kept (made.made.goes_on.log_honest (subst g.L.LogDevice.honest c.in_ok-append.ensures.device k)) in
    let mid = c.make_all.new.log.records in
    let there : In d (dues mid) = subst (In d) (sym first.1 ∙ sym made.rest.0 ∙ made.found.dues) (inl refl) in
    let active : In d.txn (open_work_of mid).active = due_active mid d there (c.in_ok-append.ensures.repeated k).belongs.follows.running in
    subst (In d.txn) (ap (λ (h : OpenWorkView). h.active) (sym made.found.open_work) ∙ made.rest.1) active

pub returns-clause-active : goal.returns-clause-active
returns-clause-active g c = (rest g (goal.at.returns-clause-active g c).In_ok-append).1 ∙ c.in_ok-make_all.ensures.rest.1

pub returns-clause-cells : goal.returns-clause-cells
returns-clause-cells g c = cells_same c.make_all.new.pages c.append.new.pages c.make_all.new.planner c.append.new.planner (c.in_ok-append.ensures.same refl) c.append.ensures.planner c.in_ok-make_all.ensures.cells
