use Rattle.std.proofs.Common.{◌≡◌, ⊎_elim, ◌+◌, ◌≤◌, ◌++◌, [], ℕ, List, length, Ok, Err, inl, inr, refl, ap, sym, ◌∙◌, subst, arith}
use Rattle.std.specs.Prelude.{IfErr}
use Rattle.rq_disk.specs.Device.{Images}
use Rattle.rq_model.specs.declared.record.Record.{Record}
use Rattle.rq_model.specs.declared.record.Record.TheVariants as records
use Rattle.rq_page.specs.Sizes.{Sizes}
use Rattle.rq_store.specs.Fitting.{image_in}
use Rattle.rq_analysis.specs.OpenWorkView.{OpenWorkView}
use Rattle.rq_log.specs.Reading.{IsRead}
use Rattle.rq_pool.specs.Fetching.{AreAllFramed, IsReadAsStored}
use Rattle.rq_pool.specs.Pooled.{Pooled}
use Rattle.rq_engine.specs.Earlier.{rebased}
use Rattle.rq_restart.specs.Checked.{IsReadAndRedone}
use Rattle.rq_restart.specs.Repeating.{ArePagesCounted, HaveLsnsWithin, Repeats, paged}
use Rattle.rq_restart.specs.Numbers.{AreNumbersOf}
use Rattle.rq_restart.specs.Restarting.{Continues, LeavesLog, Reports}
use Rattle.rq_restart.specs.Standing.{Found, KeepsStore, Stands}
use Rattle.rq_restart.specs.RolledBack.{HasRepeated}
use Rattle.rq_restart.specs.Undoing.{AreAsFound, FailsWith, GoesOn, HaveBeenHonest, HaveToldTruly, failures}
use Rattle.rq_restart.proofs.Begun.{begins, last_is, not_begun, reports}
use Rattle.rq_restart.proofs.Continuing.{continues_on, fails_behind}
use Rattle.rq_restart.proofs.GoingOn.{goes_nowhere, goes_reading, goes_then, no_shorter, told_behind, told_first}
use Rattle.rq_restart.proofs.Marking.{kept_marked, marked_within}
use Rattle.rq_restart.proofs.Moments.{begun_left, left_alone}
use Rattle.rq_restart.proofs.Paths.{mended_keeps, slots_keep}
use Rattle.rq_restart.proofs.Repeated.{few_read}
use Rattle.rq_restart.proofs.Restarts.{begins_fails, begins_untouched, beyond_shut, gone_through, damage_fails, rollback_shut, slots_shut, told_longer}
use Rattle.rq_restart.proofs.Telling.{tells_ended, tells_read, tells_then}
use Rattle.rq_restart.proofs.Undos.{still}
use Rattle.rq_restart.proofs.restart.finish_restart.Given.{Over}
use Rattle.rq_restart.proofs.restart.finish_restart.Goals.{After-begin_incarnation, After-read_slots, After-undo_all}
use Rattle.rq_restart.proofs.restart.finish_restart.Goals as goal

-- ---- the log that was gone through

went_through : (g : Over) (c : After-undo_all g) (first : Images) → Repeats c.args.pages.now.sizes c.args.log.now.records first (paged c.args.pages.now) → AreNumbersOf c.args.pages.now.sizes first c.args.ahead.now → IsReadAndRedone c.args.pages.now.sizes c.args.log.now.records first (paged c.args.pages.now)
went_through g c first = gone_through c.args.pages.now.sizes c.args.log.now.records first (paged c.args.pages.now) c.last.result c.args.ahead.now c.last.ensures c.in-Ok.ensures.counted

-- ---- what was undone, and the tables read

module _ (g : Over) (c : After-read_slots g) where
  went : GoesOn g.P.PageDevice g.L.LogDevice c.args.pages.now c.args.log.now.device c.args.log.now.records c.read_slots.result c.read_slots.new.pages c.undo_all.new.log.device c.undo_all.new.log.records
  went =
      let p = g.P.PageDevice in
      let l = g.L.LogDevice in
      let undo = c.in-Ok-undo_all.ensures in
      let then = c.undo_all.new.log in
      goes_then p l c.args.pages.now c.undo_all.new.pages c.read_slots.new.pages c.args.log.now.device then.device then.device c.args.log.now.records then.records then.records (Ok c.in-Ok-undo_all.undone) c.read_slots.result undo.goes_on undo.goes_on.counted (λ told first r. (undo.rolls_back told).repeated first r)
      (goes_reading p l g.met.L.LogDevice.only_now c.undo_all.new.pages c.read_slots.new.pages then.device then.records c.read_slots.result c.read_slots.ensures.read c.read_slots.ensures.names)

  continues : (now : _) → (g.L.LogDevice.honest now → g.L.LogDevice.honest c.undo_all.new.log.device) → (all behind : List Record) → all ≡ behind ++ c.undo_all.new.log.records → Continues g.P.PageDevice g.L.LogDevice c.args.pages.now c.args.log.now.device c.args.log.now.records c.read_slots.new.pages now all
  continues =
      let log = c.args.log.now in
      let then = c.undo_all.new.log in
      continues_on g.P.PageDevice g.L.LogDevice c.args.pages.now c.read_slots.new.pages log.device then.device log.records then.records c.read_slots.result went

  told_undo : HaveToldTruly g.P.PageDevice g.L.LogDevice c.args.pages.now c.read_slots.new.pages c.undo_all.new.log.device → HaveToldTruly g.P.PageDevice g.L.LogDevice c.args.pages.now c.undo_all.new.pages c.undo_all.new.log.device
  told_undo = told_first g.P.PageDevice g.L.LogDevice c.args.pages.now c.undo_all.new.pages c.read_slots.new.pages c.undo_all.new.log.device c.undo_all.new.log.device c.read_slots.ensures.read.read.device.honest (λ h. h)

  as_stored : HaveToldTruly g.P.PageDevice g.L.LogDevice c.args.pages.now c.read_slots.new.pages c.undo_all.new.log.device → IsReadAsStored g.P.PageDevice c.undo_all.new.pages c.read_slots.new.pages
  as_stored told =
      let then = c.undo_all.new.log in
      (told_behind g.P.PageDevice g.L.LogDevice c.args.pages.now c.undo_all.new.pages c.read_slots.new.pages c.args.log.now.device then.device then.device c.args.log.now.records then.records (Ok c.in-Ok-undo_all.undone) c.in-Ok-undo_all.ensures.goes_on told).0

-- ---- the next incarnation was begun, or not

module _ (g : Over) (c : After-begin_incarnation g) where
  left : AreAllFramed c.args.pages.now → LeavesLog g.L.LogDevice c.args.pages.now.sizes (paged c.args.pages.now) c.args.log.now c.begin_incarnation.new.log
  left framed =
      let undo = c.in-Ok-undo_all.ensures in
      begun_left g.L.LogDevice c.args.pages.now.sizes (paged c.args.pages.now) (paged c.undo_all.new.pages) c.args.log.now c.undo_all.new.log c.begin_incarnation.new.log (undo.goes_on.stood framed).read (λ h. undo.rolls_back (inl framed, h))
      c.undo_all.new.analysis.open_work c.incarnation.result undo.found.open_work c.incarnation.ensures c.begin_incarnation.ensures.honest c.begin_incarnation.ensures.any_moment

  told_before : HaveToldTruly g.P.PageDevice g.L.LogDevice c.args.pages.now c.read_slots.new.pages c.begin_incarnation.new.log.device → HaveToldTruly g.P.PageDevice g.L.LogDevice c.args.pages.now c.read_slots.new.pages c.undo_all.new.log.device
  told_before told = (told.0, c.begin_incarnation.ensures.honest told.1)

  way : HaveBeenHonest g.P.PageDevice g.L.LogDevice c.read_slots.new.pages.device c.begin_incarnation.new.log.device → (f : Found _ _) → Stands g.P.PageDevice g.L.LogDevice f c.args.pages.now c.args.log.now → AreAsFound g.P.PageDevice g.L.LogDevice f c.args.log.now.records
      → KeepsStore g.P.PageDevice g.L.LogDevice f c.read_slots.new.pages.device c.begin_incarnation.new.log.device
  way h f so are =
      let p = g.met.P.PageDevice in
      let undo = c.in-Ok-undo_all.ensures in
      let read = c.in-Ok-read_slots.ensures.read.read in
      let then = c.undo_all.new.log in
      let honest : HaveBeenHonest g.P.PageDevice g.L.LogDevice c.undo_all.new.pages.device then.device = (read.device.honest h.0, c.begin_incarnation.ensures.honest h.1) in
      mended_keeps g.P.PageDevice g.L.LogDevice p.only_now p.counts_now g.met.L.LogDevice.counts_now f c.args.pages.now c.undo_all.new.pages c.read_slots.new.pages c.args.log.now then so are (undo.rolls_back (inr honest.0, honest.1)) (undo.way honest f so are).0 read h.0
      c.begin_incarnation.new.log.device (records.Restart (c.incarnation.result + 1)) (ap (λ (n : ℕ). records.Restart (n + 1)) (last_is then.records c.undo_all.new.analysis.open_work undo.found.open_work c.incarnation.result c.incarnation.ensures)) (c.begin_incarnation.ensures.any_moment h.1)

-- ---- a page has a number beyond the log

pub returns-in-Err-clause-left : goal.returns-in-Err-clause-left
returns-in-Err-clause-left g c = λ framed. left_alone g.L.LogDevice c.args.pages.now.sizes (paged c.args.pages.now) c.args.log.now c.args.log.now (still g.L.LogDevice g.met.L.LogDevice.only_now c.args.log.now.device)

pub returns-in-Err-clause-continues : goal.returns-in-Err-clause-continues
returns-in-Err-clause-continues g c =
    let pages = c.args.pages.now in
    let log = c.args.log.now in
    continues_on {X = Unit {0}} g.P.PageDevice g.L.LogDevice pages pages log.device log.device log.records log.records (Ok tt) (goes_nowhere g.P.PageDevice g.L.LogDevice g.met.L.LogDevice.only_now pages log.device log.records (Ok tt) tt) log.device (λ h. h) log.records [] refl

pub returns-in-Err-clause-fails : goal.returns-in-Err-clause-fails
returns-in-Err-clause-fails g c =
    let is = c.in-Err.ensures.err in
    damage_fails g.P.PageDevice c.args.pages.now.device c.args.pages.now.device is.0 c.in-Err.refusal _ is.1 refl refl

pub returns-in-Err-clause-read : goal.returns-in-Err-clause-read
returns-in-Err-clause-read g c = λ framed other. still g.L.LogDevice g.met.L.LogDevice.only_now c.args.log.now.device

pub returns-in-Err-clause-shut : goal.returns-in-Err-clause-shut
returns-in-Err-clause-shut g c =
    let z = c.args.pages.now.sizes in
    let e = c.in-Err.refusal in
    λ told first before k. beyond_shut z c.args.log.now.records first (paged c.args.pages.now) e before (c.in-Err.ensures.names c.args.log.now.records first c.last.ensures before k)

pub returns-in-Err-clause-way : goal.returns-in-Err-clause-way
returns-in-Err-clause-way g c = λ h f so are. so.on.path

-- ---- what has no end could not be undone

pub returns-in-Err-undo_all-clause-left : goal.returns-in-Err-undo_all-clause-left
returns-in-Err-undo_all-clause-left g c = λ framed. left_alone g.L.LogDevice c.args.pages.now.sizes (paged c.args.pages.now) c.args.log.now c.undo_all.new.log (c.in-Err-undo_all.ensures.goes_on.stood framed).read

pub returns-in-Err-undo_all-clause-continues : goal.returns-in-Err-undo_all-clause-continues
returns-in-Err-undo_all-clause-continues g c =
    let log = c.args.log.now in
    let mid = c.undo_all.new.log in
    continues_on g.P.PageDevice g.L.LogDevice c.args.pages.now c.undo_all.new.pages log.device mid.device log.records mid.records (Err c.in-Err-undo_all.refusal) c.in-Err-undo_all.ensures.goes_on mid.device (λ h. h) mid.records [] refl

pub returns-in-Err-undo_all-clause-fails : goal.returns-in-Err-undo_all-clause-fails
returns-in-Err-undo_all-clause-fails g c = c.in-Err-undo_all.ensures.goes_on.fails

pub returns-in-Err-undo_all-clause-read : goal.returns-in-Err-undo_all-clause-read
returns-in-Err-undo_all-clause-read g c = λ framed other. (c.in-Err-undo_all.ensures.goes_on.stood framed).read

pub returns-in-Err-undo_all-clause-shut : goal.returns-in-Err-undo_all-clause-shut
returns-in-Err-undo_all-clause-shut g c =
    λ told first before k. rollback_shut c.args.pages.now.sizes c.args.log.now.records first c.in-Err-undo_all.refusal (paged c.args.pages.now, went_through g (goal.at.returns-in-Err-undo_all-clause-shut g c).After-undo_all first before k) (c.in-Err-undo_all.ensures.stops told first before)

pub returns-in-Err-undo_all-clause-way : goal.returns-in-Err-undo_all-clause-way
returns-in-Err-undo_all-clause-way g c = λ h f so are. (c.in-Err-undo_all.ensures.way h f so are).1

-- ---- the tables could not be filled

pub returns-in-Err-read_slots-clause-left : goal.returns-in-Err-read_slots-clause-left
returns-in-Err-read_slots-clause-left g c = λ framed. left_alone g.L.LogDevice c.args.pages.now.sizes (paged c.args.pages.now) c.args.log.now c.undo_all.new.log (c.in-Ok-undo_all.ensures.goes_on.stood framed).read

pub returns-in-Err-read_slots-clause-continues : goal.returns-in-Err-read_slots-clause-continues
returns-in-Err-read_slots-clause-continues g c =
    let then = c.undo_all.new.log in
    continues g (goal.at.returns-in-Err-read_slots-clause-continues g c).After-read_slots then.device (λ h. h) then.records [] refl

pub returns-in-Err-read_slots-clause-fails : goal.returns-in-Err-read_slots-clause-fails
returns-in-Err-read_slots-clause-fails g c =
    let fails = (went g (goal.at.returns-in-Err-read_slots-clause-fails g c).After-read_slots).fails in
    subst (λ r. IfErr r (λ e. FailsWith g.P.PageDevice c.args.pages.now.device c.read_slots.new.pages.device e (failures g.L.LogDevice.faults c.args.log.now.device c.undo_all.new.log.device))) c.in-Err-read_slots.is fails

pub returns-in-Err-read_slots-clause-read : goal.returns-in-Err-read_slots-clause-read
returns-in-Err-read_slots-clause-read g c = λ framed other. (c.in-Ok-undo_all.ensures.goes_on.stood framed).read

pub returns-in-Err-read_slots-clause-shut : goal.returns-in-Err-read_slots-clause-shut
returns-in-Err-read_slots-clause-shut g c =
    λ told first before k.
    let at = goal.at.returns-in-Err-read_slots-clause-shut g c in
    let undo = c.in-Ok-undo_all.ensures in
    let mid = c.undo_all.new.pages in
    let was = went_through g at.After-undo_all first before k in
    let counted = undo.counted (told_undo g at.After-read_slots told) was.counted in
    let there : ArePagesCounted mid.sizes c.last-2.result (paged mid) = subst (λ (n : ℕ). ArePagesCounted mid.sizes n (paged mid)) (sym c.last-2.ensures) (subst (λ (y : Sizes). ArePagesCounted y (length c.undo_all.new.log.records) (paged mid)) (sym undo.goes_on.sizes) counted) in
    slots_shut c.args.pages.now.sizes c.args.log.now.records first c.in-Err-read_slots.refusal (paged c.args.pages.now, was) (c.in-Err-read_slots.ensures.stops (as_stored g at.After-read_slots told) there)

pub returns-in-Err-read_slots-clause-way : goal.returns-in-Err-read_slots-clause-way
returns-in-Err-read_slots-clause-way g c =
    let P = g.met.P.PageDevice in
    let read = c.in-Err-read_slots.ensures.read.read in
    λ h f so are. slots_keep g.P.PageDevice g.L.LogDevice P.only_now P.counts_now g.met.L.LogDevice.counts_now f c.undo_all.new.pages c.read_slots.new.pages c.undo_all.new.log (c.in-Ok-undo_all.ensures.way (read.device.honest h.0, h.1) f so are).0 read h.0

-- ---- the next incarnation is begun

pub begin_incarnation-requires-clause-low : goal.begin_incarnation-requires-clause-low
begin_incarnation-requires-clause-low g c =
    let undo = c.in-Ok-undo_all.ensures in
    let now = c.undo_all.new.log.records in
    let few = few_read now undo.found.order undo.found.marked in
    let is = last_is now c.undo_all.new.analysis.open_work undo.found.open_work c.incarnation.result c.incarnation.ensures in
    omega (arith, few, is)

pub returns-in-Ok-begin_incarnation-clause-restarted : goal.returns-in-Ok-begin_incarnation-clause-restarted
returns-in-Ok-begin_incarnation-clause-restarted g c =
    let undo = c.in-Ok-undo_all.ensures in
    let slots = c.in-Ok-read_slots.ensures in
    let begun = c.in-Ok-begin_incarnation.ensures in
    let older = c.args.log.now.records in
    let now = c.begin_incarnation.new.log.records in
    let longer : c.last-2.result ≤ length now = (let last = c.last-2.ensures in let e = ap (λ (k : List Record). length k) begun.records in omega (arith, e, last)) in
    let found = c.requires.found.open_work in
    let t = c.in-Ok-begin_incarnation.report in
    let tables = c.in-Ok-read_slots.tables in
    record {
      forced = begun.forced.0;
      reports = λ hh e past. subst (λ (y : Sizes). Reports y (rebased e older) now t.incarnation t.records t.unfinished t.lost) (sym ((slots.read.read.kept 0).sizes ∙ undo.goes_on.sizes))
          (reports older c.undo_all.new.log.records (undo.is (begun.honest hh)) c.undo_all.new.analysis.open_work undo.found.open_work c.incarnation.result c.incarnation.ensures c.args.pages.now.sizes now
          t.incarnation t.records t.unfinished t.lost
          (begun.report.0, begun.report.1, begun.report.2 ∙ c.unfinished-unfinished.ensures ∙ ap (λ (h : OpenWorkView). length h.unfinished) found, begun.report.3 ∙ undo.lost ∙ ap (λ (h : OpenWorkView). length h.active) found)
          e past);
      told = told_longer c.read_slots.new.pages.sizes c.read_slots.new.pages.images c.last-2.result (length now) tables.waiting tables.sent longer slots.told;
      known = slots.known;
      ready = begun.ready;
      room = begun.room ∙ undo.room;
    }

pub returns-in-Ok-begin_incarnation-clause-begun : goal.returns-in-Ok-begin_incarnation-clause-begun
returns-in-Ok-begin_incarnation-clause-begun g c =
    let undo = c.in-Ok-undo_all.ensures in
    let begun = c.in-Ok-begin_incarnation.ensures in
    λ h. record {
      rolled_back = c.undo_all.new.log.records;
      rolls_back = undo.is (begun.honest h);
      records = begins c.undo_all.new.log.records c.undo_all.new.analysis.open_work undo.found.open_work c.incarnation.result c.incarnation.ensures c.begin_incarnation.new.log.records begun.records;
      forced = begun.forced.0;
      running = begun.forced.1;
    }

pub returns-in-Ok-begin_incarnation-clause-left : goal.returns-in-Ok-begin_incarnation-clause-left
returns-in-Ok-begin_incarnation-clause-left g c = left g (goal.at.returns-in-Ok-begin_incarnation-clause-left g c).After-begin_incarnation

pub returns-in-Err-begin_incarnation-clause-left : goal.returns-in-Err-begin_incarnation-clause-left
returns-in-Err-begin_incarnation-clause-left g c = left g (goal.at.returns-in-Err-begin_incarnation-clause-left g c).After-begin_incarnation

pub returns-in-Ok-begin_incarnation-clause-continues : goal.returns-in-Ok-begin_incarnation-clause-continues
returns-in-Ok-begin_incarnation-clause-continues g c =
    let begun = c.begin_incarnation.ensures in
    continues g (goal.at.returns-in-Ok-begin_incarnation-clause-continues g c).After-read_slots c.begin_incarnation.new.log.device begun.honest c.begin_incarnation.new.log.records begun.behind.0 begun.behind.1

pub returns-in-Err-begin_incarnation-clause-continues : goal.returns-in-Err-begin_incarnation-clause-continues
returns-in-Err-begin_incarnation-clause-continues g c =
    let begun = c.begin_incarnation.ensures in
    continues g (goal.at.returns-in-Err-begin_incarnation-clause-continues g c).After-read_slots c.begin_incarnation.new.log.device begun.honest c.begin_incarnation.new.log.records begun.behind.0 begun.behind.1

pub returns-in-Ok-begin_incarnation-clause-counted : goal.returns-in-Ok-begin_incarnation-clause-counted
returns-in-Ok-begin_incarnation-clause-counted g c =
    let undo = c.in-Ok-undo_all.ensures.goes_on.counted in
    (c.in-Ok-read_slots.ensures.read.counted ∙ undo.0, c.in-Ok-begin_incarnation.ensures.cause ∙ undo.1)

pub returns-in-Ok-begin_incarnation-clause-pool : goal.returns-in-Ok-begin_incarnation-clause-pool
returns-in-Ok-begin_incarnation-clause-pool g c = c.in-Ok-read_slots.ensures.pool

pub returns-in-Ok-begin_incarnation-clause-checked : goal.returns-in-Ok-begin_incarnation-clause-checked
returns-in-Ok-begin_incarnation-clause-checked g c =
    λ told first before k.
    let at = goal.at.returns-in-Ok-begin_incarnation-clause-checked g c in
    let undo = c.in-Ok-undo_all.ensures in
    let read = c.in-Ok-read_slots.ensures.read.read in
    let then = c.undo_all.new.log.records in
    let now = c.begin_incarnation.new.log.records in
    let there = told_before g at.After-begin_incarnation told in
    let images : c.read_slots.new.pages.images ≡ c.undo_all.new.pages.images = ⊎_elim (λ all. ap (λ (x : Pooled _). x.images) (read.stood all)) (λ h. (read.kept 0).images h) (as_stored g at.After-read_slots there) in
    let undone = told_undo g at.After-read_slots there in
    let rolls = undo.rolls_back undone in
    subst (λ (i : List (List ℕ)). HasRepeated c.args.pages.now.sizes c.args.log.now.records now first (image_in i)) (sym images)
    (record {
      rolled_back = then;
      rolled_back_on = record {
        read_and_redone = (paged c.args.pages.now, went_through g at.After-undo_all first before k);
        rolls_back = rolls.is;
        planned = rolls.planned first before;
        repeated = rolls.repeated first before;
        linked = undo.linked undone;
        recovered = rolls.recovered first before;
      };
      begun = begins then c.undo_all.new.analysis.open_work undo.found.open_work c.incarnation.result c.incarnation.ensures now c.in-Ok-begin_incarnation.ensures.records;
    })

pub returns-in-Ok-begin_incarnation-clause-way : goal.returns-in-Ok-begin_incarnation-clause-way
returns-in-Ok-begin_incarnation-clause-way g c = way g (goal.at.returns-in-Ok-begin_incarnation-clause-way g c).After-begin_incarnation

pub returns-in-Err-begin_incarnation-clause-way : goal.returns-in-Err-begin_incarnation-clause-way
returns-in-Err-begin_incarnation-clause-way g c = way g (goal.at.returns-in-Err-begin_incarnation-clause-way g c).After-begin_incarnation

pub returns-in-Err-begin_incarnation-clause-fails : goal.returns-in-Err-begin_incarnation-clause-fails
returns-in-Err-begin_incarnation-clause-fails g c =
    let p = g.P.PageDevice in
    let l = g.L.LogDevice in
    let then = c.undo_all.new.log in
    let now = c.begin_incarnation.new.log.device in
    let undo = c.in-Ok-undo_all.ensures.goes_on.counted in
    fails_behind p l c.args.pages.now.device c.undo_all.new.pages.device c.read_slots.new.pages.device c.args.log.now.device then.device now undo c.in-Err-begin_incarnation.refusal
    (begins_fails p c.undo_all.new.pages.device c.read_slots.new.pages.device c.in-Err-begin_incarnation.refusal (length then.records) c.incarnation.result (l.faults then.device) (l.faults now) (now ≡ then.device) (ap l.faults) c.in-Ok-read_slots.ensures.read.counted c.in-Err-begin_incarnation.ensures.err)

pub returns-in-Err-begin_incarnation-clause-read : goal.returns-in-Err-begin_incarnation-clause-read
returns-in-Err-begin_incarnation-clause-read g c =
    let l = g.L.LogDevice in
    let then = c.undo_all.new.log in
    let now = c.begin_incarnation.new.log.device in
    λ framed other.
    let same : now ≡ then.device = begins_untouched c.in-Err-begin_incarnation.refusal (length then.records) c.incarnation.result (l.faults then.device) (l.faults now) (now ≡ then.device) other c.in-Err-begin_incarnation.ensures.err in
    subst (IsRead l c.args.log.now.device) (sym same) (c.in-Ok-undo_all.ensures.goes_on.stood framed).read

pub returns-in-Err-begin_incarnation-clause-shut : goal.returns-in-Err-begin_incarnation-clause-shut
returns-in-Err-begin_incarnation-clause-shut g c =
    λ told first before k.
    let at = goal.at.returns-in-Err-begin_incarnation-clause-shut g c in
    let l = g.L.LogDevice in
    let undo = c.in-Ok-undo_all.ensures in
    let then = c.undo_all.new.log in
    let now = c.begin_incarnation.new.log.device in
    let rolls = undo.rolls_back (told_undo g at.After-read_slots (told_before g at.After-begin_incarnation told)) in
    not_begun c.args.log.now.records then.records rolls.is c.undo_all.new.analysis.open_work undo.found.open_work c.incarnation.result c.incarnation.ensures c.args.pages.now.sizes first (paged c.undo_all.new.pages) c.in-Err-begin_incarnation.refusal (l.faults then.device) (l.faults now) (now ≡ then.device) (rolls.repeated first before) (rolls.planned first before) (rolls.recovered first before) (paged c.args.pages.now, went_through g at.After-undo_all first before k) c.in-Err-begin_incarnation.ensures.err

-- ---- what the log tells

pub returns-in-Err-clause-telling : goal.returns-in-Err-clause-telling
returns-in-Err-clause-telling g c = (let d = c.args.log.now.device in tells_read g.L.LogDevice d d _ (still g.L.LogDevice g.met.L.LogDevice.only_now d))

pub returns-in-Err-undo_all-clause-telling : goal.returns-in-Err-undo_all-clause-telling
returns-in-Err-undo_all-clause-telling g c = c.in-Err-undo_all.ensures.goes_on.telling

pub returns-in-Err-read_slots-clause-telling : goal.returns-in-Err-read_slots-clause-telling
returns-in-Err-read_slots-clause-telling g c = tells_ended g.L.LogDevice c.args.log.now.device c.undo_all.new.log.device _ _ (λ other. tt) c.in-Ok-undo_all.ensures.goes_on.telling

pub returns-in-Ok-begin_incarnation-clause-telling : goal.returns-in-Ok-begin_incarnation-clause-telling
returns-in-Ok-begin_incarnation-clause-telling g c =
    tells_then g.L.LogDevice c.args.log.now.device c.undo_all.new.log.device c.begin_incarnation.new.log.device _ _ tt c.begin_incarnation.ensures.honest c.in-Ok-undo_all.ensures.goes_on.telling c.in-Ok-begin_incarnation.ensures.telling

pub returns-in-Err-begin_incarnation-clause-telling : goal.returns-in-Err-begin_incarnation-clause-telling
returns-in-Err-begin_incarnation-clause-telling g c =
    tells_then g.L.LogDevice c.args.log.now.device c.undo_all.new.log.device c.begin_incarnation.new.log.device _ _ tt c.begin_incarnation.ensures.honest c.in-Ok-undo_all.ensures.goes_on.telling c.in-Err-begin_incarnation.ensures.telling

-- ---- no page is beyond the log

pub returns-in-Ok-begin_incarnation-clause-within : goal.returns-in-Ok-begin_incarnation-clause-within
returns-in-Ok-begin_incarnation-clause-within g c =
    let pages = c.args.pages.now in
    let mid = c.undo_all.new.pages in
    let new = c.read_slots.new.pages in
    let log = c.args.log.now.records in
    let then = c.undo_all.new.log.records in
    let undo = c.in-Ok-undo_all.ensures.goes_on in
    let first : HaveLsnsWithin pages.sizes (length log) (paged pages) = subst (λ n. HaveLsnsWithin pages.sizes n (paged pages)) c.last.ensures c.in-Ok.ensures.within in
    let undone = marked_within pages.sizes (length log) (length then) pages mid (no_shorter undo.behind.0 log then undo.behind.1) undo.marked first in
    let kept = marked_within pages.sizes (length then) (length then) mid new (omega arith) (kept_marked g.P.PageDevice 0 (length then) mid new (c.in-Ok-read_slots.ensures.read.read.kept 0)) undone in
    λ p low high. (let there = kept p low high in let one_more = ap (λ (k : List Record). length k) c.in-Ok-begin_incarnation.ensures.records in omega (arith, there, one_more))
