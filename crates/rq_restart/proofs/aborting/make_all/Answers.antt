use Rattle.std.proofs.Common.{◌≡◌, ◌∷◌, ◌+◌, ◌/◌, ◌<◌, ℕ, List, Err, Some, rules, length, take, ◌∙◌, sym, ap, subst, arith, inl, refl}
use Rattle.std.specs.List.{slice_get}
use Rattle.rq_model.specs.declared.record.Record.{Record}
use Rattle.rq_page.specs.Sizes.{Sizes}
use Rattle.rq_pool.specs.Held.{IsFramed}
use Rattle.rq_pool.specs.Pooled.{IsPool}
use Rattle.rq_record.specs.Spelling.{IsInRange}
use Rattle.rq_store.specs.Fitting.{image_in, told_by}
use Rattle.rq_store.specs.Opening.{Redoes}
use Rattle.rq_store.specs.Steps.{page_op}
use Rattle.rq_views.specs.Stored.{IsStoreSlot, slot_at}
use Rattle.rq_planner.specs.Answered.{KnowsCells}
use Rattle.rq_planner.proofs.Knowing.{knows_kept, knows_written}
use Rattle.rq_level.specs.Writes.{IsSlotWrite}
use Rattle.rq_level.specs.declared.writes.SlotWrite.{SlotWrite}
use Rattle.rq_analysis.specs.Rules.{CanBeRead}
use Rattle.rq_restart.specs.Aborting.{IsMaking, IsShownWithin, with_writes}
use Rattle.rq_restart.specs.Found.{IsAnalysisOf}
use Rattle.rq_restart.specs.Repeating.{Belongs, IsRecordRedone, paged}
use Rattle.rq_restart.specs.Undoing.{StandsToWrite, StepStops}
use Rattle.rq_restart.proofs.Aborts.{device_stops, making_more, one_gone, one_stops}
use Rattle.rq_restart.proofs.Carrying.{IsCarriedTo, carried_done, carried_join, carried_nowhere, carried_one, carried_refused, carried_way}
use Rattle.rq_restart.proofs.GoingOn.{goes_making_way}
use Rattle.rq_restart.proofs.HandedOn.{kept_alike}
use Rattle.rq_restart.proofs.Renewing.{write_elsewhere}
use Rattle.rq_restart.proofs.Rounds.{get_there, within_alike, within_way, write_belongs, write_rest, write_shown}
use Rattle.rq_restart.proofs.StandingOver.{over_way}
use Rattle.rq_restart.proofs.aborting.make_all.Given.{Over}
use Rattle.rq_restart.proofs.aborting.make_all.Goals.{In_ok-append, In_ok-make_way}
use Rattle.rq_restart.proofs.aborting.make_all.Goals as goal

-- ---- what each step leaves

module _ (g : Over) (c : In_ok-make_way g) where
  -- the records that are made
  abbrev Made : ℕ → List Record → Type 0
  Made many rs = with_writes c.args.due.now.txn c.args.operation (take many c.args.writes.now) c.args.log.now.records ≡ rs

  made_there : Made c.loop-index.index c.make_way.new.log.records
  made_there = c.loop-index.invariant.are ∙ sym c.in_ok-make_way.ensures.made.records

  -- the next page stands in a frame
  to_way : IsCarriedTo g.P.PageDevice g.L.LogDevice (Made c.loop-index.index c.make_way.new.log.records) c.args.pages.now c.args.log.now (IsShownWithin c.args.log.now.records c.args.pages.now c.args.due.now c.args.operation c.args.writes.now 0) c.make_way.new.pages c.make_way.new.log (IsShownWithin c.make_way.new.log.records c.make_way.new.pages c.args.due.now c.args.operation c.args.writes.now c.loop-index.index)
  to_way =
      let d = c.args.due.now in
      let n = c.args.operation in
      let ws = c.args.writes.now in
      let i = c.loop-index.index in
      let old = c.loop-index.pages in
      let log = c.loop-index.log in
      let mid = c.make_way.new.pages in
      let then = c.make_way.new.log in
      let way = c.in_ok-make_way.ensures.made in
      carried_join c.loop-index.invariant.so_far (Made i then.records) mid then (λ told are none. made_there)
      (carried_way g.P.PageDevice g.L.LogDevice g.met.L.LogDevice.only_now old log (IsShownWithin log.records old d n ws i) (IsShownWithin then.records mid d n ws i) mid then (within_alike old.sizes log.records old d n ws i then.records mid way.records) (within_way old.sizes log.records old d n ws i) way)

  abbrev write : SlotWrite
  write = c.index-writes-index.result

  next : slice_get c.args.writes.now c.loop-index.index ≡ Some write
  next = get_there c.args.writes.now c.loop-index.index write c.loop-index-test.true c.index-writes-index.is

  sizes : c.make_way.new.pages.sizes ≡ c.args.pages.now.sizes
  sizes = c.in_ok-make_way.ensures.made.kept.sizes ∙ c.loop-index.invariant.so_far.goes.sizes

  slot : IsSlotWrite c.make_way.new.pages.sizes write
  slot = subst (λ (z : Sizes). IsSlotWrite z write) (sym sizes) (subst (IsSlotWrite c.args.pages.now.sizes) (sym c.index-writes-index.is) (c.requires.slots c.loop-index.index write c.loop-index-test.true))

  made_next : Made (c.loop-index.index + 1) (page_op c.args.due.now.txn c.args.operation write ∷ c.make_way.new.log.records)
  made_next = making_more c.args.due.now.txn c.args.operation c.args.writes.now c.loop-index.index write c.args.log.now.records c.make_way.new.log.records next made_there

module _ (g : Over) (c : In_ok-append g) where
  -- and the record behind
  grown : c.append.new.log.records ≡ page_op c.args.due.now.txn c.args.operation c.index-writes-index.result ∷ c.make_way.new.log.records
  grown = c.in_ok-append.ensures.records ∙ ap (λ (r : Record). r ∷ c.make_way.new.log.records) c.written-undo.ensures

  to_write : slice_get c.args.writes.now c.loop-index.index ≡ Some c.index-writes-index.result → IsSlotWrite c.make_way.new.pages.sizes c.index-writes-index.result → IsCarriedTo g.P.PageDevice g.L.LogDevice (Unit {0}) c.make_way.new.pages c.make_way.new.log (IsShownWithin c.make_way.new.log.records c.make_way.new.pages c.args.due.now c.args.operation c.args.writes.now c.loop-index.index) c.append.new.pages c.append.new.log (IsShownWithin c.append.new.log.records c.append.new.pages c.args.due.now c.args.operation c.args.writes.now (c.loop-index.index + 1))
  to_write next slot =
      let p = g.met.P.PageDevice in
      let d = c.args.due.now in
      let n = c.args.operation in
      let ws = c.args.writes.now in
      let i = c.loop-index.index in
      let w : SlotWrite = c.index-writes-index.result in
      let r : Record = page_op d.txn n w in
      let mid = c.make_way.new.pages in
      let then = c.make_way.new.log in
      let new = c.append.new.pages in
      let here = IsShownWithin then.records mid d n ws i in
      let made = c.in_ok-append.ensures in
      carried_one g.P.PageDevice g.L.LogDevice p.only_now p.counts_now g.met.L.LogDevice.counts_now (λ rs. Unit {0}) r mid then here new c.append.new.log (λ rs. IsShownWithin rs new d n ws (i + 1)) refl (λ e. refl) grown made.sizes made.pages_device made.device made.goes_on (λ h.
      let one : IsRecordRedone mid.sizes then.records r (paged mid) (paged new) = subst (λ q. IsRecordRedone mid.sizes then.records q (paged mid) (paged new)) c.written-undo.ensures (made.repeated h) in
      one_gone mid.sizes (Unit {0}) then.records r mid new here (IsShownWithin (r ∷ then.records) new d n ws (i + 1)) tt refl one (write_shown mid.sizes then.records mid d n ws i w next slot new (subst (λ y. IsPool y new.images) made.sizes made.pool) one))

pub loop-index-init : goal.loop-index-init
loop-index-init g c = record {
  found = c.requires.found;
  follow = c.requires.follow;
  are = refl;
  so_far = carried_nowhere g.P.PageDevice g.L.LogDevice g.met.L.LogDevice.only_now c.args.pages.now c.args.log.now (c.args.log.now.records ≡ c.args.log.now.records) (IsShownWithin c.args.log.now.records c.args.pages.now c.args.due.now c.args.operation c.args.writes.now 0) refl;
  running = c.requires.running;
  dues = refl;
  active = refl;
  room = refl;
  cells = c.requires.cells;
}

pub make_way-requires-clause-held : goal.make_way-requires-clause-held
make_way-requires-clause-held g c = c.loop-index.invariant.so_far.goes.held c.requires.held

pub make_way-requires-clause-more : goal.make_way-requires-clause-more
make_way-requires-clause-more g c = subst (λ n. 1 < n) (sym c.loop-index.invariant.so_far.goes.count) c.requires.more

pub append-requires-clause-range : goal.append-requires-clause-range
append-requires-clause-range g c = λ are.
    let w : SlotWrite = c.index-writes-index.result in
    subst IsInRange (sym c.written-undo.ensures) (c.requires.txn, c.requires.number, (let k = w.slot in omega (arith, k), omega arith))

pub append-requires-clause-readable : goal.append-requires-clause-readable
append-requires-clause-readable g c = subst CanBeRead (sym c.written-undo.ensures) tt

pub renew-requires-clause-slot : goal.renew-requires-clause-slot
renew-requires-clause-slot g c = subst (λ y. IsStoreSlot y c.index-writes-index.result.at) (sym c.append.ensures.sizes) (slot g (goal.at.renew-requires-clause-slot g c).In_ok-make_way).place

pub renew-requires-clause-hand : goal.renew-requires-clause-hand
renew-requires-clause-hand g c =
    let w : SlotWrite = c.index-writes-index.result in
    let mid = c.make_way.new.pages in
    let place = (slot g (goal.at.renew-requires-clause-hand g c).In_ok-make_way).place in
    let stands : StandsToWrite mid (page_op c.args.due.now.txn c.args.operation w) = subst (StandsToWrite mid) c.written-undo.ensures c.in_ok-make_way.ensures.stands in
    inl (subst (λ fs. IsFramed fs (w.at / 16)) (sym c.append.ensures.frames) (stands (w.at / 16) (record { low = place.page_low; high = place.page_high; is = refl })))

pub loop-index-preserved : goal.loop-index-preserved
loop-index-preserved g c =
    let at = goal.at.loop-index-preserved g c in
    let kept = c.loop-index.invariant in
    let way = c.in_ok-make_way.ensures.made in
    let made = c.in_ok-append.ensures in
    let d = c.args.due.now in
    let n = c.args.operation in
    let w : SlotWrite = c.index-writes-index.result in
    let old = c.loop-index.pages in
    let mid = c.make_way.new.pages in
    let older = c.make_way.new.log.records in
    let new = c.append.new.pages in
    let now = c.append.new.log in
    let more : with_writes d.txn n (take (c.loop-index.index + 1) c.args.writes.now) c.args.log.now.records ≡ now.records = made_next g at.In_ok-make_way ∙ sym (grown g at.In_ok-append) in
    let written : Redoes (told_by (page_op d.txn n w)) (length older + 1) (image_in mid.images) (image_in new.images) = subst (λ q. Redoes (told_by q) (length older + 1) (image_in mid.images) (image_in new.images)) c.written-undo.ensures made.written in
    let rest = write_rest older now.records c.loop-index.analysis c.append.new.analysis d.txn n w (subst (IsAnalysisOf c.loop-index.analysis) (sym way.records) kept.found) made.found (grown g at.In_ok-append) in
    record {
      found = made.found;
      follow = made.follow;
      are = more;
      so_far = carried_join (to_way g at.In_ok-make_way) (with_writes d.txn n (take (c.loop-index.index + 1) c.args.writes.now) c.args.log.now.records ≡ now.records) new now (λ told are none. more) (to_write g at.In_ok-append (next g at.In_ok-make_way) (slot g at.In_ok-make_way));
      running = made.running;
      dues = rest.0 ∙ kept.dues;
      active = rest.1 ∙ kept.active;
      room = made.room ∙ way.room ∙ kept.room;
      cells =
          let stands : IsStoreSlot new.sizes w.at = subst (λ y. IsStoreSlot y w.at) (sym made.sizes) (slot g at.In_ok-make_way).place in
          knows_written new.sizes mid.images new.images c.append.new.planner c.renew.new.self w.at (slot_at new.images w.at) stands refl (write_elsewhere new.sizes mid.images new.images d.txn n (length older + 1) w written) c.renew.ensures
          (subst (KnowsCells new.sizes mid.images) (sym made.planner) (subst (λ y. KnowsCells y mid.images c.loop-index.planner) (sym (made.sizes ∙ way.kept.sizes)) (knows_kept old.sizes old.images mid.images way.kept.flags c.loop-index.planner kept.cells)));
    }

-- ---- no page was brought in

pub returns-in_err-make_way-clause-made : goal.returns-in_err-make_way-clause-made
returns-in_err-make_way-clause-made g c =
    let p = g.P.PageDevice in
    let l = g.L.LogDevice in
    let way = c.in_err-make_way.ensures.made in
    let d = c.args.due.now in
    let n = c.args.operation in
    let ws = c.args.writes.now in
    let i = c.loop-index.index in
    let old = c.loop-index.pages in
    let log = c.loop-index.log in
    let mid = c.make_way.new.pages in
    let then = c.make_way.new.log in
    let here = IsShownWithin log.records old d n ws i in
    let e = c.in_err-make_way.field-0.0 in
    let making = IsMaking d.txn n ws c.args.log.now.records in
    carried_refused c.loop-index.invariant.so_far mid then (Err e) (goes_making_way p l g.met.L.LogDevice.only_now old mid log then (Err e) way) making making (λ told are rs next. next) e refl c.from_residual.result (search rules)
    (λ told. device_stops old.sizes making log.records old here e (way.told told.0))
    (λ h f so. (way.way h f so.stands (over_way p l f here old.sizes old log refl so (within_way old.sizes log.records old d n ws i))).1)

-- ---- a record was not made

pub returns-in_err-append-clause-made : goal.returns-in_err-append-clause-made
returns-in_err-append-clause-made g c =
    let at = (goal.at.returns-in_err-append-clause-made g c).In_ok-make_way in
    let d = c.args.due.now in
    let n = c.args.operation in
    let ws = c.args.writes.now in
    let i = c.loop-index.index in
    let w : SlotWrite = c.index-writes-index.result in
    let mid = c.make_way.new.pages in
    let then = c.make_way.new.log in
    let older = then.records in
    let new = c.append.new.pages in
    let now = c.append.new.log in
    let last = c.in_err-append.ensures in
    let e = c.in_err-append.field-0.0 in
    let making = IsMaking d.txn n ws c.args.log.now.records in
    carried_refused (to_way g at) new now (Err e) last.goes_on making making (λ told are rs next. next) e refl c.from_residual-in_err-append.result (search rules)
    (λ told.
    one_stops mid.sizes making older (page_op d.txn n w) mid (IsShownWithin older mid d n ws i) (record { made = i; are = made_there g at }) (record { made = i + 1; are = made_next g at }) e (subst (λ q. StepStops (length older) (Belongs mid.sizes older q (paged mid)) e) c.written-undo.ensures (last.stops told.1)) (within_way mid.sizes older mid d n ws i)
    (write_belongs mid.sizes older mid d n ws i w (next g at) (slot g at)))
    (λ h f so. kept_alike g.P.PageDevice g.L.LogDevice f mid.device new.device then.device now.device last.pages_device last.device so.stands.on.path)

-- ---- all were made

pub returns-clause-records : goal.returns-clause-records
returns-clause-records g c =
    let first = c.args.log.now.records in
    let ws = c.args.writes.now in
    let high = c.loop-index.auto.index-end in
    let low = c.loop-index-test.false in
    let all : c.loop-index.index ≡ length ws = omega (arith, high, low) in
    subst (λ i. with_writes c.args.due.now.txn c.args.operation (take i ws) first ≡ c.loop-index.log.records) all c.loop-index.invariant.are

pub returns-clause-made : goal.returns-clause-made
returns-clause-made g c =
    let first = c.args.log.now in
    let start = c.args.pages.now in
    let d = c.args.due.now in
    let n = c.args.operation in
    let ws = c.args.writes.now in
    let log = c.loop-index.log in
    let new = c.loop-index.pages in
    let high = c.loop-index.auto.index-end in
    let low = c.loop-index-test.false in
    let all : c.loop-index.index ≡ length ws = omega (arith, high, low) in
    carried_done (subst (λ i. IsCarriedTo g.P.PageDevice g.L.LogDevice (with_writes d.txn n (take i ws) first.records ≡ log.records) start first (IsShownWithin first.records start d n ws 0) new log (IsShownWithin log.records new d n ws i)) all c.loop-index.invariant.so_far)
