use Rattle.std.proofs.Common.{rules, ◌≡◌, ◌∷◌, [], List, Err, length, refl, ap, subst, sym, ◌∙◌}
use Rattle.rq_log.specs.Logged.{Logged}
use Rattle.rq_log.specs.Spelled.{AreSpelled}
use Rattle.rq_model.specs.declared.record.Record.{Record}
use Rattle.rq_analysis.specs.OpenWorkView.{open_work_of}
use Rattle.rq_analysis.specs.Pages.{IsNextUndo, IsUndoing}
use Rattle.rq_analysis.specs.Recovered.{IsRecovering}
use Rattle.rq_engine.specs.Earlier.{rebased}
use Rattle.rq_analysis.proofs.Undos.{undoing_more}
use Rattle.rq_page.specs.Sizes.{Sizes}
use Rattle.rq_restart.specs.Repeating.{IsRecordRedone, Repeats, paged}
use Rattle.rq_restart.specs.Standing.{Found, NoneHeld, Stands, before}
use Rattle.rq_restart.specs.Undoing.{AreAsFound, HaveBeenHonest}
use Rattle.rq_restart.proofs.GoingOn.{IsGoingOn, goes_making_way, goes_refused, goes_through_log, going_from, going_made, going_read, going_then, going_way, not_undone_fails, told_behind, told_first}
use Rattle.rq_restart.proofs.HandedOn.{handed_stops, handed_way, kept_alike}
use Rattle.rq_restart.proofs.Pasts.{IsAddedOn, undo_added}
use Rattle.rq_restart.proofs.Repeated.{before_from}
use Rattle.rq_restart.proofs.Standing.{log_stands, records_stand, undoing_stands}
use Rattle.rq_restart.proofs.Undos.{going_stops, going_waits, going_without, like_is_no_base, like_undo_less, like_undo_range}
use Rattle.rq_restart.proofs.undoing.undo_unfinished.Given.{Over}
use Rattle.rq_restart.proofs.undoing.undo_unfinished.Goals.{After-undo_record, After-append, In_ok-make_way, In_ok-undo}
use Rattle.rq_restart.proofs.undoing.undo_unfinished.Goals as goal

-- ---- what each step leaves

-- the log was read, and a store stands as before
read_stands : (g : Over) (c : After-undo_record g) → HaveBeenHonest g.P.PageDevice g.L.LogDevice c.loop-next.pages.device c.undo_record.new.log.device → (f : Found _ _) → Stands g.P.PageDevice g.L.LogDevice f c.args.pages.now c.args.log.now → AreAsFound g.P.PageDevice g.L.LogDevice f c.args.log.now.records
    → Stands g.P.PageDevice g.L.LogDevice f c.loop-next.pages c.undo_record.new.log × IsRecovering f.sizes f.read (rebased (before g.P.PageDevice g.L.LogDevice f) c.undo_record.new.log.records)
read_stands g c h f so are =
    let p = g.P.PageDevice in
    let l = g.L.LogDevice in
    let kept = c.loop-next.invariant in
    let told = c.undo_record.ensures in
    let first = c.args.log.now in
    let old = c.loop-next.pages in
    let read = c.undo_record.new.log in
    let same = ap (λ (x : Logged _). x.records) told.same in
    let log_old = told.read.honest h.1 in
    let b = log_stands p l g.met.P.PageDevice.only_now g.met.P.PageDevice.counts_now g.met.L.LogDevice.counts_now f old c.loop-next.log (kept.way (h.0, log_old) f so are) read same told.read in
    (b, undoing_stands p l g.met.P.PageDevice.only_now g.met.P.PageDevice.counts_now g.met.L.LogDevice.counts_now f old read b c.args.pages.now first so are (subst (IsUndoing first.records) (sym same) (kept.undoing log_old)))

read_going : (g : Over) (c : In_ok-undo g) → IsGoingOn g.P.PageDevice g.L.LogDevice c.args.pages.now c.args.log.now.device c.args.log.now.records c.loop-next.pages c.undo_record.new.log.device c.undo_record.new.log.records
read_going g c =
    let told = c.in_ok-undo.ensures in
    let first = c.args.log.now in
    let log = c.loop-next.log in
    let read = c.undo_record.new.log in
    going_read g.P.PageDevice g.L.LogDevice g.met.L.LogDevice.only_now c.args.pages.now c.loop-next.pages first.device log.device read.device first.records log.records read.records c.loop-next.invariant.going told.read told.cause (ap (λ (x : Logged _). x.records) told.same)

module _ (g : Over) (c : In_ok-make_way g) where
  -- a page was brought into a frame
  way_going : IsGoingOn g.P.PageDevice g.L.LogDevice c.args.pages.now c.args.log.now.device c.args.log.now.records c.loop-next.pages c.undo_record.new.log.device c.undo_record.new.log.records → IsGoingOn g.P.PageDevice g.L.LogDevice c.args.pages.now c.args.log.now.device c.args.log.now.records c.make_way.new.pages c.make_way.new.log.device c.make_way.new.log.records
  way_going going = (let way = c.in_ok-make_way.ensures.made in going_way g.P.PageDevice g.L.LogDevice g.met.L.LogDevice.only_now c.args.pages.now c.loop-next.pages c.make_way.new.pages c.args.log.now.device c.undo_record.new.log c.make_way.new.log c.args.log.now.records _ going way way.counted)

  way_records : c.make_way.new.log.records ≡ c.loop-next.log.records
  way_records = c.in_ok-make_way.ensures.made.records ∙ ap (λ (x : Logged _). x.records) c.in_ok-undo.ensures.same

-- no device was called for the record that is made
honest_before : (g : Over) (c : After-append g) → HaveBeenHonest g.P.PageDevice g.L.LogDevice c.append.new.pages.device c.append.new.log.device → HaveBeenHonest g.P.PageDevice g.L.LogDevice c.make_way.new.pages.device c.make_way.new.log.device
honest_before g c h = (subst g.P.PageDevice.honest c.append.ensures.pages_device h.0, subst g.L.LogDevice.honest c.append.ensures.device h.1)

pub loop-next-init : goal.loop-next-init
loop-next-init g c = record {
  found = c.requires.found;
  follow = c.requires.follow;
  undoing = λ h. record { front = []; are = refl; undoes = tt };
  going = going_from g.P.PageDevice g.L.LogDevice g.met.L.LogDevice.only_now c.args.pages.now c.args.log.now.device c.args.log.now.records;
  running = c.requires.running;
  held = c.requires.held;
  room = refl;
  planner = refl;
  way = λ h f so are. so;
}

pub loop-next-smaller : goal.loop-next-smaller
loop-next-smaller g c =
    let made = c.in_ok-append.ensures in
    let r = c.in_ok-undo.undo in
    like_undo_less c.loop-next.log.records c.loop-next.analysis.open_work r c.loop-next.invariant.found.open_work c.in_ok-undo.ensures.like c.append.new.analysis.open_work c.append.new.log.records (made.records ∙ ap (λ (l : List Record). r ∷ l) (way_records g (goal.at.loop-next-smaller g c).In_ok-make_way)) made.found.open_work

pub loop-next-preserved : goal.loop-next-preserved
loop-next-preserved g c =
    let p = g.P.PageDevice in
    let l = g.L.LogDevice in
    let kept = c.loop-next.invariant in
    let told = c.in_ok-undo.ensures in
    let way = c.in_ok-make_way.ensures.made in
    let made = c.in_ok-append.ensures in
    let first = c.args.log.now in
    let log = c.loop-next.log in
    let mid = c.make_way.new.pages in
    let then = c.make_way.new.log in
    let new = c.append.new.pages in
    let now = c.append.new.log in
    let r = c.in_ok-undo.undo in
    let at = goal.at.loop-next-preserved g c in
    record {
      found = made.found;
      follow = made.follow;
      undoing = λ h. (let there : l.honest c.undo_record.new.log.device = way.honest (subst l.honest made.device h) in
          subst (IsUndoing first.records) (sym (made.records ∙ ap (λ (rs : List Record). r ∷ rs) (way_records g at.In_ok-make_way))) (undoing_more first.records log.records r (kept.undoing (told.read.honest there)) (subst (λ h. IsNextUndo h r) kept.found.open_work (told.is there))));
      going = going_made p l c.args.pages.now mid new first.device then.device now.device first.records then.records now.records c.append.result (way_going g at.In_ok-make_way (read_going g at.In_ok-undo)) c.append.ensures.goes_on (ap p.faults made.pages_device, ap l.faults made.device) r (like_is_no_base c.loop-next.analysis.open_work r told.like) made.records (λ t. made.repeated t.1);
      running = made.running;
      held = subst NoneHeld (sym made.frames) way.held;
      room = made.room ∙ way.room ∙ ap (λ (x : Logged _). x.reserved) told.same ∙ kept.room;
      planner = made.planner ∙ told.planner ∙ kept.planner;
      way = λ hh f so are.
          let h = honest_before g at.After-append hh in
          let s = read_stands g at.After-undo_record (way.kept.honest h.0, way.honest h.1) f so are in
          let d = (way.way h f s.0 s.1).0 in
          records_stand p l g.met.P.PageDevice.only_now g.met.P.PageDevice.counts_now g.met.L.LogDevice.counts_now f mid then d new now made.sizes made.pages_device made.device
          (subst (IsAddedOn (before p l f) then.records) (sym made.records) (undo_added (before p l f) then.records c.loop-next.analysis.open_work r (told.is (way.honest h.1))))
          (λ repeated. subst (λ (rs : List Record). Repeats f.sizes rs f.images (paged new)) (sym made.records) (paged mid, before_from (paged mid ≡ f.images) r (like_is_no_base c.loop-next.analysis.open_work r told.like) repeated, subst (λ (z : Sizes). IsRecordRedone z then.records r (paged mid) (paged new)) d.sizes (made.repeated hh.1)));
    }

-- ---- what is to be undone was not told again

pub returns-in_err-undo-clause-stops : goal.returns-in_err-undo-clause-stops
returns-in_err-undo-clause-stops g c =
    let kept = c.loop-next.invariant in
    let told = c.in_err-undo.ensures in
    let first = c.args.log.now in
    let start = c.args.pages.now in
    let old = c.loop-next.pages in
    let log = c.loop-next.log in
    let e = c.in_err-undo.field-0.0 in
    handed_stops _ c.from_residual.result e (search rules) (λ t images from.
    let there = told.read.honest t.1 in
    going_waits start.sizes old.sizes first.records log.records (paged start) (paged old) kept.going.goes.sizes (kept.going.repeated (t.0, there)) (kept.undoing there) g.L.LogDevice log.device c.undo_record.new.log.device c.loop-next.analysis.open_work c.in-Some.next e kept.found.open_work c.in-Some.ensures.some told.err t.1 images)

pub returns-in_err-undo-clause-goes_on : goal.returns-in_err-undo-clause-goes_on
returns-in_err-undo-clause-goes_on g c =
    let p = g.P.PageDevice in
    let l = g.L.LogDevice in
    let told = c.in_err-undo.ensures in
    let start = c.args.pages.now in
    let first = c.args.log.now in
    let old = c.loop-next.pages in
    let log = c.loop-next.log in
    let read = c.undo_record.new.log in
    let e = c.in_err-undo.field-0.0 in
    goes_refused (Err e) c.from_residual.result e refl (search rules)
    (going_then p l start old old first.device log.device read.device first.records log.records read.records (Err e) c.loop-next.invariant.going
    (goes_through_log p l g.met.L.LogDevice.only_now {X = Unit {0}} old log.device read.device log.records [] read.records (Err e) told.read tt (not_undone_fails l p old.device old.device c.in-Some.next (length log.records) log.device read.device e refl told.err) (ap (λ (x : Logged _). x.records) told.same)))

pub returns-in_err-undo-clause-way : goal.returns-in_err-undo-clause-way
returns-in_err-undo-clause-way g c = λ h f so are. handed_way _ _ c.from_residual.result c.in_err-undo.field-0.0 (search rules) (read_stands g (goal.at.returns-in_err-undo-clause-way g c).After-undo_record h f so are).0.on.path

-- ---- its page was not brought into a frame

pub returns-in_err-make_way-clause-stops : goal.returns-in_err-make_way-clause-stops
returns-in_err-make_way-clause-stops g c =
    let p = g.P.PageDevice in
    let l = g.L.LogDevice in
    let kept = c.loop-next.invariant in
    let told = c.in_ok-undo.ensures in
    let way = c.in_err-make_way.ensures.made in
    let first = c.args.log.now in
    let start = c.args.pages.now in
    let old = c.loop-next.pages in
    let log = c.loop-next.log in
    let mid = c.make_way.new.pages in
    let then = c.make_way.new.log in
    let e = c.in_err-make_way.field-0.0 in
    handed_stops _ c.from_residual-in_err-make_way.result e (search rules) (λ t images from.
    let read = way.honest t.1 in
    let before = told_first p l start old mid log.device then.device way.kept.honest (λ k. told.read.honest (way.honest k)) t in
    let here = told_behind p l start old mid first.device log.device then.device first.records log.records _ kept.going.goes t in
    going_without start.sizes old.sizes first.records log.records (paged start) (paged old) kept.going.goes.sizes (kept.going.repeated before) (kept.undoing before.1) c.in_ok-undo.undo c.loop-next.analysis.open_work e kept.found.open_work (told.is read) (way.told here.0) images from)

pub returns-in_err-make_way-clause-goes_on : goal.returns-in_err-make_way-clause-goes_on
returns-in_err-make_way-clause-goes_on g c =
    let p = g.P.PageDevice in
    let l = g.L.LogDevice in
    let first = c.args.log.now in
    let old = c.loop-next.pages in
    let read = c.undo_record.new.log in
    let mid = c.make_way.new.pages in
    let then = c.make_way.new.log in
    goes_refused c.make_way.result c.from_residual-in_err-make_way.result c.in_err-make_way.field-0.0 c.in_err-make_way.was (search rules)
    (going_then p l c.args.pages.now old mid first.device read.device then.device first.records read.records then.records c.make_way.result (read_going g (goal.at.returns-in_err-make_way-clause-goes_on g c).In_ok-undo) (goes_making_way p l g.met.L.LogDevice.only_now old mid read then c.make_way.result c.make_way.ensures.made))

pub returns-in_err-make_way-clause-way : goal.returns-in_err-make_way-clause-way
returns-in_err-make_way-clause-way g c = λ h f so are.
    let way = c.in_err-make_way.ensures.made in
    let s = read_stands g (goal.at.returns-in_err-make_way-clause-way g c).After-undo_record (way.kept.honest h.0, way.honest h.1) f so are in
    handed_way _ _ c.from_residual-in_err-make_way.result c.in_err-make_way.field-0.0 (search rules) (way.way h f s.0 s.1).1

-- ---- the record that undoes it was not made

pub append-requires-clause-range : goal.append-requires-clause-range
append-requires-clause-range g c = λ are. like_undo_range c.loop-next.log.records c.loop-next.analysis.open_work c.in_ok-undo.undo c.loop-next.invariant.found.open_work c.in_ok-undo.ensures.like (subst AreSpelled (way_records g (goal.at.append-requires-clause-range g c).In_ok-make_way) are)

pub returns-in_err-append-clause-stops : goal.returns-in_err-append-clause-stops
returns-in_err-append-clause-stops g c =
    let p = g.P.PageDevice in
    let l = g.L.LogDevice in
    let kept = c.loop-next.invariant in
    let told = c.in_ok-undo.ensures in
    let made = c.in_err-append.ensures in
    let first = c.args.log.now in
    let start = c.args.pages.now in
    let mid = c.make_way.new.pages in
    let then = c.make_way.new.log in
    let e = c.in_err-append.field-0.0 in
    let at = goal.at.returns-in_err-append-clause-stops g c in
    let all = way_records g at.In_ok-make_way in
    let going = way_going g at.In_ok-make_way (read_going g at.In_ok-undo) in
    handed_stops _ c.from_residual-in_err-append.result e (search rules) (λ t images from.
    let before = told_first p l start mid c.append.new.pages then.device c.append.new.log.device (subst p.honest made.pages_device) (subst l.honest made.device) t in
    let there = c.in_ok-make_way.ensures.made.honest before.1 in
    going_stops start.sizes mid.sizes first.records then.records (paged start) (paged mid) going.goes.sizes (going.repeated before) (subst (IsUndoing first.records) (sym all) (kept.undoing (told.read.honest there))) c.in_ok-undo.undo c.loop-next.analysis.open_work e (kept.found.open_work ∙ ap open_work_of (sym all)) (told.is there) (made.stops t.1) images from)

pub returns-in_err-append-clause-goes_on : goal.returns-in_err-append-clause-goes_on
returns-in_err-append-clause-goes_on g c =
    let first = c.args.log.now in
    let then = c.make_way.new.log in
    let now = c.append.new.log in
    let at = goal.at.returns-in_err-append-clause-goes_on g c in
    goes_refused c.append.result c.from_residual-in_err-append.result c.in_err-append.field-0.0 c.in_err-append.was (search rules)
    (going_then g.P.PageDevice g.L.LogDevice c.args.pages.now c.make_way.new.pages c.append.new.pages first.device then.device now.device first.records then.records now.records c.append.result (way_going g at.In_ok-make_way (read_going g at.In_ok-undo)) c.append.ensures.goes_on)

pub returns-in_err-append-clause-way : goal.returns-in_err-append-clause-way
returns-in_err-append-clause-way g c = λ hh f so are.
    let way = c.in_ok-make_way.ensures.made in
    let made = c.in_err-append.ensures in
    let at = goal.at.returns-in_err-append-clause-way g c in
    let h = honest_before g at.After-append hh in
    let s = read_stands g at.After-undo_record (way.kept.honest h.0, way.honest h.1) f so are in
    handed_way _ _ c.from_residual-in_err-append.result c.in_err-append.field-0.0 (search rules)
    (kept_alike g.P.PageDevice g.L.LogDevice f c.make_way.new.pages.device c.append.new.pages.device c.make_way.new.log.device c.append.new.log.device made.pages_device made.device (way.way h f s.0 s.1).0.on.path)

pub returns-clause-way : goal.returns-clause-way
returns-clause-way g c = λ h f so are. (c.loop-next.invariant.way h f so are, tt)
