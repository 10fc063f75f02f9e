use Rattle.std.proofs.Common.{ℕ, ◌≤◌, ◌<◌, length, ◌≡◌, ◌+◌, ◌/◌, ◌%◌, sym, ap, ◌∙◌, subst, arith, ◌∷◌, List, Bool, true, slice_set}
use Rattle.rq_store.specs.State.{State}
use Rattle.rq_txn.specs.Rows.{change_row, row_stepped}
use Rattle.rq_page.specs.Sizes.{Sizes, page_count}
use Rattle.rq_pool.specs.Held.{Held}
use Rattle.rq_page.specs.Pages.{IsWritten}
use Rattle.rq_page.specs.Formatted.{IsFormatted, IsHeaderOf}
use Rattle.rq_page.specs.Slots.{IsSlotOf, held_in}
use Rattle.rq_views.specs.Log.{put}
use Rattle.rq_views.specs.Stored.{slots_in}
use Rattle.rq_store.specs.Fitting.{image_in}
use Rattle.rq_store.specs.Steps.{IsPutIn, page_op}
use Rattle.rq_engine.specs.Answers.{IsUnderWay}
use Rattle.rq_engine.specs.Opened.{OpenStore}
use Rattle.rq_engine.proofs.Calls.{Next, MakesNext, under_is, going_range, going_owed, next_slot, next_room, next_more, next_kept}
use Rattle.rq_planner.proofs.Knowing.{knows_put}
use Rattle.rq_engine.proofs.Opened.{state_is, changed_is}
use Rattle.rq_engine.proofs.Frames.{fixed_stepped, next_framed}
use Rattle.rq_engine.proofs.engine.Engine.make_next.Goals as goal

pub append_page_op-lsn-requires-clause-record : goal.append_page_op-lsn-requires-clause-record
append_page_op-lsn-requires-clause-record g c =
    let now = under_is _ _ (state_is c.self.view_is) c.args.sub _ c.in-Some.ensures (MakesNext c.in-Some-next_write.write.now) c.in-Some-next_write.ensures in
    let h = subst (λ (s : State). IsUnderWay s c.args.sub (Next c.in-Some-next_write.write.now)) (sym (state_is c.self.view_is)) now in
    let r = going_range _ _ _ _ c.self.invariant.kept c.args.sub (Next c.in-Some-next_write.write.now) h in
    let p = (next_slot _ _ _ _ c.self.invariant.kept c.args.sub c.in-Some-next_write.write.now h).place.slot in
    let e : c.slot.result ≡ c.in-Some-next_write.write.now.at % 16 = c.slot.ensures in
    (r.0, r.1, (omega (arith, p, e), omega (arith, e)))

pub append_page_op-lsn-requires-clause-room : goal.append_page_op-lsn-requires-clause-room
append_page_op-lsn-requires-clause-room g c =
    let now = under_is _ _ (state_is c.self.view_is) c.args.sub _ c.in-Some.ensures (MakesNext c.in-Some-next_write.write.now) c.in-Some-next_write.ensures in
    let h = subst (λ (s : State). IsUnderWay s c.args.sub (Next c.in-Some-next_write.write.now)) (sym (state_is c.self.view_is)) now in
    next_room _ _ _ _ c.self.invariant.kept c.args.sub c.in-Some-next_write.write.now h

pub set_slot-requires-clause-place : goal.set_slot-requires-clause-place
set_slot-requires-clause-place g c =
    let now = under_is _ _ (state_is c.self.view_is) c.args.sub _ c.in-Some.ensures (MakesNext c.in-Some-next_write.write.now) c.in-Some-next_write.ensures in
    let h = subst (λ (s : State). IsUnderWay s c.args.sub (Next c.in-Some-next_write.write.now)) (sym (state_is c.self.view_is)) now in
    (next_slot _ _ _ _ c.self.invariant.kept c.args.sub c.in-Some-next_write.write.now h).place

pub set_slot-requires-clause-framed : goal.set_slot-requires-clause-framed
set_slot-requires-clause-framed g c =
    let now = under_is _ _ (state_is c.self.view_is) c.args.sub _ c.in-Some.ensures (MakesNext c.in-Some-next_write.write.now) c.in-Some-next_write.ensures in
    let h = subst (λ (s : State). IsUnderWay s c.args.sub (Next c.in-Some-next_write.write.now)) (sym (state_is c.self.view_is)) now in
    next_framed _ _ _ _ c.self.invariant.kept c.args.sub c.in-Some-next_write.write.now h c.self.inside.pages.frames c.self.invariant.frames_are

pub set_slot-requires-clause-image : goal.set_slot-requires-clause-image
set_slot-requires-clause-image g c =
    let now = under_is _ _ (state_is c.self.view_is) c.args.sub _ c.in-Some.ensures (MakesNext c.in-Some-next_write.write.now) c.in-Some-next_write.ensures in
    let h = subst (λ (s : State). IsUnderWay s c.args.sub (Next c.in-Some-next_write.write.now)) (sym (state_is c.self.view_is)) now in
    (next_slot _ _ _ _ c.self.invariant.kept c.args.sub c.in-Some-next_write.write.now h).after

pub step-requires : goal.step-requires
step-requires g c =
    let now = under_is _ _ (state_is c.self.view_is) c.args.sub _ c.in-Some.ensures (MakesNext c.in-Some-next_write.write.now) c.in-Some-next_write.ensures in
    let h = subst (λ (s : State). IsUnderWay s c.args.sub (Next c.in-Some-next_write.write.now)) (sym (state_is c.self.view_is)) now in
    next_more _ _ _ _ c.self.invariant.kept c.args.sub c.in-Some-next_write.write.now h

pub overflow_sub-self : goal.overflow_sub-self
overflow_sub-self g c =
    let now = under_is _ _ (state_is c.self.view_is) c.args.sub _ c.in-Some.ensures (MakesNext c.in-Some-next_write.write.now) c.in-Some-next_write.ensures in
    let h = subst (λ (s : State). IsUnderWay s c.args.sub (Next c.in-Some-next_write.write.now)) (sym (state_is c.self.view_is)) now in
    going_owed _ _ _ _ c.self.invariant.kept c.args.sub (Next c.in-Some-next_write.write.now) h

pub invariant_of-self : goal.invariant_of-self
invariant_of-self g c =
    let now = under_is _ _ (state_is c.self.view_is) c.args.sub _ c.in-Some.ensures (MakesNext c.in-Some-next_write.write.now) c.in-Some-next_write.ensures in
    let h = subst (λ (s : State). IsUnderWay s c.args.sub (Next c.in-Some-next_write.write.now)) (sym (state_is c.self.view_is)) now in
    let room : c.append_page_op-lsn.new.self.reserved + 546 ≡ c.self.inside.log.reserved = (c.append_page_op-lsn.ensures.reserved) in
    let failed : c.self.inside.log.failed ≡ c.append_page_op-lsn.new.self.failed = c.self.invariant.kept.fails (ap (λ (s : State). s.failed) (state_is c.self.view_is) ∙ c.in_ok-check_running.ensures.running) ∙ sym c.append_page_op-lsn.ensures.failed in
    record {
      kept = rw (c.step.ensures, c.set_slot.ensures.sizes, c.append_page_op-lsn.ensures.records, c.append_page_op-lsn.ensures.forced, sym failed)
          (next_kept _ _ _ _ c.self.invariant.kept c.args.sub c.in-Some-next_write.write.now h _ c.set_slot.new.self.images c.append_page_op-lsn.new.self.reserved room);
      durable = rw (c.append_page_op-lsn.ensures.settled) c.self.invariant.durable;
      cells = rw (c.set_slot.ensures.sizes)
          (knows_put c.self.inside.pages.sizes c.self.inside.pages.images c.set_slot.new.self.images c.self.inside.planner c.noted.new.self c.in-Some-next_write.write.now.at c.in-Some-next_write.write.now.after _
          (next_slot _ _ _ _ c.self.invariant.kept c.args.sub c.in-Some-next_write.write.now h).place c.set_slot.ensures.page c.set_slot.ensures.others c.noted.ensures c.self.invariant.cells);
      frames_are = rw (c.step.ensures, c.set_slot.ensures.frames.0) (fixed_stepped _ _ _ _ c.self.invariant.kept c.args.sub (Next c.in-Some-next_write.write.now) h _ c.self.invariant.frames_are);
    }

pub returns-clause-made : goal.returns-clause-made
returns-clause-made g c =
    let now = under_is _ _ (state_is c.self.view_is) c.args.sub _ c.in-Some.ensures (MakesNext c.in-Some-next_write.write.now) c.in-Some-next_write.ensures in
    let h = subst (λ (s : State). IsUnderWay s c.args.sub (Next c.in-Some-next_write.write.now)) (sym (state_is c.self.view_is)) now in
    let stamp : c.append_page_op-lsn.result ≡ length c.self.inside.log.records + 1 = (let l = c.append_page_op-lsn.ensures.lsn in let r = ap length c.append_page_op-lsn.ensures.records in omega (arith, l, r)) in (
      stamp ∙ ap (λ (s : State). length s.records + 1) (state_is c.self.view_is),
      c.in-Some-next_write.write.now,
      now,
      record {
        state = rw (c.step.ensures, c.set_slot.ensures.sizes, c.append_page_op-lsn.ensures.records, c.append_page_op-lsn.ensures.forced, c.page.ensures, c.slot.ensures)
            (ap (λ (s : State). record s { rows = change_row c.args.sub.txn row_stepped s.rows; images = c.set_slot.new.self.images; records = page_op c.args.sub.txn c.args.sub.number c.in-Some-next_write.write.now ∷ s.records }) (state_is c.self.view_is));
        before = subst (λ (s : State). IsSlotOf s.sizes (c.in-Some-next_write.write.now.at / 16) (c.in-Some-next_write.write.now.at % 16) c.in-Some-next_write.write.now.before) (state_is c.self.view_is) (next_slot _ _ _ _ c.self.invariant.kept c.args.sub c.in-Some-next_write.write.now h).before;
        slot = subst (λ (s : State). IsSlotOf s.sizes (c.in-Some-next_write.write.now.at / 16) (c.in-Some-next_write.write.now.at % 16) c.in-Some-next_write.write.now.after) (state_is c.self.view_is) (next_slot _ _ _ _ c.self.invariant.kept c.args.sub c.in-Some-next_write.write.now h).after;
        slots = λ a. subst (λ (s : State). slots_in s.sizes c.set_slot.new.self.images a ≡ put (slots_in s.sizes s.images) c.in-Some-next_write.write.now.at (held_in s.sizes (c.in-Some-next_write.write.now.at / 16) c.in-Some-next_write.write.now.after) a) (state_is c.self.view_is) (c.set_slot.ensures.slots a);
        put_in = subst (λ (s : State). IsPutIn s c.in-Some-next_write.write.now c.set_slot.new.self.images) (state_is c.self.view_is) (record {
          page = subst (λ n. IsWritten (image_in c.self.inside.pages.images (c.in-Some-next_write.write.now.at / 16)) (image_in c.set_slot.new.self.images (c.in-Some-next_write.write.now.at / 16)) (c.in-Some-next_write.write.now.at % 16) c.in-Some-next_write.write.now.after n) stamp c.set_slot.ensures.page;
          others = c.set_slot.ensures.others;
          superblock = subst (λ (z : Sizes). IsFormatted z 0 (image_in c.set_slot.new.self.images 0)) c.set_slot.ensures.sizes c.set_slot.ensures.pool.superblock;
          headers = subst (λ (z : Sizes). (p : ℕ) → 1 ≤ p → p < page_count z → IsHeaderOf z p (image_in c.set_slot.new.self.images p)) c.set_slot.ensures.sizes c.set_slot.ensures.pool.headers;
        });
      },
    )

pub returns-clause-changed : goal.returns-clause-changed
returns-clause-changed g c = (
  c.in-Some-next_write.write.now.at / 16,
  c.set_slot.ensures.page.lsn,
  c.set_slot.ensures.changed ∙ ap (λ (b : List Bool). slice_set b (c.in-Some-next_write.write.now.at / 16) true) (changed_is c.self.view_is),
)

pub returns-clause-count : goal.returns-clause-count
returns-clause-count g c = ap (λ (l : List Held). length l) c.set_slot.ensures.frames.0 ∙ ap (λ (o : OpenStore _ _). length o.frames) c.self.view_is
