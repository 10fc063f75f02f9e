use Rattle.std.proofs.Common.{◌≡◌, ◌+◌, ◌*◌, ℕ, Err, List, true, ap, length, refl, subst, sym, ◌∙◌}
use Rattle.rq_pool.specs.Held.{IsFixed}
use Rattle.rq_pool.specs.Want.{AreOfStore, NoneFixed, StayFixed, among}
use Rattle.rq_pool.proofs.KeptUp.{kept_still, kept_then}
use Rattle.rq_sound.specs.Plans.{AreUnlatched}
use Rattle.rq_store.specs.State.{State}
use Rattle.rq_txn.specs.Rows.{under_of}
use Rattle.rq_engine.specs.Answers.{HasNothingUnderWay}
use Rattle.rq_engine.specs.Frames.{IsForFrames, pages_of}
use Rattle.rq_engine.specs.Opened.{OpenStore, pooled}
use Rattle.rq_engine.specs.Invariant.{end_bytes}
use Rattle.rq_engine.specs.Sends.{FitsUnder, HasRoom}
use Rattle.rq_engine.proofs.Frames.{fixed_left, fixed_start, none_fixed, pages_stored, stay_then}
use Rattle.rq_engine.proofs.Keeping.{kept_device, kept_read}
use Rattle.rq_engine.proofs.KeptUp.{knows_kept_up, not_failed_by, not_fixed_counts, not_fixed_frames, stay_framed}
use Rattle.rq_engine.proofs.SendCalls.{start_kept}
use Rattle.rq_engine.proofs.Opened.{state_is}
use Rattle.rq_engine.proofs.engine.Engine.launch.Goals as goal

pub fix_all-requires-clause-of_store : goal.fix_all-requires-clause-of_store
fix_all-requires-clause-of_store g c =
    let fits = subst (λ (s : State). FitsUnder s.sizes (under_of c.args.operation)) (sym (state_is c.self.view_is)) c.requires.fits in
    rw (c.as_slice.ensures, c.of-pages.ensures, c.deref.ensures.value) (pages_stored c.self.inside.pages.sizes c.args.operation.writes.items fits.slots)

pub fix_all-requires-clause-free : goal.fix_all-requires-clause-free
fix_all-requires-clause-free g c =
    let fits = subst (λ (s : State). FitsUnder s.sizes (under_of c.args.operation)) (sym (state_is c.self.view_is)) c.requires.fits in
    let free = subst (λ (s : State). AreUnlatched s c.args.operation.writes.items) (sym (state_is c.self.view_is)) c.requires.unlatched in
    rw (c.as_slice.ensures, c.of-pages.ensures, c.deref.ensures.value) (none_fixed c.self.inside.transactions c.args.operation.writes.items c.self.inside.pages.frames c.self.invariant.frames_are free c.self.inside.pages.sizes fits.slots)

-- frames or a device failed it: none of its pages is fixed
pub invariant_of-self : goal.invariant_of-self
invariant_of-self g c =
    let free = subst (λ (s : State). AreUnlatched s c.args.operation.writes.items) (sym (state_is c.self.view_is)) c.requires.unlatched in
    let ps : c.as_slice.result.now ≡ pages_of c.args.operation.writes.items = c.as_slice.ensures ∙ c.of-pages.ensures ∙ ap pages_of c.deref.ensures.value in
    record {
      kept = rw (c.fix_all.ensures.kept.sizes, c.fails_by-self-inside.ensures) (kept_read c.fix_all.new.self.images (kept_device _ _ c.self.inside.log.failed _ _ _ c.self.inside.log.forced _ _ c.self.invariant.kept refl refl (λ e. c.self.invariant.kept.fails (not_failed_by c.self.inside.failed c.in-Err.refusal e))));
      durable = c.self.invariant.durable;
      cells = knows_kept_up g.P.PageDevice c.forced.result c.self.inside.pages c.fix_all.new.self c.self.inside.planner c.fix_all.ensures.kept c.self.invariant.cells;
      frames_are = fixed_left c.self.inside.transactions c.args.operation.writes.items c.self.inside.pages.frames c.self.invariant.frames_are free c.fix_all.new.self.frames
          (subst (λ (l : List ℕ). NoneFixed l c.fix_all.new.self.frames) ps c.in-Err.ensures.left) (subst (λ (l : List ℕ). StayFixed l c.self.inside.pages.frames c.fix_all.new.self.frames) ps c.fix_all.ensures.stay);
    }

-- it begins
pub invariant_of-self-in-Ok-enlist : goal.invariant_of-self-in-Ok-enlist
invariant_of-self-in-Ok-enlist g c =
    let ready = subst (λ (s : State). HasNothingUnderWay s c.args.txn c.args.operation.number) (sym (state_is c.self.view_is)) c.requires.ready in
    let fits = subst (λ (s : State). FitsUnder s.sizes (under_of c.args.operation)) (sym (state_is c.self.view_is)) c.requires.fits in
    let left = subst (λ (s : State). HasRoom s c.args.operation.writes.items) (sym (state_is c.self.view_is)) c.requires.log in
    let free = subst (λ (s : State). AreUnlatched s c.args.operation.writes.items) (sym (state_is c.self.view_is)) c.requires.unlatched in
    let ps : c.as_slice.result.now ≡ pages_of c.args.operation.writes.items = c.as_slice.ensures ∙ c.of-pages.ensures ∙ ap pages_of c.deref.ensures.value in
    record {
      kept = rw (c.fix_all.ensures.kept.sizes, c.in-Ok-enlist.ensures.log, c.in-Ok-enlist.ensures.row, c.in-Ok-enlist.ensures.records)
          (start_kept _ _ _ _ (546 * length c.args.operation.writes.items + end_bytes c.args.operation.aim) c.args.txn (under_of c.args.operation) (kept_read c.fix_all.new.self.images c.self.invariant.kept) ready left fits refl);
      durable = rw (c.in-Ok-enlist.ensures.log) c.self.invariant.durable;
      cells = knows_kept_up g.P.PageDevice c.forced.result c.self.inside.pages c.fix_all.new.self c.self.inside.planner c.fix_all.ensures.kept c.self.invariant.cells;
      frames_are = rw (c.in-Ok-enlist.ensures.row) (fixed_start c.self.inside.transactions c.args.txn c.args.operation.number c.self.invariant.kept.distinct ready (under_of c.args.operation) c.self.inside.pages.frames c.fix_all.new.self.frames free
          (subst (λ (l : List ℕ). (q : ℕ) → among l q ≡ true → IsFixed c.fix_all.new.self.frames q) ps c.in-Ok.ensures.fixed) (subst (λ (l : List ℕ). StayFixed l c.self.inside.pages.frames c.fix_all.new.self.frames) ps c.fix_all.ensures.stay) c.self.invariant.frames_are);
    }

pub let_all-requires : goal.let_all-requires
let_all-requires g c =
    let fits = subst (λ (s : State). FitsUnder s.sizes (under_of c.args.operation)) (sym (state_is c.self.view_is)) c.requires.fits in
    record { of_store = rw (c.as_slice-in-Err-enlist.ensures, c.of-pages.ensures, c.deref.ensures.value, c.fix_all.ensures.kept.sizes) (pages_stored c.self.inside.pages.sizes c.args.operation.writes.items fits.slots) }

-- memory was wanting: its pages are let go
pub invariant_of-self-in-Err-enlist : goal.invariant_of-self-in-Err-enlist
invariant_of-self-in-Err-enlist g c =
    let free = subst (λ (s : State). AreUnlatched s c.args.operation.writes.items) (sym (state_is c.self.view_is)) c.requires.unlatched in
    let ps : c.as_slice.result.now ≡ pages_of c.args.operation.writes.items = c.as_slice.ensures ∙ c.of-pages.ensures ∙ ap pages_of c.deref.ensures.value in
    let qs : c.as_slice-in-Err-enlist.result.now ≡ pages_of c.args.operation.writes.items = c.as_slice-in-Err-enlist.ensures ∙ c.of-pages.ensures ∙ ap pages_of c.deref.ensures.value in
    let same = c.in-Err-enlist.ensures.refused in
    record {
      kept = rw (c.let_all.ensures.still.sizes, c.let_all.ensures.still.images, c.fix_all.ensures.kept.sizes, same.0, same.1) (kept_read c.fix_all.new.self.images c.self.invariant.kept);
      durable = rw (same.0) c.self.invariant.durable;
      cells = rw (c.let_all.ensures.still.sizes, c.let_all.ensures.still.images) (knows_kept_up g.P.PageDevice c.forced.result c.self.inside.pages c.fix_all.new.self c.self.inside.planner c.fix_all.ensures.kept c.self.invariant.cells);
      frames_are = rw (same.1) (fixed_left c.self.inside.transactions c.args.operation.writes.items c.self.inside.pages.frames c.self.invariant.frames_are free c.let_all.new.self.frames
          (subst (λ (l : List ℕ). NoneFixed l c.let_all.new.self.frames) qs c.let_all.ensures.free)
          (stay_then (pages_of c.args.operation.writes.items) c.self.inside.pages.frames c.fix_all.new.self.frames c.let_all.new.self.frames
          (subst (λ (l : List ℕ). StayFixed l c.self.inside.pages.frames c.fix_all.new.self.frames) ps c.fix_all.ensures.stay) (subst (λ (l : List ℕ). StayFixed l c.fix_all.new.self.frames c.let_all.new.self.frames) qs c.let_all.ensures.stay)));
    }

pub returns-in-Err-clause-devices : goal.returns-in-Err-clause-devices
returns-in-Err-clause-devices g c =
    let fits = subst (λ (s : State). FitsUnder s.sizes (under_of c.args.operation)) (sym (state_is c.self.view_is)) c.requires.fits in
    let of_store : AreOfStore c.self.inside.pages.sizes c.as_slice.result.now = rw (c.as_slice.ensures, c.of-pages.ensures, c.deref.ensures.value) (pages_stored c.self.inside.pages.sizes c.args.operation.writes.items fits.slots) in
    rw (← c.self.view_is) (
      rw (← c.forced.ensures) c.fix_all.ensures.kept,
      refl,
      refl,
      c.fix_all.ensures.count,
      λ all. (let s = stay_framed c.as_slice.result.now c.self.inside.pages c.fix_all.new.self of_store c.fix_all.ensures.stood all in (s.device, s.changed, s.images)),
    )

pub returns-in-Err-clause-counts : goal.returns-in-Err-clause-counts
returns-in-Err-clause-counts g c = rw (← c.self.view_is) (not_fixed_counts g.P.PageDevice c.as_slice.result.now _ _ c.in-Err.refusal (rw (← c.forced.ensures) c.in-Err.ensures.refused))

pub returns-in-Ok-enlist-clause-devices : goal.returns-in-Ok-enlist-clause-devices
returns-in-Ok-enlist-clause-devices g c =
    let fits = subst (λ (s : State). FitsUnder s.sizes (under_of c.args.operation)) (sym (state_is c.self.view_is)) c.requires.fits in
    let of_store : AreOfStore c.self.inside.pages.sizes c.as_slice.result.now = rw (c.as_slice.ensures, c.of-pages.ensures, c.deref.ensures.value) (pages_stored c.self.inside.pages.sizes c.args.operation.writes.items fits.slots) in
    rw (← c.self.view_is, c.in-Ok-enlist.ensures.log) (
      rw (← c.forced.ensures) c.fix_all.ensures.kept,
      refl,
      refl,
      c.fix_all.ensures.count,
      λ all. (let s = stay_framed c.as_slice.result.now c.self.inside.pages c.fix_all.new.self of_store c.fix_all.ensures.stood all in (s.device, s.changed, s.images)),
    )

pub returns-in-Err-enlist-clause-devices : goal.returns-in-Err-enlist-clause-devices
returns-in-Err-enlist-clause-devices g c =
    let still = c.let_all.ensures.still in
    let fits = subst (λ (s : State). FitsUnder s.sizes (under_of c.args.operation)) (sym (state_is c.self.view_is)) c.requires.fits in
    let of_store : AreOfStore c.self.inside.pages.sizes c.as_slice.result.now = rw (c.as_slice.ensures, c.of-pages.ensures, c.deref.ensures.value) (pages_stored c.self.inside.pages.sizes c.args.operation.writes.items fits.slots) in
    rw (← c.self.view_is, c.in-Err-enlist.ensures.refused.0) (
      rw (← c.forced.ensures) (kept_then g.P.PageDevice c.forced.result c.self.inside.pages c.fix_all.new.self c.let_all.new.self c.fix_all.ensures.kept (kept_still g.P.PageDevice c.forced.result c.fix_all.new.self c.let_all.new.self still.device still.sizes still.images still.changed)),
      refl,
      refl,
      c.let_all.ensures.count ∙ c.fix_all.ensures.count,
      λ all. (let s = stay_framed c.as_slice.result.now c.self.inside.pages c.fix_all.new.self of_store c.fix_all.ensures.stood all in (still.device ∙ s.device, still.changed ∙ s.changed, still.images ∙ s.images)),
    )

pub returns-in-Err-clause-frames : goal.returns-in-Err-clause-frames
returns-in-Err-clause-frames g c =
    let ps : c.as_slice.result.now ≡ pages_of c.args.operation.writes.items = c.as_slice.ensures ∙ c.of-pages.ensures ∙ ap pages_of c.deref.ensures.value in
    let counted = (c.shows_frames.ensures.counted c.forced.result c.as_slice.result.now).0 in
    subst (λ (o : OpenStore _ _). IsForFrames {X = Unit {0}} (pooled o) o.state.forced (pages_of c.args.operation.writes.items) (Err c.in-Err.refusal)) c.self.view_is
    (subst (λ (n : ℕ). IsForFrames {X = Unit {0}} c.self.inside.pages n (pages_of c.args.operation.writes.items) (Err c.in-Err.refusal)) c.forced.ensures
    (subst (λ (l : List ℕ). IsForFrames {X = Unit {0}} c.self.inside.pages c.forced.result l (Err c.in-Err.refusal)) ps
    (not_fixed_frames g.P.PageDevice c.forced.result c.as_slice.result.now (Unit {0}) c.self.inside.pages c.fix_all.new.self c.in-Err.refusal counted c.in-Err.ensures.refused)))

pub returns-in-Ok-enlist-clause-frames : goal.returns-in-Ok-enlist-clause-frames
returns-in-Ok-enlist-clause-frames g c =
    let ps : c.as_slice.result.now ≡ pages_of c.args.operation.writes.items = c.as_slice.ensures ∙ c.of-pages.ensures ∙ ap pages_of c.deref.ensures.value in
    let counted = (c.shows_frames.ensures.counted c.forced.result c.as_slice.result.now).1 in
    rw (← c.self.view_is, ← ps, ← c.forced.ensures) (λ more. c.in-Ok.ensures.had (counted more))
