use Rattle.std.proofs.Common.{◌≡◌, ◌∙◌, ◌<◌, ℕ, List, true, false, slice_set, arith, sym, ap, subst, inl, inr}
use Rattle.std.proofs.lemmas.Bool.{cases_eq}
use Rattle.std.proofs.lemmas.List.{get_or-set_other}
use Rattle.rq_disk.specs.Device.{Holds}
use Rattle.rq_disk.specs.Device.PageAsk.{Writes}
use Rattle.rq_page.specs.Sizes.{page_count}
use Rattle.rq_pool.specs.Pooled.{is_changed}
use Rattle.rq_pool.specs.Writing.{MayHaveWritten}
use Rattle.rq_pool.specs.Frames.{changed_of, images_of}
use Rattle.rq_pool.proofs.Over.{over_written}
use Rattle.rq_pool.proofs.Seated.{may_be_written, stands_as}
use Rattle.rq_pool.proofs.Ties.{tied_fewer}
use Rattle.rq_pool.proofs.Pages.write_back.Goals as goal

pub invariant_of-self : goal.invariant_of-self
invariant_of-self g c =
    let P = g.P.PageDevice in
    let s = c.self.inside in
    let i = c.self.invariant in
    let n = c.args.page in
    let at = stands_as s.entries.items s.frames.items i.4 n c.place-place.result (rw (← c.self.view_is) at c.place-place.ensures.within) (rw (← c.self.view_is) at c.place-place.ensures.page) c.index-frame.result.now c.index-frame.ensures in
    let was : is_changed (changed_of s.entries.items) n ≡ true = sym (rw c.deref.ensures.value at c.was_changed.ensures) ∙ c.if-not-was_changed.false in
    let high : n < page_count s.layout = omega (arith, c.if-page-pages.false, c.pages.ensures.number) in
    let images = images_of s.entries.items in
    let changed = changed_of s.entries.items in
    let m = c.mark.ensures in
    let holds = subst (λ (b : List ℕ). Holds (P.seen s.device) n b (P.seen c.write.new.device)) at c.in-Ok.ensures.holds in (
      rw (m.images, m.changed) (over_written P s.layout images changed s.device c.write.new.device i.0 n high c.in-Ok.ensures.wrote.honest holds),
      rw (m.images) i.1,
      rw (m.images) i.2,
      i.3,
      rw (m.images, m.changed, m.places) (tied_fewer _ _ _ _ _ i.4 (slice_set changed n false)
          (λ p e. elim (cases_eq p n) [
            | inl here ↦ ap (is_changed changed) here ∙ was
            | inr other ↦ sym (get_or-set_other changed n p false false other) ∙ e
          ])),
      rw (m.images, m.places) i.5,
    )

pub returns-in-Ok-clause-answer : goal.returns-in-Ok-clause-answer
returns-in-Ok-clause-answer g c =
    let s = c.self.inside in
    let at = stands_as s.entries.items s.frames.items c.self.invariant.4 c.args.page c.place-place.result (rw (← c.self.view_is) at c.place-place.ensures.within) (rw (← c.self.view_is) at c.place-place.ensures.page) c.index-frame.result.now c.index-frame.ensures in
    let was : is_changed (changed_of s.entries.items) c.args.page ≡ true = sym (rw c.deref.ensures.value at c.was_changed.ensures) ∙ c.if-not-was_changed.false in
    let high : c.args.page < page_count s.layout = omega (arith, c.if-page-pages.false, c.pages.ensures.number) in
    rw (← c.self.view_is) (may_be_written _ c.args.page c.lsn.result c.args.forced c.index-frame.result.now.page high was at c.lsn.ensures c.if-lsn-forced.false)

pub returns-in-Ok-clause-device : goal.returns-in-Ok-clause-device
returns-in-Ok-clause-device g c =
    let P = g.P.PageDevice in
    let s = c.self.inside in
    let at = stands_as s.entries.items s.frames.items c.self.invariant.4 c.args.page c.place-place.result (rw (← c.self.view_is) at c.place-place.ensures.within) (rw (← c.self.view_is) at c.place-place.ensures.page) c.index-frame.result.now c.index-frame.ensures in
    rw (← c.self.view_is) (
      subst (λ (b : List ℕ). Holds (P.seen s.device) c.args.page b (P.seen c.write.new.device)) at c.in-Ok.ensures.holds,
      subst (λ (b : List ℕ). MayHaveWritten P c.args.page b s.device c.write.new.device) at c.in-Ok.ensures.wrote,
      c.in-Ok.ensures.cause,
    )

pub returns-in-Err-clause-answer : goal.returns-in-Err-clause-answer
returns-in-Err-clause-answer g c =
    let s = c.self.inside in
    let at = stands_as s.entries.items s.frames.items c.self.invariant.4 c.args.page c.place-place.result (rw (← c.self.view_is) at c.place-place.ensures.within) (rw (← c.self.view_is) at c.place-place.ensures.page) c.index-frame.result.now c.index-frame.ensures in
    let was : is_changed (changed_of s.entries.items) c.args.page ≡ true = sym (rw c.deref.ensures.value at c.was_changed.ensures) ∙ c.if-not-was_changed.false in
    let high : c.args.page < page_count s.layout = omega (arith, c.if-page-pages.false, c.pages.ensures.number) in
    rw (c.in-Err.ensures.err, ← c.self.view_is) (may_be_written _ c.args.page c.lsn.result c.args.forced c.index-frame.result.now.page high was at c.lsn.ensures c.if-lsn-forced.false)

pub returns-in-Err-clause-device : goal.returns-in-Err-clause-device
returns-in-Err-clause-device g c =
    let P = g.P.PageDevice in
    let s = c.self.inside in
    let at = stands_as s.entries.items s.frames.items c.self.invariant.4 c.args.page c.place-place.result (rw (← c.self.view_is) at c.place-place.ensures.within) (rw (← c.self.view_is) at c.place-place.ensures.page) c.index-frame.result.now c.index-frame.ensures in
    rw (c.in-Err.ensures.err, ← c.self.view_is) (subst (λ (b : List ℕ). MayHaveWritten P c.args.page b s.device c.write.new.device) at c.in-Err.ensures.wrote, c.in-Err.ensures.failed)

pub returns-in-Err-clause-excused : goal.returns-in-Err-clause-excused
returns-in-Err-clause-excused g c =
    let P = g.P.PageDevice in
    let s = c.self.inside in
    let at = stands_as s.entries.items s.frames.items c.self.invariant.4 c.args.page c.place-place.result (rw (← c.self.view_is) at c.place-place.ensures.within) (rw (← c.self.view_is) at c.place-place.ensures.page) c.index-frame.result.now c.index-frame.ensures in
    rw (← c.self.view_is) (λ _. subst (λ (b : List ℕ). P.excuse (Writes c.args.page b) s.device c.write.new.device) at c.in-Err.ensures.excused)
