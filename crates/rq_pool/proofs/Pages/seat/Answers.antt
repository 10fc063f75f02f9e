use Rattle.std.proofs.Common.{◌≡◌, ◌≢◌, ◌∙◌, sym, ap, subst, List, Option, None, Some, slice_set, ℕ}
use Rattle.std.proofs.lemmas.Bool.{true≢false}
use Rattle.std.proofs.lemmas.List.{length-map}
use Rattle.rq_pool.specs.Held.{Held, fixed_at, nothing_held}
use Rattle.rq_pool.specs.Pooled.{Pooled}
use Rattle.rq_pool.specs.Frames.{MayBeApart, changed_of, frames_of, held_of, images_of, pages_of, places_of}
use Rattle.rq_pool.proofs.Tabled.{read_at}
use Rattle.rq_pool.proofs.Ties.{first_set, tied_put}
use Rattle.rq_pool.proofs.Pages.seat.Goals as goal

pub invariant_of-self : goal.invariant_of-self
invariant_of-self g c =
    let i = c.self.invariant in
    let s = c.self.inside in
    let tied = i.4 in
    let images = images_of s.entries.items in
    let places = places_of s.entries.items in
    let frames = frames_of s.frames.items in
    let number = c.args.number in
    let place = c.args.place in
    let lt = rw (← c.self.view_is) at c.requires.within in
    let free = rw (← c.self.view_is) at c.requires.free in
    let clean = rw (← c.self.view_is) at c.requires.clean in
    let is : s.apart ≡ Some number = ap (λ (p : Pooled _). p.apart) c.self.view_is ∙ c.requires.apart in
    let apart = subst (λ (o : Option ℕ). MayBeApart images places o s.spare) is i.5 in
    let behind : place ≢ 0 = λ first. true≢false (sym i.3.fixed ∙ ap (fixed_at frames) (sym first) ∙ free) in
    let im = c.set_place-2.ensures.images ∙ c.set_place.ensures.images in
    let ch = c.set_place-2.ensures.changed ∙ c.set_place.ensures.changed in
    let gone = sym (ap (λ (h : Held). h.page) (read_at held_of s.frames.items place c.index.result.now nothing_held (rw (← length-map s.frames.items held_of) lt) c.index.ensures)) in
    let pl = c.set_place-2.ensures.places ∙ ap (λ (l : List (Option ℕ)). slice_set l number (Some place)) c.set_place.ensures.places
    ∙ ap (λ (v : ℕ). slice_set (slice_set places v None) number (Some place)) gone in (
      rw (im, ch) i.0,
      rw im i.1,
      rw im i.2,
      rw (c.put.ensures.frames) (first_set frames place _ i.3 behind),
      rw (im, ch, pl, c.put.ensures.frames, c.put.ensures.pages) (tied_put images (changed_of s.entries.items) places frames (pages_of s.frames.items) tied place number s.spare lt clean (rw tied.count apart.high) apart.none apart.is),
      tt,
    )
