use Rattle.std.proofs.Common.{◌∙◌, ℕ, sym, ap, slice_set, inl}
use Rattle.rq_pool.specs.Frames.{frames_of}
use Rattle.rq_pool.proofs.Seated.{within}
use Rattle.rq_pool.proofs.Ties.{first_held, framed_place, held_tied, some_eq}
use Rattle.rq_pool.proofs.Pages.hold_page.Goals as goal

pub hold-requires : goal.hold-requires
hold-requires g c =
    let placed = sym (rw c.deref.ensures.value at c.place_of.ensures) ∙ c.in-Some.is in
    within c.self.inside.entries.items c.self.inside.frames.items c.self.invariant.4 c.args.number c.in-Some.place placed

pub invariant_of-self : goal.invariant_of-self
invariant_of-self g c =
    let placed = sym (rw c.deref.ensures.value at c.place_of.ensures) ∙ c.in-Some.is in
    let i = c.self.invariant in
    let tied = i.4 in
    let there = tied.there c.args.number c.in-Some.place placed in
    let page = there.page in (
      i.0,
      i.1,
      i.2,
      rw (c.hold.ensures.frames) (first_held _ c.in-Some.place c.args.number c.args.fixed i.3 page c.requires.low),
      rw (c.hold.ensures.frames, c.hold.ensures.pages) (held_tied _ _ _ _ _ tied c.in-Some.place c.args.fixed there.within),
      i.5,
    )

pub returns-in-Some-clause-frames : goal.returns-in-Some-clause-frames
returns-in-Some-clause-frames g c =
    let placed = sym (rw c.deref.ensures.value at c.place_of.ensures) ∙ c.in-Some.is in
    let s = c.self.inside in
    let frames = frames_of s.frames.items in
    let tied = c.self.invariant.4 in
    let there = tied.there c.args.number c.in-Some.place placed in
    rw (← c.self.view_is) (inl (record {
      at = c.in-Some.place;
      within = there.within;
      is = there.page;
      only = λ i lt is. some_eq i c.in-Some.place (sym (framed_place _ _ _ _ _ tied c.args.number i lt is) ∙ placed);
      now = c.hold.ensures.frames ∙ ap (λ (n : ℕ). slice_set frames c.in-Some.place (record { page = n; fixed = c.args.fixed })) there.page;
    }))
