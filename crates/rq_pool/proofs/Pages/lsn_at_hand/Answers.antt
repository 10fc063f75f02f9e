use Rattle.std.proofs.Common.{rules, [], ◌<◌, ◌≤◌, length, ◌∙◌, sym, ap, arith}
use Rattle.std.proofs.lemmas.List.{get_or-map, length-map}
use Rattle.rq_page.specs.Pages.{lsn_of}
use Rattle.rq_pool.specs.Frames.{changed_of, frames_of, held_of, images_of, page_in, pages_of, places_of}
use Rattle.rq_pool.specs.declared.Frame.{Frame}
use Rattle.rq_pool.proofs.Exchanged.{gives_way}
use Rattle.rq_pool.proofs.Pages.lsn_at_hand.Goals as goal

pub returns : goal.returns
returns g c =
    let s = c.self.inside in
    let i = c.self.invariant in
    let more = rw (← c.self.view_is) at c.requires.more in
    let loose = rw (← c.self.view_is) at c.requires.loose in
    let held = length-map s.frames.items held_of in
    let place = c.if-place-eq0.place in
    let within : (1 ≤ place) × (place < length s.frames.items) = search rules in
    let at = gives_way (images_of s.entries.items) (changed_of s.entries.items) (places_of s.entries.items) (frames_of s.frames.items) (pages_of s.frames.items) c.lsn.result place i.4 i.3 loose (let w = within.1 in omega (arith, w, held)) within.0 (let page = sym (get_or-map page_in s.frames.items place c.index.result.now [] within.1) in c.lsn.ensures ∙ ap (λ (f : Frame). lsn_of f.page) c.index.ensures ∙ ap lsn_of page) in
    rw (← c.self.view_is) (place, at)
