use Rattle.std.proofs.Common.{◌∙◌, ◌<◌, ℕ, List, [], length, slice_set, refl, sym, ap, subst}
use Rattle.std.proofs.lemmas.List.{get_or-set_same, get_or-set_other, length-set, set-get_or}
use Rattle.rq_page.specs.Pages.{lsn_of}
use Rattle.rq_pool.specs.Frames.{changed_of, images_of, places_of}
use Rattle.rq_pool.specs.Indexed.{closed_groups, free_cells}
use Rattle.rq_pool.specs.Pooled.{image_at}
use Rattle.rq_pool.specs.Reading.{IsSoundPage}
use Rattle.rq_pool.proofs.Fetched.{fetched_apart, not_fetched, not_read_again}
use Rattle.rq_pool.proofs.Indexes.{cells_stand, groups_stand, index_read, index_tells, indexed_alike}
use Rattle.rq_pool.proofs.Over.{over_fixed, page_fixed, page_sound}
use Rattle.rq_pool.proofs.Ties.{outside_clean, outside_none, tied_read}
use Rattle.rq_pool.proofs.Pages.read_apart.Goals as goal

pub invariant_of-self : goal.invariant_of-self
invariant_of-self g c =
    let P = g.P.PageDevice in
    let i = c.self.invariant in
    let s = c.self.inside in
    let z = s.layout in
    let images = images_of s.entries.items in
    let places = places_of s.entries.items in
    let n = c.args.number in
    let page = c.read_again-read.new.page in
    let high = rw (← c.self.view_is) at c.requires.high in
    let none = outside_none _ _ _ _ _ i.4 n (rw (← c.self.view_is) at c.requires.outside) in
    let read = c.in-Ok.ensures in
    let set = c.set_image.ensures in
    let within : n < length images = rw i.0.pool.count high in (
      rw (set.images, set.changed) (over_fixed P z images _ s.device c.read_again-read.new.device i.0 n page c.requires.low high read.device read.ok.0 read.ok.1),
      rw (set.images) (index_read (free_cells z) z (cells_stand z) images s.free n page within i.1 read.free),
      rw (set.images) (index_read (closed_groups z) z (groups_stand z) images s.closed n page within i.2 read.closed),
      i.3,
      rw (set.images, set.changed, set.places) (tied_read _ _ _ _ _ i.4 n page none),
      rw (set.images, set.places) (record { high = rw (length-set images n page) within; none = none; is = sym (get_or-set_same images n page [] within) }),
    )

pub returns-in-Ok-clause-fetched : goal.returns-in-Ok-clause-fetched
returns-in-Ok-clause-fetched g c =
    let P = g.P.PageDevice in
    let i = c.self.invariant in
    let s = c.self.inside in
    let z = s.layout in
    let images = images_of s.entries.items in
    let changed = changed_of s.entries.items in
    let n = c.args.number in
    let page = c.read_again-read.new.page in
    let high = rw (← c.self.view_is) at c.requires.high in
    let outside = rw (← c.self.view_is) at c.requires.outside in
    let away = rw (← c.self.view_is) at c.requires.away in
    let none = outside_none _ _ _ _ _ i.4 n outside in
    let clean = outside_clean _ _ _ _ _ i.4 n none in
    let read = c.in-Ok.ensures in
    let set = c.set_image.ensures in
    let within : n < length images = rw i.0.pool.count high in
    let new : List (List ℕ) = slice_set images n page in
    let free = index_read (free_cells z) z (cells_stand z) images s.free n page within i.1 read.free in
    let closed = index_read (closed_groups z) z (groups_stand z) images s.closed n page within i.2 read.closed in
    rw (← c.self.view_is) (fetched_apart P n _ _ c.requires.low high outside away clean refl set.changed refl read.device _ refl
    (λ h. set.images ∙ ap (λ (b : List ℕ). slice_set images n b) (page_fixed P z images changed s.device c.read_again-read.new.device i.0 n page high clean read.device read.ok.0 h) ∙ set-get_or images n [])
    (ap lsn_of (ap (λ (l : List (List ℕ)). image_at l n) set.images ∙ get_or-set_same images n page [] within) ∙ read.lsn ∙ rw c.deref.ensures.value at c.lsn_of_page-lsn.ensures)
    (rw (set.images) (indexed_alike z images new s.free s.closed i.1 free i.2 closed))
    (λ p ne. ap (λ (l : List (List ℕ)). image_at l p) set.images ∙ get_or-set_other images n p page [] ne) read.cause)

pub returns-in-Err-clause-fetched : goal.returns-in-Err-clause-fetched
returns-in-Err-clause-fetched g c =
    let P = g.P.PageDevice in
    let i = c.self.invariant in
    let s = c.self.inside in
    let z = s.layout in
    let images = images_of s.entries.items in
    let changed = changed_of s.entries.items in
    let n = c.args.number in
    let high = rw (← c.self.view_is) at c.requires.high in
    let outside = rw (← c.self.view_is) at c.requires.outside in
    let away = rw (← c.self.view_is) at c.requires.away in
    let none = outside_none _ _ _ _ _ i.4 n outside in
    let clean = outside_clean _ _ _ _ _ i.4 n none in
    let e = c.in-Err.ensures in
    let is = λ (h : P.honest c.read_again-read.new.device). i.0.clean (e.device.honest h) n high clean in
    rw (← c.self.view_is) (not_fetched P n _ _ c.requires.low high outside away clean refl refl refl e.device c.in-Err.refusal refl
    (not_read_again P z s.free s.closed n c.lsn_of_page-lsn.result c.in-Err.refusal s.device c.read_again-read.new.device
    (λ h. ap lsn_of (sym (is h)) ∙ sym (rw c.deref.ensures.value at c.lsn_of_page-lsn.ensures))
    (λ h. subst (IsSoundPage z n) (is h) (page_sound z images n i.0.pool c.requires.low high))
    (λ h. index_tells (free_cells z) z (cells_stand z) images s.free n _ i.1 (is h))
    (λ h. index_tells (closed_groups z) z (groups_stand z) images s.closed n _ i.2 (is h)) e.err))
