use Rattle.std.proofs.Common.{◌≡◌, ◌∙◌, ◌%◌, ℕ, Bool, true, List, [], ap, rules, slice_set, subst}
use Rattle.std.proofs.lemmas.List.{length-map}
use Rattle.rq_page.specs.Formatted.{IsHeaderOf}
use Rattle.rq_page.specs.Pages.{IsWritten}
use Rattle.rq_page.specs.Sizes.{Sizes}
use Rattle.rq_pool.specs.Frames.{bytes_at, changed_of, held_of, images_of, page_in, pages_of}
use Rattle.rq_pool.specs.Indexed.{closed_groups, free_cells}
use Rattle.rq_pool.proofs.Indexes.{cells_stand, groups_stand}
use Rattle.rq_pool.proofs.Seated.{placed_there}
use Rattle.rq_pool.proofs.Tabled.{read_at}
use Rattle.rq_pool.proofs.Rewritten.{apart_page, index_page, over_page, page_others, page_written, pool_written, slots_put, tied_page}
use Rattle.rq_pool.proofs.Pages.set_slot.Goals as goal

pub invariant_of-self : goal.invariant_of-self
invariant_of-self g c =
    let P = g.P.PageDevice in
    let s = c.self.inside in
    let i = c.self.invariant in
    let z = s.layout in
    let images = images_of s.entries.items in
    let changed = changed_of s.entries.items in
    let n = c.page-number.result in
    let place = c.place-place.result in
    let within = rw (← c.self.view_is) at c.place-place.ensures.within in
    let placed = placed_there s.entries.items s.frames.items i.4 n place within (rw (← c.self.view_is) at c.place-place.ensures.page) in
    let low = c.requires.place.page_low in
    let high = rw (← c.self.view_is) at c.requires.place.page_high in
    let fits = rw (← c.self.view_is) at c.requires.image in
    let wrote = c.write_slot.ensures in
    let b = c.index.result.now.page in
    let now : bytes_at (pages_of c.write_slot.new.frames.items) place ≡ b = read_at page_in c.write_slot.new.frames.items place c.index.result.now [] (rw wrote.count (rw (length-map s.frames.items held_of) at within)) c.index.ensures in
    let slot : IsWritten (bytes_at (pages_of s.frames.items) place) b (c.args.at % 16) c.args.image.now c.args.lsn =
    subst (λ (bytes : List ℕ). IsWritten (bytes_at (pages_of s.frames.items) place) bytes (c.args.at % 16) c.args.image.now c.args.lsn) now
    (subst (λ (k : ℕ). IsWritten (bytes_at (pages_of s.frames.items) place) (bytes_at (pages_of c.write_slot.new.frames.items) place) k c.args.image.now c.args.lsn) c.slot.ensures wrote.page) in
    let header = subst (λ (bytes : List ℕ). (y : Sizes) (p : ℕ) → IsHeaderOf y p (bytes_at (pages_of s.frames.items) place) → IsHeaderOf y p bytes) now wrote.header in
    let im : images_of c.mark.new.entries.items ≡ slice_set images n b = c.mark.ensures.images ∙ c.set_image.ensures.images in
    let ch : changed_of c.mark.new.entries.items ≡ slice_set changed n true = c.mark.ensures.changed ∙ ap (λ (l : List Bool). slice_set l n true) c.set_image.ensures.changed in
    let pl = c.mark.ensures.places ∙ c.set_image.ensures.places in
    let pg = wrote.pages ∙ ap (slice_set (pages_of s.frames.items) place) now in
    let cell = c.note_cell.ensures in
    let group = c.note_group.ensures in (
      rw (im, ch) (over_page z images changed _ _ _ i.4 i.0.pool n place c.args.at b c.args.image.now c.args.lsn c.page-number.ensures placed low high fits slot P s.device i.0 header),
      rw im (index_page z images changed _ _ _ i.4 i.0.pool n place c.args.at b c.args.image.now c.args.lsn c.page-number.ensures placed low high fits slot (free_cells z) (cells_stand z) s.free c.note_cell.new.free i.1 cell.noted cell.others cell.same),
      rw im (index_page z images changed _ _ _ i.4 i.0.pool n place c.args.at b c.args.image.now c.args.lsn c.page-number.ensures placed low high fits slot (closed_groups z) (groups_stand z) s.closed c.note_group.new.closed i.2 group.noted group.others group.same),
      rw (wrote.frames) i.3,
      rw (im, ch, pl, wrote.frames, pg) (tied_page z images changed _ _ _ i.4 i.0.pool n place c.args.at b c.args.image.now c.args.lsn c.page-number.ensures placed low high fits slot),
      rw (im, pl) (apart_page z images changed _ _ _ i.4 i.0.pool n place c.args.at b c.args.image.now c.args.lsn c.page-number.ensures placed low high fits slot s.apart s.spare i.5),
    )

pub returns : goal.returns
returns g c =
    let P = g.P.PageDevice in
    let s = c.self.inside in
    let i = c.self.invariant in
    let z = s.layout in
    let images = images_of s.entries.items in
    let changed = changed_of s.entries.items in
    let n = c.page-number.result in
    let place = c.place-place.result in
    let within = rw (← c.self.view_is) at c.place-place.ensures.within in
    let placed = placed_there s.entries.items s.frames.items i.4 n place within (rw (← c.self.view_is) at c.place-place.ensures.page) in
    let low = c.requires.place.page_low in
    let high = rw (← c.self.view_is) at c.requires.place.page_high in
    let fits = rw (← c.self.view_is) at c.requires.image in
    let wrote = c.write_slot.ensures in
    let b = c.index.result.now.page in
    let now : bytes_at (pages_of c.write_slot.new.frames.items) place ≡ b = read_at page_in c.write_slot.new.frames.items place c.index.result.now [] (rw wrote.count (rw (length-map s.frames.items held_of) at within)) c.index.ensures in
    let slot : IsWritten (bytes_at (pages_of s.frames.items) place) b (c.args.at % 16) c.args.image.now c.args.lsn =
    subst (λ (bytes : List ℕ). IsWritten (bytes_at (pages_of s.frames.items) place) bytes (c.args.at % 16) c.args.image.now c.args.lsn) now
    (subst (λ (k : ℕ). IsWritten (bytes_at (pages_of s.frames.items) place) (bytes_at (pages_of c.write_slot.new.frames.items) place) k c.args.image.now c.args.lsn) c.slot.ensures wrote.page) in
    let header = subst (λ (bytes : List ℕ). (y : Sizes) (p : ℕ) → IsHeaderOf y p (bytes_at (pages_of s.frames.items) place) → IsHeaderOf y p bytes) now wrote.header in
    let im : images_of c.mark.new.entries.items ≡ slice_set images n b = c.mark.ensures.images ∙ c.set_image.ensures.images in
    record {
      slots = rw (← c.self.view_is) (rw im (slots_put z images _ c.args.at c.args.image.now c.args.lsn c.requires.place.slot (page_written z images changed _ _ _ i.4 i.0.pool n place c.args.at b c.args.image.now c.args.lsn c.page-number.ensures placed low high fits slot) (page_others z images changed _ _ _ i.4 i.0.pool n place c.args.at b c.args.image.now c.args.lsn c.page-number.ensures placed low high fits slot)));
      page = rw (← c.self.view_is) (rw im (page_written z images changed _ _ _ i.4 i.0.pool n place c.args.at b c.args.image.now c.args.lsn c.page-number.ensures placed low high fits slot));
      others = search rules;
      changed = search rules;
      sizes = search rules;
      device = search rules;
      frames = search rules;
      pool = rw im (pool_written z images changed _ _ _ i.4 i.0.pool n place c.args.at b c.args.image.now c.args.lsn c.page-number.ensures placed low high fits slot header);
    }
