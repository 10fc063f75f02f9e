use Rattle.std.proofs.Common.{◌≡◌, ◌∙◌, ◌/◌, ℕ, Bool, true, List, [], ap, slice_set, subst, sym}
use Rattle.std.proofs.lemmas.List.{length-map}
use Rattle.rq_level.specs.Meaning.{AppliesOnce, redo_of}
use Rattle.rq_pool.specs.Frames.{bytes_at, changed_of, held_of, images_of, page_in, pages_of}
use Rattle.rq_pool.specs.Indexed.{closed_groups, free_cells}
use Rattle.rq_pool.specs.Pooled.{image_at}
use Rattle.rq_pool.proofs.Indexes.{cells_stand, groups_stand}
use Rattle.rq_pool.proofs.Seated.{placed_there}
use Rattle.rq_pool.proofs.Tabled.{read_at}
use Rattle.rq_pool.proofs.Rewritten.{apart_page, index_page, over_page, bytes_are, image_is, redone_page, tied_page}
use Rattle.rq_pool.proofs.Pages.redo.Goals as goal

pub invariant_of-self : goal.invariant_of-self
invariant_of-self g c =
    let P = g.P.PageDevice in
    let s = c.self.inside in
    let i = c.self.invariant in
    let z = s.layout in
    let images = images_of s.entries.items in
    let changed = changed_of s.entries.items in
    let n = c.page-number.result in
    let place = c.place-place.result in
    let within = rw (← c.self.view_is) at c.place-place.ensures.within in
    let placed = placed_there s.entries.items s.frames.items i.4 n place within (rw (← c.self.view_is) at c.place-place.ensures.page) in
    let low = c.requires.place.page_low in
    let high = rw (← c.self.view_is) at c.requires.place.page_high in
    let made = c.redo_frame-made.ensures in
    let b = c.index.result.now.page in
    let now : bytes_at (pages_of c.redo_frame-made.new.frames.items) place ≡ b = read_at page_in c.redo_frame-made.new.frames.items place c.index.result.now [] (rw made.count (rw (length-map s.frames.items held_of) at within)) c.index.ensures in
    let applied : AppliesOnce (redo_of c.args.«record».now) (bytes_at (pages_of s.frames.items) place) c.args.lsn c.redo_frame-made.result b =
    subst (λ (bytes : List ℕ). AppliesOnce (redo_of c.args.«record».now) (bytes_at (pages_of s.frames.items) place) c.args.lsn c.redo_frame-made.result bytes) now made.page in
    let wrote = redone_page z c.args.at _ _ b c.args.lsn c.redo_frame-made.result (rw (← c.self.view_is) at c.requires.write) applied c.if-made.true in
    let im : images_of c.mark.new.entries.items ≡ slice_set images n b = c.mark.ensures.images ∙ c.set_image.ensures.images in
    let ch : changed_of c.mark.new.entries.items ≡ slice_set changed n true = c.mark.ensures.changed ∙ ap (λ (l : List Bool). slice_set l n true) c.set_image.ensures.changed in
    let pl = c.mark.ensures.places ∙ c.set_image.ensures.places in
    let pg = made.pages ∙ ap (slice_set (pages_of s.frames.items) place) now in
    let cell = c.note_cell.ensures in
    let group = c.note_group.ensures in (
      rw (im, ch) (over_page z images changed _ _ _ i.4 i.0.pool n place c.args.at b wrote.0 c.args.lsn c.page-number.ensures placed low high wrote.1 wrote.2 P s.device i.0 wrote.3),
      rw im (index_page z images changed _ _ _ i.4 i.0.pool n place c.args.at b wrote.0 c.args.lsn c.page-number.ensures placed low high wrote.1 wrote.2 (free_cells z) (cells_stand z) s.free c.note_cell.new.free i.1 cell.noted cell.others cell.same),
      rw im (index_page z images changed _ _ _ i.4 i.0.pool n place c.args.at b wrote.0 c.args.lsn c.page-number.ensures placed low high wrote.1 wrote.2 (closed_groups z) (groups_stand z) s.closed c.note_group.new.closed i.2 group.noted group.others group.same),
      rw (made.frames) i.3,
      rw (im, ch, pl, made.frames, pg) (tied_page z images changed _ _ _ i.4 i.0.pool n place c.args.at b wrote.0 c.args.lsn c.page-number.ensures placed low high wrote.1 wrote.2),
      rw (im, pl) (apart_page z images changed _ _ _ i.4 i.0.pool n place c.args.at b wrote.0 c.args.lsn c.page-number.ensures placed low high wrote.1 wrote.2 s.apart s.spare i.5),
    )

pub returns-then-made-clause-page : goal.returns-then-made-clause-page
returns-then-made-clause-page g c =
    let P = g.P.PageDevice in
    let s = c.self.inside in
    let i = c.self.invariant in
    let z = s.layout in
    let images = images_of s.entries.items in
    let changed = changed_of s.entries.items in
    let n = c.page-number.result in
    let place = c.place-place.result in
    let within = rw (← c.self.view_is) at c.place-place.ensures.within in
    let placed = placed_there s.entries.items s.frames.items i.4 n place within (rw (← c.self.view_is) at c.place-place.ensures.page) in
    let low = c.requires.place.page_low in
    let high = rw (← c.self.view_is) at c.requires.place.page_high in
    let made = c.redo_frame-made.ensures in
    let b = c.index.result.now.page in
    let now : bytes_at (pages_of c.redo_frame-made.new.frames.items) place ≡ b = read_at page_in c.redo_frame-made.new.frames.items place c.index.result.now [] (rw made.count (rw (length-map s.frames.items held_of) at within)) c.index.ensures in
    let applied : AppliesOnce (redo_of c.args.«record».now) (bytes_at (pages_of s.frames.items) place) c.args.lsn c.redo_frame-made.result b =
    subst (λ (bytes : List ℕ). AppliesOnce (redo_of c.args.«record».now) (bytes_at (pages_of s.frames.items) place) c.args.lsn c.redo_frame-made.result bytes) now made.page in
    let wrote = redone_page z c.args.at _ _ b c.args.lsn c.redo_frame-made.result (rw (← c.self.view_is) at c.requires.write) applied c.if-made.true in
    let im : images_of c.mark.new.entries.items ≡ slice_set images n b = c.mark.ensures.images ∙ c.set_image.ensures.images in
    let was = bytes_are z images changed _ _ _ i.4 i.0.pool n place c.args.at b wrote.0 c.args.lsn c.page-number.ensures placed low high wrote.1 wrote.2 in
    let is = image_is z images changed _ _ _ i.4 i.0.pool n place c.args.at b wrote.0 c.args.lsn c.page-number.ensures placed low high wrote.1 wrote.2 in
    rw (← c.self.view_is) (rw im (subst (λ (bytes : List ℕ). AppliesOnce (redo_of c.args.«record».now) (image_at images (c.args.at / 16)) c.args.lsn c.redo_frame-made.result bytes) (sym is)
    (subst (λ (bytes : List ℕ). AppliesOnce (redo_of c.args.«record».now) bytes c.args.lsn c.redo_frame-made.result b) was applied)))
