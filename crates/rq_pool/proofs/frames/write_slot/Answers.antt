use Rattle.std.proofs.Common.{ℕ, List, ap, subst, sym, [], slice_set}
use Rattle.std.proofs.Math.Seq.{map-set_same}
use Rattle.rq_page.specs.Pages.{IsWritten}
use Rattle.rq_page.specs.Formatted.{IsHeaderOf}
use Rattle.rq_pool.specs.Frames.{bytes_at, held_of, page_in, pages_of}
use Rattle.rq_pool.proofs.Tabled.{read_at, set_at, set_read}
use Rattle.rq_pool.proofs.frames.write_slot.Goals as goal

pub returns-clause-frames : goal.returns-clause-frames
returns-clause-frames c = map-set_same held_of c.args.frames.now.items c.args.place _ c.index_mut-frame.result.now (ap held_of c.index_mut-frame.ensures.value)

pub returns-clause-page : goal.returns-clause-page
returns-clause-page c =
    let was = read_at page_in c.args.frames.now.items c.args.place c.index_mut-frame.result.now [] c.requires.place c.index_mut-frame.ensures.value in
    let is = set_read page_in c.args.frames.now.items c.args.place (record { number = c.index_mut-frame.result.now.number; fixed = c.index_mut-frame.result.now.fixed; page = c.set_slot.new.self }) [] c.requires.place in
    subst (λ (p : List ℕ). IsWritten p (bytes_at (pages_of (slice_set c.args.frames.now.items c.args.place (record { number = c.index_mut-frame.result.now.number; fixed = c.index_mut-frame.result.now.fixed; page = c.set_slot.new.self }))) c.args.place) c.args.slot c.args.image.now c.args.lsn) (sym was)
    (subst (λ (p : List ℕ). IsWritten c.index_mut-frame.result.now.page p c.args.slot c.args.image.now c.args.lsn) (sym is) c.set_slot.ensures.written)

pub returns-clause-header : goal.returns-clause-header
returns-clause-header c =
    let was = read_at page_in c.args.frames.now.items c.args.place c.index_mut-frame.result.now [] c.requires.place c.index_mut-frame.ensures.value in
    let is = set_read page_in c.args.frames.now.items c.args.place (record { number = c.index_mut-frame.result.now.number; fixed = c.index_mut-frame.result.now.fixed; page = c.set_slot.new.self }) [] c.requires.place in
    λ z p h. subst (IsHeaderOf z p) (sym is) (c.set_slot.ensures.header z p (subst (IsHeaderOf z p) was h))

pub returns-clause-pages : goal.returns-clause-pages
returns-clause-pages c = set_at page_in c.args.frames.now.items c.args.place _ _ (sym (set_read page_in c.args.frames.now.items c.args.place _ [] c.requires.place))
