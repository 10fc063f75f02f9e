use Rattle.std.proofs.Common.{ℕ, List, ap, subst, sym, [], slice_set}
use Rattle.std.proofs.Math.Seq.{map-set_same}
use Rattle.rq_level.specs.Meaning.{AppliesOnce, redo_of}
use Rattle.rq_pool.specs.Frames.{bytes_at, held_of, page_in, pages_of}
use Rattle.rq_pool.proofs.Tabled.{read_at, set_at, set_read}
use Rattle.rq_pool.proofs.frames.redo_frame.Goals as goal

pub returns-clause-frames : goal.returns-clause-frames
returns-clause-frames g c = map-set_same held_of c.args.frames.now.items c.args.place _ c.index_mut-frame.result.now (ap held_of c.index_mut-frame.ensures.value)

pub returns-clause-page : goal.returns-clause-page
returns-clause-page g c =
    let was = read_at page_in c.args.frames.now.items c.args.place c.index_mut-frame.result.now [] c.requires.place c.index_mut-frame.ensures.value in
    let is = set_read page_in c.args.frames.now.items c.args.place (record { number = c.index_mut-frame.result.now.number; fixed = c.index_mut-frame.result.now.fixed; page = c.redo.new.page }) [] c.requires.place in
    subst (λ (p : List ℕ). AppliesOnce (redo_of c.args.«record».now) p c.args.lsn c.redo.result (bytes_at (pages_of (slice_set c.args.frames.now.items c.args.place (record { number = c.index_mut-frame.result.now.number; fixed = c.index_mut-frame.result.now.fixed; page = c.redo.new.page }))) c.args.place)) (sym was)
    (subst (λ (p : List ℕ). AppliesOnce (redo_of c.args.«record».now) c.index_mut-frame.result.now.page c.args.lsn c.redo.result p) (sym is) c.redo.ensures.page)

pub returns-clause-pages : goal.returns-clause-pages
returns-clause-pages g c = set_at page_in c.args.frames.now.items c.args.place _ _ (sym (set_read page_in c.args.frames.now.items c.args.place _ [] c.requires.place))
