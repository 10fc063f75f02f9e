use Rattle.std.proofs.Common.{ap, sym}
use Rattle.std.proofs.Math.Seq.{map-set_same}
use Rattle.rq_pool.specs.Held.{Held, nothing_held}
use Rattle.rq_pool.specs.Frames.{held_of, page_in}
use Rattle.rq_pool.proofs.Tabled.{read_at, set_at}
use Rattle.rq_pool.proofs.frames.hold.Goals as goal

pub returns-clause-frames : goal.returns-clause-frames
returns-clause-frames c =
    let was = read_at held_of c.args.frames.now.items c.args.place c.index_mut-frame.result.now nothing_held c.requires c.index_mut-frame.ensures.value in
    set_at held_of c.args.frames.now.items c.args.place _ _ (ap (λ (h : Held). record { page = h.page; fixed = c.args.fixed }) (sym was))

pub returns-clause-pages : goal.returns-clause-pages
returns-clause-pages c = map-set_same page_in c.args.frames.now.items c.args.place _ c.index_mut-frame.result.now (ap page_in c.index_mut-frame.ensures.value)
