use Rattle.std.proofs.Common.{◌+◌, ◌≤◌, inl, subst, arith}
use Rattle.rq_page.specs.Sizes.{Sizes, page_count}
use Rattle.rq_restart.proofs.Undos.{still}
use Rattle.rq_restart.proofs.restart.make_durable.Goals as goal

pub returns-then-pages-frames-clause-durable : goal.returns-then-pages-frames-clause-durable
returns-then-pages-frames-clause-durable g c =
    let few = c.if-pages-frames.true in
    let count = c.pages.ensures.number in
    let all : page_count c.layout.result ≤ c.args.frames.count + 1 = omega (arith, few, count) in
    inl (c.requires.framed (subst (λ (z : Sizes). page_count z ≤ c.args.frames.count + 1) c.layout.ensures.sizes all))

pub returns-then-pages-frames-clause-read : goal.returns-then-pages-frames-clause-read
returns-then-pages-frames-clause-read g c = still g.L.LogDevice g.met.L.LogDevice.only_now c.args.reader.now.device
