use Rattle.std.proofs.Common.{◌<◌, arith}
use Rattle.rq_page.specs.Sizes.{cell_count}
use Rattle.rq_pool.proofs.Indexes.{place_within, count_more, count_rest}
use Rattle.rq_pool.proofs.Pages.used_cells.Goals as goal

pub loop-next-preserved : goal.loop-next-preserved
loop-next-preserved g c =
    let i = c.loop-next.invariant in
    let z = c.self.inside.layout in
    let free = c.self.invariant.1 in
    let low : c.in-Some.next < cell_count z = place_within z _ c.self.inside.free free c.in-Some.next c.in-Some.ensures.1 in
    rw (← c.self.view_is) (record {
      used = count_more z _ c.self.inside.free free c.loop-next.place c.in-Some.next c.loop-next.used (rw (← c.self.view_is) at i.used) c.in-Some.ensures;
      few = omega (arith, i.few, c.in-Some.ensures.0);
      within = omega (arith, low);
    })

pub loop-next-smaller : goal.loop-next-smaller
loop-next-smaller g c =
    let low : c.in-Some.next < cell_count c.args.self.now.sizes =
    rw (← c.self.view_is) (place_within c.self.inside.layout _ c.self.inside.free c.self.invariant.1 c.in-Some.next c.in-Some.ensures.1) in
    omega (arith, low, c.in-Some.ensures.0)

pub returns : goal.returns
returns g c =
    let i = c.loop-next.invariant in
    rw (← c.self.view_is) (rw c.cell_slots.ensures.number (count_rest c.self.inside.layout _ c.self.inside.free c.self.invariant.1 c.loop-next.place c.loop-next.used
    (rw (← c.self.view_is) at i.used) (rw (← c.self.view_is) at i.within) c.in_default.ensures))
