use Rattle.std.specs.Prelude.{IfSome}
use Rattle.std.proofs.Common.{◌≡◌, ◌+◌, Err, arith, refl, sym, ◌∙◌, ap, subst}
use Rattle.rq_page.specs.Sizes.{IsCellAddress, Sizes, cell_at, cell_count, client_slot_at}
use Rattle.rq_views.specs.Stored.{slot_at}
use Rattle.rq_level.specs.Meaning.{AreTold}
use Rattle.rq_pool.proofs.Fetched.{read_then, still_read}
use Rattle.rq_planner.specs.Answered.{IsFreeCell, KnowsBelow}
use Rattle.rq_planner.proofs.Knowing.{clients_behind, next_below}
use Rattle.rq_pool.proofs.Fetched.{reads_then}
use Rattle.rq_pool.proofs.Fetched.{unread_then}
use Rattle.rq_planner.proofs.Readings.{below_read, free_read, sizes_read}
use Rattle.rq_planner.proofs.telling.tell_cells.Goals as goal

pub loop-place-init : goal.loop-place-init
loop-place-init g c = record { read = still_read g.P.PageDevice c.args.pages.now; counted = refl; count = refl; known = c.requires; free = c.free_from-free.ensures }

pub tell_cell-requires-clause-cell : goal.tell_cell-requires-clause-cell
tell_cell-requires-clause-cell g c =
    subst (λ (z : Sizes). IsCellAddress z c.cell_addr-at.result) (c.layout-layout.ensures.sizes ∙ sym (c.loop-place.invariant.read.kept 0).sizes) c.cell_addr-at.ensures.cell

pub tell_cell-requires-clause-free : goal.tell_cell-requires-clause-free
tell_cell-requires-clause-free g c =
    subst (λ (z : Sizes). IfSome c.loop-place.free (IsFreeCell z c.loop-place.pages.images)) (sym (c.loop-place.invariant.read.kept 0).sizes) c.loop-place.invariant.free

pub free_behind-next-requires : goal.free_behind-next-requires
free_behind-next-requires g c =
    let z = c.args.pages.now.sizes in
    let mid = c.loop-place.pages in
    let new = c.tell_cell.new.pages in
    subst (λ (y : Sizes). IfSome c.loop-place.free (IsFreeCell y new.images)) (sym (sizes_read g.P.PageDevice z mid new (c.loop-place.invariant.read.kept 0).sizes c.tell_cell.ensures.read.read))
    (free_read g.P.PageDevice z c.loop-place.free mid new (c.loop-place.invariant.read.kept 0).sizes c.tell_cell.ensures.read.read c.loop-place.invariant.free)

pub loop-place-preserved : goal.loop-place-preserved
loop-place-preserved g c =
    let z = c.args.pages.now.sizes in
    let mid = c.loop-place.pages in
    let new = c.tell_cell.new.pages in
    let at : c.cell_addr-at.result ≡ cell_at z c.loop-place.place = subst (λ (y : Sizes). c.cell_addr-at.result ≡ cell_at y c.loop-place.place) c.layout-layout.ensures.sizes c.cell_addr-at.ensures.value in
    record {
      read = read_then g.P.PageDevice c.args.pages.now mid new c.loop-place.invariant.read c.tell_cell.ensures.read.read;
      counted = c.in-Ok.ensures.read.counted ∙ c.loop-place.invariant.counted;
      count = c.tell_cell.ensures.count ∙ c.loop-place.invariant.count;
      known = next_below z new.images (1 + z.directory) c.loop-place.place c.loop-place.levels c.tell_cell.new.levels (omega arith)
          (subst (λ a. AreTold a (slot_at new.images a) c.loop-place.levels c.tell_cell.new.levels) at c.in-Ok.ensures.told)
          (below_read g.P.PageDevice z (cell_at z c.loop-place.place) mid new c.loop-place.levels (c.loop-place.invariant.read.kept 0).sizes c.tell_cell.ensures.read.read c.loop-place.invariant.known);
      free = subst (λ (y : Sizes). IfSome c.free_behind-next.result (IsFreeCell y new.images)) (sizes_read g.P.PageDevice z mid new (c.loop-place.invariant.read.kept 0).sizes c.tell_cell.ensures.read.read) c.free_behind-next.ensures;
    }

pub returns-in-Err-clause-read : goal.returns-in-Err-clause-read
returns-in-Err-clause-read g c =
    reads_then g.P.PageDevice (Err c.in-Err.refusal) c.args.pages.now c.loop-place.pages c.tell_cell.new.pages c.loop-place.invariant.read c.loop-place.invariant.counted c.in-Err.ensures.read

pub returns-in-Err-clause-count : goal.returns-in-Err-clause-count
returns-in-Err-clause-count g c = c.tell_cell.ensures.count ∙ c.loop-place.invariant.count

pub returns-clause-read : goal.returns-clause-read
returns-clause-read g c = record { read = c.loop-place.invariant.read; counted = c.loop-place.invariant.counted; refused = tt }

pub returns-clause-known : goal.returns-clause-known
returns-clause-known g c =
    let z = c.args.pages.now.sizes in
    let images = c.loop-place.pages.images in
    let levels = c.loop-place.levels in
    let end : c.loop-place.place ≡ cell_count z =
    (let low = c.loop-place.auto.place-end in let high = c.loop-place-test.false in let n = c.cell_slots-place-end.ensures.number in let s = ap (λ (y : Sizes). cell_count y) c.layout-layout.ensures.sizes in omega (arith, low, high, n, s)) in
    subst (λ (y : Sizes). KnowsBelow y images (client_slot_at y 0) levels) (sym (c.loop-place.invariant.read.kept 0).sizes)
    (clients_behind z images levels (subst (λ n. KnowsBelow z images (cell_at z n) levels) end c.loop-place.invariant.known))

pub returns-in-Err-clause-causes : goal.returns-in-Err-clause-causes
returns-in-Err-clause-causes g c = unread_then g.P.PageDevice c.in-Err.refusal c.args.pages.now c.loop-place.pages c.tell_cell.new.pages c.loop-place.invariant.read c.in-Err.ensures.causes
