use Rattle.std.proofs.Common.{rules, ◌≡◌, ◌*◌, Err, arith, refl, sym, ◌∙◌, ap, subst}
use Rattle.rq_page.specs.Sizes.{Sizes, client_count, client_slot_at, tags_from}
use Rattle.rq_views.specs.Stored.{IsStoreSlot, slot_at}
use Rattle.rq_level.specs.Meaning.{AreTold}
use Rattle.rq_pool.proofs.Fetched.{read_then, still_read}
use Rattle.rq_planner.specs.Answered.{KnowsBelow, KnowsCells}
use Rattle.rq_planner.proofs.Knowing.{all_below, next_below}
use Rattle.rq_pool.proofs.Fetched.{reads_then}
use Rattle.rq_pool.proofs.Fetched.{unread_then}
use Rattle.rq_planner.proofs.Readings.{below_read}
use Rattle.rq_planner.proofs.telling.tell_clients.Goals as goal

pub loop-client-init : goal.loop-client-init
loop-client-init g c = record { read = still_read g.P.PageDevice c.args.pages.now; counted = refl; count = refl; known = c.requires }

pub tell-requires : goal.tell-requires
tell-requires g c =
    let stands : IsStoreSlot c.args.pages.now.sizes c.client_addr.result = search rules in
    subst (λ (z : Sizes). IsStoreSlot z c.client_addr.result) (sym (c.loop-client.invariant.read.kept 0).sizes) stands

pub loop-client-preserved : goal.loop-client-preserved
loop-client-preserved g c =
    let z = c.args.pages.now.sizes in
    let mid = c.loop-client.pages in
    let new = c.tell.new.pages in
    let at : c.client_addr.result ≡ client_slot_at z c.loop-client.client = subst (λ (y : Sizes). c.client_addr.result ≡ client_slot_at y c.loop-client.client) c.layout-layout.ensures.sizes c.client_addr.ensures.value in
    record {
      read = read_then g.P.PageDevice c.args.pages.now mid new c.loop-client.invariant.read c.tell.ensures.read.read;
      counted = c.in-Ok.ensures.read.counted ∙ c.loop-client.invariant.counted;
      count = c.tell.ensures.count ∙ c.loop-client.invariant.count;
      known = next_below z new.images (tags_from z) c.loop-client.client c.loop-client.levels c.tell.new.levels (omega arith)
          (subst (λ a. AreTold a (slot_at new.images a) c.loop-client.levels c.tell.new.levels) at c.in-Ok.ensures.told)
          (below_read g.P.PageDevice z (client_slot_at z c.loop-client.client) mid new c.loop-client.levels (c.loop-client.invariant.read.kept 0).sizes c.tell.ensures.read.read c.loop-client.invariant.known);
    }

pub returns-in-Err-clause-read : goal.returns-in-Err-clause-read
returns-in-Err-clause-read g c =
    reads_then g.P.PageDevice (Err c.in-Err.refusal) c.args.pages.now c.loop-client.pages c.tell.new.pages c.loop-client.invariant.read c.loop-client.invariant.counted c.in-Err.ensures.read

pub returns-in-Err-clause-count : goal.returns-in-Err-clause-count
returns-in-Err-clause-count g c = c.tell.ensures.count ∙ c.loop-client.invariant.count

pub returns-clause-read : goal.returns-clause-read
returns-clause-read g c = record { read = c.loop-client.invariant.read; counted = c.loop-client.invariant.counted; refused = tt }

pub returns-clause-known : goal.returns-clause-known
returns-clause-known g c =
    let z = c.args.pages.now.sizes in
    let images = c.loop-client.pages.images in
    let levels = c.loop-client.levels in
    let end : c.loop-client.client ≡ 15 * z.tags =
    (let low = c.loop-client.auto.client-end in let high = c.loop-client-test.false in let n = c.clients-client-end.ensures.number in let s = ap (λ (y : Sizes). client_count y) c.layout-layout.ensures.sizes in omega (arith, low, high, n, s)) in
    subst (λ (y : Sizes). KnowsCells y images levels) (sym (c.loop-client.invariant.read.kept 0).sizes)
    (all_below z images levels (subst (λ n. KnowsBelow z images (client_slot_at z n) levels) end c.loop-client.invariant.known))

pub returns-in-Err-clause-causes : goal.returns-in-Err-clause-causes
returns-in-Err-clause-causes g c = unread_then g.P.PageDevice c.in-Err.refusal c.args.pages.now c.loop-client.pages c.tell.new.pages c.loop-client.invariant.read c.in-Err.ensures.causes
