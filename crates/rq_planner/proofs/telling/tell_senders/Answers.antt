use Rattle.std.proofs.Common.{rules, ◌≡◌, Err, arith, refl, sym, ◌∙◌, ap, subst}
use Rattle.rq_page.specs.Sizes.{Sizes, cell_at, directory_at, sender_count}
use Rattle.rq_views.specs.Stored.{IsStoreSlot, slot_at}
use Rattle.rq_level.specs.Meaning.{AreTold}
use Rattle.rq_pool.proofs.Fetched.{read_then, still_read}
use Rattle.rq_planner.specs.Answered.{KnowsBelow}
use Rattle.rq_planner.proofs.Knowing.{cells_behind, next_below}
use Rattle.rq_pool.proofs.Fetched.{reads_then}
use Rattle.rq_pool.proofs.Fetched.{unread_then}
use Rattle.rq_planner.proofs.Readings.{below_read}
use Rattle.rq_planner.proofs.telling.tell_senders.Goals as goal

pub loop-sender-init : goal.loop-sender-init
loop-sender-init g c = record { read = still_read g.P.PageDevice c.args.pages.now; counted = refl; count = refl; known = c.requires }

pub tell-requires : goal.tell-requires
tell-requires g c =
    let stands : IsStoreSlot c.args.pages.now.sizes c.directory_of.result = search rules in
    subst (λ (z : Sizes). IsStoreSlot z c.directory_of.result) (sym (c.loop-sender.invariant.read.kept 0).sizes) stands

pub loop-sender-preserved : goal.loop-sender-preserved
loop-sender-preserved g c =
    let z = c.args.pages.now.sizes in
    let mid = c.loop-sender.pages in
    let new = c.tell.new.pages in
    record {
      read = read_then g.P.PageDevice c.args.pages.now mid new c.loop-sender.invariant.read c.tell.ensures.read.read;
      counted = c.in-Ok.ensures.read.counted ∙ c.loop-sender.invariant.counted;
      count = c.tell.ensures.count ∙ c.loop-sender.invariant.count;
      known = next_below z new.images 1 c.loop-sender.sender c.loop-sender.levels c.tell.new.levels (omega arith)
          (subst (λ a. AreTold a (slot_at new.images a) c.loop-sender.levels c.tell.new.levels) c.directory_of.ensures c.in-Ok.ensures.told)
          (below_read g.P.PageDevice z (directory_at c.loop-sender.sender) mid new c.loop-sender.levels (c.loop-sender.invariant.read.kept 0).sizes c.tell.ensures.read.read c.loop-sender.invariant.known);
    }

pub returns-in-Err-clause-read : goal.returns-in-Err-clause-read
returns-in-Err-clause-read g c =
    reads_then g.P.PageDevice (Err c.in-Err.refusal) c.args.pages.now c.loop-sender.pages c.tell.new.pages c.loop-sender.invariant.read c.loop-sender.invariant.counted c.in-Err.ensures.read

pub returns-in-Err-clause-count : goal.returns-in-Err-clause-count
returns-in-Err-clause-count g c = c.tell.ensures.count ∙ c.loop-sender.invariant.count

pub returns-clause-read : goal.returns-clause-read
returns-clause-read g c = record { read = c.loop-sender.invariant.read; counted = c.loop-sender.invariant.counted; refused = tt }

pub returns-clause-known : goal.returns-clause-known
returns-clause-known g c =
    let z = c.args.pages.now.sizes in
    let images = c.loop-sender.pages.images in
    let levels = c.loop-sender.levels in
    let end : c.loop-sender.sender ≡ sender_count z =
    (let low = c.loop-sender.auto.sender-end in let high = c.loop-sender-test.false in let n = c.senders-sender-end.ensures.number in let s = ap (λ (y : Sizes). sender_count y) c.layout-layout.ensures.sizes in omega (arith, low, high, n, s)) in
    subst (λ (y : Sizes). KnowsBelow y images (cell_at y 0) levels) (sym (c.loop-sender.invariant.read.kept 0).sizes)
    (cells_behind z images levels (subst (λ n. KnowsBelow z images (directory_at n) levels) end c.loop-sender.invariant.known))

pub returns-in-Err-clause-causes : goal.returns-in-Err-clause-causes
returns-in-Err-clause-causes g c = unread_then g.P.PageDevice c.in-Err.refusal c.args.pages.now c.loop-sender.pages c.tell.new.pages c.loop-sender.invariant.read c.in-Err.ensures.causes
