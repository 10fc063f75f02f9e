use Rattle.std.proofs.Common.{ℕ, arith, sym, subst}
use Rattle.rq_page.specs.Sizes.{Sizes}
use Rattle.rq_views.specs.Stored.{IsStoreSlot}
use Rattle.rq_pool.specs.Fetching.{IsAtHand}
use Rattle.rq_pool.proofs.Fetched.{fetched_reads, unfetched_reads}
use Rattle.rq_pool.proofs.Fetched.{is_unread}
use Rattle.rq_planner.proofs.telling.tell.Goals as goal

pub overflow_cast-page : goal.overflow_cast-page
overflow_cast-page g c =
    let is = c.page.ensures in
    let below = c.requires.page_high in
    let range = c.layout-layout.ensures.pool.range in
    let directory = range.directory_high in
    let cells = range.cells_high in
    let tags = range.tags_high in
    omega (arith, is, below, directory, cells, tags)

pub look-requires-clause-low : goal.look-requires-clause-low
look-requires-clause-low g c = let is = c.page.ensures in let low = c.requires.page_low in omega (arith, is, low)

pub look-requires-clause-high : goal.look-requires-clause-high
look-requires-clause-high g c = let is = c.page.ensures in let high = c.requires.page_high in omega (arith, is, high)

pub slot_at_hand-requires-clause-place : goal.slot_at_hand-requires-clause-place
slot_at_hand-requires-clause-place g c = subst (λ (z : Sizes). IsStoreSlot z c.args.at) (sym (c.look.ensures.read.kept 0).sizes) c.requires

pub slot_at_hand-requires-clause-hand : goal.slot_at_hand-requires-clause-hand
slot_at_hand-requires-clause-hand g c = subst (λ (n : ℕ). IsAtHand c.look.new.self n) c.page.ensures c.in-Ok.ensures.hand

pub returns-in-Ok-clause-read : goal.returns-in-Ok-clause-read
returns-in-Ok-clause-read g c = fetched_reads g.P.PageDevice c.page.result c.args.pages.now c.look.new.self _ _ c.in-Ok.ensures

pub returns-in-Err-clause-read : goal.returns-in-Err-clause-read
returns-in-Err-clause-read g c =
    let is = c.page.ensures in
    let low = c.requires.page_low in
    let high = c.requires.page_high in
    unfetched_reads g.P.PageDevice c.page.result c.args.pages.now c.look.new.self c.in-Err.refusal (omega (arith, is, low)) (omega (arith, is, high)) c.in-Err.ensures

pub returns-in-Err-clause-causes : goal.returns-in-Err-clause-causes
returns-in-Err-clause-causes g c =
    let is = c.page.ensures in
    let low = c.requires.page_low in
    let high = c.requires.page_high in
    is_unread g.P.PageDevice c.page.result c.in-Err.refusal c.args.pages.now c.look.new.self (omega (arith, is, low)) (omega (arith, is, high)) c.in-Err.ensures
