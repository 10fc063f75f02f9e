use Rattle.std.proofs.Common.{◌<◌, ◌≤◌, ◌/◌, rules, arith}
use Rattle.rq_page.specs.Sizes.{IsCellAddress, page_count}
use Rattle.rq_pool.proofs.Fetched.{is_unread, unfetched_reads}
use Rattle.rq_chain_check.proofs.linked_cell.Goals as goal

pub returns-in-Err-clause-refused : goal.returns-in-Err-clause-refused
returns-in-Err-clause-refused g c =
    let cell : IsCellAddress c.args.pages.now.sizes c.args.at = search rules in
    let low : 1 ≤ c.args.at / 16 = (let above = cell.above in omega (arith, above)) in
    let high : c.args.at / 16 < page_count c.args.pages.now.sizes = (let below = cell.below in omega (arith, below)) in
    is_unread g.P.PageDevice (c.args.at / 16) c.in-Err.refusal c.args.pages.now c.read_cell.new.self low high c.in-Err.ensures.fetched

pub returns-in-Err-clause-read : goal.returns-in-Err-clause-read
returns-in-Err-clause-read g c =
    let cell : IsCellAddress c.args.pages.now.sizes c.args.at = search rules in
    let low : 1 ≤ c.args.at / 16 = (let above = cell.above in omega (arith, above)) in
    let high : c.args.at / 16 < page_count c.args.pages.now.sizes = (let below = cell.below in omega (arith, below)) in
    unfetched_reads g.P.PageDevice (c.args.at / 16) c.args.pages.now c.read_cell.new.self c.in-Err.refusal low high c.in-Err.ensures.fetched
