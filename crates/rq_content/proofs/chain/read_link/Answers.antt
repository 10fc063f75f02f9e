use Rattle.std.proofs.Common.{◌≡◌, ◌<◌, ◌≤◌, ◌/◌, Some, None, rules, subst, sym, arith}
use Rattle.rq_page.specs.Sizes.{IsCellAddress, IsLink, Sizes, page_count, sender_count}
use Rattle.rq_content.specs.Read.{cells_in, damaged_for}
use Rattle.rq_content.proofs.Stops.{over_read, told_damaged, unread}
use Rattle.rq_content.proofs.chain.read_link.Goals as goal

pub damaged-requires-in-Ok-None : goal.damaged-requires-in-Ok-None
damaged-requires-in-Ok-None g c = subst (λ (z : Sizes). c.args.sender < sender_count z) (sym (c.read_cell.ensures.fetched.read.kept 0).sizes) c.requires.sender

pub returns-in-Ok-Some-clause-cell : goal.returns-in-Ok-Some-clause-cell
returns-in-Ok-Some-clause-cell g c h =
    let held : cells_in c.read_cell.new.self.sizes c.read_cell.new.self.images c.args.at ≡ Some c.in-Ok-Some.cell = search rules in
    over_read g.P.PageDevice (λ z images. cells_in z images c.args.at ≡ Some c.in-Ok-Some.cell) c.args.pages.now c.read_cell.new.self c.read_cell.ensures.fetched.read h held

pub returns-in-Ok-Some-clause-next : goal.returns-in-Ok-Some-clause-next
returns-in-Ok-Some-clause-next g c =
    let next : IsLink c.read_cell.new.self.sizes c.in-Ok-Some.cell.next = search rules in
    subst (λ (z : Sizes). IsLink z c.in-Ok-Some.cell.next) (c.read_cell.ensures.fetched.read.kept 0).sizes next

pub returns-in-Ok-None-clause-refused : goal.returns-in-Ok-None-clause-refused
returns-in-Ok-None-clause-refused g c =
    let held : cells_in c.read_cell.new.self.sizes c.read_cell.new.self.images c.args.at ≡ None = search rules in
    told_damaged g.P.PageDevice (λ r. (r ≡ damaged_for c.args.sender) × (cells_in c.args.pages.now.sizes c.args.pages.now.images c.args.at ≡ None)) c.args.sender c.damaged-in-Ok-None.result c.args.pages.now c.read_cell.new.self c.requires.sender c.damaged-in-Ok-None.ensures
    (λ h. (c.damaged-in-Ok-None.ensures, over_read g.P.PageDevice (λ z images. cells_in z images c.args.at ≡ None) c.args.pages.now c.read_cell.new.self c.read_cell.ensures.fetched.read h held))
    c.in-Ok-None.ensures.fetched.counted

pub returns-in-Err-clause-refused : goal.returns-in-Err-clause-refused
returns-in-Err-clause-refused g c =
    let cell : IsCellAddress c.args.pages.now.sizes c.args.at = search rules in
    let below = cell.below in
    let behind : 1 ≤ c.args.at / 16 = (let above = cell.above in omega (arith, above)) in
    let within : c.args.at / 16 < page_count c.args.pages.now.sizes = omega (arith, below) in
    unread g.P.PageDevice (λ r. (r ≡ damaged_for c.args.sender) × (cells_in c.args.pages.now.sizes c.args.pages.now.images c.args.at ≡ None)) (c.args.at / 16) c.in-Err.refusal c.args.pages.now c.read_cell.new.self behind within c.in-Err.ensures.fetched
