use Rattle.std.proofs.Common.{◌≡◌, ◌<◌, ◌/◌, IfOk, arith}
use Rattle.rq_pool.proofs.Fetched.{read_then}
use Rattle.rq_content.specs.Read.{group_of, read_group, IsBroken}
use Rattle.rq_page.specs.Sizes.{directory_at, page_count}
use Rattle.rq_page.proofs.Addresses.{senders_have_slots}
use Rattle.rq_content.proofs.Stops.{answered_then, over_read, unread}
use Rattle.rq_content.proofs.group_content.Goals as goal

pub returns-in-Ok-clause-group : goal.returns-in-Ok-clause-group
returns-in-Ok-clause-group g c h =
    over_read g.P.PageDevice (λ z images. IfOk c.chain_content.result (λ group. group_of group ≡ read_group z images c.args.transactions.now c.args.sender)) c.args.pages.now c.read_group.new.self c.read_group.ensures.fetched.read
    (c.chain_content.ensures.read.device.honest h) (c.chain_content.ensures.group h)

pub returns-in-Ok-clause-refused : goal.returns-in-Ok-clause-refused
returns-in-Ok-clause-refused g c =
    answered_then g.P.PageDevice _ _ c.chain_content.result c.args.pages.now c.read_group.new.self _ c.read_group.ensures.fetched.read c.in-Ok.ensures.fetched.counted
    (λ h r broken. over_read g.P.PageDevice (λ z images. IsBroken z images c.args.transactions.now r) c.args.pages.now c.read_group.new.self c.read_group.ensures.fetched.read (c.chain_content.ensures.read.device.honest h) broken)
    c.chain_content.ensures.refused

pub returns-in-Ok-clause-read : goal.returns-in-Ok-clause-read
returns-in-Ok-clause-read g c = read_then g.P.PageDevice c.args.pages.now c.read_group.new.self _ c.read_group.ensures.fetched.read c.chain_content.ensures.read

pub returns-in-Err-clause-refused : goal.returns-in-Err-clause-refused
returns-in-Err-clause-refused g c =
    let stands = senders_have_slots c.args.pages.now.sizes c.args.sender c.requires in
    let below : directory_at c.args.sender / 16 < page_count c.args.pages.now.sizes = (let within = stands.1 in omega (arith, within)) in
    unread g.P.PageDevice (IsBroken c.args.pages.now.sizes c.args.pages.now.images c.args.transactions.now) (directory_at c.args.sender / 16) c.in-Err.refusal c.args.pages.now c.read_group.new.self stands.0 below c.in-Err.ensures.fetched
