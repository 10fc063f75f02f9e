use Rattle.std.proofs.Common.{◌*◌, ◌<◌, ◌≤◌, ◌/◌, List, length, IfOk, sym, subst, arith}
use Rattle.std.specs.Bool.{OnTrue, OnFalse}
use Rattle.std.proofs.lemmas.Result.{IfErr-weaker}
use Rattle.rq_page.specs.Sizes.{Sizes, cell_count, directory_at, page_count}
use Rattle.rq_page.proofs.Addresses.{senders_have_slots}
use Rattle.rq_views.specs.Chain.{Node}
use Rattle.rq_views.specs.Stored.{slots_in}
use Rattle.rq_pool.proofs.Fetched.{unfetched_reads}
use Rattle.rq_chain_check.specs.Follows.{IsFollowed}
use Rattle.rq_chain_check.specs.Links.{IsChain}
use Rattle.rq_pool.proofs.Fetched.{over_stored, reads_then, stored_after, stored_before, unread_then}
use Rattle.rq_chain_check.proofs.follow.Goals as goal

pub follow_cells-requires-clause-room : goal.follow_cells-requires-clause-room
follow_cells-requires-clause-room g c = subst (λ (z : Sizes). cell_count z ≤ 64 * length c.args.met.now) (sym (c.in-Ok.ensures.fetched.read.kept 0).sizes) c.requires.room

pub returns-in-Ok-clause-whole : goal.returns-in-Ok-clause-whole
returns-in-Ok-clause-whole g c stored =
    let old = c.args.pages.now in
    let mid = c.read_group.new.self in
    let new = c.follow_cells.new.pages in
    let read = c.in-Ok.ensures.fetched.read in
    over_stored g.P.PageDevice (λ z images. IfOk c.follow_cells.result (λ whole. OnTrue whole (IsFollowed z (slots_in z images) c.args.sender c.args.met.now c.follow_cells.new.met))) old mid read
    (stored_before g.P.PageDevice old mid new c.follow_cells.ensures.read.read stored) (c.follow_cells.ensures.whole (stored_after g.P.PageDevice old mid new read stored))

pub returns-in-Ok-clause-broken : goal.returns-in-Ok-clause-broken
returns-in-Ok-clause-broken g c stored =
    let old = c.args.pages.now in
    let mid = c.read_group.new.self in
    let new = c.follow_cells.new.pages in
    let read = c.in-Ok.ensures.fetched.read in
    over_stored g.P.PageDevice (λ z images. IfOk c.follow_cells.result (λ whole. OnFalse whole ((nodes : List Node) → IsChain (slots_in z images) c.args.sender nodes → ⊥))) old mid read
    (stored_before g.P.PageDevice old mid new c.follow_cells.ensures.read.read stored) (c.follow_cells.ensures.broken (stored_after g.P.PageDevice old mid new read stored))

pub returns-in-Ok-clause-refused : goal.returns-in-Ok-clause-refused
returns-in-Ok-clause-refused g c = IfErr-weaker c.follow_cells.result _ _ (λ e not. unread_then g.P.PageDevice e c.args.pages.now c.read_group.new.self c.follow_cells.new.pages c.in-Ok.ensures.fetched.read not) c.follow_cells.ensures.refused

pub returns-in-Ok-clause-read : goal.returns-in-Ok-clause-read
returns-in-Ok-clause-read g c = reads_then g.P.PageDevice c.follow_cells.result c.args.pages.now c.read_group.new.self c.follow_cells.new.pages c.in-Ok.ensures.fetched.read c.in-Ok.ensures.fetched.counted c.follow_cells.ensures.read

pub returns-in-Err-clause-read : goal.returns-in-Err-clause-read
returns-in-Err-clause-read g c =
    let stands = senders_have_slots c.args.pages.now.sizes c.args.sender c.requires.sender in
    let high : directory_at c.args.sender / 16 < page_count c.args.pages.now.sizes = (let within = stands.1 in omega (arith, within)) in
    unfetched_reads g.P.PageDevice (directory_at c.args.sender / 16) c.args.pages.now c.read_group.new.self c.in-Err.refusal stands.0 high c.in-Err.ensures.fetched
