use Rattle.std.proofs.Common.{◌*◌, ◌<◌, ◌≤◌, ◌/◌, List, length, rules, refl, sym, subst, ap, ◌∙◌, arith}
use Rattle.std.proofs.lemmas.Bool.{OnTrue_at, OnFalse_at}
use Rattle.rq_page.specs.Sizes.{Sizes, cell_count, sender_count}
use Rattle.rq_views.specs.Chain.{Node}
use Rattle.rq_views.specs.Stored.{slots_in}
use Rattle.rq_pool.proofs.Fetched.{read_then, still_read}
use Rattle.rq_chain_check.specs.Follows.{IsFollowed}
use Rattle.rq_chain_check.specs.Links.{IsChain}
use Rattle.rq_chain_check.proofs.Followed.{followed_none, followed_more}
use Rattle.rq_pool.proofs.Fetched.{over_stored, reads_on, stops_on, stored_after, stored_before, unread_then}
use Rattle.rq_chain_check.proofs.first_unlinked.Goals as goal

pub loop-sender-init : goal.loop-sender-init
loop-sender-init g c =
    let z = c.args.pages.now.sizes in
    record {
      followed = λ stored. followed_none z (slots_in z c.args.pages.now.images) c.args.met.now c.requires.none;
      same = refl;
      counted = refl;
      read = still_read g.P.PageDevice c.args.pages.now;
    }

pub follow-requires-clause-sender : goal.follow-requires-clause-sender
follow-requires-clause-sender g c =
    let low : c.loop-sender.sender < sender_count c.args.pages.now.sizes = search rules in
    subst (λ (z : Sizes). c.loop-sender.sender < sender_count z) (sym (c.loop-sender.invariant.read.kept 0).sizes) low

pub follow-requires-clause-room : goal.follow-requires-clause-room
follow-requires-clause-room g c =
    let room : cell_count c.args.pages.now.sizes ≤ 64 * length c.loop-sender.met = (let before = c.requires.room in let same = c.loop-sender.invariant.same in omega (arith, before, same)) in
    subst (λ (z : Sizes). cell_count z ≤ 64 * length c.loop-sender.met) (sym (c.loop-sender.invariant.read.kept 0).sizes) room

pub directory_of-at-requires : goal.directory_of-at-requires
directory_of-at-requires g c =
    let low : c.loop-sender.sender < sender_count c.args.pages.now.sizes = search rules in
    subst (λ (z : Sizes). c.loop-sender.sender < sender_count z) (sym (c.layout-in-Ok-false.ensures.sizes ∙ (c.in-Ok-false.ensures.read.read.kept 0).sizes ∙ (c.loop-sender.invariant.read.kept 0).sizes)) low

pub returns-in-Ok-false-clause-broken : goal.returns-in-Ok-false-clause-broken
returns-in-Ok-false-clause-broken g c stored =
    let loop = c.loop-sender.invariant in
    let old = c.args.pages.now in
    let mid = c.loop-sender.pages in
    let new = c.follow.new.pages in
    let before = stored_before g.P.PageDevice old mid new c.in-Ok-false.ensures.read.read stored in
    let broken = OnFalse_at c.in-Ok-false.field-0-test (c.in-Ok-false.ensures.broken (stored_after g.P.PageDevice old mid new loop.read stored)) in
    record {
      sender = c.loop-sender.sender;
      below = search rules;
      page_is = c.page.ensures ∙ ap (λ at. at / 16) c.directory_of-at.ensures;
      chains = (loop.followed before).chains;
      earlier = (loop.followed before).whole;
      broken = over_stored g.P.PageDevice (λ y images. (nodes : List Node) → IsChain (slots_in y images) c.loop-sender.sender nodes → ⊥) old mid loop.read before broken;
    }

pub returns-in-Ok-false-clause-read : goal.returns-in-Ok-false-clause-read
returns-in-Ok-false-clause-read g c = reads_on g.P.PageDevice _ _ c.args.pages.now c.loop-sender.pages c.follow.new.pages c.loop-sender.invariant.read c.loop-sender.invariant.counted c.in-Ok-false.ensures.read

pub returns-in-Err-clause-refused : goal.returns-in-Err-clause-refused
returns-in-Err-clause-refused g c = unread_then g.P.PageDevice c.in-Err.refusal c.args.pages.now c.loop-sender.pages c.follow.new.pages c.loop-sender.invariant.read c.in-Err.ensures.refused

pub returns-in-Err-clause-read : goal.returns-in-Err-clause-read
returns-in-Err-clause-read g c = stops_on g.P.PageDevice c.in-Err.refusal c.args.pages.now c.loop-sender.pages c.follow.new.pages c.loop-sender.invariant.read c.loop-sender.invariant.counted c.in-Err.ensures.read

pub loop-sender-preserved : goal.loop-sender-preserved
loop-sender-preserved g c =
    let z = c.args.pages.now.sizes in
    let q = slots_in z c.args.pages.now.images in
    let loop = c.loop-sender.invariant in
    let followed = c.in-Ok-true.ensures in
    let old = c.args.pages.now in
    let mid = c.loop-sender.pages in
    let new = c.follow.new.pages in
    record {
      followed = λ stored.
          let before = stored_before g.P.PageDevice old mid new followed.read.read stored in
          let whole = OnTrue_at {P = IsFollowed mid.sizes (slots_in mid.sizes mid.images) c.loop-sender.sender c.loop-sender.met c.follow.new.met} c.in-Ok-true.field-0-test (followed.whole (stored_after g.P.PageDevice old mid new loop.read stored)) in
          let more = over_stored g.P.PageDevice (λ y images. IsFollowed y (slots_in y images) c.loop-sender.sender c.loop-sender.met c.follow.new.met) old mid loop.read before whole in
          followed_more z q c.loop-sender.sender c.loop-sender.met c.follow.new.met (loop.followed before) more;
      same = followed.same ∙ loop.same;
      counted = followed.read.counted ∙ loop.counted;
      read = read_then g.P.PageDevice old mid new loop.read followed.read.read;
    }
