use Rattle.std.proofs.Common.{◌<◌, inr, subst}
use Rattle.std.specs.Prelude.{IfNone, IfSome}
use Rattle.std.proofs.lemmas.Option.{IfSome_then}
use Rattle.rq_page.specs.Sizes.{Sizes, page_count, sender_count}
use Rattle.rq_views.specs.Stored.{slots_in}
use Rattle.rq_chain_check.specs.Follows.{AreFollowed}
use Rattle.rq_chain_check.specs.Links.{AreLinked, IsFirstUnmet}
use Rattle.rq_chain_check.proofs.Options.{none_told}
use Rattle.rq_pool.proofs.Fetched.{over_stored}
use Rattle.rq_chain_check.proofs.first_broken.Goals as goal

pub returns-in-Ok-None-clause-whole : goal.returns-in-Ok-None-clause-whole
returns-in-Ok-None-clause-whole g c truly =
    let z = c.args.pages.now.sizes in
    let unlinked = c.in-Ok-None.ensures in
    let met = c.first_unlinked.new.met in
    let followed = none_told (AreFollowed z (slots_in z c.args.pages.now.images) (sender_count z) met) c.in-Ok-None.field-0 c.in-Ok-None.field-0-is (unlinked.whole truly.0) in
    over_stored g.P.PageDevice (λ y images. AreFollowed y (slots_in y images) (sender_count y) met → IfNone c.first_unmet.result (AreLinked y (slots_in y images))) c.args.pages.now c.first_unlinked.new.pages unlinked.read.read truly.0
    c.first_unmet.ensures.whole followed

pub returns-in-Ok-None-clause-fault : goal.returns-in-Ok-None-clause-fault
returns-in-Ok-None-clause-fault g c truly =
    let z = c.args.pages.now.sizes in
    let q = slots_in z c.args.pages.now.images in
    let unlinked = c.in-Ok-None.ensures in
    let met = c.first_unlinked.new.met in
    let followed = none_told (AreFollowed z q (sender_count z) met) c.in-Ok-None.field-0 c.in-Ok-None.field-0-is (unlinked.whole truly.0) in
    let unmet = over_stored g.P.PageDevice (λ y images. AreFollowed y (slots_in y images) (sender_count y) met → IfSome c.first_unmet.result (λ page. IsFirstUnmet y (slots_in y images) page)) c.args.pages.now c.first_unlinked.new.pages unlinked.read.read truly.0
    c.first_unmet.ensures.unmet followed in
    IfSome_then c.first_unmet.result unmet (λ page first. inr first)

pub returns-in-Ok-None-clause-named : goal.returns-in-Ok-None-clause-named
returns-in-Ok-None-clause-named g c = subst (λ (z : Sizes). IfSome c.first_unmet.result (λ page. page < page_count z)) (c.in-Ok-None.ensures.read.read.kept 0).sizes c.first_unmet.ensures.named
