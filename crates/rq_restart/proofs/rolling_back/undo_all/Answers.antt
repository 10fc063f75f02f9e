use Rattle.std.proofs.Common.{◌<◌, ℕ, List, Err, rules, length, refl, ap, sym, ◌∙◌, subst}
use Rattle.rq_log.specs.Logged.{Logged}
use Rattle.rq_page.specs.Sizes.{Sizes}
use Rattle.rq_pool.specs.Held.{Held}
use Rattle.rq_pool.specs.Pooled.{IsPool}
use Rattle.rq_planner.proofs.Readings.{knows_read}
use Rattle.rq_store.specs.Fitting.{image_in}
use Rattle.rq_chain_check.specs.Links.{AreLinked}
use Rattle.rq_restart.specs.Aborting.{AbortingStops}
use Rattle.rq_restart.specs.RolledBack.{IsRolledBackSince, LinkStops}
use Rattle.rq_restart.specs.Repeating.{ArePagesCounted, paged, slots_on}
use Rattle.rq_restart.specs.Standing.{NoneHeld}
use Rattle.rq_restart.proofs.GoingOn.{goes_reading, goes_refused, goes_then, told_behind}
use Rattle.rq_restart.proofs.Linking.{unlinked_stops}
use Rattle.rq_restart.proofs.HandedOn.{handed_stops, handed_way}
use Rattle.rq_restart.proofs.RollingBack.{IsAbortedBehind, IsUndoneRead, abort_rolls_nothing_back, all_went, links_images, links_truly, links_went, over_two, pool_then, repeated_then, rolled_back, rolled_back_counted, rounds_went, stands_four, told_rounds, told_three, told_two, undo_rolls_nothing_back, undone_active, unread_reads, unread_rolls_nothing_back, went}
use Rattle.rq_restart.proofs.RoundsBehind.{rounds_made}
use Rattle.rq_restart.proofs.Standing.{pages_stand}
use Rattle.rq_restart.proofs.rolling_back.undo_all.Given.{Over}
use Rattle.rq_restart.proofs.rolling_back.undo_all.Goals.{In_ok-abort_lost, In_ok-tell}
use Rattle.rq_restart.proofs.rolling_back.undo_all.Goals as goal

-- ---- what the calls leave

undone : (g : Over) (c : In_ok-tell g) → IsUndoneRead g.P.PageDevice g.L.LogDevice c.args.pages.now c.undo_unfinished.new.pages c.tell.new.pages c.args.log.now c.undo_unfinished.new.log
undone g c = (let undo = c.in_ok-undo_unfinished.ensures in record { goes = undo.goes_on; repeated = undo.repeated; undone = undo.undone; pool = undo.pool; way = λ h f so found. (undo.way h f so found).0; read = c.in_ok-tell.ensures.read })

aborted : (g : Over) (c : In_ok-abort_lost g) → IsAbortedBehind g.P.PageDevice g.L.LogDevice c.tell.new.pages c.abort_lost.new.pages c.undo_unfinished.new.log c.abort_lost.new.log
aborted g c = (let abort = c.in_ok-abort_lost.ensures in record { to = rounds_made abort.rounds; ended = abort.ended; none = abort.none })

-- ---- operations were not undone

pub returns-in_err-undo_unfinished-clause-stops : goal.returns-in_err-undo_unfinished-clause-stops
returns-in_err-undo_unfinished-clause-stops g c =
    let e = c.in_err-undo_unfinished.field-0.0 in
    handed_stops _ c.from_residual.result e (search rules) (λ told first before. undo_rolls_nothing_back c.args.pages.now.sizes c.args.log.now.records first e (c.in_err-undo_unfinished.ensures.stops told first before))

pub returns-in_err-undo_unfinished-clause-goes_on : goal.returns-in_err-undo_unfinished-clause-goes_on
returns-in_err-undo_unfinished-clause-goes_on g c = (let e = c.in_err-undo_unfinished.field-0.0 in goes_refused (Err e) c.from_residual.result e refl (search rules) c.in_err-undo_unfinished.ensures.goes_on)

-- ---- the levels were not told

pub returns-in_err-tell-clause-stops : goal.returns-in_err-tell-clause-stops
returns-in_err-tell-clause-stops g c =
    let p = g.P.PageDevice in
    let l = g.L.LogDevice in
    let old = c.args.pages.now in
    let one = c.undo_unfinished.new.pages in
    let two = c.tell.new.pages in
    let mid = c.undo_unfinished.new.log in
    let log = c.args.log.now in
    let e = c.in_err-tell.field-0.0 in
    handed_stops _ c.from_residual-in_err-tell.result e (search rules) (λ told first before.
    unread_rolls_nothing_back p old.sizes log.records first e one two c.in_err-tell.ensures.causes (told_behind p l old one two log.device mid.device mid.device log.records mid.records _ c.in_ok-undo_unfinished.ensures.goes_on told).0)

pub returns-in_err-tell-clause-goes_on : goal.returns-in_err-tell-clause-goes_on
returns-in_err-tell-clause-goes_on g c =
    let p = g.P.PageDevice in
    let l = g.L.LogDevice in
    let undo = c.in_ok-undo_unfinished.ensures in
    let one = c.undo_unfinished.new.pages in
    let two = c.tell.new.pages in
    let mid = c.undo_unfinished.new.log in
    let log = c.args.log.now in
    let e = c.in_err-tell.field-0.0 in
    goes_refused (Err e) c.from_residual-in_err-tell.result e refl (search rules)
    (goes_then p l c.args.pages.now one two log.device mid.device mid.device log.records mid.records mid.records _ _ undo.goes_on undo.goes_on.counted (λ told. (undo.repeated told).repeated)
    (goes_reading p l g.met.L.LogDevice.only_now one two mid.device mid.records (Err e) c.in_err-tell.ensures.read (unread_reads p e one two c.in_err-tell.ensures.causes)))

pub returns-in_err-tell-clause-way : goal.returns-in_err-tell-clause-way
returns-in_err-tell-clause-way g c = λ h f so found.
    let read = c.tell.ensures.read.read in
    let so_one = (c.in_ok-undo_unfinished.ensures.way (read.device.honest h.0, h.1) f so found).0 in
    handed_way _ _ c.from_residual-in_err-tell.result c.in_err-tell.field-0.0 (search rules)
    (pages_stand g.P.PageDevice g.L.LogDevice g.met.P.PageDevice.only_now g.met.P.PageDevice.counts_now g.met.L.LogDevice.counts_now f c.undo_unfinished.new.pages c.undo_unfinished.new.log so_one c.tell.new.pages (read.kept 0).sizes ((read.kept 0).images h.0) read.device).on.path

-- ---- transactions are undone

pub abort_lost-requires-clause-held : goal.abort_lost-requires-clause-held
abort_lost-requires-clause-held g c = subst NoneHeld (sym c.tell.ensures.read.read.frames) (c.in_ok-undo_unfinished.ensures.goes_on.held c.requires.held)

pub abort_lost-requires-clause-more : goal.abort_lost-requires-clause-more
abort_lost-requires-clause-more g c = subst (λ (n : ℕ). 1 < n) (sym (ap (λ (fs : List Held). length fs) c.tell.ensures.read.read.frames ∙ c.in_ok-undo_unfinished.ensures.goes_on.count)) c.requires.more

pub returns-in_err-abort_lost-clause-stops : goal.returns-in_err-abort_lost-clause-stops
returns-in_err-abort_lost-clause-stops g c =
    let only = g.met.L.LogDevice.only_now in
    let abort = c.in_err-abort_lost.ensures in
    let two = c.tell.new.pages in
    let three = c.abort_lost.new.pages in
    let log = c.args.log.now.records in
    let mid = c.undo_unfinished.new.log.records in
    let now = c.abort_lost.new.log in
    let z = c.args.pages.now.sizes in
    let e = c.in_err-abort_lost.field-0.0 in
    let k = undone g (goal.at.returns-in_err-abort_lost-clause-stops g c).In_ok-tell in
    let same = (went only k).sizes in
    handed_stops _ c.from_residual-in_err-abort_lost.result e (search rules) (λ told first before.
    let told2 = told_two only k three now _ abort.rounds.carries.goes_on told in
    abort_rolls_nothing_back z log mid two (k.undone told2.1) (subst (λ y. IsPool y two.images) same (pool_then only k told2)) abort.some first ((repeated_then only k told2).repeated first before) e
    (subst (λ y. AbortingStops y mid two e) same (abort.rounds.carries.stops (told_three only k three now _ abort.rounds.carries.goes_on told))))

pub returns-in_err-abort_lost-clause-goes_on : goal.returns-in_err-abort_lost-clause-goes_on
returns-in_err-abort_lost-clause-goes_on g c =
    let e = c.in_err-abort_lost.field-0.0 in
    goes_refused (Err e) c.from_residual-in_err-abort_lost.result e refl (search rules)
    (all_went g.met.L.LogDevice.only_now (undone g (goal.at.returns-in_err-abort_lost-clause-goes_on g c).In_ok-tell) c.abort_lost.new.pages c.abort_lost.new.log (Err e) c.in_err-abort_lost.ensures.rounds.carries.goes_on)

pub returns-in_err-abort_lost-clause-way : goal.returns-in_err-abort_lost-clause-way
returns-in_err-abort_lost-clause-way g c = λ h f so found.
    let abort = c.in_err-abort_lost.ensures in
    let k = undone g (goal.at.returns-in_err-abort_lost-clause-way g c).In_ok-tell in
    handed_way _ _ c.from_residual-in_err-abort_lost.result c.in_err-abort_lost.field-0.0 (search rules)
    (abort.rounds.carries.way h f (over_two g.met.L.LogDevice.only_now k g.met.P.PageDevice.only_now g.met.P.PageDevice.counts_now g.met.L.LogDevice.counts_now f so found (abort.rounds.carries.goes_on.pages_honest h.0, abort.rounds.carries.goes_on.log_honest h.1) abort.some)).1

-- ---- chains are not whole, or were not looked through

pub returns-in_err-check_links-clause-stops : goal.returns-in_err-check_links-clause-stops
returns-in_err-check_links-clause-stops g c =
    let only = g.met.L.LogDevice.only_now in
    let at = goal.at.returns-in_err-check_links-clause-stops g c in
    let k = undone g at.In_ok-tell in
    let a = aborted g at.In_ok-abort_lost in
    let links = c.in_err-check_links.ensures in
    let old = c.args.pages.now in
    let three = c.abort_lost.new.pages in
    let four = c.check_links.new.pages in
    let z = old.sizes in
    let e = c.in_err-check_links.field-0.0 in
    let same = (rounds_went only k a).sizes in
    handed_stops _ c.from_residual-in_err-check_links.result e (search rules) (λ told first before.
    unlinked_stops z c.args.log.now.records c.abort_lost.new.log.records (paged old) three (rolled_back only k a (told_rounds only k a four links.read.read told)) (subst (λ y. IsPool y three.images) same links.pool) first before e
    (subst (λ y. LinkStops y (slots_on y (paged three)) e) same (links.stops (links_truly only k a four links.read.read told))))

pub returns-in_err-check_links-clause-goes_on : goal.returns-in_err-check_links-clause-goes_on
returns-in_err-check_links-clause-goes_on g c =
    let only = g.met.L.LogDevice.only_now in
    let at = goal.at.returns-in_err-check_links-clause-goes_on g c in
    let k = undone g at.In_ok-tell in
    let a = aborted g at.In_ok-abort_lost in
    let links = c.in_err-check_links.ensures in
    let e = c.in_err-check_links.field-0.0 in
    goes_refused (Err e) c.from_residual-in_err-check_links.result e refl (search rules) (links_went only k a c.check_links.new.pages links.read.read (Err e) links.read links.names)

pub returns-in_err-check_links-clause-way : goal.returns-in_err-check_links-clause-way
returns-in_err-check_links-clause-way g c = λ h f so found.
    let only = g.met.L.LogDevice.only_now in
    let at = goal.at.returns-in_err-check_links-clause-way g c in
    let k = undone g at.In_ok-tell in
    let a = aborted g at.In_ok-abort_lost in
    handed_way _ _ c.from_residual-in_err-check_links.result c.in_err-check_links.field-0.0 (search rules)
    (stands_four only k g.met.P.PageDevice.only_now g.met.P.PageDevice.counts_now g.met.L.LogDevice.counts_now f so found a c.check_links.new.pages c.check_links.ensures.read.read h).on.path

-- ---- all is well

pub returns-clause-is : goal.returns-clause-is
returns-clause-is g c = λ h.
    let undo = c.in_ok-undo_unfinished.ensures in
    let abort = c.in_ok-abort_lost.ensures in
    let log = c.args.log.now.records in
    let mid = c.undo_unfinished.new.log.records in
    let u = undo.undone (abort.rounds.carries.goes_on.log_honest h) in
    record { undone = mid; undoes = u; aborting = abort.rounds.behind h; ended = abort.ended; none_lost = λ e. ap (λ (y : Logged _). y.records) (abort.none (undone_active log mid u ∙ e)).0 }

pub returns-clause-rolls_back : goal.returns-clause-rolls_back
returns-clause-rolls_back g c = λ told.
    let only = g.met.L.LogDevice.only_now in
    let at = goal.at.returns-clause-rolls_back g c in
    let k = undone g at.In_ok-tell in
    let a = aborted g at.In_ok-abort_lost in
    let old = c.args.pages.now in
    let four = c.check_links.new.pages in
    let read = c.check_links.ensures.read.read in
    subst (λ (i : List (List ℕ)). IsRolledBackSince old.sizes c.args.log.now.records c.abort_lost.new.log.records (paged old) (image_in i)) (sym (links_images only k a four read told)) (rolled_back only k a (told_rounds only k a four read told))

pub returns-clause-counted : goal.returns-clause-counted
returns-clause-counted g c = λ told before.
    let only = g.met.L.LogDevice.only_now in
    let at = goal.at.returns-clause-counted g c in
    let k = undone g at.In_ok-tell in
    let a = aborted g at.In_ok-abort_lost in
    let four = c.check_links.new.pages in
    let read = c.check_links.ensures.read.read in
    subst (λ (i : List (List ℕ)). ArePagesCounted c.args.pages.now.sizes (length c.abort_lost.new.log.records) (image_in i)) (sym (links_images only k a four read told)) (rolled_back_counted only k a (told_rounds only k a four read told) before)

pub returns-clause-linked : goal.returns-clause-linked
returns-clause-linked g c = λ told.
    let only = g.met.L.LogDevice.only_now in
    let at = goal.at.returns-clause-linked g c in
    let k = undone g at.In_ok-tell in
    let a = aborted g at.In_ok-abort_lost in
    let z = c.args.pages.now.sizes in
    let three = c.abort_lost.new.pages in
    let four = c.check_links.new.pages in
    let read = c.check_links.ensures.read.read in
    subst (λ (i : List (List ℕ)). AreLinked z (slots_on z (image_in i))) (sym (links_images only k a four read told))
    (subst (λ (y : Sizes). AreLinked y (slots_on y (paged three))) (rounds_went only k a).sizes (c.in_ok-check_links.ensures.linked (links_truly only k a four read told)))

pub returns-clause-lost : goal.returns-clause-lost
returns-clause-lost g c = ap length c.active.ensures

pub returns-clause-known : goal.returns-clause-known
returns-clause-known g c = knows_read g.P.PageDevice c.abort_lost.new.pages c.check_links.new.pages c.abort_lost.new.planner c.check_links.ensures.read.read c.in_ok-abort_lost.ensures.cells

pub returns-clause-goes_on : goal.returns-clause-goes_on
returns-clause-goes_on g c =
    let only = g.met.L.LogDevice.only_now in
    let at = goal.at.returns-clause-goes_on g c in
    let k = undone g at.In_ok-tell in
    let a = aborted g at.In_ok-abort_lost in
    let read = c.in_ok-check_links.ensures.read in
    links_went only k a c.check_links.new.pages read.read _ (record { read = read.read; counted = read.counted; refused = tt }) tt

pub returns-clause-way : goal.returns-clause-way
returns-clause-way g c = λ h f so found.
    let only = g.met.L.LogDevice.only_now in
    let at = goal.at.returns-clause-way g c in
    let k = undone g at.In_ok-tell in
    let a = aborted g at.In_ok-abort_lost in
    (stands_four only k g.met.P.PageDevice.only_now g.met.P.PageDevice.counts_now g.met.L.LogDevice.counts_now f so found a c.check_links.new.pages c.check_links.ensures.read.read h, tt)
