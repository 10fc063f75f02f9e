use Rattle.std.proofs.Common.{sym, ◌∙◌, ap, subst}
use Rattle.rq_page.specs.Sizes.{Sizes}
use Rattle.rq_views.specs.Stored.{IsStoreSlot}
use Rattle.rq_pool.proofs.Fetched.{unread_truly}
use Rattle.rq_txn.specs.Rows.{latched_in}
use Rattle.rq_planner.proofs.Latches.{unread_unlatched}
use Rattle.rq_planner.proofs.Readings.{look_unread, may_be_unread, look_reads}
use Rattle.rq_planner.proofs.gathering.give.Goals as goal

pub returns-then-has_latched-clause-latch : goal.returns-then-has_latched-clause-latch
returns-then-has_latched-clause-latch g c = ap (latched_in c.args.transactions.now) (sym c.page.ensures) ∙ sym c.has_latched.ensures ∙ c.if-has_latched.true

pub slot_at_hand-requires-clause-place : goal.slot_at_hand-requires-clause-place
slot_at_hand-requires-clause-place g c =
    let stands = c.in-Ok-true.ensures.known.0 c.in-Ok-true.field-0-test in
    subst (λ (z : Sizes). IsStoreSlot z c.args.at) (sym ((c.in-Ok-true.ensures.stands stands).read.kept 0).sizes) stands

pub slot_at_hand-requires-clause-hand : goal.slot_at_hand-requires-clause-hand
slot_at_hand-requires-clause-hand g c = (c.in-Ok-true.ensures.stands (c.in-Ok-true.ensures.known.0 c.in-Ok-true.field-0-test)).hand

pub returns-in-Err-clause-read : goal.returns-in-Err-clause-read
returns-in-Err-clause-read g c = look_reads g.P.PageDevice c.args.pages.now c.look_at.new.self c.args.at c.in-Err.refusal c.in-Err.ensures.stands c.in-Err.ensures.none

pub returns-in-Err-clause-causes : goal.returns-in-Err-clause-causes
returns-in-Err-clause-causes g c =
    may_be_unread g.P.PageDevice c.args.pages.now c.look_at.new.self c.in-Err.refusal (look_unread g.P.PageDevice c.args.pages.now c.look_at.new.self c.args.at c.in-Err.refusal c.in-Err.ensures.stands c.in-Err.ensures.none)

-- where what was read is the store's no page is refused
pub returns-in-Err-clause-withheld : goal.returns-in-Err-clause-withheld
returns-in-Err-clause-withheld g c truly =
    absurd (unread_truly g.P.PageDevice c.in-Err.refusal c.args.pages.now c.look_at.new.self (look_unread g.P.PageDevice c.args.pages.now c.look_at.new.self c.args.at c.in-Err.refusal c.in-Err.ensures.stands c.in-Err.ensures.none) truly)

pub returns-in-Err-clause-latch : goal.returns-in-Err-clause-latch
returns-in-Err-clause-latch g c =
    unread_unlatched g.P.PageDevice c.args.pages.now c.look_at.new.self _ c.in-Err.refusal (look_unread g.P.PageDevice c.args.pages.now c.look_at.new.self c.args.at c.in-Err.refusal c.in-Err.ensures.stands c.in-Err.ensures.none)
    (ap (latched_in c.args.transactions.now) (sym c.page.ensures) ∙ sym c.has_latched.ensures ∙ c.if-has_latched.false)
