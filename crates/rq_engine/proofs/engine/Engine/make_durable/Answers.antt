use Rattle.std.proofs.Common.{subst, sym, ◌∙◌, ◌≤◌, length, rules}
use Rattle.rq_page.specs.Sizes.{page_count}
use Rattle.rq_store.specs.State.{State}
use Rattle.rq_engine.specs.Checkpoint.{CountsFailure}
use Rattle.rq_engine.proofs.Checkpointing.{forced_join, forced_sound, if_ok, keeps_join, kept_join, kept_same}
use Rattle.rq_engine.proofs.engine.Engine.make_durable.Goals as goal

pub returns-in_err-write_all-clause-fit : goal.returns-in_err-write_all-clause-fit
returns-in_err-write_all-clause-fit g c =
    let P = g.P.PageDevice in
    let L = g.L.LogDevice in
    let old = c.args.self.now in
    let wrote = c.in_err-write_all.ensures in
    forced_join P L old c.force.new.self c.write_all.new.self (length old.state.records) c.in_ok-force.ensures.state c.shows_kept.ensures.order c.in_ok-force.ensures.replacing
    (λ h. (wrote.honest h.0, subst L.honest wrote.log h.1))
    (forced_sound old.state c.force.new.self.state c.in_ok-force.ensures.state) c.in_ok-force.ensures.fit wrote.fit

pub returns-clause-fit : goal.returns-clause-fit
returns-clause-fit g c =
    let P = g.P.PageDevice in
    let L = g.L.LogDevice in
    let old = c.args.self.now in
    let one = c.force.new.self in
    let two = c.write_all.new.self in
    let three = c.sync_pages.new.self in
    let wrote = c.in_ok-write_all.ensures in
    let made = c.sync_pages.ensures in
    forced_join P L old one three (length old.state.records) c.in_ok-force.ensures.state c.shows_kept.ensures.order c.in_ok-force.ensures.replacing
    (λ h. (wrote.honest (made.honest h.0), subst L.honest wrote.log (subst L.honest made.log h.1)))
    (forced_sound old.state one.state c.in_ok-force.ensures.state) c.in_ok-force.ensures.fit
    (keeps_join P L one two three wrote.state wrote.replacing (λ h. (made.honest h.0, subst L.honest made.log h.1)) wrote.fit made.fit)

pub returns-in_err-write_all-clause-behind : goal.returns-in_err-write_all-clause-behind
returns-in_err-write_all-clause-behind g c = λ page past.
    let P = g.P.PageDevice in
    kept_join P c.args.self.now.pages c.force.new.self.pages c.write_all.new.self.pages page (kept_same P c.args.self.now.pages c.force.new.self.pages page c.in_ok-force.ensures.pages)
    (c.in_err-write_all.ensures.behind page (subst (λ (s : State). page_count s.sizes ≤ page) (sym c.in_ok-force.ensures.state) past))

pub returns-in_err-force-clause-behind : goal.returns-in_err-force-clause-behind
returns-in_err-force-clause-behind g c = λ page past. kept_same g.P.PageDevice c.args.self.now.pages c.force.new.self.pages page c.in_err-force.ensures.pages

pub returns-clause-behind : goal.returns-clause-behind
returns-clause-behind g c = λ page past.
    let P = g.P.PageDevice in
    kept_join P c.args.self.now.pages c.write_all.new.self.pages c.sync_pages.new.self.pages page
    (kept_join P c.args.self.now.pages c.force.new.self.pages c.write_all.new.self.pages page (kept_same P c.args.self.now.pages c.force.new.self.pages page c.in_ok-force.ensures.pages)
    (c.in_ok-write_all.ensures.behind page (subst (λ (s : State). page_count s.sizes ≤ page) (sym c.in_ok-force.ensures.state) past)))
    (c.sync_pages.ensures.kept page)

pub returns-clause-durable : goal.returns-clause-durable
returns-clause-durable g c = c.sync_pages.ensures.durable

pub returns-clause-state : goal.returns-clause-state
returns-clause-state g c = if_ok c.sync_pages.result (λ _ same. same ∙ c.in_ok-write_all.ensures.state ∙ c.in_ok-force.ensures.state) c.sync_pages.ensures.state

pub returns-clause-cause : goal.returns-clause-cause
returns-clause-cause g c =
    let counted : CountsFailure g.P.PageDevice g.L.LogDevice c.args.self.now c.sync_pages.new.self c.sync_pages.result = search rules in
    counted
