use Rattle.std.proofs.Common.{ap, subst, ◌∙◌, ◌≡◌, ◌≤◌, ◌<◌, ℕ, length, refl, inl, inr}
use Rattle.rq_log.specs.Crash.{LeavesOnly}
use Rattle.rq_log.specs.Spelled.{IsBeginning}
use Rattle.rq_page.specs.Formatted.{IsFormatted}
use Rattle.rq_page.specs.Sizes.{Sizes, page_count}
use Rattle.rq_store.specs.State.{State}
use Rattle.rq_engine.specs.Devices.{KeepsPage}
use Rattle.rq_engine.specs.Migration.{AreTagPages}
use Rattle.rq_engine.proofs.Checkpointing.{begins_first, begins_join, forced_sound, if_ok, keeps_join}
use Rattle.rq_engine.proofs.Migrating.{behind_first, beyond_stays, grows_either, grows_join, migrated_later, tags_stay}
use Rattle.rq_engine.proofs.engine.Engine.grow.Goals as goal

pub returns-in_err-write_tags-clause-fit : goal.returns-in_err-write_tags-clause-fit
returns-in_err-write_tags-clause-fit g c = grows_either g.P.PageDevice g.L.LogDevice c.args.grown.now.tags c.args.self.now c.write_tags.new.self c.in_err-write_tags.ensures.fit

pub returns-in_err-make_durable-clause-any_moment : goal.returns-in_err-make_durable-clause-any_moment
returns-in_err-make_durable-clause-any_moment g c = λ none h.
    let L = g.L.LogDevice in
    let old = c.args.self.now in
    let wrote = c.in_ok-write_tags.ensures in
    let made = c.in_err-make_durable.ensures in
    begins_first L old.state old.log c.make_durable.new.self.log c.make_durable.new.self.log refl
    (subst (λ (d : _). LeavesOnly L d c.make_durable.new.self.log (IsBeginning old.state.records old.state.forced)) wrote.log
    (subst (λ (s : State). LeavesOnly L c.write_tags.new.self.log c.make_durable.new.self.log (IsBeginning s.records s.forced)) wrote.state (made.any_moment (wrote.replacing ∙ none) h)))

pub returns-in_err-make_durable-clause-fit : goal.returns-in_err-make_durable-clause-fit
returns-in_err-make_durable-clause-fit g c =
    let P = g.P.PageDevice in
    let L = g.L.LogDevice in
    let old = c.args.self.now in
    let wrote = c.in_ok-write_tags.ensures in
    let made = c.in_err-make_durable.ensures in
    grows_either P L c.args.grown.now.tags old c.make_durable.new.self
    (keeps_join P L old c.write_tags.new.self c.make_durable.new.self wrote.state wrote.replacing made.honest wrote.fit made.fit)

pub returns-in_err-write_tags-clause-first : goal.returns-in_err-write_tags-clause-first
returns-in_err-write_tags-clause-first g c = inl c.in_err-write_tags.ensures.log

pub returns-in_err-write_tags-clause-beyond : goal.returns-in_err-write_tags-clause-beyond
returns-in_err-write_tags-clause-beyond g c =
    let old = c.args.self.now in
    subst (λ (z : Sizes). (page : ℕ) → page_count z ≤ page → KeepsPage g.P.PageDevice old.pages c.write_tags.new.self.pages page) c.requires.grown c.in_err-write_tags.ensures.beyond

pub returns-in_err-make_durable-clause-first : goal.returns-in_err-make_durable-clause-first
returns-in_err-make_durable-clause-first g c =
    let P = g.P.PageDevice in
    let z : Sizes = c.args.self.now.state.sizes in
    let wrote = c.in_ok-write_tags.ensures in
    let one = c.write_tags.new.self in
    let two = c.make_durable.new.self in
    let tags : AreTagPages P c.args.grown.now.tags z one.pages = subst (λ (y : Sizes). (page : ℕ) → page_count z ≤ page → page < page_count y → IsFormatted y page (P.seen one.pages page)) c.requires.grown wrote.written in
    inr (tags_stay P c.args.grown.now.tags z one.pages two.pages tags
    (subst (λ (s : State). (page : ℕ) → page_count s.sizes ≤ page → KeepsPage P one.pages two.pages page) wrote.state c.in_err-make_durable.ensures.behind))

pub returns-in_err-make_durable-clause-beyond : goal.returns-in_err-make_durable-clause-beyond
returns-in_err-make_durable-clause-beyond g c =
    let P = g.P.PageDevice in
    let old = c.args.self.now in
    let wrote = c.in_ok-write_tags.ensures in
    let one = c.write_tags.new.self in
    let two = c.make_durable.new.self in
    beyond_stays P c.args.grown.now.tags old.state.sizes c.requires.may old.pages one.pages two.pages
    (subst (λ (z : Sizes). (page : ℕ) → page_count z ≤ page → KeepsPage P old.pages one.pages page) c.requires.grown wrote.beyond)
    (subst (λ (s : State). (page : ℕ) → page_count s.sizes ≤ page → KeepsPage P one.pages two.pages page) wrote.state c.in_err-make_durable.ensures.behind)

pub returns-clause-first : goal.returns-clause-first
returns-clause-first g c =
    let P = g.P.PageDevice in
    let n = c.args.grown.now.tags in
    let z : Sizes = c.args.self.now.state.sizes in
    let wrote = c.in_ok-write_tags.ensures in
    let one = c.write_tags.new.self in
    let two = c.make_durable.new.self in
    let new = c.put_grown.new.self in
    let tags : AreTagPages P n z one.pages = subst (λ (y : Sizes). (page : ℕ) → page_count z ≤ page → page < page_count y → IsFormatted y page (P.seen one.pages page)) c.requires.grown wrote.written in
    inr (tags_stay P n z two.pages new.pages
    (tags_stay P n z one.pages two.pages tags (subst (λ (s : State). (page : ℕ) → page_count s.sizes ≤ page → KeepsPage P one.pages two.pages page) wrote.state c.in_ok-make_durable.ensures.behind))
    (behind_first P n z two.pages new.pages c.put_grown.ensures.others))

pub returns-clause-beyond : goal.returns-clause-beyond
returns-clause-beyond g c =
    let P = g.P.PageDevice in
    let n = c.args.grown.now.tags in
    let old = c.args.self.now in
    let z : Sizes = old.state.sizes in
    let wrote = c.in_ok-write_tags.ensures in
    let one = c.write_tags.new.self in
    let two = c.make_durable.new.self in
    let new = c.put_grown.new.self in
    beyond_stays P n z c.requires.may old.pages two.pages new.pages
    (beyond_stays P n z c.requires.may old.pages one.pages two.pages
    (subst (λ (y : Sizes). (page : ℕ) → page_count y ≤ page → KeepsPage P old.pages one.pages page) c.requires.grown wrote.beyond)
    (subst (λ (s : State). (page : ℕ) → page_count s.sizes ≤ page → KeepsPage P one.pages two.pages page) wrote.state c.in_ok-make_durable.ensures.behind))
    (behind_first P n z two.pages new.pages c.put_grown.ensures.others)

pub returns-clause-made : goal.returns-clause-made
returns-clause-made g c =
    let P = g.P.PageDevice in
    let L = g.L.LogDevice in
    let old = c.args.self.now in
    let wrote = c.in_ok-write_tags.ensures in
    let made = c.in_ok-make_durable.ensures in
    let one = c.write_tags.new.self in
    let two = c.make_durable.new.self in
    let two_beyond = beyond_stays P c.args.grown.now.tags old.state.sizes c.requires.may old.pages one.pages two.pages
    (subst (λ (z : Sizes). (page : ℕ) → page_count z ≤ page → KeepsPage P old.pages one.pages page) c.requires.grown wrote.beyond)
    (subst (λ (s : State). (page : ℕ) → page_count s.sizes ≤ page → KeepsPage P one.pages two.pages page) wrote.state made.behind) in
    if_ok c.put_grown.result (λ lsn m. migrated_later P L c.args.grown.now.tags old c.make_durable.new.self c.put_grown.new.self lsn (length old.state.records) c.requires.could
    (made.state ∙ ap (λ (s : State). record s { forced = length s.records }) wrote.state) (made.replacing ∙ wrote.replacing)
    (made.cause.0 ∙ wrote.cause.0) (made.cause.1 ∙ wrote.cause.1) two_beyond m) c.put_grown.ensures.made

pub returns-clause-any_moment : goal.returns-clause-any_moment
returns-clause-any_moment g c = λ none h.
    let L = g.L.LogDevice in
    let old = c.args.self.now in
    let wrote = c.in_ok-write_tags.ensures in
    let made = c.in_ok-make_durable.ensures in
    let put = c.put_grown.ensures in
    let first = made.any_moment (wrote.replacing ∙ none) (put.honest_log h) in
    begins_join L old.state c.make_durable.new.self.state old.log c.make_durable.new.self.log c.put_grown.new.self.log
    (made.state ∙ ap (λ (s : State). record s { forced = length s.records }) wrote.state) c.shows_kept.ensures.order
    (subst (λ (d : _). LeavesOnly L d c.make_durable.new.self.log (IsBeginning old.state.records old.state.forced)) wrote.log
    (subst (λ (s : State). LeavesOnly L c.write_tags.new.self.log c.make_durable.new.self.log (IsBeginning s.records s.forced)) wrote.state first))
    (put.any_moment (made.replacing ∙ wrote.replacing ∙ none) h)

pub returns-clause-fit : goal.returns-clause-fit
returns-clause-fit g c =
    let P = g.P.PageDevice in
    let L = g.L.LogDevice in
    let n = c.args.grown.now.tags in
    let old = c.args.self.now in
    let one = c.write_tags.new.self in
    let two = c.make_durable.new.self in
    let wrote = c.in_ok-write_tags.ensures in
    let made = c.in_ok-make_durable.ensures in
    let put = c.put_grown.ensures in
    let is : two.state ≡ record old.state { forced = length old.state.records } = made.state ∙ ap (λ (s : State). record s { forced = length s.records }) wrote.state in
    grows_join P L n old two c.put_grown.new.self (length old.state.records) is c.shows_kept.ensures.order (made.replacing ∙ wrote.replacing) put.honest
    (forced_sound old.state two.state is)
    (keeps_join P L old one two wrote.state wrote.replacing made.honest wrote.fit made.fit) put.fit
