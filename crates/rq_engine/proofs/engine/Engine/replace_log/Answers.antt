use Rattle.std.proofs.Common.{subst, ◌∙◌, length}
use Rattle.rq_engine.proofs.Checkpointing.{begins_join, either, either_join, forced_sound, kept_join, kept_same, made_after}
use Rattle.rq_engine.proofs.engine.Engine.replace_log.Goals as goal

pub returns-in_err-make_durable-clause-fit : goal.returns-in_err-make_durable-clause-fit
returns-in_err-make_durable-clause-fit g c = either g.P.PageDevice g.L.LogDevice c.args.self.now c.make_durable.new.self c.in_err-make_durable.ensures.fit

pub returns-clause-any_moment : goal.returns-clause-any_moment
returns-clause-any_moment g c = λ none h.
    let L = g.L.LogDevice in
    let old = c.args.self.now in
    let made = c.in_ok-make_durable.ensures in
    let put = c.put_base.ensures in
    begins_join L old.state c.make_durable.new.self.state old.log c.make_durable.new.self.log c.put_base.new.self.log made.state c.shows_kept.ensures.order
    (made.any_moment none (put.honest h)) (put.any_moment (made.replacing ∙ none) h)

pub returns-clause-behind : goal.returns-clause-behind
returns-clause-behind g c page high =
    let P = g.P.PageDevice in
    let one = c.make_durable.new.self in
    let new = c.put_base.new.self in
    kept_join P c.args.self.now.pages one.pages new.pages page (c.in_ok-make_durable.ensures.behind page high) (kept_same P one.pages new.pages page c.put_base.ensures.device)

pub returns-clause-made : goal.returns-clause-made
returns-clause-made g c =
    let P = g.P.PageDevice in
    let old = c.args.self.now in
    let one = c.make_durable.new.self in
    let new = c.put_base.new.self in
    let made = c.in_ok-make_durable.ensures in
    made_after P g.L.LogDevice old one new (length old.state.records) c.put_base.result c.requires made.state made.replacing made.cause
    (λ page high. kept_join P old.pages one.pages new.pages page (made.behind page high) (kept_same P one.pages new.pages page c.put_base.ensures.device)) c.put_base.ensures.made

pub returns-clause-fit : goal.returns-clause-fit
returns-clause-fit g c =
    let P = g.P.PageDevice in
    let L = g.L.LogDevice in
    let old = c.args.self.now in
    let one = c.make_durable.new.self in
    let made = c.in_ok-make_durable.ensures in
    let put = c.put_base.ensures in
    either_join P L old one c.put_base.new.self (length old.state.records) made.state c.shows_kept.ensures.order made.replacing
    (λ h. (subst P.honest put.device h.0, put.honest h.1)) (forced_sound old.state one.state made.state) made.fit put.fit
