use Rattle.std.proofs.Common.{rules, ap, subst, sym, ◌∙◌, ◌≡◌, ◌⊎◌, ◌≤◌, arith, length}
use Rattle.rq_model.specs.Bases.{based}
use Rattle.rq_log.proofs.Moments.{weaker}
use Rattle.rq_log.specs.Crash.{LeavesOnly}
use Rattle.rq_log.specs.Spelled.{spelled}
use Rattle.rq_pool.specs.Pooled.{AreOver}
use Rattle.rq_store.specs.State.{State}
use Rattle.rq_engine.specs.Opened.{OpenStore}
use Rattle.rq_engine.proofs.Checkpointing.{base_missed, base_put, kept_same, whole_or_base}
use Rattle.rq_engine.proofs.Opened.{none_tried, state_is}
use Rattle.rq_engine.proofs.Refusals.{not_full}
use Rattle.rq_engine.proofs.engine.Engine.put_base.Goals as goal

pub returns-in-Ok-clause-made : goal.returns-in-Ok-clause-made
returns-in-Ok-clause-made g c = record {
  could = c.requires.could;
  lsn = search rules;
  state = search rules;
  reads = search rules;
  durable = search rules;
  pages = search rules;
  clean = search rules;
  beyond = λ page high. kept_same g.P.PageDevice c.args.self.now.pages c.self.inside.pages.device page (ap (λ (o : OpenStore _ _). o.pages) c.self.view_is);
  replacing = search rules;
  counts = search rules;
}

pub returns-in-Ok-clause-any_moment : goal.returns-in-Ok-clause-any_moment
returns-in-Ok-clause-any_moment g c = λ untried h.
    let L = g.L.LogDevice in
    let old = c.args.self.now in
    weaker L old.log c.replace.new.self.device _ _ (subst (λ (o : OpenStore _ _). LeavesOnly L o.log c.replace.new.self.device (λ b. (b ≡ spelled o.state.records) ⊎ (b ≡ spelled (based o.state.incarnation o.state.records)))) c.self.view_is
    (c.in-Ok.ensures.any_moment h (c.self.invariant.durable, none_tried _ (ap (λ (o : OpenStore _ _). o.replacing) c.self.view_is ∙ untried))))
    (λ bytes b. whole_or_base old.state old.state.incarnation bytes c.requires.forced b)

pub returns-in-Err-clause-any_moment : goal.returns-in-Err-clause-any_moment
returns-in-Err-clause-any_moment g c = λ untried h.
    let L = g.L.LogDevice in
    let old = c.args.self.now in
    weaker L old.log c.replace.new.self.device _ _ (subst (λ (o : OpenStore _ _). LeavesOnly L o.log c.replace.new.self.device (λ b. (b ≡ spelled o.state.records) ⊎ (b ≡ spelled (based o.state.incarnation o.state.records)))) c.self.view_is
    (c.in-Err.ensures.any_moment h (c.self.invariant.durable, none_tried _ (ap (λ (o : OpenStore _ _). o.replacing) c.self.view_is ∙ untried))))
    (λ bytes b. whole_or_base old.state old.state.incarnation bytes c.requires.forced b)

pub returns-in-Ok-clause-fit : goal.returns-in-Ok-clause-fit
returns-in-Ok-clause-fit g c =
    let old = c.args.self.now in
    let s : State = old.state in
    let inside = state_is c.self.view_is in
    let one : 1 ≤ s.incarnation = subst (λ (x : State). 1 ≤ x.incarnation) inside c.self.invariant.kept.incarnation in
    let low : s.incarnation ≤ length s.records = subst (λ (x : State). x.incarnation ≤ length x.records) inside c.self.invariant.kept.low in
    let few = not_full s 1 c.requires.could.room in
    let over : AreOver g.P.PageDevice old.pages s.sizes s.images old.changed = subst (λ (o : OpenStore _ _). AreOver g.P.PageDevice o.pages o.state.sizes o.state.images o.changed) c.self.view_is c.shows_kept-2.ensures in
    base_put g.P.PageDevice g.L.LogDevice old _ c.requires.could.none_open c.requires.forced (c.shows_kept.ensures.spelled, c.shows_kept.ensures.based)
    (omega (arith, one, low), omega (arith, few), one, low)
    (λ honest q image least most may. c.requires.durable q image may ∙ sym (over.clean honest q most (c.requires.clean q least most)))
    c.shows_kept.ensures.cut
    (ap (λ (o : OpenStore _ _). o.pages) c.self.view_is)
    (λ h. subst g.L.LogDevice.honest (ap (λ (o : OpenStore _ _). o.log) c.self.view_is) (c.in-Ok.ensures.honest h))
    (λ untried h. subst (λ (o : OpenStore _ _). LeavesOnly g.L.LogDevice o.log c.replace.new.self.device (λ b. (b ≡ spelled o.state.records) ⊎ (b ≡ spelled (based o.state.incarnation o.state.records)))) c.self.view_is
    (c.in-Ok.ensures.any_moment h (c.self.invariant.durable, none_tried _ (ap (λ (o : OpenStore _ _). o.replacing) c.self.view_is ∙ untried))))
    (search rules)

pub returns-in-Err-clause-fit : goal.returns-in-Err-clause-fit
returns-in-Err-clause-fit g c =
    let old = c.args.self.now in
    let s : State = old.state in
    let inside = state_is c.self.view_is in
    let one : 1 ≤ s.incarnation = subst (λ (x : State). 1 ≤ x.incarnation) inside c.self.invariant.kept.incarnation in
    let low : s.incarnation ≤ length s.records = subst (λ (x : State). x.incarnation ≤ length x.records) inside c.self.invariant.kept.low in
    let few = not_full s 1 c.requires.could.room in
    let over : AreOver g.P.PageDevice old.pages s.sizes s.images old.changed = subst (λ (o : OpenStore _ _). AreOver g.P.PageDevice o.pages o.state.sizes o.state.images o.changed) c.self.view_is c.shows_kept-2.ensures in
    base_missed g.P.PageDevice g.L.LogDevice old _ c.requires.could.none_open c.requires.forced (c.shows_kept.ensures.spelled, c.shows_kept.ensures.based)
    (omega (arith, one, low), omega (arith, few), one, low)
    (λ honest q image least most may. c.requires.durable q image may ∙ sym (over.clean honest q most (c.requires.clean q least most)))
    c.shows_kept.ensures.cut
    (ap (λ (o : OpenStore _ _). o.pages) c.self.view_is)
    (λ h. subst g.L.LogDevice.honest (ap (λ (o : OpenStore _ _). o.log) c.self.view_is) (c.in-Err.ensures.honest h))
    (λ untried h. subst (λ (o : OpenStore _ _). LeavesOnly g.L.LogDevice o.log c.replace.new.self.device (λ b. (b ≡ spelled o.state.records) ⊎ (b ≡ spelled (based o.state.incarnation o.state.records)))) c.self.view_is
    (c.in-Err.ensures.any_moment h (c.self.invariant.durable, none_tried _ (ap (λ (o : OpenStore _ _). o.replacing) c.self.view_is ∙ untried))))
    (search rules)
