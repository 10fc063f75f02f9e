use Rattle.std.proofs.Common.{rules, ap, refl, subst, sym, ◌∙◌, ◌≡◌, ◌⊎◌, ◌+◌, ◌<◌, ◌≤◌, arith, length, List, ℕ, true}
use Rattle.rq_model.specs.Bases.{based}
use Rattle.rq_model.specs.Vocabulary.{is_some}
use Rattle.rq_log.proofs.Moments.{weaker}
use Rattle.rq_log.specs.Crash.{LeavesOnly}
use Rattle.rq_log.specs.Logged.{Logged}
use Rattle.rq_log.specs.Spelled.{spelled}
use Rattle.rq_disk.specs.Device.{Only}
use Rattle.rq_page.specs.Sizes.{Sizes, page_count}
use Rattle.rq_page.specs.Formatted.{IsFormatted}
use Rattle.rq_pool.specs.Pooled.{AreOver}
use Rattle.rq_store.specs.State.{State}
use Rattle.rq_engine.specs.Checkpoint.{IsBeginningOrBase}
use Rattle.rq_engine.specs.Devices.{KeepsPage}
use Rattle.rq_engine.specs.Migration.{TellsSizes}
use Rattle.rq_engine.specs.Opened.{OpenStore}
use Rattle.rq_engine.proofs.Checkpointing.{base_missed, kept_same, whole_or_base}
use Rattle.rq_engine.proofs.Migrating.{based_grows, told_grows}
use Rattle.rq_engine.proofs.Opened.{none_tried, state_is}
use Rattle.rq_engine.proofs.Refusals.{not_full}
use Rattle.rq_engine.proofs.engine.Engine.put_grown.Goals as goal

pub returns-in_err-put_base-clause-any_moment : goal.returns-in_err-put_base-clause-any_moment
returns-in_err-put_base-clause-any_moment g c = λ untried h.
    let L = g.L.LogDevice in
    let old = c.args.self.now in
    weaker L old.log c.put_base.new.self.device _ _ (subst (λ (o : OpenStore _ _). LeavesOnly L o.log c.put_base.new.self.device (λ b. (b ≡ spelled o.state.records) ⊎ (b ≡ spelled (based o.state.incarnation o.state.records)))) c.self.view_is
    (c.in_err-put_base.ensures.any_moment h (c.self.invariant.durable, none_tried _ (ap (λ (o : OpenStore _ _). o.replacing) c.self.view_is ∙ untried))))
    (λ bytes b. whole_or_base old.state old.state.incarnation bytes c.requires.forced b)

pub returns-in_err-tell_sizes-clause-any_moment : goal.returns-in_err-tell_sizes-clause-any_moment
returns-in_err-tell_sizes-clause-any_moment g c = λ untried h.
    let L = g.L.LogDevice in
    let old = c.args.self.now in
    weaker L old.log c.put_base.new.self.device _ _ (subst (λ (o : OpenStore _ _). LeavesOnly L o.log c.put_base.new.self.device (λ b. (b ≡ spelled o.state.records) ⊎ (b ≡ spelled (based o.state.incarnation o.state.records)))) c.self.view_is
    (c.in_ok-put_base.ensures.any_moment h (c.self.invariant.durable, none_tried _ (ap (λ (o : OpenStore _ _). o.replacing) c.self.view_is ∙ untried))))
    (λ bytes b. whole_or_base old.state old.state.incarnation bytes c.requires.forced b)

pub returns-clause-any_moment : goal.returns-clause-any_moment
returns-clause-any_moment g c = λ untried h.
    let L = g.L.LogDevice in
    let old = c.args.self.now in
    let same : c.note_base-lsn.new.self.device ≡ c.put_base.new.self.device = ap (λ (x : Logged _). x.device) c.note_base-lsn.ensures.noted in
    subst (λ (d : _). LeavesOnly L old.log d (IsBeginningOrBase old.state.records old.state.forced)) (sym same)
    (weaker L old.log c.put_base.new.self.device _ _ (subst (λ (o : OpenStore _ _). LeavesOnly L o.log c.put_base.new.self.device (λ b. (b ≡ spelled o.state.records) ⊎ (b ≡ spelled (based o.state.incarnation o.state.records)))) c.self.view_is
    (c.in_ok-put_base.ensures.any_moment (subst L.honest same h) (c.self.invariant.durable, none_tried _ (ap (λ (o : OpenStore _ _). o.replacing) c.self.view_is ∙ untried))))
    (λ bytes b. whole_or_base old.state old.state.incarnation bytes c.requires.forced b))

pub returns-in_err-put_base-clause-others : goal.returns-in_err-put_base-clause-others
returns-in_err-put_base-clause-others g c = λ page ne. kept_same g.P.PageDevice c.args.self.now.pages c.self.inside.pages.device page (ap (λ (o : OpenStore _ _). o.pages) c.self.view_is)

pub returns-in_err-tell_sizes-clause-others : goal.returns-in_err-tell_sizes-clause-others
returns-in_err-tell_sizes-clause-others g c = λ page ne.
    subst (λ (o : OpenStore _ _). KeepsPage g.P.PageDevice o.pages c.tell_sizes.new.pages.device page) c.self.view_is (c.in_err-tell_sizes.ensures.others page ne, λ b may. c.in_err-tell_sizes.ensures.device.others page b ne may)

pub returns-clause-others : goal.returns-clause-others
returns-clause-others g c = λ page ne.
    subst (λ (o : OpenStore _ _). KeepsPage g.P.PageDevice o.pages c.tell_sizes.new.pages.device page) c.self.view_is (c.in_ok-tell_sizes.ensures.others page ne, λ b may. c.in_ok-tell_sizes.ensures.device.others page b ne may)

pub returns-in_err-put_base-clause-fit : goal.returns-in_err-put_base-clause-fit
returns-in_err-put_base-clause-fit g c =
    let old = c.args.self.now in
    let s : State = old.state in
    let inside = state_is c.self.view_is in
    let one : 1 ≤ s.incarnation = subst (λ (x : State). 1 ≤ x.incarnation) inside c.self.invariant.kept.incarnation in
    let low : s.incarnation ≤ length s.records = subst (λ (x : State). x.incarnation ≤ length x.records) inside c.self.invariant.kept.low in
    let few = not_full s 1 c.requires.could.room in
    let over : AreOver g.P.PageDevice old.pages s.sizes s.images old.changed = subst (λ (o : OpenStore _ _). AreOver g.P.PageDevice o.pages o.state.sizes o.state.images o.changed) c.self.view_is c.shows_kept-2.ensures in
    let i = c.self.inside in
    let new : OpenStore g.row.P.Denot g.row.L.Denot = record {
      state = record {
        sizes = i.pages.sizes;
        rows = i.transactions;
        ends = i.ends;
        images = i.pages.images;
        records = c.put_base.new.self.records;
        forced = c.put_base.new.self.forced;
        failed = true;
        incarnation = i.incarnation;
        begins = i.begins;
        cells_in_use = i.cells_in_use;
        waiting = i.waiting;
        sent = i.sent;
      };
      pages = i.pages.device;
      log = c.put_base.new.self.device;
      changed = i.pages.changed;
      frames = i.pages.frames;
      apart = i.pages.apart;
      replacing = is_some c.put_base.new.self.replacing;
    } in
    based_grows g.P.PageDevice g.L.LogDevice c.args.grown.now.tags old new
    (base_missed g.P.PageDevice g.L.LogDevice old new c.requires.could.none_open c.requires.forced (c.shows_kept.ensures.spelled, c.shows_kept.ensures.based)
    (omega (arith, one, low), omega (arith, few), one, low)
    (λ honest q image least most may. c.requires.durable q image may ∙ sym (over.clean honest q most (c.requires.clean q least most)))
    c.shows_kept.ensures.cut
    (ap (λ (o : OpenStore _ _). o.pages) c.self.view_is)
    (λ h. subst g.L.LogDevice.honest (ap (λ (o : OpenStore _ _). o.log) c.self.view_is) (c.in_err-put_base.ensures.honest h))
    (λ untried h. subst (λ (o : OpenStore _ _). LeavesOnly g.L.LogDevice o.log c.put_base.new.self.device (λ b. (b ≡ spelled o.state.records) ⊎ (b ≡ spelled (based o.state.incarnation o.state.records)))) c.self.view_is
    (c.in_err-put_base.ensures.any_moment h (c.self.invariant.durable, none_tried _ (ap (λ (o : OpenStore _ _). o.replacing) c.self.view_is ∙ untried))))
    (search rules))

pub returns-in_err-tell_sizes-clause-fit : goal.returns-in_err-tell_sizes-clause-fit
returns-in_err-tell_sizes-clause-fit g c =
    let old = c.args.self.now in
    let s : State = old.state in
    let n = c.args.grown.now.tags in
    let inside = state_is c.self.view_is in
    let one : 1 ≤ s.incarnation = subst (λ (x : State). 1 ≤ x.incarnation) inside c.self.invariant.kept.incarnation in
    let low : s.incarnation ≤ length s.records = subst (λ (x : State). x.incarnation ≤ length x.records) inside c.self.invariant.kept.low in
    let few = not_full s 1 c.requires.could.room in
    let over : AreOver g.P.PageDevice old.pages s.sizes s.images old.changed = subst (λ (o : OpenStore _ _). AreOver g.P.PageDevice o.pages o.state.sizes o.state.images o.changed) c.self.view_is c.shows_kept-2.ensures in
    let i = c.self.inside in
    let new : OpenStore g.row.P.Denot g.row.L.Denot = record {
      state = record {
        sizes = c.tell_sizes.new.pages.sizes;
        rows = i.transactions;
        ends = i.ends;
        images = c.tell_sizes.new.pages.images;
        records = c.put_base.new.self.records;
        forced = c.put_base.new.self.forced;
        failed = true;
        incarnation = i.incarnation;
        begins = i.begins;
        cells_in_use = i.cells_in_use;
        waiting = i.waiting;
        sent = i.sent;
      };
      pages = c.tell_sizes.new.pages.device;
      log = c.put_base.new.self.device;
      changed = c.tell_sizes.new.pages.changed;
      frames = c.tell_sizes.new.pages.frames;
      apart = c.tell_sizes.new.pages.apart;
      replacing = is_some c.put_base.new.self.replacing;
    } in
    told_grows g.P.PageDevice g.L.LogDevice n old new c.put_base.new.self.device c.requires.could c.requires.forced c.requires.may (c.shows_kept.ensures.spelled, c.shows_kept.ensures.based)
    (omega (arith, one, low), omega (arith, few), one, low)
    (λ honest q image least most may. c.requires.durable q image may ∙ sym (over.clean honest q most (c.requires.clean q least most)))
    c.shows_kept.ensures.cut
    (λ h. subst g.L.LogDevice.honest (ap (λ (o : OpenStore _ _). o.log) c.self.view_is) (c.in_ok-put_base.ensures.honest h))
    (λ untried h. subst (λ (o : OpenStore _ _). LeavesOnly g.L.LogDevice o.log c.put_base.new.self.device (λ b. (b ≡ spelled o.state.records) ⊎ (b ≡ spelled (based o.state.incarnation o.state.records)))) c.self.view_is
    (c.in_ok-put_base.ensures.any_moment h (c.self.invariant.durable, none_tried _ (ap (λ (o : OpenStore _ _). o.replacing) c.self.view_is ∙ untried))))
    refl
    (λ h. subst g.P.PageDevice.honest (ap (λ (o : OpenStore _ _). o.pages) c.self.view_is) (c.in_err-tell_sizes.ensures.honest h))
    (subst (λ (o : OpenStore _ _). Only (spelled (based o.state.incarnation o.state.records)) (g.L.LogDevice.may_leave c.put_base.new.self.device)) c.self.view_is c.in_ok-put_base.ensures.durable)
    (subst (λ (z : Sizes). TellsSizes g.P.PageDevice z old.pages c.tell_sizes.new.pages.device) c.requires.grown
    (subst (λ (o : OpenStore _ _). TellsSizes g.P.PageDevice c.args.grown.now o.pages c.tell_sizes.new.pages.device) c.self.view_is c.in_err-tell_sizes.ensures.device))
    (λ page image least most may. subst (λ (z : Sizes). IsFormatted z page image) c.requires.grown (subst (IsFormatted c.args.grown.now page) (sym (c.requires.durable page image may)) (c.requires.written page least (subst (λ (z : Sizes). page < page_count z) (sym c.requires.grown) most))))

pub returns-clause-fit : goal.returns-clause-fit
returns-clause-fit g c =
    let old = c.args.self.now in
    let s : State = old.state in
    let n = c.args.grown.now.tags in
    let inside = state_is c.self.view_is in
    let one : 1 ≤ s.incarnation = subst (λ (x : State). 1 ≤ x.incarnation) inside c.self.invariant.kept.incarnation in
    let low : s.incarnation ≤ length s.records = subst (λ (x : State). x.incarnation ≤ length x.records) inside c.self.invariant.kept.low in
    let few = not_full s 1 c.requires.could.room in
    let over : AreOver g.P.PageDevice old.pages s.sizes s.images old.changed = subst (λ (o : OpenStore _ _). AreOver g.P.PageDevice o.pages o.state.sizes o.state.images o.changed) c.self.view_is c.shows_kept-2.ensures in
    let i = c.self.inside in
    let new : OpenStore g.row.P.Denot g.row.L.Denot = record {
      state = record {
        sizes = c.tell_sizes.new.pages.sizes;
        rows = i.transactions;
        ends = i.ends;
        images = c.tell_sizes.new.pages.images;
        records = c.note_base-lsn.new.self.records;
        forced = c.note_base-lsn.new.self.forced;
        failed = true;
        incarnation = i.incarnation;
        begins = i.begins;
        cells_in_use = i.cells_in_use;
        waiting = i.waiting;
        sent = i.sent;
      };
      pages = c.tell_sizes.new.pages.device;
      log = c.note_base-lsn.new.self.device;
      changed = c.tell_sizes.new.pages.changed;
      frames = c.tell_sizes.new.pages.frames;
      apart = c.tell_sizes.new.pages.apart;
      replacing = is_some c.note_base-lsn.new.self.replacing;
    } in
    told_grows g.P.PageDevice g.L.LogDevice n old new c.put_base.new.self.device c.requires.could c.requires.forced c.requires.may (c.shows_kept.ensures.spelled, c.shows_kept.ensures.based)
    (omega (arith, one, low), omega (arith, few), one, low)
    (λ honest q image least most may. c.requires.durable q image may ∙ sym (over.clean honest q most (c.requires.clean q least most)))
    c.shows_kept.ensures.cut
    (λ h. subst g.L.LogDevice.honest (ap (λ (o : OpenStore _ _). o.log) c.self.view_is) (c.in_ok-put_base.ensures.honest h))
    (λ untried h. subst (λ (o : OpenStore _ _). LeavesOnly g.L.LogDevice o.log c.put_base.new.self.device (λ b. (b ≡ spelled o.state.records) ⊎ (b ≡ spelled (based o.state.incarnation o.state.records)))) c.self.view_is
    (c.in_ok-put_base.ensures.any_moment h (c.self.invariant.durable, none_tried _ (ap (λ (o : OpenStore _ _). o.replacing) c.self.view_is ∙ untried))))
    (ap (λ (x : Logged _). x.device) c.note_base-lsn.ensures.noted)
    (λ h. subst g.P.PageDevice.honest (ap (λ (o : OpenStore _ _). o.pages) c.self.view_is) (c.in_ok-tell_sizes.ensures.honest h))
    (subst (λ (o : OpenStore _ _). Only (spelled (based o.state.incarnation o.state.records)) (g.L.LogDevice.may_leave c.put_base.new.self.device)) c.self.view_is c.in_ok-put_base.ensures.durable)
    (subst (λ (z : Sizes). TellsSizes g.P.PageDevice z old.pages c.tell_sizes.new.pages.device) c.requires.grown
    (subst (λ (o : OpenStore _ _). TellsSizes g.P.PageDevice c.args.grown.now o.pages c.tell_sizes.new.pages.device) c.self.view_is c.in_ok-tell_sizes.ensures.device))
    (λ page image least most may. subst (λ (z : Sizes). IsFormatted z page image) c.requires.grown (subst (IsFormatted c.args.grown.now page) (sym (c.requires.durable page image may)) (c.requires.written page least (subst (λ (z : Sizes). page < page_count z) (sym c.requires.grown) most))))

pub returns-clause-made : goal.returns-clause-made
returns-clause-made g c = record {
  could = c.requires.could;
  lsn_is = (let next : c.note_base-lsn.result ≡ length c.args.self.now.state.records + 1 = search rules in next);
  state = search rules;
  told = search rules;
  reads = search rules;
  durable = search rules;
  pages = search rules;
  tags = record {
    superblock = subst (λ (z : Sizes). (b : List ℕ) → g.P.PageDevice.may_be c.tell_sizes.new.pages.device 0 b → IsFormatted z 0 b) c.requires.grown c.in_ok-tell_sizes.ensures.told;
    added = search rules;
  };
  beyond = λ page past b may.
      let tells = subst (λ (o : OpenStore _ _). TellsSizes g.P.PageDevice c.args.grown.now o.pages c.tell_sizes.new.pages.device) c.self.view_is c.in_ok-tell_sizes.ensures.device in
      c.requires.durable page b (tells.others page b (λ e. absurd (omega (arith, past, e))) may);
  replacing = search rules;
  counts = search rules;
}
