use Rattle.std.proofs.Common.{rules, ap, subst, ◌≡◌, ◌⊎◌, ◌∙◌}
use Rattle.rq_model.specs.Replay.Reply.{Gave_migrated}
use Rattle.rq_model.specs.Vocabulary.{is_some}
use Rattle.rq_page.specs.Sizes.{Sizes}
use Rattle.rq_engine.specs.Migration.{AreTagPages, HasMigrated, KeepsBeyond, NotMigrated}
use Rattle.rq_engine.specs.Opened.{OpenStore}
use Rattle.rq_engine.proofs.Crashing.{none_fit}
use Rattle.rq_engine.proofs.Migrating.{grows_either, migrated_legally, not_legally, stopped_so}
use Rattle.rq_engine.proofs.Keeping.{kept_device}
use Rattle.rq_engine.proofs.engine.Engine.migrate.Goals as goal

pub returns-in_err-grown-clause-answered : goal.returns-in_err-grown-clause-answered
returns-in_err-grown-clause-answered g c =
    let old = c.args.self.now in
    let that = not_legally g.P.PageDevice g.L.LogDevice c.args.pages old old (λ lsn. Gave_migrated lsn) c.in_err-grown.field-0.0 c.in_err-grown.ensures.refused in
    search (rules, that)

pub returns-in_err-grown-clause-fit : goal.returns-in_err-grown-clause-fit
returns-in_err-grown-clause-fit g c =
    grows_either g.P.PageDevice g.L.LogDevice c.args.pages c.args.self.now c.args.self.now (none_fit g.P.PageDevice g.L.LogDevice g.met.P.PageDevice.only_now g.met.L.LogDevice.only_now c.args.self.now (c.shows_kept.ensures.spelled, c.shows_kept.ensures.based) c.shows_kept.ensures.leaves)

pub returns-in-Ok-clause-answered : goal.returns-in-Ok-clause-answered
returns-in-Ok-clause-answered g c =
    let tags : c.in_ok-grown.grown.tags ≡ c.args.pages = ap (λ (z : Sizes). z.tags) c.in_ok-grown.ensures.grown in
    migrated_legally g.P.PageDevice g.L.LogDevice c.args.pages c.args.self.now c.grow.new.self c.in-Ok.lsn c.in_ok-grown.ensures.ok.1
    (subst (λ (n : _). HasMigrated g.P.PageDevice g.L.LogDevice n c.args.self.now c.grow.new.self c.in-Ok.lsn) tags c.in-Ok.ensures.made)

pub returns-in-Err-clause-answered : goal.returns-in-Err-clause-answered
returns-in-Err-clause-answered g c =
    let i = c.self-2.inside in
    let new : OpenStore g.row.P.Denot g.row.L.Denot = record {
      state = record {
        sizes = i.pages.sizes;
        rows = i.transactions;
        ends = i.ends;
        images = i.pages.images;
        records = c.forget_force.new.self.records;
        forced = c.forget_force.new.self.forced;
        failed = i.failed;
        incarnation = i.incarnation;
        begins = i.begins;
        cells_in_use = i.cells_in_use;
        waiting = i.waiting;
        sent = i.sent;
      };
      pages = i.pages.device;
      log = c.forget_force.new.self.device;
      changed = i.pages.changed;
      frames = i.pages.frames;
      apart = i.pages.apart;
      replacing = is_some c.forget_force.new.self.replacing;
    } in
    let mid = c.grow.new.self in
    let tags : c.in_ok-grown.grown.tags ≡ c.args.pages = ap (λ (z : Sizes). z.tags) c.in_ok-grown.ensures.grown in
    let why : NotMigrated g.P.PageDevice g.L.LogDevice c.args.pages c.args.self.now new c.in-Err.refusal =
    stopped_so g.P.PageDevice g.L.LogDevice c.args.pages c.args.self.now mid new c.in-Err.refusal c.in_ok-grown.ensures.ok.1 c.in_ok-grown.ensures.ok.0 c.in-Err.ensures.refused c.in-Err.ensures.cause
    (subst (λ (n : _). (mid.log ≡ c.args.self.now.log) ⊎ AreTagPages g.P.PageDevice n c.args.self.now.state.sizes mid.pages) tags c.in-Err.ensures.first)
    (subst (λ (n : _). KeepsBeyond g.P.PageDevice n c.args.self.now.state.sizes c.args.self.now.pages mid.pages) tags c.in-Err.ensures.beyond)
    (search rules) (search rules) (search rules) in
    not_legally g.P.PageDevice g.L.LogDevice c.args.pages c.args.self.now new (λ lsn. Gave_migrated lsn) c.in-Err.refusal why

pub returns-in-Err-clause-refused : goal.returns-in-Err-clause-refused
returns-in-Err-clause-refused g c =
    let mid = c.grow.new.self in
    let tags : c.in_ok-grown.grown.tags ≡ c.args.pages = ap (λ (z : Sizes). z.tags) c.in_ok-grown.ensures.grown in
    stopped_so g.P.PageDevice g.L.LogDevice c.args.pages c.args.self.now mid _ c.in-Err.refusal c.in_ok-grown.ensures.ok.1 c.in_ok-grown.ensures.ok.0 c.in-Err.ensures.refused c.in-Err.ensures.cause
    (subst (λ (n : _). (mid.log ≡ c.args.self.now.log) ⊎ AreTagPages g.P.PageDevice n c.args.self.now.state.sizes mid.pages) tags c.in-Err.ensures.first)
    (subst (λ (n : _). KeepsBeyond g.P.PageDevice n c.args.self.now.state.sizes c.args.self.now.pages mid.pages) tags c.in-Err.ensures.beyond)
    (search rules) (search rules) (search rules)

pub invariant_of-self : goal.invariant_of-self
invariant_of-self g c =
    let k = c.self-2.invariant in
    let log = c.forget_force.new.self in
    record {
      kept = kept_device _ _ log.failed _ _ log.reserved log.forced c.self-2.inside.failed log.records k.kept
          (ap (λ l. l.records) c.forget_force.ensures) (ap (λ l. l.reserved) c.forget_force.ensures) (λ e. ap (λ l. l.failed) c.forget_force.ensures ∙ k.kept.fails e);
      durable = rw (c.forget_force.ensures) k.durable;
      cells = k.cells;
      frames_are = k.frames_are;
    }
