use Rattle.std.proofs.Common.{rules, inl, refl, ap, ◌∙◌}
use Rattle.rq_model.specs.Replay.Reply.{Gave_checkpoint}
use Rattle.rq_model.specs.Vocabulary.{is_some}
use Rattle.rq_engine.specs.Checkpoint.{NotCheckpointed}
use Rattle.rq_engine.specs.Opened.{OpenStore}
use Rattle.rq_engine.proofs.Listing.{log_left}
use Rattle.rq_engine.proofs.Checkpointing.{either, forgets, made_legally, refused_legally, stopped_is}
use Rattle.rq_engine.proofs.Crashing.{none_fit}
use Rattle.rq_engine.proofs.Keeping.{kept_device}
use Rattle.rq_engine.proofs.engine.Engine.checkpoint.Goals as goal

pub returns-in_err-check_quiet-clause-answered : goal.returns-in_err-check_quiet-clause-answered
returns-in_err-check_quiet-clause-answered g c =
    let old = c.args.self.now in
    let that = refused_legally g.P.PageDevice g.L.LogDevice old old (λ lsn. Gave_checkpoint lsn) c.in_err-check_quiet.field-0.0 c.in_err-check_quiet.ensures.refused in
    search (rules, that)

pub returns-in_err-check_quiet-clause-fit : goal.returns-in_err-check_quiet-clause-fit
returns-in_err-check_quiet-clause-fit g c =
    either g.P.PageDevice g.L.LogDevice c.args.self.now c.args.self.now (none_fit g.P.PageDevice g.L.LogDevice g.met.P.PageDevice.only_now g.met.L.LogDevice.only_now c.args.self.now (c.shows_kept.ensures.spelled, c.shows_kept.ensures.based) c.shows_kept.ensures.leaves)

pub returns-in-Ok-clause-answered : goal.returns-in-Ok-clause-answered
returns-in-Ok-clause-answered g c = made_legally g.P.PageDevice g.L.LogDevice c.args.self.now c.replace_log.new.self c.in-Ok.lsn c.in-Ok.ensures.made

pub returns-in_err-check_quiet-clause-any_moment : goal.returns-in_err-check_quiet-clause-any_moment
returns-in_err-check_quiet-clause-any_moment g c = λ none h.
    log_left g.L.LogDevice c.args.self.now.log c.args.self.now.log _ refl g.met.L.LogDevice.only_now (λ q bytes may. inl (c.shows_kept.ensures.leaves none q bytes may)) h

pub returns-in-Err : goal.returns-in-Err
returns-in-Err g c =
    let i = c.self-2.inside in
    let new : OpenStore g.row.P.Denot g.row.L.Denot = record {
      state = record {
        sizes = i.pages.sizes;
        rows = i.transactions;
        ends = i.ends;
        images = i.pages.images;
        records = c.forget_force.new.self.records;
        forced = c.forget_force.new.self.forced;
        failed = i.failed;
        incarnation = i.incarnation;
        begins = i.begins;
        cells_in_use = i.cells_in_use;
        waiting = i.waiting;
        sent = i.sent;
      };
      pages = i.pages.device;
      log = c.forget_force.new.self.device;
      changed = i.pages.changed;
      frames = i.pages.frames;
      apart = i.pages.apart;
      replacing = is_some c.forget_force.new.self.replacing;
    } in
    let mid = c.replace_log.new.self in
    let why : NotCheckpointed g.P.PageDevice g.L.LogDevice c.args.self.now new c.in-Err.refusal =
    stopped_is g.P.PageDevice g.L.LogDevice c.args.self.now mid new c.in-Err.refusal c.in_ok-check_quiet.ensures.ok c.in-Err.ensures.refused c.in-Err.ensures.cause c.in-Err.ensures.fewer c.in-Err.ensures.behind (search rules) (search rules) (search rules) (search rules) in
    record {
      answered = refused_legally g.P.PageDevice g.L.LogDevice c.args.self.now new (λ lsn. Gave_checkpoint lsn) c.in-Err.refusal why;
      sizes = search rules;
      made = tt;
      refused = why;
      failed = search rules;
      count = search rules;
      honest = search rules;
      any_moment = search rules;
      fit = forgets g.P.PageDevice g.L.LogDevice c.args.self.now mid new c.in-Err.refusal (search rules) (search rules) why c.in-Err.ensures.fit;
    }

pub invariant_of-self : goal.invariant_of-self
invariant_of-self g c =
    let k = c.self-2.invariant in
    let log = c.forget_force.new.self in
    record {
      kept = kept_device _ _ log.failed _ _ log.reserved log.forced c.self-2.inside.failed log.records k.kept
          (ap (λ l. l.records) c.forget_force.ensures) (ap (λ l. l.reserved) c.forget_force.ensures) (λ e. ap (λ l. l.failed) c.forget_force.ensures ∙ k.kept.fails e);
      durable = rw (c.forget_force.ensures) k.durable;
      cells = k.cells;
      frames_are = k.frames_are;
    }
