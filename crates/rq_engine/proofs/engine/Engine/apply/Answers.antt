use Rattle.rq_engine.proofs.Applying.{fit_after, runs_after}
use Rattle.rq_engine.proofs.Leaving.{content_keeps, memory_keeps}
use Rattle.rq_engine.proofs.UnknownStay.{unknown_stay}
use Rattle.rq_engine.proofs.engine.Engine.apply.Goals as goal

pub returns-clause-applied : goal.returns-clause-applied
returns-clause-applied g c =
    let told = c.call.ensures in
    record {
      steps = told.answered;
      cause = told.cause;
      latched = told.latched;
      frames = told.frames;
      frame_count = told.count;
      sizes = told.sizes;
      unknown = unknown_stay c.args.self.now c.call.new.self c.args.event.now c.call.result _ told.lists told.begun told.refused;
      failed = told.failed;
      refused = told.refused;
      lists = told.lists;
      begun = told.begun;
      changes = told.changes;
      starts = told.starts;
      writes = told.writes;
      pages = told.pages;
      log = told.log;
      checkpoint = told.checkpoint;
      honest = told.honest;
      replacing = told.replacing;
      any_moment = told.any_moment;
      fit = λ h whole earlier long k fit.
          fit_after g.P.PageDevice g.L.LogDevice g.met.P.PageDevice.only_now c.args.self.now c.call.new.self earlier (c.shows_kept.ensures.spelled, c.shows_kept.ensures.based) long k fit c.shows_kept.ensures.running h
          c.args.event.now c.call.result whole told.checkpoint told.based told.sizes told.lists told.begun told.refused (told.answered h earlier long k) told.writes told.pages;
      crash = λ none h earlier long k fit.
          runs_after g.P.PageDevice g.L.LogDevice g.met.P.PageDevice.only_now c.args.self.now c.call.new.self earlier (c.shows_kept.ensures.spelled, c.shows_kept.ensures.based) long k fit none h
          c.args.event.now c.call.result told.based told.writes told.pages (c.shows_kept.ensures.leaves none (told.honest h).1) (told.any_moment none h.1);
    }

pub returns-clause-no_memory : goal.returns-clause-no_memory
returns-clause-no_memory g c is =
    let told = c.call.ensures in
    memory_keeps c.args.self.now c.call.new.self g.P.PageDevice g.L.LogDevice c.args.event.now c.call.result told.pages told.log told.replacing told.changes told.count told.refused is

pub returns-clause-content : goal.returns-clause-content
returns-clause-content g c is =
    let told = c.call.ensures in
    content_keeps c.args.self.now c.call.new.self g.P.PageDevice g.L.LogDevice c.args.event.now c.call.result is told.lists told.begun told.pages told.log told.replacing told.changes told.count
