use Rattle.std.proofs.Common.{◌≡◌, Some, rules, refl, ◌∙◌, sym, ap}
use Rattle.rq_analysis.specs.Choices.{least_free}
use Rattle.rq_restart.proofs.Aborts.{ended_less}
use Rattle.rq_restart.proofs.DueLists.{active_range}
use Rattle.rq_restart.proofs.HandedOn.{kept_alike}
use Rattle.rq_restart.proofs.Rounds.{end_stops, least_in}
use Rattle.rq_restart.proofs.RoundsBehind.{no_rounds, rounds_done, rounds_end, rounds_join, rounds_refused}
use Rattle.rq_restart.proofs.aborting.end_idle.Given.{Over}
use Rattle.rq_restart.proofs.aborting.end_idle.Goals.{After-append}
use Rattle.rq_restart.proofs.aborting.end_idle.Goals as goal

-- whose turn it is
turn : (g : Over) (c : After-append g) → least_free c.loop-txn.analysis.dues c.loop-txn.analysis.open_work.active ≡ Some c.in-Some.txn
turn g c = ap (least_free c.loop-txn.analysis.dues) (sym c.active.ensures) ∙ sym c.in-Some.ensures

pub append-requires-clause-range : goal.append-requires-clause-range
append-requires-clause-range g c = λ are.
    let kept = c.loop-txn.invariant in
    let e : least_free c.loop-txn.analysis.dues c.loop-txn.analysis.open_work.active ≡ Some c.in-Some.txn = ap (least_free c.loop-txn.analysis.dues) (sym c.active.ensures) ∙ sym c.in-Some.ensures in
    active_range c.loop-txn.log.records are c.in-Some.txn (least_in c.loop-txn.log.records c.loop-txn.analysis kept.found c.in-Some.txn e)

pub append-requires-clause-stands : goal.append-requires-clause-stands
append-requires-clause-stands g c = λ page w. absurd w.is

pub loop-txn-init : goal.loop-txn-init
loop-txn-init g c = record {
  found = c.requires.found;
  follow = c.requires.follow;
  so_far = no_rounds g.P.PageDevice g.L.LogDevice g.met.L.LogDevice.only_now c.args.pages.now c.args.log.now;
  running = c.requires.running;
  room = refl;
  same = refl;
  planner = refl;
}

pub loop-txn-smaller : goal.loop-txn-smaller
loop-txn-smaller g c = ended_less c.loop-txn.log.records c.append.new.log.records c.loop-txn.analysis c.append.new.analysis c.in-Some.txn c.loop-txn.invariant.found c.in_ok-append.ensures.found c.in_ok-append.ensures.records (turn g (goal.at.loop-txn-smaller g c).After-append)

pub loop-txn-preserved : goal.loop-txn-preserved
loop-txn-preserved g c =
    let kept = c.loop-txn.invariant in
    let made = c.in_ok-append.ensures in
    record {
      found = made.found;
      follow = made.follow;
      so_far = rounds_join kept.so_far c.append.new.pages c.append.new.log
          (rounds_end g.P.PageDevice g.L.LogDevice g.met.P.PageDevice.only_now g.met.P.PageDevice.counts_now g.met.L.LogDevice.counts_now c.loop-txn.pages c.loop-txn.log c.loop-txn.analysis kept.found c.in-Some.txn c.append.new.pages c.append.new.log (λ h. turn g (goal.at.loop-txn-preserved g c).After-append) (made.same refl) made.records made.device made.repeated made.goes_on);
      running = made.running;
      room = made.room ∙ kept.room;
      same = made.same refl ∙ kept.same;
      planner = made.planner ∙ kept.planner;
    }

pub returns-in_err-append-clause-rounds : goal.returns-in_err-append-clause-rounds
returns-in_err-append-clause-rounds g c =
    let kept = c.loop-txn.invariant in
    let made = c.in_err-append.ensures in
    let old = c.loop-txn.pages in
    let log = c.loop-txn.log in
    let e = c.in_err-append.field-0.0 in
    rounds_refused kept.so_far c.append.new.pages c.append.new.log c.from_residual.result e (search rules) made.goes_on
    (λ told. end_stops old.sizes log.records old c.loop-txn.analysis kept.found c.in-Some.txn (turn g (goal.at.returns-in_err-append-clause-rounds g c).After-append) e (made.stops told.1))
    (λ h f so. kept_alike g.P.PageDevice g.L.LogDevice f old.device c.append.new.pages.device log.device c.append.new.log.device made.pages_device made.device so.stands.on.path)

pub returns-clause-rounds : goal.returns-clause-rounds
returns-clause-rounds g c = rounds_done c.loop-txn.invariant.so_far
