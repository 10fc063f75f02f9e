use Rattle.std.proofs.Common.{◌<◌, rules, sym, subst}
use Rattle.rq_restart.proofs.Renewing.{cells_same}
use Rattle.rq_restart.proofs.RoundsBehind.{IsAbortedTo, no_rounds, rounds_done, rounds_join, rounds_made, rounds_refused}
use Rattle.rq_restart.proofs.aborting.abort_lost.Given.{Over}
use Rattle.rq_restart.proofs.aborting.abort_lost.Goals.{In_ok-end_idle}
use Rattle.rq_restart.proofs.aborting.abort_lost.Goals as goal

-- those that had nothing left were ended
idle : (g : Over) (c : In_ok-end_idle g) → IsAbortedTo g.P.PageDevice g.L.LogDevice c.args.pages.now c.args.log.now c.end_idle.new.pages c.end_idle.new.log
idle g c = (let made = c.in_ok-end_idle.ensures in rounds_made made.rounds)

-- all have ended

pub returns-then-all_ended-clause-rounds : goal.returns-then-all_ended-clause-rounds
returns-then-all_ended-clause-rounds g c = rounds_done (no_rounds g.P.PageDevice g.L.LogDevice g.met.L.LogDevice.only_now c.args.pages.now c.args.log.now)

-- what is due is taken back

pub undo_all_due-requires-clause-held : goal.undo_all_due-requires-clause-held
undo_all_due-requires-clause-held g c = c.in_ok-end_idle.ensures.rounds.carries.goes_on.held c.requires.held

pub undo_all_due-requires-clause-more : goal.undo_all_due-requires-clause-more
undo_all_due-requires-clause-more g c = subst (λ n. 1 < n) (sym c.in_ok-end_idle.ensures.rounds.carries.goes_on.count) c.requires.more

pub undo_all_due-requires-clause-cells : goal.undo_all_due-requires-clause-cells
undo_all_due-requires-clause-cells g c = cells_same c.args.pages.now c.end_idle.new.pages c.args.planner.now c.end_idle.new.planner c.in_ok-end_idle.ensures.same c.end_idle.ensures.planner c.requires.cells

pub returns-clause-rounds : goal.returns-clause-rounds
returns-clause-rounds g c = rounds_done (rounds_join (idle g (goal.at.returns-clause-rounds g c).In_ok-end_idle) c.undo_all_due.new.pages c.undo_all_due.new.log (rounds_made c.in_ok-undo_all_due.ensures.rounds))

-- it was not

pub returns-in_err-undo_all_due-clause-rounds : goal.returns-in_err-undo_all_due-clause-rounds
returns-in_err-undo_all_due-clause-rounds g c =
    let last = c.in_err-undo_all_due.ensures.rounds.carries in
    rounds_refused (idle g (goal.at.returns-in_err-undo_all_due-clause-rounds g c).In_ok-end_idle) c.undo_all_due.new.pages c.undo_all_due.new.log c.from_residual-in_err-undo_all_due.result c.in_err-undo_all_due.field-0.0 (search rules) last.goes_on last.stops (λ h f so. (last.way h f so).1)
