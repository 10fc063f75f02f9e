use Rattle.std.proofs.Common.{◌-◌, ◌<◌, ℕ, Ok, length, sym, subst}
use Rattle.rq_restart.specs.Repeating.{HaveLsnsWithin, paged}
use Rattle.rq_restart.proofs.Continuing.{all_continues, begins_so, none_fail_behind, refuses_reading, refuses_so, repeats_so, tells_behind}
use Rattle.rq_restart.proofs.restart.restart_log.Goals as goal

pub finish_restart-requires-clause-held : goal.finish_restart-requires-clause-held
finish_restart-requires-clause-held g c = c.in-Ok.ensures.went.held c.requires.held

pub finish_restart-requires-clause-more : goal.finish_restart-requires-clause-more
finish_restart-requires-clause-more g c = subst (λ (n : ℕ). 1 < n) (sym c.in-Ok.ensures.went.count) c.requires.more

pub returns-in-Ok-finish_restart-clause-opened : goal.returns-in-Ok-finish_restart-clause-opened
returns-in-Ok-finish_restart-clause-opened g c =
    let P = g.P.PageDevice in
    let L = g.L.LogDevice in
    let first = c.args.pages in
    let mid = c.read_and_redo.new.pages in
    let last = c.finish_restart.new.pages in
    let was = c.args.log in
    let log = c.in-Ok.log in
    let new = c.finish_restart.new.log in
    let read = c.in-Ok.ensures in
    let made = c.in-Ok-finish_restart.ensures in
    let r = Ok c.in-Ok.analysis in
    record {
      continues = all_continues P L first mid last was log new r read.went read.went.counted read.repeated read.read made.continues;
      none_failed = none_fail_behind P L first.device mid.device last.device was log.device new.device read.went.counted made.counted;
      pool = made.pool;
      within = subst (λ z. HaveLsnsWithin z (length new.records - 1) (paged last)) (sym made.continues.sizes) made.within;
      cells_used = c.used_cells-cells.ensures;
      read = log;
      was_read = read.read;
      honest = made.continues.log_honest;
      restarted = made.restarted;
      repeated = repeats_so P L first mid last was log new r read.went read.went.counted read.repeated read.read made.continues c.args.ahead.now c.requires.numbers made.checked;
      begun = made.begun;
      any_moment = begins_so P L first mid last was log new r read.went read.went.counted read.repeated read.read made.continues made.left;
      telling = tells_behind P L first mid last was log new r read.went read.went.counted read.repeated read.read made.continues (Unit {0}) made.telling;
    }

pub returns-in-Ok-finish_restart-clause-way : goal.returns-in-Ok-finish_restart-clause-way
returns-in-Ok-finish_restart-clause-way g c =
    let made = c.finish_restart.ensures in
    λ h f so. (let there = c.in-Ok.ensures.way (made.continues.pages_honest h.0, made.continues.log_honest h.1) f so in made.way h f there.0 there.1)

pub returns-in-Ok-clause-refused : goal.returns-in-Ok-clause-refused
returns-in-Ok-clause-refused g c =
    let P = g.P.PageDevice in
    let L = g.L.LogDevice in
    let first = c.args.pages in
    let mid = c.read_and_redo.new.pages in
    let last = c.finish_restart.new.pages in
    let was = c.args.log in
    let log = c.in-Ok.log in
    let new = c.finish_restart.new.log in
    let read = c.in-Ok.ensures in
    let made = c.in-Err-finish_restart.ensures in
    rw c.give_back.ensures (rw c.give_back-in-Err-finish_restart.ensures
    (refuses_so P L first mid last was log new (Ok c.in-Ok.analysis) read.went read.went.counted read.repeated read.read made.continues c.in-Err-finish_restart.refusal c.args.ahead.now c.requires.numbers made.left made.fails made.read made.telling made.shut))

pub returns-in-Ok-clause-way_back : goal.returns-in-Ok-clause-way_back
returns-in-Ok-clause-way_back g c =
    let made = c.finish_restart.ensures in
    rw c.give_back.ensures (rw c.give_back-in-Err-finish_restart.ensures
    (λ h f so. (let there = c.in-Ok.ensures.way (made.continues.pages_honest h.0, made.continues.log_honest h.1) f so in made.way h f there.0 there.1)))

pub returns-clause-refused : goal.returns-clause-refused
returns-clause-refused g c =
    let s = c.in-Err.stopped in
    let stops = c.in-Err.ensures.stops in
    rw c.give_back-in-Err.ensures
    (refuses_reading g.P.PageDevice g.L.LogDevice c.args.pages c.read_and_redo.new.pages c.args.log s.device s.refusal stops.0 stops.1 stops.2 c.in-Err.ensures.only c.in-Err.ensures.stopped)

pub returns-clause-way_back : goal.returns-clause-way_back
returns-clause-way_back g c = rw c.give_back-in-Err.ensures c.in-Err.ensures.way_back
