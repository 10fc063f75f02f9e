use Rattle.rq_disk.proofs.KeptLog.{Kept, append_kept, append_crash, append_elapses}
use Rattle.rq_disk.proofs.mem_log.MemLogLogDevice.append.Goals as goal

pub invariant_of-self-then-cuts_off : goal.invariant_of-self-then-cuts_off
invariant_of-self-then-cuts_off c =
    let done = c.in-Ok.ensures.ok in
    let m = c.args.self.now in
    let kept : Kept m.start.value.items m.bytes.items m.forced m.calls.items = record { within = m.within; forced_bytes = m.forced_bytes; handed_bytes = m.handed_bytes; whole = m.whole } in
    let k = append_kept m.start.value.items m.bytes.items m.forced m.calls.items kept c.add_run.new.all.items c.args.bytes.now c.add_run.new.calls.items done.0 done.1 done.2 done.3 c.requires in
    record { within = k.within; forced_bytes = k.forced_bytes; handed_bytes = k.handed_bytes; whole = k.whole }

pub returns-then-cuts_off-clause-crash : goal.returns-then-cuts_off-clause-crash
returns-then-cuts_off-clause-crash c =
    let done = c.in-Ok.ensures.ok in
    let m = c.args.self.now in
    let kept : Kept m.start.value.items m.bytes.items m.forced m.calls.items = record { within = m.within; forced_bytes = m.forced_bytes; handed_bytes = m.handed_bytes; whole = m.whole } in
    append_crash m.start.value.items m.bytes.items m.forced m.calls.items kept c.add_run.new.all.items c.args.bytes.now c.add_run.new.calls.items done.0 done.1 done.2 done.3

pub returns-then-cuts_off-clause-time : goal.returns-then-cuts_off-clause-time
returns-then-cuts_off-clause-time c =
    let done = c.in-Ok.ensures.ok in
    let m = c.args.self.now in
    let kept : Kept m.start.value.items m.bytes.items m.forced m.calls.items = record { within = m.within; forced_bytes = m.forced_bytes; handed_bytes = m.handed_bytes; whole = m.whole } in
    append_elapses m.start.value.items m.bytes.items m.forced m.calls.items kept c.add_run.new.all.items c.args.bytes.now c.add_run.new.calls.items done.0 done.1 done.2 done.3

pub invariant_of-self-else-cuts_off : goal.invariant_of-self-else-cuts_off
invariant_of-self-else-cuts_off c =
    let done = c.in-Ok.ensures.ok in
    let m = c.args.self.now in
    let kept : Kept m.start.value.items m.bytes.items m.forced m.calls.items = record { within = m.within; forced_bytes = m.forced_bytes; handed_bytes = m.handed_bytes; whole = m.whole } in
    let k = append_kept m.start.value.items m.bytes.items m.forced m.calls.items kept c.add_run.new.all.items c.args.bytes.now c.add_run.new.calls.items done.0 done.1 done.2 done.3 c.requires in
    record { within = k.within; forced_bytes = k.forced_bytes; handed_bytes = k.handed_bytes; whole = k.whole }

pub returns-else-cuts_off-clause-crash : goal.returns-else-cuts_off-clause-crash
returns-else-cuts_off-clause-crash c =
    let done = c.in-Ok.ensures.ok in
    let m = c.args.self.now in
    let kept : Kept m.start.value.items m.bytes.items m.forced m.calls.items = record { within = m.within; forced_bytes = m.forced_bytes; handed_bytes = m.handed_bytes; whole = m.whole } in
    append_crash m.start.value.items m.bytes.items m.forced m.calls.items kept c.add_run.new.all.items c.args.bytes.now c.add_run.new.calls.items done.0 done.1 done.2 done.3

pub returns-else-cuts_off-clause-time : goal.returns-else-cuts_off-clause-time
returns-else-cuts_off-clause-time c =
    let done = c.in-Ok.ensures.ok in
    let m = c.args.self.now in
    let kept : Kept m.start.value.items m.bytes.items m.forced m.calls.items = record { within = m.within; forced_bytes = m.forced_bytes; handed_bytes = m.handed_bytes; whole = m.whole } in
    append_elapses m.start.value.items m.bytes.items m.forced m.calls.items kept c.add_run.new.all.items c.args.bytes.now c.add_run.new.calls.items done.0 done.1 done.2 done.3
