use Rattle.std.proofs.Common.{arith, ◌∙◌}
use Rattle.rq_disk.specs.declared.mem_log.LogCall.TheVariants.{Force}
use Rattle.rq_disk.proofs.KeptLog.{Kept, force_kept, forced_to, fewer_logs_to, log_elapses}
use Rattle.rq_disk.proofs.mem_log.MemLogLogDevice.force.Goals as goal

pub invariant_of-self-in-Ok : goal.invariant_of-self-in-Ok
invariant_of-self-in-Ok c =
    let m = c.args.self.now in
    let kept : Kept m.start.value.items m.bytes.items m.forced m.calls.items = record { within = m.within; forced_bytes = m.forced_bytes; handed_bytes = m.handed_bytes; whole = m.whole } in
    let k = force_kept m.start.value.items m.bytes.items m.forced m.calls.items kept c.len-self.result c.add_force.new.calls.items (c.len-self.ensures ∙ omega (arith, m.bytes.ok.0)) c.in-Ok.ensures.ok in
    record { within = k.within; forced_bytes = k.forced_bytes; handed_bytes = k.handed_bytes; whole = k.whole }

pub returns-in-Ok-clause-durable : goal.returns-in-Ok-clause-durable
returns-in-Ok-clause-durable c =
    let m = c.args.self.now in
    forced_to m.start.value.items m.calls.items c.add_force.new.calls.items c.in-Ok.ensures.ok

pub returns-in-Ok-clause-crash : goal.returns-in-Ok-clause-crash
returns-in-Ok-clause-crash c =
    let m = c.args.self.now in
    fewer_logs_to m.start.value.items m.calls.items c.add_force.new.calls.items c.in-Ok.ensures.ok

pub returns-in-Ok-clause-time : goal.returns-in-Ok-clause-time
returns-in-Ok-clause-time c =
    let m = c.args.self.now in
    log_elapses m.start.value.items m.calls.items c.add_force.new.calls.items Force c.in-Ok.ensures.ok
