use Rattle.std.proofs.Common.{◌∙◌, ap, sym, arith}
use Rattle.rq_disk.specs.Memory.{fresh_log}
use Rattle.rq_disk.specs.declared.mem_log.LogCall.TheVariants.{Replace}
use Rattle.rq_disk.proofs.KeptLog.{all_kept, log_pushed, log_elapses}
use Rattle.rq_disk.proofs.mem_log.MemLogLogDevice.replace.Goals as goal

pub invariant_of-self-in-Ok : goal.invariant_of-self-in-Ok
invariant_of-self-in-Ok c =
    let done = c.in-Ok.ensures.ok in
    let m = c.args.self.now in
    let k = all_kept m.start.value.items c.put_run.new.all.items c.len-self.result c.put_run.new.calls.items (c.len-self.ensures ∙ omega (arith, c.put_run.new.all.ok.0))
    (log_pushed m.start.value.items m.calls.items c.put_run.new.calls.items (Replace done.0) done.2 ∙ ap fresh_log (done.1 ∙ sym done.3)) in
    record { within = k.within; forced_bytes = k.forced_bytes; handed_bytes = k.handed_bytes; whole = k.whole }

pub returns-in-Ok-clause-time : goal.returns-in-Ok-clause-time
returns-in-Ok-clause-time c =
    let done = c.in-Ok.ensures.ok in
    let m = c.args.self.now in
    log_elapses m.start.value.items m.calls.items c.put_run.new.calls.items (Replace done.0) done.2
