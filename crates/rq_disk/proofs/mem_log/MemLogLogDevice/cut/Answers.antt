use Rattle.std.proofs.Common.{◌∙◌, arith}
use Rattle.rq_disk.specs.Device.{IsCutBetween}
use Rattle.rq_disk.specs.Memory.{log_reads, log_after}
use Rattle.rq_disk.specs.declared.mem_log.LogCall.TheVariants.{Cut}
use Rattle.rq_disk.proofs.KeptLog.{Kept, cut_kept, cut_reads, cut_only, cut_crash, log_elapses_through}
use Rattle.rq_disk.proofs.mem_log.MemLogLogDevice.cut.Goals as goal

pub invariant_of-self-in-Ok : goal.invariant_of-self-in-Ok
invariant_of-self-in-Ok c =
    let m = c.args.self.now in
    let kept : Kept m.start.value.items m.bytes.items m.forced m.calls.items = record { within = m.within; forced_bytes = m.forced_bytes; handed_bytes = m.handed_bytes; whole = m.whole } in
    let k = cut_kept m.start.value.items m.bytes.items m.forced m.calls.items kept c.args.len c.len-self.result c.keep_first.new.bytes.items c.add_cut.new.calls.items c.keep_first.ensures (c.len-self.ensures ∙ omega (arith, m.bytes.ok.0)) c.in-Ok.ensures.ok in
    record { within = k.within; forced_bytes = k.forced_bytes; handed_bytes = k.handed_bytes; whole = k.whole }

pub returns-in-Ok-clause-left : goal.returns-in-Ok-clause-left
returns-in-Ok-clause-left c =
    let m = c.args.self.now in
    cut_reads m.start.value.items m.calls.items c.add_cut.new.calls.items c.args.len c.in-Ok.ensures.ok

pub returns-in-Ok-clause-durable : goal.returns-in-Ok-clause-durable
returns-in-Ok-clause-durable c =
    let m = c.args.self.now in
    cut_only m.start.value.items m.calls.items c.add_cut.new.calls.items c.args.len c.in-Ok.ensures.ok

pub returns-in-Ok-clause-crash : goal.returns-in-Ok-clause-crash
returns-in-Ok-clause-crash c =
    let m = c.args.self.now in
    cut_crash m.start.value.items m.calls.items c.add_cut.new.calls.items c.args.len c.in-Ok.ensures.ok

pub returns-in-Ok-clause-time : goal.returns-in-Ok-clause-time
returns-in-Ok-clause-time c =
    let m = c.args.self.now in
    log_elapses_through m.start.value.items m.calls.items c.add_cut.new.calls.items (Cut c.args.len) (IsCutBetween (log_reads (log_after m.start.value.items m.calls.items)) c.args.len) c.in-Ok.ensures.ok
