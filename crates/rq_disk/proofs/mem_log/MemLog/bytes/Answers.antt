use Rattle.std.proofs.Common.{sym, ◌∙◌}
use Rattle.rq_disk.proofs.KeptLog.{Kept, kept_reads}
use Rattle.rq_disk.proofs.mem_log.MemLog.bytes.Goals as goal

pub returns : goal.returns
returns c =
    let m = c.args.self.now in
    let kept : Kept m.start.value.items m.bytes.items m.forced m.calls.items = record { within = m.within; forced_bytes = m.forced_bytes; handed_bytes = m.handed_bytes; whole = m.whole } in
    c.deref.ensures.value ∙ sym (kept_reads m.start.value.items m.bytes.items m.forced m.calls.items kept)
