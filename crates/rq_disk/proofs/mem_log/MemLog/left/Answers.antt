use Rattle.std.proofs.Common.{◌≡◌, ◌+◌, ◌-◌, sym, subst, List, ℕ, arith, length, take, ap, ◌∙◌}
use Rattle.std.proofs.lemmas.List.{length-take-le}
use Rattle.rq_disk.specs.Records.{HoldsRecords}
use Rattle.rq_disk.proofs.Records.{records_long}
use Rattle.rq_disk.proofs.KeptLog.{Kept, kept_reads}
use Rattle.rq_disk.proofs.mem_log.MemLog.left.Goals as goal

pub returns : goal.returns
returns c =
    let m = c.args.self.now in
    let kept : Kept m.start.value.items m.bytes.items m.forced m.calls.items = record { within = m.within; forced_bytes = m.forced_bytes; handed_bytes = m.handed_bytes; whole = m.whole } in
    let first = c.first_records-end in
    let long = records_long first.result.1 (take first.result.0 c.deref.result.now) first.ensures.whole in
    let short = length-take-le first.result.0 c.deref.result.now first.ensures.within in
    let holds : HoldsRecords c.deref.result.now first.result.1 = record {
      end = first.result.0;
      within = first.ensures.within;
      whole = first.ensures.whole;
      last = first.ensures.last (omega (arith, long, short, first.ensures.within, ap length c.deref.ensures.value, m.bytes.ok.0, m.bytes.ok.1, m.bytes.small));
    } in
    let within = first.ensures.within in
    let is_long = c.len.ensures in
    let are_long = c.deref.ensures.len in
    let all : first.result.0 + (c.len.result - first.result.0) ≡ length c.deref.result.now = omega (arith, within, is_long, are_long) in
    subst (λ (l : List ℕ). (n : ℕ) × (h : HoldsRecords l n) × (h.end + (c.len.result - first.result.0) ≡ length l))
    (c.deref.ensures.value ∙ sym (kept_reads m.start.value.items m.bytes.items m.forced m.calls.items kept)) (first.result.1, holds, all)
