use Rattle.std.proofs.Common.{◌≡◌, ◌∙◌, ◌+◌, ◌-◌, ◌≤◌, ap, sym, subst, arith, length, take, drop, List, ℕ}
use Rattle.std.specs.Prelude.{Vec}
use Rattle.std.specs.declared.alloc.Global.{Global}
use Rattle.std.proofs.lemmas.List.{append-nil, take_all, length-drop, drop-drop}
use Rattle.rq_disk.specs.Records.{HasRecord, AreRecords, IsTorn}
use Rattle.rq_disk.specs.Memory.{fresh_log, log_reads, log_after, crashed_log}
use Rattle.rq_disk.proofs.KeptLog.{Kept, kept_crash, kept_left}
use Rattle.rq_disk.proofs.mem_log.MemLog.crash.Goals as goal

-- what a slice to the end holds
to_end : (n : ℕ) (b c : List ℕ) → b ≡ c → take (length b - n) (drop n b) ≡ drop n c
to_end n b c same = take_all (length b - n) (drop n b) (omega (arith, length-drop n b)) ∙ ap (drop n) same

-- where the kept bytes end
crashed : (c : goal.After-result-1) → take (c.args.self.forced + (c.first_records-end.result.0 + c.torn_size-tail.result)) c.args.self.bytes.items ≡ crashed_log c.args.keep c.args.torn (log_after c.args.self.start.value.items c.args.self.calls.items)
crashed c =
    let m = c.args.self in
    let kept : Kept m.start.value.items m.bytes.items m.forced m.calls.items = record { within = m.within; forced_bytes = m.forced_bytes; handed_bytes = m.handed_bytes; whole = m.whole } in
    let b = m.bytes.items in
    let e = c.first_records-end.result in
    let now = c.first_records-end.ensures in
    let rest = to_end m.forced c.deref.result.now b c.deref.ensures.value in
    let behind = to_end (m.forced + e.0) c.deref-2.result.now b c.deref-2.ensures.value ∙ sym (drop-drop e.0 m.forced b) in
    kept_crash m.start.value.items b m.forced m.calls.items kept c.args.keep c.args.torn e.0 c.torn_size-tail.result e.1
    (subst (λ (l : List ℕ). e.0 ≤ length l) rest now.within)
    (subst (λ (l : List ℕ). AreRecords e.1 (take e.0 l)) rest now.whole)
    now.limit
    (λ lt has. now.last lt (subst (λ (l : List ℕ). HasRecord (drop e.0 l)) (sym rest) has))
    (subst (IsTorn c.args.torn c.torn_size-tail.result) behind c.torn_size-tail.ensures.is)

kept_items : (c : goal.After-result-1) → c.truncate.new.self.items ≡ crashed_log c.args.keep c.args.torn (log_after c.args.self.start.value.items c.args.self.calls.items)
kept_items c =
    let same : (c.args.self.forced + c.first_records-end.result.0) + c.torn_size-tail.result ≡ c.args.self.forced + (c.first_records-end.result.0 + c.torn_size-tail.result) = omega arith in
    c.truncate.ensures.items ∙ ap (λ (n : ℕ). take n c.args.self.bytes.items) same ∙ crashed c

pub returns-clause-log : goal.returns-clause-log
returns-clause-log c =
    ap (λ (v : Vec ℕ Global). log_after v.items c.new.result.items) c.of-start.ensures ∙ ap (log_after c.truncate.new.self.items) c.new.ensures.items
    ∙ ap fresh_log (kept_items c)

pub returns-clause-may_leave : goal.returns-clause-may_leave
returns-clause-may_leave c =
    let m = c.args.self in
    let kept : Kept m.start.value.items m.bytes.items m.forced m.calls.items = record { within = m.within; forced_bytes = m.forced_bytes; handed_bytes = m.handed_bytes; whole = m.whole } in
    kept_left m.start.value.items m.bytes.items m.forced m.calls.items kept (c.first_records-end.result.0 + c.torn_size-tail.result) _
    (ap log_reads (returns-clause-log c) ∙ append-nil (crashed_log c.args.keep c.args.torn (log_after m.start.value.items m.calls.items)) ∙ sym (crashed c))
