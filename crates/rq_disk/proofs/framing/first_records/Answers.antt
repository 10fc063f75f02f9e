use Rattle.std.proofs.Common.{◌≡◌, ◌∙◌, ◌+◌, ◌-◌, take, drop, length, arith, sym, ap, subst, ℕ}
use Rattle.std.proofs.lemmas.List.{take_all, length-drop}
use Rattle.rq_disk.specs.Records.{record_size, HasRecord, AreRecords}
use Rattle.rq_disk.proofs.Records.{record_step}
use Rattle.rq_disk.proofs.framing.first_records.Goals as goal

pub loop-count-preserved : goal.loop-count-preserved
loop-count-preserved c =
    let l = c.loop-count in
    let b = c.args.bytes.now in
    let some = c.in-Some.ensures.some in
    let rest = take_all (length b - l.end) (drop l.end b) (omega (arith, length-drop l.end b)) in
    let has : HasRecord (drop l.end b) = subst HasRecord rest some.1 in
    let size : c.in-Some.size ≡ record_size (drop l.end b) = some.0 ∙ ap record_size rest in
    record {
      within = omega (arith, l.invariant.within, size, has.1, length-drop l.end b);
      whole = subst (λ (s : ℕ). AreRecords (l.count + 1) (take (l.end + s) b)) (sym size) (record_step l.count l.end b l.invariant.within l.invariant.whole has);
      at_most = omega arith;
    }
