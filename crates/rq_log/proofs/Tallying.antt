-- How many whole records bytes hold.
use Rattle.std.proofs.Common.{◌≡◌, ℕ, zero, suc, ◌+◌, ◌-◌, ◌<◌, ◌≤◌, ◌++◌, List, length, take, drop, refl, sym, ◌∙◌, ap, subst, arith, length-append}
use Rattle.std.proofs.lemmas.List.{drop-append-le, drop-drop, drop-take, length-take-le, length-drop}
use Rattle.rq_model.specs.declared.record.Record.{Record}
use Rattle.rq_model.specs.Bases.{standing}
use Rattle.rq_disk.specs.Records.{record_size, HasRecord, AreRecords, HoldsRecords}
use Rattle.rq_disk.proofs.Records.{size-append, size-take}
use Rattle.rq_record.specs.Spelling.{BeginsRecord, spelling}
use Rattle.rq_record.proofs.Whole.{framed_whole}
use Rattle.rq_log.specs.Spelled.{spelled, AreSpelled, EndsWith}
use Rattle.rq_log.proofs.Runs.{spelled_records}

-- so many whole records stand in front, and no other behind them
abbrev Fronts : ℕ → List ℕ → Type 0
Fronts zero bytes = HasRecord bytes → ⊥
Fronts (suc n) bytes = HasRecord bytes × Fronts n (drop (record_size bytes) bytes)

one_count : (m n : ℕ) (bytes : List ℕ) → Fronts m bytes → Fronts n bytes → m ≡ n
one_count zero zero bytes f g = refl
one_count zero (suc n) bytes f g = absurd (f g.0)
one_count (suc m) zero bytes f g = absurd (g f.0)
one_count (suc m) (suc n) bytes f g = ap suc (one_count m n (drop (record_size bytes) bytes) f.1 g.1)

fronts_of : (n end : ℕ) (bytes : List ℕ) → end ≤ length bytes → AreRecords n (take end bytes) → (HasRecord (drop end bytes) → ⊥) → Fronts n bytes
fronts_of zero end bytes within are last =
    let none : end ≡ 0 = omega (arith, length-take-le end bytes within, ap length are) in
    subst (λ (k : ℕ). HasRecord (drop k bytes) → ⊥) none last
fronts_of (suc n) end bytes within are last =
    let s = record_size bytes in
    let long = length-take-le end bytes within in
    let same : record_size (take end bytes) ≡ s = size-take end bytes (omega (arith, are.0.0, long)) in
    let reach : s ≤ end = omega (arith, are.0.1, same, long) in
    let split : end ≡ s + (end - s) = omega (arith, reach) in
    let cut : drop (record_size (take end bytes)) (take end bytes) ≡ take (end - s) (drop s bytes) = ap (λ (k : ℕ). drop k (take end bytes)) same ∙ ap (λ (k : ℕ). drop s (take k bytes)) split ∙ drop-take s (end - s) bytes in
    let behind : drop (end - s) (drop s bytes) ≡ drop end bytes = drop-drop (end - s) s bytes ∙ ap (λ (k : ℕ). drop k bytes) (omega (arith, reach)) in
    let less : end - s ≤ length (drop s bytes) = omega (arith, length-drop s bytes, within, reach) in (
      (omega (arith, are.0.0, long, within), omega (arith, reach, within)),
      fronts_of n (end - s) (drop s bytes) less (subst (AreRecords n) cut are.1) (λ (has : HasRecord (drop (end - s) (drop s bytes))). last (subst HasRecord behind has)),
    )

fronts_behind : (n : ℕ) (front end : List ℕ) → AreRecords n front → (HasRecord end → ⊥) → Fronts n (front ++ end)
fronts_behind zero front end are none = subst (λ (l : List ℕ). HasRecord (l ++ end) → ⊥) (sym are) none
fronts_behind (suc n) front end are none =
    let same : record_size (front ++ end) ≡ record_size front = size-append front end are.0.0 in
    let sum = length-append front end in
    let rest : drop (record_size (front ++ end)) (front ++ end) ≡ drop (record_size front) front ++ end = ap (λ (k : ℕ). drop k (front ++ end)) same ∙ drop-append-le (record_size front) front end are.0.1 in (
      (omega (arith, are.0.0, sum), omega (arith, are.0.1, same, sum)),
      subst (Fronts n) (sym rest) (fronts_behind n (drop (record_size front) front) end are.1 none),
    )

-- a proper beginning of a record is none
none_short : (end : List ℕ) → BeginsRecord end → HasRecord end → ⊥
none_short end b has =
    let size : record_size end ≡ length (spelling b.0) = sym (size-append end b.1 has.0) ∙ ap record_size (sym b.4) ∙ framed_whole b.0 b.2 in
    let some : 0 < length b.1 = b.3 in
    let all = ap length b.4 in
    let sum = length-append end b.1 in
    let within = has.1 in
    omega (arith, size, some, all, sum, within)

pub tallied : (log : List Record) (bytes : List ℕ) (n : ℕ) → AreSpelled log → EndsWith log bytes → HoldsRecords bytes n → n ≡ length (standing log)
tallied log bytes n told ends holds =
    let count : ℕ = length (standing log) in
    one_count n count bytes (fronts_of n holds.end bytes holds.within holds.whole holds.last)
    (subst (Fronts count) (sym ends.2) (fronts_behind count (spelled log) ends.0 (spelled_records (standing log) told) (none_short ends.0 ends.1)))
