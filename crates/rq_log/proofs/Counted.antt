-- The last LSN of a log is what is counted in its bytes.
use Rattle.std.proofs.Common.{◌≡◌, ℕ, ◌+◌, ◌<◌, List, [], ◌∷◌, ◌++◌, length, refl, sym, ◌∙◌, subst, arith, append_assoc}
use Rattle.rq_model.specs.declared.record.Record.{Record}
use Rattle.rq_model.specs.declared.record.Record.TheVariants.{Base}
use Rattle.rq_model.specs.Bases.{marked, standing, with_next}
use Rattle.rq_record.specs.Spelling.{HoldsRecord, spelling}
use Rattle.rq_log.specs.Counted.{IsCounted, LastLsn}
use Rattle.rq_log.specs.Spelled.{AreSpelled, spelled}
use Rattle.rq_log.proofs.Parsing.{no_end}
use Rattle.rq_log.proofs.Tallying.{tallied}

-- the oldest record that stands of a log is at the front of its bytes, and counts with those that it stands for
record Front (log : List Record) (bytes : List ℕ) : Type 0 where
  holds : HoldsRecord bytes
  counts : length (marked log) + 1 ≡ length (standing log) + length (with_next holds.0 [])

front_of : (log : List Record) (end : List ℕ) → AreSpelled log → 0 < length log → Front log (spelled log ++ end)
front_of [] end told some = absurd (omega (arith, some))
front_of (Base many i ∷ log) end told some = record { holds = (Base many i, end, told.0, refl); counts = omega arith }
front_of (r ∷ []) end told some = record { holds = (r, end, told.0, refl); counts = refl }
front_of (r ∷ (x ∷ log)) end told some =
    let older = front_of (x ∷ log) (spelling r ++ end) told.1 (omega arith) in
    let one = older.counts in
    record { holds = (older.holds.0, older.holds.1, older.holds.2, append_assoc (spelled (x ∷ log)) (spelling r) end ∙ older.holds.3); counts = omega (arith, one) }

pub counted_last : (bytes : List ℕ) (lsn : ℕ) → IsCounted bytes lsn → LastLsn bytes lsn
counted_last bytes lsn c [] told ends =
    let all = tallied [] bytes c.records told ends c.holds in
    c.none (λ h. no_end h.0 ends.0 h.1 h.2 ends.1 (sym ends.2 ∙ h.3)) ∙ all
counted_last bytes lsn c (r ∷ log) told ends =
    let all = tallied (r ∷ log) bytes c.records told ends c.holds in
    let f : Front (r ∷ log) bytes = subst (Front (r ∷ log)) (sym ends.2) (front_of (r ∷ log) ends.0 told (omega arith)) in
    let one = f.counts in
    let sum = c.first f.holds in
    omega (arith, all, one, sum)
