-- Whether the next record may follow those of which these are the findings.
use Rattle.std.proofs.Common.{◌≡◌, ◌↔◌, Bool, true, false, IsTrue, List, sym, ◌∙◌, ap, subst}
use Rattle.std.proofs.lemmas.Bool.{false≢true}
use Rattle.rq_model.specs.declared.record.Record.{Record}
use Rattle.rq_model.specs.Bases.{is_base}
use Rattle.rq_model.specs.Incarnations.{IsNext, incarnation_of}
use Rattle.rq_analysis.specs.OpenWorkView.{OpenWorkView}
use Rattle.rq_analysis.proofs.Noting.{noted_incarnation}
use Rattle.rq_analysis.specs.LogTables.{AreTablesOf, PutsBack}
use Rattle.rq_analysis.specs.Rules.{CanBeRead, FollowAll, FollowsRules, IsNextIn, IsReadInOrder}
use Rattle.rq_restart.specs.declared.analysis.Analysis.{Analysis}
use Rattle.rq_restart.specs.Found.{IsAnalysisOf, MayComeNext}
use Rattle.rq_restart.proofs.Repeated.{next_in, next_of}

module _ (f : Analysis) (log : List Record) (r : Record) (are : IsAnalysisOf f log) (follow : FollowAll log) (plain : is_base r ≡ false) (is_next : Bool) where
  same : incarnation_of log ≡ f.open_work.incarnation
  same = sym (ap (λ (h : OpenWorkView). h.incarnation) are.open_work ∙ noted_incarnation log)

  kept : AreTablesOf log f.open_work f.dues f.numbers f.ended
  kept = record { open_work = are.open_work; dues = are.dues; numbers = are.numbers; ended = are.ended }

  -- it is the next of its incarnation, so the rules tell
  pub may_follow : (follows reads puts_back : Bool) → (IsTrue is_next ↔ IsNext f.open_work.incarnation r)
      → ((l : List Record) → AreTablesOf l f.open_work f.dues f.numbers f.ended → FollowAll l → IsReadInOrder l → IsNext (incarnation_of l) r → (IsTrue reads ↔ CanBeRead r) → (IsTrue puts_back ↔ PutsBack f.open_work r) → IsTrue follows ↔ FollowsRules l r)
      → (IsTrue reads ↔ CanBeRead r) → (IsTrue puts_back ↔ PutsBack f.open_work r) → is_next ≡ true → IsTrue follows ↔ MayComeNext log r
  may_follow follows reads puts_back next tell can back is =
      let first : IsNext (incarnation_of log) r = subst (λ n. IsNext n r) (sym same) (next.0 is) in
      let tells : IsTrue follows ↔ FollowsRules log r = tell log kept follow are.order first can back in
      (λ y. record { next = next_in log r plain first; follows = tells.0 y }, λ m. tells.1 m.follows)

  -- it is not
  pub not_next : (IsTrue is_next ↔ IsNext f.open_work.incarnation r) → is_next ≡ false → IsTrue is_next ↔ MayComeNext log r
  not_next next off = (λ y. absurd (false≢true (sym off ∙ y)), λ m. next.1 (subst (λ n. IsNext n r) same (next_of log r plain m.next)))

-- a record that is the next of its incarnation, as these are the findings
pub next_of_found : (f : Analysis) (log : List Record) (r : Record) → IsAnalysisOf f log → is_base r ≡ false → IsNext f.open_work.incarnation r → IsNextIn log r
next_of_found f log r are plain next = next_in log r plain (subst (λ n. IsNext n r) (ap (λ (h : OpenWorkView). h.incarnation) are.open_work ∙ noted_incarnation log) next)
