-- A cut, and then an append.
use Rattle.std.proofs.Common.{◌≡◌, ⊎_elim, inl, inr, ℕ, ◌-◌, ◌≤◌, List, ◌++◌, length, drop, sym, ◌∙◌, ap, subst, arith, append_assoc}
use Rattle.std.proofs.lemmas.List.{length-drop}
use Rattle.rq_model.specs.declared.record.Record.{Record}
use Rattle.rq_model.specs.Bases.{gone, standing}
use Rattle.rq_disk.specs.declared.device.LogDevice.{Ghosts}
use Rattle.rq_log.specs.Crash.{LeavesOnly}
use Rattle.rq_log.specs.Logged.{Logged, held, kept, WasCut, WasLeftOrGoesOn}
use Rattle.rq_log.specs.Spelled.{AreSpelled, GoOnTo, GoesOn}
use Rattle.rq_log.proofs.Moments.{joined, weaker}
use Rattle.rq_log.proofs.Parsing.{one_log}
use Rattle.rq_log.proofs.Runs.{AreAllSpelled-drop, ends_all}

module _ {L : Type 0} (g : Ghosts L) where
  -- what goes on behind the records that a cut left goes on behind those that were there
  behind_cut : (log : Logged L) (mid : L) (c : List ℕ) → AreSpelled log.records → WasCut g log mid → GoesOn (held log) (kept log) (g.seen mid) c → GoesOn (held log) (kept log) (g.seen log.device) c
  behind_cut log mid c are cut on =
      let same : drop on.behind (held log) ≡ drop cut.0 (held log) =
      one_log (drop on.behind (held log)) (drop cut.0 (held log)) (g.seen mid) (AreAllSpelled-drop on.behind (held log) are) (AreAllSpelled-drop cut.0 (held log) are) on.reads (ends_all (drop cut.0 (held log)) (g.seen mid) cut.3) in
      let a = length-drop on.behind (held log) in
      let b = length-drop cut.0 (held log) in
      let e = ap length same in
      let within = on.within in
      let le = cut.1 in
      let some = on.some in
      -- what the cut left went on with the end
      let longer : GoOnTo c (g.seen mid) → GoOnTo c (g.seen log.device) = λ (on : GoOnTo c (g.seen mid)).
      (on.0 ++ cut.2.0, cut.2.2 ∙ ap (λ (l : List ℕ). l ++ cut.2.0) (sym cut.3 ∙ on.1) ∙ append_assoc c on.0 cut.2.0) in
      record { behind = cut.0; within = le; reads = cut.2; lost = on.lost; some = omega (arith, a, b, e, within, le, some); is = on.is; from = ⊎_elim (λ whole. inl whole) (λ first. inr (longer first)) on.from }

  -- what a crash at any moment leaves of both
  pub cut_then_added : (old mid : Logged L) (new : L) → ((c : List ℕ) → g.moment old.device ≤ g.moment mid.device → g.may_leave mid.device c → g.left_since mid.device (g.moment old.device) c) → mid.records ≡ old.records → mid.forced ≡ old.forced → AreSpelled old.records → WasCut g old mid.device
      → LeavesOnly g old.device mid.device (WasLeftOrGoesOn g old) → LeavesOnly g mid.device new (WasLeftOrGoesOn g mid) → LeavesOnly g old.device new (WasLeftOrGoesOn g old)
  cut_then_added old mid new counts records forced are cut first second =
      joined g old.device mid.device new (WasLeftOrGoesOn g old) first (weaker g mid.device new (WasLeftOrGoesOn g mid) (WasLeftOrGoesOn g old) second
      (λ c. ⊎_elim
      (λ was. first.each c (counts c first.later was))
      (λ on. inr (behind_cut old mid.device c are cut (subst (λ (n : ℕ). GoesOn (held old) (n - gone old.records) (g.seen mid.device) c) forced (subst (λ (rs : List Record). GoesOn (standing rs) (mid.forced - gone rs) (g.seen mid.device) c) records on))))))
