-- The record that began the incarnation stays forced.
use Rattle.std.proofs.Common.{◌≡◌, ℕ, suc, ◌+◌, ◌-◌, ◌≤◌, List, ◌∷◌, ◌++◌, length, take, drop, sym, ◌∙◌, ap, subst, arith}
use Rattle.std.proofs.lemmas.List.{take-append-drop}
use Rattle.rq_model.specs.declared.record.Record.{Record}
use Rattle.rq_model.specs.Incarnations.{incarnation_of, InOrder}
use Rattle.rq_model.proofs.Cuts.{incarnation_grows}
use Rattle.rq_store.specs.Fitting.{oldest}
use Rattle.rq_store.specs.Steps.{Continues}
use Rattle.rq_store.proofs.Cutting.{longer_continues}

-- a record more
pub begun_more : (n i : ℕ) (r : Record) (log : List Record) → n ≤ length log → incarnation_of (oldest n log) ≡ i → incarnation_of (oldest n (r ∷ log)) ≡ i
begun_more n i r log within e =
    let next : length (r ∷ log) - n ≡ suc (length log - n) = omega (arith, within) in
    ap (λ k. incarnation_of (drop k (r ∷ log))) next ∙ e

-- all of them
pub begun_all : (i : ℕ) (log : List Record) → incarnation_of log ≡ i → incarnation_of (oldest (length log) log) ≡ i
begun_all i log e =
    let none : length log - length log ≡ 0 = omega arith in
    ap (λ k. incarnation_of (drop k log)) none ∙ e

-- a cut with all that are forced is of no earlier incarnation
pub begun_cut : (lost forced i : ℕ) (log : List Record) → lost + forced ≤ length log → InOrder (drop lost log) → incarnation_of (oldest forced log) ≡ i → i ≤ incarnation_of (drop lost log)
begun_cut lost forced i log within order e =
    let c : Continues (oldest forced log) (drop lost log) = longer_continues lost forced log within in
    let joined : take c.0 (drop lost log) ++ oldest forced log ≡ drop lost log = ap (λ l. take c.0 (drop lost log) ++ l) (sym c.1) ∙ take-append-drop c.0 (drop lost log) in
    let grows = incarnation_grows (take c.0 (drop lost log)) (oldest forced log) (subst InOrder (sym joined) order) in
    let same = ap incarnation_of joined in
    omega (arith, grows, same, e)
