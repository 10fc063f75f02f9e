-- What is written of a record that was read.
use Rattle.std.proofs.Common.{◌≡◌, ◌⊎◌, inl, inr, ℕ, ◌+◌, false, List, [], ◌∷◌, ◌++◌, length, refl, ◌∙◌, ap, arith}
use Rattle.rq_model.specs.declared.record.Record.{Record}
use Rattle.rq_model.specs.declared.record.Record.TheVariants.{Base}
use Rattle.rq_model.specs.Bases.{is_base, marks, with_next}
use Rattle.rq_inspect.specs.Inspections.{lines}
use Rattle.rq_inspect.specs.Lines.{line_of}

one_longer : (n lsn : ℕ) (log : List Record) (r : Record) → n ≡ length log → lsn ≡ length (r ∷ log) → lsn ≡ n + 1
one_longer n lsn log r is size = omega (arith, is, size)

pub lines_next : (r : Record) (front : List Record) (lsn : ℕ) → (is_base r ≡ false) ⊎ (front ≡ []) → lsn ≡ length (with_next r front) → lines front ++ line_of lsn r ≡ lines (with_next r front)
lines_next (Base many i) front lsn (inl plain) size = absurd cc
lines_next (Base many i) front lsn (inr none) size =
    ap (λ l. lines l ++ line_of lsn (Base many i)) none ∙ ap (λ n. line_of n (Base many i)) (one_longer (length (marks many)) lsn (marks many) (Base many i) refl size)
lines_next r front lsn oldest size = ap (λ n. lines front ++ line_of n r) (one_longer (length front) lsn front r refl size)
