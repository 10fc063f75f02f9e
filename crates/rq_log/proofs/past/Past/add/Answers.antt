use Rattle.std.proofs.Common.{◌≡◌, ◌⊎◌, inl, inr, ℕ, true, false, List, [], ◌∷◌, ◌++◌, refl, sym, ◌∙◌, ap}
use Rattle.rq_model.specs.declared.record.Record.{Record}
use Rattle.rq_model.specs.declared.record.Record.TheVariants.{Base}
use Rattle.rq_model.specs.Bases.{is_base, marks, with_next}
use Rattle.rq_log.proofs.past.Past.add.Goals as goal

none_known : (xs ys : List Record) → xs ++ ys ≡ [] → xs ≡ []
none_known [] ys e = refl
none_known (x ∷ xs) ys e = absurd cc

-- a Base is the first, and stands for what it tells
based : (known old : List Record) (r : Record) (many i unknown : ℕ) (now : List Record) → known ≡ r ∷ old → r ≡ Base many i → old ++ marks unknown ≡ now → (is_base r ≡ false) ⊎ (now ≡ []) → known ++ marks many ≡ with_next r now
based known old r many i unknown now grown is before (inl plain) = absurd (let bad : true ≡ false = ap is_base (sym is) ∙ plain in cc bad)
based known old r many i unknown now grown is before (inr none) =
    ap (λ l. l ++ marks many) (grown ∙ ap (λ l. r ∷ l) (none_known old (marks unknown) (before ∙ none)) ∙ ap (λ x. x ∷ []) is) ∙ ap (λ x. with_next x now) (sym is)

pub returns-in-Base : goal.returns-in-Base
returns-in-Base c = based c.push.new.list.value c.self.inside.known.value c.args.record.now c.in-Base.records c.in-Base.incarnation c.self.inside.unknown c.args.self.now c.push.ensures c.in-Base.is c.self.view_is c.requires
