-- The page that is named for chains that are not whole is one.
use Rattle.std.proofs.Common.{◌≡◌, ℕ, List, refl, sym, ap, subst, Option, Some, None, Result, Ok, Err}
use Rattle.std.specs.Prelude.{IfNone, IfOk, IfSome}
use Rattle.rq_model.specs.declared.refusal.Refusal.{Refusal}
use Rattle.rq_page.specs.Sizes.{Sizes}
use Rattle.rq_views.specs.Stored.{slots_in}
use Rattle.rq_chain_check.specs.Links.{AreLinked, IsFault}
use Rattle.rq_chain_check.proofs.Faults.{faults_exact}

-- none is named where chains are whole, else this one
abbrev pub Names : Sizes → List (List ℕ) → Option ℕ → Type 0
Names z images o = IfNone o (AreLinked z (slots_in z images)) × IfSome o (λ page. IsFault z (slots_in z images) page)

named_one : (z : Sizes) (images : List (List ℕ)) (a b : Option ℕ) → Names z images a → Names z images b → a ≡ b
named_one z images None None f g = refl
named_one z images None (Some q) f g = absurd (faults_exact.none z (slots_in z images) q f.0 g.1)
named_one z images (Some p) None f g = absurd (faults_exact.none z (slots_in z images) p g.0 f.1)
named_one z images (Some p) (Some q) f g = ap (λ (page : ℕ). Some page) (faults_exact.one z (slots_in z images) p q f.1 g.1)

named_there : (z y : Sizes) (images others : List (List ℕ)) (a b : Option ℕ) → z ≡ y → images ≡ others → Names z images a → Names y others b → a ≡ b
named_there z y images others a b e i f g =
    named_one z images a b f (subst (λ (w : Sizes). Names w images b) (sym e) (subst (λ (l : List (List ℕ)). Names y l b) (sym i) g))

pub named_alike : (z y : Sizes) (images others : List (List ℕ)) (a b : Result (Option ℕ) Refusal) → z ≡ y → images ≡ others
    → IfOk a (λ o. IfNone o (AreLinked z (slots_in z images))) → IfOk a (λ o. IfSome o (λ page. IsFault z (slots_in z images) page))
    → IfOk b (λ o. IfNone o (AreLinked y (slots_in y others))) → IfOk b (λ o. IfSome o (λ page. IsFault y (slots_in y others) page))
    → IfOk a (λ p. IfOk b (λ q. p ≡ q))
named_alike z y images others (Ok a) (Ok b) e i f g h k = named_there z y images others a b e i (f, g) (h, k)
named_alike z y images others (Ok a) (Err s) e i f g h k = tt
named_alike z y images others (Err r) b e i f g h k = tt
