-- A page is named only where the chains are not whole, and then it is one page.
use Rattle.std.proofs.Common.{◌≡◌, ℕ, ◌/◌, ◌<◌, inl, inr, List, sym, ◌∙◌, ap, subst, arith}
use Rattle.std.proofs.lemmas.Bool.{cases_order}
use Rattle.rq_model.specs.Vocabulary.{In}
use Rattle.rq_page.specs.Sizes.{Sizes, directory_at, sender_count}
use Rattle.rq_views.specs.Chain.{Node}
use Rattle.rq_views.specs.Log.{Slots}
use Rattle.rq_chain_check.specs.Links.{AreChains, AreLinked, IsMet, IsFirstBroken, IsFirstUnmet, IsFault}
use Rattle.rq_chain_check.specs.Theorems.{FaultsAreExact}
use Rattle.rq_chain_check.proofs.Chains.{chain_same}

-- what is met of chains is met of the same senders' chains
met_again : (n : ℕ) (q : Slots) (cs ds : ℕ → List Node) (a : ℕ) → AreChains n q cs → AreChains n q ds → IsMet n cs a → IsMet n ds a
met_again n q cs ds a c d m = record {
  sender = m.sender;
  below = m.below;
  met = subst (λ l. In a l) (chain_same q m.sender (cs m.sender) (ds m.sender) (c.whole m.sender m.below) (d.whole m.sender m.below)) m.met;
}

no_fault : (z : Sizes) (q : Slots) (page : ℕ) → AreLinked z q → IsFault z q page → ⊥
no_fault z q page l (inl f) = f.broken (l.chains f.sender) (l.whole.whole f.sender f.below)
no_fault z q page l (inr u) = u.unmet (met_again (sender_count z) q l.chains u.chains u.at l.whole u.whole (l.all u.at u.used))

-- a sender before the first broken one has a whole chain, so two such are one
first_once : (z : Sizes) (q : Slots) (page other : ℕ) → IsFirstBroken z q page → IsFirstBroken z q other → page ≡ other
first_once z q page other f g = elim (cases_order f.sender g.sender) [
  | inl e ↦ f.page_is ∙ ap (λ s. directory_at s / 16) e ∙ sym g.page_is
  | inr ne ↦ elim ne [
    | inl lt ↦ absurd (f.broken (g.chains f.sender) (g.earlier.whole f.sender lt))
    | inr gt ↦ absurd (g.broken (f.chains g.sender) (f.earlier.whole g.sender gt))
  ]
]

-- no page before the first unmet one has an unmet cell
none_earlier : (z : Sizes) (q : Slots) (page other : ℕ) → IsFirstUnmet z q page → IsFirstUnmet z q other → page < other → ⊥
none_earlier z q page other f g lt =
    let e = f.page_is in
    f.unmet (met_again (sender_count z) q g.chains f.chains f.at g.whole f.whole (g.least f.at f.used (omega (arith, e, lt))))

unmet_once : (z : Sizes) (q : Slots) (page other : ℕ) → IsFirstUnmet z q page → IsFirstUnmet z q other → page ≡ other
unmet_once z q page other f g = elim (cases_order page other) [
  | inl e ↦ e
  | inr ne ↦ elim ne [ inl lt ↦ absurd (none_earlier z q page other f g lt) | inr gt ↦ absurd (none_earlier z q other page g f gt) ]
]

one_fault : (z : Sizes) (q : Slots) (page other : ℕ) → IsFault z q page → IsFault z q other → page ≡ other
one_fault z q page other (inl f) (inl g) = first_once z q page other f g
one_fault z q page other (inl f) (inr u) = absurd (f.broken (u.chains f.sender) (u.whole.whole f.sender f.below))
one_fault z q page other (inr u) (inl f) = absurd (f.broken (u.chains f.sender) (u.whole.whole f.sender f.below))
one_fault z q page other (inr u) (inr v) = unmet_once z q page other u v

pub faults_exact : FaultsAreExact
faults_exact = record { none = no_fault; one = one_fault }
