-- Deeds and their levels.
use Rattle.std.proofs.Common.{◌≡◌, ◌≤◌, ℕ, arith, List, [], ◌∷◌, ap, cond, nat_eq, Some, None, refl, sym, ◌∙◌, inl, inr}
use Rattle.std.proofs.lemmas.Bool.{cases_Bool, eqb-true}
use Rattle.std.proofs.lemmas.Option.{cond_some}
use Rattle.rq_model.specs.declared.record.Deed.{Deed}
use Rattle.rq_model.specs.declared.record.Deed.TheVariants.{Append, UnlinkHead, Close, Mark}
use Rattle.rq_model.specs.Deeds.{spelled_deed, append_in, unlink_head_in, close_in, deed_in, mark_fields, mark_in, deed_level, deed_by}

-- level 0 has none
pub has_level : (d : Deed) → 1 ≤ deed_level d
has_level (Append sender sequence tag previous body) = omega arith
has_level (UnlinkHead sender sequence tag body) = omega arith
has_level (Close sender) = omega arith
has_level (Mark client tag previous) = omega arith

-- what each level's bytes tell is a deed of that level
of_chains : (bytes : List ℕ) (d : Deed) → deed_in bytes ≡ Some d → deed_level d ≡ 1
of_chains [] d told = cc
of_chains (kind ∷ fields) d told = elim (cases_Bool (nat_eq kind 1)) [
  | inl one ↦ let read : append_in fields ≡ Some d = rw one at told in ap deed_level (sym (cond_some _ _ _ read).1)
  | inr not_one ↦ elim (cases_Bool (nat_eq kind 2)) [
    | inl two ↦ let read : unlink_head_in fields ≡ Some d = rw (not_one, two) at told in ap deed_level (sym (cond_some _ _ _ read).1)
    | inr not_two ↦ let read : cond (nat_eq kind 3) (close_in fields) None ≡ Some d = rw (not_one, not_two) at told in elim (cases_Bool (nat_eq kind 3)) [
      | inl three ↦ let close : close_in fields ≡ Some d = rw three at read in ap deed_level (sym (cond_some _ _ _ close).1)
      | inr none ↦ let nothing : None ≡ Some d = rw none at read in cc
    ]
  ]
]

of_tags : (bytes : List ℕ) (d : Deed) → mark_in bytes ≡ Some d → deed_level d ≡ 2
of_tags [] d told = cc
of_tags (kind ∷ fields) d told = elim (cases_Bool (nat_eq kind 1)) [
  | inl one ↦ let read : mark_fields fields ≡ Some d = rw one at told in ap deed_level (sym (cond_some _ _ _ read).1)
  | inr other ↦ let nothing : None ≡ Some d = rw other at told in cc
]

-- a deed that is told is told by its level
pub told_by_its_level : (level : ℕ) (bytes : List ℕ) (d : Deed) → deed_by level bytes ≡ Some d → deed_level d ≡ level
told_by_its_level level bytes d told = elim (cases_Bool (nat_eq level 1)) [
  | inl one ↦ let read : deed_in bytes ≡ Some d = rw one at told in of_chains bytes d read ∙ sym (eqb-true level 1 one)
  | inr other ↦ elim (cases_Bool (nat_eq level 2)) [
    | inl two ↦ let read : mark_in bytes ≡ Some d = rw (other, two) at told in of_tags bytes d read ∙ sym (eqb-true level 2 two)
    | inr none ↦ let read : None ≡ Some d = rw (other, none) at told in cc
  ]
]

-- what its level reads in the bytes of a deed of chains
pub by_its_level : (d : Deed) → deed_level d ≡ 1 → deed_by (deed_level d) (spelled_deed d) ≡ deed_in (spelled_deed d)
by_its_level (Append sender sequence tag previous body) one = refl
by_its_level (UnlinkHead sender sequence tag body) one = refl
by_its_level (Close sender) one = refl
by_its_level (Mark client tag previous) one = cc
