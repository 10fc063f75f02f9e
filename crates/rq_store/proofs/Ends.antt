-- Who holds an end: once it is taken, while it is free, and when a transaction lets go of its own.
use Rattle.std.proofs.Common.{◌≡◌, ◌≢◌, ℕ, ◌&&◌, ◌||◌, List, [], ◌∷◌, refl, sym, ◌∙◌, ap, true, false, not, inl, inr, nat_eq}
use Rattle.std.proofs.lemmas.Bool.{cases_Bool, false≢true, true≢false, or_left, or_right, or_cases, and_parts, eq-eqb, and_from, or_parts, not-false}
use Rattle.rq_model.specs.declared.txn.Txn.{Txn}
use Rattle.rq_model.specs.declared.record.Deed.{Deed}
use Rattle.rq_model.specs.declared.record.Deed.TheVariants.{Append, UnlinkHead, Close, Mark}
use Rattle.rq_model.specs.Vocabulary.{same_txn, client_group}
use Rattle.rq_model.proofs.Lists.{same_is, same_self, not_same}
use Rattle.rq_model.proofs.Same.{other_same}
use Rattle.rq_groups.specs.declared.Held.{Held}
use Rattle.rq_groups.specs.Ends.{HeldEnds, has_held, with_held, is_free_for, held_by, released}
use Rattle.rq_store.specs.Rows.{HoldsFor}

-- who held an end holds it still
pub held_more : (t q : Txn) (e f : ℕ) (hs : List Held) → has_held q f hs ≡ true → has_held q f (with_held t e hs) ≡ true
held_more t q e f hs h = elim (cases_Bool (has_held t e hs)) [ inl y ↦ rw y h | inr n ↦ rw n (or_right (same_txn t q && nat_eq e f) (has_held q f hs) h) ]

-- the taker holds it
pub held_now : (t : Txn) (e : ℕ) (hs : List Held) → has_held t e (with_held t e hs) ≡ true
held_now t e hs = elim (cases_Bool (has_held t e hs)) [ inl y ↦ rw y y | inr n ↦ rw n (or_left (same_txn t t && nat_eq e e) (has_held t e hs) (rw (same_self t) (eq-eqb e e refl))) ]

-- a free end is held by no other
pub free_alone : (t q : Txn) (e : ℕ) (hs : List Held) → is_free_for t e hs ≡ true → has_held q e hs ≡ true → q ≡ t
free_alone t q e [] f h = absurd (false≢true h)
free_alone t q e (x ∷ hs) f h =
    let p = and_parts (same_txn x.txn t || not (nat_eq x.sender e)) (is_free_for t e hs) f in
    elim (or_cases (same_txn x.txn q && nat_eq x.sender e) (has_held q e hs) h) [
      | inl a ↦ let b = and_parts (same_txn x.txn q) (nat_eq x.sender e) a in elim (or_cases (same_txn x.txn t) (not (nat_eq x.sender e)) p.0) [
        | inl y ↦ sym (same_is x.txn q b.0) ∙ same_is x.txn t y
        | inr n ↦ absurd (false≢true (sym (ap not b.1) ∙ n))
      ]
      | inr b ↦ free_alone t q e hs p.1 b
    ]

-- somebody else holds an end that is not free
pub holder : (t : Txn) (e : ℕ) (hs : List Held) → is_free_for t e hs ≡ false → (u : Txn) × (u ≢ t) × (has_held u e hs ≡ true)
holder t e [] h = absurd (true≢false h)
holder t e (x ∷ hs) h = elim (cases_Bool (same_txn x.txn t || not (nat_eq x.sender e))) [
  | inl y ↦ let g = holder t e hs (rw y at h) in (g.0, g.1, or_right (same_txn x.txn g.0 && nat_eq x.sender e) (has_held g.0 e hs) g.2)
  | inr n ↦
      let p = or_parts (same_txn x.txn t) (not (nat_eq x.sender e)) n in
      let q : nat_eq x.sender e ≡ true = not-false (nat_eq x.sender e) p.1 in
      (x.txn, not_same x.txn t p.0, or_left (same_txn x.txn x.txn && nat_eq x.sender e) (has_held x.txn e hs) (and_from _ _ (same_self x.txn) q))
]

-- who holds no end has none
pub none_held : (t : Txn) (hs : List Held) → ((s : ℕ) → has_held t s hs ≡ false) → held_by t hs ≡ []
none_held t [] h = refl
none_held t (x ∷ hs) h = elim (cases_Bool (same_txn x.txn t)) [
  | inl y ↦ let k = or_parts (same_txn x.txn t && nat_eq x.sender x.sender) (has_held t x.sender hs) (h x.sender) in let b : nat_eq x.sender x.sender ≡ false = rw y at k.0 in absurd (true≢false (sym (eq-eqb x.sender x.sender refl) ∙ b))
  | inr n ↦ rw n (none_held t hs (λ s. (or_parts (same_txn x.txn t && nat_eq x.sender s) (has_held t s hs) (h s)).1))
]

-- what is left when t's are released
abbrev pub without_ends : Txn → HeldEnds → HeldEnds
without_ends t ends = record { sending = released t ends.sending; receiving = released t ends.receiving }

pub held_other : (t q : Txn) (s : ℕ) (hs : List Held) → q ≢ t → has_held q s (released t hs) ≡ has_held q s hs
held_other t q s [] n = refl
held_other t q s (h ∷ hs) n = elim (cases_Bool (same_txn h.txn t)) [
  | inl y ↦ let k : same_txn h.txn q ≡ false = other_same h.txn q (λ e. n (sym e ∙ same_is h.txn t y)) in rw (y, k) (held_other t q s hs n)
  | inr m ↦ rw m (ap (λ b. (same_txn h.txn q && nat_eq h.sender s) || b) (held_other t q s hs n))
]

-- who still holds an end is another, and held it before
pub held_still : (t q : Txn) (s : ℕ) (hs : List Held) → has_held q s (released t hs) ≡ true → (q ≢ t) × (has_held q s hs ≡ true)
held_still t q s [] e = absurd (false≢true e)
held_still t q s (h ∷ hs) e = elim (cases_Bool (same_txn h.txn t)) [
  | inl y ↦ let g = held_still t q s hs (rw y at e) in (g.0, or_right (same_txn h.txn q && nat_eq h.sender s) (has_held q s hs) g.1)
  | inr m ↦ elim (or_cases (same_txn h.txn q && nat_eq h.sender s) (has_held q s (released t hs)) (rw m at e)) [
    | inl y ↦ let p = and_parts (same_txn h.txn q) (nat_eq h.sender s) y in ((λ f. not_same h.txn t m (same_is h.txn q p.0 ∙ f)), or_left (same_txn h.txn q && nat_eq h.sender s) (has_held q s hs) y)
    | inr y ↦ let g = held_still t q s hs y in (g.0, or_right (same_txn h.txn q && nat_eq h.sender s) (has_held q s hs) g.1)
  ]
]

pub for_other : (t q : Txn) (ends : HeldEnds) (d : Deed) → q ≢ t → HoldsFor ends q d → HoldsFor (without_ends t ends) q d
for_other t q ends (Append s n tag previous body) m h = held_other t q s ends.sending m ∙ h
for_other t q ends (UnlinkHead s n tag body) m h = held_other t q s ends.receiving m ∙ h
for_other t q ends (Close s) m h = held_other t q s ends.sending m ∙ h
for_other t q ends (Mark c tag previous) m h = held_other t q (client_group c) ends.sending m ∙ h
