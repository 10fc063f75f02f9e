-- Ends of senders and clients in one table: what is held at places tells what is held of groups.
use Rattle.std.proofs.Common.{◌≡◌, ℕ, ◌+◌, ◌-◌, ◌<◌, ◌≤◌, ◌^◌, true, false, not, nat_eq, ◌&&◌, ◌||◌, List, [], ◌∷◌, map, take, refl, sym, ◌∙◌, ap, inl, inr, arith}
use Rattle.std.proofs.lemmas.Bool.{cases_Bool, cases_lt, cases_eq, lt-ltb, le-ltb, eq-eqb, ne_eqb, true≢false, or_left}
use Rattle.rq_model.specs.declared.txn.Txn.{Txn}
use Rattle.rq_model.specs.Vocabulary.{client_group, same_txn}
use Rattle.rq_groups.specs.declared.Held.{Held}
use Rattle.rq_groups.specs.Ends.{HeldEnds, as_group, group_at, has_held, held_by, is_free_for, is_held, released, with_held}
use Rattle.rq_groups.proofs.Holders.{with_had, with_new, held_first, held_later, released_first, released_later}
use Rattle.rq_groups.proofs.Chained.{held_some}

pub at_sender : (n s : ℕ) → s < n → group_at n s ≡ s
at_sender n s lt = let e = lt-ltb s n lt in rw e refl

at_behind : (n p : ℕ) → n ≤ p → group_at n p ≡ client_group (p - n)
at_behind n p le = let e = le-ltb p n le in rw e refl

pub at_client : (n c : ℕ) → group_at n (n + c) ≡ client_group c
at_client n c = let d : (n + c) - n ≡ c = omega arith in at_behind n (n + c) (omega arith) ∙ ap client_group d

-- ---- ends by place, and by group

module _ (n : ℕ) where
  pub held_as : (t : Txn) (hs : List Held) → held_by t (map (as_group n) hs) ≡ map (group_at n) (held_by t hs)
  held_as t [] = refl
  held_as t (h ∷ hs) =
      elim (cases_Bool (same_txn h.txn t)) [
        | inl e ↦ held_first t (as_group n h) (map (as_group n) hs) e ∙ ap (λ l. group_at n h.sender ∷ l) (held_as t hs) ∙ sym (ap (map (group_at n)) (held_first t h hs e))
        | inr e ↦ held_later t (as_group n h) (map (as_group n) hs) e ∙ held_as t hs ∙ sym (ap (map (group_at n)) (held_later t h hs e))
      ]

  pub released_as : (t : Txn) (hs : List Held) → released t (map (as_group n) hs) ≡ map (as_group n) (released t hs)
  released_as t [] = refl
  released_as t (h ∷ hs) =
      elim (cases_Bool (same_txn h.txn t)) [
        | inl e ↦ released_first t (as_group n h) (map (as_group n) hs) e ∙ released_as t hs ∙ sym (ap (map (as_group n)) (released_first t h hs e))
        | inr e ↦ released_later t (as_group n h) (map (as_group n) hs) e ∙ ap (λ l. as_group n h ∷ l) (released_as t hs) ∙ sym (ap (map (as_group n)) (released_later t h hs e))
      ]

  -- no end is held of a number that is no sender's and no client's
  pub none_between : (s : ℕ) (hs : List Held) → n ≤ s → s < 2 ^ 32 → is_held s (map (as_group n) hs) ≡ false
  none_between s [] le lt = refl
  none_between s (h ∷ hs) le lt =
      let other : nat_eq (group_at n h.sender) s ≡ false = elim (cases_lt h.sender n) [
        | inl a ↦ ne_eqb (group_at n h.sender) s (λ e. let g : h.sender ≡ s = sym (at_sender n h.sender a) ∙ e in omega (arith, g, a, le))
        | inr a ↦ ne_eqb (group_at n h.sender) s (λ e. let g : client_group (h.sender - n) ≡ s = sym (at_behind n h.sender a) ∙ e in omega (arith, g, lt))
      ]
      in
      ap (λ b. b || is_held s (map (as_group n) hs)) other ∙ none_between s hs le lt

module _ (n : ℕ) (small : n ≤ 2 ^ 32) where
  group_is : (p q : ℕ) → group_at n p ≡ group_at n q → p ≡ q
  group_is p q e =
      elim (cases_lt p n) [
        | inl a ↦ elim (cases_lt q n) [
          | inl b ↦ sym (at_sender n p a) ∙ e ∙ at_sender n q b
          | inr b ↦ let g : p ≡ client_group (q - n) = sym (at_sender n p a) ∙ e ∙ at_behind n q b in absurd (omega (arith, g, a, small))
        ]
        | inr a ↦ elim (cases_lt q n) [
          | inl b ↦ let g : client_group (p - n) ≡ q = sym (at_behind n p a) ∙ e ∙ at_sender n q b in absurd (omega (arith, g, b, small))
          | inr b ↦ let g : client_group (p - n) ≡ client_group (q - n) = sym (at_behind n p a) ∙ e ∙ at_behind n q b in omega (arith, g, a, b)
        ]
      ]

  group_same : (p q : ℕ) → nat_eq (group_at n p) (group_at n q) ≡ nat_eq p q
  group_same p q =
      elim (cases_eq p q) [
        | inl e ↦ eq-eqb (group_at n p) (group_at n q) (ap (group_at n) e) ∙ sym (eq-eqb p q e)
        | inr ne ↦ ne_eqb (group_at n p) (group_at n q) (λ e. ne (group_is p q e)) ∙ sym (ne_eqb p q ne)
      ]

  pub has_as : (t : Txn) (p : ℕ) (hs : List Held) → has_held t (group_at n p) (map (as_group n) hs) ≡ has_held t p hs
  has_as t p [] = refl
  has_as t p (h ∷ hs) =
      ap (λ b. (same_txn h.txn t && b) || has_held t (group_at n p) (map (as_group n) hs)) (group_same h.sender p)
      ∙ ap (λ b. (same_txn h.txn t && nat_eq h.sender p) || b) (has_as t p hs)

  pub free_as : (t : Txn) (p : ℕ) (hs : List Held) → is_free_for t (group_at n p) (map (as_group n) hs) ≡ is_free_for t p hs
  free_as t p [] = refl
  free_as t p (h ∷ hs) =
      ap (λ b. (same_txn h.txn t || not b) && is_free_for t (group_at n p) (map (as_group n) hs)) (group_same h.sender p)
      ∙ ap (λ b. (same_txn h.txn t || not (nat_eq h.sender p)) && b) (free_as t p hs)

  pub is_as : (p : ℕ) (hs : List Held) → is_held (group_at n p) (map (as_group n) hs) ≡ is_held p hs
  is_as p [] = refl
  is_as p (h ∷ hs) =
      ap (λ b. b || is_held (group_at n p) (map (as_group n) hs)) (group_same h.sender p)
      ∙ ap (λ b. nat_eq h.sender p || b) (is_as p hs)

  pub with_as : (t : Txn) (p : ℕ) (hs : List Held) → with_held t (group_at n p) (map (as_group n) hs) ≡ map (as_group n) (with_held t p hs)
  with_as t p hs =
      elim (cases_Bool (has_held t p hs)) [
        | inl e ↦ with_had t (group_at n p) (map (as_group n) hs) (has_as t p hs ∙ e) ∙ sym (ap (map (as_group n)) (with_had t p hs e))
        | inr e ↦ with_new t (group_at n p) (map (as_group n) hs) (has_as t p hs ∙ e) ∙ sym (ap (map (as_group n)) (with_new t p hs e))
      ]

-- ---- an end of a place, in a table whose ends have these groups

module _ (n : ℕ) (small : n < 2 ^ 32) (t : Txn) (p g : ℕ) (hs now : List Held) (at : group_at n p ≡ g) (is : map (as_group n) hs ≡ now) where
  pub place_free : is_free_for t p hs ≡ is_free_for t g now
  place_free = sym (free_as n (omega (arith, small)) t p hs) ∙ ap (λ x. is_free_for t x (map (as_group n) hs)) at ∙ ap (is_free_for t g) is

  pub place_has : has_held t p hs ≡ has_held t g now
  place_has = sym (has_as n (omega (arith, small)) t p hs) ∙ ap (λ x. has_held t x (map (as_group n) hs)) at ∙ ap (has_held t g) is

  pub place_held : is_held p hs ≡ is_held g now
  place_held = sym (is_as n (omega (arith, small)) p hs) ∙ ap (λ x. is_held x (map (as_group n) hs)) at ∙ ap (is_held g) is

  pub place_with : map (as_group n) (with_held t p hs) ≡ with_held t g now
  place_with = sym (with_as n (omega (arith, small)) t p hs) ∙ ap (λ x. with_held t x (map (as_group n) hs)) at ∙ ap (with_held t g) is

pub ends_same : (a b c d : List Held) → a ≡ c → b ≡ d → (let e : HeldEnds = record { sending = a; receiving = b } in e) ≡ record { sending = c; receiving = d }
ends_same a b c d e f = ap (λ x. let h : HeldEnds = record { sending = x; receiving = b } in h) e ∙ ap (λ x. let h : HeldEnds = record { sending = c; receiving = x } in h) f

-- ---- what nobody holds

pub none_has : (t : Txn) (s : ℕ) (hs : List Held) → is_held s hs ≡ false → has_held t s hs ≡ false
none_has t s hs e =
    elim (cases_Bool (has_held t s hs)) [
      | inl h ↦ absurd (true≢false (sym (held_some t s hs h) ∙ e))
      | inr n ↦ n
    ]

pub newest_held : (t : Txn) (s : ℕ) (hs : List Held) → take 1 hs ≡ record { txn = t; sender = s } ∷ [] → is_held s hs ≡ true
newest_held t s [] e = cc
newest_held t s (h ∷ hs) e =
    let g : Held = record { txn = t; sender = s } in
    let same : h ≡ g = cc in
    or_left (nat_eq h.sender s) (is_held s hs) (eq-eqb h.sender s (ap (λ (x : Held). x.sender) same))
