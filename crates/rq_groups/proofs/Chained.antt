-- The ends of a side as chains: what they tell of each end, and what is left of them after a take, its undoing and a release.
use Rattle.std.proofs.Common.{◌≡◌, ◌≢◌, ◌++◌, ℕ, ◌<◌, Bool, true, false, cond, not, nat_eq, ◌&&◌, ◌||◌, List, [], ◌∷◌, length, drop, take, set, Option, Some, None, refl, sym, ◌∙◌, ap, subst, inl, inr, arith}
use Rattle.std.specs.Option.{is_some}
use Rattle.std.proofs.lemmas.List.{get_or-set_same, get_or-set_other, get_or_past, length-set}
use Rattle.std.proofs.lemmas.Bool.{cases_Bool, cases_eq, cases_lt, and_parts, and_from, eq-eqb, eqb-true, true≢false, or_right, or_left}
use Rattle.std.proofs.lemmas.Option.{same_Some}
use Rattle.rq_model.specs.declared.txn.Txn.{Txn}
use Rattle.rq_model.specs.Vocabulary.{same_txn, has_number}
use Rattle.rq_model.proofs.Lists.{same_is, same_self, not_same}
use Rattle.rq_groups.specs.declared.Held.{Held}
use Rattle.rq_groups.specs.declared.heads.Head.{Head}
use Rattle.rq_groups.specs.declared.places.Holding.{Holding}
use Rattle.rq_groups.specs.Ends.{AreApart, IsTail, first_of, has_held, is_held, is_free_for, held_by, released}
use Rattle.rq_groups.specs.Heads.{newest_of, IsTurned}
use Rattle.rq_groups.specs.Chains.{held_at, next_of, IsChain, IsEndTable, AreEmptied}
use Rattle.rq_groups.proofs.Holders.{has_is_number, held_first, held_later, held_released_same, held_released_other}

abbrev pub Places : Type 0
Places = List (Option Holding)

-- ---- the place of an end that is set

pub set_here : (ps : Places) (s : ℕ) (o : Option Holding) → s < length ps → held_at (set ps s o) s ≡ o
set_here ps s o lt = get_or-set_same ps s o None lt

pub set_beside : (ps : Places) (s u : ℕ) (o : Option Holding) → u ≢ s → held_at (set ps s o) u ≡ held_at ps u
set_beside ps s u o n = get_or-set_other ps s u o None n

-- a place that is emptied is empty, also where there is none
pub emptied_here : (ps : Places) (s : ℕ) → held_at (set ps s None) s ≡ None
emptied_here ps s =
    elim (cases_lt s (length ps)) [
      | inl lt ↦ set_here ps s None lt
      | inr ge ↦ get_or_past (set ps s None) s None (let l : length (set ps s None) ≡ length ps = length-set ps s None in omega (arith, l))
    ]

-- ---- chains

pub chain_holds : (ps : Places) (t : Txn) (o : Option ℕ) (ss : List ℕ) (s : ℕ) → IsChain ps t o ss → has_number s ss ≡ true → (next : Option ℕ) × (held_at ps s ≡ Some (record { txn = t; next = next }))
chain_holds ps t o [] s c h = absurd (true≢false (sym h))
chain_holds ps t o (x ∷ ss) s c h =
    elim (cases_Bool (nat_eq x s)) [
      | inl e ↦ (c.2.0, subst (λ y. held_at ps y ≡ Some (record { txn = t; next = c.2.0 })) (eqb-true x s e) c.2.1)
      | inr n ↦ chain_holds ps t c.2.0 ss s c.2.2 (rw n at h)
    ]

number_first : (s : ℕ) (ss : List ℕ) → has_number s (s ∷ ss) ≡ true
number_first s ss = or_left (nat_eq s s) (has_number s ss) (eq-eqb s s refl)

number_later : (x s : ℕ) (ss : List ℕ) → has_number s ss ≡ true → has_number s (x ∷ ss) ≡ true
number_later x s ss h = or_right (nat_eq x s) (has_number s ss) h

-- a chain whose places stay is one still
pub chain_kept : (ps qs : Places) (t : Txn) (o : Option ℕ) (ss : List ℕ) → ((s : ℕ) → has_number s ss ≡ true → held_at qs s ≡ held_at ps s) → IsChain ps t o ss → IsChain qs t o ss
chain_kept ps qs t o [] same c = c
chain_kept ps qs t o (x ∷ ss) same c =
    (c.0, c.1, (c.2.0, same x (number_first x ss) ∙ c.2.1, chain_kept ps qs t c.2.0 ss (λ s h. same s (number_later x s ss h)) c.2.2))

chain_at : (ps : Places) (t : Txn) (o p : Option ℕ) (ss : List ℕ) → o ≡ p → IsChain ps t o ss → IsChain ps t p ss
chain_at ps t o p ss e c = subst (λ x. IsChain ps t x ss) e c

chain_of : (ps : Places) (t : Txn) (o : Option ℕ) (ss rs : List ℕ) → ss ≡ rs → IsChain ps t o ss → IsChain ps t o rs
chain_of ps t o ss rs e c = subst (λ x. IsChain ps t o x) e c

-- ---- who holds an end

holder_is : (a b : Holding) → Some a ≡ Some b → a.txn ≡ b.txn
holder_is a b e = ap (λ (h : Holding). h.txn) (same_Some a b e)

module _ (ps : Places) (hs : List Head) (held : List Held) (k : IsEndTable ps hs held) where
  -- the holder of an end stands at its place
  pub held_there : (t : Txn) (s : ℕ) → has_held t s held ≡ true → (next : Option ℕ) × (held_at ps s ≡ Some (record { txn = t; next = next }))
  held_there t s h = chain_holds ps t (newest_of t hs) (held_by t held) s (k.chains t) (sym (has_is_number t s held) ∙ h)

  -- an end has one holder
  one_holder : (t u : Txn) (s : ℕ) → has_held t s held ≡ true → has_held u s held ≡ true → t ≡ u
  one_holder t u s h i =
      let a = held_there t s h in
      let b = held_there u s i in
      holder_is (record { txn = t; next = a.0 }) (record { txn = u; next = b.0 }) (sym a.1 ∙ b.1)

  pub not_held : (s : ℕ) → held_at ps s ≡ None → (t : Txn) → has_held t s held ≡ false
  not_held s e t =
      elim (cases_Bool (has_held t s held)) [
        | inl h ↦ let a = held_there t s h in let q : Holding = record { txn = t; next = a.0 } in let x : Some q ≡ None = sym a.1 ∙ e in absurd (cc)
        | inr n ↦ n
      ]

free_of : (t : Txn) (s : ℕ) (held : List Held) → ((u : Txn) → has_held u s held ≡ true → same_txn u t ≡ true) → is_free_for t s held ≡ true
free_of t s [] f = refl
free_of t s (h ∷ hs) f =
    and_from (same_txn h.txn t || not (nat_eq h.sender s)) (is_free_for t s hs)
    (elim (cases_Bool (nat_eq h.sender s)) [
      | inl e ↦ or_left (same_txn h.txn t) (not (nat_eq h.sender s)) (f h.txn (or_left (same_txn h.txn h.txn && nat_eq h.sender s) (has_held h.txn s hs) (and_from (same_txn h.txn h.txn) (nat_eq h.sender s) (same_self h.txn) e)))
      | inr n ↦ or_right (same_txn h.txn t) (not (nat_eq h.sender s)) (ap not n)
    ])
    (free_of t s hs (λ u i. f u (or_right (same_txn h.txn u && nat_eq h.sender s) (has_held u s hs) i)))

pub held_by_own : (t u : Txn) (s : ℕ) (held : List Held) → is_free_for t s held ≡ true → has_held u s held ≡ true → same_txn u t ≡ true
held_by_own t u s [] f h = absurd (true≢false (sym h))
held_by_own t u s (x ∷ hs) f h =
    let p = and_parts (same_txn x.txn t || not (nat_eq x.sender s)) (is_free_for t s hs) f in
    elim (cases_Bool (same_txn x.txn u && nat_eq x.sender s)) [
      | inl e ↦
          let q = and_parts (same_txn x.txn u) (nat_eq x.sender s) e in
          elim (cases_Bool (same_txn x.txn t)) [
            | inl own ↦ ap (λ w. same_txn w t) (sym (same_is x.txn u q.0)) ∙ own
            | inr n ↦ let a = p.0 in let b = q.1 in absurd (true≢false (sym a ∙ rw (n, b) refl))
          ]
      | inr n ↦ held_by_own t u s hs p.1 (rw n at h)
    ]

-- whether the end is free, by what stands at its place
pub free_vacant : (ps : Places) (hs : List Head) (held : List Held) (t : Txn) (s : ℕ) → IsEndTable ps hs held → held_at ps s ≡ None → is_free_for t s held ≡ true
free_vacant ps hs held t s k e = free_of t s held (λ u h. absurd (true≢false (sym h ∙ not_held ps hs held k s e u)))

pub free_held : (ps : Places) (hs : List Head) (held : List Held) (t : Txn) (s : ℕ) (h : Holding) → IsEndTable ps hs held → held_at ps s ≡ Some h → is_free_for t s held ≡ same_txn h.txn t
free_held ps hs held t s h k e =
    let own = k.holds s h e in
    elim (cases_Bool (same_txn h.txn t)) [
      | inl same ↦ free_of t s held (λ u i. ap (λ w. same_txn w t) (one_holder ps hs held k u h.txn s i own) ∙ same) ∙ sym same
      | inr other ↦ elim (cases_Bool (is_free_for t s held)) [
        | inl f ↦ absurd (true≢false (sym (held_by_own t h.txn s held f own) ∙ other))
        | inr n ↦ n ∙ sym other
      ]
    ]

-- a free end that has a holder is the transaction's
pub free_own : (ps : Places) (hs : List Head) (held : List Held) (t : Txn) (s : ℕ) → IsEndTable ps hs held → is_free_for t s held ≡ true → is_some (held_at ps s) ≡ true → has_held t s held ≡ true
free_own ps hs held t s k f o = own (held_at ps s) refl o where
  own : (h : Option Holding) → held_at ps s ≡ h → is_some h ≡ true → has_held t s held ≡ true
  own None e i = absurd (true≢false (sym i))
  own (Some h) e i =
      let mine = k.holds s h e in
      ap (λ w. has_held w s held) (sym (same_is h.txn t (held_by_own t h.txn s held f mine))) ∙ mine

-- ---- the side after a change

turned_own : (t : Txn) (v : Option ℕ) (hs new : List Head) → IsTurned t v hs new → newest_of t new ≡ v
turned_own t v hs new r = r.each t ∙ (rw (same_self t) refl)

turned_other : (t u : Txn) (v : Option ℕ) (hs new : List Head) → IsTurned t v hs new → same_txn t u ≡ false → newest_of u new ≡ newest_of u hs
turned_other t u v hs new r n = r.each u ∙ (rw n refl)

-- an end that nobody held is taken
pub side_taken : (ps qs : Places) (hs new : List Head) (held : List Held) (t : Txn) (s : ℕ) → IsEndTable ps hs held → held_at ps s ≡ None → s < length ps → qs ≡ set ps s (Some (record { txn = t; next = newest_of t hs })) → IsTurned t (Some s) hs new → IsEndTable qs new (record { txn = t; sender = s } ∷ held)
side_taken ps qs hs new held t s k none lt is turned =
    let h : Held = record { txn = t; sender = s } in
    let q : Holding = record { txn = t; next = newest_of t hs } in
    let here : held_at qs s ≡ Some q = ap (λ l. held_at l s) is ∙ set_here ps s (Some q) lt in
    let beside : (u : ℕ) → u ≢ s → held_at qs u ≡ held_at ps u = λ u n. ap (λ l. held_at l u) is ∙ set_beside ps s u (Some q) n in
    let absent : (u : Txn) → has_number s (held_by u held) ≡ false = λ u. sym (has_is_number u s held) ∙ not_held ps hs held k s none u in
    let kept : (u : Txn) → IsChain qs u (newest_of u hs) (held_by u held) =
    λ u. chain_kept ps qs u (newest_of u hs) (held_by u held) (λ x i. beside x (λ e. true≢false (sym i ∙ ap (λ y. has_number y (held_by u held)) e ∙ absent u))) (k.chains u)
    in
    record {
      order = turned.order;
      chains = λ u. elim (cases_Bool (same_txn t u)) [
        | inl e ↦
            let mine : IsChain qs t (newest_of t new) (s ∷ held_by t held) = (turned_own t (Some s) hs new turned, absent t, (newest_of t hs, here, kept t)) in
            subst (λ w. IsChain qs w (newest_of w new) (held_by w (h ∷ held))) (same_is t u e) (chain_of qs t (newest_of t new) (s ∷ held_by t held) (held_by t (h ∷ held)) (sym (held_first t h held (same_self t))) mine)
        | inr n ↦ chain_of qs u (newest_of u new) (held_by u held) (held_by u (h ∷ held)) (sym (held_later u h held n)) (chain_at qs u (newest_of u hs) (newest_of u new) (held_by u held) (sym (turned_other t u (Some s) hs new turned n)) (kept u))
      ];
      holds = λ x y e. elim (cases_eq x s) [
        | inl same ↦
            let own : y.txn ≡ t = holder_is y q (sym e ∙ ap (held_at qs) same ∙ here) in
            or_left (same_txn t y.txn && nat_eq s x) (has_held y.txn x held) (and_from (same_txn t y.txn) (nat_eq s x) (ap (same_txn t) own ∙ same_self t) (eq-eqb s x (sym same)))
        | inr other ↦ or_right (same_txn t y.txn && nat_eq s x) (has_held y.txn x held) (k.holds x y (sym (beside x other) ∙ e))
      ];
    }

-- what is known of the end that was taken last
pub newest_known : (ps : Places) (hs : List Head) (rest : List Held) (t : Txn) (s : ℕ) → IsEndTable ps hs (record { txn = t; sender = s } ∷ rest) → IsChain ps t (newest_of t hs) (s ∷ held_by t rest)
newest_known ps hs rest t s k =
    chain_of ps t (newest_of t hs) (held_by t (record { txn = t; sender = s } ∷ rest)) (s ∷ held_by t rest) (held_first t (record { txn = t; sender = s }) rest (same_self t)) (k.chains t)

-- it is given back
pub side_undone : (ps qs : Places) (hs new : List Head) (rest : List Held) (t : Txn) (s : ℕ) → IsEndTable ps hs (record { txn = t; sender = s } ∷ rest) → qs ≡ set ps s None → IsTurned t (next_of (held_at ps s)) hs new → IsEndTable qs new rest
side_undone ps qs hs new rest t s k is turned =
    let h : Held = record { txn = t; sender = s } in
    let mine = newest_known ps hs rest t s k in
    let next : next_of (held_at ps s) ≡ mine.2.0 = ap next_of mine.2.1 in
    let beside : (u : ℕ) → u ≢ s → held_at qs u ≡ held_at ps u = λ u n. ap (λ l. held_at l u) is ∙ set_beside ps s u None n in
    let gone : held_at qs s ≡ None = ap (λ l. held_at l s) is ∙ emptied_here ps s in
    let absent : (u : Txn) → same_txn t u ≡ false → has_number s (held_by u rest) ≡ false =
    λ u n. elim (cases_Bool (has_number s (held_by u rest))) [
      | inl i ↦
          let theirs = chain_holds ps u (newest_of u hs) (held_by u (h ∷ rest)) s (k.chains u) (ap (has_number s) (held_later u h rest n) ∙ i) in
          absurd (not_same t u n (holder_is (record { txn = t; next = mine.2.0 }) (record { txn = u; next = theirs.0 }) (sym mine.2.1 ∙ theirs.1)))
      | inr f ↦ f
    ]
    in
    record {
      order = turned.order;
      chains = λ u. elim (cases_Bool (same_txn t u)) [
        | inl e ↦
            let own : IsChain qs t (newest_of t new) (held_by t rest) =
            chain_at qs t mine.2.0 (newest_of t new) (held_by t rest) (sym (turned_own t (next_of (held_at ps s)) hs new turned ∙ next))
            (chain_kept ps qs t mine.2.0 (held_by t rest) (λ x i. beside x (λ f. true≢false (sym i ∙ ap (λ y. has_number y (held_by t rest)) f ∙ mine.1))) mine.2.2)
            in
            subst (λ w. IsChain qs w (newest_of w new) (held_by w rest)) (same_is t u e) own
        | inr n ↦
            chain_at qs u (newest_of u hs) (newest_of u new) (held_by u rest) (sym (turned_other t u (next_of (held_at ps s)) hs new turned n))
            (chain_kept ps qs u (newest_of u hs) (held_by u rest) (λ x i. beside x (λ f. true≢false (sym i ∙ ap (λ y. has_number y (held_by u rest)) f ∙ absent u n)))
            (chain_of ps u (newest_of u hs) (held_by u (h ∷ rest)) (held_by u rest) (held_later u h rest n) (k.chains u)))
      ];
      holds = λ x y e. elim (cases_eq x s) [
        | inl same ↦ let w : Some y ≡ None = sym e ∙ ap (held_at qs) same ∙ gone in absurd (cc)
        | inr other ↦
            let had = k.holds x y (sym (beside x other) ∙ e) in
            elim (cases_Bool (nat_eq s x)) [
              | inl f ↦ absurd (other (sym (eqb-true s x f)))
              | inr n ↦ sym (no_first (same_txn t y.txn) (nat_eq s x) (has_held y.txn x rest) n) ∙ had
            ]
      ];
    } where
      no_first : (a b c : Bool) → b ≡ false → ((a && b) || c) ≡ c
      no_first true b c e = rw e refl
      no_first false b c e = refl

-- all that a transaction holds is given back
pub side_released : (ps qs : Places) (hs new : List Head) (held : List Held) (t : Txn) → IsEndTable ps hs held → IsTurned t None hs new → AreEmptied ps qs (held_by t held) [] → IsEndTable qs new (released t held)
side_released ps qs hs new held t k turned out =
    let apart : (u : Txn) → same_txn t u ≡ false → (x : ℕ) → has_number x (held_by u held) ≡ true → has_number x (held_by t held) ≡ false =
    λ u n x i. elim (cases_Bool (has_number x (held_by t held))) [
      | inl j ↦ absurd (not_same t u n (one_holder ps hs held k t u x (has_is_number t x held ∙ j) (has_is_number u x held ∙ i)))
      | inr f ↦ f
    ]
    in
    record {
      order = turned.order;
      chains = λ u. elim (cases_Bool (same_txn t u)) [
        | inl e ↦
            let own : IsChain qs t (newest_of t new) (held_by t (released t held)) =
            chain_of qs t (newest_of t new) [] (held_by t (released t held)) (sym (held_released_same t held)) (turned_own t None hs new turned)
            in
            subst (λ w. IsChain qs w (newest_of w new) (held_by w (released t held))) (same_is t u e) own
        | inr n ↦
            chain_of qs u (newest_of u new) (held_by u held) (held_by u (released t held)) (sym (held_released_other t u held n))
            (chain_at qs u (newest_of u hs) (newest_of u new) (held_by u held) (sym (turned_other t u None hs new turned n))
            (chain_kept ps qs u (newest_of u hs) (held_by u held) (λ x i. out.others x (apart u n x i)) (k.chains u)))
      ];
      holds = λ x y e. elim (cases_Bool (has_number x (held_by t held))) [
        | inl j ↦ let w : Some y ≡ None = sym e ∙ out.empty x j refl in absurd (cc)
        | inr f ↦
            let had = k.holds x y (sym (out.others x f) ∙ e) in
            elim (cases_Bool (same_txn t y.txn)) [
              | inl same ↦ absurd (true≢false (sym had ∙ ap (λ w. has_held w x held) (sym (same_is t y.txn same)) ∙ has_is_number t x held ∙ f))
              | inr n ↦ has_is_number y.txn x (released t held) ∙ ap (has_number x) (held_released_other t y.txn held n) ∙ sym (has_is_number y.txn x held) ∙ had
            ]
      ];
    }

-- ---- a chain is emptied, one place after the other

-- what is left of a chain that begins with this end
pub chain_rest : (ps : Places) (t : Txn) (s : ℕ) (ss : List ℕ) → IsChain ps t (Some s) ss → (rest : List ℕ) × (ss ≡ s ∷ rest) × IsChain ps t (Some s) (s ∷ rest)
chain_rest ps t s [] c = cc
chain_rest ps t s (x ∷ ss) c =
    let e : x ≡ s = sym (same_Some s x c.0) in
    (ss, ap (λ y. y ∷ ss) e, subst (λ y. IsChain ps t (Some s) (y ∷ ss)) e c)

pub chain_over : (ps : Places) (t : Txn) (ss : List ℕ) → IsChain ps t None ss → ss ≡ []
chain_over ps t [] c = refl
chain_over ps t (x ∷ ss) c = let e : None ≡ Some x = c.0 in absurd (cc)

-- the next of them
pub emptied_next : (old ps qs : Places) (t : Txn) (s : ℕ) (chain rest : List ℕ) → AreEmptied old ps chain (s ∷ rest) → IsChain ps t (Some s) (s ∷ rest) → qs ≡ set ps s None → AreEmptied old qs chain rest × IsChain qs t (next_of (held_at ps s)) rest
emptied_next old ps qs t s chain rest out c is =
    let beside : (u : ℕ) → u ≢ s → held_at qs u ≡ held_at ps u = λ u n. ap (λ l. held_at l u) is ∙ set_beside ps s u None n in
    let gone : held_at qs s ≡ None = ap (λ l. held_at l s) is ∙ emptied_here ps s in (
      record {
        among = λ x h. out.among x (number_later s x rest h);
        others = λ x h. beside x (λ e. true≢false (sym (out.among s (number_first s rest)) ∙ ap (λ y. has_number y chain) (sym e) ∙ h)) ∙ out.others x h;
        empty = λ x h n. elim (cases_eq x s) [
          | inl e ↦ ap (held_at qs) e ∙ gone
          | inr other ↦ beside x other ∙ out.empty x h (no_number x s rest other n)
        ];
      },
      chain_at qs t c.2.0 (next_of (held_at ps s)) rest (sym (ap next_of c.2.1)) (chain_kept ps qs t c.2.0 rest (λ x i. beside x (λ e. true≢false (sym i ∙ ap (λ y. has_number y rest) e ∙ c.1))) c.2.2),
    ) where
      no_number : (x s : ℕ) (rest : List ℕ) → x ≢ s → has_number x rest ≡ false → has_number x (s ∷ rest) ≡ false
      no_number x s rest n e =
          elim (cases_Bool (nat_eq s x)) [
            | inl f ↦ absurd (n (sym (eqb-true s x f)))
            | inr f ↦ rw (f, e) refl
          ]

-- ---- how many places are held

abbrev pub held_one : Option Holding → ℕ
held_one o = cond (is_some o) 1 0

-- a place that no holder stands at
pub none_of : (o : Option Holding) → is_some o ≡ false → o ≡ None
none_of None e = refl
none_of (Some h) e = absurd (true≢false e)

pub newest_first : (h : Held) (hs : List Held) → take 1 hs ≡ h ∷ [] → hs ≡ h ∷ drop 1 hs
newest_first h [] e = cc
newest_first h (x ∷ hs) e = let same : x ≡ h = cc in ap (λ y. y ∷ hs) same

-- what is so of a chain that is emptied, so far
abbrev pub IsUnderWay : Places → Places → Option ℕ → Option ℕ → Type 0
IsUnderWay old now newest next = (t : Txn) (chain : List ℕ) → IsChain old t newest chain → (rest : List ℕ) × AreEmptied old now chain rest × IsChain now t next rest

pub under_way_next : (old ps qs : Places) (newest next : Option ℕ) (s : ℕ) → IsUnderWay old ps newest (Some s) → qs ≡ set ps s None → next ≡ next_of (held_at ps s) → IsUnderWay old qs newest next
under_way_next old ps qs newest next s so is e t chain c =
    let w = so t chain c in
    let r = chain_rest ps t s w.0 w.2 in
    let out : AreEmptied old ps chain (s ∷ r.0) = subst (AreEmptied old ps chain) r.1 w.1 in
    let more = emptied_next old ps qs t s chain r.0 out r.2 is in
    (r.0, more.0, chain_at qs t (next_of (held_at ps s)) next r.0 (sym e) more.1)

pub under_way_over : (old now : Places) (newest : Option ℕ) (t : Txn) (chain : List ℕ) → IsUnderWay old now newest None → IsChain old t newest chain → AreEmptied old now chain []
under_way_over old now newest t chain so c =
    let w = so t chain c in
    subst (AreEmptied old now chain) (chain_over now t w.0 w.2) w.1

pub none_left : (o : Option ℕ) → ((s : ℕ) → o ≡ Some s → ⊥) → o ≡ None
none_left None n = refl
none_left (Some s) n = absurd (n s refl)

-- ---- what a chain tells of the ends of a transaction

pub chain_newest : (ps : Places) (t : Txn) (o : Option ℕ) (ss : List ℕ) → IsChain ps t o ss → o ≡ first_of ss
chain_newest ps t o [] c = c
chain_newest ps t o (s ∷ ss) c = c.0

pub chain_apart : (ps : Places) (t : Txn) (o : Option ℕ) (ss : List ℕ) → IsChain ps t o ss → AreApart ss
chain_apart ps t o [] c = tt
chain_apart ps t o (s ∷ ss) c = (c.1, chain_apart ps t c.2.0 ss c.2.2)

pub chain_behind : (ps : Places) (t : Txn) (o : Option ℕ) (front older : List ℕ) (s : ℕ) → IsChain ps t o (front ++ s ∷ older) → held_at ps s ≡ Some (record { txn = t; next = first_of older })
chain_behind ps t o [] older s c = c.2.1 ∙ ap (λ (n : Option ℕ). let h : Holding = record { txn = t; next = n } in Some h) (chain_newest ps t c.2.0 older c.2.2)
chain_behind ps t o (x ∷ front) older s c = chain_behind ps t c.2.0 front older s c.2.2

-- ---- the ends that somebody holds

held_none : (s : ℕ) (held : List Held) → ((t : Txn) → has_held t s held ≡ false) → is_held s held ≡ false
held_none s [] n = refl
held_none s (h ∷ hs) n =
    elim (cases_Bool (nat_eq h.sender s)) [
      | inl e ↦ absurd (true≢false (sym (or_left (same_txn h.txn h.txn && nat_eq h.sender s) (has_held h.txn s hs) (and_from (same_txn h.txn h.txn) (nat_eq h.sender s) (same_self h.txn) e)) ∙ n h.txn))
      | inr f ↦ rw f (held_none s hs (λ t. later (same_txn h.txn t && nat_eq h.sender s) (has_held t s hs) (n t)))
    ] where
      later : (a b : Bool) → (a || b) ≡ false → b ≡ false
      later true b e = absurd (true≢false e)
      later false b e = e

pub held_some : (t : Txn) (s : ℕ) (held : List Held) → has_held t s held ≡ true → is_held s held ≡ true
held_some t s [] e = absurd (true≢false (sym e))
held_some t s (h ∷ hs) e =
    elim (cases_Bool (same_txn h.txn t && nat_eq h.sender s)) [
      | inl b ↦ or_left (nat_eq h.sender s) (is_held s hs) (and_parts (same_txn h.txn t) (nat_eq h.sender s) b).1
      | inr n ↦ or_right (nat_eq h.sender s) (is_held s hs) (held_some t s hs (rw n at e))
    ]

pub held_is_some : (ps : Places) (hs : List Head) (held : List Held) (s : ℕ) → IsEndTable ps hs held → is_some (held_at ps s) ≡ is_held s held
held_is_some ps hs held s k = at (held_at ps s) refl where
  at : (o : Option Holding) → held_at ps s ≡ o → is_some (held_at ps s) ≡ is_held s held
  at None e = ap is_some e ∙ sym (held_none s held (not_held ps hs held k s e))
  at (Some h) e = ap is_some e ∙ sym (held_some h.txn s held (k.holds s h e))

-- what nobody holds is free, and of what somebody holds the transaction's own
pub free_none : (t : Txn) (s : ℕ) (held : List Held) → is_held s held ≡ false → is_free_for t s held ≡ true
free_none t s [] e = refl
free_none t s (h ∷ hs) e =
    elim (cases_Bool (nat_eq h.sender s)) [
      | inl f ↦ absurd (true≢false (sym (or_left (nat_eq h.sender s) (is_held s hs) f) ∙ e))
      | inr n ↦ and_from (same_txn h.txn t || not (nat_eq h.sender s)) (is_free_for t s hs) (or_right (same_txn h.txn t) (not (nat_eq h.sender s)) (ap not n)) (free_none t s hs (rw n at e))
    ]

pub free_is_own : (t : Txn) (s : ℕ) (held : List Held) → is_held s held ≡ true → is_free_for t s held ≡ true → has_held t s held ≡ true
free_is_own t s [] e f = absurd (true≢false (sym e))
free_is_own t s (h ∷ hs) e f =
    let p = and_parts (same_txn h.txn t || not (nat_eq h.sender s)) (is_free_for t s hs) f in
    elim (cases_Bool (nat_eq h.sender s)) [
      | inl a ↦ or_left (same_txn h.txn t && nat_eq h.sender s) (has_held t s hs) (and_from (same_txn h.txn t) (nat_eq h.sender s) (first (same_txn h.txn t) (nat_eq h.sender s) a p.0) a)
      | inr n ↦ or_right (same_txn h.txn t && nat_eq h.sender s) (has_held t s hs) (free_is_own t s hs (rw n at e) p.1)
    ] where
      first : (a b : Bool) → b ≡ true → (a || not b) ≡ true → a ≡ true
      first true b e g = refl
      first false b e g = absurd (true≢false (sym g ∙ ap not e))

pub own_is_free : (ps : Places) (hs : List Head) (held : List Held) (t : Txn) (s : ℕ) → IsEndTable ps hs held → has_held t s held ≡ true → is_free_for t s held ≡ true
own_is_free ps hs held t s k h =
    let a = held_there ps hs held k t s h in
    free_held ps hs held t s (record { txn = t; next = a.0 }) k a.1 ∙ same_self t

pub chain_split : (ps : Places) (hs : List Head) (held : List Held) (t : Txn) (older : List ℕ) (s : ℕ) → IsEndTable ps hs held → IsTail (held_by t held) (s ∷ older) → held_at ps s ≡ Some (record { txn = t; next = first_of older })
chain_split ps hs held t older s k tail =
    chain_behind ps t (newest_of t hs) tail.0 older s (chain_of ps t (newest_of t hs) (held_by t held) (tail.0 ++ s ∷ older) (sym tail.1) (k.chains t))
