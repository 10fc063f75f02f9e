-- The slots are the whole operations' slots, written over by the operations under way on pages of their own.
use Rattle.rq_model.specs.declared.txn.Sub.{Sub}
use Rattle.rq_model.specs.declared.txn.Txn.{Txn}
use Rattle.rq_model.specs.Vocabulary.{same_txn}
use Rattle.std.proofs.Common.{◌≡◌, ◌≢◌, ℕ, ◌⊎◌, ◌==◌, ◌&&◌, inl, inr, List, [], ◌∷◌, true, false, cond, if◌then◌else◌, refl, sym, ap, subst, ◌∙◌}
use Rattle.std.proofs.lemmas.Bool.{cases_Bool, cases_eq, cond-true, cond-false, eq-eqb, eqb-true, and_parts, and_from, or_cases, or_parts, or_left, or_right, false≢true, true≢false}
use Rattle.rq_page.specs.Slots.{Slot}
use Rattle.rq_views.specs.Log.{Slots, put, Write, applied, HasBefores, Untouched, same_op, Act, LogState, rest_of, writes_after, stands_after, after_act, IsNewest, MayWrite, MayAct}
use Rattle.rq_views.specs.Log.Act.{Wrote, Unwrote, Done, Voided, Nothing}
use Rattle.rq_views.proofs.Chains.{no_eq}

pub same_is : (a b : Sub) → same_op a b ≡ true → a ≡ b
same_is a b h =
    let p = and_parts (same_txn a.txn b.txn) (a.number == b.number) h in
    let t = and_parts (a.txn.incarnation == b.txn.incarnation) (a.txn.count == b.txn.count) p.0 in
    let i : a.txn.incarnation ≡ b.txn.incarnation = eqb-true _ _ t.0 in
    let c : a.txn.count ≡ b.txn.count = eqb-true _ _ t.1 in
    let n : a.number ≡ b.number = eqb-true _ _ p.1 in
    ap (λ (x : ℕ). let t : Txn = record { incarnation = x; count = a.txn.count } in let o : Sub = record { txn = t; number = a.number } in o) i
    ∙ ap (λ (x : ℕ). let t : Txn = record { incarnation = b.txn.incarnation; count = x } in let o : Sub = record { txn = t; number = a.number } in o) c
    ∙ ap (λ (x : ℕ). let o : Sub = record { txn = b.txn; number = x } in o) n

pub same_self : (a : Sub) → same_op a a ≡ true
same_self a = and_from (same_txn a.txn a.txn) (a.number == a.number) (and_from (a.txn.incarnation == a.txn.incarnation) (a.txn.count == a.txn.count) (eq-eqb _ _ refl) (eq-eqb _ _ refl)) (eq-eqb _ _ refl)

pub put_at : (q : Slots) (at : ℕ) (x : Slot) (a : ℕ) → a ≡ at → put q at x a ≡ x
put_at q at x a e = cond-true (a == at) x (q a) (eq-eqb a at e)

pub put_off : (q : Slots) (at : ℕ) (x : Slot) (a : ℕ) → a ≢ at → put q at x a ≡ q a
put_off q at x a ne = cond-false (a == at) x (q a) (no_eq a at ne)

pub put_agree : (q r : Slots) (at : ℕ) (x : Slot) (a : ℕ) → q a ≡ r a → put q at x a ≡ put r at x a
put_agree q r at x a e = ap (λ y. if a == at then x else y) e

pub applied_agree : (ws : List Write) (q r : Slots) (a : ℕ) → q a ≡ r a → applied ws q a ≡ applied ws r a
applied_agree [] q r a e = e
applied_agree (w ∷ ws) q r a e = put_agree (applied ws q) (applied ws r) w.at w.after a (applied_agree ws q r a e)

pub untouched : (ws : List Write) (q : Slots) (a : ℕ) → Untouched a ws → applied ws q a ≡ q a
untouched [] q a h = refl
untouched (w ∷ ws) q a h = put_off (applied ws q) w.at w.after a h.0 ∙ untouched ws q a h.1

pub fits_agree : (ws : List Write) (q r : Slots) → ((a : ℕ) → Untouched a ws ⊎ (r a ≡ q a)) → HasBefores ws q → HasBefores ws r
fits_agree [] q r h f = tt
fits_agree (w ∷ ws) q r h f = (
  elim (h w.at) [ inl u ↦ absurd (u.0 refl) | inr e ↦ f.0 ∙ applied_agree ws q r w.at (sym e) ],
  fits_agree ws q r (λ a. elim (h a) [ inl u ↦ inl u.1 | inr e ↦ inr e ]) f.1,
)

-- what a slot holds, by who stands on its page
abbrev pub Holds : (ℕ → ℕ) → LogState → ℕ → Type 0
Holds page z a = ((o : Sub) × (z.stands o (page a) ≡ true) × (z.slots a ≡ applied (z.writes o) z.quiet a)) ⊎ (((o : Sub) → z.stands o (page a) ≡ false) × (z.slots a ≡ z.quiet a))

pub record Good (page : ℕ → ℕ) (z : LogState) : Type 0 where
  pub each : (a : ℕ) → Holds page z a
  pub alone : (p : ℕ) (o u : Sub) → z.stands o p ≡ true → z.stands u p ≡ true → o ≡ u
  pub inside : (o : Sub) (a : ℕ) → z.stands o (page a) ≡ false → Untouched a (z.writes o)
  pub fits : (o : Sub) → HasBefores (z.writes o) z.quiet

-- who writes next finds his own writes over the quiet slots
pub own : (page : ℕ → ℕ) (z : LogState) (o : Sub) (a : ℕ) → Good page z → ((u : Sub) → same_op o u ≡ false → z.stands u (page a) ≡ false) → z.slots a ≡ applied (z.writes o) z.quiet a
own page z o a g h = elim (g.each a) [
  | inl k ↦ elim (cases_Bool (same_op o k.0)) [
    | inl y ↦ k.2 ∙ ap (λ u. applied (z.writes u) z.quiet a) (sym (same_is o k.0 y))
    | inr n ↦ absurd (true≢false (sym k.1 ∙ h k.0 n))
  ]
  | inr k ↦ k.1 ∙ sym (untouched (z.writes o) z.quiet a (g.inside o a (k.0 o)))
]

module _ (page : ℕ → ℕ) (z : LogState) (g : Good page z) where
  wrote_each : (o : Sub) (w : Write) → MayWrite page z o w → (a : ℕ) → Holds page (after_act page (Wrote o w) z) a
  wrote_each o w may a = elim (cases_eq (page w.at) (page a)) [
    | inl e ↦ inl (
      o,
      or_left (same_op o o && (page w.at == page a)) (z.stands o (page a)) (and_from (same_op o o) (page w.at == page a) (same_self o) (eq-eqb _ _ e)),
      let k = own page z o a g (λ u n. ap (z.stands u) (sym e) ∙ may.alone u n) in
          put_agree z.slots (applied (z.writes o) z.quiet) w.at w.after a k ∙ ap (λ ws. applied ws z.quiet a) (sym (cond-true (same_op o o) (w ∷ z.writes o) (z.writes o) (same_self o))),
    )
    | inr ne ↦ let off : a ≢ w.at = λ e. ne (ap page (sym e)) in elim (g.each a) [
      | inl k ↦ inl (
        k.0,
        or_right (same_op o k.0 && (page w.at == page a)) (z.stands k.0 (page a)) k.1,
        put_off z.slots w.at w.after a off ∙ k.2 ∙ elim (cases_Bool (same_op o k.0)) [
          | inl y ↦ sym (put_off (applied (z.writes k.0) z.quiet) w.at w.after a off) ∙ ap (λ ws. applied ws z.quiet a) (sym (cond-true (same_op o k.0) (w ∷ z.writes k.0) (z.writes k.0) y))
          | inr n ↦ ap (λ ws. applied ws z.quiet a) (sym (cond-false (same_op o k.0) (w ∷ z.writes k.0) (z.writes k.0) n))
        ],
      )
      | inr k ↦ inr (
        λ u. elim (cases_Bool (same_op o u)) [ inl y ↦ rw (y, no_eq _ _ ne) (k.0 u) | inr n ↦ rw n (k.0 u) ],
        put_off z.slots w.at w.after a off ∙ k.1,
      )
    ]
  ]

  wrote_owner : (o : Sub) (w : Write) → MayWrite page z o w → (u : Sub) → stands_after page (Wrote o w) u (page w.at) (z.stands u (page w.at)) ≡ true → o ≡ u
  wrote_owner o w may u h = elim (cases_Bool (same_op o u)) [
    | inl y ↦ same_is o u y
    | inr n ↦ absurd (true≢false (sym (rw n at h) ∙ may.alone u n))
  ]

  wrote_other : (o : Sub) (w : Write) (p : ℕ) → page w.at ≢ p → (u : Sub) → stands_after page (Wrote o w) u p (z.stands u p) ≡ true → z.stands u p ≡ true
  wrote_other o w p ne u h = elim (or_cases (same_op o u && (page w.at == p)) (z.stands u p) h) [
    | inl y ↦ absurd (ne (eqb-true _ _ (and_parts (same_op o u) (page w.at == p) y).1))
    | inr y ↦ y
  ]

  wrote_inside : (o : Sub) (w : Write) → MayWrite page z o w → (u : Sub) (a : ℕ) → stands_after page (Wrote o w) u (page a) (z.stands u (page a)) ≡ false → Untouched a (writes_after (Wrote o w) u (z.writes u))
  wrote_inside o w may u a h =
      let p = or_parts (same_op o u && (page w.at == page a)) (z.stands u (page a)) h in
      elim (cases_Bool (same_op o u)) [
        | inl y ↦ rw y (λ e. true≢false (sym (and_from (same_op o u) (page w.at == page a) y (eq-eqb _ _ (ap page (sym e)))) ∙ p.0), g.inside u a p.1)
        | inr n ↦ rw n (g.inside u a p.1)
      ]

  wrote_fits : (o : Sub) (w : Write) → MayWrite page z o w → (u : Sub) → HasBefores (writes_after (Wrote o w) u (z.writes u)) z.quiet
  wrote_fits o w may u = elim (cases_Bool (same_op o u)) [
    | inl y ↦ rw y (may.before ∙ own page z o w.at g may.alone ∙ ap (λ v. applied (z.writes v) z.quiet w.at) (same_is o u y), g.fits u)
    | inr n ↦ rw n (g.fits u)
  ]

  pub good_wrote : (o : Sub) (w : Write) → MayWrite page z o w → Good page (after_act page (Wrote o w) z)
  good_wrote o w may = record {
    each = wrote_each o w may;
    alone = λ p u v hu hv. elim (cases_eq (page w.at) p) [
      | inl e ↦ let at : (x : Sub) → stands_after page (Wrote o w) x p (z.stands x p) ≡ true → o ≡ x = (λ x hx. wrote_owner o w may x (ap (λ k. stands_after page (Wrote o w) x k (z.stands x k)) e ∙ hx)) in sym (at u hu) ∙ at v hv
      | inr ne ↦ g.alone p u v (wrote_other o w p ne u hu) (wrote_other o w p ne v hv)
    ];
    inside = wrote_inside o w may;
    fits = wrote_fits o w may;
  }

  -- o stands on no page where another stands
  apart : (o u : Sub) → same_op o u ≡ false → (p : ℕ) → z.stands u p ≡ true → z.stands o p ≡ false
  apart o u n p h = elim (cases_Bool (z.stands o p)) [
    | inl y ↦ absurd (true≢false (sym (same_self o) ∙ ap (λ v. same_op o v) (g.alone p o u y h) ∙ n))
    | inr k ↦ k
  ]

  -- where a write not undone is, its operation stands
  stood : (o : Sub) (a : ℕ) → (Untouched a (z.writes o) → ⊥) → z.stands o (page a) ≡ true
  stood o a h = elim (cases_Bool (z.stands o (page a))) [ inl y ↦ y | inr n ↦ absurd (h (g.inside o a n)) ]

  newest_at : (ws : List Write) (at : ℕ) (x : Slot) → IsNewest ws at x → Untouched at ws → ⊥
  newest_at [] at x h u = h
  newest_at (w ∷ ws) at x h u = u.0 (sym h.0)

  newest_off : (ws : List Write) (at : ℕ) (x : Slot) (q : Slots) (a : ℕ) → IsNewest ws at x → a ≢ at → applied ws q a ≡ applied (rest_of ws) q a
  newest_off [] at x q a h ne = refl
  newest_off (w ∷ ws) at x q a h ne = put_off (applied ws q) w.at w.after a (λ e. ne (e ∙ h.0))

  newest_before : (ws : List Write) (at : ℕ) (x : Slot) (q : Slots) → IsNewest ws at x → HasBefores ws q → x ≡ applied (rest_of ws) q at
  newest_before [] at x q h f = absurd h
  newest_before (w ∷ ws) at x q h f = sym h.1 ∙ f.0 ∙ ap (applied ws q) h.0

  rest_untouched : (ws : List Write) (a : ℕ) → Untouched a ws → Untouched a (rest_of ws)
  rest_untouched [] a h = tt
  rest_untouched (w ∷ ws) a h = h.1

  rest_fits : (ws : List Write) (q : Slots) → HasBefores ws q → HasBefores (rest_of ws) q
  rest_fits [] q h = tt
  rest_fits (w ∷ ws) q h = h.1

  unwrote_each : (o : Sub) (at : ℕ) (x : Slot) → IsNewest (z.writes o) at x → (a : ℕ) → Holds page (after_act page (Unwrote o at x) z) a
  unwrote_each o at x may a = elim (g.each a) [
    | inl k ↦ inl (
      k.0,
      k.1,
      elim (cases_Bool (same_op o k.0)) [
        | inl y ↦
            let oe = same_is o k.0 y in
            let here : applied (rest_of (z.writes o)) z.quiet a ≡ applied (writes_after (Unwrote o at x) k.0 (z.writes k.0)) z.quiet a = ap (λ v. applied (rest_of (z.writes v)) z.quiet a) oe ∙ ap (λ ws. applied ws z.quiet a) (sym (cond-true (same_op o k.0) (rest_of (z.writes k.0)) (z.writes k.0) y)) in
            elim (cases_eq a at) [
              | inl e ↦ put_at z.slots at x a e ∙ newest_before (z.writes o) at x z.quiet may (g.fits o) ∙ ap (applied (rest_of (z.writes o)) z.quiet) (sym e) ∙ here
              | inr ne ↦ put_off z.slots at x a ne ∙ k.2 ∙ ap (λ v. applied (z.writes v) z.quiet a) (sym oe) ∙ newest_off (z.writes o) at x z.quiet a may ne ∙ here
            ]
        | inr n ↦
            let off : a ≢ at = λ e. true≢false (sym (stood o at (newest_at (z.writes o) at x may)) ∙ ap (λ b. z.stands o (page b)) (sym e) ∙ apart o k.0 n (page a) k.1) in
            put_off z.slots at x a off ∙ k.2 ∙ ap (λ ws. applied ws z.quiet a) (sym (cond-false (same_op o k.0) (rest_of (z.writes k.0)) (z.writes k.0) n))
      ],
    )
    | inr k ↦ inr (
      k.0,
      let off : a ≢ at = λ e. true≢false (sym (stood o at (newest_at (z.writes o) at x may)) ∙ ap (λ b. z.stands o (page b)) (sym e) ∙ k.0 o) in
          put_off z.slots at x a off ∙ k.1,
    )
  ]

  pub good_unwrote : (o : Sub) (at : ℕ) (x : Slot) → IsNewest (z.writes o) at x → Good page (after_act page (Unwrote o at x) z)
  good_unwrote o at x may = record {
    each = unwrote_each o at x may;
    alone = g.alone;
    inside = λ u a h. elim (cases_Bool (same_op o u)) [
      | inl y ↦ rw y (rest_untouched (z.writes u) a (g.inside u a h))
      | inr n ↦ rw n (g.inside u a h)
    ];
    fits = λ u. elim (cases_Bool (same_op o u)) [
      | inl y ↦ rw y (rest_fits (z.writes u) z.quiet (g.fits u))
      | inr n ↦ rw n (g.fits u)
    ];
  }

  done_each : (o : Sub) (a : ℕ) → Holds page (after_act page (Done o) z) a
  done_each o a =
      let new = applied (z.writes o) z.quiet in
      elim (g.each a) [
        | inl k ↦ elim (cases_Bool (same_op o k.0)) [
          | inl y ↦ inr (
            λ u. elim (cases_Bool (same_op o u)) [
              | inl yu ↦ cond-true (same_op o u) false (z.stands u (page a)) yu
              | inr nu ↦ cond-false (same_op o u) false (z.stands u (page a)) nu ∙ elim (cases_Bool (z.stands u (page a))) [
                | inl s ↦ absurd (true≢false (sym k.1 ∙ ap (λ v. z.stands v (page a)) (sym (same_is o k.0 y)) ∙ apart o u nu (page a) s))
                | inr s ↦ s
              ]
            ],
            k.2 ∙ ap (λ v. applied (z.writes v) z.quiet a) (sym (same_is o k.0 y)),
          )
          | inr n ↦ inl (
            k.0,
            cond-false (same_op o k.0) false (z.stands k.0 (page a)) n ∙ k.1,
            k.2
                ∙ applied_agree (z.writes k.0) z.quiet new a (sym (untouched (z.writes o) z.quiet a (g.inside o a (apart o k.0 n (page a) k.1))))
                ∙ ap (λ ws. applied ws new a) (sym (cond-false (same_op o k.0) [] (z.writes k.0) n)),
          )
        ]
        | inr k ↦ inr (
          λ u. elim (cases_Bool (same_op o u)) [
            | inl yu ↦ cond-true (same_op o u) false (z.stands u (page a)) yu
            | inr nu ↦ cond-false (same_op o u) false (z.stands u (page a)) nu ∙ k.0 u
          ],
          k.1 ∙ sym (untouched (z.writes o) z.quiet a (g.inside o a (k.0 o))),
        )
      ]

  ended_stands : (o u : Sub) (p : ℕ) → cond (same_op o u) false (z.stands u p) ≡ true → z.stands u p ≡ true
  ended_stands o u p h = elim (cases_Bool (same_op o u)) [ inl y ↦ absurd (false≢true (rw y at h)) | inr n ↦ rw n at h ]

  pub good_done : (o : Sub) → Good page (after_act page (Done o) z)
  good_done o = record {
    each = done_each o;
    alone = λ p u v hu hv. g.alone p u v (ended_stands o u p hu) (ended_stands o v p hv);
    inside = λ u a h. elim (cases_Bool (same_op o u)) [ inl y ↦ rw y tt | inr n ↦ rw n (g.inside u a (rw n at h)) ];
    fits = λ u. elim (cases_Bool (same_op o u)) [
      | inl y ↦ rw y tt
      | inr n ↦ rw n (fits_agree (z.writes u) z.quiet (applied (z.writes o) z.quiet)
          (λ a. elim (cases_Bool (z.stands u (page a))) [
            | inl s ↦ inr (untouched (z.writes o) z.quiet a (g.inside o a (apart o u n (page a) s)))
            | inr s ↦ inl (g.inside u a s)
          ])
          (g.fits u))
    ];
  }

  pub good_voided : (o : Sub) → z.writes o ≡ [] → Good page (after_act page (Voided o) z)
  good_voided o e =
      let P : Slots → Type 0 = λ q. Good page (record { slots = z.slots; quiet = q; writes = λ u. writes_after (Voided o) u (z.writes u); stands = λ u p. stands_after page (Voided o) u p (z.stands u p) }) in
      subst P (ap (λ ws. applied ws z.quiet) e) (good_done o)

  pub good_after : (x : Act) → MayAct page z x → Good page (after_act page x z)
  good_after (Wrote o w) may = good_wrote o w may
  good_after (Unwrote o at x) may = good_unwrote o at x may
  good_after (Done o) may = good_done o
  good_after (Voided o) may = good_voided o may
  good_after Nothing may = g

pub good_start : (page : ℕ → ℕ) (f : Slots) → Good page (record { slots = f; quiet = f; writes = λ o. []; stands = λ o p. false })
good_start page f = record {
  each = λ a. inr (λ o. refl, refl);
  alone = λ p o u h k. absurd (false≢true h);
  inside = λ o a h. tt;
  fits = λ o. tt;
}
