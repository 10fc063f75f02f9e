-- What waits once sends are committed, and once a message is taken.
use Rattle.std.proofs.Common.{◌≡◌, ℕ, ◌+◌, ◌-◌, ◌<◌, ◌≤◌, List, [], ◌∷◌, length, map, refl, sym, ◌∙◌, ap, arith, inl, inr}
use Rattle.std.specs.List.{filter_map}
use Rattle.std.proofs.lemmas.Bool.{cases_lt, cases_eq, eq-eqb, ne_eqb}
use Rattle.std.proofs.lemmas.List.{get_or_past, length-append}
use Rattle.std.proofs.lemmas.List.Elements.{filter_map-append}
use Rattle.rq_model.specs.declared.record.Deed.{Deed}
use Rattle.rq_model.specs.declared.record.Deed.TheVariants.{Append, UnlinkHead, Close, Mark}
use Rattle.rq_model.specs.Vocabulary.{In, client_group, sent_for}
use Rattle.rq_model.specs.Content.{said}
use Rattle.rq_model.specs.Commits.{op_of}
use Rattle.rq_page.specs.Sizes.{Sizes, sender_count}
use Rattle.rq_txn.specs.declared.Finished.{Finished}
use Rattle.rq_groups.specs.Waiting.{waits, more_waiting, fewer_waiting}
use Rattle.rq_groups.proofs.Waits.{length-more_waiting, length-fewer_waiting, waits-more_waiting_same, waits-more_waiting_other, waits-fewer_waiting_same, waits-fewer_waiting_other}
use Rattle.rq_store.specs.State.{op_done}
use Rattle.rq_store.specs.Steps.{took}
use Rattle.rq_views.specs.Claims.{takes_of}
use Rattle.rq_views.specs.InStore.{IsDeedOf}
use Rattle.rq_views.specs.Plans.{deed_sender}
use Rattle.rq_engine.specs.Moves.{with_sent, with_sends, with_taken, without_taken}

-- how many messages the deed sends for g
abbrev pub sent_one : ℕ → Deed → ℕ
sent_one g d = length (filter_map (sent_for g) (op_of (said d) ∷ []))

-- the deeds are of senders or clients of the store
abbrev pub AreDeedsOf : Sizes → List Finished → Type 0
AreDeedsOf z fs = (f : Finished) → In f fs → IsDeedOf z f.deed

length-with_sent : (d : Deed) (ws : List ℕ) → length (with_sent d ws) ≡ length ws
length-with_sent (Append s n tag previous body) ws = length-more_waiting s 1 ws
length-with_sent (UnlinkHead s n tag body) ws = refl
length-with_sent (Close s) ws = refl
length-with_sent (Mark c tag previous) ws = refl

pub length-with_sends : (fs : List Finished) (ws : List ℕ) → length (with_sends fs ws) ≡ length ws
length-with_sends [] ws = refl
length-with_sends (f ∷ fs) ws = length-with_sends fs (with_sent f.deed ws) ∙ length-with_sent f.deed ws

pub length-without_taken : (d : Deed) (ws : List ℕ) → length (without_taken d ws) ≡ length ws
length-without_taken (Append s n tag previous body) ws = refl
length-without_taken (UnlinkHead s n tag body) ws = length-fewer_waiting s ws
length-without_taken (Close s) ws = refl
length-without_taken (Mark c tag previous) ws = refl

waits-with_sent : (z : Sizes) (d : Deed) (ws : List ℕ) (g : ℕ) → IsDeedOf z d → g < sender_count z → g < length ws → waits (with_sent d ws) g ≡ waits ws g + sent_one g d
waits-with_sent z (Append s n tag previous body) ws g own below m = elim (cases_eq g s) [
  | inl e ↦ ap (waits (more_waiting s 1 ws)) e ∙ waits-more_waiting_same s 1 ws (omega (arith, m, e)) ∙ (rw (eq-eqb s g (sym e)) (let w : waits ws s ≡ waits ws g = ap (waits ws) (sym e) in omega (arith, w)))
  | inr ne ↦ waits-more_waiting_other s 1 ws g ne ∙ (rw (ne_eqb s g (λ e. ne (sym e))) (omega arith))
]
waits-with_sent z (UnlinkHead s n tag body) ws g own below m = omega arith
waits-with_sent z (Close s) ws g own below m = omega arith
waits-with_sent z (Mark c tag previous) ws g own below m = rw (ne_eqb (client_group c) g (λ same. let few = own.1 in omega (arith, same, few, below))) (omega arith)

pub sent_more : (g : ℕ) (f : Finished) (fs : List Finished) → length (filter_map (sent_for g) (map op_done (f ∷ fs))) ≡ sent_one g f.deed + length (filter_map (sent_for g) (map op_done fs))
sent_more g f fs = ap length (filter_map-append (sent_for g) (op_done f ∷ []) (map op_done fs)) ∙ length-append (filter_map (sent_for g) (op_done f ∷ [])) (filter_map (sent_for g) (map op_done fs))

-- what was sent for a sender of the store waits
pub waits-with_sends : (z : Sizes) (fs : List Finished) (ws : List ℕ) (g : ℕ) → AreDeedsOf z fs → g < sender_count z → g < length ws → waits (with_sends fs ws) g ≡ waits ws g + length (filter_map (sent_for g) (map op_done fs))
waits-with_sends z [] ws g own below m = omega arith
waits-with_sends z (f ∷ fs) ws g own below m =
    let a = waits-with_sent z f.deed ws g (own f (inl refl)) below m in
    let b = waits-with_sends z fs (with_sent f.deed ws) g (λ x i. own x (inr i)) below (let l = length-with_sent f.deed ws in omega (arith, l, m)) in
    let c = sent_more g f fs in
    omega (arith, a, b, c)

sent_at_most : (d : Deed) (ws : List ℕ) (g : ℕ) → waits (with_sent d ws) g ≤ waits ws g + 1
sent_at_most (Append s n tag previous body) ws g = elim (cases_eq g s) [
  | inl e ↦ elim (cases_lt s (length ws)) [
    | inl m ↦ let a = waits-more_waiting_same s 1 ws m in let b : waits (more_waiting s 1 ws) g ≡ waits (more_waiting s 1 ws) s = ap (waits (more_waiting s 1 ws)) e in let c : waits ws g ≡ waits ws s = ap (waits ws) e in omega (arith, a, b, c)
    | inr m ↦ let l = length-more_waiting s 1 ws in let a : waits (more_waiting s 1 ws) g ≡ 0 = get_or_past (more_waiting s 1 ws) g 0 (omega (arith, l, m, e)) in omega (arith, a)
  ]
  | inr ne ↦ let a = waits-more_waiting_other s 1 ws g ne in omega (arith, a)
]
sent_at_most (UnlinkHead s n tag body) ws g = omega arith
sent_at_most (Close s) ws g = omega arith
sent_at_most (Mark c tag previous) ws g = omega arith

-- no more than were finished
pub few_sends : (fs : List Finished) (ws : List ℕ) (g : ℕ) → waits (with_sends fs ws) g ≤ waits ws g + length fs
few_sends [] ws g = omega arith
few_sends (f ∷ fs) ws g = let a = sent_at_most f.deed ws g in let b = few_sends fs (with_sent f.deed ws) g in omega (arith, a, b)

-- what was taken waits no more
pub waits-without_taken : (d : Deed) (ws : List ℕ) (g : ℕ) → waits (without_taken d ws) g ≡ waits ws g - took g d
waits-without_taken (Append s n tag previous body) ws g = omega arith
waits-without_taken (UnlinkHead s n tag body) ws g = elim (cases_eq g s) [
  | inl e ↦
      let w : waits ws s ≡ waits ws g = ap (waits ws) (sym e) in
      let v : waits (fewer_waiting s ws) g ≡ waits (fewer_waiting s ws) s = ap (waits (fewer_waiting s ws)) e in
      rw (eq-eqb s g (sym e)) (elim (cases_lt s (length ws)) [
        | inl m ↦ let a = waits-fewer_waiting_same s ws m in omega (arith, a, w, v)
        | inr m ↦
            let l = length-fewer_waiting s ws in
            let a : waits (fewer_waiting s ws) s ≡ 0 = get_or_past (fewer_waiting s ws) s 0 (omega (arith, l, m)) in
            let b : waits ws s ≡ 0 = get_or_past ws s 0 m in
            omega (arith, a, b, w, v)
      ])
  | inr ne ↦ waits-fewer_waiting_other s ws g ne ∙ (rw (ne_eqb s g (λ e. ne (sym e))) (omega arith))
]
waits-without_taken (Close s) ws g = omega arith
waits-without_taken (Mark c tag previous) ws g = omega arith

pub few_taken : (d : Deed) (ws : List ℕ) (g : ℕ) → waits (without_taken d ws) g ≤ waits ws g
few_taken d ws g = let a = waits-without_taken d ws g in omega (arith, a)

-- what is put back waits again
pub length-with_taken : (d : Deed) (ws : List ℕ) → length (with_taken d ws) ≡ length ws
length-with_taken (Append s n tag previous body) ws = refl
length-with_taken (UnlinkHead s n tag body) ws = length-more_waiting s 1 ws
length-with_taken (Close s) ws = refl
length-with_taken (Mark c tag previous) ws = refl

pub waits-with_taken : (d : Deed) (ws : List ℕ) (g : ℕ) → (takes_of d ≡ 1 → deed_sender d < length ws) → waits (with_taken d ws) g ≡ waits ws g + took g d
waits-with_taken (Append s n tag previous body) ws g m = omega arith
waits-with_taken (UnlinkHead s n tag body) ws g m = elim (cases_eq g s) [
  | inl e ↦ ap (waits (more_waiting s 1 ws)) e ∙ waits-more_waiting_same s 1 ws (m refl) ∙ (rw (eq-eqb s g (sym e)) (let w : waits ws s ≡ waits ws g = ap (waits ws) (sym e) in omega (arith, w)))
  | inr ne ↦ waits-more_waiting_other s 1 ws g ne ∙ (rw (ne_eqb s g (λ e. ne (sym e))) (omega arith))
]
waits-with_taken (Close s) ws g m = omega arith
waits-with_taken (Mark c tag previous) ws g m = omega arith

pub more_taken : (d : Deed) (ws : List ℕ) (g : ℕ) → waits (with_taken d ws) g ≤ waits ws g + 1
more_taken (Append s n tag previous body) ws g = omega arith
more_taken (UnlinkHead s n tag body) ws g = sent_at_most (Append s 0 0 0 []) ws g
more_taken (Close s) ws g = omega arith
more_taken (Mark c tag previous) ws g = omega arith

-- what takes a message is of a sender of the store
pub takes_below : (z : Sizes) (d : Deed) → IsDeedOf z d → takes_of d ≡ 1 → deed_sender d < sender_count z
takes_below z (Append s n tag previous body) h one = absurd (omega (arith, one))
takes_below z (UnlinkHead s n tag body) h one = h
takes_below z (Close s) h one = absurd (omega (arith, one))
takes_below z (Mark c tag previous) h one = absurd (omega (arith, one))
