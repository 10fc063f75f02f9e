-- What each sender has sent, and how each client was marked, once sends and marks are committed.
use Rattle.std.proofs.Common.{◌≡◌, ℕ, ◌+◌, ◌-◌, ◌^◌, ◌<◌, ◌≤◌, nat_eq, List, [], ◌∷◌, length, map, refl, sym, ◌∙◌, ap, arith, inl, inr}
use Rattle.std.specs.List.{filter_map}
use Rattle.std.proofs.lemmas.Bool.{cases_lt, cases_eq, eq-eqb, le-ltb, lt-ltb, ne_eqb}
use Rattle.std.proofs.lemmas.List.{get_or_past}
use Rattle.rq_model.specs.declared.message.Message.{Message}
use Rattle.rq_model.specs.declared.record.Deed.{Deed}
use Rattle.rq_model.specs.declared.record.Deed.TheVariants.{Append, UnlinkHead, Close, Mark}
use Rattle.rq_model.specs.Vocabulary.{client_group, mark_of, sent_for}
use Rattle.rq_model.specs.Content.{said, tag_after}
use Rattle.rq_model.specs.Commits.{op_of}
use Rattle.rq_page.specs.Sizes.{Sizes, sender_count}
use Rattle.rq_views.specs.InStore.{IsDeedOf}
use Rattle.rq_txn.specs.declared.Finished.{Finished}
use Rattle.rq_groups.specs.Sent.{SentBy, sent_count, sent_tag, with_one_more}
use Rattle.rq_groups.proofs.Sents.{length-counts, length-tags, count_same, count_other, tag_same, tag_other}
use Rattle.rq_store.specs.Sends.{group_of}
use Rattle.rq_store.specs.State.{op_done}
use Rattle.rq_engine.specs.Invariant.{AreSendsConsistent}
use Rattle.rq_engine.specs.Moves.{with_tag, with_tags}
use Rattle.rq_engine.proofs.Waits.{AreDeedsOf, sent_one, sent_more}

-- ---- places

-- a sender's group stands at the sender's own place alone
module _ (z : Sizes) (few : sender_count z ≤ 2 ^ 32) (i : ℕ) where
  sender_at : (g : ℕ) → g < sender_count z → nat_eq g (group_of z i) ≡ nat_eq g i
  sender_at g own = elim (cases_lt i (sender_count z)) [
    | inl lt ↦ rw (lt-ltb i (sender_count z) lt) refl
    | inr ge ↦ rw (le-ltb i (sender_count z) ge) (ne_eqb g (client_group (i - sender_count z)) (λ e. omega (arith, e, own, few)) ∙ sym (ne_eqb g i (λ e. omega (arith, e, own, ge))))
  ]

  -- and a client's behind the senders
  client_at : (c : ℕ) → nat_eq (client_group c) (group_of z i) ≡ nat_eq (sender_count z + c) i
  client_at c = elim (cases_lt i (sender_count z)) [
    | inl lt ↦ rw (lt-ltb i (sender_count z) lt) (ne_eqb (client_group c) i (λ e. omega (arith, e, lt, few)) ∙ sym (ne_eqb (sender_count z + c) i (λ e. omega (arith, e, lt))))
    | inr ge ↦ rw (le-ltb i (sender_count z) ge) (elim (cases_eq (sender_count z + c) i) [
      | inl e ↦ eq-eqb (client_group c) (client_group (i - sender_count z)) (omega (arith, e)) ∙ sym (eq-eqb (sender_count z + c) i e)
      | inr ne ↦ ne_eqb (client_group c) (client_group (i - sender_count z)) (λ e. ne (omega (arith, e, ge))) ∙ sym (ne_eqb (sender_count z + c) i ne)
    ])
  ]

length_one : (n : ℕ) (d : Deed) (sent : SentBy) → (length (with_tag n d sent).counts ≡ length sent.counts) × (length (with_tag n d sent).tags ≡ length sent.tags)
length_one n (Append s k tag previous body) sent = (length-counts s (sent_count sent s + 1) tag sent, length-tags s (sent_count sent s + 1) tag sent)
length_one n (UnlinkHead s k tag body) sent = (refl, refl)
length_one n (Close s) sent = (refl, refl)
length_one n (Mark c tag previous) sent = (length-counts (n + c) (sent_count sent (n + c) + 1) tag sent, length-tags (n + c) (sent_count sent (n + c) + 1) tag sent)

pub length-with_tags : (n : ℕ) (fs : List Finished) (sent : SentBy) → (length (with_tags n fs sent).counts ≡ length sent.counts) × (length (with_tags n fs sent).tags ≡ length sent.tags)
length-with_tags n [] sent = (refl, refl)
length-with_tags n (f ∷ fs) sent = let a = length-with_tags n fs (with_tag n f.deed sent) in let b = length_one n f.deed sent in (a.0 ∙ b.0, a.1 ∙ b.1)

-- one more is counted at a place, and at no other
one_more_at : (p tag i : ℕ) (sent : SentBy) → i < length sent.counts → i ≡ p → sent_count (with_one_more p tag sent) i ≡ sent_count sent i + 1
one_more_at p tag i sent m e = ap (sent_count (with_one_more p tag sent)) e ∙ count_same p (sent_count sent p + 1) tag sent (omega (arith, m, e)) ∙ (let w : sent_count sent p ≡ sent_count sent i = ap (sent_count sent) (sym e) in omega (arith, w))

module _ (z : Sizes) (few : sender_count z ≤ 2 ^ 32) (i : ℕ) where
  count_one : (d : Deed) (sent : SentBy) → IsDeedOf z d → i < length sent.counts → sent_count (with_tag (sender_count z) d sent) i ≡ sent_count sent i + sent_one (group_of z i) d
  count_one (Append s n tag previous body) sent own m = elim (cases_eq i s) [
    | inl e ↦ rw (sender_at z few i s own ∙ eq-eqb s i (sym e)) (one_more_at s tag i sent m e)
    | inr ne ↦ count_other s (sent_count sent s + 1) tag sent i ne ∙ (rw (sender_at z few i s own ∙ ne_eqb s i (λ e. ne (sym e))) (omega arith))
  ]
  count_one (UnlinkHead s n tag body) sent own m = omega arith
  count_one (Close s) sent own m = omega arith
  count_one (Mark c tag previous) sent own m = elim (cases_eq i (sender_count z + c)) [
    | inl e ↦ rw (client_at z few i c ∙ eq-eqb (sender_count z + c) i (sym e)) (one_more_at (sender_count z + c) tag i sent m e)
    | inr ne ↦ count_other (sender_count z + c) (sent_count sent (sender_count z + c) + 1) tag sent i ne ∙ (rw (client_at z few i c ∙ ne_eqb (sender_count z + c) i (λ e. ne (sym e))) (omega arith))
  ]

  -- what was sent or marked at the place is counted
  pub count-with_tags : (fs : List Finished) (sent : SentBy) → AreDeedsOf z fs → i < length sent.counts → sent_count (with_tags (sender_count z) fs sent) i ≡ sent_count sent i + length (filter_map (sent_for (group_of z i)) (map op_done fs))
  count-with_tags [] sent own m = omega arith
  count-with_tags (f ∷ fs) sent own m =
      let a = count_one f.deed sent (own f (inl refl)) m in
      let b = count-with_tags fs (with_tag (sender_count z) f.deed sent) (λ x j. own x (inr j)) (let l = (length_one (sender_count z) f.deed sent).0 in omega (arith, l, m)) in
      let c = sent_more (group_of z i) f fs in
      omega (arith, a, b, c)

-- the last of several, behind one
tag_behind : (tag : ℕ) (m : Message) (ms : List Message) → tag_after m.tag ms ≡ tag_after tag (m ∷ ms)
tag_behind tag m [] = refl
tag_behind tag m (x ∷ ms) = refl

module _ (z : Sizes) (few : sender_count z ≤ 2 ^ 32) (i : ℕ) where
  abbrev others : List Finished → List Message
  others fs = filter_map (sent_for (group_of z i)) (map op_done fs)

  last_at : (p tag : ℕ) (m : Message) (fs : List Finished) (sent : SentBy) → m.tag ≡ tag → i < length sent.tags → i ≡ p → tag_after (sent_tag (with_one_more p tag sent) i) (others fs) ≡ tag_after (sent_tag sent i) (m ∷ others fs)
  last_at p tag m fs sent is lt e =
      ap (λ t. tag_after t (others fs)) (ap (sent_tag (with_one_more p tag sent)) e ∙ tag_same p (sent_count sent p + 1) tag sent (omega (arith, lt, e)) ∙ sym is)
      ∙ tag_behind (sent_tag sent i) m (others fs)

  tag_one : (d : Deed) (fs : List Finished) (sent : SentBy) → IsDeedOf z d → i < length sent.tags
      → tag_after (sent_tag (with_tag (sender_count z) d sent) i) (others fs) ≡ tag_after (sent_tag sent i) (filter_map (sent_for (group_of z i)) (op_of (said d) ∷ map op_done fs))
  tag_one (Append s n tag previous body) fs sent own m = elim (cases_eq i s) [
    | inl e ↦ rw (sender_at z few i s own ∙ eq-eqb s i (sym e)) (last_at s tag (record { sender = s; tag = tag; body = body }) fs sent refl m e)
    | inr ne ↦ rw (sender_at z few i s own ∙ ne_eqb s i (λ e. ne (sym e))) (ap (λ t. tag_after t (others fs)) (tag_other s (sent_count sent s + 1) tag sent i ne))
  ]
  tag_one (UnlinkHead s n tag body) fs sent own m = refl
  tag_one (Close s) fs sent own m = refl
  tag_one (Mark c tag previous) fs sent own m = elim (cases_eq i (sender_count z + c)) [
    | inl e ↦ rw (client_at z few i c ∙ eq-eqb (sender_count z + c) i (sym e)) (last_at (sender_count z + c) tag (mark_of c tag) fs sent refl m e)
    | inr ne ↦ rw (client_at z few i c ∙ ne_eqb (sender_count z + c) i (λ e. ne (sym e))) (ap (λ t. tag_after t (others fs)) (tag_other (sender_count z + c) (sent_count sent (sender_count z + c) + 1) tag sent i ne))
  ]

  -- and the last one has its tag
  pub tag-with_tags : (fs : List Finished) (sent : SentBy) → AreDeedsOf z fs → i < length sent.tags → sent_tag (with_tags (sender_count z) fs sent) i ≡ tag_after (sent_tag sent i) (others fs)
  tag-with_tags [] sent own m = refl
  tag-with_tags (f ∷ fs) sent own m =
      tag-with_tags fs (with_tag (sender_count z) f.deed sent) (λ x j. own x (inr j)) (let l = (length_one (sender_count z) f.deed sent).1 in omega (arith, l, m)) ∙ tag_one f.deed fs sent (own f (inl refl)) m

-- no more than one is counted at once
one_at_place : (p tag g : ℕ) (sent : SentBy) → sent_count (with_one_more p tag sent) g ≤ sent_count sent g + 1
one_at_place p tag g sent = elim (cases_eq g p) [
  | inl e ↦ elim (cases_lt p (length sent.counts)) [
    | inl m ↦ let a = one_more_at p tag g sent (omega (arith, m, e)) e in omega (arith, a)
    | inr m ↦ let l = length-counts p (sent_count sent p + 1) tag sent in let a : sent_count (with_one_more p tag sent) g ≡ 0 = get_or_past (with_one_more p tag sent).counts g 0 (omega (arith, l, m, e)) in omega (arith, a)
  ]
  | inr ne ↦ let a = count_other p (sent_count sent p + 1) tag sent g ne in omega (arith, a)
]

one_at_most : (n : ℕ) (d : Deed) (sent : SentBy) (g : ℕ) → sent_count (with_tag n d sent) g ≤ sent_count sent g + 1
one_at_most n (Append s k tag previous body) sent g = one_at_place s tag g sent
one_at_most n (UnlinkHead s k tag body) sent g = omega arith
one_at_most n (Close s) sent g = omega arith
one_at_most n (Mark c tag previous) sent g = one_at_place (n + c) tag g sent

-- no more than were finished
few_more : (n : ℕ) (fs : List Finished) (sent : SentBy) (g : ℕ) → sent_count (with_tags n fs sent) g ≤ sent_count sent g + length fs
few_more n [] sent g = omega arith
few_more n (f ∷ fs) sent g = let a = one_at_most n f.deed sent g in let b = few_more n fs (with_tag n f.deed sent) g in omega (arith, a, b)

-- more records, and no more that open transactions may have sent or marked
pub sends_on : {z : Sizes} {sent : SentBy} {records done now left : ℕ} → AreSendsConsistent z records done sent → records + left ≤ now + done → AreSendsConsistent z now left sent
sends_on k more = record { counts = k.counts; tags = k.tags; few = λ g. (let a = k.few g in omega (arith, a, more)) }

-- what a transaction finished is committed
pub sends_more : {z : Sizes} {records done now left : ℕ} (n : ℕ) (fs : List Finished) (sent : SentBy) → AreSendsConsistent z records done sent → records + left + length fs ≤ now + done → AreSendsConsistent z now left (with_tags n fs sent)
sends_more n fs sent k more = record {
  counts = (length-with_tags n fs sent).0 ∙ k.counts;
  tags = (length-with_tags n fs sent).1 ∙ k.tags;
  few = λ g. (let a = k.few g in let b = few_more n fs sent g in omega (arith, a, b, more));
}
