-- What is left of a directory slot where what a transaction sent and took is left out.
use Rattle.std.proofs.Common.{◌≡◌, ◌⊎◌, ℕ, ◌+◌, ◌-◌, ◌≤◌, List, [], ◌∷◌, ◌++◌, length, map, take, drop, refl, sym, ◌∙◌, ◌||◌, ap, subst, cond, Bool, true, false, nat_eq, arith, inl, inr, Some, None}
use Rattle.std.specs.List.{filter_map}
use Rattle.std.proofs.lemmas.Bool.{cases_Bool, eqb-true, false≢true}
use Rattle.std.proofs.lemmas.List.{append-nil, append_assoc}
use Rattle.rq_model.specs.declared.message.Message.{Message}
use Rattle.rq_model.specs.declared.record.Deed.{Deed}
use Rattle.rq_model.specs.declared.record.Deed.TheVariants.{Append, UnlinkHead, Close, Mark}
use Rattle.rq_model.specs.Vocabulary.{client_group, mark_of, sent_for, taken_from}
use Rattle.rq_model.specs.Content.{said, tag_after, closed, closed_one}
use Rattle.rq_model.specs.Commits.{op_of}
use Rattle.rq_model.proofs.Ends.{no_last}
use Rattle.rq_model.proofs.Lists.{or_swap}
use Rattle.rq_views.specs.Chain.{View}
use Rattle.rq_views.specs.Committed.{message_of}
use Rattle.rq_views.specs.Plans.{with_turn}
use Rattle.rq_views.specs.Plans.Turn.{Did}
use Rattle.rq_views.specs.Legal.{Placed}
use Rattle.rq_views.specs.Groups.{on_sending_end, on_receiving_end, side, with_all, TellsView}
use Rattle.rq_views.proofs.Committed.{say}
use Rattle.rq_views.proofs.Deeds.{Sound}
use Rattle.rq_txn.specs.declared.Finished.{Finished}
use Rattle.rq_store.specs.State.{op_done}
use Rattle.rq_store.specs.Rows.{placed, placed_one}
use Rattle.rq_store.proofs.Placed.{placed_first}
use Rattle.rq_content.specs.Read.{Before, without_deed, without_send, without_take, without_all, or_else}

-- a close is left out
abbrev pub without_close : Before → Before
without_close b = record b { closed = false }

-- the deed does nothing for g
record NotFor (g : ℕ) (d : Deed) : Type 0 where
  unsent : sent_for g (op_of (said d)) ≡ None
  untaken : taken_from g (op_of (said d)) ≡ None
  same : (b : Before) → without_deed g d b ≡ b
  off : on_sending_end g d ≡ false
  free : on_receiving_end g d ≡ false
  still : closed_one g (said d) ≡ false

-- it sends for g, behind this tag
record SendFor (g : ℕ) (d : Deed) : Type 0 where
  message : Message
  tag : ℕ
  some : sent_for g (op_of (said d)) ≡ Some message
  untaken : taken_from g (op_of (said d)) ≡ None
  less : (b : Before) → without_deed g d b ≡ without_send tag b
  on : on_sending_end g d ≡ true
  free : on_receiving_end g d ≡ false
  told : (v : View) → TellsView d v → tag ≡ v.last_tag
  not_closed : (v : View) → TellsView d v → v.closed ≡ false
  still : closed_one g (said d) ≡ false

-- it takes this message from g
record TakeFor (g : ℕ) (d : Deed) : Type 0 where
  tag : ℕ
  body : List ℕ
  unsent : sent_for g (op_of (said d)) ≡ None
  some : taken_from g (op_of (said d)) ≡ Some (record { sender = g; tag = tag; body = body })
  less : (b : Before) → without_deed g d b ≡ without_take (record { sender = g; tag = tag; body = body }) b
  off : on_sending_end g d ≡ false
  on : on_receiving_end g d ≡ true
  told : (v : View) → TellsView d v → (rest : List (ℕ × List ℕ)) × (v.messages ≡ (tag, body) ∷ rest)
  next : (v : View) → (with_turn (Did d) v).messages ≡ drop 1 v.messages
  still : closed_one g (said d) ≡ false

-- it closes g
record CloseFor (g : ℕ) (d : Deed) : Type 0 where
  unsent : sent_for g (op_of (said d)) ≡ None
  untaken : taken_from g (op_of (said d)) ≡ None
  less : (b : Before) → without_deed g d b ≡ without_close b
  on : on_sending_end g d ≡ true
  free : on_receiving_end g d ≡ false
  ends : closed_one g (said d) ≡ true
  shuts : (v : View) → (with_turn (Did d) v).last_tag ≡ v.last_tag
  not_closed : (v : View) → TellsView d v → v.closed ≡ false

cases_deed : (g : ℕ) (d : Deed) → NotFor g d ⊎ (SendFor g d ⊎ (TakeFor g d ⊎ CloseFor g d))
cases_deed g (Append r n tag previous body) = elim (cases_Bool (nat_eq r g)) [
  | inl y ↦ inr (inl (record { message = record { sender = r; tag = tag; body = body }; tag = previous; some = rw y refl; untaken = refl; less = λ b. rw y refl; on = y; free = refl; told = λ v h. h.0; not_closed = λ v h. h.2; still = refl }))
  | inr k ↦ inl (record { unsent = rw k refl; untaken = refl; same = λ b. rw k refl; off = k; free = refl; still = refl })
]
cases_deed g (UnlinkHead r n tag body) = elim (cases_Bool (nat_eq r g)) [
  | inl y ↦ inr (inr (inl (record {
    tag = tag;
    body = body;
    unsent = refl;
    some = rw y (ap (λ (s : ℕ). Some (record { sender = s; tag = tag; body = body })) (eqb-true r g y));
    less = λ b. rw y refl;
    off = refl;
    on = y;
    told = λ v h. (h.0, h.1);
    next = λ v. refl;
    still = refl;
  })))
  | inr k ↦ inl (record { unsent = refl; untaken = rw k refl; same = λ b. rw k refl; off = refl; free = k; still = refl })
]
cases_deed g (Close r) = elim (cases_Bool (nat_eq r g)) [
  | inl y ↦ inr (inr (inr (record { unsent = refl; untaken = refl; less = λ b. rw y refl; on = y; free = refl; ends = y; shuts = λ v. refl; not_closed = λ v h. h })))
  | inr k ↦ inl (record { unsent = refl; untaken = refl; same = λ b. rw k refl; off = k; free = refl; still = k })
]
cases_deed g (Mark c tag previous) = elim (cases_Bool (nat_eq (client_group c) g)) [
  | inl y ↦ inr (inl (record { message = mark_of c tag; tag = previous; some = rw y refl; untaken = refl; less = λ b. rw y refl; on = y; free = refl; told = λ v h. h.0; not_closed = λ v h. h.1; still = refl }))
  | inr k ↦ inl (record { unsent = rw k refl; untaken = refl; same = λ b. rw k refl; off = k; free = refl; still = refl })
]

-- what was sent for g, and what was taken from it
abbrev pub own : ℕ → List Finished → List Message
own g fs = filter_map (sent_for g) (map op_done fs)

abbrev pub own_taken : ℕ → List Finished → List Message
own_taken g fs = filter_map (taken_from g) (map op_done fs)

own_none : (g : ℕ) (f : Finished) (fs : List Finished) → sent_for g (op_of (said f.deed)) ≡ None → own g (f ∷ fs) ≡ own g fs
own_none g f fs e = rw e refl

own_some : (g : ℕ) (f : Finished) (fs : List Finished) (m : Message) → sent_for g (op_of (said f.deed)) ≡ Some m → own g (f ∷ fs) ≡ m ∷ own g fs
own_some g f fs m e = rw e refl

taken_none : (g : ℕ) (f : Finished) (fs : List Finished) → taken_from g (op_of (said f.deed)) ≡ None → own_taken g (f ∷ fs) ≡ own_taken g fs
taken_none g f fs e = rw e refl

taken_some : (g : ℕ) (f : Finished) (fs : List Finished) (m : Message) → taken_from g (op_of (said f.deed)) ≡ Some m → own_taken g (f ∷ fs) ≡ m ∷ own_taken g fs
taken_some g f fs m e = rw e refl

side_join : (p : Deed → Bool) (xs ys : List Placed) → side p (xs ++ ys) ≡ side p xs ++ side p ys
side_join p [] ys = refl
side_join p (x ∷ xs) ys = elim (cases_Bool (p x.deed)) [ inl y ↦ rw y (ap (λ l. x.deed ∷ l) (side_join p xs ys)) | inr n ↦ rw n (side_join p xs ys) ]

side_first : (p : Deed → Bool) (f : Finished) (fs : List Finished) → side p (placed (f ∷ fs)) ≡ side p (placed fs) ++ side p (placed_one f ∷ [])
side_first p f fs = ap (side p) (placed_first f fs) ∙ side_join p (placed fs) (placed_one f ∷ [])

side_off : (p : Deed → Bool) (f : Finished) (fs : List Finished) → p f.deed ≡ false → side p (placed (f ∷ fs)) ≡ side p (placed fs)
side_off p f fs e = side_first p f fs ∙ (rw e (append-nil (side p (placed fs))))

side_on : (p : Deed → Bool) (f : Finished) (fs : List Finished) → p f.deed ≡ true → side p (placed (f ∷ fs)) ≡ side p (placed fs) ++ f.deed ∷ []
side_on p f fs e = side_first p f fs ∙ (rw e refl)

-- what sends change is the same
pub record SameSends (a b : Before) : Type 0 where
  pub sent : a.sent ≡ b.sent
  pub previous : a.previous ≡ b.previous
  pub closed : a.closed ≡ b.closed

pub sends_same : (a : Before) → SameSends a a
sends_same a = record { sent = refl; previous = refl; closed = refl }

pub sends_through : (a b c : Before) → SameSends a b → SameSends b c → SameSends a c
sends_through a b c h k = record { sent = h.sent ∙ k.sent; previous = h.previous ∙ k.previous; closed = h.closed ∙ k.closed }

sends_are : (a b c d : Before) → a ≡ c → b ≡ d → SameSends c d → SameSends a b
sends_are a b c d e f h = subst (λ (x : Before). SameSends x b) (sym e) (subst (λ (y : Before). SameSends c y) (sym f) h)

-- what is left out is the same from what is the same
pub respects : (g : ℕ) (fs : List Finished) (a b : Before) → SameSends a b → SameSends (without_all g fs a) (without_all g fs b)
respects g [] a b s = s
respects g (f ∷ fs) a b s = respects g fs (without_deed g f.deed a) (without_deed g f.deed b) (elim (cases_deed g f.deed) [
  | inl k ↦ sends_are _ _ a b (k.same a) (k.same b) s
  | inr l ↦ elim l [
    | inl k ↦ sends_are _ _ (without_send k.tag a) (without_send k.tag b) (k.less a) (k.less b) (record { sent = ap (λ n. n - 1) s.sent; previous = ap (λ o. Some (or_else o k.tag)) s.previous; closed = s.closed })
    | inr w ↦ elim w [
      | inl k ↦ let m : Message = record { sender = g; tag = k.tag; body = k.body } in sends_are _ _ (without_take m a) (without_take m b) (k.less a) (k.less b) (record { sent = s.sent; previous = s.previous; closed = s.closed })
      | inr k ↦ sends_are _ _ (without_close a) (without_close b) (k.less a) (k.less b) (record { sent = s.sent; previous = s.previous; closed = refl })
    ]
  ]
])

-- where nothing was sent for g, nothing of its sends is left out
pub quiet_sends : (g : ℕ) (fs : List Finished) (b : Before) → side (on_sending_end g) (placed fs) ≡ [] → SameSends (without_all g fs b) b
quiet_sends g [] b e = sends_same b
quiet_sends g (f ∷ fs) b e = elim (cases_deed g f.deed) [
  | inl k ↦ sends_are _ _ (without_all g fs b) b (ap (without_all g fs) (k.same b)) refl (quiet_sends g fs b (sym (side_off (on_sending_end g) f fs k.off) ∙ e))
  | inr l ↦ elim l [
    | inl k ↦ absurd (no_last (side (on_sending_end g) (placed fs)) f.deed (sym (side_on (on_sending_end g) f fs k.on) ∙ e))
    | inr w ↦ elim w [
      | inl k ↦
          let m : Message = record { sender = g; tag = k.tag; body = k.body } in
          let i = quiet_sends g fs (without_take m b) (sym (side_off (on_sending_end g) f fs k.off) ∙ e) in
          sends_are _ _ (without_all g fs (without_take m b)) b (ap (without_all g fs) (k.less b)) refl (record { sent = i.sent; previous = i.previous; closed = i.closed })
      | inr k ↦ absurd (no_last (side (on_sending_end g) (placed fs)) f.deed (sym (side_on (on_sending_end g) f fs k.on) ∙ e))
    ]
  ]
]

-- some of these close g
abbrev pub closes : ℕ → List Finished → Bool
closes g [] = false
closes g (f ∷ fs) = closed_one g (said f.deed) || closes g fs

closes_none : (g : ℕ) (f : Finished) (fs : List Finished) → closed_one g (said f.deed) ≡ false → closes g (f ∷ fs) ≡ closes g fs
closes_none g f fs e = rw e refl

closes_some : (g : ℕ) (f : Finished) (fs : List Finished) → closed_one g (said f.deed) ≡ true → closes g (f ∷ fs) ≡ true
closes_some g f fs e = rw e refl

shut_already : (c : Bool) → cond c false false ≡ false
shut_already true = refl
shut_already false = refl

-- what is left where these are left out
pub record Left (g : ℕ) (fs : List Finished) (b a : Before) : Type 0 where
  pub sent : a.sent ≡ b.sent - length (own g fs)
  pub closed : a.closed ≡ cond (closes g fs) false b.closed
  pub taken : a.taken ≡ b.taken ++ own_taken g fs

pub own_left : (g : ℕ) (fs : List Finished) (b : Before) → Left g fs b (without_all g fs b)
own_left g [] b = record { sent = omega arith; closed = refl; taken = sym (append-nil b.taken) }
own_left g (f ∷ fs) b = elim (cases_deed g f.deed) [
  | inl k ↦
      let i = own_left g fs b in
      let a : without_all g fs (without_deed g f.deed b) ≡ without_all g fs b = ap (without_all g fs) (k.same b) in
      let n : length (own g (f ∷ fs)) ≡ length (own g fs) = ap length (own_none g f fs k.unsent) in record {
        sent = ap (λ (x : Before). x.sent) a ∙ i.sent ∙ ap (λ k. b.sent - k) (sym n);
        closed = ap (λ (x : Before). x.closed) a ∙ i.closed ∙ ap (λ c. cond c false b.closed) (sym (closes_none g f fs k.still));
        taken = ap (λ (x : Before). x.taken) a ∙ i.taken ∙ ap (λ l. b.taken ++ l) (sym (taken_none g f fs k.untaken));
      }
  | inr l ↦ elim l [
    | inl k ↦
        let i = own_left g fs (without_send k.tag b) in
        let a : without_all g fs (without_deed g f.deed b) ≡ without_all g fs (without_send k.tag b) = ap (without_all g fs) (k.less b) in
        let n : length (own g (f ∷ fs)) ≡ length (own g fs) + 1 = ap length (own_some g f fs k.message k.some) ∙ (omega arith) in
        let m : b.sent - 1 - length (own g fs) ≡ b.sent - length (own g (f ∷ fs)) = omega (arith, n) in record {
          sent = ap (λ (x : Before). x.sent) a ∙ i.sent ∙ m;
          closed = ap (λ (x : Before). x.closed) a ∙ i.closed ∙ ap (λ c. cond c false b.closed) (sym (closes_none g f fs k.still));
          taken = ap (λ (x : Before). x.taken) a ∙ i.taken ∙ ap (λ l. b.taken ++ l) (sym (taken_none g f fs k.untaken));
        }
    | inr w ↦ elim w [
      | inl k ↦
          let m : Message = record { sender = g; tag = k.tag; body = k.body } in
          let i = own_left g fs (without_take m b) in
          let a : without_all g fs (without_deed g f.deed b) ≡ without_all g fs (without_take m b) = ap (without_all g fs) (k.less b) in
          let n : length (own g (f ∷ fs)) ≡ length (own g fs) = ap length (own_none g f fs k.unsent) in record {
            sent = ap (λ (x : Before). x.sent) a ∙ i.sent ∙ ap (λ k. b.sent - k) (sym n);
            closed = ap (λ (x : Before). x.closed) a ∙ i.closed ∙ ap (λ c. cond c false b.closed) (sym (closes_none g f fs k.still));
            taken = ap (λ (x : Before). x.taken) a ∙ i.taken ∙ append_assoc b.taken (m ∷ []) (own_taken g fs) ∙ ap (λ l. b.taken ++ l) (sym (taken_some g f fs m k.some));
          }
      | inr k ↦
          let i = own_left g fs (without_close b) in
          let a : without_all g fs (without_deed g f.deed b) ≡ without_all g fs (without_close b) = ap (without_all g fs) (k.less b) in
          let n : length (own g (f ∷ fs)) ≡ length (own g fs) = ap length (own_none g f fs k.unsent) in record {
            sent = ap (λ (x : Before). x.sent) a ∙ i.sent ∙ ap (λ k. b.sent - k) (sym n);
            closed = ap (λ (x : Before). x.closed) a ∙ i.closed ∙ shut_already (closes g fs) ∙ ap (λ c. cond c false b.closed) (sym (closes_some g f fs k.ends));
            taken = ap (λ (x : Before). x.taken) a ∙ i.taken ∙ ap (λ l. b.taken ++ l) (sym (taken_none g f fs k.untaken));
          }
    ]
  ]
]

-- where nothing was taken from g, nothing of it is put back
pub quiet_takes : (g : ℕ) (fs : List Finished) (b : Before) → side (on_receiving_end g) (placed fs) ≡ [] → (without_all g fs b).taken ≡ b.taken
quiet_takes g fs b e = (own_left g fs b).taken ∙ ap (λ l. b.taken ++ l) (none fs e) ∙ append-nil b.taken where
  none : (fs : List Finished) → side (on_receiving_end g) (placed fs) ≡ [] → own_taken g fs ≡ []
  none [] e = refl
  none (f ∷ fs) e = elim (cases_deed g f.deed) [
    | inl k ↦ taken_none g f fs k.untaken ∙ none fs (sym (side_off (on_receiving_end g) f fs k.free) ∙ e)
    | inr l ↦ elim l [
      | inl k ↦ taken_none g f fs k.untaken ∙ none fs (sym (side_off (on_receiving_end g) f fs k.free) ∙ e)
      | inr w ↦ elim w [
        | inl k ↦ absurd (no_last (side (on_receiving_end g) (placed fs)) f.deed (sym (side_on (on_receiving_end g) f fs k.on) ∙ e))
        | inr k ↦ taken_none g f fs k.untaken ∙ none fs (sym (side_off (on_receiving_end g) f fs k.free) ∙ e)
      ]
    ]
  ]

kept_tag : (g : ℕ) (fs : List Finished) (b : Before) (p : ℕ) → b.previous ≡ Some p → (without_all g fs b).previous ≡ Some p
kept_tag g [] b p e = e
kept_tag g (f ∷ fs) b p e = elim (cases_deed g f.deed) [
  | inl k ↦ ap (λ x. (without_all g fs x).previous) (k.same b) ∙ kept_tag g fs b p e
  | inr l ↦ elim l [
    | inl k ↦ ap (λ x. (without_all g fs x).previous) (k.less b) ∙ kept_tag g fs (without_send k.tag b) p (ap (λ o. Some (or_else o k.tag)) e)
    | inr w ↦ elim w [
      | inl k ↦ ap (λ x. (without_all g fs x).previous) (k.less b) ∙ kept_tag g fs (without_take (record { sender = g; tag = k.tag; body = k.body }) b) p e
      | inr k ↦ ap (λ x. (without_all g fs x).previous) (k.less b) ∙ kept_tag g fs (without_close b) p e
    ]
  ]
]

sound_last : (ds : List Deed) (d : Deed) (v : View) → Sound (ds ++ d ∷ []) v → TellsView d v
sound_last [] d v h = h.0
sound_last (x ∷ ds) d v h = sound_last ds d v h.1

with_last : (ds : List Deed) (d : Deed) (v : View) → with_all (ds ++ d ∷ []) v ≡ with_all ds (with_turn (Did d) v)
with_last [] d v = refl
with_last (x ∷ ds) d v = ap (with_turn (Did x)) (with_last ds d v)

-- what came first told the view, and the others that which it left
sound_first : (ds : List Deed) (d : Deed) (v : View) → Sound (ds ++ d ∷ []) v → Sound ds (with_turn (Did d) v)
sound_first [] d v h = tt
sound_first (x ∷ ds) d v h = (subst (TellsView x) (with_last ds d v) h.0, sound_first ds d v h.1)

-- the first send tells the tag that stood there before
pub first_tag : (g : ℕ) (fs : List Finished) (b : Before) (v : View) → b.previous ≡ None → Sound (side (on_sending_end g) (placed fs)) v → or_else (without_all g fs b).previous (tag_after v.last_tag (own g fs)) ≡ v.last_tag
first_tag g [] b v e k = ap (λ o. or_else o v.last_tag) e
first_tag g (f ∷ fs) b v e k = elim (cases_deed g f.deed) [
  | inl n ↦
      ap (λ x. or_else (without_all g fs x).previous (tag_after v.last_tag (own g (f ∷ fs)))) (n.same b)
      ∙ ap (λ l. or_else (without_all g fs b).previous (tag_after v.last_tag l)) (own_none g f fs n.unsent)
      ∙ first_tag g fs b v e (subst (λ ds. Sound ds v) (side_off (on_sending_end g) f fs n.off) k)
  | inr l ↦ elim l [
    | inl s ↦
        let last : TellsView f.deed v = sound_last (side (on_sending_end g) (placed fs)) f.deed v (subst (λ ds. Sound ds v) (side_on (on_sending_end g) f fs s.on) k) in
        let kept : (without_all g fs (without_send s.tag b)).previous ≡ Some s.tag = kept_tag g fs (without_send s.tag b) s.tag (ap (λ o. Some (or_else o s.tag)) e) in
        ap (λ x. or_else (without_all g fs x).previous (tag_after v.last_tag (own g (f ∷ fs)))) (s.less b)
        ∙ ap (λ o. or_else o (tag_after v.last_tag (own g (f ∷ fs)))) kept
        ∙ s.told v last
    | inr w ↦ elim w [
      | inl n ↦
          let c = without_take (record { sender = g; tag = n.tag; body = n.body }) b in
          ap (λ x. or_else (without_all g fs x).previous (tag_after v.last_tag (own g (f ∷ fs)))) (n.less b)
          ∙ ap (λ l. or_else (without_all g fs c).previous (tag_after v.last_tag l)) (own_none g f fs n.unsent)
          ∙ first_tag g fs c v e (subst (λ ds. Sound ds v) (side_off (on_sending_end g) f fs n.off) k)
      | inr n ↦
          ap (λ x. or_else (without_all g fs x).previous (tag_after v.last_tag (own g (f ∷ fs)))) (n.less b)
          ∙ ap (λ l. or_else (without_all g fs (without_close b)).previous (tag_after v.last_tag l)) (own_none g f fs n.unsent)
          ∙ subst (λ (t : ℕ). or_else (without_all g fs (without_close b)).previous (tag_after t (own g fs)) ≡ t) (n.shuts v)
          (first_tag g fs (without_close b) (with_turn (Did f.deed) v) e (sound_first (side (on_sending_end g) (placed fs)) f.deed v (subst (λ ds. Sound ds v) (side_on (on_sending_end g) f fs n.on) k)))
    ]
  ]
]

-- what was taken are the first messages of the view
pub record AreFirst (g : ℕ) (taken : List Message) (messages : List (ℕ × List ℕ)) : Type 0 where
  pub within : length taken ≤ length messages
  pub are : map (message_of g) (take (length taken) messages) ≡ taken

pub takes_first : (g : ℕ) (fs : List Finished) (v : View) → Sound (side (on_receiving_end g) (placed fs)) v → AreFirst g (own_taken g fs) v.messages
takes_first g [] v k = record { within = omega arith; are = refl }
takes_first g (f ∷ fs) v k = elim (cases_deed g f.deed) [
  | inl n ↦ subst (λ l. AreFirst g l v.messages) (sym (taken_none g f fs n.untaken)) (takes_first g fs v (subst (λ ds. Sound ds v) (side_off (on_receiving_end g) f fs n.free) k))
  | inr l ↦ elim l [
    | inl n ↦ subst (λ l. AreFirst g l v.messages) (sym (taken_none g f fs n.untaken)) (takes_first g fs v (subst (λ ds. Sound ds v) (side_off (on_receiving_end g) f fs n.free) k))
    | inr w ↦ elim w [
      | inr n ↦ subst (λ l. AreFirst g l v.messages) (sym (taken_none g f fs n.untaken)) (takes_first g fs v (subst (λ ds. Sound ds v) (side_off (on_receiving_end g) f fs n.free) k))
      | inl n ↦
          let m : Message = record { sender = g; tag = n.tag; body = n.body } in
          let k2 = subst (λ ds. Sound ds v) (side_on (on_receiving_end g) f fs n.on) k in
          let here = n.told v (sound_last (side (on_receiving_end g) (placed fs)) f.deed v k2) in
          let i = takes_first g fs (with_turn (Did f.deed) v) (sound_first (side (on_receiving_end g) (placed fs)) f.deed v k2) in
          let rest : (with_turn (Did f.deed) v).messages ≡ here.0 = n.next v ∙ ap (λ (l : List (ℕ × List ℕ)). drop 1 l) here.1 in
          let j = subst (AreFirst g (own_taken g fs)) rest i in
          subst (λ l. AreFirst g l v.messages) (sym (taken_some g f fs m n.some)) (subst (AreFirst g (m ∷ own_taken g fs)) (sym here.1) (record { within = (let w = j.within in omega (arith, w)); are = ap (λ l. m ∷ l) j.are }))
    ]
  ]
]

-- who closed found it open
pub closed_before : (g : ℕ) (fs : List Finished) (v : View) → closes g fs ≡ true → Sound (side (on_sending_end g) (placed fs)) v → v.closed ≡ false
closed_before g [] v e k = absurd (false≢true e)
closed_before g (f ∷ fs) v e k = elim (cases_deed g f.deed) [
  | inl n ↦ closed_before g fs v (sym (closes_none g f fs n.still) ∙ e) (subst (λ ds. Sound ds v) (side_off (on_sending_end g) f fs n.off) k)
  | inr l ↦ elim l [
    | inl n ↦ n.not_closed v (sound_last (side (on_sending_end g) (placed fs)) f.deed v (subst (λ ds. Sound ds v) (side_on (on_sending_end g) f fs n.on) k))
    | inr w ↦ elim w [
      | inl n ↦ closed_before g fs v (sym (closes_none g f fs n.still) ∙ e) (subst (λ ds. Sound ds v) (side_off (on_sending_end g) f fs n.off) k)
      | inr n ↦ n.not_closed v (sound_last (side (on_sending_end g) (placed fs)) f.deed v (subst (λ ds. Sound ds v) (side_on (on_sending_end g) f fs n.on) k))
    ]
  ]
]

closed_join : (g : ℕ) (ps : List Placed) (p : Placed) → closed g (say (ps ++ p ∷ [])) ≡ (closed_one g (said p.deed) || closed g (say ps))
closed_join g [] p = refl
closed_join g (q ∷ ps) p = ap (λ b. closed_one g (said q.deed) || b) (closed_join g ps p) ∙ or_swap (closed_one g (said q.deed)) (closed_one g (said p.deed)) (closed g (say ps))

-- what these deeds say is closed where one of them closes
pub closes_is : (g : ℕ) (fs : List Finished) → closed g (say (placed fs)) ≡ closes g fs
closes_is g [] = refl
closes_is g (f ∷ fs) = ap (λ ps. closed g (say ps)) (placed_first f fs) ∙ closed_join g (placed fs) (placed_one f) ∙ ap (λ b. closed_one g (said f.deed) || b) (closes_is g fs)
