-- The view of a sender is what committed transactions leave, without the receiving holder's takes, then the sending holder's sends.
use Rattle.rq_model.specs.declared.record.Deed.{Deed}
use Rattle.rq_model.specs.declared.txn.Txn.{Txn}
use Rattle.rq_model.specs.Vocabulary.{same_txn}
use Rattle.std.proofs.Common.{◌≡◌, ◌≢◌, ℕ, ◌+◌, ◌<◌, ◌⊎◌, inl, inr, List, [], ◌∷◌, length, Bool, true, false, cond, refl, sym, ap, subst, ◌∙◌}
use Rattle.std.proofs.lemmas.Bool.{cases_Bool, false≢true, true≢false}
use Rattle.rq_views.specs.Chain.{View, view_put_back}
use Rattle.rq_model.specs.declared.record.Deed.TheVariants.{Append, UnlinkHead, Close, Mark}
use Rattle.rq_model.proofs.Lists.{same_self, same_is}
use Rattle.rq_views.specs.Plans.{with_turn, view_head_unlinked}
use Rattle.rq_views.specs.Plans.Turn.{Did, Undid}
use Rattle.rq_views.specs.Legal.{Placed, rest_placed}
use Rattle.rq_views.specs.Groups.{on_sending_end, on_receiving_end, side, with_all, TellsView}
use Rattle.rq_views.proofs.Deeds.{side_sends, side_takes, put_back_commutes, head_commutes, same_marks, takes_marks, Sound, sends_sound, takes_sound, takes_commute, taken_back, told_front, total, same_total, takes_total, sends_received}

txn_not : (a b : Txn) → same_txn a b ≡ false → b ≢ a
txn_not a b n e = true≢false (sym (same_self a) ∙ ap (λ x. same_txn a x) (sym e) ∙ n)

pub not_txn : (a b : Txn) → b ≢ a → same_txn a b ≡ false
not_txn a b n = elim (cases_Bool (same_txn a b)) [ inl y ↦ absurd (n (sym (same_is a b y))) | inr k ↦ k ]

-- over any lists of open deeds
abbrev pub None_but : (Deed → Bool) → Txn → (Txn → List Placed) → Type 0
None_but f t os = (u : Txn) → u ≢ t → side f (os u) ≡ []

pub same_side : (f : Deed → Bool) (os : Txn → List Placed) (t u : Txn) → None_but f t os → None_but f u os → side f (os t) ≡ side f (os u)
same_side f os t u a b = elim (cases_Bool (same_txn t u)) [
  | inl y ↦ ap (λ x. side f (os x)) (same_is t u y)
  | inr n ↦ b t (λ e. txn_not t u n (sym e)) ∙ sym (a u (txn_not t u n))
]

-- the lists, the view and what is committed agree
pub record Held (s : ℕ) (os : Txn → List Placed) (v c : View) : Type 0 where
  pub sender : Txn
  pub sender_alone : None_but (on_sending_end s) sender os
  pub taker : Txn
  pub taker_alone : None_but (on_receiving_end s) taker os
  pub shown : v ≡ with_all (side (on_sending_end s) (os sender)) (with_all (side (on_receiving_end s) (os taker)) c)
  pub sends : (t : Txn) → Sound (side (on_sending_end s) (os t)) c
  pub takes : (t : Txn) → Sound (side (on_receiving_end s) (os t)) c

abbrev pub pushed : Txn → Placed → (Txn → List Placed) → Txn → List Placed
pushed t p os u = cond (same_txn t u) (p ∷ os u) (os u)

abbrev pub popped : Txn → (Txn → List Placed) → Txn → List Placed
popped t os u = cond (same_txn t u) (rest_placed (os u)) (os u)

push_off : (f : Deed → Bool) (t : Txn) (p : Placed) (os : Txn → List Placed) (u : Txn) → f p.deed ≡ false → side f (pushed t p os u) ≡ side f (os u)
push_off f t p os u n = elim (cases_Bool (same_txn t u)) [ inl y ↦ rw (y, n) refl | inr k ↦ rw k refl ]

push_own : (f : Deed → Bool) (t : Txn) (p : Placed) (os : Txn → List Placed) → f p.deed ≡ true → side f (pushed t p os t) ≡ p.deed ∷ side f (os t)
push_own f t p os y = rw (same_self t, y) refl

push_other : (f : Deed → Bool) (t : Txn) (p : Placed) (os : Txn → List Placed) (u : Txn) → u ≢ t → side f (pushed t p os u) ≡ side f (os u)
push_other f t p os u n = rw (not_txn t u n) refl

pub told_marks : (s : ℕ) (d : Deed) (v w : View) → on_sending_end s d ≡ true → v.last_tag ≡ w.last_tag → v.closed ≡ w.closed → total v ≡ total w → TellsView d v → TellsView d w
told_marks s (Append r n tag p b) v w y e f g h = (h.0 ∙ e, h.1 ∙ ap (λ x. x + 1) g, sym f ∙ h.2)
told_marks s (UnlinkHead r n tag b) v w y e f g h = absurd (false≢true y)
told_marks s (Close r) v w y e f g h = sym f ∙ h
told_marks s (Mark c tag p) v w y e f g h = (h.0 ∙ e, sym f ∙ h.1)

-- a deed of neither end of s
pub held_other : (s : ℕ) (os : Txn → List Placed) (v c : View) (t : Txn) (p : Placed) → on_sending_end s p.deed ≡ false → on_receiving_end s p.deed ≡ false → Held s os v c → Held s (pushed t p os) v c
held_other s os v c t p ns nt h = record {
  sender = h.sender;
  sender_alone = λ u n. push_off (on_sending_end s) t p os u ns ∙ h.sender_alone u n;
  taker = h.taker;
  taker_alone = λ u n. push_off (on_receiving_end s) t p os u nt ∙ h.taker_alone u n;
  shown = h.shown ∙ ap (λ ds. with_all ds (with_all (side (on_receiving_end s) (os h.taker)) c)) (sym (push_off (on_sending_end s) t p os h.sender ns)) ∙ ap (λ rs. with_all (side (on_sending_end s) (pushed t p os h.sender)) (with_all rs c)) (sym (push_off (on_receiving_end s) t p os h.taker nt));
  sends = λ u. subst (λ ds. Sound ds c) (sym (push_off (on_sending_end s) t p os u ns)) (h.sends u);
  takes = λ u. subst (λ ds. Sound ds c) (sym (push_off (on_receiving_end s) t p os u nt)) (h.takes u);
}

-- a deed of the sending end
pub held_sent : (s : ℕ) (os : Txn → List Placed) (v c : View) (t : Txn) (p : Placed) → on_sending_end s p.deed ≡ true → on_receiving_end s p.deed ≡ false → None_but (on_sending_end s) t os → TellsView p.deed v → Held s os v c → Held s (pushed t p os) (with_turn (Did p.deed) v) c
held_sent s os v c t p ys nt alone told h =
    let rs = side (on_receiving_end s) (os h.taker) in
    let ds = side (on_sending_end s) (os t) in
    let is : v ≡ with_all ds (with_all rs c) = h.shown ∙ ap (λ ds. with_all ds (with_all rs c)) (same_side (on_sending_end s) os h.sender t h.sender_alone alone) in
    let tm = takes_marks rs c (side_takes s (os h.taker)) in
    let m = same_marks ds (with_all rs c) c tm.0 tm.1 in
    record {
      sender = t;
      sender_alone = λ u n. push_other (on_sending_end s) t p os u n ∙ alone u n;
      taker = h.taker;
      taker_alone = λ u n. push_off (on_receiving_end s) t p os u nt ∙ h.taker_alone u n;
      shown = ap (λ x. with_turn (Did p.deed) x) is
          ∙ ap (λ ds. with_all ds (with_all rs c)) (sym (push_own (on_sending_end s) t p os ys))
          ∙ ap (λ rs. with_all (side (on_sending_end s) (pushed t p os t)) (with_all rs c)) (sym (push_off (on_receiving_end s) t p os h.taker nt));
      sends = λ u. elim (cases_Bool (same_txn t u)) [
        | inl y ↦ rw (y, ys) (subst (λ x. Sound (p.deed ∷ side (on_sending_end s) (os x)) c) (same_is t u y) (told_marks s p.deed v (with_all ds c) ys (ap (λ (x : View). x.last_tag) is ∙ m.0) (ap (λ (x : View). x.closed) is ∙ m.1) (ap total is ∙ same_total ds (with_all rs c) c (side_sends s (os t)) (takes_total rs c (side_takes s (os h.taker)) (h.takes h.taker))) told, h.sends t))
        | inr n ↦ rw n (h.sends u)
      ];
      takes = λ u. subst (λ ds. Sound ds c) (sym (push_off (on_receiving_end s) t p os u nt)) (h.takes u);
    }

-- a take
pub held_taken : (s : ℕ) (os : Txn → List Placed) (v c : View) (t : Txn) (lsn r n tag : ℕ) (body : List ℕ) → on_receiving_end s (UnlinkHead r n tag body) ≡ true → None_but (on_receiving_end s) t os → TellsView (UnlinkHead r n tag body) v → 0 < length (with_all (side (on_receiving_end s) (os t)) c).messages
    → Held s os v c → Held s (pushed t (record { lsn = lsn; deed = UnlinkHead r n tag body }) os) (view_head_unlinked v) c
held_taken s os v c t lsn r n tag body yt alone told more h =
    let p : Placed = record { lsn = lsn; deed = UnlinkHead r n tag body } in
    let rs = side (on_receiving_end s) (os t) in
    let ds = side (on_sending_end s) (os h.sender) in
    let x = with_all rs c in
    let is : v ≡ with_all ds x = h.shown ∙ ap (λ rs. with_all ds (with_all rs c)) (same_side (on_receiving_end s) os h.taker t h.taker_alone alone) in
    let here = told_front ds x tag body (side_sends s (os h.sender)) more (told.0, ap (λ (y : View). y.messages) (sym is) ∙ told.1) in
    let number : n ≡ x.received + 1 = told.2 ∙ ap (λ x. x + 1) (ap (λ (y : View). y.received) is ∙ sends_received ds x (side_sends s (os h.sender))) in
    record {
      sender = h.sender;
      sender_alone = λ u k. push_off (on_sending_end s) t p os u refl ∙ h.sender_alone u k;
      taker = t;
      taker_alone = λ u k. push_other (on_receiving_end s) t p os u k ∙ alone u k;
      shown = ap view_head_unlinked is ∙ head_commutes ds x (tag, body) here.0 (side_sends s (os h.sender)) here.1
          ∙ ap (λ ds. with_all ds (view_head_unlinked x)) (sym (push_off (on_sending_end s) t p os h.sender refl))
          ∙ ap (λ rs. with_all (side (on_sending_end s) (pushed t p os h.sender)) (with_all rs c)) (sym (push_own (on_receiving_end s) t p os yt));
      sends = λ u. subst (λ ds. Sound ds c) (sym (push_off (on_sending_end s) t p os u refl)) (h.sends u);
      takes = λ u. elim (cases_Bool (same_txn t u)) [
        | inl y ↦ rw (y, yt) (subst (λ x. Sound (UnlinkHead r n tag body ∷ side (on_receiving_end s) (os x)) c) (same_is t u y) ((here.0, here.1, number), h.takes t))
        | inr k ↦ rw k (h.takes u)
      ];
    }

not_nil : (d : Deed) (ds : List Deed) → d ∷ ds ≡ [] → ⊥
not_nil d ds e = cc

pub rest_alone : (f : Deed → Bool) (ps : List Placed) → side f ps ≡ [] → side f (rest_placed ps) ≡ []
rest_alone f [] e = refl
rest_alone f (p ∷ ps) e = elim (cases_Bool (f p.deed)) [ inl y ↦ absurd (not_nil p.deed (side f ps) (rw y at e)) | inr n ↦ rw n at e ]

rest_sound : (f : Deed → Bool) (ps : List Placed) (c : View) → Sound (side f ps) c → Sound (side f (rest_placed ps)) c
rest_sound f [] c h = tt
rest_sound f (p ∷ ps) c h = elim (cases_Bool (f p.deed)) [ inl y ↦ (rw y at h).1 | inr n ↦ rw n at h ]

pop_alone : (f : Deed → Bool) (t w : Txn) (os : Txn → List Placed) → None_but f t os → None_but f t (popped w os)
pop_alone f t w os a u n = elim (cases_Bool (same_txn w u)) [ inl y ↦ rw y (rest_alone f (os u) (a u n)) | inr k ↦ rw k (a u n) ]

pop_sound : (f : Deed → Bool) (t : Txn) (os : Txn → List Placed) (c : View) (u : Txn) → Sound (side f (os u)) c → Sound (side f (popped t os u)) c
pop_sound f t os c u h = elim (cases_Bool (same_txn t u)) [ inl y ↦ rw y (rest_sound f (os u) c h) | inr k ↦ rw k h ]

side_cons_off : (f : Deed → Bool) (p : Placed) (ps : List Placed) → f p.deed ≡ false → side f (p ∷ ps) ≡ side f ps
side_cons_off f p ps n = rw n refl

pub side_cons_own : (f : Deed → Bool) (p : Placed) (ps : List Placed) → f p.deed ≡ true → side f (p ∷ ps) ≡ p.deed ∷ side f ps
side_cons_own f p ps y = rw y refl

pop_off : (f : Deed → Bool) (t : Txn) (p : Placed) (ps : List Placed) (os : Txn → List Placed) (u : Txn) → os t ≡ p ∷ ps → f p.deed ≡ false → side f (popped t os u) ≡ side f (os u)
pop_off f t p ps os u e n = elim (cases_Bool (same_txn t u)) [
  | inl y ↦ let k : os u ≡ p ∷ ps = ap os (sym (same_is t u y)) ∙ e in rw y (ap (λ l. side f (rest_placed l)) k ∙ sym (side_cons_off f p ps n) ∙ sym (ap (side f) k))
  | inr k ↦ rw k refl
]

pop_own : (f : Deed → Bool) (t : Txn) (p : Placed) (ps : List Placed) (os : Txn → List Placed) → os t ≡ p ∷ ps → side f (popped t os t) ≡ side f ps
pop_own f t p ps os e = rw (same_self t) (ap (λ l. side f (rest_placed l)) e)

-- who has a deed of an end open holds it
pub holder_is : (f : Deed → Bool) (h t : Txn) (p : Placed) (ps : List Placed) (os : Txn → List Placed) → os t ≡ p ∷ ps → f p.deed ≡ true → None_but f h os → h ≡ t
holder_is f h t p ps os e y a = elim (cases_Bool (same_txn h t)) [
  | inl k ↦ same_is h t k
  | inr n ↦ absurd (not_nil p.deed (side f ps) (sym (side_cons_own f p ps y) ∙ sym (ap (side f) e) ∙ a t (txn_not h t n)))
]

pub pop_other : (s : ℕ) (os : Txn → List Placed) (v c : View) (t : Txn) (p : Placed) (ps : List Placed) → os t ≡ p ∷ ps → on_sending_end s p.deed ≡ false → on_receiving_end s p.deed ≡ false → Held s os v c → Held s (popped t os) v c
pop_other s os v c t p ps e ns nt h = record {
  sender = h.sender;
  sender_alone = pop_alone (on_sending_end s) h.sender t os h.sender_alone;
  taker = h.taker;
  taker_alone = pop_alone (on_receiving_end s) h.taker t os h.taker_alone;
  shown = h.shown ∙ ap (λ ds. with_all ds (with_all (side (on_receiving_end s) (os h.taker)) c)) (sym (pop_off (on_sending_end s) t p ps os h.sender e ns)) ∙ ap (λ rs. with_all (side (on_sending_end s) (popped t os h.sender)) (with_all rs c)) (sym (pop_off (on_receiving_end s) t p ps os h.taker e nt));
  sends = λ u. pop_sound (on_sending_end s) t os c u (h.sends u);
  takes = λ u. pop_sound (on_receiving_end s) t os c u (h.takes u);
}

pub pop_sent : (s : ℕ) (os : Txn → List Placed) (v c : View) (t : Txn) (p : Placed) (ps : List Placed) → os t ≡ p ∷ ps → on_sending_end s p.deed ≡ true → on_receiving_end s p.deed ≡ false → Held s os v c → Held s (popped t os) (with_turn (Undid p.deed) v) c
pop_sent s os v c t p ps e ys nt h =
    let rs = side (on_receiving_end s) (os h.taker) in
    let ds = side (on_sending_end s) ps in
    let own = holder_is (on_sending_end s) h.sender t p ps os e ys h.sender_alone in
    let open_is : side (on_sending_end s) (os t) ≡ p.deed ∷ ds = ap (side (on_sending_end s)) e ∙ side_cons_own (on_sending_end s) p ps ys in
    let is : v ≡ with_all (p.deed ∷ ds) (with_all rs c) = h.shown ∙ ap (λ u. with_all (side (on_sending_end s) (os u)) (with_all rs c)) own ∙ ap (λ ds. with_all ds (with_all rs c)) open_is in
    let told : TellsView p.deed (with_all ds c) = (subst (λ ds. Sound ds c) open_is (h.sends t)).0 in
    let tm = takes_marks rs c (side_takes s (os h.taker)) in
    let m = same_marks ds (with_all rs c) c tm.0 tm.1 in
    record {
      sender = t;
      sender_alone = pop_alone (on_sending_end s) t t os (subst (λ u. None_but (on_sending_end s) u os) own h.sender_alone);
      taker = h.taker;
      taker_alone = pop_alone (on_receiving_end s) h.taker t os h.taker_alone;
      shown = ap (λ x. with_turn (Undid p.deed) x) is ∙ taken_back p.deed (with_all ds (with_all rs c)) (told_marks s p.deed (with_all ds c) (with_all ds (with_all rs c)) ys (sym m.0) (sym m.1) (sym (same_total ds (with_all rs c) c (side_sends s ps) (takes_total rs c (side_takes s (os h.taker)) (h.takes h.taker)))) told)
          ∙ ap (λ ds. with_all ds (with_all rs c)) (sym (pop_own (on_sending_end s) t p ps os e))
          ∙ ap (λ rs. with_all (side (on_sending_end s) (popped t os t)) (with_all rs c)) (sym (pop_off (on_receiving_end s) t p ps os h.taker e nt));
      sends = λ u. pop_sound (on_sending_end s) t os c u (h.sends u);
      takes = λ u. pop_sound (on_receiving_end s) t os c u (h.takes u);
    }

pub pop_taken : (s : ℕ) (os : Txn → List Placed) (v c : View) (t : Txn) (lsn r n tag : ℕ) (body : List ℕ) (ps : List Placed) → os t ≡ record { lsn = lsn; deed = UnlinkHead r n tag body } ∷ ps → on_receiving_end s (UnlinkHead r n tag body) ≡ true
    → Held s os v c → Held s (popped t os) (view_put_back v tag body) c
pop_taken s os v c t lsn r n tag body ps e yt h =
    let p : Placed = record { lsn = lsn; deed = UnlinkHead r n tag body } in
    let rs = side (on_receiving_end s) ps in
    let ds = side (on_sending_end s) (os h.sender) in
    let own = holder_is (on_receiving_end s) h.taker t p ps os e yt h.taker_alone in
    let open_is : side (on_receiving_end s) (os t) ≡ p.deed ∷ rs = ap (side (on_receiving_end s)) e ∙ side_cons_own (on_receiving_end s) p ps yt in
    let is : v ≡ with_all ds (with_all (p.deed ∷ rs) c) = h.shown ∙ ap (λ u. with_all ds (with_all (side (on_receiving_end s) (os u)) c)) own ∙ ap (λ rs. with_all ds (with_all rs c)) open_is in
    let told : TellsView p.deed (with_all rs c) = (subst (λ ds. Sound ds c) open_is (h.takes t)).0 in
    record {
      sender = h.sender;
      sender_alone = pop_alone (on_sending_end s) h.sender t os h.sender_alone;
      taker = t;
      taker_alone = pop_alone (on_receiving_end s) t t os (subst (λ u. None_but (on_receiving_end s) u os) own h.taker_alone);
      shown = ap (λ x. view_put_back x tag body) is ∙ put_back_commutes ds (with_all (p.deed ∷ rs) c) tag body (side_sends s (os h.sender)) ∙ ap (with_all ds) (taken_back p.deed (with_all rs c) told)
          ∙ ap (λ ds. with_all ds (with_all rs c)) (sym (pop_off (on_sending_end s) t p ps os h.sender e refl))
          ∙ ap (λ rs. with_all (side (on_sending_end s) (popped t os h.sender)) (with_all rs c)) (sym (pop_own (on_receiving_end s) t p ps os e));
      sends = λ u. pop_sound (on_sending_end s) t os c u (h.sends u);
      takes = λ u. pop_sound (on_receiving_end s) t os c u (h.takes u);
    }

abbrev pub emptied : Txn → (Txn → List Placed) → Txn → List Placed
emptied t os u = cond (same_txn t u) [] (os u)

empty_alone : (f : Deed → Bool) (h t : Txn) (os : Txn → List Placed) → None_but f h os → None_but f h (emptied t os)
empty_alone f h t os a u n = elim (cases_Bool (same_txn t u)) [ inl y ↦ rw y refl | inr k ↦ rw k (a u n) ]

-- the one that ends holds the end, or has nothing of it
split : (f : Deed → Bool) (h t : Txn) (os : Txn → List Placed) → None_but f h os → ((t ≡ h) × (side f (emptied t os h) ≡ [])) ⊎ ((side f (os t) ≡ []) × (side f (emptied t os h) ≡ side f (os h)))
split f h t os a = elim (cases_Bool (same_txn t h)) [
  | inl y ↦ inl (same_is t h y, rw y refl)
  | inr n ↦ inr (a t (λ e. txn_not t h n (sym e)), rw n refl)
]

empty_sound : (f : Deed → Bool) (t : Txn) (os : Txn → List Placed) (c : View) (u : Txn) → (same_txn t u ≡ false → Sound (side f (os u)) c) → Sound (side f (emptied t os u)) c
empty_sound f t os c u h = elim (cases_Bool (same_txn t u)) [ inl y ↦ rw y tt | inr n ↦ rw n (h n) ]

pub held_committed : (s : ℕ) (os : Txn → List Placed) (v c : View) (t : Txn) → Held s os v c → Held s (emptied t os) v (with_all (side (on_sending_end s) (os t)) (with_all (side (on_receiving_end s) (os t)) c))
held_committed s os v c t h =
    let fs = on_sending_end s in
    let ft = on_receiving_end s in
    let a = split fs h.sender t os h.sender_alone in
    let b = split ft h.taker t os h.taker_alone in
    let mine = with_all (side fs (os t)) (with_all (side ft (os t)) c) in
    record {
      sender = h.sender;
      sender_alone = empty_alone fs h.sender t os h.sender_alone;
      taker = h.taker;
      taker_alone = empty_alone ft h.taker t os h.taker_alone;
      shown = h.shown ∙ elim a [
        | inl x ↦ elim b [
          | inl y ↦ rw (x.1, y.1) (ap (λ u. with_all (side fs (os u)) (with_all (side ft (os h.taker)) c)) (sym x.0) ∙ ap (λ u. with_all (side fs (os t)) (with_all (side ft (os u)) c)) (sym y.0))
          | inr y ↦ rw (x.1, y.1, y.0) (takes_commute (side ft (os h.taker)) (side fs (os h.sender)) c (side_takes s (os h.taker)) (side_sends s (os h.sender)) (h.takes h.taker) ∙ ap (λ u. with_all (side ft (os h.taker)) (with_all (side fs (os u)) c)) (sym x.0))
        ]
        | inr x ↦ elim b [
          | inl y ↦ rw (x.1, y.1, x.0) (ap (λ u. with_all (side fs (os h.sender)) (with_all (side ft (os u)) c)) (sym y.0))
          | inr y ↦ rw (x.1, y.1, x.0, y.0) refl
        ]
      ];
      sends = λ u. empty_sound fs t os mine u (λ n. elim a [
        | inl x ↦ subst (λ ds. Sound ds mine) (sym (h.sender_alone u (λ e. txn_not t u n (e ∙ sym x.0)))) tt
        | inr x ↦ let m = takes_marks (side ft (os t)) c (side_takes s (os t)) in
            subst (λ ds. Sound (side fs (os u)) (with_all ds (with_all (side ft (os t)) c))) (sym x.0) (sends_sound (side fs (os u)) c (with_all (side ft (os t)) c) (sym m.0) (sym m.1) (sym (takes_total (side ft (os t)) c (side_takes s (os t)) (h.takes t))) (side_sends s (os u)) (h.sends u))
      ]);
      takes = λ u. empty_sound ft t os mine u (λ n. elim b [
        | inl y ↦ subst (λ ds. Sound ds mine) (sym (h.taker_alone u (λ e. txn_not t u n (e ∙ sym y.0)))) tt
        | inr y ↦ subst (λ rs. Sound (side ft (os u)) (with_all (side fs (os t)) (with_all rs c))) (sym y.0) (takes_sound (side ft (os u)) (side fs (os t)) c (side_takes s (os u)) (side_sends s (os t)) (h.takes u))
      ]);
    }
