-- What every legal entry keeps of the ledger.
use Rattle.std.proofs.Common.{◌≡◌, ℕ, zero, suc, ◌≤◌, List, [], ◌∷◌, ◌++◌, length, take, drop, refl, sym, ◌∙◌, ap, subst, true, false, not, Some, ◌⊎◌, inl, inr, ◌≢◌, arith}
use Rattle.std.specs.List.{filter_map}
use Rattle.std.proofs.lemmas.List.Concat.{flat_map-append}
use Rattle.std.proofs.lemmas.List.{append-nil}
use Rattle.std.proofs.lemmas.Bool.{cases_Bool, true≢false}
use Rattle.std.proofs.lemmas.Option.{same_Some}
use Rattle.rq_model.specs.declared.txn.Txn.{Txn}
use Rattle.rq_model.specs.Vocabulary.{IsPrefix, In, same_txn, taken_from, sent_for, has_number}
use Rattle.rq_model.specs.History.Job.{Taking}
use Rattle.rq_model.specs.Ledger.{Open, Done, sent_in, taken_in, rest_in, found, change, change_one, without, own_takes}
use Rattle.rq_model.proofs.Lists.{prefix_nil, prefix_longer, prefix_join, prefix_rest_more, In-map, In-filter, same_is, same_self, not_same, take_one_more, take_twice}

-- a number that was given out
pub record IsOld (i b : ℕ) (t : Txn) : Type 0 where
  pub not_later : t.incarnation ≤ i
  pub not_more : t.incarnation ≡ i → t.count ≤ b

-- one that was given out in this incarnation
pub record IsCurrent (i b : ℕ) (t : Txn) : Type 0 where
  pub of_incarnation : t.incarnation ≡ i
  pub counted : t.count ≤ b

pub current_old : (i b : ℕ) (t : Txn) → IsCurrent i b t → IsOld i b t
current_old i b t h = record { not_later = (let e = h.of_incarnation in omega (arith, e)); not_more = λ _. h.counted }

pub record Good (c : List Done) (os : List Open) (i b : ℕ) : Type 0 where
  pub along : (k s : ℕ) → IsPrefix (taken_in (take k c) s) (sent_in (take k c) s)
  pub now : (s : ℕ) → IsPrefix (taken_in c s) (sent_in c s)
  pub own : (o : Open) (s : ℕ) → In o os → IsPrefix (own_takes s o) (rest_in c s)
  pub held : (o : Open) (s : ℕ) → In o os → has_number s o.receiving ≡ false → own_takes s o ≡ []
  pub under : (o : Open) (s : ℕ) → In o os → o.under ≡ Some (Taking s) → has_number s o.receiving ≡ true
  pub one : (o p : Open) (s : ℕ) → In o os → In p os → has_number s o.receiving ≡ true → has_number s p.receiving ≡ true → o.txn ≡ p.txn
  pub unique : (o p : Open) → In o os → In p os → o.txn ≡ p.txn → o ≡ p
  pub old : (o : Open) → In o os → IsCurrent i b o.txn

-- what is found stands there, under that number
pub found_in : (t : Txn) (os : List Open) (o : Open) → found t os ≡ Some o → In o os × (o.txn ≡ t)
found_in t [] o e = cc
found_in t (p ∷ os) o e =
    elim (cases_Bool (same_txn p.txn t)) [
      | inl y ↦ let q = same_Some p o (rw y at e) in (inl (sym q), ap (λ (x : Open). x.txn) (sym q) ∙ same_is p.txn t y)
      | inr n ↦ let g = found_in t os o (rw n at e) in (inr g.0, g.1)
    ]

-- after a change of t's entry each entry is the changed one, or was there before and is another's
pub changed : (t : Txn) (f : Open → Open) (os : List Open) (o q : Open) → found t os ≡ Some o → ((p r : Open) → In p os → In r os → p.txn ≡ r.txn → p ≡ r) → In q (change t f os) → (q ≡ f o) ⊎ (In q os × (q.txn ≢ t))
changed t f os o q e unique i =
    let m = In-map (change_one t f) os q i in
    let at = found_in t os o e in
    elim (cases_Bool (same_txn m.0.txn t)) [
      | inl y ↦ inl (let w : q ≡ f m.0 = rw y at m.2 in w ∙ ap f (unique m.0 o m.1 at.0 (same_is m.0.txn t y ∙ sym at.1)))
      | inr n ↦ inr (let w : q ≡ m.0 = rw n at m.2 in (subst (λ x. In x os) (sym w) m.1, λ k. not_same m.0.txn t n (ap (λ (x : Open). x.txn) (sym w) ∙ k)))
    ]

-- what a change of one entry has to keep
pub record Changes (c : List Done) (os : List Open) (o p : Open) : Type 0 where
  pub txn : p.txn ≡ o.txn
  pub own : (s : ℕ) → IsPrefix (own_takes s p) (rest_in c s)
  pub held : (s : ℕ) → has_number s p.receiving ≡ false → own_takes s p ≡ []
  pub under : (s : ℕ) → p.under ≡ Some (Taking s) → has_number s p.receiving ≡ true
  pub one : (s : ℕ) (q : Open) → In q os → has_number s p.receiving ≡ true → has_number s q.receiving ≡ true → q.txn ≡ o.txn

pub Good-change : (c : List Done) (os : List Open) (i b : ℕ) (t : Txn) (f : Open → Open) (o : Open) → Good c os i b → found t os ≡ Some o → Changes c os o (f o) → Good c (change t f os) i b
Good-change c os i b t f o g e h =
    let at = found_in t os o e in
    let cases : (q : Open) → In q (change t f os) → (q ≡ f o) ⊎ (In q os × (q.txn ≢ t)) = λ q j. changed t f os o q e g.unique j in
    record {
      along = g.along;
      now = g.now;
      own = λ q s j. elim (cases q j) [ inl w ↦ subst (λ (x : Open). IsPrefix (own_takes s x) (rest_in c s)) (sym w) (h.own s) | inr w ↦ g.own q s w.0 ];
      held = λ q s j k. elim (cases q j) [ inl w ↦ ap (own_takes s) w ∙ h.held s (ap (λ (x : Open). has_number s x.receiving) (sym w) ∙ k) | inr w ↦ g.held q s w.0 k ];
      under = λ q s j k. elim (cases q j) [ inl w ↦ ap (λ (x : Open). has_number s x.receiving) w ∙ h.under s (ap (λ (x : Open). x.under) (sym w) ∙ k) | inr w ↦ g.under q s w.0 k ];
      one = λ q r s j k x y. elim (cases q j) [
        | inl w ↦ elim (cases r k) [
          | inl v ↦ ap (λ (x : Open). x.txn) (w ∙ sym v)
          | inr v ↦ ap (λ (x : Open). x.txn) w ∙ h.txn ∙ sym (h.one s r v.0 (ap (λ (x : Open). has_number s x.receiving) (sym w) ∙ x) y)
        ]
        | inr w ↦ elim (cases r k) [
          | inl v ↦ h.one s q w.0 (ap (λ (x : Open). has_number s x.receiving) (sym v) ∙ y) x ∙ sym h.txn ∙ sym (ap (λ (x : Open). x.txn) v)
          | inr v ↦ g.one q r s w.0 v.0 x y
        ]
      ];
      unique = λ q r j k x. elim (cases q j) [
        | inl w ↦ elim (cases r k) [
          | inl v ↦ w ∙ sym v
          | inr v ↦ absurd (v.1 (sym x ∙ ap (λ (x : Open). x.txn) w ∙ h.txn ∙ at.1))
        ]
        | inr w ↦ elim (cases r k) [
          | inl v ↦ absurd (w.1 (x ∙ ap (λ (x : Open). x.txn) v ∙ h.txn ∙ at.1))
          | inr v ↦ g.unique q r w.0 v.0 x
        ]
      ];
      old = λ q j. elim (cases q j) [ inl w ↦ subst (IsCurrent i b) (sym (ap (λ (x : Open). x.txn) w ∙ h.txn)) (g.old o at.0) | inr w ↦ g.old q w.0 ];
    }

pub taken_more : (c : List Done) (d : Done) (s : ℕ) → taken_in (c ++ d ∷ []) s ≡ taken_in c s ++ filter_map (taken_from s) d.ops
taken_more c d s = flat_map-append (λ (x : Done). filter_map (taken_from s) x.ops) c (d ∷ []) ∙ ap (λ l. taken_in c s ++ l) (append-nil (filter_map (taken_from s) d.ops))

pub sent_more : (c : List Done) (d : Done) (s : ℕ) → sent_in (c ++ d ∷ []) s ≡ sent_in c s ++ filter_map (sent_for s) d.ops
sent_more c d s = flat_map-append (λ (x : Done). filter_map (sent_for s) x.ops) c (d ∷ []) ∙ ap (λ l. sent_in c s ++ l) (append-nil (filter_map (sent_for s) d.ops))

-- what is committed behind a prefix, with one transaction more
commit_now : (c : List Done) (d : Done) (s : ℕ) → IsPrefix (taken_in c s) (sent_in c s) → IsPrefix (filter_map (taken_from s) d.ops) (rest_in c s) → IsPrefix (taken_in (c ++ d ∷ []) s) (sent_in (c ++ d ∷ []) s)
commit_now c d s h g =
    rw (taken_more c d s, sent_more c d s) (prefix_join (taken_in c s) (filter_map (taken_from s) d.ops) (sent_in c s) (filter_map (sent_for s) d.ops) h g)

-- where the new one took nothing from s, the rest grows
commit_rest : (c : List Done) (d : Done) (s : ℕ) → IsPrefix (taken_in c s) (sent_in c s) → filter_map (taken_from s) d.ops ≡ [] → rest_in (c ++ d ∷ []) s ≡ rest_in c s ++ filter_map (sent_for s) d.ops
commit_rest c d s h e =
    let k : taken_in (c ++ d ∷ []) s ≡ taken_in c s = taken_more c d s ∙ ap (λ l. taken_in c s ++ l) e ∙ append-nil (taken_in c s) in
    ap (λ l. drop (length l) (sent_in (c ++ d ∷ []) s)) k ∙ ap (λ l. drop (length (taken_in c s)) l) (sent_more c d s)
    ∙ prefix_rest_more (taken_in c s) (sent_in c s) (filter_map (sent_for s) d.ops) h

-- the other transactions after t is gone
pub gone : (t : Txn) (os : List Open) (q : Open) → In q (without t os) → In q os × (q.txn ≢ t)
gone t os q i =
    let g = In-filter (λ (o : Open). not (same_txn o.txn t)) os q i in
    (g.0, λ e. true≢false (sym g.1 ∙ ap not (ap (λ u. same_txn u t) e ∙ same_self t)))

pub Good-without : (c : List Done) (os : List Open) (i b : ℕ) (t : Txn) → Good c os i b → Good c (without t os) i b
Good-without c os i b t g = record {
  along = g.along;
  now = g.now;
  own = λ q s j. g.own q s (gone t os q j).0;
  held = λ q s j. g.held q s (gone t os q j).0;
  under = λ q s j. g.under q s (gone t os q j).0;
  one = λ q r s j k. g.one q r s (gone t os q j).0 (gone t os r k).0;
  unique = λ q r j k. g.unique q r (gone t os q j).0 (gone t os r k).0;
  old = λ q j. g.old q (gone t os q j).0;
}

pub Good-commit : (c : List Done) (os : List Open) (i b n : ℕ) (t : Txn) (o : Open) → Good c os i b → found t os ≡ Some o → Good (c ++ record { txn = t; lsn = n; ops = o.ops } ∷ []) (without t os) i b
Good-commit c os i b n t o g e =
    let d : Done = record { txn = t; lsn = n; ops = o.ops } in
    let at = found_in t os o e in
    let now : (s : ℕ) → IsPrefix (taken_in (c ++ d ∷ []) s) (sent_in (c ++ d ∷ []) s) = λ s. commit_now c d s (g.now s) (g.own o s at.0) in
    record {
      along = λ k s. elim (take_one_more k c d) [ inl w ↦ rw w (g.along k s) | inr w ↦ rw w (now s) ];
      now = now;
      own = λ q s j. let w = gone t os q j in elim (cases_Bool (has_number s q.receiving)) [
        | inl y ↦ elim (cases_Bool (has_number s o.receiving)) [
          | inl z ↦ absurd (w.1 (g.one q o s w.0 at.0 y z ∙ at.1))
          | inr z ↦ rw (commit_rest c d s (g.now s) (g.held o s at.0 z)) (prefix_longer (own_takes s q) (rest_in c s) (filter_map (sent_for s) o.ops) (g.own q s w.0))
        ]
        | inr z ↦ rw (g.held q s w.0 z) (prefix_nil (rest_in (c ++ d ∷ []) s))
      ];
      held = λ q s j. g.held q s (gone t os q j).0;
      under = λ q s j. g.under q s (gone t os q j).0;
      one = λ q r s j k. g.one q r s (gone t os q j).0 (gone t os r k).0;
      unique = λ q r j k. g.unique q r (gone t os q j).0 (gone t os r k).0;
      old = λ q j. g.old q (gone t os q j).0;
    }

pub Good-crash : (c : List Done) (os : List Open) (i b n : ℕ) → Good c os i b → Good (take n c) [] i b
Good-crash c os i b n g = record {
  along = λ k s. let w = take_twice k n c in rw w.1 (g.along w.0 s);
  now = λ s. g.along n s;
  own = λ q s j. absurd j;
  held = λ q s j. absurd j;
  under = λ q s j. absurd j;
  one = λ q r s j. absurd j;
  unique = λ q r j. absurd j;
  old = λ q j. absurd j;
}

none_taken : (k s : ℕ) → IsPrefix (taken_in (take k []) s) (sent_in (take k []) s)
none_taken zero s = ([], refl)
none_taken (suc k) s = ([], refl)

pub Good-none : (i b : ℕ) → Good [] [] i b
Good-none i b = record {
  along = λ k s. none_taken k s;
  now = λ s. ([], refl);
  own = λ q s j. absurd j;
  held = λ q s j. absurd j;
  under = λ q s j. absurd j;
  one = λ q r s j. absurd j;
  unique = λ q r j. absurd j;
  old = λ q j. absurd j;
}
