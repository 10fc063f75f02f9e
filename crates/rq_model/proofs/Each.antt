-- Each legal entry keeps what `Good` says.
use Rattle.std.proofs.Common.{◌≡◌, ℕ, ◌+◌, ◌<◌, ◌≤◌, List, [], ◌∷◌, ◌++◌, length, refl, sym, ◌∙◌, ap, subst, true, false, not, Option, Some, None, ◌⊎◌, inl, inr, arith, ◌||◌, nat_eq}
use Rattle.std.specs.List.{filter_map, slice_get, cons_option}
use Rattle.std.proofs.lemmas.List.Elements.{filter_map-append}
use Rattle.std.proofs.lemmas.List.{append-nil}
use Rattle.std.proofs.lemmas.Bool.{cases_Bool, or_cases, or_parts, and_parts, true≢false, false≢true, eqb-true, eq-eqb, not-false}
use Rattle.rq_model.specs.declared.txn.Txn.{Txn}
use Rattle.rq_model.specs.declared.refusal.Refusal.{Refusal}
use Rattle.rq_model.specs.declared.refusal.Refusal.TheVariants.{DiskWrite}
use Rattle.rq_model.specs.declared.message.Message.{Message}
use Rattle.rq_model.specs.Vocabulary.{Op, IsPrefix, In, same_txn, taken_from, has_number, front, is_some}
use Rattle.rq_model.specs.Vocabulary.Op.{Send, Take, End, Mark}
use Rattle.rq_model.specs.History.{Job, Entry, Call}
use Rattle.rq_model.specs.History.Job.{Sending, Taking, Ending, Marking, Undoing}
use Rattle.rq_model.specs.History.Entry.{Begun, Started, None_free, None_from, Stepped, Ready, Did, Undid, Committed, Acknowledged, Aborting, None_left, Aborted, Handed_over, Forced, Checkpointed, Migrated, Grew, Wrote, Told, Told_client, Shown, Refused, Crash, Restarted}
use Rattle.rq_model.specs.Ledger.{Open, Done, Ledger, rest_in, found, without, ops_of, after, ledger, started, stepped, writes, done_more, undone, fresh_one, add_number, own_takes}
use Rattle.rq_model.specs.Legal.{OnFound, At, CanStart, Legal, IsLegal, IsDoneBy, start_of}
use Rattle.rq_model.specs.Tests.{free_to_receive, free_of, size_at, Size, Passes}
use Rattle.rq_model.proofs.Lists.{prefix_nil, prefix_shorter, prefix_next, same_is}
use Rattle.rq_model.proofs.Keeps.{Good, IsCurrent, Changes, Good-change, Good-commit, Good-without, Good-crash, Good-none, found_in}
use Rattle.rq_model.proofs.Follows.{legal_there}

abbrev pub GoodAt : Ledger → Type 0
GoodAt l = Good l.committed l.open_ones l.incarnation l.begins

pub some_is : {X : Type 0} (x : Option X) → is_some x ≡ true → (y : X) × (x ≡ Some y)
some_is None e = absurd (false≢true e)
some_is (Some y) e = (y, refl)

pub prefix_of_nil : {X : Type 0} (xs ys : List X) → IsPrefix xs ys → ys ≡ [] → xs ≡ []
prefix_of_nil [] ys h e = refl
prefix_of_nil (x ∷ xs) ys h e = let q : (x ∷ (xs ++ h.0)) ≡ [] = h.1 ∙ e in cc

pub prefix_cons : {Y : Type 0} (o : Option Y) (xs ys : List Y) → IsPrefix xs ys → IsPrefix (cons_option o xs) (cons_option o ys)
prefix_cons None xs ys h = h
prefix_cons (Some y) xs ys h = (h.0, ap (λ l. y ∷ l) h.1)

pub prefix_front : {X Y : Type 0} (f : X → Option Y) (xs : List X) → IsPrefix (filter_map f (front xs)) (filter_map f xs)
prefix_front f [] = ([], refl)
prefix_front f (x ∷ []) = (filter_map f (x ∷ []), refl)
prefix_front f (x ∷ y ∷ ys) = prefix_cons (f x) (filter_map f (front (y ∷ ys))) (filter_map f (y ∷ ys)) (prefix_front f (y ∷ ys))

pub add_same : (s : ℕ) (ns : List ℕ) → has_number s (add_number s ns) ≡ true
add_same s ns = elim (cases_Bool (has_number s ns)) [ inl y ↦ rw y y | inr n ↦ rw n (rw (eq-eqb s s refl) refl) ]

pub add_from : (s n : ℕ) (ns : List ℕ) → has_number s (add_number n ns) ≡ true → (has_number s ns ≡ true) ⊎ (n ≡ s)
add_from s n ns e = elim (cases_Bool (has_number n ns)) [
  | inl y ↦ inl (rw y at e)
  | inr k ↦ let w : has_number s (n ∷ ns) ≡ true = rw k at e in elim (or_cases (nat_eq n s) (has_number s ns) w) [ inl a ↦ inr (eqb-true n s a) | inr a ↦ inl a ]
]

pub add_not : (s n : ℕ) (ns : List ℕ) → has_number s (add_number n ns) ≡ false → has_number s ns ≡ false
add_not s n ns e = elim (cases_Bool (has_number n ns)) [
  | inl y ↦ rw y at e
  | inr k ↦ let w : has_number s (n ∷ ns) ≡ false = rw k at e in (or_parts (nat_eq n s) (has_number s ns) w).1
]

-- who holds an end that is free for t is t
pub free_is : (held : Open → List ℕ) (t : Txn) (s : ℕ) (os : List Open) → free_of held t s os ≡ true → (q : Open) → In q os → has_number s (held q) ≡ true → q.txn ≡ t
free_is held t s [] e q i h = absurd i
free_is held t s (o ∷ os) e q i h =
    let w = and_parts (same_txn o.txn t || not (has_number s (held o))) (free_of held t s os) e in
    elim i [
      | inl x ↦ elim (or_cases (same_txn o.txn t) (not (has_number s (held o))) w.0) [
        | inl y ↦ ap (λ (p : Open). p.txn) x ∙ same_is o.txn t y
        | inr y ↦ absurd (true≢false (sym y ∙ ap not (ap (λ (p : Open). has_number s (held p)) (sym x) ∙ h)))
      ]
      | inr x ↦ free_is held t s os w.1 q x h
    ]

-- a change that leaves the receiving ends, adds no take and leaves no receive under way
pub Changes-plain : (c : List Done) (os : List Open) (i b : ℕ) (o p : Open) → Good c os i b → In o os → p.txn ≡ o.txn → p.receiving ≡ o.receiving → ((s : ℕ) → IsPrefix (own_takes s p) (own_takes s o)) → ((s : ℕ) → p.under ≡ Some (Taking s) → ⊥) → Changes c os o p
Changes-plain c os i b o p g j e r f n = record {
  txn = e;
  own = λ s. let h = f s in prefix_shorter (own_takes s p) h.0 _ (subst (λ l. IsPrefix l (rest_in c s)) (sym h.1) (g.own o s j));
  held = λ s k. prefix_of_nil (own_takes s p) (own_takes s o) (f s) (g.held o s j (ap (has_number s) (sym r) ∙ k));
  under = λ s k. absurd (n s k);
  one = λ s q k x y. g.one q o s k j y (ap (has_number s) (sym r) ∙ x);
}

pub Changes-started : (c : List Done) (os : List Open) (i b n k : ℕ) (o : Open) (job : Job) → Good c os i b → In o os → ((s : ℕ) → job ≡ Taking s → free_to_receive o.txn s os ≡ true) → Changes c os o (started n k job o)
Changes-started c os i b n k o (Sending m) g j f = Changes-plain c os i b o (started n k (Sending m) o) g j refl refl (λ s. ([], append-nil (own_takes s o))) (λ s e. cc)
Changes-started c os i b n k o (Ending r) g j f = Changes-plain c os i b o (started n k (Ending r) o) g j refl refl (λ s. ([], append-nil (own_takes s o))) (λ s e. cc)
Changes-started c os i b n k o (Marking client tag) g j f = Changes-plain c os i b o (started n k (Marking client tag) o) g j refl refl (λ s. ([], append-nil (own_takes s o))) (λ s e. cc)
Changes-started c os i b n k o Undoing g j f = Changes-plain c os i b o (started n k Undoing o) g j refl refl (λ s. ([], append-nil (own_takes s o))) (λ s e. cc)
Changes-started c os i b n k o (Taking r) g j f = record {
  txn = refl;
  own = λ s. g.own o s j;
  held = λ s w. g.held o s j (add_not s r o.receiving w);
  under = λ s w. let e : r ≡ s = cc in subst (λ x. has_number x (add_number r o.receiving) ≡ true) e (add_same r o.receiving);
  one = λ s q w x y. elim (add_from s r o.receiving x) [
    | inl z ↦ g.one q o s w j y z
    | inr z ↦ free_is (λ p. p.receiving) o.txn r os (f r refl) q w (subst (λ x. has_number x q.receiving ≡ true) (sym z) y)
  ];
}

-- the element of the rest after t's own takes is one take more
own_more : (s : ℕ) (o : Open) (op : Op) → own_takes s (done_more op o) ≡ own_takes s o ++ filter_map (taken_from s) (op ∷ [])
own_more s o op = filter_map-append (taken_from s) o.ops (op ∷ [])

pub Changes-took : (l : Ledger) (os : List Open) (i b r : ℕ) (o : Open) (m : Message) → Good l.committed os i b → In o os → o.under ≡ Some (Taking r) → IsDoneBy l o (Some (Taking r)) (Take m) → Changes l.committed os o (done_more (Take m) o)
Changes-took l os i b r o m g j u a = record {
  txn = refl;
  own = λ s. rw (own_more s o (Take m)) (elim (cases_Bool (nat_eq m.sender s)) [
    | inl y ↦ let e : r ≡ s = sym a.0 ∙ eqb-true m.sender s y in rw y (prefix_next (own_takes s o) (rest_in l.committed s) m (g.own o s j) (subst (λ x. slice_get (rest_in l.committed x) (length (own_takes x o)) ≡ Some m) e a.1))
    | inr n ↦ rw n (rw (append-nil (own_takes s o)) (g.own o s j))
  ]);
  held = λ s k. own_more s o (Take m) ∙ elim (cases_Bool (nat_eq m.sender s)) [
    | inl y ↦ let e : r ≡ s = sym a.0 ∙ eqb-true m.sender s y in absurd (true≢false (sym (subst (λ x. has_number x o.receiving ≡ true) e (g.under o r j u)) ∙ k))
    | inr n ↦ rw n (append-nil (own_takes s o) ∙ g.held o s j k)
  ];
  under = λ s k. absurd (cc);
  one = λ s q k x y. g.one q o s k j y x;
}

Changes-did : (l : Ledger) (os : List Open) (i b : ℕ) (o : Open) (under : Option Job) (op : Op) → Good l.committed os i b → In o os → o.under ≡ under → IsDoneBy l o under op → Changes l.committed os o (done_more op o)
Changes-did l os i b o (Some (Sending m)) (Send n) g j u a = Changes-plain l.committed os i b o (done_more (Send n) o) g j refl refl (λ s. ([], append-nil _ ∙ own_more s o (Send n) ∙ append-nil (own_takes s o))) (λ s e. cc)
Changes-did l os i b o (Some (Taking r)) (Take m) g j u a = Changes-took l os i b r o m g j u a
Changes-did l os i b o (Some (Ending r)) (End k) g j u a = Changes-plain l.committed os i b o (done_more (End k) o) g j refl refl (λ s. ([], append-nil _ ∙ own_more s o (End k) ∙ append-nil (own_takes s o))) (λ s e. cc)
Changes-did l os i b o (Some (Marking client tag)) (Mark d v) g j u a = Changes-plain l.committed os i b o (done_more (Mark d v) o) g j refl refl (λ s. ([], append-nil _ ∙ own_more s o (Mark d v) ∙ append-nil (own_takes s o))) (λ s e. cc)
Changes-did l os i b o None op g j u a = absurd a
Changes-did l os i b o (Some Undoing) op g j u a = absurd a
Changes-did l os i b o (Some (Sending m)) (Take n) g j u a = absurd a
Changes-did l os i b o (Some (Sending m)) (End n) g j u a = absurd a
Changes-did l os i b o (Some (Taking m)) (Send n) g j u a = absurd a
Changes-did l os i b o (Some (Taking m)) (End n) g j u a = absurd a
Changes-did l os i b o (Some (Ending m)) (Send n) g j u a = absurd a
Changes-did l os i b o (Some (Ending m)) (Take n) g j u a = absurd a
Changes-did l os i b o (Some (Sending m)) (Mark d v) g j u a = absurd a
Changes-did l os i b o (Some (Taking m)) (Mark d v) g j u a = absurd a
Changes-did l os i b o (Some (Ending m)) (Mark d v) g j u a = absurd a
Changes-did l os i b o (Some (Marking client tag)) (Send n) g j u a = absurd a
Changes-did l os i b o (Some (Marking client tag)) (Take n) g j u a = absurd a
Changes-did l os i b o (Some (Marking client tag)) (End n) g j u a = absurd a

-- a start of a receive has passed the test that its group is free
started_free : (z : Size) (l : Ledger) (t : Txn) (job : Job) (s : ℕ) → Passes z l (start_of t job) → job ≡ Taking s → free_to_receive t s l.open_ones ≡ true
started_free z l t (Taking r) s p e =
    let w : r ≡ s = cc in
    subst (λ x. free_to_receive t x l.open_ones ≡ true) w (not-false (free_to_receive t r l.open_ones) p.1.1.1.1.1.0)
started_free z l t (Sending m) s p e = cc
started_free z l t (Ending m) s p e = cc
started_free z l t (Marking client tag) s p e = cc
started_free z l t Undoing s p e = cc

pub known : (l : Ledger) (t : Txn) → not (is_some (found t l.open_ones)) ≡ false → (o : Open) × (found t l.open_ones ≡ Some o)
known l t e = some_is (found t l.open_ones) (not-false (is_some (found t l.open_ones)) e)

on_found : (x : Option Open) (P : Open → Type 0) → OnFound x P → (o : Open) × (x ≡ Some o) × P o
on_found None P h = absurd h
on_found (Some o) P h = (o, refl, h)

pub start_at : (l : Ledger) (t : Txn) (n : ℕ) (job : Job) → At l t (λ o. (n ≡ o.number + 1) × CanStart l o job) → (o : Open) × (found t l.open_ones ≡ Some o) × ((n ≡ o.number + 1) × CanStart l o job)
start_at l t n job h = on_found (found t l.open_ones) (λ o. (n ≡ o.number + 1) × CanStart l o job) h

pub did_at : (l : Ledger) (t : Txn) (op : Op) → At l t (λ o. IsDoneBy l o o.under op) → (o : Open) × (found t l.open_ones ≡ Some o) × IsDoneBy l o o.under op
did_at l t op h = on_found (found t l.open_ones) (λ o. IsDoneBy l o o.under op) h

pub undid_at : (l : Ledger) (t : Txn) → At l t (λ o. o.under ≡ Some Undoing) → (o : Open) × (found t l.open_ones ≡ Some o) × (o.under ≡ Some Undoing)
undid_at l t h = on_found (found t l.open_ones) (λ o. o.under ≡ Some Undoing) h

pub step_at : (l : Ledger) (t : Txn) → At l t (λ o. 0 < o.left) → (o : Open) × (found t l.open_ones ≡ Some o) × (0 < o.left)
step_at l t h = on_found (found t l.open_ones) (λ o. 0 < o.left) h

Good-begun : (l : Ledger) (t : Txn) → GoodAt l → t.incarnation ≡ l.incarnation → t.count ≡ l.begins + 1 → Good l.committed (fresh_one t ∷ l.open_ones) l.incarnation (l.begins + 1)
Good-begun l t g e k =
    let other : (o : Open) → In o l.open_ones → o.txn ≡ t → ⊥ = λ o j w. let h = g.old o j in let a : o.txn.count ≤ l.begins = h.counted in let c : o.txn.count ≡ t.count = ap (λ (x : Txn). x.count) w in omega arith in
    record {
      along = g.along;
      now = g.now;
      own = λ o s j. elim j [ inl w ↦ subst (λ (x : Open). IsPrefix (own_takes s x) (rest_in l.committed s)) (sym w) (prefix_nil (rest_in l.committed s)) | inr w ↦ g.own o s w ];
      held = λ o s j h. elim j [ inl w ↦ ap (own_takes s) w | inr w ↦ g.held o s w h ];
      under = λ o s j h. elim j [ inl w ↦ let v : (fresh_one t).under ≡ Some (Taking s) = ap (λ (x : Open). x.under) (sym w) ∙ h in absurd (cc) | inr w ↦ g.under o s w h ];
      one = λ o p s j h x y. elim j [
        | inl w ↦ absurd (false≢true (ap (λ (x : Open). has_number s x.receiving) (sym w) ∙ x))
        | inr w ↦ elim h [ inl v ↦ absurd (false≢true (ap (λ (x : Open). has_number s x.receiving) (sym v) ∙ y)) | inr v ↦ g.one o p s w v x y ]
      ];
      unique = λ o p j h x. elim j [
        | inl w ↦ elim h [ inl v ↦ w ∙ sym v | inr v ↦ absurd (other p v (sym x ∙ ap (λ (y : Open). y.txn) w)) ]
        | inr w ↦ elim h [ inl v ↦ absurd (other o w (x ∙ ap (λ (y : Open). y.txn) v)) | inr v ↦ g.unique o p w v x ]
      ];
      old = λ o j. elim j [
        | inl w ↦ subst (IsCurrent l.incarnation (l.begins + 1)) (sym (ap (λ (y : Open). y.txn) w)) (record { of_incarnation = e; counted = omega (arith, k) })
        | inr w ↦ let h = g.old o w in record { of_incarnation = h.of_incarnation; counted = let a : o.txn.count ≤ l.begins = h.counted in omega arith }
      ];
    }

Good-restart : (l : Ledger) (i : ℕ) → GoodAt l → Good l.committed [] i 0
Good-restart l i g = record {
  along = g.along;
  now = g.now;
  own = λ q s j. absurd j;
  held = λ q s j. absurd j;
  under = λ q s j. absurd j;
  one = λ q r s j. absurd j;
  unique = λ q r j. absurd j;
  old = λ q j. absurd j;
}

Good-refused : (l : Ledger) (c : Call) (r : Refusal) → GoodAt l → GoodAt (after (Refused c r) l)
Good-refused l c DiskWrite g = g
Good-refused l c _ g = g

pub Good-after : (z : Size) (l : Ledger) (e : Entry) → Legal z l e → GoodAt l → GoodAt (after e l)
Good-after z l (Begun t) a g = Good-begun l t g a.1 a.2
Good-after z l (Started t n job) a g =
    let o = (start_at l t n job a.1).0 in
    let at = found_in t l.open_ones o (start_at l t n job a.1).1 in
    Good-change l.committed l.open_ones l.incarnation l.begins t (started n (writes l t job) job) o g (start_at l t n job a.1).1 (Changes-started l.committed l.open_ones l.incarnation l.begins n (writes l t job) o job g at.0 (λ s w. rw at.1 (started_free z l t job s a.0 w)))
Good-after z l (Did t n op) a g =
    let o = (did_at l t op a.1).0 in
    let at = found_in t l.open_ones o (did_at l t op a.1).1 in
    Good-change l.committed l.open_ones l.incarnation l.begins t (done_more op) o g (did_at l t op a.1).1 (Changes-did l l.open_ones l.incarnation l.begins o o.under op g at.0 refl (did_at l t op a.1).2)
Good-after z l (Undid t n) a g =
    let o = (undid_at l t a.1).0 in
    let at = found_in t l.open_ones o (undid_at l t a.1).1 in
    Good-change l.committed l.open_ones l.incarnation l.begins t undone o g (undid_at l t a.1).1 (Changes-plain l.committed l.open_ones l.incarnation l.begins o (undone o) g at.0 refl refl (λ s. prefix_front (taken_from s) o.ops) (λ s e. cc))
Good-after z l (Committed t lsn) a g =
    let k = known l t a.0.1.0 in
    subst (λ x. Good (l.committed ++ record { txn = t; lsn = lsn; ops = ops_of x } ∷ []) (without t l.open_ones) l.incarnation l.begins) (sym k.1) (Good-commit l.committed l.open_ones l.incarnation l.begins lsn t k.0 g k.1)
Good-after z l (Aborting t) a g =
    let k = known l t a.1.0 in
    let at = found_in t l.open_ones k.0 k.1 in
    Good-change l.committed l.open_ones l.incarnation l.begins t (λ o. record o { aborting = true }) k.0 g k.1 (record { txn = refl; own = λ s. g.own k.0 s at.0; held = λ s. g.held k.0 s at.0; under = λ s. g.under k.0 s at.0; one = λ s q j x y. g.one q k.0 s j at.0 y x })
Good-after z l (Aborted t) a g = Good-without l.committed l.open_ones l.incarnation l.begins t g
Good-after z l (Crash kept records) a g = Good-crash l.committed l.open_ones l.incarnation l.begins kept g
Good-after z l (Restarted i records) a g = Good-restart l i g
Good-after z l (Refused c r) a g = Good-refused l c r g
Good-after z l (None_free t) a g = g
Good-after z l (None_from t s) a g = g
Good-after z l (Stepped t n lsn) a g =
    let k = step_at l t a.1 in
    let at = found_in t l.open_ones k.0 k.1 in
    Good-change l.committed l.open_ones l.incarnation l.begins t stepped k.0 g k.1 (record { txn = refl; own = λ s. g.own k.0 s at.0; held = λ s. g.held k.0 s at.0; under = λ s. g.under k.0 s at.0; one = λ s q j x y. g.one q k.0 s j at.0 y x })
Good-after z l (Ready t n) a g = g
Good-after z l (Acknowledged t n y) a g = g
Good-after z l (None_left t) a g = g
Good-after z l Handed_over a g = g
Good-after z l (Forced lsn) a g = g
Good-after z l (Checkpointed lsn) a g = g
Good-after z l (Migrated pages lsn) a g = g
Good-after z l (Grew pages records) a g = g
Good-after z l (Wrote page done) a g = g
Good-after z l (Told s sent tag) a g = g
Good-after z l (Told_client c count tag) a g = g
Good-after z l (Shown groups) a g = g

pub Good-ledger : (z : Size) (h : List Entry) → IsLegal z h → GoodAt (ledger h)
Good-ledger z [] a = Good-none 0 0
Good-ledger z (e ∷ h) a = Good-after (size_at z h) (ledger h) e (legal_there z h e a.0) (Good-ledger z h a.1)
