-- What the ledger of the plain reference keeps.
use Rattle.std.proofs.Common.{append_assoc, append-nil, ◌≡◌, ◌≢◌, ℕ, zero, suc, ◌+◌, ◌-◌, ◌<◌, ◌≤◌, Option, List, [], ◌∷◌, ◌++◌, length, take, map, refl, sym, ◌∙◌, ap, true, false, None, Some, inl, inr, arith, get_or, set, nat_lt}
use Rattle.std.proofs.lemmas.Bool.{cases_Bool}
use Rattle.std.proofs.lemmas.Grind.{common_steps}
use Rattle.std.proofs.lemmas.List.{length-map, get_or-map}
use Rattle.std.specs.List.{remove, filter_map, cons_option}
use Rattle.rq_model.specs.declared.txn.Txn.{Txn}
use Rattle.rq_reference.specs.declared.rows.OpenTxn.{OpenTxn}
use Rattle.rq_reference.specs.declared.rows.Act.{Act}
use Rattle.rq_reference.specs.declared.rows.CommittedTxn.{CommittedTxn}
use Rattle.rq_reference.specs.declared.scans.Tagged.{Tagged}
use Rattle.rq_model.specs.Vocabulary.{Op, same_txn, last_or}
use Rattle.rq_model.specs.declared.message.Message.{Message}
use Rattle.rq_model.specs.Tests.{below, count_rest}
use Rattle.rq_model.specs.Ledger.{Open, Done, Ledger, change, without, found, tag_of, rest_in, kept_in}
use Rattle.rq_model.proofs.Lists.{same_is, same_self}
use Rattle.rq_reference.specs.Plain.{StandsAt, done_of, op_of, open_of, tag_for, tags_in, Numbered}

pub kept_more : (n : ℕ) (c : List Done) (d : Done) → kept_in n c ≤ kept_in n (c ++ d ∷ [])
kept_more n [] d = omega arith
kept_more n (x ∷ c) d = let h = kept_more n c d in elim (cases_Bool (nat_lt n x.lsn)) [ inl y ↦ rw y (omega arith) | inr y ↦ rw y (omega arith) ]

differs : (a t : Txn) → a.count ≢ t.count → same_txn a t ≡ false
differs a t h = elim (cases_Bool (same_txn a t)) [ inl y ↦ absurd (h (ap (λ (u : Txn). u.count) (same_is a t y))) | inr n ↦ n ]

-- the counts of those behind are below
count_at : (i b : ℕ) (rows : List OpenTxn) (k : ℕ) (d : OpenTxn) → Numbered i b (map open_of rows) → k < length rows → (get_or rows k d).txn.count ≤ b
count_at i b [] k d h l = absurd (omega arith)
count_at i b (x ∷ rows) zero d h l = h.2
count_at i b (x ∷ rows) (suc k) d h l = let g = count_at i (x.txn.count - 1) rows k d h.3 (omega arith) in let w : x.txn.count ≤ b = h.2 in omega arith

change_none : (i b : ℕ) (t : Txn) (f : Open → Open) (os : List Open) → Numbered i b os → b < t.count → change t f os ≡ os
change_none i b t f [] h l = refl
change_none i b t f (o ∷ os) h l =
    let w : o.txn.count ≤ b = h.2 in
    rw (differs o.txn t (omega arith)) (ap (λ q. o ∷ q) (change_none i (o.txn.count - 1) t f os h.3 (omega arith)))

without_none : (i b : ℕ) (t : Txn) (os : List Open) → Numbered i b os → b < t.count → without t os ≡ os
without_none i b t [] h l = refl
without_none i b t (o ∷ os) h l =
    let w : o.txn.count ≤ b = h.2 in
    rw (differs o.txn t (omega arith)) (ap (λ q. o ∷ q) (without_none i (o.txn.count - 1) t os h.3 (omega arith)))

pub change_here : (i b : ℕ) (rows : List OpenTxn) (t : Txn) (f : Open → Open) (k : ℕ) (d r : OpenTxn) → Numbered i b (map open_of rows) → k < length rows → (get_or rows k d).txn ≡ t → open_of r ≡ f (open_of (get_or rows k d)) → map open_of (set rows k r) ≡ change t f (map open_of rows)
change_here i b [] t f k d r h l e g = absurd (omega arith)
change_here i b (x ∷ rows) t f zero d r h l e g =
    let y : same_txn x.txn t ≡ true = ap (λ u. same_txn u t) e ∙ same_self t in
    let p : 0 < x.txn.count = h.1 in
    let c : x.txn.count ≡ t.count = ap (λ (u : Txn). u.count) e in
    let o = change_none i (x.txn.count - 1) t f (map open_of rows) h.3 (omega arith) in
    rw y (ap (λ z. z ∷ map open_of rows) g ∙ ap (λ q. f (open_of x) ∷ q) (sym o))
change_here i b (x ∷ rows) t f (suc k) d r h l e g =
    let n = count_at i (x.txn.count - 1) rows k d h.3 (omega arith) in
    let p : 0 < x.txn.count = h.1 in
    let c : (get_or rows k d).txn.count ≡ t.count = ap (λ (u : Txn). u.count) e in
    rw (differs x.txn t (omega arith)) (ap (λ z. open_of x ∷ z) (change_here i (x.txn.count - 1) rows t f k d r h.3 (omega arith) e g))

pub without_here : (i b : ℕ) (rows : List OpenTxn) (t : Txn) (k : ℕ) (d : OpenTxn) → Numbered i b (map open_of rows) → k < length rows → (get_or rows k d).txn ≡ t → map open_of (remove rows k) ≡ without t (map open_of rows)
without_here i b [] t k d h l e = absurd (omega arith)
without_here i b (x ∷ rows) t zero d h l e =
    let y : same_txn x.txn t ≡ true = ap (λ u. same_txn u t) e ∙ same_self t in
    let p : 0 < x.txn.count = h.1 in
    let c : x.txn.count ≡ t.count = ap (λ (u : Txn). u.count) e in
    rw y (sym (without_none i (x.txn.count - 1) t (map open_of rows) h.3 (omega arith)))
without_here i b (x ∷ rows) t (suc k) d h l e =
    let n = count_at i (x.txn.count - 1) rows k d h.3 (omega arith) in
    let p : 0 < x.txn.count = h.1 in
    let c : (get_or rows k d).txn.count ≡ t.count = ap (λ (u : Txn). u.count) e in
    rw (differs x.txn t (omega arith)) (ap (λ z. open_of x ∷ z) (without_here i (x.txn.count - 1) rows t k d h.3 (omega arith) e))

pub numbered_change : (i b : ℕ) (t : Txn) (f : Open → Open) (os : List Open) → ((o : Open) → (f o).txn ≡ o.txn) → Numbered i b os → Numbered i b (change t f os)
numbered_change i b t f [] g h = tt
numbered_change i b t f (o ∷ os) g h =
    elim (cases_Bool (same_txn o.txn t)) [
      | inl y ↦
          let r = numbered_change i (o.txn.count - 1) t f os g h.3 in
          rw (y, g o) (h.0, h.1, h.2, r)
      | inr n ↦ rw n (h.0, h.1, h.2, numbered_change i (o.txn.count - 1) t f os g h.3)
    ]

numbered_further : (i b more : ℕ) (os : List Open) → b ≤ more → Numbered i b os → Numbered i more os
numbered_further i b more [] g h = tt
numbered_further i b more (o ∷ os) g h = let w : o.txn.count ≤ b = h.2 in (h.0, h.1, omega arith, h.3)

pub numbered_without : (i b : ℕ) (t : Txn) (os : List Open) → Numbered i b os → Numbered i b (without t os)
numbered_without i b t [] h = tt
numbered_without i b t (o ∷ os) h =
    let r = numbered_without i (o.txn.count - 1) t os h.3 in
    let w : o.txn.count ≤ b = h.2 in
    elim (cases_Bool (same_txn o.txn t)) [
      | inl y ↦ rw y (numbered_further i (o.txn.count - 1) b (without t os) (omega arith) r)
      | inr n ↦ rw n (h.0, h.1, h.2, r)
    ]

-- the row at the place of a transaction
pub stands_within : (rows : List OpenTxn) (l : Ledger) (t : Txn) (k : ℕ) → map open_of rows ≡ l.open_ones → StandsAt l t k → k < length rows
stands_within rows l t k v h = let e = ap length v in let w = h.within in omega (arith, length-map rows open_of, e)

pub stands_row : (rows : List OpenTxn) (l : Ledger) (t : Txn) (k : ℕ) (m : OpenTxn) → map open_of rows ≡ l.open_ones → StandsAt l t k → m ≡ get_or rows k m → open_of m ≡ get_or l.open_ones k (open_of m)
stands_row rows l t k m v h e = ap open_of e ∙ sym (get_or-map open_of rows k m (open_of m) (stands_within rows l t k v h)) ∙ ap (λ os. get_or os k (open_of m)) v

pub stands_txn : (rows : List OpenTxn) (l : Ledger) (t : Txn) (k : ℕ) (m : OpenTxn) → map open_of rows ≡ l.open_ones → StandsAt l t k → m ≡ get_or rows k m → m.txn ≡ t
stands_txn rows l t k m v h e = ap (λ (o : Open). o.txn) (stands_row rows l t k m v h e) ∙ h.numbered (open_of m)

pub stands_found : (rows : List OpenTxn) (l : Ledger) (t : Txn) (k : ℕ) (m : OpenTxn) → map open_of rows ≡ l.open_ones → StandsAt l t k → m ≡ get_or rows k m → found t l.open_ones ≡ Some (open_of m)
stands_found rows l t k m v h e = h.found (open_of m) ∙ ap (λ o. Some o) (sym (stands_row rows l t k m v h e))

pub change_stands : (i b : ℕ) (rows : List OpenTxn) (l : Ledger) (t : Txn) (f : Open → Open) (k : ℕ) (m r : OpenTxn) → Numbered i b (map open_of rows) → map open_of rows ≡ l.open_ones → StandsAt l t k → m ≡ get_or rows k m → open_of r ≡ f (open_of m) → map open_of (set rows k r) ≡ change t f (map open_of rows)
change_stands i b rows l t f k m r n v h e g = change_here i b rows t f k m r n (stands_within rows l t k v h) (ap (λ (x : OpenTxn). x.txn) (sym e) ∙ stands_txn rows l t k m v h e) (g ∙ ap (λ x. f (open_of x)) e)

pub without_stands : (i b : ℕ) (rows : List OpenTxn) (l : Ledger) (t : Txn) (k : ℕ) (m : OpenTxn) → Numbered i b (map open_of rows) → map open_of rows ≡ l.open_ones → StandsAt l t k → m ≡ get_or rows k m → map open_of (remove rows k) ≡ without t (map open_of rows)
without_stands i b rows l t k m n v h e = without_here i b rows t k m n (stands_within rows l t k v h) (ap (λ (x : OpenTxn). x.txn) (sym e) ∙ stands_txn rows l t k m v h e)

cons_append : {Y : Type 0} (o : Option Y) (xs ys : List Y) → cons_option o (xs ++ ys) ≡ cons_option o xs ++ ys
cons_append None xs ys = refl
cons_append (Some x) xs ys = refl

-- one act more
pub filter_more : {Y : Type 0} (f : Op → Option Y) (acts : List Act) (i : ℕ) (d : Act) → i < length acts → filter_map f (map op_of (take (i + 1) acts)) ≡ filter_map f (map op_of (take i acts)) ++ cons_option (f (op_of (get_or acts i d))) []
filter_more f [] i d l = absurd (omega arith)
filter_more f (a ∷ acts) zero d l = refl
filter_more f (a ∷ acts) (suc i) d l =
    let h = filter_more f acts i d (omega arith) in
    let e : suc i + 1 ≡ suc (i + 1) = omega arith in
    rw (e, h) (cons_append (f (op_of a)) (filter_map f (map op_of (take i acts))) (cons_option (f (op_of (get_or acts i d))) []))

-- one transaction more
pub tags_more : (tagged : Tagged) (number : ℕ) (rows : List CommittedTxn) (i : ℕ) (row : CommittedTxn) → i < length rows → row ≡ get_or rows i row → tags_in tagged (map done_of (take (i + 1) rows)) number ≡ tags_in tagged (map done_of (take i rows)) number ++ filter_map (tag_for tagged number) (map op_of row.acts.items)
tags_more tagged number rows i row l e = grind (arith, common_steps)

-- what was added, and one more
pub pushed : {X : Type 0} (was before so_far more now : List X) (x : X) → now ≡ before ++ x ∷ [] → before ≡ was ++ so_far → more ≡ so_far ++ x ∷ [] → now ≡ was ++ more
pushed was before so_far more now x e g h = e ∙ ap (λ l. l ++ x ∷ []) g ∙ append_assoc was so_far (x ∷ []) ∙ ap (λ l. was ++ l) (sym h)

pub pushed_none : {X : Type 0} (was before so_far more now : List X) → now ≡ before → before ≡ was ++ so_far → more ≡ so_far ++ [] → now ≡ was ++ more
pushed_none was before so_far more now e g h = e ∙ g ∙ ap (λ l. was ++ l) (sym (append-nil so_far) ∙ sym h)

pub last_at : {X : Type 0} (x : X) (xs : List X) (i : ℕ) (d : X) → i < length xs → last_or x (take (i + 1) xs) ≡ get_or xs i d
last_at x [] i d l = absurd (omega arith)
last_at x (y ∷ xs) zero d l = refl
last_at x (y ∷ xs) (suc i) d l =
    let e : suc i + 1 ≡ suc (i + 1) = omega arith in
    rw e (last_at y xs i d (omega arith))

pub last_or_append : (d : ℕ) (xs ys : List ℕ) → last_or d (xs ++ ys) ≡ last_or (last_or d xs) ys
last_or_append d [] ys = refl
last_or_append d (x ∷ xs) ys = last_or_append x xs ys

pub tag_at : (xs : List Message) (i : ℕ) (d : Message) → i < length xs → tag_of (take (i + 1) xs) ≡ (get_or xs i d).tag
tag_at [] i d l = absurd (omega arith)
tag_at (x ∷ xs) zero d l = refl
tag_at (x ∷ xs) (suc i) d l =
    let e : suc i + 1 ≡ suc (i + 1) = omega arith in
    rw e (ap (λ (m : Message). m.tag) (last_at x xs i d (omega arith)))

count_append : (c : List Done) (ss : List ℕ) (s : ℕ) → count_rest (ss ++ s ∷ []) c ≡ count_rest ss c + length (rest_in c s)
count_append c [] s = omega arith
count_append c (x ∷ ss) s = let h = count_append c ss s in omega arith

pub count_more : (c : List Done) (n : ℕ) → count_rest (below (n + 1)) c ≡ count_rest (below n) c + length (rest_in c n)
count_more c n = let e : n + 1 ≡ suc n = omega arith in rw e (count_append c (below n) n)

-- what stands at a place is one
pub same_row : (rows : List OpenTxn) (k : ℕ) (m r : OpenTxn) → k < length rows → m ≡ get_or rows k m → r ≡ get_or rows k r → m ≡ r
same_row [] k m r l e g = absurd (omega arith)
same_row (x ∷ rows) zero m r l e g = e ∙ sym g
same_row (x ∷ rows) (suc k) m r l e g = same_row rows k m r (omega arith) e g
