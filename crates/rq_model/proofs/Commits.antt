-- A Commit record adds its transaction's own operations to the content, and changes nothing else.
use Rattle.std.proofs.Common.{◌≡◌, ℕ, ◌+◌, ◌≤◌, List, [], ◌∷◌, ◌++◌, length, drop, refl, sym, ◌∙◌, ap, Bool, true, false, cond, not, Option, Some, None, append_assoc, ◌⊎◌, inl, inr, arith, ◌||◌, nat_eq}
use Rattle.std.proofs.lemmas.List.{append-nil, drop-drop, drop-append-le, length_push, length-append}
use Rattle.std.proofs.lemmas.Bool.{cases_Bool, or_cases, or_parts, or_left, or_right, and_from, false≢true, false_from_ne_true}
use Rattle.std.proofs.Math.Bool.{or_comm}
use Rattle.rq_model.specs.declared.txn.Txn.{Txn}
use Rattle.rq_model.specs.declared.record.Record.{Record}
use Rattle.rq_model.specs.declared.record.Record.TheVariants.{Commit}
use Rattle.rq_model.specs.declared.message.Message.{Message}
use Rattle.rq_model.specs.Vocabulary.{same_txn, last_or, mark_of}
use Rattle.rq_model.specs.History.{Group}
use Rattle.rq_model.specs.Ledger.{tag_of}
use Rattle.rq_model.specs.Content.{Said, Ending, ending, ends_txn, commits_txn, has_commit, has_end, kept, deeds, no_group, with_deed, with_deeds, content, added_one, added, removed_one, removed, closed_one, closed, shape, tag_after, with_own}
use Rattle.rq_model.specs.Rules.{uses_send, uses_receive, any_use, holds, EndingMay, KeepsRules}
use Rattle.rq_model.specs.Content.Said.{Added, Removed, Ended, Marked}
use Rattle.rq_model.proofs.Lists.{same_is, same_self}
use Rattle.rq_model.proofs.Same.{other_same}

-- never more taken than added
abbrev pub Covered : ℕ → List Said → Type 0
Covered s [] = Unit {0}
Covered s (d ∷ ds) = (removed s (d ∷ ds) ≤ length (added s (d ∷ ds))) × Covered s ds

pub last_is : (x : Message) (xs : List Message) (m : Message) → last_or x (xs ++ m ∷ []) ≡ m
last_is x [] m = refl
last_is x (y ∷ xs) m = last_is y xs m

tag_last : (xs : List Message) (m : Message) → tag_of (xs ++ m ∷ []) ≡ m.tag
tag_last [] m = refl
tag_last (x ∷ xs) m = ap (λ (y : Message). y.tag) (last_is x xs m)

pub covered_here : (s : ℕ) (ds : List Said) → Covered s ds → removed s ds ≤ length (added s ds)
covered_here s [] c = omega arith
covered_here s (d ∷ ds) c = c.0

pub group_is : (a b c d : ℕ) (x y : ℕ) (u v : Bool) (r q : List Message) → a ≡ b → x ≡ y → c ≡ d → u ≡ v → r ≡ q → ◌≡◌ {A = Group} (record { sent = a; last_tag = x; received = c; closed = u; rest = r }) (record { sent = b; last_tag = y; received = d; closed = v; rest = q })
group_is a b c d x y u v r q e f g h i = cc

-- one deed over a shape
shape_added : (s : ℕ) (m : Message) (ds : List Said) → removed s ds ≤ length (added s ds) → with_deed s (Added m) (shape s ds) ≡ shape s (Added m ∷ ds)
shape_added s m ds c = elim (cases_Bool (nat_eq m.sender s)) [
  | inl y ↦ rw y (group_is _ _ _ _ _ _ _ _ _ _ (sym (length_push (added s ds) m)) (sym (tag_last (added s ds) m)) (omega arith) refl (sym (drop-append-le (removed s ds) (added s ds) (m ∷ []) c)
      ∙ ap (λ n. drop n (added s ds ++ m ∷ [])) (let e : removed s ds ≡ removed s ds + 0 = omega arith in e)))
  | inr n ↦ rw n (group_is _ _ _ _ _ _ _ _ _ _ refl refl (omega arith) refl (ap (λ n. drop n (added s ds)) (let e : removed s ds ≡ removed s ds + 0 = omega arith in e)))
]

shape_one : (s : ℕ) (d : Said) (ds : List Said) → removed s ds ≤ length (added s ds) → with_deed s d (shape s ds) ≡ shape s (d ∷ ds)
shape_one s (Added m) ds c = shape_added s m ds c
shape_one s (Marked k tag) ds c = shape_added s (mark_of k tag) ds c
shape_one s (Removed r) ds c = elim (cases_Bool (nat_eq r.sender s)) [
  | inl y ↦ rw y (group_is _ _ _ _ _ _ _ _ _ _ refl refl refl refl (drop-drop 1 (removed s ds) (added s ds)))
  | inr n ↦ rw n (group_is _ _ _ _ _ _ _ _ _ _ refl refl (omega arith) refl (ap (λ n. drop n (added s ds)) (let e : removed s ds ≡ removed s ds + 0 = omega arith in e)))
]
shape_one s (Ended r) ds c = elim (cases_Bool (nat_eq r s)) [
  | inl y ↦ rw y (group_is _ _ _ _ _ _ _ _ _ _ refl refl (omega arith) refl (ap (λ n. drop n (added s ds)) (let e : removed s ds ≡ removed s ds + 0 = omega arith in e)))
  | inr n ↦ rw n (group_is _ _ _ _ _ _ _ _ _ _ refl refl (omega arith) refl (ap (λ n. drop n (added s ds)) (let e : removed s ds ≡ removed s ds + 0 = omega arith in e)))
]

-- the fold is the shape
pub shape_is : (s : ℕ) (ds : List Said) → Covered s ds → with_deeds s ds no_group ≡ shape s ds
shape_is s [] c = refl
shape_is s (d ∷ ds) c = ap (with_deed s d) (shape_is s ds c.1) ∙ shape_one s d ds (covered_here s ds c.1)

abbrev pub only : Txn → Txn → Bool
only t u = same_txn u t

abbrev pub with_one : (Txn → Bool) → Txn → Txn → Bool
with_one p t u = p u || same_txn u t

no_use_one : (s : ℕ) (d : Said) (ms : List Message) → uses_send s d ≡ false → ms ≡ [] → added_one s d ms ≡ []
no_use_one s (Added m) ms e k = rw e k
no_use_one s (Removed m) ms e k = k
no_use_one s (Ended m) ms e k = k
no_use_one s (Marked c tag) ms e k = rw e k

no_use : (s : ℕ) (ds : List Said) → any_use (uses_send s) ds ≡ false → added s ds ≡ []
no_use s [] e = refl
no_use s (d ∷ ds) e = let p = or_parts (uses_send s d) (any_use (uses_send s) ds) e in no_use_one s d (added s ds) p.0 (no_use s ds p.1)

behind_one : (s : ℕ) (m : Message) (xs ys : List Message) → added_one s (Added m) (xs ++ ys) ≡ xs ++ added_one s (Added m) ys
behind_one s m xs ys = elim (cases_Bool (nat_eq m.sender s)) [ inl y ↦ rw y (append_assoc xs ys (m ∷ [])) | inr n ↦ rw n refl ]

added_behind : (s : ℕ) (d : Said) (xs ys : List Message) → added_one s d (xs ++ ys) ≡ xs ++ added_one s d ys
added_behind s (Added m) xs ys = behind_one s m xs ys
added_behind s (Removed r) xs ys = refl
added_behind s (Ended r) xs ys = refl
added_behind s (Marked c tag) xs ys = behind_one s (mark_of c tag) xs ys

over_one : (s : ℕ) (m : Message) (xs ys : List Message) → (uses_send s (Added m) ≡ true → ys ≡ []) → added_one s (Added m) (xs ++ ys) ≡ added_one s (Added m) xs ++ ys
over_one s m xs ys f = elim (cases_Bool (nat_eq m.sender s)) [
  | inl y ↦ rw (f y) (rw (append-nil xs, append-nil (added_one s (Added m) xs)) refl)
  | inr n ↦ rw n refl
]

added_over : (s : ℕ) (d : Said) (xs ys : List Message) → (uses_send s d ≡ true → ys ≡ []) → added_one s d (xs ++ ys) ≡ added_one s d xs ++ ys
added_over s (Added m) xs ys f = over_one s m xs ys f
added_over s (Removed r) xs ys f = refl
added_over s (Ended r) xs ys f = refl
added_over s (Marked c tag) xs ys f = over_one s (mark_of c tag) xs ys f

-- t has used no sending end that another may use now
pub unused : (f : Said → Bool) (log : List Record) (t u : Txn) → has_end log t ≡ false → same_txn u t ≡ false → ((v : Txn) → holds f log v ≡ true → v ≡ u) → any_use f (deeds (only t) log) ≡ false
unused f log t u n k alone = false_from_ne_true (any_use f (deeds (only t) log)) (λ e.
    let w : t ≡ u = alone t (and_from (any_use f (deeds (only t) log)) (not (has_end log t)) e (ap not n)) in
    false≢true (sym k ∙ ap (λ x. same_txn x t) (sym w) ∙ same_self t))

added_step : (s : ℕ) (t : Txn) (p : Txn → Bool) (w : Option Ending) (log : List Record) → p t ≡ false → EndingMay log w → has_end log t ≡ false
    → added s (deeds (with_one p t) log) ≡ added s (deeds p log) ++ added s (deeds (only t) log)
    → added s (kept (with_one p t) w (deeds (with_one p t) log)) ≡ added s (kept p w (deeds p log)) ++ added s (kept (only t) w (deeds (only t) log))
added_step s t p None log n may k ih = ih
added_step s t p (Some e) log n may k ih = elim (cases_Bool (same_txn e.txn t)) [
  | inl y ↦ let x : p e.txn ≡ false = ap p (same_is e.txn t y) ∙ n in rw (x, y) (ap (added_one s e.said) ih ∙ added_behind s e.said (added s (deeds p log)) (added s (deeds (only t) log)))
  | inr y ↦ elim (cases_Bool (p e.txn)) [
    | inl x ↦ rw (x, y) (ap (added_one s e.said) ih ∙ added_over s e.said (added s (deeds p log)) (added s (deeds (only t) log)) (λ z. no_use s (deeds (only t) log) (unused (uses_send s) log t e.txn k y ((may s).alone_send z))))
    | inr x ↦ rw (x, y) ih
  ]
]

added_both : (s : ℕ) (t : Txn) (p : Txn → Bool) (log : List Record) → p t ≡ false → KeepsRules log → has_end log t ≡ false → added s (deeds (with_one p t) log) ≡ added s (deeds p log) ++ added s (deeds (only t) log)
added_both s t p [] n g k = refl
added_both s t p (r ∷ log) n g k =
    let q = or_parts (ends_txn t r) (has_end log t) k in
    added_step s t p (ending r) log n g.0 q.1 (added_both s t p log n g.2 q.1)

removed_step : (s : ℕ) (t : Txn) (p : Txn → Bool) (w : Option Ending) (log : List Record) → p t ≡ false
    → removed s (deeds (with_one p t) log) ≡ removed s (deeds p log) + removed s (deeds (only t) log)
    → removed s (kept (with_one p t) w (deeds (with_one p t) log)) ≡ removed s (kept p w (deeds p log)) + removed s (kept (only t) w (deeds (only t) log))
removed_step s t p None log n ih = ih
removed_step s t p (Some e) log n ih = elim (cases_Bool (same_txn e.txn t)) [
  | inl y ↦ let x : p e.txn ≡ false = ap p (same_is e.txn t y) ∙ n in rw (x, y) (omega (arith, ih))
  | inr y ↦ elim (cases_Bool (p e.txn)) [ inl x ↦ rw (x, y) (omega (arith, ih)) | inr x ↦ rw (x, y) ih ]
]

pub removed_both : (s : ℕ) (t : Txn) (p : Txn → Bool) (log : List Record) → p t ≡ false → removed s (deeds (with_one p t) log) ≡ removed s (deeds p log) + removed s (deeds (only t) log)
removed_both s t p [] n = omega arith
removed_both s t p (r ∷ log) n = removed_step s t p (ending r) log n (removed_both s t p log n)

or_swap : (a b c d : Bool) → b ≡ (c || d) → (a || b) ≡ (c || (a || d))
or_swap true b true d e = refl
or_swap true b false d e = refl
or_swap false b c d e = e

or_join : (a b c d : Bool) → b ≡ (c || d) → (a || b) ≡ ((a || c) || d)
or_join true b c d e = refl
or_join false b c d e = e

closed_step : (s : ℕ) (t : Txn) (p : Txn → Bool) (w : Option Ending) (log : List Record) → p t ≡ false
    → closed s (deeds (with_one p t) log) ≡ (closed s (deeds p log) || closed s (deeds (only t) log))
    → closed s (kept (with_one p t) w (deeds (with_one p t) log)) ≡ (closed s (kept p w (deeds p log)) || closed s (kept (only t) w (deeds (only t) log)))
closed_step s t p None log n ih = ih
closed_step s t p (Some e) log n ih = elim (cases_Bool (same_txn e.txn t)) [
  | inl y ↦ let x : p e.txn ≡ false = ap p (same_is e.txn t y) ∙ n in rw (x, y) (or_swap (closed_one s e.said) _ (closed s (deeds p log)) _ ih)
  | inr y ↦ elim (cases_Bool (p e.txn)) [ inl x ↦ rw (x, y) (or_join (closed_one s e.said) _ (closed s (deeds p log)) _ ih) | inr x ↦ rw (x, y) ih ]
]

closed_both : (s : ℕ) (t : Txn) (p : Txn → Bool) (log : List Record) → p t ≡ false → closed s (deeds (with_one p t) log) ≡ (closed s (deeds p log) || closed s (deeds (only t) log))
closed_both s t p [] n = refl
closed_both s t p (r ∷ log) n = closed_step s t p (ending r) log n (closed_both s t p log n)

kept_agree : (p q : Txn → Bool) (w : Option Ending) (xs ys : List Said) → ((u : Txn) → p u ≡ q u) → xs ≡ ys → kept p w xs ≡ kept q w ys
kept_agree p q None xs ys f e = e
kept_agree p q (Some d) xs ys f e = ap (λ b. cond b (d.said ∷ xs) xs) (f d.txn) ∙ ap (λ l. cond (q d.txn) (d.said ∷ l) l) e

grows_one : (s : ℕ) (m : Message) (xs ys : List Message) → length xs ≤ length ys → length (added_one s (Added m) xs) ≤ length (added_one s (Added m) ys)
grows_one s m xs ys h = elim (cases_Bool (nat_eq m.sender s)) [ inl y ↦ rw y (omega (arith, h, length_push xs m, length_push ys m)) | inr n ↦ rw n h ]

added_grows : (s : ℕ) (d : Said) (xs ys : List Message) → length xs ≤ length ys → length (added_one s d xs) ≤ length (added_one s d ys)
added_grows s (Added m) xs ys h = grows_one s m xs ys h
added_grows s (Removed r) xs ys h = h
added_grows s (Ended r) xs ys h = h
added_grows s (Marked c tag) xs ys h = grows_one s (mark_of c tag) xs ys h

more_one : (s : ℕ) (m : Message) (xs : List Message) → length xs ≤ length (added_one s (Added m) xs)
more_one s m xs = elim (cases_Bool (nat_eq m.sender s)) [ inl y ↦ rw y (omega (arith, length_push xs m)) | inr n ↦ rw n (omega arith) ]

added_more : (s : ℕ) (d : Said) (xs : List Message) → length xs ≤ length (added_one s d xs)
added_more s (Added m) xs = more_one s m xs
added_more s (Removed r) xs = omega arith
added_more s (Ended r) xs = omega arith
added_more s (Marked c tag) xs = more_one s (mark_of c tag) xs

pub one_take : (s : ℕ) (d : Said) → uses_receive s d ≡ true → removed_one s d ≡ 1
one_take s (Added m) e = absurd (false≢true e)
one_take s (Removed r) e = rw e refl
one_take s (Ended r) e = absurd (false≢true e)
one_take s (Marked c tag) e = absurd (false≢true e)

last_more : (x : Message) (xs : List Message) (m : Message) (ms : List Message) → last_or x (xs ++ m ∷ ms) ≡ last_or m ms
last_more x [] m ms = refl
last_more x (y ∷ xs) m ms = last_more y xs m ms

pub commit_is_end : (log : List Record) (t : Txn) → has_commit log t ≡ true → has_end log t ≡ true
commit_is_end [] t e = e
commit_is_end (r ∷ log) t e = elim (or_cases (commits_txn t r) (has_commit log t) e) [
  | inl y ↦ or_left (ends_txn t r) (has_end log t) (or_left (commits_txn t r) _ y)
  | inr y ↦ or_right (ends_txn t r) (has_end log t) (commit_is_end log t y)
]

same_comm : (t u : Txn) → same_txn t u ≡ same_txn u t
same_comm t u = elim (cases_Bool (same_txn t u)) [
  | inl y ↦ y ∙ sym (ap (λ x. same_txn x t) (sym (same_is t u y)) ∙ same_self t)
  | inr n ↦ n ∙ sym (other_same u t (λ e. false≢true (sym n ∙ ap (λ x. same_txn t x) e ∙ same_self t)))
]

or_comm_same : (t u : Txn) (b : Bool) → (same_txn t u || b) ≡ (b || same_txn u t)
or_comm_same t u b = or_comm (same_txn t u) b ∙ ap (λ x. b || x) (same_comm t u)

pub deeds_agree : (p q : Txn → Bool) (log : List Record) → ((u : Txn) → p u ≡ q u) → deeds p log ≡ deeds q log
deeds_agree p q [] f = refl
deeds_agree p q (r ∷ log) f = kept_agree p q (ending r) (deeds p log) (deeds q log) f (deeds_agree p q log f)

added_less : (s : ℕ) (p q : Txn → Bool) (w : Option Ending) (log : List Record) → ((u : Txn) → q u ≡ true → p u ≡ true) → length (added s (deeds q log)) ≤ length (added s (deeds p log)) → length (added s (kept q w (deeds q log))) ≤ length (added s (kept p w (deeds p log)))
added_less s p q None log f ih = ih
added_less s p q (Some e) log f ih = elim (cases_Bool (q e.txn)) [
  | inl y ↦ rw (y, f e.txn y) (added_grows s e.said (added s (deeds q log)) (added s (deeds p log)) ih)
  | inr y ↦ elim (cases_Bool (p e.txn)) [ inl x ↦ rw (y, x) (omega (arith, ih, added_more s e.said (added s (deeds p log)))) | inr x ↦ rw (y, x) ih ]
]

pub added_fewer : (s : ℕ) (p q : Txn → Bool) (log : List Record) → ((u : Txn) → q u ≡ true → p u ≡ true) → length (added s (deeds q log)) ≤ length (added s (deeds p log))
added_fewer s p q [] f = omega arith
added_fewer s p q (r ∷ log) f = added_less s p q (ending r) log f (added_fewer s p q log f)

pub no_take : (s : ℕ) (d : Said) → uses_receive s d ≡ false → removed_one s d ≡ 0
no_take s (Added m) e = refl
no_take s (Removed r) e = rw e refl
no_take s (Ended r) e = refl
no_take s (Marked c tag) e = refl

removed_less : (s : ℕ) (p q : Txn → Bool) (w : Option Ending) (log : List Record)
    → ((u : Txn) → p u ≡ true → (q u ≡ true) ⊎ (any_use (uses_receive s) (kept (only u) w (deeds (only u) log)) ≡ false))
    → removed s (deeds p log) ≤ removed s (deeds q log) → removed s (kept p w (deeds p log)) ≤ removed s (kept q w (deeds q log))
removed_less s p q None log f ih = ih
removed_less s p q (Some e) log f ih = elim (cases_Bool (p e.txn)) [
  | inl y ↦ elim (cases_Bool (q e.txn)) [
    | inl x ↦ rw (y, x) (omega (arith, ih))
    | inr x ↦ elim (f e.txn y) [
      | inl z ↦ absurd (false≢true (sym x ∙ z))
      | inr z ↦ let v : (uses_receive s e.said || any_use (uses_receive s) (deeds (only e.txn) log)) ≡ false = rw (same_self e.txn) at z in
          let n : removed_one s e.said ≡ 0 = no_take s e.said (or_parts (uses_receive s e.said) (any_use (uses_receive s) (deeds (only e.txn) log)) v).0 in
          rw (y, x) (omega (arith, ih, n))
    ]
  ]
  | inr y ↦ elim (cases_Bool (q e.txn)) [ inl x ↦ rw (y, x) (omega (arith, ih)) | inr x ↦ rw (y, x) ih ]
]

use_less : (f : Said → Bool) (w : Option Ending) (u : Txn) (ds : List Said) → any_use f (kept (only u) w ds) ≡ false → any_use f ds ≡ false
use_less f None u ds e = e
use_less f (Some d) u ds e = elim (cases_Bool (same_txn d.txn u)) [
  | inl y ↦ let v : (f d.said || any_use f ds) ≡ false = rw y at e in (or_parts (f d.said) (any_use f ds) v).1
  | inr y ↦ rw y at e
]

pub removed_fewer : (s : ℕ) (p q : Txn → Bool) (log : List Record) → ((u : Txn) → p u ≡ true → (q u ≡ true) ⊎ (any_use (uses_receive s) (deeds (only u) log) ≡ false)) → removed s (deeds p log) ≤ removed s (deeds q log)
removed_fewer s p q [] f = omega arith
removed_fewer s p q (r ∷ log) f = removed_less s p q (ending r) log f
    (removed_fewer s p q log (λ u y. elim (f u y) [ inl x ↦ inl x | inr x ↦ inr (use_less (uses_receive s) (ending r) u (deeds (only u) log) x) ]))

-- p has every committed transaction and no aborted one
pub record IsAround (p : Txn → Bool) (log : List Record) : Type 0 where
  pub committed : (u : Txn) → has_commit log u ≡ true → p u ≡ true
  pub not_aborted : (u : Txn) → p u ≡ true → has_end log u ≡ true → has_commit log u ≡ true

around_less : (p : Txn → Bool) (r : Record) (log : List Record) → ((t : Txn) → ends_txn t r ≡ true → has_end log t ≡ false) → IsAround p (r ∷ log) → IsAround p log
around_less p r log once a = record {
  committed = λ u e. a.committed u (or_right (commits_txn u r) (has_commit log u) e);
  not_aborted = λ u e k. elim (or_cases (commits_txn u r) (has_commit log u) (a.not_aborted u e (or_right (ends_txn u r) (has_end log u) k))) [
    | inl y ↦ absurd (false≢true (sym (once u (or_left (commits_txn u r) _ y)) ∙ k))
    | inr y ↦ y
  ];
}

covered_step : (s : ℕ) (p : Txn → Bool) (w : Option Ending) (log : List Record) → EndingMay log w → IsAround p log → Covered s (deeds p log) → Covered s (kept p w (deeds p log))
covered_step s p None log may a c = c
covered_step s p (Some e) log may a c = elim (cases_Bool (p e.txn)) [
  | inr y ↦ rw y c
  | inl y ↦ rw y (elim (cases_Bool (uses_receive s e.said)) [
    | inr n ↦ (let h = covered_here s (deeds p log) c in let z = no_take s e.said n in omega (arith, h, z, added_more s e.said (added s (deeds p log))), c)
    | inl n ↦ (
      let few = removed_fewer s p (with_one (has_commit log) e.txn) log (λ u k. elim (cases_Bool (has_commit log u)) [
        | inl x ↦ inl (or_left (has_commit log u) (same_txn u e.txn) x)
        | inr x ↦ elim (cases_Bool (any_use (uses_receive s) (deeds (only u) log))) [
          | inr z ↦ inr z
          | inl z ↦ let live : has_end log u ≡ false = false_from_ne_true (has_end log u) (λ b. false≢true (sym x ∙ a.not_aborted u k b)) in
              let same : u ≡ e.txn = (may s).alone_receive n u (and_from (any_use (uses_receive s) (deeds (only u) log)) (not (has_end log u)) z (ap not live)) in
              inl (or_right (has_commit log u) (same_txn u e.txn) (ap (λ v. same_txn v e.txn) same ∙ same_self e.txn))
        ]
      ]) in
          let many = added_fewer s p (has_commit log) log a.committed in
          let more = (may s).has_more n in
          let one = one_take s e.said n in
          let kept_all = added_more s e.said (added s (deeds p log)) in
          omega (arith, few, many, more, one, kept_all),
      c,
    )
  ])
]

pub covered_log : (s : ℕ) (p : Txn → Bool) (log : List Record) → KeepsRules log → IsAround p log → Covered s (deeds p log)
covered_log s p [] g a = tt
covered_log s p (r ∷ log) g a = let b = around_less p r log g.1 a in covered_step s p (ending r) log g.0 b (covered_log s p log g.2 b)

pub around_itself : (log : List Record) → IsAround (has_commit log) log
around_itself log = record { committed = λ u e. e; not_aborted = λ u e k. e }

pub tag_more : (xs ys : List Message) → tag_of (xs ++ ys) ≡ tag_after (tag_of xs) ys
tag_more xs [] = ap tag_of (append-nil xs)
tag_more [] (m ∷ ms) = refl
tag_more (x ∷ xs) (m ∷ ms) = ap (λ (y : Message). y.tag) (last_more x xs m ms)

-- the commit of t adds what t did, as its own operations say, and changes nothing else
pub commit_adds : (s : ℕ) (t : Txn) (log : List Record) → KeepsRules (Commit t ∷ log) → content (Commit t ∷ log) s ≡ with_own s (deeds (only t) log) (content log s)
commit_adds s t log g =
    let p = has_commit log in
    let live : has_end log t ≡ false = g.1 t (or_left (same_txn t t) false (same_self t)) in
    let new : p t ≡ false = false_from_ne_true (p t) (λ e. false≢true (sym live ∙ commit_is_end log t e)) in
    let same : deeds (has_commit (Commit t ∷ log)) log ≡ deeds (with_one p t) log = deeds_agree (has_commit (Commit t ∷ log)) (with_one p t) log (λ u. or_comm_same t u (p u)) in
    let both : IsAround (has_commit (Commit t ∷ log)) log = around_less (has_commit (Commit t ∷ log)) (Commit t) log g.1 (around_itself (Commit t ∷ log)) in
    let whole : content (Commit t ∷ log) s ≡ shape s (deeds (with_one p t) log) = shape_is s (deeds (has_commit (Commit t ∷ log)) log) (covered_log s (has_commit (Commit t ∷ log)) log g.2 both) ∙ ap (shape s) same in
    let cov = covered_log s p log g.2 (around_itself log) in
    let old : content log s ≡ shape s (deeds p log) = shape_is s (deeds p log) cov in
    let own = deeds (only t) log in
    let here : removed s (deeds p log) ≤ length (added s (deeds p log)) = covered_here s (deeds p log) cov in
    whole ∙ group_is _ _ _ _ _ _ _ _ _ _
    (ap length (added_both s t p log new g.2 live) ∙ length-append (added s (deeds p log)) (added s own))
    (ap tag_of (added_both s t p log new g.2 live) ∙ tag_more (added s (deeds p log)) (added s own))
    (removed_both s t p log new)
    (closed_both s t p log new)
    (ap (λ n. drop n (added s (deeds (with_one p t) log))) (removed_both s t p log new)
    ∙ ap (drop (removed s (deeds p log) + removed s own)) (added_both s t p log new g.2 live)
    ∙ sym (drop-drop (removed s own) (removed s (deeds p log)) (added s (deeds p log) ++ added s own))
    ∙ ap (drop (removed s own)) (drop-append-le (removed s (deeds p log)) (added s (deeds p log)) (added s own) here))
    ∙ ap (with_own s own) (sym old)
