-- A transaction that has not ended took no more than is committed and not taken.
use Rattle.std.proofs.Common.{◌≡◌, ℕ, ◌<◌, ◌≤◌, List, [], ◌∷◌, length, refl, sym, ◌∙◌, ap, subst, Bool, true, false, not, Option, Some, None, ◌⊎◌, inl, inr, arith, ◌||◌, ◌&&◌}
use Rattle.std.proofs.lemmas.Bool.{cases_Bool, or_cases, or_parts, or_left, or_right, or_from, and_parts, and_from, false≢true, false_from_ne_true, not-true}
use Rattle.rq_model.specs.declared.txn.Txn.{Txn}
use Rattle.rq_model.specs.declared.record.Record.{Record}
use Rattle.rq_model.specs.declared.record.Record.TheVariants.{OpEnd, Commit, AbortEnd}
use Rattle.rq_model.specs.Vocabulary.{same_txn}
use Rattle.rq_model.specs.Content.{Said, Ending, ending, ends_txn, has_commit, has_end, kept, deeds, added, removed, removed_one}
use Rattle.rq_model.specs.Rules.{uses_receive, any_use, holds, EndingMay, KeepsRules}
use Rattle.rq_model.proofs.Lists.{same_is, same_self}
use Rattle.rq_model.proofs.Commits.{only, with_one, no_take, one_take, added_fewer, removed_fewer}
use Rattle.rq_model.proofs.Told.{not_yet}

open_still : (t : Txn) (r : Record) (log : List Record) (u : Bool) → (u && not (ends_txn t r || has_end log t)) ≡ true → (u ≡ true) × (has_end log t ≡ false)
open_still t r log u e =
    let p = and_parts u (not (ends_txn t r || has_end log t)) e in
    let q : (ends_txn t r || has_end log t) ≡ false = not-true (ends_txn t r || has_end log t) p.1 in
    (p.0, (or_parts (ends_txn t r) (has_end log t) q).1)

-- whoever uses the end after a record used it before or uses it now
user : (f : Said → Bool) (w : Option Ending) (t : Txn) (ds : List Said) → any_use f (kept (only t) w ds) ≡ true → (any_use f ds ≡ true) ⊎ ((e : Ending) × (w ≡ Some e) × (e.txn ≡ t) × (f e.said ≡ true))
user f None t ds h = inl h
user f (Some e) t ds h = elim (cases_Bool (same_txn e.txn t)) [
  | inl y ↦ let v : (f e.said || any_use f ds) ≡ true = rw y at h in elim (or_cases (f e.said) (any_use f ds) v) [ inl a ↦ inr (e, refl, same_is e.txn t y, a) | inr a ↦ inl a ]
  | inr n ↦ inl (rw n at h)
]

held_now : (f : Said → Bool) (log : List Record) (t : Txn) → any_use f (deeds (only t) log) ≡ true → has_end log t ≡ false → holds f log t ≡ true
held_now f log t a e = and_from (any_use f (deeds (only t) log)) (not (has_end log t)) a (ap not e)

-- who uses a receiving end and has not ended holds it alone, before a record and after it
abbrev User : ℕ → List Record → Option Ending → Txn → Type 0
User s log w t = (any_use (uses_receive s) (deeds (only t) log) ≡ true) ⊎ ((e : Ending) × (w ≡ Some e) × (e.txn ≡ t) × (uses_receive s e.said ≡ true))

alone_at : (s : ℕ) (log : List Record) (w : Option Ending) → EndingMay log w → (e : Ending) → w ≡ Some e → uses_receive s e.said ≡ true → (u : Txn) → holds (uses_receive s) log u ≡ true → u ≡ e.txn
alone_at s log None may e k a u h = cc
alone_at s log (Some d) may e k a u h =
    let x : d ≡ e = cc in
    (may s).alone_receive (ap (λ (y : Ending). uses_receive s y.said) x ∙ a) u h ∙ ap (λ (y : Ending). y.txn) x

both_users : (s : ℕ) (log : List Record) (w : Option Ending) → EndingMay log w → ((t u : Txn) → holds (uses_receive s) log t ≡ true → holds (uses_receive s) log u ≡ true → t ≡ u)
    → (t u : Txn) → User s log w t → User s log w u → has_end log t ≡ false → has_end log u ≡ false → t ≡ u
both_users s log w may ih t u x y a b = elim x [
  | inl p ↦ elim y [
    | inl q ↦ ih t u (held_now (uses_receive s) log t p a) (held_now (uses_receive s) log u q b)
    | inr q ↦ alone_at s log w may q.0 q.1 q.3 t (held_now (uses_receive s) log t p a) ∙ q.2
  ]
  | inr p ↦ elim y [
    | inl q ↦ sym (alone_at s log w may p.0 p.1 p.3 u (held_now (uses_receive s) log u q b) ∙ p.2)
    | inr q ↦ sym p.2 ∙ (let z : p.0 ≡ q.0 = cc (p.1, q.1) in ap (λ (e : Ending). e.txn) z) ∙ q.2
  ]
]

-- at most one transaction holds a receiving end
pub one_receiver : (s : ℕ) (log : List Record) → KeepsRules log → (t u : Txn) → holds (uses_receive s) log t ≡ true → holds (uses_receive s) log u ≡ true → t ≡ u
one_receiver s [] g t u a b = absurd (false≢true a)
one_receiver s (r ∷ log) g t u a b =
    let f = uses_receive s in
    let x = open_still t r log (any_use f (deeds (only t) (r ∷ log))) a in
    let y = open_still u r log (any_use f (deeds (only u) (r ∷ log))) b in
    both_users s log (ending r) g.0 (one_receiver s log g.2) t u (user f (ending r) t (deeds (only t) log) x.0) (user f (ending r) u (deeds (only u) log) y.0) x.1 y.1

abbrev Bound : ℕ → List Record → Txn → Type 0
Bound s log t = removed s (deeds (with_one (has_commit log) t) log) ≤ length (added s (deeds (has_commit log) log))

-- an operation that ends
within_end : (s : ℕ) (log : List Record) (w : Option Ending) (t : Txn) → EndingMay log w → Bound s log t
    → removed s (kept (with_one (has_commit log) t) w (deeds (with_one (has_commit log) t) log)) ≤ length (added s (kept (has_commit log) w (deeds (has_commit log) log)))
within_end s log None t may ih = ih
within_end s log (Some e) t may ih =
    let n : has_commit log e.txn ≡ false = not_yet log e.txn (may s).not_ended in
    rw n (elim (cases_Bool (same_txn e.txn t)) [
      | inr k ↦ let z : with_one (has_commit log) t e.txn ≡ false = or_from (has_commit log e.txn) (same_txn e.txn t) n k in rw k ih
      | inl y ↦ rw y (elim (cases_Bool (uses_receive s e.said)) [
        | inr k ↦ let z : removed_one s e.said ≡ 0 = no_take s e.said k in omega (arith, ih, z)
        | inl k ↦ let z : removed_one s e.said ≡ 1 = one_take s e.said k in
            let m = subst (λ (x : Txn). removed s (deeds (with_one (has_commit log) x) log) < length (added s (deeds (has_commit log) log))) (same_is e.txn t y) ((may s).has_more k) in
            omega (arith, m, z)
      ])
    ])

-- a commit of another
within_commit : (s : ℕ) (u t : Txn) (log : List Record) → KeepsRules log → has_end log u ≡ false → has_end log t ≡ false → same_txn u t ≡ false → Bound s log t → Bound s log u → Bound s (Commit u ∷ log) t
within_commit s u t log g a b n it iu =
    let p = has_commit log in
    let p' = has_commit (Commit u ∷ log) in
    let f = uses_receive s in
    let more : length (added s (deeds p log)) ≤ length (added s (deeds p' log)) = added_fewer s p' p log (λ x e. or_right (same_txn u x) (p x) e) in
    elim (cases_Bool (any_use f (deeds (only u) log))) [
      | inr idle ↦
          let fewer : removed s (deeds (with_one p' t) log) ≤ removed s (deeds (with_one p t) log) = removed_fewer s (with_one p' t) (with_one p t) log (λ x e.
          elim (or_cases (p' x) (same_txn x t) e) [
            | inl k ↦ elim (or_cases (same_txn u x) (p x) k) [
              | inl j ↦ inr (subst (λ (v : Txn). any_use f (deeds (only v) log) ≡ false) (same_is u x j) idle)
              | inr j ↦ inl (or_left (p x) (same_txn x t) j)
            ]
            | inr k ↦ inl (or_right (p x) (same_txn x t) k)
          ]) in
          omega (arith, fewer, it, more)
      | inl used ↦
          let unused_t : any_use f (deeds (only t) log) ≡ false = false_from_ne_true (any_use f (deeds (only t) log)) (λ k.
          let w : u ≡ t = one_receiver s log g u t (held_now f log u used a) (held_now f log t k b) in
          false≢true (sym n ∙ ap (λ (x : Txn). same_txn u x) (sym w) ∙ same_self u)) in
          let fewer : removed s (deeds (with_one p' t) log) ≤ removed s (deeds (with_one p u) log) = removed_fewer s (with_one p' t) (with_one p u) log (λ x e.
          elim (or_cases (p' x) (same_txn x t) e) [
            | inl k ↦ elim (or_cases (same_txn u x) (p x) k) [
              | inl j ↦ inl (or_right (p x) (same_txn x u) (ap (λ (v : Txn). same_txn v u) (sym (same_is u x j)) ∙ same_self u))
              | inr j ↦ inl (or_left (p x) (same_txn x u) j)
            ]
            | inr k ↦ inr (subst (λ (v : Txn). any_use f (deeds (only v) log) ≡ false) (sym (same_is x t k)) unused_t)
          ]) in
          omega (arith, fewer, iu, more)
    ]

commit_ends : (u : Txn) → ends_txn u (Commit u) ≡ true
commit_ends u = or_left (same_txn u u) false (same_self u)

or_parts_left : (u t : Txn) (log : List Record) → has_end (Commit u ∷ log) t ≡ false → (same_txn u t || has_end log t) ≡ false
or_parts_left u t log e = let p = or_parts (same_txn u t || false) (has_end log t) e in or_from (same_txn u t) (has_end log t) (or_parts (same_txn u t) false p.0).0 p.1

-- what a transaction that has not ended took, with what is committed taken, is no more than is committed sent
pub within_log : (s : ℕ) (log : List Record) → KeepsRules log → (t : Txn) → has_end log t ≡ false → Bound s log t
within_log s [] g t e = omega arith
within_log s (OpEnd u n level deed ∷ log) g t e = within_end s log (ending (OpEnd u n level deed)) t g.0 (within_log s log g.2 t e)
within_log s (AbortEnd u ∷ log) g t e = within_log s log g.2 t (or_parts (same_txn u t) (has_end log t) e).1
within_log s (Commit u ∷ log) g t e =
    let x = or_parts (same_txn u t) (has_end log t) (or_parts_left u t log e) in
    within_commit s u t log g.2 (g.1 u (commit_ends u)) x.1 x.0 (within_log s log g.2 t x.1) (within_log s log g.2 u (g.1 u (commit_ends u)))
within_log s (_ ∷ log) g t e = within_log s log g.2 t e
