-- What is noted of a legal log: the operations and transactions in it that have no end.
use Rattle.std.proofs.Common.{◌≡◌, ℕ, ◌+◌, ◌≤◌, List, [], ◌∷◌, ◌++◌, length, refl, sym, ◌∙◌, ap, Bool, true, false, not, ◌&&◌, ◌||◌, nat_eq, Option, Some, inl, inr, arith}
use Rattle.std.specs.List.{filter, list_any}
use Rattle.std.proofs.lemmas.Bool.{cases_Bool, true≢false, and_parts, eqb-true}
use Rattle.std.specs.Prelude.{map}
use Rattle.std.proofs.lemmas.List.{map-append}
use Rattle.std.proofs.Math.Bool.{or-false}
use Rattle.rq_views.specs.Log.{same_op}
use Rattle.rq_model.specs.declared.txn.Sub.{Sub}
use Rattle.rq_model.specs.declared.txn.Txn.{Txn}
use Rattle.rq_model.specs.declared.record.Record.{Record}
use Rattle.rq_model.specs.declared.record.Record.TheVariants as records
use Rattle.rq_model.specs.Vocabulary.{same_txn, has_txn}
use Rattle.rq_model.specs.Content.{Ending, ending, ending_by, has_end}
use Rattle.rq_model.specs.Unended.{any_record, operation_ended, has_pair, add_pair, operations, unfinished, add_txn, workers, lost}
use Rattle.rq_model.proofs.Lists.{same_is}
use Rattle.rq_page.specs.Sizes.{Sizes}
use Rattle.rq_views.specs.Legal.{IsLegalLog}
use Rattle.rq_views.specs.Items.{items, layout_of, operation, ReadsItsDeeds}
use Rattle.rq_views.proofs.Strangers.{has_end_same}
use Rattle.rq_model.specs.Incarnations.{InOrder, incarnation_of}
use Rattle.rq_store.proofs.Opening.{over_same}
use Rattle.rq_analysis.proofs.Settled.{idle_unfinished}
use Rattle.rq_analysis.proofs.Workers.{ended_lost}
use Rattle.rq_analysis.specs.OpenWorkView.{OpenWorkView, open_work_of, has_sub, with_sub, without_sub, with_txn, without_txn}

pub noted_incarnation : (log : List Record) → (open_work_of log).incarnation ≡ incarnation_of log
noted_incarnation [] = refl
noted_incarnation (records.Restart i ∷ log) = refl
noted_incarnation (records.Base many i ∷ log) = refl
noted_incarnation (_ ∷ log) = noted_incarnation log

-- one test after another
pub filter_twice : {X : Type 0} (f g : X → Bool) (xs : List X) → filter (λ x. not (f x || g x)) xs ≡ filter (λ x. not (f x)) (filter (λ x. not (g x)) xs)
filter_twice f g [] = refl
filter_twice f g (x ∷ xs) = elim (cases_Bool (g x)) [
  | inl y ↦ rw y (elim (cases_Bool (f x)) [ inl z ↦ rw z (filter_twice f g xs) | inr z ↦ rw z (filter_twice f g xs) ])
  | inr n ↦ rw n (elim (cases_Bool (f x)) [ inl z ↦ rw z (filter_twice f g xs) | inr z ↦ rw z (ap (λ l. x ∷ l) (filter_twice f g xs)) ])
]

filter_behind : {X : Type 0} (f : X → Bool) (xs : List X) (x : X) → f x ≡ true → filter f (xs ++ x ∷ []) ≡ filter f xs ++ x ∷ []
filter_behind f [] x e = rw e refl
filter_behind f (y ∷ xs) x e = elim (cases_Bool (f y)) [ inl h ↦ rw h (ap (λ l. y ∷ l) (filter_behind f xs x e)) | inr h ↦ rw h (filter_behind f xs x e) ]

-- what passes the test stays
pair_kept : (f : (Txn × ℕ) → Bool) (ps : List (Txn × ℕ)) (t : Txn) (n : ℕ) → f (t, n) ≡ true → has_pair t n (filter f ps) ≡ has_pair t n ps
pair_kept f [] t n e = refl
pair_kept f (p ∷ ps) t n e = elim (cases_Bool (f p)) [
  | inl y ↦ rw y (ap (λ b. (same_txn p.0 t && nat_eq p.1 n) || b) (pair_kept f ps t n e))
  | inr off ↦ rw off (elim (cases_Bool (same_txn p.0 t && nat_eq p.1 n)) [
    | inl own ↦
        let k = and_parts (same_txn p.0 t) (nat_eq p.1 n) own in
        absurd (true≢false (sym e ∙ ap (λ (v : Txn). f (v, n)) (sym (same_is p.0 t k.0)) ∙ ap (λ i. f (p.0, i)) (sym (eqb-true p.1 n k.1)) ∙ off))
    | inr other ↦ rw other (pair_kept f ps t n e)
  ])
]

txn_kept : (f : Txn → Bool) (ts : List Txn) (t : Txn) → f t ≡ true → has_txn t (filter f ts) ≡ has_txn t ts
txn_kept f [] t e = refl
txn_kept f (u ∷ ts) t e = elim (cases_Bool (f u)) [
  | inl y ↦ rw y (ap (λ b. same_txn u t || b) (txn_kept f ts t e))
  | inr off ↦ rw off (elim (cases_Bool (same_txn u t)) [
    | inl own ↦ absurd (true≢false (sym e ∙ ap f (sym (same_is u t own)) ∙ off))
    | inr other ↦ rw other (txn_kept f ts t e)
  ])
]

-- one more that passes the test
pair_more : (f : (Txn × ℕ) → Bool) (ps : List (Txn × ℕ)) (t : Txn) (n : ℕ) → f (t, n) ≡ true → filter f (add_pair (Some (t, n)) ps) ≡ add_pair (Some (t, n)) (filter f ps)
pair_more f ps t n e = elim (cases_Bool (has_pair t n ps)) [
  | inl y ↦ let k : has_pair t n (filter f ps) ≡ true = pair_kept f ps t n e ∙ y in rw y (rw k refl)
  | inr off ↦ let k : has_pair t n (filter f ps) ≡ false = pair_kept f ps t n e ∙ off in rw off (rw k (filter_behind f ps (t, n) e))
]

txn_more : (f : Txn → Bool) (ts : List Txn) (t : Txn) → f t ≡ true → filter f (with_txn t ts) ≡ with_txn t (filter f ts)
txn_more f ts t e = elim (cases_Bool (has_txn t ts)) [
  | inl y ↦ let k : has_txn t (filter f ts) ≡ true = txn_kept f ts t e ∙ y in rw y (rw k refl)
  | inr off ↦ let k : has_txn t (filter f ts) ≡ false = txn_kept f ts t e ∙ off in rw off (rw k (filter_behind f ts t e))
]

abbrev pub pair_of : Sub → Txn × ℕ
pair_of o = (o.txn, o.number)

abbrev pub pairs_of : List Sub → List (Txn × ℕ)
pairs_of os = map pair_of os

pairs_have : (t : Txn) (n : ℕ) (os : List Sub) → has_pair t n (pairs_of os) ≡ has_sub (operation t n) os
pairs_have t n [] = refl
pairs_have t n (u ∷ os) = ap (λ b. (same_txn u.txn t && nat_eq u.number n) || b) (pairs_have t n os)

pairs_with : (t : Txn) (n : ℕ) (os : List Sub) → pairs_of (with_sub (operation t n) os) ≡ add_pair (Some (t, n)) (pairs_of os)
pairs_with t n os = elim (cases_Bool (has_sub (operation t n) os)) [
  | inl y ↦ let k : has_pair t n (pairs_of os) ≡ true = pairs_have t n os ∙ y in rw y (rw k refl)
  | inr off ↦ let k : has_pair t n (pairs_of os) ≡ false = pairs_have t n os ∙ off in rw off (rw k (map-append pair_of os (operation t n ∷ [])))
]

pairs_without : (t : Txn) (n : ℕ) (os : List Sub) → pairs_of (without_sub (operation t n) os) ≡ filter (λ p. not (same_txn t p.0 && nat_eq n p.1)) (pairs_of os)
pairs_without t n [] = refl
pairs_without t n (u ∷ os) = elim (cases_Bool (same_txn t u.txn && nat_eq n u.number)) [
  | inl y ↦ rw y (pairs_without t n os)
  | inr off ↦ rw off (ap (λ l. (u.txn, u.number) ∷ l) (pairs_without t n os))
]

-- where operations were noted, one more end
ended_more : (t : Txn) (n : ℕ) (os : List Sub) (log : List Record) → pairs_of os ≡ unfinished log → pairs_of (without_sub (operation t n) os) ≡ filter (λ p. not ((same_txn t p.0 && nat_eq n p.1) || any_record (operation_ended p.0 p.1) log)) (operations log)
ended_more t n os log h =
    pairs_without t n os ∙ ap (filter (λ p. not (same_txn t p.0 && nat_eq n p.1))) h
    ∙ sym (filter_twice (λ p. same_txn t p.0 && nat_eq n p.1) (λ p. any_record (operation_ended p.0 p.1) log) (operations log))

-- the operations noted are those that have no end
pub noted_unfinished : (z : Sizes) (log : List Record) → IsLegalLog (layout_of z) (items z log) → pairs_of (open_work_of log).unfinished ≡ unfinished log
noted_unfinished z [] k = refl
noted_unfinished z (records.PageOp t n page slot before after ∷ log) k =
    let e : any_record (operation_ended t n) log ≡ false = sym (over_same z t n log) ∙ k.0.going in
    pairs_with t n (open_work_of log).unfinished
    ∙ ap (add_pair (Some (t, n))) (noted_unfinished z log k.1)
    ∙ sym (pair_more (λ p. not (any_record (operation_ended p.0 p.1) log)) (operations log) t n (ap not e))
noted_unfinished z (records.OpEnd t n level deed ∷ log) k = ended_more t n (open_work_of log).unfinished log (noted_unfinished z log k.1)
noted_unfinished z (records.OpVoid t n ∷ log) k = ended_more t n (open_work_of log).unfinished log (noted_unfinished z log k.1)
noted_unfinished z (records.CompEnd t n undone ∷ log) k = ended_more t n (open_work_of log).unfinished log (noted_unfinished z log k.1)
noted_unfinished z (records.Base many i ∷ log) k = sym (idle_unfinished z log k.0.idle)
noted_unfinished z (_ ∷ log) k = noted_unfinished z log k.1

pub filter_same : {X : Type 0} (f g : X → Bool) (xs : List X) → ((x : X) → f x ≡ g x) → filter f xs ≡ filter g xs
filter_same f g xs h = let e : f ≡ g = λ i. λ x. h x i in ap (λ k. filter k xs) e

-- and the transactions those that are lost
pub noted_active : (z : Sizes) (log : List Record) → IsLegalLog (layout_of z) (items z log) → ReadsItsDeeds log → (open_work_of log).active ≡ lost log
noted_active z [] k r = refl
noted_active z (records.OpEnd t n level deed ∷ log) k r =
    let e : ending (records.OpEnd t n level deed) ≡ ending_by t (Some r.0.0.0) = ap (ending_by t) r.0.0.1 in
    let open_one : has_end log t ≡ false = sym (has_end_same z t log) ∙ k.0.running in
    ap (with_txn t) (noted_active z log k.1 r.1)
    ∙ sym (txn_more (λ u. not (has_end log u)) (workers log) t (ap not open_one))
    ∙ ap (λ (x : Option Ending). filter (λ u. not (has_end log u)) (add_txn x (workers log))) (sym e)
noted_active z (records.Commit t ∷ log) k r =
    ap (without_txn t) (noted_active z log k.1 r.1)
    ∙ sym (filter_twice (λ u. same_txn t u) (λ u. has_end log u) (workers log))
    ∙ filter_same (λ u. not (same_txn t u || has_end log u)) (λ u. not ((same_txn t u || false) || has_end log u)) (workers log) (λ u. ap (λ b. not (b || has_end log u)) (sym (or-false (same_txn t u))))
noted_active z (records.AbortEnd t ∷ log) k r = ap (without_txn t) (noted_active z log k.1 r.1) ∙ sym (filter_twice (λ u. same_txn t u) (λ u. has_end log u) (workers log))
noted_active z (records.Base many i ∷ log) k r = sym (ended_lost z log k.0.ended)
noted_active z (_ ∷ log) k r = noted_active z log k.1 r.1

-- there are no more incarnations than records
pub few_incarnations : (log : List Record) → InOrder log → incarnation_of log ≤ length log
few_incarnations [] o = omega arith
few_incarnations (records.Restart i ∷ log) o = let e : i ≡ incarnation_of log + 1 = o.0 in let ih = few_incarnations log o.1 in omega (arith, e, ih)
few_incarnations (records.Base many i ∷ log) o = let e : i ≡ incarnation_of log = o.0.1 in let ih = few_incarnations log o.1 in omega (arith, e, ih)
few_incarnations (_ ∷ log) o = let ih = few_incarnations log o.1 in omega (arith, ih)

-- a search of a list
pub any_sub : (o : Sub) (os : List Sub) → list_any (λ u. same_op u o) os ≡ has_sub o os
any_sub o [] = refl
any_sub o (u ∷ os) = ap (λ b. same_op u o || b) (any_sub o os)

pub any_txn : (t : Txn) (ts : List Txn) → list_any (λ u. same_txn u t) ts ≡ has_txn t ts
any_txn t [] = refl
any_txn t (u ∷ ts) = ap (λ b. same_txn u t || b) (any_txn t ts)

-- what is there stays as it is
pub sub_there : (os : List Sub) (o : Sub) → has_sub o os ≡ true → os ≡ with_sub o os
sub_there os o e = rw e refl

pub txn_there : (h : OpenWorkView) (t : Txn) → has_txn t h.active ≡ true → h ≡ record h { active = with_txn t h.active }
txn_there h t e = rw e refl
