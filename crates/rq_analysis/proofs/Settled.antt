-- A sound store without rows has a log in which everything has ended.
use Rattle.std.proofs.Common.{◌≡◌, ℕ, List, [], ◌∷◌, refl, sym, ◌∙◌, ap, true, false, not, ◌&&◌, nat_eq, Option, Some, None, inl, inr}
use Rattle.std.proofs.lemmas.Bool.{cases_Bool, true≢false, or_left, or_right, not-true}
use Rattle.rq_model.specs.declared.txn.Sub.{Sub}
use Rattle.rq_model.specs.declared.txn.Txn.{Txn}
use Rattle.rq_model.specs.declared.record.Record.{Record}
use Rattle.rq_model.specs.declared.record.Record.TheVariants as records
use Rattle.rq_model.specs.Vocabulary.{In, same_txn, has_txn}
use Rattle.rq_model.specs.Content.{Ending, Said, ending, kept, deeds, has_end}
use Rattle.rq_model.specs.Unended.{any_record, operation_ended, has_pair, operations, unfinished, add_txn, workers, lost}
use Rattle.rq_model.proofs.Lists.{In-filter, same_self}
use Rattle.rq_model.proofs.Same.{In-append}
use Rattle.rq_page.specs.Sizes.{Sizes}
use Rattle.rq_txn.specs.Rows.{found_row}
use Rattle.rq_views.specs.Items.{items, operation}
use Rattle.rq_views.specs.Legal.{began, over, under_way}
use Rattle.rq_views.proofs.Overlay as ops
use Rattle.rq_store.specs.State.{State}
use Rattle.rq_store.specs.Settled.{IsSettled}
use Rattle.rq_store.proofs.Opening.{over_same}
use Rattle.rq_sound.specs.Sound.{IsSound}
use Rattle.rq_analysis.proofs.Lists.{nothing_in}

worker_one : (t : Txn) (x : Option Ending) (ts : List Txn) (ds : List Said) → (In t ts → ds ≡ [] → ⊥) → In t (add_txn x ts) → kept (λ u. same_txn u t) x ds ≡ [] → ⊥
worker_one t None ts ds ih i e = ih i e
worker_one t (Some x) ts ds ih i e = elim (cases_Bool (same_txn x.txn t)) [
  | inl y ↦ let bad : x.said ∷ ds ≡ [] = rw y at e in cc bad
  | inr n ↦
      let none : ds ≡ [] = rw n at e in
      elim (cases_Bool (has_txn x.txn ts)) [
        | inl there ↦ ih (rw there at i) none
        | inr off ↦ elim (In-append ts x.txn t (rw off at i)) [
          | inl j ↦ ih j none
          | inr is ↦ true≢false (sym (same_self t) ∙ ap (λ (u : Txn). same_txn u t) is ∙ n)
        ]
      ]
]

-- whoever ended an operation has a deed
pub worker_deeds : (t : Txn) (log : List Record) → In t (workers log) → deeds (λ u. same_txn u t) log ≡ [] → ⊥
worker_deeds t [] i e = i
worker_deeds t (r ∷ log) i e = worker_one t (ending r) (workers log) (deeds (λ u. same_txn u t) log) (worker_deeds t log) i e

-- an operation with a PageOp began
op_began : (z : Sizes) (p : Txn × ℕ) (log : List Record) → In p (operations log) → began (operation p.0 p.1) (items z log) ≡ true
op_began z p [] i = absurd i
op_began z p (records.PageOp t n page slot before after ∷ log) i = elim (cases_Bool (has_pair t n (operations log))) [
  | inl y ↦ or_right _ (began (operation p.0 p.1) (items z log)) (op_began z p log (rw y at i))
  | inr f ↦ elim (In-append (operations log) (t, n) p (rw f at i)) [
    | inl j ↦ or_right _ (began (operation p.0 p.1) (items z log)) (op_began z p log j)
    | inr is ↦ or_left _ (began (operation p.0 p.1) (items z log)) (ap (λ (q : Txn × ℕ). same_txn t q.0 && nat_eq n q.1) is ∙ ops.same_self (operation t n))
  ]
]
op_began z p (records.Commit t ∷ log) i = op_began z p log i
op_began z p (records.AbortEnd t ∷ log) i = op_began z p log i
op_began z p (records.Restart j ∷ log) i = op_began z p log i
op_began z p (records.Base many j ∷ log) i = op_began z p log i
op_began z p (_ ∷ log) i = or_right _ (began (operation p.0 p.1) (items z log)) (op_began z p log i)

-- where nothing is under way, no operation lacks its end
pub idle_unfinished : (z : Sizes) (log : List Record) → ((o : Sub) → under_way o (items z log) ≡ false) → unfinished log ≡ []
idle_unfinished z log idle = nothing_in (unfinished log) (λ p i.
    let g = In-filter (λ q. not (any_record (operation_ended q.0 q.1) log)) (operations log) p i in
    let open_one : over (operation p.0 p.1) (items z log) ≡ false = over_same z p.0 p.1 log ∙ not-true (any_record (operation_ended p.0 p.1) log) g.1 in
    let going : under_way (operation p.0 p.1) (items z log) ≡ true = rw (op_began z p log g.0, open_one) refl in
    true≢false (sym going ∙ idle (operation p.0 p.1)))

module _ (s : State) (k : IsSound s) (e : s.rows ≡ []) where
  settled : (t : Txn) → IsSettled s.sizes s.records t
  settled t = k.standing.others t (ap (found_row t) e)

  pub none_lost : lost s.records ≡ []
  none_lost = nothing_in (lost s.records) (λ t i.
      let g = In-filter (λ u. not (has_end s.records u)) (workers s.records) t i in
      worker_deeds t s.records g.0 ((settled t).unused (not-true (has_end s.records t) g.1)))

  pub none_unfinished : unfinished s.records ≡ []
  none_unfinished = idle_unfinished s.sizes s.records (λ o. (settled o.txn).idle o.number)
