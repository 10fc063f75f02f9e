-- Where a log may restart nothing is under way and nothing is open.
use Rattle.std.proofs.Common.{◌≡◌, ℕ, true, false, List, [], ◌∷◌, map, inl, inr, refl, sym, ◌∙◌, ap}
use Rattle.std.specs.List.{filter}
use Rattle.std.proofs.lemmas.Bool.{cases_Bool, false≢true, or_cases, or_parts, true≢false}
use Rattle.rq_model.specs.declared.txn.Sub.{Sub}
use Rattle.rq_model.specs.declared.txn.Txn.{Txn}
use Rattle.rq_model.specs.Vocabulary.{same_txn}
use Rattle.rq_model.proofs.Lists.{same_is, same_self}
use Rattle.rq_views.specs.Log.{Item, Places, same_op}
use Rattle.rq_views.specs.Log.Item.{PageOp, PageUndo, OpEnd, OpVoid, CompEnd, Commit, AbortEnd}
use Rattle.rq_views.specs.Legal.{IsLegalLog, MayRestart, began, has_deed, has_end, lsns, open_deeds, over, rest_placed, under_way}
use Rattle.rq_views.proofs.AllOpen.{Owned, all_open, own_open, owned_by, placed_of}

-- whoever did nothing has no open deed
idle_open : (t : Txn) (log : List Item) → has_deed t log ≡ false → open_deeds t log ≡ []
idle_open t [] h = refl
idle_open t (OpEnd o d ∷ log) h = let k = or_parts (same_txn o.txn t) (has_deed t log) h in rw k.0 (idle_open t log k.1)
idle_open t (CompEnd o u ∷ log) h = elim (cases_Bool (same_txn o.txn t)) [
  | inl y ↦ rw y (ap rest_placed (idle_open t log h))
  | inr n ↦ rw n (idle_open t log h)
]
idle_open t (Commit u ∷ log) h = elim (cases_Bool (same_txn u t)) [
  | inl y ↦ rw y refl
  | inr n ↦ rw n (idle_open t log h)
]
idle_open t (PageOp o w ∷ log) h = idle_open t log h
idle_open t (_ ∷ log) h = idle_open t log h

-- nor has who has ended
ended_open : (l : Places) (t : Txn) (log : List Item) → IsLegalLog l log → has_end t log ≡ true → open_deeds t log ≡ []
ended_open l t [] g h = absurd (false≢true h)
ended_open l t (OpEnd o d ∷ log) g h = elim (cases_Bool (same_txn o.txn t)) [
  | inl y ↦ absurd (true≢false (sym h ∙ ap (λ (u : Txn). has_end u log) (sym (same_is o.txn t y)) ∙ g.0.running))
  | inr n ↦ rw n (ended_open l t log g.1 h)
]
ended_open l t (CompEnd o u ∷ log) g h = elim (cases_Bool (same_txn o.txn t)) [
  | inl y ↦ rw y (ap rest_placed (ended_open l t log g.1 h))
  | inr n ↦ rw n (ended_open l t log g.1 h)
]
ended_open l t (Commit u ∷ log) g h = elim (cases_Bool (same_txn u t)) [
  | inl y ↦ rw y refl
  | inr n ↦ rw n (ended_open l t log g.1 (rw n at h))
]
ended_open l t (AbortEnd u ∷ log) g h = elim (or_cases (same_txn u t) (has_end t log) h) [
  | inl y ↦ ap (λ (v : Txn). open_deeds v log) (sym (same_is u t y)) ∙ g.0.empty
  | inr k ↦ ended_open l t log g.1 k
]
ended_open l t (PageOp o w ∷ log) g h = ended_open l t log g.1 h
ended_open l t (_ ∷ log) g h = ended_open l t log g.1 h

-- nobody's deeds are all
none_of : (os : List Owned) → ((t : Txn) → map placed_of (filter (owned_by t) os) ≡ []) → os ≡ []
none_of [] h = refl
none_of (o ∷ os) h = let own : owned_by o.txn o ≡ true = same_self o.txn in let bad : placed_of o ∷ map placed_of (filter (owned_by o.txn) os) ≡ [] = rw own at (h o.txn) in absurd (cc bad)

module _ (log : List Item) (i : ℕ) (k : MayRestart log i) where
  pub all_closed : (l : Places) → IsLegalLog l log → all_open log ≡ []
  all_closed l g = none_of (all_open log) (λ t. own_open t log ∙ elim (cases_Bool (has_deed t log)) [
    | inl y ↦ ended_open l t log g (k.ended t y)
    | inr n ↦ idle_open t log n
  ])

  -- an operation without an end never began
  pub unbegun : (o : Sub) → over o log ≡ false → began o log ≡ false
  unbegun o going = elim (cases_Bool (began o log)) [
    | inl y ↦ (let way : under_way o log ≡ true = rw (y, going) refl in absurd (true≢false (sym way ∙ k.idle o)))
    | inr n ↦ n
  ]

-- an operation that never began wrote nothing
pub unbegun_lsns : (o : Sub) (log : List Item) → began o log ≡ false → lsns o log ≡ []
unbegun_lsns o [] h = refl
unbegun_lsns o (PageOp u w ∷ log) h = let k = or_parts (same_op u o) (began o log) h in rw k.0 (unbegun_lsns o log k.1)
unbegun_lsns o (PageUndo u n at after ∷ log) h = let k = or_parts (same_op u o) (began o log) h in rw k.0 (unbegun_lsns o log k.1)
unbegun_lsns o (OpEnd u d ∷ log) h = unbegun_lsns o log (or_parts (same_op u o) (began o log) h).1
unbegun_lsns o (OpVoid u ∷ log) h = unbegun_lsns o log (or_parts (same_op u o) (began o log) h).1
unbegun_lsns o (CompEnd u n ∷ log) h = unbegun_lsns o log (or_parts (same_op u o) (began o log) h).1
unbegun_lsns o (_ ∷ log) h = unbegun_lsns o log h
