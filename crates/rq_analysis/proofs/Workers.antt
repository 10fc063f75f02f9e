-- Who finished an operation in a log and has not ended: each once, and of the running incarnation.
use Rattle.std.proofs.Common.{◌≡◌, ◌<◌, ◌≤◌, Bool, true, false, not, cond, ◌||◌, List, [], ◌∷◌, ◌++◌, Option, Some, None, inl, inr, refl, sym, ◌∙◌, ap, arith}
use Rattle.std.specs.List.{filter}
use Rattle.std.proofs.lemmas.Bool.{cases_Bool, true≢false, false≢true, or_parts, or_from, or_cases, or_left, or_right, cases_lt, not-true}
use Rattle.rq_model.specs.declared.txn.Txn.{Txn}
use Rattle.rq_model.specs.declared.record.Deed.{Deed}
use Rattle.rq_model.specs.declared.record.Record.{Record}
use Rattle.rq_model.specs.declared.record.Record.TheVariants as records
use Rattle.rq_model.specs.Vocabulary.{In, Op, same_txn, has_txn}
use Rattle.rq_model.specs.Deeds.{deed_by}
use Rattle.rq_model.specs.Commits.{op_of, ops_told}
use Rattle.rq_model.specs.Content.{Ending, Said, ending, ending_by, kept, deeds, has_end}
use Rattle.rq_model.specs.Incarnations.{InOrder, incarnation_of, txn_of}
use Rattle.rq_model.specs.Rules.{any_use}
use Rattle.rq_model.specs.Unended.{add_txn, workers, lost, any_record}
use Rattle.rq_model.proofs.Lists.{In-filter, same_is, same_self, or_swap}
use Rattle.rq_model.proofs.Ends.{in_has}
use Rattle.rq_page.specs.Sizes.{Sizes}
use Rattle.rq_views.specs.Groups.{side}
use Rattle.rq_views.specs.InStore.{IsStranger, mentions}
use Rattle.rq_views.specs.Items.{items, layout_of, ReadsItsDeeds}
use Rattle.rq_views.specs.Legal.{IsLegalLog, Placed, has_deed, open_deeds}
use Rattle.rq_views.specs.Legal as legal
use Rattle.rq_views.proofs.OpenCounts.{AreApart}
use Rattle.rq_views.proofs.Rules.{unused}
use Rattle.rq_views.proofs.Strangers.{has_end_same, stranger_told}
use Rattle.rq_store.specs.Whole.{AreBehind}
use Rattle.rq_store.proofs.Behind.{deed_behind}
use Rattle.rq_model.specs.Bases.{earlier}
use Rattle.rq_analysis.specs.Lost.{begins_in, count_of}
use Rattle.rq_analysis.proofs.Lists.{nothing_in}
use Rattle.rq_analysis.proofs.Settled.{worker_deeds}

has_behind : (t u : Txn) (ts : List Txn) → has_txn t (ts ++ u ∷ []) ≡ (same_txn u t || has_txn t ts)
has_behind t u [] = refl
has_behind t u (v ∷ ts) = ap (λ b. same_txn v t || b) (has_behind t u ts) ∙ or_swap (same_txn v t) (same_txn u t) (has_txn t ts)

-- who is among the workers once one more operation has ended
has_added : (t u : Txn) (ts : List Txn) → has_txn t (cond (has_txn u ts) ts (ts ++ u ∷ [])) ≡ (same_txn u t || has_txn t ts)
has_added t u ts = elim (cases_Bool (has_txn u ts)) [
  | inl y ↦ rw y (elim (cases_Bool (same_txn u t)) [
    | inl own ↦ ap (λ (v : Txn). has_txn v ts) (sym (same_is u t own)) ∙ y ∙ sym (ap (λ b. b || has_txn t ts) own)
    | inr other ↦ sym (ap (λ b. b || has_txn t ts) other)
  ])
  | inr n ↦ rw n (has_behind t u ts)
]

-- each worker stands once
apart_behind : (ts : List Txn) (u : Txn) → AreApart ts → has_txn u ts ≡ false → AreApart (ts ++ u ∷ [])
apart_behind [] u a n = (refl, tt)
apart_behind (t ∷ ts) u a n =
    let p = or_parts (same_txn t u) (has_txn u ts) n in
    let turned : same_txn u t ≡ false = elim (cases_Bool (same_txn u t)) [
      | inl y ↦ absurd (true≢false (sym (same_self t) ∙ ap (λ (v : Txn). same_txn t v) (sym (same_is u t y)) ∙ p.0))
      | inr m ↦ m
    ] in
    (has_behind t u ts ∙ or_from (same_txn u t) (has_txn t ts) turned a.0, apart_behind ts u a.1 p.1)

apart_added : (x : Option Ending) (ts : List Txn) → AreApart ts → AreApart (add_txn x ts)
apart_added None ts a = a
apart_added (Some e) ts a = elim (cases_Bool (has_txn e.txn ts)) [
  | inl y ↦ rw y a
  | inr n ↦ rw n (apart_behind ts e.txn a n)
]

workers_apart : (log : List Record) → AreApart (workers log)
workers_apart [] = tt
workers_apart (r ∷ log) = apart_added (ending r) (workers log) (workers_apart log)

filter_off : (p : Txn → Bool) (ts : List Txn) (t : Txn) → has_txn t ts ≡ false → has_txn t (filter p ts) ≡ false
filter_off p [] t n = refl
filter_off p (u ∷ ts) t n =
    let k = or_parts (same_txn u t) (has_txn t ts) n in
    elim (cases_Bool (p u)) [
      | inl y ↦ rw y (or_from (same_txn u t) (has_txn t (filter p ts)) k.0 (filter_off p ts t k.1))
      | inr m ↦ rw m (filter_off p ts t k.1)
    ]

apart_filtered : (p : Txn → Bool) (ts : List Txn) → AreApart ts → AreApart (filter p ts)
apart_filtered p [] a = tt
apart_filtered p (t ∷ ts) a = elim (cases_Bool (p t)) [
  | inl y ↦ rw y (filter_off p ts t a.0, apart_filtered p ts a.1)
  | inr n ↦ rw n (apart_filtered p ts a.1)
]

pub lost_apart : (log : List Record) → AreApart (lost log)
lost_apart log = apart_filtered (λ t. not (has_end log t)) (workers log) (workers_apart log)

-- who is none of those that pass the test and passes it is none at all
filter_none : (p : Txn → Bool) (ts : List Txn) (t : Txn) → p t ≡ true → has_txn t (filter p ts) ≡ false → has_txn t ts ≡ false
filter_none p [] t e n = refl
filter_none p (u ∷ ts) t e n = elim (cases_Bool (p u)) [
  | inl y ↦
      let k = or_parts (same_txn u t) (has_txn t (filter p ts)) (rw y at n) in
      or_from (same_txn u t) (has_txn t ts) k.0 (filter_none p ts t e k.1)
  | inr m ↦
      let other : same_txn u t ≡ false = elim (cases_Bool (same_txn u t)) [
        | inl own ↦ absurd (true≢false (sym e ∙ ap p (sym (same_is u t own)) ∙ m))
        | inr off ↦ off
      ] in
      or_from (same_txn u t) (has_txn t ts) other (filter_none p ts t e (rw m at n))
]

-- who has not ended and is not lost ended no operation
pub not_lost : (log : List Record) (t : Txn) → has_txn t (lost log) ≡ false → has_end log t ≡ false → has_txn t (workers log) ≡ false
not_lost log t n running = filter_none (λ u. not (has_end log u)) (workers log) t (ap not running) n

kept_none : (t : Txn) (x : Option Ending) (ts : List Txn) (ds : List Said) → (has_txn t ts ≡ false → ds ≡ []) → has_txn t (add_txn x ts) ≡ false → kept (λ u. same_txn u t) x ds ≡ []
kept_none t None ts ds ih n = ih n
kept_none t (Some e) ts ds ih n =
    let k = or_parts (same_txn e.txn t) (has_txn t ts) (sym (has_added t e.txn ts) ∙ n) in
    ap (λ b. cond b (e.said ∷ ds) ds) k.0 ∙ ih k.1

pub no_deeds : (t : Txn) (log : List Record) → has_txn t (workers log) ≡ false → deeds (λ u. same_txn u t) log ≡ []
no_deeds t [] n = refl
no_deeds t (r ∷ log) n = kept_none t (ending r) (workers log) (deeds (λ u. same_txn u t) log) (no_deeds t log) n

none_placed : (ps : List Placed) → side (λ d. true) ps ≡ [] → ps ≡ []
none_placed [] e = refl
none_placed (p ∷ ps) e = cc

pub none_open : (z : Sizes) (t : Txn) (log : List Record) → ReadsItsDeeds log → deeds (λ u. same_txn u t) log ≡ [] → open_deeds t (items z log) ≡ []
none_open z t log reads e = none_placed (open_deeds t (items z log)) (unused (λ x. true) (λ d. true) (λ d. refl) z t log reads (ap (any_use (λ x. true)) e))

-- a worker has an OpEnd
ended_by : (t u : Txn) (x : Option Deed) (ts : List Txn) (b : Bool) → (has_txn t ts ≡ true → b ≡ true) → has_txn t (add_txn (ending_by u x) ts) ≡ true → (same_txn u t || b) ≡ true
ended_by t u None ts b ih h = or_right (same_txn u t) b (ih h)
ended_by t u (Some d) ts b ih h = elim (or_cases (same_txn u t) (has_txn t ts) (sym (has_added t u ts) ∙ h)) [
  | inl y ↦ or_left (same_txn u t) b y
  | inr n ↦ or_right (same_txn u t) b (ih n)
]

worker_did : (z : Sizes) (t : Txn) (log : List Record) → has_txn t (workers log) ≡ true → has_deed t (items z log) ≡ true
worker_did z t [] h = h
worker_did z t (records.OpEnd u n level deed ∷ log) h = ended_by t u (deed_by level deed) (workers log) (has_deed t (items z log)) (worker_did z t log) h
worker_did z t (_ ∷ log) h = worker_did z t log h

-- who did something and has not ended is of the running incarnation: a restart comes behind the ends of all
doer_now : (z : Sizes) (t : Txn) (log : List Record) → IsLegalLog (layout_of z) (items z log) → InOrder log → has_deed t (items z log) ≡ true → has_end log t ≡ false → t.incarnation ≡ incarnation_of log
doer_now z t [] k o h e = absurd (false≢true h)
doer_now z t (records.OpEnd u n level deed ∷ log) k o h e = elim (cases_Bool (same_txn u t)) [
  | inl own ↦ ap (λ (v : Txn). v.incarnation) (sym (same_is u t own)) ∙ o.0.1
  | inr other ↦ doer_now z t log k.1 o.1 (rw other at h) e
]
doer_now z t (records.Commit u ∷ log) k o h e = doer_now z t log k.1 o.1 h (or_parts _ (has_end log t) e).1
doer_now z t (records.AbortEnd u ∷ log) k o h e = doer_now z t log k.1 o.1 h (or_parts _ (has_end log t) e).1
doer_now z t (records.Restart i ∷ log) k o h e = absurd (true≢false (sym (k.0.ended t h) ∙ has_end_same z t log ∙ e))
doer_now z t (records.Base many i ∷ log) k o h e = absurd (true≢false (sym (k.0.ended t h) ∙ has_end_same z t log ∙ e))
doer_now z t (_ ∷ log) k o h e = doer_now z t log k.1 o.1 h e

pub lost_running : (log : List Record) (t : Txn) → In t (lost log) → has_end log t ≡ false
lost_running log t i = not-true (has_end log t) (In-filter (λ u. not (has_end log u)) (workers log) t i).1

-- where whoever did something has ended, nobody is lost
pub ended_lost : (z : Sizes) (log : List Record) → ((t : Txn) → has_deed t (items z log) ≡ true → legal.has_end t (items z log) ≡ true) → lost log ≡ []
ended_lost z log ended = nothing_in (lost log) (λ t i.
    let g = In-filter (λ u. not (has_end log u)) (workers log) t i in
    true≢false (sym (ended t (worker_did z t log (in_has t (workers log) g.0))) ∙ has_end_same z t log ∙ lost_running log t i))

pub lost_now : (z : Sizes) (log : List Record) (t : Txn) → IsLegalLog (layout_of z) (items z log) → InOrder log → In t (lost log) → t.incarnation ≡ incarnation_of log
lost_now z log t k o i =
    let g = In-filter (λ u. not (has_end log u)) (workers log) t i in
    doer_now z t log k o (worker_did z t log (in_has t (workers log) g.0)) (not-true (has_end log t) g.1)

-- and began behind the Base
pub lost_behind : (z : Sizes) (log : List Record) (t : Txn) → IsLegalLog (layout_of z) (items z log) → AreBehind log → In t (lost log) → IsStranger t (earlier log)
lost_behind z log t k b i =
    let g = In-filter (λ u. not (has_end log u)) (workers log) t i in
    deed_behind z log t k b (worker_did z t log (in_has t (workers log) g.0)) (has_end_same z t log ∙ lost_running log t i)

-- who counts beyond every transaction of the log has no record there
other_count : (u t : Txn) → u.count < t.count → same_txn u t ≡ false
other_count u t lt = elim (cases_Bool (same_txn u t)) [
  | inl y ↦ let e : u.count ≡ t.count = ap (λ (v : Txn). v.count) (same_is u t y) in absurd (omega (arith, e, lt))
  | inr n ↦ n
]

not_mentioned : (t : Txn) (r : Record) → count_of (txn_of r) < t.count → mentions t r ≡ false
not_mentioned t (records.PageOp u n page slot before after) lt = other_count u t lt
not_mentioned t (records.PageUndo u n undone page slot after) lt = other_count u t lt
not_mentioned t (records.OpEnd u n level deed) lt = other_count u t lt
not_mentioned t (records.OpVoid u n) lt = other_count u t lt
not_mentioned t (records.CompEnd u n undone) lt = other_count u t lt
not_mentioned t (records.Commit u) lt = other_count u t lt
not_mentioned t (records.AbortEnd u) lt = other_count u t lt
not_mentioned t _ lt = refl

pub beyond : (t : Txn) (log : List Record) → begins_in log < t.count → IsStranger t log
beyond t [] lt = refl
beyond t (r ∷ log) lt = or_from (mentions t r) (any_record (mentions t) log) (not_mentioned t r (omega (arith, lt))) (beyond t log (omega (arith, lt)))

none_told : (ds : List Said) → ops_told ds ≡ [] → ds ≡ []
none_told [] e = refl
none_told (d ∷ ds) e = absurd (behind (ops_told ds) (op_of d) e) where
  behind : (xs : List Op) (x : Op) → xs ++ x ∷ [] ≡ [] → ⊥
  behind [] x e = cc
  behind (y ∷ xs) x e = cc

pub lost_counted : (log : List Record) (t : Txn) → In t (lost log) → t.count ≤ begins_in log
lost_counted log t i = elim (cases_lt (begins_in log) t.count) [
  | inl lt ↦
      let g = In-filter (λ u. not (has_end log u)) (workers log) t i in
      absurd (worker_deeds t log g.0 (none_told (deeds (λ u. same_txn u t) log) (stranger_told t log (beyond t log lt))))
  | inr ge ↦ ge
]
