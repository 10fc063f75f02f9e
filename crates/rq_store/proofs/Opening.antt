-- A store that is opened over a legal log in which everything has ended.
use Rattle.std.proofs.Common.{◌≡◌, ℕ, zero, suc, ◌+◌, ◌<◌, ◌≤◌, ◌-◌, ◌&&◌, ◌||◌, List, [], ◌∷◌, ◌++◌, length, map, refl, sym, ◌∙◌, ap, subst, Bool, true, false, not, Option, Some, inl, inr, nat_eq, cond, arith}
use Rattle.std.specs.List.{filter}
use Rattle.std.specs.Prelude.{slice_index_or}
use Rattle.std.proofs.lemmas.Bool.{cases_Bool, cases_lt, le-ltb, lt-ltb, true≢false, false≢true, or_parts, or_from, and_parts, and_left, and_right, eqb-true, not-false, cases_eq}
use Rattle.std.proofs.lemmas.List.{length-append, length-map, map-append}
use Rattle.std.proofs.lemmas.List.Sums.{length-filter, count_by-le-length}
use Rattle.std.proofs.Math.Bool.{or-false, or_assoc}
use Rattle.rq_model.specs.declared.txn.Txn.{Txn}
use Rattle.rq_model.specs.declared.txn.Sub.{Sub}
use Rattle.rq_model.specs.declared.record.Record.{Record}
use Rattle.rq_model.specs.declared.record.Record.TheVariants as records
use Rattle.rq_model.specs.Vocabulary.{client_group, same_txn, has_txn}
use Rattle.rq_model.specs.Ledger.{Done, Ledger, after, rest_in, kept_in, sent_in, tag_of}
use Rattle.rq_model.specs.History.Entry.{Restarted}
use Rattle.rq_model.specs.Tests.{below, count_rest}
use Rattle.rq_model.specs.Content.{Ending, ending, ending_by, kept, deeds, has_end}
use Rattle.rq_model.specs.Unended.{any_record, operation_ended, has_pair, add_pair, operations, unfinished, add_txn, workers, lost}
use Rattle.rq_model.specs.Commits.{committed_of}
use Rattle.rq_model.proofs.Lists.{same_is}
use Rattle.rq_page.specs.Sizes.{Sizes, IsInRange, address, cell_count, cell_at, client_count, client_slot_at, sender_count, directory_at}
use Rattle.rq_page.specs.Slots.{Slot, held_in}
use Rattle.rq_views.specs.Log.{Slots, IsNewest, Untouched, same_op}
use Rattle.rq_views.specs.Chain.{View, message}
use Rattle.rq_views.specs.Groups.{committed}
use Rattle.rq_views.specs.Plans.{ShowsAt, ShowsTag, Spares}
use Rattle.rq_views.specs.Legal as ends
use Rattle.rq_views.specs.Legal.{IsLegalLog, has_deed, view, open_deeds, of_op, is_of, is_end, began, over, under_way, rest_placed}
use Rattle.rq_views.specs.Items.{items, item_of, layout_of, operation, ReadsItsDeeds}
use Rattle.rq_views.specs.InStore.{IsStranger, mentions}
use Rattle.rq_views.specs.Stored.{slots_in, count_used, is_used}
use Rattle.rq_views.proofs.Idle.{idle_quiet, idle_writes}
use Rattle.rq_views.proofs.Stands.{store_is_layout}
use Rattle.rq_views.proofs.Tags.{idle_tags}
use Rattle.rq_views.proofs.Views.{views}
use Rattle.rq_views.proofs.GroupRule.{settled_view}
use Rattle.rq_views.proofs.Overlay.{same_is as same_op_is}
use Rattle.rq_views.proofs.Strangers.{has_end_same}
use Rattle.rq_views.proofs.Rules.{ended}
use Rattle.rq_views.proofs.Settled.{settled_counts, rest_shown}
use Rattle.rq_views.proofs.Holding.{committed_is_group}
use Rattle.rq_groups.specs.Waiting.{waits}
use Rattle.rq_store.specs.State.{ledger_of}
use Rattle.rq_model.specs.Incarnations.{InOrder, IsNext, incarnation_of, incarnation_one}
use Rattle.rq_store.specs.Settled.{IsSettled}
use Rattle.rq_store.specs.Whole.{IsWhole}
use Rattle.rq_store.specs.Fitting.{left_by}
use Rattle.rq_store.specs.Opening.{next_restart, opened, messages_told, waiting_in, place_slot, sent_told, tag_told, sent_in_slots}
use Rattle.rq_store.specs.Sends.{KeepsSends, group_of, place_count}
use Rattle.rq_store.proofs.Within.{all_within}
use Rattle.rq_store.proofs.Grouping.{groups_of}

-- the item of a record ends the operations that the record ends
ends_operation : (z : Sizes) (t : Txn) (n : ℕ) (r : Record) → operation_ended t n r ≡ (is_end (item_of z r) && is_of (operation t n) (of_op (item_of z r)))
ends_operation z t n (records.PageOp u m page slot before after) = refl
ends_operation z t n _ = refl

pub over_same : (z : Sizes) (t : Txn) (n : ℕ) (log : List Record) → over (operation t n) (items z log) ≡ any_record (operation_ended t n) log
over_same z t n [] = refl
over_same z t n (r ∷ log) =
    ap (λ b. b || over (operation t n) (items z log)) (sym (ends_operation z t n r))
    ∙ ap (λ b. operation_ended t n r || b) (over_same z t n log)

-- one more pair hides none
pair_behind : (t : Txn) (n : ℕ) (ps : List (Txn × ℕ)) (p : Txn × ℕ) → has_pair t n (ps ++ p ∷ []) ≡ (has_pair t n ps || (same_txn p.0 t && nat_eq p.1 n))
pair_behind t n [] p = or-false (same_txn p.0 t && nat_eq p.1 n)
pair_behind t n (q ∷ ps) p =
    ap (λ b. (same_txn q.0 t && nat_eq q.1 n) || b) (pair_behind t n ps p) ∙ sym (or_assoc (same_txn q.0 t && nat_eq q.1 n) (has_pair t n ps) (same_txn p.0 t && nat_eq p.1 n))

-- a pair that is none of the list is none of what was there, and is not the one that was added
pair_added : (t : Txn) (n : ℕ) (u : Txn) (m : ℕ) (ps : List (Txn × ℕ)) → has_pair t n (add_pair (Some (u, m)) ps) ≡ false → (has_pair t n ps ≡ false) × ((same_txn u t && nat_eq m n) ≡ false)
pair_added t n u m ps h = elim (cases_Bool (has_pair u m ps)) [
  | inl y ↦
      let k : has_pair t n ps ≡ false = rw y at h in (
        k,
        elim (cases_Bool (same_txn u t && nat_eq m n)) [
          | inl own ↦
              let p = and_parts (same_txn u t) (nat_eq m n) own in
              let e : has_pair u m ps ≡ has_pair t n ps = ap (λ (v : Txn). has_pair v m ps) (same_is u t p.0) ∙ ap (λ i. has_pair t i ps) (eqb-true m n p.1) in
              absurd (true≢false (sym y ∙ e ∙ k))
          | inr other ↦ other
        ],
      )
  | inr f ↦
      let k : has_pair t n (ps ++ (u, m) ∷ []) ≡ false = rw f at h in
      or_parts (has_pair t n ps) (same_txn u t && nat_eq m n) (sym (pair_behind t n ps (u, m)) ∙ k)
]

-- what passes no test is none of the list
none_filtered : (f : (Txn × ℕ) → Bool) (ps : List (Txn × ℕ)) (t : Txn) (n : ℕ) → filter f ps ≡ [] → has_pair t n ps ≡ true → f (t, n) ≡ false
none_filtered f [] t n e h = absurd (false≢true h)
none_filtered f (p ∷ ps) t n e h = elim (cases_Bool (f p)) [
  | inl y ↦ let bad : p ∷ filter f ps ≡ [] = rw y at e in cc
  | inr no_f ↦
      let rest : filter f ps ≡ [] = rw no_f at e in
      elim (cases_Bool (same_txn p.0 t && nat_eq p.1 n)) [
        | inl own ↦
            let k = and_parts (same_txn p.0 t) (nat_eq p.1 n) own in
            ap (λ (v : Txn). f (v, n)) (sym (same_is p.0 t k.0)) ∙ ap (λ i. f (p.0, i)) (sym (eqb-true p.1 n k.1)) ∙ no_f
        | inr other ↦ none_filtered f ps t n rest (rw other at h)
      ]
]

-- where every operation with a slot write has its end, an operation that has none has written nothing, and has no record at all
never : (z : Sizes) (t : Txn) (n : ℕ) (log : List Record) → IsLegalLog (layout_of z) (items z log) → has_pair t n (operations log) ≡ false → over (operation t n) (items z log) ≡ false → ((left_by z log).writes (operation t n) ≡ []) × (began (operation t n) (items z log) ≡ false)
never z t n [] k h e = (refl, refl)
never z t n (records.PageOp u m page slot before after ∷ log) k h e =
    let p = pair_added t n u m (operations log) h in
    let ih = never z t n log k.1 p.0 e in
    (rw p.1 ih.0, or_from (same_op (operation u m) (operation t n)) (began (operation t n) (items z log)) p.1 ih.1)
never z t n (records.PageUndo u m undone page slot after ∷ log) k h e =
    let ih = never z t n log k.1 h e in
    elim (cases_Bool (same_op (operation u m) (operation t n))) [
      | inl own ↦
          let same : operation u m ≡ operation t n = same_op_is (operation u m) (operation t n) own in
          absurd (subst (λ ws. IsNewest ws (address page slot) (held_in z page after)) (ap (left_by z log).writes same ∙ ih.0) k.0.newest)
      | inr other ↦ (rw other ih.0, or_from (same_op (operation u m) (operation t n)) (began (operation t n) (items z log)) other ih.1)
    ]
never z t n (records.OpEnd u m level deed ∷ log) k h e =
    let p = or_parts (same_op (operation u m) (operation t n)) (over (operation t n) (items z log)) e in
    let ih = never z t n log k.1 h p.1 in
    (rw p.0 ih.0, or_from (same_op (operation u m) (operation t n)) (began (operation t n) (items z log)) p.0 ih.1)
never z t n (records.OpVoid u m ∷ log) k h e =
    let p = or_parts (same_op (operation u m) (operation t n)) (over (operation t n) (items z log)) e in
    let ih = never z t n log k.1 h p.1 in
    (rw p.0 ih.0, or_from (same_op (operation u m) (operation t n)) (began (operation t n) (items z log)) p.0 ih.1)
never z t n (records.CompEnd u m undone ∷ log) k h e =
    let p = or_parts (same_op (operation u m) (operation t n)) (over (operation t n) (items z log)) e in
    let ih = never z t n log k.1 h p.1 in
    (rw p.0 ih.0, or_from (same_op (operation u m) (operation t n)) (began (operation t n) (items z log)) p.0 ih.1)
never z t n (records.Commit u ∷ log) k h e = never z t n log k.1 h e
never z t n (_ ∷ log) k h e = never z t n log k.1 h e

-- no operation is under way
pub idle_log : (z : Sizes) (log : List Record) → IsLegalLog (layout_of z) (items z log) → unfinished log ≡ [] → (o : Sub) → under_way o (items z log) ≡ false
idle_log z log k none o =
    let t : Txn = o.txn in
    let n : ℕ = o.number in
    elim (cases_Bool (over o (items z log))) [
      | inl y ↦ rw y (and_right (began o (items z log)) false refl)
      | inr n_over ↦ elim (cases_Bool (has_pair t n (operations log))) [
        | inl y ↦
            let f : not (any_record (operation_ended t n) log) ≡ false = none_filtered (λ p. not (any_record (operation_ended p.0 p.1) log)) (operations log) t n none y in
            absurd (true≢false (sym (not-false (any_record (operation_ended t n) log) f) ∙ sym (over_same z t n log) ∙ n_over))
        | inr no_pair ↦ and_left (began o (items z log)) (not (over o (items z log))) (never z t n log k no_pair n_over).1
      ]
    ]

txn_behind : (t u : Txn) (ts : List Txn) → has_txn t (ts ++ u ∷ []) ≡ false → (has_txn t ts ≡ false) × (same_txn u t ≡ false)
txn_behind t u [] h = (refl, (or_parts (same_txn u t) false h).0)
txn_behind t u (v ∷ ts) h =
    let p = or_parts (same_txn v t) (has_txn t (ts ++ u ∷ [])) h in
    let q = txn_behind t u ts p.1 in
    (or_from (same_txn v t) (has_txn t ts) p.0 q.0, q.1)

txn_added : (t u : Txn) (ts : List Txn) → has_txn t (cond (has_txn u ts) ts (ts ++ u ∷ [])) ≡ false → (has_txn t ts ≡ false) × (same_txn u t ≡ false)
txn_added t u ts h = elim (cases_Bool (has_txn u ts)) [
  | inl y ↦
      let k : has_txn t ts ≡ false = rw y at h in
      (k, elim (cases_Bool (same_txn u t)) [ inl own ↦ absurd (true≢false (sym y ∙ ap (λ (v : Txn). has_txn v ts) (same_is u t own) ∙ k)) | inr other ↦ other ])
  | inr f ↦ txn_behind t u ts (rw f at h)
]

none_kept : (f : Txn → Bool) (ts : List Txn) (t : Txn) → filter f ts ≡ [] → has_txn t ts ≡ true → f t ≡ false
none_kept f [] t e h = absurd (false≢true h)
none_kept f (u ∷ ts) t e h = elim (cases_Bool (f u)) [
  | inl y ↦ let bad : u ∷ filter f ts ≡ [] = rw y at e in cc
  | inr no_f ↦ elim (cases_Bool (same_txn u t)) [
    | inl own ↦ ap f (sym (same_is u t own)) ∙ no_f
    | inr other ↦ none_kept f ts t (rw no_f at e) (rw other at h)
  ]
]

-- a transaction that ended no operation has no deeds
idler : (z : Sizes) (t : Txn) (log : List Record) → ReadsItsDeeds log → has_txn t (workers log) ≡ false → (open_deeds t (items z log) ≡ []) × (deeds (λ u. same_txn u t) log ≡ [])
idler z t [] r h = (refl, refl)
idler z t (records.PageOp u m page slot before after ∷ log) r h = idler z t log r.1 h
idler z t (records.OpEnd u m level deed ∷ log) r h =
    let e : ending (records.OpEnd u m level deed) ≡ ending_by u (Some r.0.0.0) = ap (ending_by u) r.0.0.1 in
    let p = txn_added t u (workers log) (ap (λ (x : Option Ending). has_txn t (add_txn x (workers log))) (sym e) ∙ h) in
    let ih = idler z t log r.1 p.0 in
    (rw p.1 ih.0, ap (λ (x : Option Ending). kept (λ v. same_txn v t) x (deeds (λ v. same_txn v t) log)) e ∙ rw p.1 ih.1)
idler z t (records.CompEnd u m undone ∷ log) r h =
    let ih = idler z t log r.1 h in
    (elim (cases_Bool (same_txn u t)) [ inl y ↦ rw y (ap rest_placed ih.0) | inr f ↦ rw f ih.0 ], ih.1)
idler z t (records.Commit u ∷ log) r h =
    let ih = idler z t log r.1 h in
    (elim (cases_Bool (same_txn u t)) [ inl y ↦ rw y refl | inr f ↦ rw f ih.0 ], ih.1)
idler z t (_ ∷ log) r h = idler z t log r.1 h

-- where no transaction is lost, one that has not ended ended no operation
no_worker : (log : List Record) (t : Txn) → lost log ≡ [] → has_end log t ≡ false → has_txn t (workers log) ≡ false
no_worker log t none running = elim (cases_Bool (has_txn t (workers log))) [
  | inl y ↦
      let f : not (has_end log t) ≡ false = none_kept (λ v. not (has_end log v)) (workers log) t none y in
      absurd (true≢false (sym (not-false (has_end log t) f) ∙ running))
  | inr n ↦ n
]

-- nothing is open
pub settled_log : (z : Sizes) (log : List Record) → IsWhole z log → lost log ≡ [] → (t : Txn) → open_deeds t (items z log) ≡ []
settled_log z log w none t = elim (cases_Bool (has_end log t)) [
  | inl y ↦ ended z t log w.legal y
  | inr n ↦ (idler z t log w.reads (no_worker log t none n)).0
]

-- a transaction of a later incarnation is another
other_incarnation : (u t : Txn) (i : ℕ) → u.incarnation ≡ i → i < t.incarnation → same_txn u t ≡ false
other_incarnation u t i e lt = elim (cases_Bool (same_txn u t)) [
  | inl y ↦ let s : u.incarnation ≡ t.incarnation = ap (λ (v : Txn). v.incarnation) (same_is u t y) in absurd (omega (arith, s, e, lt))
  | inr n ↦ n
]

not_mentioned : (t : Txn) (i : ℕ) (r : Record) → IsNext i r → i < t.incarnation → mentions t r ≡ false
not_mentioned t i (records.PageOp u m page slot before after) h lt = other_incarnation u t i h.1 lt
not_mentioned t i (records.PageUndo u m undone page slot after) h lt = other_incarnation u t i h.1 lt
not_mentioned t i (records.OpEnd u m level deed) h lt = other_incarnation u t i h.1 lt
not_mentioned t i (records.OpVoid u m) h lt = other_incarnation u t i h.1 lt
not_mentioned t i (records.CompEnd u m undone) h lt = other_incarnation u t i h.1 lt
not_mentioned t i (records.Commit u) h lt = other_incarnation u t i h.1 lt
not_mentioned t i (records.AbortEnd u) h lt = other_incarnation u t i h.1 lt
not_mentioned t i _ h lt = refl

-- each record's incarnation is the running one or an earlier one
incarnation_rises : (i : ℕ) (r : Record) → IsNext i r → i ≤ incarnation_one r i
incarnation_rises i (records.Restart j) h = let e : j ≡ i + 1 = h in omega (arith, e)
incarnation_rises i (records.Base many j) h = let e : j ≡ i = h.1 in omega (arith, e)
incarnation_rises i _ h = omega arith

-- no record is of an incarnation to come
pub later_stranger : (t : Txn) (log : List Record) → InOrder log → incarnation_of log < t.incarnation → IsStranger t log
later_stranger t [] o lt = refl
later_stranger t (r ∷ log) o lt =
    let up = incarnation_rises (incarnation_of log) r o.0 in
    let before : incarnation_of log < t.incarnation = omega (arith, up, lt) in
    or_from (mentions t r) (any_record (mentions t) log) (not_mentioned t (incarnation_of log) r o.0 before) (later_stranger t log o.1 before)

-- the count of used cells goes by what each slot holds
count_same : (z : Sizes) (q r : Slots) → ((a : ℕ) → q a ≡ r a) → count_used z q ≡ count_used z r
count_same z q r h = let e : q ≡ r = λ i. λ a. h a i in ap (count_used z) e

pub length_below : (n : ℕ) → length (below n) ≡ n
length_below zero = refl
length_below (suc n) = let a = length-append (below n) (n ∷ []) in let b = length_below n in omega (arith, a, b)

-- and is at most that of all cells
pub count_bound : (z : Sizes) (q : Slots) → count_used z q ≤ cell_count z
count_bound z q =
    let f : ℕ → Bool = λ i. is_used (q (cell_at z i)) in
    let a = length-filter f (below (cell_count z)) in
    let b = count_by-le-length f (below (cell_count z)) in
    let c = length_below (cell_count z) in
    omega (arith, a, b, c)

-- a list of what each sender has, read at one
pub told_below : (f : ℕ → ℕ) (n g : ℕ) → g < n → slice_index_or (map f (below n)) g 0 ≡ f g
told_below f zero g m = absurd (omega (arith, m))
told_below f (suc n) g m =
    let a = map-append f (below n) (n ∷ []) in
    let b : length (map f (below n)) ≡ n = length-map (below n) f ∙ length_below n in
    elim (cases_eq g n) [
      | inl e ↦ ap (λ l. slice_index_or l g 0) a ∙ ap (λ i. slice_index_or (map f (below n) ++ f n ∷ []) i 0) (e ∙ sym b) ∙ read_end (map f (below n)) (f n) ∙ ap f (sym e)
      | inr ne ↦ ap (λ l. slice_index_or l g 0) a ∙ read_front (map f (below n)) (f n) g (omega (arith, b, m, ne)) ∙ told_below f n g (omega (arith, m, ne))
    ]
  where
    read_end : (xs : List ℕ) (x : ℕ) → slice_index_or (xs ++ x ∷ []) (length xs) 0 ≡ x
    read_end [] x = refl
    read_end (y ∷ xs) x = read_end xs x

    read_front : (xs : List ℕ) (x g : ℕ) → g < length xs → slice_index_or (xs ++ x ∷ []) g 0 ≡ slice_index_or xs g 0
    read_front [] x g m = absurd (omega (arith, m))
    read_front (y ∷ xs) x zero m = refl
    read_front (y ∷ xs) x (suc g) m = read_front xs x g (omega (arith, m))

-- a transaction that ended no operation did nothing
idle_worker : (z : Sizes) (t : Txn) (log : List Record) → ReadsItsDeeds log → has_txn t (workers log) ≡ false → has_deed t (items z log) ≡ false
idle_worker z t [] r h = refl
idle_worker z t (records.PageOp u m page slot before after ∷ log) r h = idle_worker z t log r.1 h
idle_worker z t (records.OpEnd u m level deed ∷ log) r h =
    let e : ending (records.OpEnd u m level deed) ≡ ending_by u (Some r.0.0.0) = ap (ending_by u) r.0.0.1 in
    let p = txn_added t u (workers log) (ap (λ (x : Option Ending). has_txn t (add_txn x (workers log))) (sym e) ∙ h) in
    or_from (same_txn u t) (has_deed t (items z log)) p.1 (idle_worker z t log r.1 p.0)
idle_worker z t (_ ∷ log) r h = idle_worker z t log r.1 h

-- where no transaction is lost, whoever did something has ended
doers_ended : (z : Sizes) (log : List Record) → ReadsItsDeeds log → lost log ≡ [] → (t : Txn) → has_deed t (items z log) ≡ true → ends.has_end t (items z log) ≡ true
doers_ended z log r none t did = elim (cases_Bool (has_end log t)) [
  | inl y ↦ has_end_same z t log ∙ y
  | inr n ↦ absurd (true≢false (sym did ∙ idle_worker z t log r (no_worker log t none n)))
]

-- a log in which everything has ended, with the record that opens the store, is legal
pub restarted_whole : (z : Sizes) (log : List Record) → IsWhole z log → unfinished log ≡ [] → lost log ≡ [] → IsWhole z (next_restart log ∷ log)
restarted_whole z log w none_unfinished none_lost = record {
  legal = (record { idle = idle_log z log w.legal none_unfinished; ended = doers_ended z log w.reads none_lost }, w.legal);
  told = (tt, w.told);
  rules = (tt, (λ t e. absurd (false≢true e)), w.rules);
  reads = (tt, w.reads);
  in_store = (tt, w.in_store);
  befores = (tt, w.befores);
  based = (tt, w.based);
  behind = (tt, w.behind);
  order = (refl, w.order);
  room = (tt, w.room);
  numbers = (tt, w.numbers);
}

module _ (z : Sizes) (images : List (List ℕ)) (log : List Record) (range : IsInRange z) (w : IsWhole z log) (none_unfinished : unfinished log ≡ []) (none_lost : lost log ≡ [])
    (pages : (a : ℕ) → slots_in z images a ≡ (left_by z log).slots a) where
  abbrev new_log : List Record
  new_log = next_restart log ∷ log

  pub idle : (o : Sub) → under_way o (items z log) ≡ false
  idle = idle_log z log w.legal none_unfinished

  settled : (t : Txn) → open_deeds t (items z log) ≡ []
  settled = settled_log z log w none_lost

  pub settled_here : (t : Txn) → IsSettled z new_log t
  settled_here t = record {
    settled = settled t;
    unused = λ e. (idler z t log w.reads (no_worker log t none_lost e)).1;
    idle = λ n. idle (operation t n);
  }

  pub used_is : count_used z (left_by z log).quiet ≡ count_used z (slots_in z images)
  used_is = sym (count_same z (slots_in z images) (left_by z log).quiet (λ a. pages a ∙ idle_quiet (layout_of z) (items z log) w.legal idle a))

  pub counted : count_used z (slots_in z images) ≡ count_rest (below (sender_count z)) (committed_of log)
  counted = sym used_is ∙ settled_counts z log w.legal w.in_store (groups_of z log w) w.rules w.reads settled

  -- what waits is what the directory slots tell
  pub waits_here : (g : ℕ) → g < sender_count z → waits (waiting_in z images) g ≡ length (rest_in (committed_of log) g)
  waits_here g m =
      let v = views (layout_of z) (items z log) g (store_is_layout z) w.legal m (λ o. subst (Spares g) (sym (idle_writes (layout_of z) (items z log) o w.legal (idle o))) tt) in
      let d = v.directory in
      let a : waits (waiting_in z images) g ≡ messages_told (slots_in z images (directory_at g)) = told_below (λ s. messages_told (slots_in z images (directory_at s))) (sender_count z) g m in
      let b : messages_told (slots_in z images (directory_at g)) ≡ d.sent - d.received = ap messages_told (pages (directory_at g) ∙ v.at) in
      let c : length (view (items z log) g).messages ≡ length v.shows.nodes = ap (λ (l : List (ℕ × List ℕ)). length l) v.shows.messages ∙ length-map v.shows.nodes message in
      let e : length (view (items z log) g).messages ≡ length (committed (items z log) g).messages = ap (λ (x : View). length x.messages) (settled_view g (items z log) (groups_of z log w) settled) in
      let f = rest_shown z g log w.rules w.reads in
      let h = v.shows.sent in
      omega (arith, a, b, c, e, f, h)

  -- and what each sender's sends, and each client's marks, come to
  module _ (told : Slot → ℕ) (of : ℕ → ℕ) (sender : (g : ℕ) → g < sender_count z → told (slots_in z images (directory_at g)) ≡ of g)
      (client : (c : ℕ) → c < client_count z → told (slots_in z images (client_slot_at z c)) ≡ of (client_group c)) where
    told_at : (i : ℕ) → i < place_count z → waits (map (λ j. told (slots_in z images (place_slot z j))) (below (place_count z))) i ≡ of (group_of z i)
    told_at i m = told_below (λ j. told (slots_in z images (place_slot z j))) (place_count z) i m ∙ elim (cases_lt i (sender_count z)) [
      | inl y ↦ rw (lt-ltb i (sender_count z) y) (sender i y)
      | inr n ↦ rw (le-ltb i (sender_count z) n) (client (i - sender_count z) (omega (arith, m, n)))
    ]

  group_view : (g : ℕ) → view (items z log) g ≡ committed (items z log) g
  group_view g = settled_view g (items z log) (groups_of z log w) settled

  -- what a view holds and what was received of it was sent
  sent_view : (g n : ℕ) → n ≡ (view (items z log) g).received + length (view (items z log) g).messages → n ≡ length (sent_in (committed_of log) g)
  sent_view g n is =
      let d : length (view (items z log) g).messages ≡ length (committed (items z log) g).messages = ap (λ (x : View). length x.messages) (group_view g) in
      let e : (view (items z log) g).received ≡ (committed (items z log) g).received = ap (λ (x : View). x.received) (group_view g) in
      let f = (committed_is_group z g log w.rules w.reads).sent in
      omega (arith, is, d, e, f)

  tag_view : (g : ℕ) → (view (items z log) g).last_tag ≡ tag_of (sent_in (committed_of log) g)
  tag_view g = ap (λ (x : View). x.last_tag) (group_view g) ∙ (committed_is_group z g log w.rules w.reads).last_tag

  shown : (g : ℕ) → g < sender_count z → ShowsAt (layout_of z) (left_by z log).slots g (view (items z log) g)
  shown g m = views (layout_of z) (items z log) g (store_is_layout z) w.legal m (λ o. subst (Spares g) (sym (idle_writes (layout_of z) (items z log) o w.legal (idle o))) tt)

  shown_tag : (c : ℕ) → c < client_count z → ShowsTag (layout_of z) (left_by z log).slots c (view (items z log) (client_group c))
  shown_tag c m = idle_tags z log c range w.legal w.in_store m (λ o. subst (Untouched (client_slot_at z c)) (sym (idle_writes (layout_of z) (items z log) o w.legal (idle o))) tt)

  pub sends_here : KeepsSends z new_log (sent_in_slots z images)
  sends_here = record {
    counts = told_at sent_told (λ g. length (sent_in (committed_of log) g)) (λ g m.
        let v = shown g m in
        let c : length (view (items z log) g).messages ≡ length v.shows.nodes = ap (λ (l : List (ℕ × List ℕ)). length l) v.shows.messages ∙ length-map v.shows.nodes message in
        let h = v.shows.sent in
        ap sent_told (pages (directory_at g) ∙ v.at) ∙ sent_view g v.directory.sent (omega (arith, c, h, v.shows.received))) (λ c m.
        let v = shown_tag c m in
        let h = v.count in
        ap sent_told (pages (client_slot_at z c) ∙ v.at) ∙ sent_view (client_group c) v.held.count (omega (arith, h, v.none_taken)));
    tags = told_at tag_told (λ g. tag_of (sent_in (committed_of log) g))
        (λ g m. let v = shown g m in ap tag_told (pages (directory_at g) ∙ v.at) ∙ sym v.shows.last_tag ∙ tag_view g)
        (λ c m. let v = shown_tag c m in ap tag_told (pages (client_slot_at z c) ∙ v.at) ∙ v.tag ∙ tag_view (client_group c));
  }

  -- all of which is durable
  pub opened_durable : (ledger_of (opened z images log)).durable ≡ length (committed_of log)
  opened_durable = all_within log (length new_log) (omega arith)

  -- and its ledger is what the restart makes of any with that content
  pub opened_after : (l : Ledger) → l.committed ≡ committed_of log → ledger_of (opened z images log) ≡ after (Restarted (incarnation_of log + 1) (length new_log)) l
  opened_after l e =
      let kept : kept_in (length new_log) (committed_of log) ≡ length l.committed = opened_durable ∙ ap length (sym e) in
      ap (λ (n : ℕ). record (ledger_of (opened z images log)) { durable = n }) kept
      ∙ ap (λ (c : List Done). record (ledger_of (opened z images log)) { committed = c; durable = length l.committed }) (sym e)
