-- With transactions open: the used cells are what is committed and not taken, without what they took, with what they sent.
use Rattle.std.proofs.Common.{◌≡◌, ◌≢◌, ℕ, zero, suc, ◌+◌, ◌-◌, ◌≤◌, List, [], ◌∷◌, ◌++◌, length, map, drop, true, false, cond, nat_eq, inl, inr, refl, sym, ◌∙◌, ap, subst, arith}
use Rattle.std.specs.List.{sum_by, filter, filter_map}
use Rattle.std.proofs.lemmas.List.{length-append, length-drop, length-map}
use Rattle.std.proofs.lemmas.List.Sums.{sum_by-cons}
use Rattle.std.proofs.lemmas.Bool.{cases_Bool, or_parts}
use Rattle.rq_model.specs.declared.message.Message.{Message}
use Rattle.rq_model.specs.declared.record.Deed.{Deed}
use Rattle.rq_model.specs.declared.record.Deed.TheVariants.{Append, UnlinkHead, Close, Mark}
use Rattle.rq_model.specs.declared.record.Record.{Record}
use Rattle.rq_model.specs.declared.txn.Txn.{Txn}
use Rattle.rq_model.specs.Vocabulary.{Op, same_txn, has_txn, sent_for, taken_from, client_group, mark_of}
use Rattle.rq_model.specs.Ledger.{rest_in}
use Rattle.rq_model.specs.Tests.{below, count_rest, is_sent}
use Rattle.rq_model.specs.Content.{said, added, added_one, removed, removed_one}
use Rattle.rq_model.specs.Commits.{op_of, ops_told, committed_of}
use Rattle.rq_model.specs.Rules.{KeepsRules}
use Rattle.rq_model.specs.Counts.{is_taken, IsBelow, AllBelow}
use Rattle.rq_model.proofs.Counts.{sum_more, sum_same, sum_both, sum_none, count_is_sum, sum_sent, sum_taken}
use Rattle.rq_model.proofs.Told.{told_taken, told_sent}
use Rattle.rq_model.proofs.Lists.{same_self, same_is}
use Rattle.rq_page.specs.Sizes.{Sizes, sender_count}
use Rattle.rq_views.specs.Log.{Item, state_of}
use Rattle.rq_views.specs.Legal.{Placed, open_deeds, view, IsLegalLog}
use Rattle.rq_views.specs.Groups.{on_sending_end, on_receiving_end, side, committed, KeepsGroups}
use Rattle.rq_views.specs.Items.{items, layout_of, ReadsItsDeeds}
use Rattle.rq_views.specs.Stored.{count_used}
use Rattle.rq_views.specs.InStore.{InStore, IsDeedOf}
use Rattle.rq_views.proofs.Committed.{say}
use Rattle.rq_views.proofs.Counting.{AllInStore, deeds_in_store, quiet_counts}
use Rattle.rq_views.proofs.Holding.{taken_there, tag_and_body, Holders, holders}
use Rattle.rq_views.proofs.Settled.{rest_shown}

-- the number of messages in a chain, by its holders
pub holders_count : (s : ℕ) (log : List Item) (h : Holders s log) → KeepsGroups log
    → length (view log s).messages + removed s (say (open_deeds h.taker log)) ≡ length (committed log s).messages + length (added s (say (open_deeds h.sender log)))
holders_count s log h k =
    let c = committed log s in
    let sent = added s (say (open_deeds h.sender log)) in
    let taken = removed s (say (open_deeds h.taker log)) in
    let e : length (view log s).messages ≡ length (drop taken c.messages ++ map tag_and_body sent) = ap length h.view.messages in
    let a : length (drop taken c.messages ++ map tag_and_body sent) ≡ length (drop taken c.messages) + length (map tag_and_body sent) = length-append (drop taken c.messages) (map tag_and_body sent) in
    let d : length (drop taken c.messages) ≡ length c.messages - taken = length-drop taken c.messages in
    let m : length (map tag_and_body sent) ≡ length sent = length-map sent tag_and_body in
    let w : taken ≤ length c.messages = taken_there s log h.taker k in
    omega arith

abbrev none : List Deed
none = []

one_sent : (s r : ℕ) (d : Deed) (m : Message) (xs : List Deed) (ms : List Message) → cond (nat_eq r s) (d ∷ xs) xs ≡ none → (xs ≡ none → length ms ≡ 0) → length (cond (nat_eq r s) (ms ++ m ∷ []) ms) ≡ 0
one_sent s r d m xs ms e k = elim (cases_Bool (nat_eq r s)) [
  | inl y ↦ let bad : d ∷ xs ≡ none = rw y at e in absurd (cc)
  | inr n ↦ rw n (k (rw n at e))
]

one_added : (s : ℕ) (d : Deed) (xs : List Deed) (ms : List Message) → cond (on_sending_end s d) (d ∷ xs) xs ≡ none → (xs ≡ none → length ms ≡ 0) → length (added_one s (said d) ms) ≡ 0
one_added s (Append r n tag previous body) xs ms e k = one_sent s r (Append r n tag previous body) (record { sender = r; tag = tag; body = body }) xs ms e k
one_added s (UnlinkHead r n tag body) xs ms e k = k e
one_added s (Close r) xs ms e k = elim (cases_Bool (nat_eq r s)) [
  | inl y ↦ let bad : Close r ∷ xs ≡ none = rw y at e in absurd (cc)
  | inr m ↦ k (rw m at e)
]
one_added s (Mark c tag previous) xs ms e k = one_sent s (client_group c) (Mark c tag previous) (mark_of c tag) xs ms e k

none_added : (s : ℕ) (ps : List Placed) → side (on_sending_end s) ps ≡ none → length (added s (say ps)) ≡ 0
none_added s [] e = refl
none_added s (p ∷ ps) e = one_added s p.deed (side (on_sending_end s) ps) (added s (say ps)) e (none_added s ps)

one_removed : (s : ℕ) (d : Deed) (xs : List Deed) (k : ℕ) → cond (on_receiving_end s d) (d ∷ xs) xs ≡ none → (xs ≡ none → k ≡ 0) → k + removed_one s (said d) ≡ 0
one_removed s (Append r n tag previous body) xs k e h = let i = h e in omega arith
one_removed s (UnlinkHead r n tag body) xs k e h = elim (cases_Bool (nat_eq r s)) [
  | inl y ↦ let bad : UnlinkHead r n tag body ∷ xs ≡ none = rw y at e in absurd (cc)
  | inr m ↦ rw m (let i = h (rw m at e) in omega arith)
]
one_removed s (Close r) xs k e h = let i = h e in omega arith
one_removed s (Mark c tag previous) xs k e h = let i = h e in omega arith

none_removed : (s : ℕ) (ps : List Placed) → side (on_receiving_end s) ps ≡ none → removed s (say ps) ≡ 0
none_removed s [] e = refl
none_removed s (p ∷ ps) e = one_removed s p.deed (side (on_receiving_end s) ps) (removed s (say ps)) e (none_removed s ps)

-- the transactions stand once each
abbrev pub AreApart : List Txn → Type 0
AreApart [] = Unit {0}
AreApart (t ∷ ts) = (has_txn t ts ≡ false) × AreApart ts

-- every transaction with an open deed is among these
abbrev pub AllOpenIn : List Txn → List Item → Type 0
AllOpenIn ts log = (t : Txn) → has_txn t ts ≡ false → open_deeds t log ≡ []

other_of : (t u : Txn) → same_txn u t ≡ false → u ≢ t
other_of t u n e = let y : same_txn u t ≡ true = ap (λ x. same_txn x t) e ∙ same_self t in let bad : true ≡ false = sym y ∙ n in cc

-- a sum over transactions none of which counts
sum_out : (f : Txn → ℕ) (ts : List Txn) (t : Txn) → ((u : Txn) → u ≢ t → f u ≡ 0) → has_txn t ts ≡ false → sum_by f ts ≡ 0
sum_out f [] t h n = refl
sum_out f (u ∷ ts) t h n =
    let p = or_parts (same_txn u t) (has_txn t ts) n in
    let a = sum_by-cons f u ts in
    let b = h u (other_of t u p.0) in
    let c = sum_out f ts t h p.1 in
    omega arith

-- a sum over transactions of which one alone counts, where it is among them
sum_here : (f : Txn → ℕ) (ts : List Txn) (t : Txn) → AreApart ts → ((u : Txn) → u ≢ t → f u ≡ 0) → (has_txn t ts ≡ false → f t ≡ 0) → sum_by f ts ≡ f t
sum_here f [] t apart h k = sym (k refl)
sum_here f (u ∷ ts) t apart h k =
    let a = sum_by-cons f u ts in
    elim (cases_Bool (same_txn u t)) [
      | inl y ↦
          let e : u ≡ t = same_is u t y in
          let same : f u ≡ f t = ap f e in
          let out : has_txn t ts ≡ false = subst (λ x. has_txn x ts ≡ false) e apart.0 in
          let c = sum_out f ts t h out in
          omega arith
      | inr n ↦
          let b = h u (other_of t u n) in
          let c = sum_here f ts t apart.1 h (λ m. k (rw (n, m) refl)) in
          omega arith
    ]

-- the number of messages in a chain, by all open transactions
pub chain_count : (s : ℕ) (log : List Item) (ts : List Txn) → KeepsGroups log → AreApart ts → AllOpenIn ts log
    → length (view log s).messages + sum_by (λ t. removed s (say (open_deeds t log))) ts ≡ length (committed log s).messages + sum_by (λ t. length (added s (say (open_deeds t log)))) ts
chain_count s log ts k apart all =
    let h = holders s log k in
    let f : Txn → ℕ = λ t. removed s (say (open_deeds t log)) in
    let g : Txn → ℕ = λ t. length (added s (say (open_deeds t log))) in
    let a = holders_count s log h k in
    let b : sum_by f ts ≡ f h.taker = sum_here f ts h.taker apart (λ u n. none_removed s (open_deeds u log) (h.takes u n)) (λ n. ap (λ ps. removed s (say ps)) (all h.taker n)) in
    let c : sum_by g ts ≡ g h.sender = sum_here g ts h.sender apart (λ u n. none_added s (open_deeds u log) (h.sends u n)) (λ n. ap (λ ps. length (added s (say ps))) (all h.sender n)) in
    omega arith

-- sums of sums
sum_plus : (f g : ℕ → ℕ) (n : ℕ) → sum_by (λ s. f s + g s) (below n) ≡ sum_by f (below n) + sum_by g (below n)
sum_plus f g zero = refl
sum_plus f g (suc n) =
    let a = sum_more (λ s. f s + g s) n in
    let b = sum_more f n in
    let c = sum_more g n in
    let ih = sum_plus f g n in
    omega arith

sum_turn : (f : Txn → ℕ → ℕ) (n : ℕ) (ts : List Txn) → sum_by (λ s. sum_by (λ t. f t s) ts) (below n) ≡ sum_by (λ t. sum_by (f t) (below n)) ts
sum_turn f n [] = sum_none n
sum_turn f n (t ∷ ts) =
    let a : sum_by (λ s. sum_by (λ u. f u s) (t ∷ ts)) (below n) ≡ sum_by (λ s. f t s + sum_by (λ u. f u s) ts) (below n) = sum_same (λ s. sum_by (λ u. f u s) (t ∷ ts)) (λ s. f t s + sum_by (λ u. f u s) ts) n (λ s lt. sum_by-cons (λ u. f u s) t ts) in
    let b = sum_plus (f t) (λ s. sum_by (λ u. f u s) ts) n in
    let c = sum_turn f n ts in
    let d = sum_by-cons (λ u. sum_by (f u) (below n)) t ts in
    omega arith

pub below_one_more : (n : ℕ) (ops : List Op) (op : Op) → AllBelow n ops → IsBelow n op → AllBelow n (ops ++ op ∷ [])
below_one_more n [] op h k = (k, tt)
below_one_more n (x ∷ ops) op h k = (h.0, below_one_more n ops op h.1 k)

pub said_below : (z : Sizes) (d : Deed) → IsDeedOf z d → IsBelow (sender_count z) (op_of (said d))
said_below z (Append s k tag previous body) h = h
said_below z (UnlinkHead s k tag body) h = h
said_below z (Close s) h = h
said_below z (Mark c tag previous) h = omega (arith, h.1)

-- the operations that deeds of the store tell are of its senders, or are marks
pub ops_in_store : (z : Sizes) (ps : List Placed) → AllInStore z ps → AllBelow (sender_count z) (ops_told (say ps))
ops_in_store z [] h = tt
ops_in_store z (p ∷ ps) h = below_one_more (sender_count z) (ops_told (say ps)) (op_of (said p.deed)) (ops_in_store z ps h.1) (said_below z p.deed h.0)

-- what a transaction did and has not undone, where it has no Commit
abbrev pub open_ops : Sizes → List Record → Txn → List Op
open_ops z log t = ops_told (say (open_deeds t (items z log)))

-- the used cells are what is committed and not taken, without what open transactions took, with what they sent
pub open_counts : (z : Sizes) (log : List Record) (ts : List Txn) → IsLegalLog (layout_of z) (items z log) → InStore z log → KeepsGroups (items z log) → KeepsRules log → ReadsItsDeeds log
    → AreApart ts → AllOpenIn ts (items z log)
    → count_used z (state_of (layout_of z) (items z log)).quiet + sum_by (λ t. length (filter is_taken (open_ops z log t))) ts
    ≡ count_rest (below (sender_count z)) (committed_of log) + sum_by (λ t. length (filter is_sent (open_ops z log t))) ts
open_counts z log ts legal store groups rules reads apart all =
    let n = sender_count z in
    let is = items z log in
    let f : Txn → ℕ → ℕ = λ t s. removed s (say (open_deeds t is)) in
    let g : Txn → ℕ → ℕ = λ t s. length (added s (say (open_deeds t is))) in
    let v : ℕ → ℕ = λ s. length (view is s).messages in
    let c : ℕ → ℕ = λ s. length (rest_in (committed_of log) s) in
    let used : count_used z (state_of (layout_of z) is).quiet ≡ sum_by v (below n) = quiet_counts z log legal store in
    let rest : count_rest (below n) (committed_of log) ≡ sum_by c (below n) = count_is_sum n (committed_of log) in
    let both : sum_by v (below n) + sum_by (λ s. sum_by (λ t. f t s) ts) (below n) ≡ sum_by c (below n) + sum_by (λ s. sum_by (λ t. g t s) ts) (below n) =
    sum_both v c (λ s. sum_by (λ t. f t s) ts) (λ s. sum_by (λ t. g t s) ts) n (λ s. chain_count s is ts groups apart all ∙ ap (λ k. k + sum_by (λ t. g t s) ts) (sym (rest_shown z s log rules reads))) in
    let takes : (t : Txn) → sum_by (f t) (below n) ≡ length (filter is_taken (open_ops z log t)) =
    (λ t. sum_same (f t) (λ s. length (filter_map (taken_from s) (open_ops z log t))) n (λ s lt. sym (told_taken s (say (open_deeds t is)))) ∙ sum_taken n (open_ops z log t) (ops_in_store z (open_deeds t is) (deeds_in_store z t log store))) in
    let sends : (t : Txn) → sum_by (g t) (below n) ≡ length (filter is_sent (open_ops z log t)) =
    (λ t. sum_same (g t) (λ s. length (filter_map (sent_for s) (open_ops z log t))) n (λ s lt. ap length (sym (told_sent s (say (open_deeds t is))))) ∙ sum_sent n (open_ops z log t) (ops_in_store z (open_deeds t is) (deeds_in_store z t log store))) in
    let a = sum_turn f n ts in
    let b = sum_turn g n ts in
    let d : sum_by (λ t. sum_by (f t) (below n)) ts ≡ sum_by (λ t. length (filter is_taken (open_ops z log t))) ts = each_same (λ t. sum_by (f t) (below n)) (λ t. length (filter is_taken (open_ops z log t))) ts takes in
    let e : sum_by (λ t. sum_by (g t) (below n)) ts ≡ sum_by (λ t. length (filter is_sent (open_ops z log t))) ts = each_same (λ t. sum_by (g t) (below n)) (λ t. length (filter is_sent (open_ops z log t))) ts sends in
    omega arith
  where
    each_same : (f g : Txn → ℕ) (ts : List Txn) → ((t : Txn) → f t ≡ g t) → sum_by f ts ≡ sum_by g ts
    each_same f g [] h = refl
    each_same f g (t ∷ ts) h =
        let a = sum_by-cons f t ts in
        let b = sum_by-cons g t ts in
        let c = h t in
        let i = each_same f g ts h in
        omega arith
