-- Sums over senders, and what a commit makes of the number of messages that are committed and not taken.
use Rattle.std.proofs.Common.{◌≡◌, ◌≢◌, ℕ, zero, suc, ◌+◌, ◌-◌, ◌<◌, ◌≤◌, List, [], ◌∷◌, ◌++◌, length, refl, sym, ◌∙◌, ap, inl, inr, arith}
use Rattle.std.specs.List.{filter, filter_map, sum_by}
use Rattle.std.proofs.lemmas.List.{length-append, length-drop}
use Rattle.std.proofs.lemmas.List.Sums.{sum_by_push}
use Rattle.std.proofs.lemmas.Bool.{cases_eq, eq-eqb, ne_eqb}
use Rattle.rq_model.specs.declared.txn.Txn.{Txn}
use Rattle.rq_model.specs.declared.record.Record.{Record}
use Rattle.rq_model.specs.Vocabulary.{Op, sent_for, taken_from, client_group}
use Rattle.rq_model.specs.Vocabulary.Op.{Send, Take, End, Mark}
use Rattle.rq_model.specs.History.{Group}
use Rattle.rq_model.specs.Ledger.{Done, sent_in, taken_in, rest_in, group_in}
use Rattle.rq_model.specs.Tests.{below, count_rest, is_sent}
use Rattle.rq_model.specs.Content.{deeds, has_commit, added, removed, shape}
use Rattle.rq_model.specs.Commits.{committed_of}
use Rattle.rq_model.specs.Rules.{KeepsRules}
use Rattle.rq_model.specs.Counts.{is_taken, AllBelow}
use Rattle.rq_model.proofs.Commits.{shape_is, covered_log, covered_here, around_itself}
use Rattle.rq_model.proofs.Keeps.{taken_more, sent_more}
use Rattle.rq_model.proofs.Told.{content_is}

-- one number more
pub sum_more : (f : ℕ → ℕ) (n : ℕ) → sum_by f (below (suc n)) ≡ sum_by f (below n) + f n
sum_more f n = sum_by_push f (below n) n

-- sums of the same numbers are the same
pub sum_same : (f g : ℕ → ℕ) (n : ℕ) → ((i : ℕ) → i < n → f i ≡ g i) → sum_by f (below n) ≡ sum_by g (below n)
sum_same f g zero h = refl
sum_same f g (suc n) h =
    let a = sum_more f n in
    let b = sum_more g n in
    let ih = sum_same f g n (λ i lt. h i (omega (arith, lt))) in
    let e = h n (omega arith) in
    omega arith

-- sums that differ at one place differ by as much
pub sum_change : (f g : ℕ → ℕ) (n k : ℕ) → k < n → ((i : ℕ) → i ≢ k → f i ≡ g i) → sum_by f (below n) + g k ≡ sum_by g (below n) + f k
sum_change f g zero k lt h = absurd (omega arith)
sum_change f g (suc n) k lt h =
    let a = sum_more f n in
    let b = sum_more g n in
    elim (cases_eq k n) [
      | inl e ↦
          let ih = sum_same f g n (λ i l. h i (λ x. omega (arith, l, x, e))) in
          let p : f k ≡ f n = ap f e in
          let q : g k ≡ g n = ap g e in
          omega arith
      | inr ne ↦
          let ih = sum_change f g n k (omega (arith, lt, ne)) h in
          let e = h n (λ x. ne (sym x)) in
          omega arith
    ]

pub sum_none : (n : ℕ) → sum_by (λ i. 0) (below n) ≡ 0
sum_none zero = refl
sum_none (suc n) = let a = sum_more (λ i. 0) n in let ih = sum_none n in omega arith

-- how many are committed and not taken, as a sum
pub count_is_sum : (n : ℕ) (c : List Done) → count_rest (below n) c ≡ sum_by (λ s. length (rest_in c s)) (below n)
count_is_sum zero c = refl
count_is_sum (suc n) c =
    let a = sum_more (λ s. length (rest_in c s)) n in
    let ih = count_is_sum n c in
    let b = count_end c (below n) n in
    omega arith
  where
    count_end : (c : List Done) (ss : List ℕ) (s : ℕ) → count_rest (ss ++ s ∷ []) c ≡ count_rest ss c + length (rest_in c s)
    count_end c [] s = omega arith
    count_end c (x ∷ ss) s = let h = count_end c ss s in omega arith

-- each message sent is for one sender
pub sum_sent : (n : ℕ) (ops : List Op) → AllBelow n ops → sum_by (λ s. length (filter_map (sent_for s) ops)) (below n) ≡ length (filter is_sent ops)
sum_sent n [] h = sum_none n
sum_sent n (Send m ∷ ops) h =
    let f : ℕ → ℕ = λ s. length (filter_map (sent_for s) (Send m ∷ ops)) in
    let g : ℕ → ℕ = λ s. length (filter_map (sent_for s) ops) in
    let other : (i : ℕ) → i ≢ m.sender → f i ≡ g i = (λ i ne. rw (ne_eqb m.sender i (λ e. ne (sym e))) refl) in
    let own : f m.sender ≡ g m.sender + 1 = rw (eq-eqb m.sender m.sender refl) (omega arith) in
    let c = sum_change f g n m.sender h.0 other in
    let ih = sum_sent n ops h.1 in
    omega arith
sum_sent n (Take m ∷ ops) h = sum_sent n ops h.1
sum_sent n (End s ∷ ops) h = sum_sent n ops h.1
sum_sent n (Mark client tag ∷ ops) h =
    let f : ℕ → ℕ = λ s. length (filter_map (sent_for s) (Mark client tag ∷ ops)) in
    let g : ℕ → ℕ = λ s. length (filter_map (sent_for s) ops) in
    let other : (i : ℕ) → i < n → f i ≡ g i = (λ i j. rw (ne_eqb (client_group client) i (λ e. let k : i ≡ client_group client = sym e in omega (arith, j, k, h.0))) refl) in
    sum_same f g n other ∙ sum_sent n ops h.1

-- and so each message taken
pub sum_taken : (n : ℕ) (ops : List Op) → AllBelow n ops → sum_by (λ s. length (filter_map (taken_from s) ops)) (below n) ≡ length (filter is_taken ops)
sum_taken n [] h = sum_none n
sum_taken n (Send m ∷ ops) h = sum_taken n ops h.1
sum_taken n (Take m ∷ ops) h =
    let f : ℕ → ℕ = λ s. length (filter_map (taken_from s) (Take m ∷ ops)) in
    let g : ℕ → ℕ = λ s. length (filter_map (taken_from s) ops) in
    let other : (i : ℕ) → i ≢ m.sender → f i ≡ g i = (λ i ne. rw (ne_eqb m.sender i (λ e. ne (sym e))) refl) in
    let own : f m.sender ≡ g m.sender + 1 = rw (eq-eqb m.sender m.sender refl) (omega arith) in
    let c = sum_change f g n m.sender h.0 other in
    let ih = sum_taken n ops h.1 in
    omega arith
sum_taken n (End s ∷ ops) h = sum_taken n ops h.1
sum_taken n (Mark client tag ∷ ops) h = sum_taken n ops h.1

-- sums that gain and lose place by place
pub sum_both : (f g u v : ℕ → ℕ) (n : ℕ) → ((i : ℕ) → f i + u i ≡ g i + v i) → sum_by f (below n) + sum_by u (below n) ≡ sum_by g (below n) + sum_by v (below n)
sum_both f g u v zero h = refl
sum_both f g u v (suc n) h =
    let a = sum_more f n in
    let b = sum_more g n in
    let c = sum_more u n in
    let d = sum_more v n in
    let ih = sum_both f g u v n h in
    let e = h n in
    omega arith

-- what a commit makes of what is left of one sender
pub rest_more : (c : List Done) (d : Done) (s : ℕ) → length (taken_in c s) ≤ length (sent_in c s) → length (filter_map (taken_from s) d.ops) ≤ length (rest_in c s)
    → length (rest_in (c ++ d ∷ []) s) + length (filter_map (taken_from s) d.ops) ≡ length (rest_in c s) + length (filter_map (sent_for s) d.ops)
rest_more c d s h k =
    let t : length (taken_in (c ++ d ∷ []) s) ≡ length (taken_in c s) + length (filter_map (taken_from s) d.ops) = ap length (taken_more c d s) ∙ length-append (taken_in c s) (filter_map (taken_from s) d.ops) in
    let n : length (sent_in (c ++ d ∷ []) s) ≡ length (sent_in c s) + length (filter_map (sent_for s) d.ops) = ap length (sent_more c d s) ∙ length-append (sent_in c s) (filter_map (sent_for s) d.ops) in
    let a : length (rest_in (c ++ d ∷ []) s) ≡ length (sent_in (c ++ d ∷ []) s) - length (taken_in (c ++ d ∷ []) s) = length-drop (length (taken_in (c ++ d ∷ []) s)) (sent_in (c ++ d ∷ []) s) in
    let b : length (rest_in c s) ≡ length (sent_in c s) - length (taken_in c s) = length-drop (length (taken_in c s)) (sent_in c s) in
    omega arith

-- a commit adds its sends to what is committed and not taken, and takes its takes away
pub commit_counts : (n : ℕ) (c : List Done) (t : Txn) (lsn : ℕ) (ops : List Op) → AllBelow n ops
    → ((s : ℕ) → length (taken_in c s) ≤ length (sent_in c s))
    → ((s : ℕ) → length (filter_map (taken_from s) ops) ≤ length (rest_in c s))
    → count_rest (below n) (c ++ record { txn = t; lsn = lsn; ops = ops } ∷ []) + length (filter is_taken ops) ≡ count_rest (below n) c + length (filter is_sent ops)
commit_counts n c t lsn ops h g k =
    let d : Done = record { txn = t; lsn = lsn; ops = ops } in
    let a = count_is_sum n (c ++ d ∷ []) in
    let b = count_is_sum n c in
    let e = sum_sent n ops h in
    let f = sum_taken n ops h in
    let s = sum_both (λ s. length (rest_in (c ++ d ∷ []) s)) (λ s. length (rest_in c s)) (λ s. length (filter_map (taken_from s) ops)) (λ s. length (filter_map (sent_for s) ops)) n (λ s. rest_more c d s (g s) (k s)) in
    omega arith

-- of a log that keeps the rules, no more is taken than sent
pub taken_within : (log : List Record) → KeepsRules log → (s : ℕ) → length (taken_in (committed_of log) s) ≤ length (sent_in (committed_of log) s)
taken_within log g s =
    let ds = deeds (has_commit log) log in
    let covered = covered_log s (has_commit log) log g (around_itself log) in
    let k : shape s ds ≡ group_in (committed_of log) s = sym (shape_is s ds covered) ∙ content_is s log g in
    let a : removed s ds ≡ length (taken_in (committed_of log) s) = ap (λ (x : Group). x.received) k in
    let b : length (added s ds) ≡ length (sent_in (committed_of log) s) = ap (λ (x : Group). x.sent) k in
    let c : removed s ds ≤ length (added s ds) = covered_here s ds covered in
    omega arith
