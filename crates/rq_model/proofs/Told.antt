-- The content of a log is that of the commit list that it tells.
use Rattle.std.proofs.Common.{◌≡◌, ℕ, ◌+◌, ◌≤◌, List, [], ◌∷◌, ◌++◌, length, take, drop, refl, sym, ◌∙◌, ap, Bool, false, Option, Some, None, append_assoc, inl, inr, arith, ◌||◌, nat_eq}
use Rattle.std.specs.List.{filter_map}
use Rattle.std.proofs.lemmas.List.{append-nil, length-append, take_at}
use Rattle.std.proofs.lemmas.List.Elements.{filter_map-append}
use Rattle.std.proofs.lemmas.Bool.{cases_Bool, false≢true, false_from_ne_true}
use Rattle.std.proofs.Math.Bool.{or_comm}
use Rattle.rq_model.specs.declared.txn.Txn.{Txn}
use Rattle.rq_model.specs.declared.record.Record.{Record}
use Rattle.rq_model.specs.declared.record.Record.TheVariants.{PageOp, PageUndo, OpEnd, OpVoid, CompEnd, Commit, Restart, AbortEnd, Base}
use Rattle.rq_model.specs.declared.message.Message.{Message}
use Rattle.rq_model.specs.Vocabulary.{sent_for, taken_from, ends, client_group}
use Rattle.rq_model.specs.History.{Group}
use Rattle.rq_model.specs.Ledger.{Done, any_ends, group_in, sent_in, taken_in}
use Rattle.rq_model.specs.Content.{Said, Ending, ending, commits_txn, has_commit, has_end, kept, deeds, no_group, with_deeds, content, added_one, added, removed_one, removed, closed_one, closed, shape, tag_after, with_own}
use Rattle.rq_model.specs.Commits.{op_of, ops_told, told, committed_of}
use Rattle.rq_model.specs.Rules.{KeepsRules, EndingMay}
use Rattle.rq_model.specs.Content.Said.{Added, Removed, Ended, Marked}
use Rattle.rq_model.specs.Groups.{with_ops}
use Rattle.rq_model.proofs.Commits.{commit_adds, shape_is, covered_log, covered_here, around_itself, group_is, commit_is_end, only, deeds_agree}
use Rattle.rq_model.proofs.Ends.{any_ends_more}
use Rattle.rq_model.proofs.Shown.{group_more}

pub sent_one : (s : ℕ) (d : Said) (ms : List Message) → ms ++ filter_map (sent_for s) (op_of d ∷ []) ≡ added_one s d ms
sent_one s (Added m) ms = elim (cases_Bool (nat_eq m.sender s)) [ inl y ↦ rw y refl | inr n ↦ rw n (append-nil ms) ]
sent_one s (Marked c tag) ms = elim (cases_Bool (nat_eq (client_group c) s)) [ inl y ↦ rw y refl | inr n ↦ rw n (append-nil ms) ]
sent_one s (Removed m) ms = append-nil ms
sent_one s (Ended r) ms = append-nil ms

pub told_sent : (s : ℕ) (ds : List Said) → filter_map (sent_for s) (ops_told ds) ≡ added s ds
told_sent s [] = refl
told_sent s (d ∷ ds) = filter_map-append (sent_for s) (ops_told ds) (op_of d ∷ []) ∙ ap (λ l. l ++ filter_map (sent_for s) (op_of d ∷ [])) (told_sent s ds) ∙ sent_one s d (added s ds)

taken_one : (s : ℕ) (d : Said) → length (filter_map (taken_from s) (op_of d ∷ [])) ≡ removed_one s d
taken_one s (Added m) = refl
taken_one s (Removed m) = elim (cases_Bool (nat_eq m.sender s)) [ inl y ↦ rw y refl | inr n ↦ rw n refl ]
taken_one s (Ended r) = refl
taken_one s (Marked c tag) = refl

pub told_taken : (s : ℕ) (ds : List Said) → length (filter_map (taken_from s) (ops_told ds)) ≡ removed s ds
told_taken s [] = refl
told_taken s (d ∷ ds) =
    ap length (filter_map-append (taken_from s) (ops_told ds) (op_of d ∷ [])) ∙ length-append (filter_map (taken_from s) (ops_told ds)) (filter_map (taken_from s) (op_of d ∷ []))
    ∙ (let a = told_taken s ds in let b = taken_one s d in omega (arith, a, b))

ends_one : (s : ℕ) (d : Said) → ends s (op_of d) ≡ closed_one s d
ends_one s (Added m) = refl
ends_one s (Removed m) = refl
ends_one s (Ended r) = refl
ends_one s (Marked c tag) = refl

pub told_ends : (s : ℕ) (ds : List Said) → any_ends s (ops_told ds) ≡ closed s ds
told_ends s [] = refl
told_ends s (d ∷ ds) = any_ends_more s (ops_told ds) (op_of d) ∙ ap (λ b. b || ends s (op_of d)) (told_ends s ds) ∙ or_comm (closed s ds) (ends s (op_of d)) ∙ ap (λ b. b || closed s ds) (ends_one s d)

with_told : (s : ℕ) (ds : List Said) (g : Group) → with_ops s (ops_told ds) g ≡ with_own s ds g
with_told s ds g = group_is _ _ _ _ _ _ _ _ _ _
    (ap (λ l. g.sent + length l) (told_sent s ds)) (ap (tag_after g.last_tag) (told_sent s ds)) (ap (λ n. g.received + n) (told_taken s ds)) (ap (λ b. g.closed || b) (told_ends s ds))
    (ap (λ n. drop n (g.rest ++ filter_map (sent_for s) (ops_told ds))) (told_taken s ds) ∙ ap (λ l. drop (removed s ds) (g.rest ++ l)) (told_sent s ds))

pub not_yet : (log : List Record) (t : Txn) → has_end log t ≡ false → has_commit log t ≡ false
not_yet log t e = false_from_ne_true (has_commit log t) (λ k. false≢true (sym e ∙ commit_is_end log t k))

kept_new : (p : Txn → Bool) (w : Option Ending) (log : List Record) (ds : List Said) → ((t : Txn) → has_end log t ≡ false → p t ≡ false) → EndingMay log w → kept p w ds ≡ ds
kept_new p None log ds f m = refl
kept_new p (Some e) log ds f m = rw (f e.txn (m 0).not_ended) refl

-- what is no Commit leaves the content
pub no_commit : (s : ℕ) (r : Record) (log : List Record) → KeepsRules (r ∷ log) → ((t : Txn) → commits_txn t r ≡ false) → content (r ∷ log) s ≡ content log s
no_commit s r log g n =
    let p = has_commit (r ∷ log) in
    let same : (u : Txn) → p u ≡ has_commit log u = λ u. ap (λ b. b || has_commit log u) (n u) in
    ap (λ ds. with_deeds s ds no_group) (kept_new p (ending r) log (deeds p log) (λ t e. same t ∙ not_yet log t e) g.0 ∙ deeds_agree p (has_commit log) log same)

within : (s : ℕ) (c : List Done) (log : List Record) → KeepsRules log → content log s ≡ group_in c s → length (taken_in c s) ≤ length (sent_in c s)
within s c log g e =
    let cov = covered_log s (has_commit log) log g (around_itself log) in
    let h : removed s (deeds (has_commit log) log) ≤ length (added s (deeds (has_commit log) log)) = covered_here s (deeds (has_commit log) log) cov in
    let k : shape s (deeds (has_commit log) log) ≡ group_in c s = sym (shape_is s (deeds (has_commit log) log) cov) ∙ e in
    let a : removed s (deeds (has_commit log) log) ≡ length (taken_in c s) = ap (λ (x : Group). x.received) k in
    let b : length (added s (deeds (has_commit log) log)) ≡ length (sent_in c s) = ap (λ (x : Group). x.sent) k in
    omega arith

-- the content of a log is the content of the commit list that it tells
pub content_is : (s : ℕ) (log : List Record) → KeepsRules log → content log s ≡ group_in (committed_of log) s
content_is s [] g = refl
content_is s (Commit t ∷ log) g =
    let ih = content_is s log g.2 in
    commit_adds s t log g ∙ ap (with_own s (deeds (only t) log)) ih
    ∙ sym (with_told s (deeds (only t) log) (group_in (committed_of log) s))
    ∙ sym (group_more (committed_of log) (record { txn = t; lsn = length log + 1; ops = told t log }) s (within s (committed_of log) log g.2 ih))
content_is s (PageOp t n page slot before after ∷ log) g = no_commit s (PageOp t n page slot before after) log g (λ u. refl) ∙ content_is s log g.2
content_is s (PageUndo t n undone page slot after ∷ log) g = no_commit s (PageUndo t n undone page slot after) log g (λ u. refl) ∙ content_is s log g.2
content_is s (OpEnd t n level deed ∷ log) g = no_commit s (OpEnd t n level deed) log g (λ u. refl) ∙ content_is s log g.2
content_is s (OpVoid t n ∷ log) g = no_commit s (OpVoid t n) log g (λ u. refl) ∙ content_is s log g.2
content_is s (CompEnd t n undone ∷ log) g = no_commit s (CompEnd t n undone) log g (λ u. refl) ∙ content_is s log g.2
content_is s (Restart i ∷ log) g = no_commit s (Restart i) log g (λ u. refl) ∙ content_is s log g.2
content_is s (Base many i ∷ log) g = no_commit s (Base many i) log g (λ u. refl) ∙ content_is s log g.2
content_is s (AbortEnd t ∷ log) g = no_commit s (AbortEnd t) log g (λ u. refl) ∙ content_is s log g.2

grows_one : (r : Record) (log : List Record) → (more : List Done) × (committed_of (r ∷ log) ≡ committed_of log ++ more)
grows_one (Commit t) log = (record { txn = t; lsn = length log + 1; ops = told t log } ∷ [], refl)
grows_one _ log = ([], sym (append-nil (committed_of log)))

grows : (newer older : List Record) → (more : List Done) × (committed_of (newer ++ older) ≡ committed_of older ++ more)
grows [] older = ([], sym (append-nil (committed_of older)))
grows (r ∷ newer) older = let g = grows newer older in let w = grows_one r (newer ++ older) in (g.0 ++ w.0, w.1 ∙ ap (λ c. c ++ w.0) g.1 ∙ append_assoc (committed_of older) g.0 w.0)

rules_older : (newer older : List Record) → KeepsRules (newer ++ older) → KeepsRules older
rules_older [] older g = g
rules_older (r ∷ newer) older g = rules_older newer older g.2

-- a cut of the log leaves a beginning of the commit list
pub cut_is : (newer older : List Record) → take (length (committed_of older)) (committed_of (newer ++ older)) ≡ committed_of older
cut_is newer older = let g = grows newer older in ap (take (length (committed_of older))) g.1 ∙ take_at (committed_of older) g.0 (length (committed_of older)) refl

-- and the content of what is left is the content of that beginning
pub cut_content : (s : ℕ) (newer older : List Record) → KeepsRules (newer ++ older) → content older s ≡ group_in (take (length (committed_of older)) (committed_of (newer ++ older))) s
cut_content s newer older g = content_is s older (rules_older newer older g) ∙ ap (λ c. group_in c s) (sym (cut_is newer older))
