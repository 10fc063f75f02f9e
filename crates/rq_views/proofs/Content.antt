-- What the chains of committed transactions hold is the content of the log.
use Rattle.std.proofs.Common.{◌≡◌, ℕ, ◌+◌, ◌-◌, ◌≤◌, List, [], ◌∷◌, length, refl, sym, ◌∙◌, ap, subst, true, false, cond, Option, Some, inl, inr, arith, ◌||◌}
use Rattle.std.proofs.lemmas.Bool.{cases_Bool, or_parts, or_left}
use Rattle.std.proofs.lemmas.List.{length-map, length-drop}
use Rattle.rq_model.specs.declared.txn.Txn.{Txn}
use Rattle.rq_model.specs.declared.record.Deed.{Deed}
use Rattle.rq_model.specs.declared.record.Record.{Record}
use Rattle.rq_model.specs.declared.record.Record.TheVariants.{PageOp, PageUndo, OpEnd, OpVoid, CompEnd, Commit, Restart, AbortEnd, Base}
use Rattle.rq_model.specs.Vocabulary.{same_txn}
use Rattle.rq_model.specs.Deeds.{deed_by}
use Rattle.rq_model.specs.History.{Group}
use Rattle.rq_model.specs.Content.{Said, said, ending_by, kept, deeds, content, has_commit, has_end, added, removed, shape, with_own}
use Rattle.rq_model.specs.Rules.{KeepsRules}
use Rattle.rq_model.proofs.Commits.{only, with_one, commit_adds, shape_is, covered_log, around_itself, removed_both}
use Rattle.rq_model.proofs.Lists.{same_self}
use Rattle.rq_model.proofs.Told.{no_commit, not_yet}
use Rattle.rq_model.proofs.Within.{within_log}
use Rattle.rq_page.specs.Sizes.{Sizes}
use Rattle.rq_views.specs.Legal.{Placed, open_deeds}
use Rattle.rq_views.specs.Groups.{committed}
use Rattle.rq_views.specs.Items.{items, told_deed, has_undone, ReadsItsDeeds}
use Rattle.rq_views.specs.Committed.{IsViewOf, message_of}
use Rattle.rq_views.proofs.Committed.{say, committed_own}

-- the deeds of a transaction that has not ended and undid nothing are those that its OpEnds tell
told_end : (t u : Txn) (n : ℕ) (told : Option Deed) (d : Deed) (ps : List Placed) (ds : List Said) → told ≡ Some d → say ps ≡ ds
    → say (cond (same_txn u t) (record { lsn = n; deed = told_deed told } ∷ ps) ps) ≡ kept (only t) (ending_by u told) ds
told_end t u n told d ps ds e h =
    rw e (elim (cases_Bool (same_txn u t)) [ inl y ↦ rw y (ap (λ x. said d ∷ x) h) | inr k ↦ rw k h ])

pub own_deeds : (z : Sizes) (t : Txn) (log : List Record) → ReadsItsDeeds log → has_end log t ≡ false → has_undone log t ≡ false → say (open_deeds t (items z log)) ≡ deeds (only t) log
own_deeds z t [] g e n = refl
own_deeds z t (OpEnd u k level bytes ∷ log) g e n =
    told_end t u (length (items z log) + 1) (deed_by level bytes) g.0.0.0 (open_deeds t (items z log)) (deeds (only t) log) g.0.0.1 (own_deeds z t log g.1 e n)
own_deeds z t (CompEnd u k undone ∷ log) g e n = elim (cases_Bool (same_txn u t)) [
  | inl y ↦ let bad : true ≡ false = rw y at n in absurd (cc)
  | inr m ↦ let rest : has_undone log t ≡ false = rw m at n in rw m (own_deeds z t log g.1 e rest)
]
own_deeds z t (AbortEnd u ∷ log) g e n = own_deeds z t log g.1 (or_parts (same_txn u t) (has_end log t) e).1 n
own_deeds z t (Commit u ∷ log) g e n =
    let p = or_parts (same_txn u t || false) (has_end log t) e in
    let other : same_txn u t ≡ false = (or_parts (same_txn u t) false p.0).0 in
    rw other (own_deeds z t log g.1 p.1 n)
own_deeds z t (_ ∷ log) g e n = own_deeds z t log g.1 e n

-- what a transaction that has not ended took is there
there : (s : ℕ) (t : Txn) (log : List Record) → KeepsRules log → has_end log t ≡ false → removed s (deeds (only t) log) ≤ length (content log s).rest
there s t log g e =
    let ds = deeds (has_commit log) log in
    let shaped : content log s ≡ shape s ds = shape_is s ds (covered_log s (has_commit log) log g (around_itself log)) in
    let left : length (content log s).rest ≡ length (added s ds) - removed s ds = ap (λ (x : Group). length x.rest) shaped ∙ length-drop (removed s ds) (added s ds) in
    let both : removed s (deeds (with_one (has_commit log) t) log) ≡ removed s ds + removed s (deeds (only t) log) = removed_both s t (has_commit log) log (not_yet log t e) in
    let bound : removed s (deeds (with_one (has_commit log) t) log) ≤ length (added s ds) = within_log s log g t e in
    omega arith

abbrev Shown : Sizes → ℕ → List Record → Type 0
Shown z s log = IsViewOf s (content log s) (committed (items z log) s)

same_content : (z : Sizes) (s : ℕ) (r : Record) (log : List Record) → content (r ∷ log) s ≡ content log s → Shown z s log → IsViewOf s (content (r ∷ log) s) (committed (items z log) s)
same_content z s r log e h = subst (λ g. IsViewOf s g (committed (items z log) s)) (sym e) h

-- the chains of committed transactions hold the content of the log
pub committed_is_content : (z : Sizes) (s : ℕ) (log : List Record) → KeepsRules log → ReadsItsDeeds log → Shown z s log
committed_is_content z s [] g d = record { closed = refl; received = refl; sent = refl; last_tag = refl; rest = refl }
committed_is_content z s (PageOp u k page slot before after ∷ log) g d = same_content z s (PageOp u k page slot before after) log (no_commit s (PageOp u k page slot before after) log g (λ x. refl)) (committed_is_content z s log g.2 d.1)
committed_is_content z s (PageUndo u k undone page slot after ∷ log) g d = same_content z s (PageUndo u k undone page slot after) log (no_commit s (PageUndo u k undone page slot after) log g (λ x. refl)) (committed_is_content z s log g.2 d.1)
committed_is_content z s (OpEnd u k level bytes ∷ log) g d = same_content z s (OpEnd u k level bytes) log (no_commit s (OpEnd u k level bytes) log g (λ x. refl)) (committed_is_content z s log g.2 d.1)
committed_is_content z s (OpVoid u k ∷ log) g d = same_content z s (OpVoid u k) log (no_commit s (OpVoid u k) log g (λ x. refl)) (committed_is_content z s log g.2 d.1)
committed_is_content z s (CompEnd u k undone ∷ log) g d = same_content z s (CompEnd u k undone) log (no_commit s (CompEnd u k undone) log g (λ x. refl)) (committed_is_content z s log g.2 d.1)
committed_is_content z s (Restart i ∷ log) g d = same_content z s (Restart i) log (no_commit s (Restart i) log g (λ x. refl)) (committed_is_content z s log g.2 d.1)
committed_is_content z s (Base many i ∷ log) g d = same_content z s (Base many i) log (no_commit s (Base many i) log g (λ x. refl)) (committed_is_content z s log g.2 d.1)
committed_is_content z s (AbortEnd u ∷ log) g d = same_content z s (AbortEnd u) log (no_commit s (AbortEnd u) log g (λ x. refl)) (committed_is_content z s log g.2 d.1)
committed_is_content z s (Commit t ∷ log) g d =
    let ih = committed_is_content z s log g.2 d.1 in
    let open_still : has_end log t ≡ false = g.1 t (or_left (same_txn t t) false (same_self t)) in
    let ps = open_deeds t (items z log) in
    let own : say ps ≡ deeds (only t) log = own_deeds z t log d.1 open_still d.0 in
    let bound : removed s (say ps) ≤ length (committed (items z log) s).messages =
    let a : removed s (deeds (only t) log) ≤ length (content log s).rest = there s t log g.2 open_still in
    let b : length (content log s).rest ≡ length (committed (items z log) s).messages = ap length ih.rest ∙ length-map (committed (items z log) s).messages (message_of s) in
    let c : removed s (say ps) ≡ removed s (deeds (only t) log) = ap (removed s) own in
    omega arith in
    subst (λ x. IsViewOf s x (committed (items z (Commit t ∷ log)) s)) (ap (λ ds. with_own s ds (content log s)) own ∙ sym (commit_adds s t log g))
    (committed_own s ps (content log s) (committed (items z log) s) ih bound)
