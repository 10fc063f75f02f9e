-- A transaction with no record in a log: it has done nothing there, and not ended.
use Rattle.rq_model.specs.declared.txn.Txn.{Txn}
use Rattle.rq_model.specs.declared.record.Deed.{Deed}
use Rattle.rq_model.specs.declared.record.Record.{Record}
use Rattle.rq_model.specs.declared.record.Record.TheVariants as records
use Rattle.std.proofs.Common.{◌≡◌, ℕ, ◌==◌, ◌||◌, List, [], ◌∷◌, false, refl, sym, ap, ◌∙◌, Option, None, Some}
use Rattle.std.proofs.lemmas.Bool.{or_parts, or_from, and_left}
use Rattle.std.proofs.Math.Bool.{or-false}
use Rattle.rq_model.specs.Vocabulary.{same_txn}
use Rattle.rq_model.specs.Deeds.{deed_by}
use Rattle.rq_model.specs.Content.{Said, ending, ending_by, kept, deeds}
use Rattle.rq_model.specs.Unended.{any_record}
use Rattle.rq_model.specs.Commits.{ops_told, told}
use Rattle.rq_model.specs.Content as content
use Rattle.rq_page.specs.Sizes.{Sizes}
use Rattle.rq_views.specs.Legal.{open_deeds, of_op, is_of, began}
use Rattle.rq_views.specs.Legal as legal
use Rattle.rq_views.specs.Items.{items, item_of, operation, has_undone}
use Rattle.rq_views.specs.InStore.{mentions, IsStranger}

-- it has no open deed
pub stranger_deeds : (z : Sizes) (t : Txn) (log : List Record) → IsStranger t log → open_deeds t (items z log) ≡ []
stranger_deeds z t [] h = refl
stranger_deeds z t (records.PageOp u n page slot before after ∷ log) h = stranger_deeds z t log (or_parts (same_txn u t) (any_record (mentions t) log) h).1
stranger_deeds z t (records.PageUndo u n undone page slot after ∷ log) h = stranger_deeds z t log (or_parts (same_txn u t) (any_record (mentions t) log) h).1
stranger_deeds z t (records.OpEnd u n level deed ∷ log) h = let p = or_parts (same_txn u t) (any_record (mentions t) log) h in rw p.0 (stranger_deeds z t log p.1)
stranger_deeds z t (records.OpVoid u n ∷ log) h = stranger_deeds z t log (or_parts (same_txn u t) (any_record (mentions t) log) h).1
stranger_deeds z t (records.CompEnd u n undone ∷ log) h = let p = or_parts (same_txn u t) (any_record (mentions t) log) h in rw p.0 (stranger_deeds z t log p.1)
stranger_deeds z t (records.Commit u ∷ log) h = let p = or_parts (same_txn u t) (any_record (mentions t) log) h in rw p.0 (stranger_deeds z t log p.1)
stranger_deeds z t (records.AbortEnd u ∷ log) h = stranger_deeds z t log (or_parts (same_txn u t) (any_record (mentions t) log) h).1
stranger_deeds z t (_ ∷ log) h = stranger_deeds z t log h

not_ended : (t : Txn) (r : Record) → mentions t r ≡ false → content.ends_txn t r ≡ false
not_ended t (records.Commit u) h = rw h refl
not_ended t (records.AbortEnd u) h = rw h refl
not_ended t _ h = refl

-- has not ended
pub stranger_end : (t : Txn) (log : List Record) → IsStranger t log → content.has_end log t ≡ false
stranger_end t [] h = refl
stranger_end t (r ∷ log) h = let p = or_parts (mentions t r) (any_record (mentions t) log) h in or_from (content.ends_txn t r) (content.has_end log t) (not_ended t r p.0) (stranger_end t log p.1)

ends_same : (z : Sizes) (t : Txn) (r : Record) → legal.ends_txn t (item_of z r) ≡ content.ends_txn t r
ends_same z t (records.Commit u) = sym (or-false (same_txn u t))
ends_same z t _ = refl

-- a transaction has its end among the items where it has it in the log
pub has_end_same : (z : Sizes) (t : Txn) (log : List Record) → legal.has_end t (items z log) ≡ content.has_end log t
has_end_same z t [] = refl
has_end_same z t (r ∷ log) = ap (λ b. b || legal.has_end t (items z log)) (ends_same z t r) ∙ ap (λ b. content.ends_txn t r || b) (has_end_same z t log)

-- has undone nothing
pub stranger_undone : (t : Txn) (log : List Record) → IsStranger t log → has_undone log t ≡ false
stranger_undone t [] h = refl
stranger_undone t (records.PageOp u n page slot before after ∷ log) h = stranger_undone t log (or_parts (same_txn u t) (any_record (mentions t) log) h).1
stranger_undone t (records.PageUndo u n undone page slot after ∷ log) h = stranger_undone t log (or_parts (same_txn u t) (any_record (mentions t) log) h).1
stranger_undone t (records.OpEnd u n level deed ∷ log) h = stranger_undone t log (or_parts (same_txn u t) (any_record (mentions t) log) h).1
stranger_undone t (records.OpVoid u n ∷ log) h = stranger_undone t log (or_parts (same_txn u t) (any_record (mentions t) log) h).1
stranger_undone t (records.CompEnd u n undone ∷ log) h = let p = or_parts (same_txn u t) (any_record (mentions t) log) h in rw p.0 (stranger_undone t log p.1)
stranger_undone t (records.Commit u ∷ log) h = stranger_undone t log (or_parts (same_txn u t) (any_record (mentions t) log) h).1
stranger_undone t (records.AbortEnd u ∷ log) h = stranger_undone t log (or_parts (same_txn u t) (any_record (mentions t) log) h).1
stranger_undone t (_ ∷ log) h = stranger_undone t log h

not_of : (z : Sizes) (t : Txn) (n : ℕ) (r : Record) → mentions t r ≡ false → is_of (operation t n) (of_op (item_of z r)) ≡ false
not_of z t n (records.PageOp u k page slot before after) h = and_left (same_txn u t) (k == n) h
not_of z t n (records.PageUndo u k undone page slot after) h = and_left (same_txn u t) (k == n) h
not_of z t n (records.OpEnd u k level deed) h = and_left (same_txn u t) (k == n) h
not_of z t n (records.OpVoid u k) h = and_left (same_txn u t) (k == n) h
not_of z t n (records.CompEnd u k undone) h = and_left (same_txn u t) (k == n) h
not_of z t n _ h = refl

-- has begun no operation
pub stranger_began : (z : Sizes) (t : Txn) (n : ℕ) (log : List Record) → IsStranger t log → began (operation t n) (items z log) ≡ false
stranger_began z t n [] h = refl
stranger_began z t n (r ∷ log) h =
    let p = or_parts (mentions t r) (any_record (mentions t) log) h in
    or_from (is_of (operation t n) (of_op (item_of z r))) (began (operation t n) (items z log)) (not_of z t n r p.0) (stranger_began z t n log p.1)

pub kept_other : (t u : Txn) (x : Option Deed) (ds : List Said) → same_txn u t ≡ false → kept (λ v. same_txn v t) (ending_by u x) ds ≡ ds
kept_other t u None ds h = refl
kept_other t u (Some d) ds h = rw h refl

pub told_other : (t : Txn) (r : Record) (ds : List Said) → mentions t r ≡ false → kept (λ v. same_txn v t) (ending r) ds ≡ ds
told_other t (records.OpEnd u k level deed) ds h = kept_other t u (deed_by level deed) ds h
told_other t _ ds h = refl

pub stranger_said : (t : Txn) (log : List Record) → IsStranger t log → deeds (λ v. same_txn v t) log ≡ []
stranger_said t [] h = refl
stranger_said t (r ∷ log) h = let p = or_parts (mentions t r) (any_record (mentions t) log) h in told_other t r (deeds (λ v. same_txn v t) log) p.0 ∙ stranger_said t log p.1

-- and the log tells nothing of it
pub stranger_told : (t : Txn) (log : List Record) → IsStranger t log → told t log ≡ []
stranger_told t log h = ap ops_told (stranger_said t log h)
