-- What is kept of a log is kept of it as it is read.
use Rattle.std.proofs.Common.{◌≡◌, ◌+◌, ℕ, suc, false, List, [], ◌∷◌, length, refl, sym, ◌∙◌, ap, subst, ◌&&◌, arith}
use Rattle.std.proofs.lemmas.Bool.{or_from, or_parts}
use Rattle.rq_model.specs.Bases.{marked}
use Rattle.rq_model.specs.declared.txn.Sub.{Sub}
use Rattle.rq_model.specs.declared.txn.Txn.{Txn}
use Rattle.rq_model.specs.declared.record.Record.{Record}
use Rattle.rq_model.specs.declared.record.Record.TheVariants as records
use Rattle.rq_model.specs.Content.{ends_txn, has_end}
use Rattle.rq_model.specs.Incarnations.{InOrder, IsNext, incarnation_of, incarnation_one}
use Rattle.rq_model.proofs.Bases.{length_marks}
use Rattle.rq_views.specs.Legal.{is_of}
use Rattle.rq_store.specs.Whole.{AreBased}
use Rattle.rq_analysis.specs.OpenWorkView.{open_work_after, open_work_of}
use Rattle.rq_analysis.specs.Dues.{dues, dues_after}
use Rattle.rq_analysis.specs.Numbers.{numbers, numbers_after}
use Rattle.rq_analysis.specs.Rules.{IsReadInOrder, ends_op, has_op_end, op_of}
use Rattle.rq_analysis.proofs.Noting.{few_incarnations}
use Rattle.rq_analysis.proofs.Marks.{none_ended, none_over}

-- it is as long
pub marked_length : (log : List Record) → AreBased log → length (marked log) ≡ length log
marked_length [] b = refl
marked_length (records.Base many i ∷ log) b = ap suc (length_marks many ∙ b.0)
marked_length (_ ∷ log) b = ap suc (marked_length log b.1)

pub marked_work : (log : List Record) → AreBased log → open_work_of (marked log) ≡ open_work_of log
marked_work [] b = refl
marked_work (records.Base many i ∷ log) b = refl
marked_work (records.PageOp t n page slot before after ∷ log) b =
    ap (λ (k : ℕ). open_work_after (k + 1) (records.PageOp t n page slot before after) (open_work_of (marked log))) (marked_length log b.1)
    ∙ ap (open_work_after (length log + 1) (records.PageOp t n page slot before after)) (marked_work log b.1)
marked_work (r ∷ log) b = ap (open_work_after (length log + 1) r) (marked_work log b.1)

pub marked_dues : (log : List Record) → AreBased log → dues (marked log) ≡ dues log
marked_dues [] b = refl
marked_dues (records.Base many i ∷ log) b = refl
marked_dues (records.OpEnd t n level deed ∷ log) b =
    ap (λ (k : ℕ). dues_after (k + 1) (records.OpEnd t n level deed) (dues (marked log))) (marked_length log b.1)
    ∙ ap (dues_after (length log + 1) (records.OpEnd t n level deed)) (marked_dues log b.1)
marked_dues (r ∷ log) b = ap (dues_after (length log + 1) r) (marked_dues log b.1)

pub marked_numbers : (log : List Record) → numbers (marked log) ≡ numbers log
marked_numbers [] = refl
marked_numbers (records.Base many i ∷ log) = refl
marked_numbers (r ∷ log) = ap (numbers_after r) (marked_numbers log)

pub marked_incarnation : (log : List Record) → incarnation_of (marked log) ≡ incarnation_of log
marked_incarnation [] = refl
marked_incarnation (records.Base many i ∷ log) = refl
marked_incarnation (r ∷ log) = ap (incarnation_one r) (marked_incarnation log)

-- fewer ends are known of it
pub marked_running : (t : Txn) (log : List Record) → has_end log t ≡ false → has_end (marked log) t ≡ false
marked_running t [] e = refl
marked_running t (records.Base many i ∷ log) e = none_ended t many
marked_running t (r ∷ log) e =
    let k = or_parts (ends_txn t r) (has_end log t) e in
    or_from (ends_txn t r) (has_end (marked log) t) k.0 (marked_running t log k.1)

pub marked_going : (o : Sub) (log : List Record) → has_op_end o log ≡ false → has_op_end o (marked log) ≡ false
marked_going o [] e = refl
marked_going o (records.Base many i ∷ log) e = none_over o many
marked_going o (r ∷ log) e =
    let k = or_parts (ends_op r && is_of o (op_of r)) (has_op_end o log) e in
    or_from (ends_op r && is_of o (op_of r)) (has_op_end o (marked log)) k.0 (marked_going o log k.1)

-- its records are the next ones, as those of the log are
pub marked_order : (log : List Record) → AreBased log → InOrder log → IsReadInOrder (marked log)
marked_order [] b o = tt
marked_order (records.Base many i ∷ log) b o =
    let some = o.0.0 in
    let same = o.0.1 in
    let few = few_incarnations log o.1 in
    let all = b.0 in
    ((omega (arith, some, same), omega (arith, same, few, all)), tt)
marked_order (r ∷ log) b o = (subst (λ (n : ℕ). IsNext n r) (sym (marked_incarnation log)) o.0, marked_order log b.1 o.1)
