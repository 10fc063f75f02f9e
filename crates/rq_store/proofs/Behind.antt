-- Whoever has something open in a log has no record before its newest Base, where everything had ended.
use Rattle.std.proofs.Common.{◌≡◌, true, false, List, [], ◌∷◌, sym, ◌∙◌, subst, inl, inr}
use Rattle.std.proofs.lemmas.Bool.{cases_Bool, false≢true, true≢false, or_parts}
use Rattle.rq_model.specs.declared.txn.Txn.{Txn}
use Rattle.rq_model.specs.declared.txn.Sub.{Sub}
use Rattle.rq_model.specs.declared.record.Record.{Record}
use Rattle.rq_model.specs.declared.record.Record.TheVariants as records
use Rattle.rq_model.specs.Bases.{earlier}
use Rattle.rq_model.specs.Unended.{any_record}
use Rattle.rq_model.specs.Vocabulary.{same_txn}
use Rattle.rq_model.proofs.Lists.{same_is}
use Rattle.rq_page.specs.Sizes.{Sizes}
use Rattle.rq_views.specs.Log.{same_op}
use Rattle.rq_views.specs.InStore.{IsStranger, mentions}
use Rattle.rq_views.specs.Items.{items, layout_of, operation}
use Rattle.rq_views.specs.Legal.{IsLegalLog, has_deed, has_end, under_way}
use Rattle.rq_views.proofs.Overlay.{same_is as op_is}
use Rattle.rq_store.specs.Whole.{AreBehind}

-- an operation that is under way began behind the Base
pub way_behind : (z : Sizes) (log : List Record) (o : Sub) → IsLegalLog (layout_of z) (items z log) → AreBehind log → under_way o (items z log) ≡ true → IsStranger o.txn (earlier log)
way_behind z [] o l b h = absurd (false≢true h)
way_behind z (records.PageOp t n page slot before after ∷ log) o l b h = elim (cases_Bool (same_op (operation t n) o)) [
  | inl own ↦ subst (λ (u : Sub). IsStranger u.txn (earlier log)) (op_is (operation t n) o own) b.0
  | inr off ↦ way_behind z log o l.1 b.1 (rw off at h)
]
way_behind z (records.PageUndo t n undone page slot after ∷ log) o l b h = elim (cases_Bool (same_op (operation t n) o)) [
  | inl own ↦ subst (λ (u : Sub). IsStranger u.txn (earlier log)) (op_is (operation t n) o own) b.0
  | inr off ↦ way_behind z log o l.1 b.1 (rw off at h)
]
way_behind z (records.OpEnd t n level deed ∷ log) o l b h = elim (cases_Bool (same_op (operation t n) o)) [
  | inl own ↦ subst (λ (u : Sub). IsStranger u.txn (earlier log)) (op_is (operation t n) o own) b.0
  | inr off ↦ way_behind z log o l.1 b.1 (rw off at h)
]
way_behind z (records.OpVoid t n ∷ log) o l b h = elim (cases_Bool (same_op (operation t n) o)) [
  | inl own ↦ subst (λ (u : Sub). IsStranger u.txn (earlier log)) (op_is (operation t n) o own) b.0
  | inr off ↦ way_behind z log o l.1 b.1 (rw off at h)
]
way_behind z (records.CompEnd t n undone ∷ log) o l b h = elim (cases_Bool (same_op (operation t n) o)) [
  | inl own ↦ subst (λ (u : Sub). IsStranger u.txn (earlier log)) (op_is (operation t n) o own) b.0
  | inr off ↦ way_behind z log o l.1 b.1 (rw off at h)
]
way_behind z (records.Base many i ∷ log) o l b h = absurd (false≢true (sym (l.0.idle o) ∙ h))
way_behind z (_ ∷ log) o l b h = way_behind z log o l.1 b.1 h

-- a transaction that has done something, and has not ended, began behind it
pub deed_behind : (z : Sizes) (log : List Record) (t : Txn) → IsLegalLog (layout_of z) (items z log) → AreBehind log → has_deed t (items z log) ≡ true → has_end t (items z log) ≡ false → IsStranger t (earlier log)
deed_behind z [] t l b did e = absurd (false≢true did)
deed_behind z (records.OpEnd u n level deed ∷ log) t l b did e = elim (cases_Bool (same_txn u t)) [
  | inl own ↦ subst (λ (v : Txn). IsStranger v (earlier log)) (same_is u t own) b.0
  | inr off ↦ deed_behind z log t l.1 b.1 (rw off at did) e
]
deed_behind z (records.Commit u ∷ log) t l b did e = deed_behind z log t l.1 b.1 did (or_parts (same_txn u t) (has_end t (items z log)) e).1
deed_behind z (records.AbortEnd u ∷ log) t l b did e = deed_behind z log t l.1 b.1 did (or_parts (same_txn u t) (has_end t (items z log)) e).1
deed_behind z (records.Base many i ∷ log) t l b did e = absurd (true≢false (sym (l.0.ended t did) ∙ e))
deed_behind z (_ ∷ log) t l b did e = deed_behind z log t l.1 b.1 did e

-- who has no record has none before it
pub stranger_earlier : (t : Txn) (log : List Record) → IsStranger t log → IsStranger t (earlier log)
stranger_earlier t [] h = h
stranger_earlier t (records.Base many i ∷ log) h = h
stranger_earlier t (records.PageOp u n page slot before after ∷ log) h = stranger_earlier t log (or_parts (same_txn u t) (any_record (mentions t) log) h).1
stranger_earlier t (records.PageUndo u n undone page slot after ∷ log) h = stranger_earlier t log (or_parts (same_txn u t) (any_record (mentions t) log) h).1
stranger_earlier t (records.OpEnd u n level deed ∷ log) h = stranger_earlier t log (or_parts (same_txn u t) (any_record (mentions t) log) h).1
stranger_earlier t (records.OpVoid u n ∷ log) h = stranger_earlier t log (or_parts (same_txn u t) (any_record (mentions t) log) h).1
stranger_earlier t (records.CompEnd u n undone ∷ log) h = stranger_earlier t log (or_parts (same_txn u t) (any_record (mentions t) log) h).1
stranger_earlier t (records.Commit u ∷ log) h = stranger_earlier t log (or_parts (same_txn u t) (any_record (mentions t) log) h).1
stranger_earlier t (records.AbortEnd u ∷ log) h = stranger_earlier t log (or_parts (same_txn u t) (any_record (mentions t) log) h).1
stranger_earlier t (_ ∷ log) h = stranger_earlier t log h
