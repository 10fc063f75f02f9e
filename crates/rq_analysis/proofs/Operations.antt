-- The operations that have begun and have no end are kept, and the greatest number.
use Rattle.std.proofs.Common.{◌≡◌, ℕ, ◌≤◌, Bool, true, false, not, ◌||◌, ◌&&◌, max, List, [], ◌∷◌, ◌++◌, inl, inr, refl, sym, ◌∙◌, ap, subst, arith}
use Rattle.std.proofs.lemmas.Bool.{cases_Bool, or_left, or_right, false≢true, true≢false, false_from_ne_true}
use Rattle.rq_model.specs.declared.txn.Txn.{Txn}
use Rattle.rq_model.specs.declared.txn.Sub.{Sub}
use Rattle.rq_model.specs.declared.record.Record.{Record}
use Rattle.rq_model.specs.declared.record.Record.TheVariants as records
use Rattle.rq_model.specs.Content.{has_end}
use Rattle.rq_model.proofs.Lists.{or_swap}
use Rattle.rq_page.specs.Sizes.{Sizes, address}
use Rattle.rq_page.specs.Slots.{held_in}
use Rattle.rq_views.specs.Log.{IsNewest, Write, same_op}
use Rattle.rq_views.specs.Items.{item_of, items, layout_of, operation}
use Rattle.rq_views.specs.Legal.{began, is_end, is_of, of_op, over, under_way}
use Rattle.rq_views.specs.Numbers.{greatest, number_in}
use Rattle.rq_views.proofs.Overlay.{same_is as op_is}
use Rattle.rq_views.proofs.Numbers.{began_within, written_began}
use Rattle.rq_analysis.specs.OpenWorkView.{open_work_of, has_sub, with_sub, without_sub}
use Rattle.rq_analysis.specs.Numbers.{number_of, numbers}
use Rattle.rq_analysis.proofs.Undoable.{IsLegal, way_from}
use Rattle.rq_analysis.proofs.Marks.{none_begun, none_numbered}
use Rattle.rq_analysis.proofs.Numbering.{NoneBelow}
use Rattle.rq_analysis.proofs.Numbering as numbering
use Rattle.rq_analysis.specs.Rules.{FollowAll, ends_op, greatest_number, has_op, has_op_end, op_of}

-- the same said of the items of a log
of_same : (z : Sizes) (r : Record) → op_of r ≡ of_op (item_of z r)
of_same z (records.PageOp t n page slot before after) = refl
of_same z _ = refl

ends_same : (z : Sizes) (r : Record) → ends_op r ≡ is_end (item_of z r)
ends_same z (records.PageOp t n page slot before after) = refl
ends_same z _ = refl

pub has_op_same : (z : Sizes) (o : Sub) (log : List Record) → has_op o log ≡ began o (items z log)
has_op_same z o [] = refl
has_op_same z o (r ∷ log) = ap (λ u. is_of o u || has_op o log) (of_same z r) ∙ ap (λ b. is_of o (of_op (item_of z r)) || b) (has_op_same z o log)

pub has_op_end_same : (z : Sizes) (o : Sub) (log : List Record) → has_op_end o log ≡ over o (items z log)
has_op_end_same z o [] = refl
has_op_end_same z o (r ∷ log) =
    ap (λ b. (b && is_of o (op_of r)) || has_op_end o log) (ends_same z r)
    ∙ ap (λ u. (is_end (item_of z r) && is_of o u) || has_op_end o log) (of_same z r)
    ∙ ap (λ b. (is_end (item_of z r) && is_of o (of_op (item_of z r))) || b) (has_op_end_same z o log)

pub greatest_same : (z : Sizes) (t : Txn) (log : List Record) → greatest_number t log ≡ greatest t (items z log)
greatest_same z t [] = refl
greatest_same z t (r ∷ log) = ap (λ u. max (number_in t u) (greatest_number t log)) (of_same z r) ∙ ap (max (number_in t (of_op (item_of z r)))) (greatest_same z t log)

-- no log needs more of a store here than that it has sizes
any_sizes : Sizes
any_sizes = record { directory = 0; cells = 0; tags = 0 }

-- of a log that follows the rules no operation is known below its Base
follows_anew : (t : Txn) (log : List Record) → FollowAll log → NoneBelow any_sizes t log
follows_anew t [] f = tt
follows_anew t (records.Base many i ∷ log) f = sym (greatest_same any_sizes t log) ∙ ap (greatest_number t) f.0.begins ∙ none_numbered t many
follows_anew t (_ ∷ log) f = follows_anew t log f.1

pub number_kept : (log : List Record) (t : Txn) → FollowAll log → has_end log t ≡ false → number_of t (numbers log) ≡ greatest_number t log
number_kept log t f e = numbering.kept any_sizes log t (follows_anew t log f) e ∙ sym (greatest_same any_sizes t log)

pub within_greatest : (t : Txn) (n : ℕ) (log : List Record) → has_op (operation t n) log ≡ true → n ≤ greatest_number t log
within_greatest t n log h =
    let a = began_within t n (items any_sizes log) (sym (has_op_same any_sizes (operation t n) log) ∙ h) in
    let b = greatest_same any_sizes t log in
    omega (arith, a, b)

-- lists of operations
behind : (o u : Sub) (os : List Sub) → has_sub o (os ++ u ∷ []) ≡ (same_op u o || has_sub o os)
behind o u [] = refl
behind o u (x ∷ os) = ap (λ b. same_op x o || b) (behind o u os) ∙ or_swap (same_op x o) (same_op u o) (has_sub o os)

with_one : (o u : Sub) (os : List Sub) → has_sub o (with_sub u os) ≡ (same_op u o || has_sub o os)
with_one o u os = elim (cases_Bool (has_sub u os)) [
  | inl y ↦ rw y (elim (cases_Bool (same_op u o)) [
    | inl own ↦ ap (λ (x : Sub). has_sub x os) (sym (op_is u o own)) ∙ y ∙ sym (or_left (same_op u o) (has_sub o os) own)
    | inr off ↦ rw off refl
  ])
  | inr n ↦ rw n (behind o u os)
]

without_one : (o u : Sub) (os : List Sub) → has_sub o (without_sub u os) ≡ (not (same_op u o) && has_sub o os)
without_one o u [] = none (same_op u o) where
  none : (b : Bool) → false ≡ (not b && false)
  none true = refl
  none false = refl
without_one o u (x ∷ os) = elim (cases_Bool (same_op u x)) [
  | inl y ↦ rw y (without_one o u os ∙ elim (cases_Bool (same_op u o)) [
    | inl own ↦ rw own refl
    | inr off ↦ (let other : same_op x o ≡ false = ap (λ (v : Sub). same_op v o) (sym (op_is u x y)) ∙ off in rw (off, other) refl)
  ])
  | inr n ↦ rw n (ap (λ b. same_op x o || b) (without_one o u os) ∙ elim (cases_Bool (same_op u o)) [
    | inl own ↦ (let other : same_op x o ≡ false = false_from_ne_true (same_op x o) (λ e. false≢true (sym n ∙ ap (same_op u) (op_is x o e) ∙ own)) in rw (own, other) refl)
    | inr off ↦ rw off refl
  ])
]

same_begun : (u o : Sub) (log : List Record) → has_op u log ≡ true → (same_op u o || has_op o log) ≡ has_op o log
same_begun u o log h = elim (cases_Bool (same_op u o)) [
  | inl own ↦ rw own (sym (ap (λ (v : Sub). has_op v log) (sym (op_is u o own)) ∙ h))
  | inr off ↦ rw off refl
]

ended_one : (u o : Sub) (log : List Record) → has_sub o (open_work_of log).unfinished ≡ (has_op o log && not (has_op_end o log)) → has_op u log ≡ true
    → has_sub o (without_sub u (open_work_of log).unfinished) ≡ ((same_op u o || has_op o log) && not (same_op u o || has_op_end o log))
ended_one u o log ih h = without_one o u (open_work_of log).unfinished ∙ ap (λ b. not (same_op u o) && b) ih ∙ elim (cases_Bool (same_op u o)) [
  | inl own ↦ rw own refl
  | inr off ↦ rw off refl
]

-- an operation is kept as unfinished where it has begun and has no end
pub unfinished_kept : (log : List Record) → FollowAll log → (o : Sub) → has_sub o (open_work_of log).unfinished ≡ (has_op o log && not (has_op_end o log))
unfinished_kept [] f o = refl
unfinished_kept (records.PageOp t n page slot before after ∷ log) f o =
    with_one o (operation t n) (open_work_of log).unfinished ∙ ap (λ b. same_op (operation t n) o || b) (unfinished_kept log f.1 o) ∙ elim (cases_Bool (same_op (operation t n) o)) [
      | inl own ↦
          let going : has_op_end o log ≡ false = ap (λ (v : Sub). has_op_end v log) (sym (op_is (operation t n) o own)) ∙ f.0.going in
          rw (own, going) refl
      | inr off ↦ rw off refl
    ]
unfinished_kept (records.PageUndo t n undone page slot after ∷ log) f o =
    unfinished_kept log f.1 o ∙ ap (λ b. b && not (has_op_end o log)) (sym (same_begun (operation t n) o log f.0.begun))
unfinished_kept (records.OpEnd t n level deed ∷ log) f o = ended_one (operation t n) o log (unfinished_kept log f.1 o) f.0.begun
unfinished_kept (records.OpVoid t n ∷ log) f o = ended_one (operation t n) o log (unfinished_kept log f.1 o) f.0.begun
unfinished_kept (records.CompEnd t n undone ∷ log) f o = ended_one (operation t n) o log (unfinished_kept log f.1 o) f.0.begun
unfinished_kept (records.Base many i ∷ log) f o = sym (ap (λ b. b && not (has_op_end o log)) (ap (has_op o) f.0.begins ∙ none_begun o many))
unfinished_kept (_ ∷ log) f o = unfinished_kept log f.1 o

-- behind the end of one operation another is under way where it was
there_still : (z : Sizes) (u o : Sub) (log : List Record) → (under_way o (items z log) ≡ true → has_sub o (open_work_of log).unfinished ≡ true)
    → ((same_op u o || began o (items z log)) && not (same_op u o || over o (items z log))) ≡ true → has_sub o (without_sub u (open_work_of log).unfinished) ≡ true
there_still z u o log ih h = without_one o u (open_work_of log).unfinished ∙ elim (cases_Bool (same_op u o)) [
  | inl own ↦ absurd (false≢true (rw own at h))
  | inr off ↦ rw off (ih (rw off at h))
]

-- and so it is of a legal log where it is under way
pub noted_there : (z : Sizes) (log : List Record) → IsLegal z log → (o : Sub) → under_way o (items z log) ≡ true → has_sub o (open_work_of log).unfinished ≡ true
noted_there z [] g o h = absurd (false≢true h)
noted_there z (records.PageOp t n page slot before after ∷ log) g o h = with_one o (operation t n) (open_work_of log).unfinished ∙ elim (cases_Bool (same_op (operation t n) o)) [
  | inl own ↦ or_left (same_op (operation t n) o) (has_sub o (open_work_of log).unfinished) own
  | inr off ↦ or_right (same_op (operation t n) o) (has_sub o (open_work_of log).unfinished) (noted_there z log g.1 o (rw off at h))
]
noted_there z (records.PageUndo t n undone page slot after ∷ log) g o h = elim (cases_Bool (same_op (operation t n) o)) [
  | inl own ↦
      let b = written_began (layout_of z) (items z log) (operation t n) (λ e. subst (λ (ws : List Write). IsNewest ws (address page slot) (held_in z page after)) e g.0.newest) in
      noted_there z log g.1 o (ap (λ (u : Sub). under_way u (items z log)) (sym (op_is (operation t n) o own)) ∙ way_from (began (operation t n) (items z log)) (over (operation t n) (items z log)) b g.0.going)
  | inr off ↦ noted_there z log g.1 o (rw off at h)
]
noted_there z (records.OpEnd t n level deed ∷ log) g o h = there_still z (operation t n) o log (noted_there z log g.1 o) h
noted_there z (records.OpVoid t n ∷ log) g o h = there_still z (operation t n) o log (noted_there z log g.1 o) h
noted_there z (records.CompEnd t n undone ∷ log) g o h = there_still z (operation t n) o log (noted_there z log g.1 o) h
noted_there z (records.Restart i ∷ log) g o h = absurd (true≢false (sym h ∙ g.0.idle o))
noted_there z (records.Base many i ∷ log) g o h = absurd (true≢false (sym h ∙ g.0.idle o))
noted_there z (_ ∷ log) g o h = noted_there z log g.1 o h
