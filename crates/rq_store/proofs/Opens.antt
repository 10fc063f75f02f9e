-- The ledger's open transactions are the rows.
use Rattle.std.proofs.Common.{◌≡◌, List, [], ◌∷◌, refl, sym, ◌∙◌, ap, ◌+◌, ◌||◌, Option, Some, None, inl, inr}
use Rattle.std.specs.List.{sum_by}
use Rattle.std.proofs.lemmas.Bool.{cases_Bool}
use Rattle.std.proofs.lemmas.List.Sums.{sum_by-cons}
use Rattle.rq_model.specs.declared.txn.Txn.{Txn}
use Rattle.rq_model.specs.Vocabulary.{same_txn, is_some}
use Rattle.rq_model.specs.Ledger.{Open, found}
use Rattle.rq_model.specs.Tests.{any_busy, owed}
use Rattle.rq_txn.specs.Rows.{Row, Under, found_row, any_under}
use Rattle.rq_groups.specs.Ends.{HeldEnds}
use Rattle.rq_store.specs.State.{open_of, open_ones_of, job_under, owed_one, owed_by, owed_under}

abbrev pub open_found : HeldEnds → Option Row → Option Open
open_found ends None = None
open_found ends (Some r) = Some (open_of ends r)

pub found_open : (ends : HeldEnds) (t : Txn) (rows : List Row) → found t (open_ones_of ends rows) ≡ open_found ends (found_row t rows)
found_open ends t [] = refl
found_open ends t (r ∷ rows) = elim (cases_Bool (same_txn r.txn t)) [ inl y ↦ rw y refl | inr n ↦ rw n (found_open ends t rows) ]

pub busy_under : (o : Option Under) → is_some (job_under o) ≡ is_some o
busy_under None = refl
busy_under (Some u) = refl

pub busy_is : (ends : HeldEnds) (rows : List Row) → any_busy (open_ones_of ends rows) ≡ any_under rows
busy_is ends [] = refl
busy_is ends (r ∷ rows) = ap (λ b. b || any_busy (open_ones_of ends rows)) (busy_under r.under) ∙ ap (λ b. is_some r.under || b) (busy_is ends rows)

pub owed_is_one : (ends : HeldEnds) (r : Row) (o : Option Under) → r.under ≡ o → owed (open_of ends r) ≡ owed_under o
owed_is_one ends r None e = rw e refl
owed_is_one ends r (Some u) e = rw e refl

pub owed_is : (ends : HeldEnds) (rows : List Row) → sum_by owed (open_ones_of ends rows) ≡ owed_by rows
owed_is ends [] = refl
owed_is ends (r ∷ rows) = sum_by-cons owed (open_of ends r) (open_ones_of ends rows) ∙ ap (λ n. n + sum_by owed (open_ones_of ends rows)) (owed_is_one ends r r.under refl) ∙ ap (λ n. owed_one r + n) (owed_is ends rows) ∙ sym (sum_by-cons owed_one r rows)
