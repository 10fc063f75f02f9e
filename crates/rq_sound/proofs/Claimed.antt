-- The cells that the log claims are those that whole operations use and those of the messages that its transactions
-- took.
use Rattle.std.proofs.Common.{◌≡◌, ℕ, ◌+◌, List, [], ◌∷◌, map, None, inl, inr, refl, sym, ◌∙◌, ap, false, arith}
use Rattle.std.specs.List.{filter, sum_by}
use Rattle.std.proofs.lemmas.Bool.{false_from_ne_true}
use Rattle.std.proofs.lemmas.List.Sums.{sum_by-cons}
use Rattle.rq_model.specs.declared.record.Record.{Record}
use Rattle.rq_model.specs.Vocabulary.{In, same_txn}
use Rattle.rq_model.proofs.Lists.{same_is}
use Rattle.rq_page.specs.Sizes.{Sizes}
use Rattle.rq_views.specs.Claims.{takes_placed, claimed}
use Rattle.rq_views.specs.Items.{items}
use Rattle.rq_views.specs.Stored.{count_used}
use Rattle.rq_views.proofs.AllOpen.{Owned, owned_by, but_all, all_open, own_open, none_open, in_but_all, other_but_all, taken, taken_placed, taken_parts}
use Rattle.rq_views.proofs.Claims.{claimed_is}
use Rattle.rq_views.proofs.Counting.{count_messages, quiet_counts}
use Rattle.rq_groups.specs.Ends.{HeldEnds}
use Rattle.rq_store.specs.Fitting.{left_by}
use Rattle.rq_store.specs.Rows.{placed_one}
use Rattle.rq_store.specs.Whole.{IsWhole}
use Rattle.rq_store.proofs.Placed.{takes_finished}
use Rattle.rq_txn.specs.Rows.{Row, found_row, AreDistinct}
use Rattle.rq_txn.proofs.Finding.{same_swap}
use Rattle.rq_store.proofs.RowLists.{in_found, some_not_none}
use Rattle.rq_sound.specs.Standing.{AreStanding}
use Rattle.rq_sound.specs.Counted.{takes_all}
use Rattle.rq_sound.proofs.UsedCells.{sum_reverse}

none_taken : (xs : List Owned) → ((x : Owned) → In x xs → ⊥) → taken xs ≡ 0
none_taken [] h = refl
none_taken (x ∷ xs) h = absurd (h x (inl refl))

same_sums : (f g : Row → ℕ) (rows : List Row) → ((r : Row) → In r rows → f r ≡ g r) → sum_by f rows ≡ sum_by g rows
same_sums f g [] h = refl
same_sums f g (r ∷ rows) h =
    let a = sum_by-cons f r rows in
    let b = sum_by-cons g r rows in
    let e = h r (inl refl) in
    let ih = same_sums f g rows (λ q i. h q (inr i)) in
    omega (arith, a, b, e, ih)

other_row : (rows : List Row) (r q : Row) → found_row r.txn rows ≡ None → In q rows → same_txn r.txn q.txn ≡ false
other_row rows r q u i =
    false_from_ne_true (same_txn r.txn q.txn)
    (λ y. some_not_none (found_row r.txn rows) (in_found r.txn rows q i (sym (same_is r.txn q.txn y))) u)

-- what all took, row by row
rows_take : (rows : List Row) (xs : List Owned) → AreDistinct rows
    → ((x : Owned) → In x xs → found_row x.txn rows ≡ None → ⊥)
    → taken xs ≡ sum_by (λ r. taken (filter (owned_by r.txn) xs)) rows
rows_take [] xs u h = none_taken xs (λ x i. h x i refl)
rows_take (r ∷ rows) xs u h =
    let rest = but_all (owned_by r.txn) xs in
    let own : Row → ℕ = λ q. taken (filter (owned_by q.txn) xs) in
    let left : Row → ℕ = λ q. taken (filter (owned_by q.txn) rest) in
    let ih : taken rest ≡ sum_by left rows =
    rows_take rows rest u.1 (λ x i n. let k = in_but_all (owned_by r.txn) xs x i in h x k.0 (rw (same_swap x.txn r.txn k.1) n)) in
    let same : sum_by left rows ≡ sum_by own rows =
    same_sums left own rows (λ q i. ap taken (other_but_all (owned_by q.txn) (owned_by r.txn) xs (λ x e. ap (λ y. same_txn y q.txn) (same_is x.txn r.txn e) ∙ other_row rows r q u.0 i))) in
    let a = taken_parts (owned_by r.txn) xs in
    let b = sum_by-cons own r rows in
    omega (arith, ih, same, a, b)

-- what is claimed, by the rows
pub claimed_by_rows : (z : Sizes) (log : List Record) (ends : HeldEnds) (rows : List Row) (i b : ℕ) → IsWhole z log → AreStanding z log ends rows i b
    → claimed (items z log) ≡ count_used z (left_by z log).quiet + sum_by takes_all rows
claimed_by_rows z log ends rows i b whole k =
    let own : Row → ℕ = λ q. taken (filter (owned_by q.txn) (all_open (items z log))) in
    let all : taken (all_open (items z log)) ≡ sum_by own rows =
    rows_take rows (all_open (items z log)) k.distinct (λ x j n. none_open (items z log) x j (k.others x.txn n).settled) in
    let each : sum_by own rows ≡ sum_by takes_all rows =
    same_sums own takes_all rows (λ q j. sym (taken_placed (filter (owned_by q.txn) (all_open (items z log)))) ∙ ap (sum_by takes_placed) (own_open q.txn (items z log) ∙ (k.each q j).done) ∙ sum_reverse takes_placed (map placed_one q.finished) ∙ takes_finished q.finished) in
    let a = claimed_is z log whole.legal whole.in_store in
    let c : count_used z (left_by z log).quiet ≡ count_messages z log = quiet_counts z log whole.legal whole.in_store in
    omega (arith, all, each, a, c)
