-- Which groups give a transaction a message.
use Rattle.std.proofs.Common.{◌≡◌, ◌≢◌, ℕ, zero, suc, ◌+◌, ◌<◌, ◌&&◌, ◌||◌, ◌++◌, List, [], ◌∷◌, length, refl, sym, ◌∙◌, ap, Bool, true, false, nat_lt, nat_eq, Option, Some, inl, inr, arith}
use Rattle.std.proofs.lemmas.Bool.{cases_Bool, true≢false, false_from_ne_true, or_from, or_left, or_right, eq-eqb, eqb-true, lt-ltb, ltb-true, and_from}
use Rattle.std.proofs.Math.Bool.{or_assoc, and-false}
use Rattle.rq_model.specs.Ledger.{Open, found, rest_in}
use Rattle.rq_model.specs.Commits.{committed_of}
use Rattle.rq_model.specs.Tests.{any_gives, below, gives, holds_for}
use Rattle.rq_page.specs.Sizes.{sender_count}
use Rattle.rq_groups.specs.Ends.{is_free_for}
use Rattle.rq_groups.specs.Waiting.{waits}
use Rattle.rq_txn.specs.Rows.{Row, found_row}
use Rattle.rq_store.specs.State.{State, ledger_of, open_of}
use Rattle.rq_store.proofs.RowLists.{found_in}
use Rattle.rq_store.specs.Plans.{WaitsFor, NoneWaits}
use Rattle.rq_sound.specs.Counted.{takes_in}
use Rattle.rq_sound.specs.Sound.{IsSound}
use Rattle.rq_sound.specs.Waits.{WaitsAreGiven}
use Rattle.rq_store.proofs.Opens.{found_open, open_found}
use Rattle.rq_sound.proofs.FreeEnds.{free_to_take}
use Rattle.rq_sound.proofs.Contracts.{answered}

-- what was taken is less than what is left just where some waits
more_by : (w n m : ℕ) → w + n ≡ m → nat_lt n m ≡ nat_lt 0 w
more_by zero n m e = elim (cases_Bool (nat_lt n m)) [ inl y ↦ let lt : n < m = ltb-true n m y in absurd (omega (arith, lt, e)) | inr f ↦ f ]
more_by (suc w) n m e = lt-ltb n m (omega (arith, e)) ∙ sym (lt-ltb 0 (suc w) (omega arith))

module _ (s : State) (k : IsSound s) (r : Row) (at_row : found_row r.txn s.rows ≡ Some r) where
  at_open : found r.txn (ledger_of s).open_ones ≡ Some (open_of s.ends r)
  at_open = found_open s.ends r.txn s.rows ∙ ap (open_found s.ends) at_row

  abbrev given : ℕ → Bool
  given g = gives (ledger_of s) r.txn (found r.txn (ledger_of s).open_ones) g

  abbrev any_given : List ℕ → Bool
  any_given gs = any_gives gs (ledger_of s) r.txn (found r.txn (ledger_of s).open_ones)

  holds_free : (g : ℕ) → g < sender_count s.sizes → is_free_for r.txn g s.ends.receiving ≡ true → holds_for (ledger_of s) (open_of s.ends r) g ≡ nat_lt 0 (waits s.waiting g)
  holds_free g below free = more_by (waits s.waiting g) (takes_in g r) (length (rest_in (committed_of s.records) g)) (answered.waiting s g r k below (found_in r.txn s.rows r at_row).0 free)

  pub gives_is : (g : ℕ) → g < sender_count s.sizes → given g ≡ (is_free_for r.txn g s.ends.receiving && nat_lt 0 (waits s.waiting g))
  gives_is g below =
      ap (λ (o : Option Open). gives (ledger_of s) r.txn o g) at_open
      ∙ ap (λ b. b && holds_for (ledger_of s) (open_of s.ends r) g) (free_to_take s k r.txn g)
      ∙ elim (cases_Bool (is_free_for r.txn g s.ends.receiving)) [
        | inl y ↦ ap (λ b. is_free_for r.txn g s.ends.receiving && b) (holds_free g below y)
        | inr n ↦ rw n refl
      ]

  -- a group gives a message where one waits for the transaction
  pub gives_one : (g : ℕ) → WaitsFor s r.txn g → given g ≡ true
  gives_one g w = gives_is g w.0 ∙ and_from _ _ w.1 (lt-ltb 0 (waits s.waiting g) (let n = w.2 in omega (arith, n)))

  no_more : (n : ℕ) → n ≡ 0 → nat_lt 0 n ≡ false
  no_more n e = false_from_ne_true (nat_lt 0 n) (λ y. let l : 0 < n = ltb-true 0 n y in omega (arith, l, e))

  -- and none where none waits
  pub gives_none : (g : ℕ) → g < sender_count s.sizes → (is_free_for r.txn g s.ends.receiving ≡ true → waits s.waiting g ≡ 0) → given g ≡ false
  gives_none g below none = gives_is g below ∙ elim (cases_Bool (is_free_for r.txn g s.ends.receiving)) [
    | inl y ↦ ap (λ b. is_free_for r.txn g s.ends.receiving && b) (no_more (waits s.waiting g) (none y)) ∙ and-false (is_free_for r.txn g s.ends.receiving)
    | inr n ↦ rw n refl
  ]

  any_append : (xs ys : List ℕ) → any_given (xs ++ ys) ≡ (any_given xs || any_given ys)
  any_append [] ys = refl
  any_append (x ∷ xs) ys = ap (λ b. given x || b) (any_append xs ys) ∙ sym (or_assoc (given x) (any_given xs) (any_given ys))

  some_below : (n g : ℕ) → g < n → given g ≡ true → any_given (below n) ≡ true
  some_below zero g m h = absurd (omega (arith, m))
  some_below (suc n) g m h = any_append (below n) (n ∷ []) ∙ elim (cases_Bool (nat_eq g n)) [
    | inl y ↦ or_right _ _ (or_left _ false (ap given (sym (eqb-true g n y)) ∙ h))
    | inr f ↦ or_left _ _ (some_below n g (let ne : g ≢ n = (λ e. true≢false (sym (eq-eqb g n e) ∙ f)) in omega (arith, m, ne)) h)
  ]

  none_below : (n : ℕ) → ((g : ℕ) → g < n → given g ≡ false) → any_given (below n) ≡ false
  none_below zero h = refl
  none_below (suc n) h = any_append (below n) (n ∷ []) ∙ or_from _ _ (none_below n (λ g m. h g (omega (arith, m)))) (or_from _ false (h n (omega arith)) refl)

  pub some_gives : (g : ℕ) → WaitsFor s r.txn g → any_given (below (sender_count s.sizes)) ≡ true
  some_gives g w = some_below (sender_count s.sizes) g w.0 (gives_one g w)

  pub none_gives : NoneWaits s r.txn → any_given (below (sender_count s.sizes)) ≡ false
  none_gives none = none_below (sender_count s.sizes) (λ g m. gives_none g m (none g m))

pub waits_given : WaitsAreGiven
waits_given = record {
  each = λ s r g k e m. gives_is s k r e g m;
  some = λ s r g k e w. some_gives s k r e g w;
  none = λ s r k e none. none_gives s k r e none;
}
