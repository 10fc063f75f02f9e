-- Where refusals may come, on worked histories.
use Rattle.std.proofs.Common.{◌≡◌, ◌<◌, ◌≤◌, ◌||◌, rules, ℕ, zero, suc, refl, sym, ap, ◌∙◌, length, Bool, true, false, not, nat_lt, nat_eq, Some, None, arith}
use Rattle.std.proofs.lemmas.Bool.{lt-ltb, le-ltb, eqb-true, false_from_ne_true}
use Rattle.rq_model.specs.declared.refusal.Refusal.TheVariants.{TooManyTransactions}
use Rattle.rq_model.specs.History.Call.{Begin}
use Rattle.rq_model.specs.Ledger.{Ledger, Phase, runs, ledger}
use Rattle.rq_model.specs.Ledger.Phase.{Running}
use Rattle.rq_model.specs.Legal.{IsLegal}
use Rattle.rq_model.specs.Tests.{Passes, tests, first_of}
use Rattle.rq_model.specs.Worked.{small}
use Rattle.rq_model.specs.WorkedRefusals.{begun_many, RefusalsAreWorked}

-- what the ledger of so many begins is
record IsMany (n : ℕ) (l : Ledger) : Type 0 where
  open_ones : length l.open_ones ≡ n
  begins : l.begins ≡ n
  phase : l.phase ≡ Running
  incarnation : l.incarnation ≡ 1

many : (n : ℕ) → IsMany n (ledger (begun_many n))
many zero = record { open_ones = refl; begins = refl; phase = refl; incarnation = refl }
many (suc n) = let m = many n in record {
  open_ones = let a = m.open_ones in omega (arith, a);
  begins = let a = m.begins in omega (arith, a);
  phase = m.phase;
  incarnation = m.incarnation;
}

runs_here : (n : ℕ) → not (runs (ledger (begun_many n)).phase) ≡ false
runs_here n = ap (λ (p : Phase). not (runs p)) (many n).phase

crowded : (n : ℕ) → Bool
crowded n = not (nat_lt (length (ledger (begun_many n)).open_ones) 4096) || nat_eq (ledger (begun_many n)).begins 18446744073709551615

none_of : (a b : Bool) → a ≡ true → b ≡ false → (not a || b) ≡ false
none_of a b x y = rw (x, y) refl

some_of : (a b : Bool) → a ≡ false → (not a || b) ≡ true
some_of a b x = rw x refl

is_few : (n : ℕ) → n < 4096 → crowded n ≡ false
unfolding crowded
is_few n lt =
    let a = (many n).open_ones in
    let b = (many n).begins in
    none_of _ _ (lt-ltb (length (ledger (begun_many n)).open_ones) 4096 (omega (arith, a, lt)))
    (false_from_ne_true _ (λ y. let e = eqb-true (ledger (begun_many n)).begins 18446744073709551615 y in omega (arith, e, b, lt)))

is_crowded : (n : ℕ) → 4096 ≤ n → crowded n ≡ true
unfolding crowded
is_crowded n le = let a = (many n).open_ones in some_of _ _ (le-ltb (length (ledger (begun_many n)).open_ones) 4096 (omega (arith, a, le)))

passes : (n : ℕ) → n < 4096 → Passes small (ledger (begun_many n)) Begin
unfolding crowded
passes n lt = (runs_here n, (is_few n lt, tt))

many_legal : (n : ℕ) → n ≤ 4096 → IsLegal small (begun_many n)
many_legal zero le = search rules
many_legal (suc n) le =
    let m = many n in
    let b = m.begins in
    ((passes n (omega (arith, le)), sym m.incarnation, omega (arith, b)), many_legal n (omega (arith, le)))

refuses : (n : ℕ) → 4096 ≤ n → first_of (tests small (ledger (begun_many n)) Begin) ≡ Some TooManyTransactions
unfolding crowded
refuses n le = rw (runs_here n, is_crowded n le) refl

lets_pass : (n : ℕ) → n < 4096 → first_of (tests small (ledger (begun_many n)) Begin) ≡ None
unfolding crowded
lets_pass n lt = rw (runs_here n, is_few n lt) refl

pub worked_refusals : RefusalsAreWorked
unfolding crowded
worked_refusals = record {
  many_begun = many_legal;
  too_many = λ n is. (refuses n (omega (arith, is)), many_legal n (omega (arith, is)));
  not_too_many = λ n lt a. (let bad : None ≡ Some TooManyTransactions = sym (lets_pass n lt) ∙ a.0 in cc);
  one_too_many = λ n is a. (let bad : true ≡ false = sym (is_crowded n (omega (arith, is))) ∙ a.0.0.1.0 in cc);
  pool_is_full = search rules;
  pool_full_for_nothing = λ a. (let e = a.0.1 in cc e);
  pool_full_before_the_tests = λ a. (let e = a.0.0.1.0 in cc e);
  disk_not_read = search rules;
  disk_not_read_after_failure = λ a. (let e = a.0 in cc e);
  disk_not_read_after_crash = λ a. (let e = a.0 in cc e);
  damaged = search rules;
  damaged_after_failure = λ a. (let e = a.0 in cc e);
  damaged_after_crash = λ a. (let e = a.0 in cc e);
}
