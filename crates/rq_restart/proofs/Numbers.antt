-- The numbers of pages as they were read, by those of the pages that a log was repeated on.
use Rattle.std.proofs.Common.{◌≡◌, ◌≢◌, ◌<◌, ◌≤◌, ◌+◌, ◌++◌, ◌∷◌, [], ℕ, suc, cond, max, nat_eq, take, List, length, get_or, inl, inr, ◌∙◌, ap, arith}
use Rattle.std.proofs.Math.Seq.{take-suc}
use Rattle.std.proofs.lemmas.Bool.{cond-false, cond-true, eq-eqb, ne_eqb}
use Rattle.rq_disk.specs.Device.{Images}
use Rattle.rq_model.specs.declared.record.Record.{Record}
use Rattle.rq_page.specs.Pages.{lsn_of}
use Rattle.rq_page.specs.Sizes.{Sizes, page_count}
use Rattle.rq_pool.specs.declared.ahead.Ahead.{Ahead}
use Rattle.rq_pool.specs.Numbered.{AreNumbered, number_in, number_on}
use Rattle.rq_store.specs.Fitting.{image_in}
use Rattle.rq_restart.specs.Numbers.{AreNumbersOf, IsFirstBeyond, NoneBeyond}
use Rattle.rq_restart.specs.Repeating.{ArePagesCounted, IsFirstUncounted, Repeats}
use Rattle.rq_pool.proofs.Numbering.{told_more}
use Rattle.rq_restart.proofs.Repeated.{repeated_lsn}

-- those that were noted as the pages were read
pub numbers_of : (z : Sizes) (images : List (List ℕ)) (ahead : List Ahead) → AreNumbered z images ahead → AreNumbersOf z (image_in images) ahead
numbers_of z images ahead k p count low high = let is = k p low high count in (
  (λ le. let c = is.0 le in record { lsn = c.lsn; slots = c.slots }),
  (λ c. is.1 (record { lsn = c.lsn; slots = c.slots })),
)

module _ (z : Sizes) (log : List Record) (first last : Images) (ahead : List Ahead) (repeated : Repeats z log first last) where
  -- a number was within the log where the one there is now is
  was_within : (p : ℕ) → number_on ahead p (last p) ≤ length log → number_on ahead p (first p) ≤ length log
  was_within p le = (let later = (repeated_lsn z (length log) log first last repeated (omega arith) p).later in omega (arith, le, later))

  -- and beyond it where that is
  was_beyond : (p : ℕ) → length log < number_on ahead p (last p) → length log < number_on ahead p (first p)
  was_beyond p lt = elim (repeated_lsn z (length log) log first last repeated (omega arith) p).either [
    | inl same ↦ (let e = ap lsn_of same in omega (arith, lt, e))
    | inr within ↦ (let told : length log < number_in ahead p = omega (arith, lt, within) in omega (arith, told))
  ]

  -- the first page with a number beyond the log is the first that was not counted
  pub first_uncounted : (page : ℕ) → AreNumbersOf z first ahead → IsFirstBeyond z (length log) ahead last page → IsFirstUncounted z (length log) first page
  first_uncounted page k b = record {
    low = b.low;
    high = b.high;
    bad = λ c. (let le = (k page (length log) b.low b.high).1 c in let lt = was_beyond page b.beyond in omega (arith, le, lt));
    first = λ p low lt. (k p (length log) low (let high = b.high in omega (arith, lt, high))).0 (was_within p (b.first p low lt));
  }

  pub none_uncounted : AreNumbersOf z first ahead → NoneBeyond (length log) ahead last (page_count z) → ArePagesCounted z (length log) first
  none_uncounted k none p low high = (k p (length log) low high).0 (was_within p (none p low high))

-- what is told of a page by one more
pub told_step : (ahead : List Ahead) (n p : ℕ) (d : Ahead) → n < length ahead → number_in (take (n + 1) ahead) p ≡ max (number_in (take n ahead) p) (cond (nat_eq (get_or ahead n d).page p) (get_or ahead n d).number 0)
told_step ahead n p d within =
    let s : n + 1 ≡ suc n = omega arith in
    let t : take (n + 1) ahead ≡ take n ahead ++ (get_or ahead n d ∷ []) = ap (λ (m : ℕ). take m ahead) s ∙ take-suc ahead n d within in
    ap (λ (l : List Ahead). number_in l p) t ∙ told_more (take n ahead) (get_or ahead n d) p

pub told_here : (ahead : List Ahead) (n p : ℕ) (d : Ahead) → n < length ahead → (get_or ahead n d).page ≡ p → number_in (take (n + 1) ahead) p ≡ max (number_in (take n ahead) p) (get_or ahead n d).number
told_here ahead n p d within is = (let more = told_step ahead n p d within in let same = cond-true (nat_eq (get_or ahead n d).page p) (get_or ahead n d).number 0 (eq-eqb (get_or ahead n d).page p is) in omega (arith, more, same))

pub told_elsewhere : (ahead : List Ahead) (n p : ℕ) (d : Ahead) → n < length ahead → (get_or ahead n d).page ≢ p → number_in (take (n + 1) ahead) p ≡ number_in (take n ahead) p
told_elsewhere ahead n p d within other = (let more = told_step ahead n p d within in let apart = cond-false (nat_eq (get_or ahead n d).page p) (get_or ahead n d).number 0 (ne_eqb (get_or ahead n d).page p other) in omega (arith, more, apart))
