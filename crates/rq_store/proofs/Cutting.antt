-- What is so of a log is so of its first records, and pages that fit these fit all of them.
use Rattle.std.proofs.Common.{◌≡◌, ℕ, zero, suc, ◌+◌, ◌-◌, ◌≤◌, List, [], ◌∷◌, length, drop, sym, ◌∙◌, ap, subst, inl, inr, arith}
use Rattle.std.proofs.lemmas.Bool.{cases_lt}
use Rattle.std.proofs.lemmas.List.{drop_all, drop-drop, length-drop}
use Rattle.rq_model.specs.declared.record.Record.{Record}
use Rattle.rq_model.specs.Bases.{base_lsn}
use Rattle.rq_page.specs.Sizes.{Sizes}
use Rattle.rq_page.specs.Pages.{lsn_of}
use Rattle.rq_page.specs.Formatted.{IsFormatted, IsHeaderOf}
use Rattle.rq_store.specs.Fitting.{oldest, IsStamp, HoldsPage, HoldsBase, AllHoldBase, FitsPage, FitsLog, AllFit}
use Rattle.rq_store.specs.Whole.{IsWhole}
use Rattle.rq_store.specs.Steps.{Continues}
use Rattle.rq_store.proofs.Based.{base_longer}
use Rattle.rq_store.proofs.Fitting.{page_fits_more}

pub whole_older : (z : Sizes) (r : Record) (log : List Record) → IsWhole z (r ∷ log) → IsWhole z log
whole_older z r log w = record {
  legal = w.legal.1;
  told = w.told.1;
  rules = w.rules.2;
  reads = w.reads.1;
  in_store = w.in_store.1;
  befores = w.befores.1;
  based = w.based.1;
  behind = w.behind.1;
  order = w.order.1;
  room = w.room.1;
  numbers = w.numbers.1;
}

pub whole_dropped : (z : Sizes) (n : ℕ) (log : List Record) → IsWhole z log → IsWhole z (drop n log)
whole_dropped z zero log w = w
whole_dropped z (suc n) [] w = w
whole_dropped z (suc n) (r ∷ log) w = whole_dropped z n log (whole_older z r log w)

-- of two beginnings of a log, the longer one goes on from the shorter one
pub longer_continues : (lost kept : ℕ) (log : List Record) → lost + kept ≤ length log → Continues (oldest kept log) (drop lost log)
longer_continues lost kept log h = (
  length log - kept - lost,
  drop-drop (length log - kept - lost) lost log ∙ (let e : lost + (length log - kept - lost) ≡ length log - kept = omega (arith, h) in ap (λ n. drop n log) e),
)

-- and so it is of two logs of which one goes on from the other
pub oldest_continues : (few many : ℕ) (older newer : List Record) → Continues older newer → few ≤ length older → few ≤ many → many ≤ length newer → Continues (oldest few older) (oldest many newer)
oldest_continues few many older newer c short order long = elim (cases_lt (length newer) c.0) [
  | inl all ↦
      let none : length older ≡ 0 = sym (ap length c.1) ∙ length-drop c.0 newer ∙ omega (arith, all) in
      let e : oldest few older ≡ [] = drop_all (length older - few) older (omega (arith, none)) in
      (length (oldest many newer), drop_all (length (oldest many newer)) (oldest many newer) (omega arith) ∙ sym e)
  | inr some ↦
      let was : length older ≡ length newer - c.0 = sym (ap length c.1) ∙ length-drop c.0 newer in (
        many - few,
        drop-drop (many - few) (length newer - many) newer
            ∙ (let e : length newer - many + (many - few) ≡ c.0 + (length older - few) = omega (arith, was, short, order, long, some) in ap (λ n. drop n newer) e)
            ∙ sym (drop-drop (length older - few) c.0 newer)
            ∙ ap (drop (length older - few)) c.1,
      )
]

-- pages that fit a log fit each log that goes on from it
pub page_fits_longer : (z : Sizes) (p : ℕ) (image : List ℕ) (older newer : List Record) → Continues older newer → FitsPage z older p image → FitsPage z newer p image
page_fits_longer z p image older newer c f = by c.0 newer c.1 where
  by : (n : ℕ) (log : List Record) → drop n log ≡ older → FitsPage z log p image
  by zero log e = subst (λ l. FitsPage z l p image) (sym e) f
  by (suc n) [] e = subst (λ l. FitsPage z l p image) (sym e) f
  by (suc n) (r ∷ log) e = page_fits_more z r log p image (by n log e)

pub all_fit_longer : (may_be : ℕ → List ℕ → Type 0) (z : Sizes) (older newer : List Record) → Continues older newer → base_lsn newer ≡ base_lsn older → AllFit may_be z older → AllFit may_be z newer
all_fit_longer may_be z older newer c same f = record {
  superblock = f.superblock;
  headers = f.headers;
  pages = λ p image low high may. page_fits_longer z p image older newer c (f.pages p image low high may);
  based = λ p image low high may. base_longer older newer c same z p image (f.based p image low high may);
}

-- a page that fits a log fits as many of its first records as its LSN says, and more
pub page_fits_oldest : (z : Sizes) (p kept : ℕ) (image : List ℕ) (log : List Record) → lsn_of image ≤ kept → kept ≤ length log → FitsPage z log p image → FitsPage z (oldest kept log) p image
page_fits_oldest z p kept image log low high f =
    let count : length (oldest kept log) ≡ kept = length-drop (length log - kept) log ∙ omega (arith, high) in
    let same : oldest (lsn_of image) (oldest kept log) ≡ oldest (lsn_of image) log =
    drop-drop (length (oldest kept log) - lsn_of image) (length log - kept) log
    ∙ (let e : length log - kept + (length (oldest kept log) - lsn_of image) ≡ length log - lsn_of image = omega (arith, count, low, high) in ap (λ n. drop n log) e)
    in
    record {
      slots = f.slots;
      within = omega (arith, count, low);
      stamped = subst (λ l. IsStamp p l) (sym same) f.stamped;
      held = subst (λ l. HoldsPage z p image l) (sym same) f.held;
    }

-- images that pages may have
pub fits_log : (may_be : ℕ → List ℕ → Type 0) (z : Sizes) (log : List Record) (images : ℕ → List ℕ) → AllFit may_be z log → ((p : ℕ) → may_be p (images p)) → FitsLog z images log
fits_log may_be z log images f each = record {
  superblock = f.superblock (images 0) (each 0);
  headers = λ p low high. f.headers p (images p) low high (each p);
  pages = λ p low high. f.pages p (images p) low high (each p);
}

pub fits_log_longer : (z : Sizes) (images : ℕ → List ℕ) (older newer : List Record) → Continues older newer → FitsLog z images older → FitsLog z images newer
fits_log_longer z images older newer c f = record {
  superblock = f.superblock;
  headers = f.headers;
  pages = λ p low high. page_fits_longer z p (images p) older newer c (f.pages p low high);
}

-- where a crash leaves nothing but images that fit
pub only_fit : (seen : ℕ → List ℕ) (may_be : ℕ → List ℕ → Type 0) (z : Sizes) (log : List Record) → ((p : ℕ) (c : List ℕ) → may_be p c → c ≡ seen p) → FitsLog z seen log → AllHoldBase z seen log → AllFit may_be z log
only_fit seen may_be z log only f based = record {
  superblock = λ c may. subst (λ b. IsFormatted z 0 b) (sym (only 0 c may)) f.superblock;
  headers = λ p c low high may. subst (λ b. IsHeaderOf z p b) (sym (only p c may)) (f.headers p low high);
  pages = λ p c low high may. subst (λ b. FitsPage z log p b) (sym (only p c may)) (f.pages p low high);
  based = λ p c low high may. subst (λ b. HoldsBase z log p b) (sym (only p c may)) (based p low high);
}

-- where it leaves no more than before
pub no_more_fit : (was may_be : ℕ → List ℕ → Type 0) (z : Sizes) (log : List Record) → ((p : ℕ) (c : List ℕ) → may_be p c → was p c) → AllFit was z log → AllFit may_be z log
no_more_fit was may_be z log less f = record {
  superblock = λ c may. f.superblock c (less 0 c may);
  headers = λ p c low high may. f.headers p c low high (less p c may);
  pages = λ p c low high may. f.pages p c low high (less p c may);
  based = λ p c low high may. f.based p c low high (less p c may);
}
