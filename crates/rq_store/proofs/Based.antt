-- Pages that are as old as the newest Base of a log, or older, hold what that stands for; so they do still when the log
-- goes on, or loses its newest records, and has the same Base.
use Rattle.std.proofs.Common.{◌≡◌, ◌≢◌, ℕ, zero, suc, ◌+◌, ◌-◌, ◌<◌, ◌≤◌, List, [], ◌∷◌, length, drop, false, refl, sym, ◌∙◌, ap, subst, inl, inr, arith}
use Rattle.std.proofs.lemmas.Bool.{cases_eq}
use Rattle.std.proofs.lemmas.List.{length-drop}
use Rattle.rq_model.specs.declared.record.Record.{Record}
use Rattle.rq_model.specs.Bases.{HasNoBase, base_lsn, gone, is_base}
use Rattle.rq_model.proofs.Bases.{base_among, base_plain, base_within, drop_base, no_base}
use Rattle.rq_page.specs.Sizes.{Sizes}
use Rattle.rq_page.specs.Pages.{lsn_of}
use Rattle.rq_store.specs.Fitting.{oldest, HoldsPage, HoldsBase, AllHoldBase, FitsPage, FitsLog, AllFit}
use Rattle.rq_store.specs.Steps.{Continues}
use Rattle.rq_store.proofs.Fitting.{oldest_older}

-- ---- the newest Base of two logs

-- so many of the first records have it too
pub oldest_base : (n : ℕ) (log : List Record) → base_lsn log ≤ n → n ≤ length log → base_lsn (oldest n log) ≡ base_lsn log
oldest_base n log low high = drop_base (length log - n) log (omega (arith, low, high))

-- where more than what is gone are forced, any beginning with these has the Base of the whole log
pub kept_base : (lost forced : ℕ) (log : List Record) → lost + forced ≤ length log → gone log < forced → base_lsn (drop lost log) ≡ base_lsn (oldest forced log)
kept_base lost forced log within more =
    let low = base_among forced log more in
    drop_base lost log (omega (arith, low, within)) ∙ sym (oldest_base forced log low (omega (arith, within)))

-- and so has a longer one of a log that went on, with that Base still
pub grown_base : (few many : ℕ) (older newer : List Record) → base_lsn newer ≡ base_lsn older → gone older < few → few ≤ length older → few ≤ many → many ≤ length newer → base_lsn (oldest many newer) ≡ base_lsn (oldest few older)
grown_base few many older newer same more within order long =
    let low = base_among few older more in
    oldest_base many newer (omega (arith, same, low, order)) long ∙ same ∙ sym (oldest_base few older low within)

-- ---- the pages

-- the first records of a log are those of each log that goes on from it
oldest_longer : (k : ℕ) (older newer : List Record) → Continues older newer → k ≤ length older → oldest k newer ≡ oldest k older
oldest_longer k older newer c low = by c.0 newer c.1 where
  by : (n : ℕ) (log : List Record) → drop n log ≡ older → oldest k log ≡ oldest k older
  by zero log e = ap (oldest k) e
  by (suc n) [] e = ap (oldest k) e
  by (suc n) (r ∷ log) e = oldest_older r log k (let l = length-drop n log in let m = ap length e in omega (arith, low, l, m)) ∙ by n log e

module _ (older newer : List Record) (goes_on : Continues older newer) (same : base_lsn newer ≡ base_lsn older) where
  up_to_base : oldest (base_lsn newer) newer ≡ oldest (base_lsn older) older
  up_to_base = ap (λ n. oldest n newer) same ∙ oldest_longer (base_lsn older) older newer goes_on (base_within older)

  module _ (z : Sizes) (p : ℕ) (image : List ℕ) where
    pub base_longer : HoldsBase z older p image → HoldsBase z newer p image
    base_longer h old = subst (HoldsPage z p image) (sym up_to_base) (h (omega (arith, old, same)))

    pub base_shorter : HoldsBase z newer p image → HoldsBase z older p image
    base_shorter h old = subst (HoldsPage z p image) up_to_base (h (omega (arith, old, same)))

pub all_base_longer : (z : Sizes) (images : ℕ → List ℕ) (older newer : List Record) → Continues older newer → base_lsn newer ≡ base_lsn older → AllHoldBase z images older → AllHoldBase z images newer
all_base_longer z images older newer c same h p low high = base_longer older newer c same z p (images p) (h p low high)

-- a record more
pub all_base_more : (z : Sizes) (r : Record) (log : List Record) (images : ℕ → List ℕ) → is_base r ≡ false → AllHoldBase z images log → AllHoldBase z images (r ∷ log)
all_base_more z r log images plain h = all_base_longer z images log (r ∷ log) (1, refl) (base_plain r log plain) h

-- and its write made: a page that is written is newer
pub all_base_written : (z : Sizes) (r : Record) (log : List Record) (old new : ℕ → List ℕ) (page : ℕ) → is_base r ≡ false → lsn_of (new page) ≡ length log + 1 → ((p : ℕ) → p ≢ page → new p ≡ old p) → AllHoldBase z old log → AllHoldBase z new (r ∷ log)
all_base_written z r log old new page plain stamp others h p low high = elim (cases_eq p page) [
  | inl same ↦ λ old. absurd (let is = base_plain r log plain in let low = base_within log in let at : lsn_of (new p) ≡ length log + 1 = ap (λ q. lsn_of (new q)) same ∙ stamp in omega (arith, old, is, low, at))
  | inr other ↦ subst (HoldsBase z (r ∷ log) p) (sym (others p other)) (all_base_more z r log old plain h p low high)
]

-- a page that fits, and is no older than the Base
pub fits_base : (z : Sizes) (log : List Record) (p : ℕ) (image : List ℕ) → FitsPage z log p image → base_lsn log ≤ lsn_of image → HoldsBase z log p image
fits_base z log p image f newer old = let e : lsn_of image ≡ base_lsn log = omega (arith, newer, old) in subst (λ n. HoldsPage z p image (oldest n log)) e f.held

-- where there is no Base, each page that fits is
pub unbased : (z : Sizes) (log : List Record) (images : ℕ → List ℕ) → HasNoBase log → FitsLog z images log → AllHoldBase z images log
unbased z log images none f p low high = fits_base z log p (images p) (f.pages p low high) (let e = no_base log none in omega (arith, e))

-- whichever images the pages have
pub hold_base : (may_be : ℕ → List ℕ → Type 0) (z : Sizes) (log : List Record) (images : ℕ → List ℕ) → AllFit may_be z log → ((p : ℕ) → may_be p (images p)) → AllHoldBase z images log
hold_base may_be z log images f each p low high = f.based p (images p) low high (each p)
