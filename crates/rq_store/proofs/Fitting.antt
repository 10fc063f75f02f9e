-- Pages that fit a log fit it still when it goes on, and when a record's write is made.
use Rattle.std.proofs.Common.{◌≡◌, ◌≢◌, ℕ, suc, ◌+◌, ◌-◌, ◌/◌, ◌%◌, ◌<◌, ◌≤◌, List, ◌∷◌, length, drop, refl, sym, ◌∙◌, ap, subst, Some, inl, inr, nat_lt, arith}
use Rattle.std.proofs.lemmas.Bool.{cases_eq, cond-true, lt-ltb}
use Rattle.rq_model.specs.declared.record.Record.{Record}
use Rattle.rq_page.specs.Sizes.{Sizes, page_count, address}
use Rattle.rq_page.specs.Pages.{lsn_of, slot_of, IsWritten}
use Rattle.rq_page.specs.Slots.{held_in, IsSlotOf}
use Rattle.rq_page.specs.Slots.Slot.{Free}
use Rattle.rq_page.specs.Formatted.{IsFormatted, IsHeaderOf}
use Rattle.rq_views.specs.Stored.{slots_in, slot_at}
use Rattle.rq_store.specs.Fitting.{left_by, image_in, oldest, ToldWrite, told_by, IsOfPage, IsStamp, HoldsPage, FitsPage, FitsLog}

pub oldest_all : (log : List Record) → oldest (length log) log ≡ log
oldest_all log = let e : length log - length log ≡ 0 = omega arith in ap (λ n. drop n log) e

-- a newer record is not among the first ones
pub oldest_older : (r : Record) (log : List Record) (n : ℕ) → n ≤ length log → oldest n (r ∷ log) ≡ oldest n log
oldest_older r log n h = let e : length (r ∷ log) - n ≡ suc (length log - n) = omega arith in ap (λ k. drop k (r ∷ log)) e

-- a longer log
pub page_fits_more : (z : Sizes) (r : Record) (log : List Record) (p : ℕ) (image : List ℕ) → FitsPage z log p image → FitsPage z (r ∷ log) p image
page_fits_more z r log p image f =
    let older : oldest (lsn_of image) (r ∷ log) ≡ oldest (lsn_of image) log = oldest_older r log (lsn_of image) f.within in
    record {
      slots = f.slots;
      within = (let w = f.within in omega (arith, w));
      stamped = subst (λ l. IsStamp p l) (sym older) f.stamped;
      held = subst (λ l. HoldsPage z p image l) (sym older) f.held;
    }

pub fits_more : (z : Sizes) (r : Record) (log : List Record) (image : ℕ → List ℕ) → FitsLog z image log → FitsLog z image (r ∷ log)
fits_more z r log image f = record { superblock = f.superblock; headers = f.headers; pages = λ p low high. page_fits_more z r log p (image p) (f.pages p low high) }

-- what a page's slot holds is what the store has at its address
pub slot_holds : (z : Sizes) (images : List (List ℕ)) (p n : ℕ) → 1 ≤ n → n ≤ 15 → slots_in z images (address p n) ≡ held_in z p (slot_of n (image_in images p))
slot_holds z images p n low high =
    let page : address p n / 16 ≡ p = omega (arith, low, high) in
    let slot : address p n % 16 ≡ n = omega (arith, low, high) in
    cond-true (nat_lt 0 (address p n % 16)) (held_in z (address p n / 16) (slot_at images (address p n))) Free (lt-ltb 0 (address p n % 16) (omega (arith, slot, low)))
    ∙ ap (λ q. held_in z q (slot_of (address p n % 16) (image_in images q))) page
    ∙ ap (λ m. held_in z p (slot_of m (image_in images p))) slot

-- A record more, and its write made: the page that it writes is stamped with it.
module _ (z : Sizes) (log : List Record) (r : Record) (w : ToldWrite) (told : told_by r ≡ Some w) (old new : List (List ℕ)) (fits : FitsLog z (image_in old) log) (slot : IsSlotOf z w.page w.slot w.after)
    (written : IsWritten (image_in old w.page) (image_in new w.page) w.slot w.after (length log + 1)) (others : (p : ℕ) → p ≢ w.page → image_in new p ≡ image_in old p)
    (superblock : IsFormatted z 0 (image_in new 0)) (headers : (p : ℕ) → 1 ≤ p → p < page_count z → IsHeaderOf z p (image_in new p)) (slots : (a : ℕ) → slots_in z new a ≡ (left_by z (r ∷ log)).slots a) where
  abbrev image : List ℕ
  image = image_in new w.page

  whole : oldest (lsn_of image) (r ∷ log) ≡ r ∷ log
  whole = let e : lsn_of image ≡ length (r ∷ log) = (let l = written.lsn in omega (arith, l)) in ap (λ n. oldest n (r ∷ log)) e ∙ oldest_all (r ∷ log)

  written_page : 1 ≤ w.page → w.page < page_count z → FitsPage z (r ∷ log) w.page image
  written_page low high = record {
    slots = λ n from to. elim (cases_eq n w.slot) [
      | inl same ↦ subst (λ m. IsSlotOf z w.page m (slot_of m image)) (sym same) (subst (λ bytes. IsSlotOf z w.page w.slot bytes) (sym written.slot) slot)
      | inr other ↦ subst (λ bytes. IsSlotOf z w.page n bytes) (sym (written.others n from to other)) ((fits.pages w.page low high).slots n from to)
    ];
    within = (let l = written.lsn in omega (arith, l));
    stamped = subst (λ l. IsStamp w.page l) (sym whole) (subst (λ o. IsOfPage w.page o) (sym told) refl);
    held = subst (λ l. HoldsPage z w.page image l) (sym whole) (λ n from to. sym (slot_holds z new w.page n from to) ∙ slots (address w.page n));
  }

  pub fits_written : FitsLog z (image_in new) (r ∷ log)
  fits_written = record {
    superblock = superblock;
    headers = headers;
    pages = λ p low high. elim (cases_eq p w.page) [
      | inl same ↦ subst (λ q. (1 ≤ q) → q < page_count z → FitsPage z (r ∷ log) q (image_in new q)) (sym same) written_page low high
      | inr other ↦ subst (λ bytes. FitsPage z (r ∷ log) p bytes) (sym (others p other)) (page_fits_more z r log p (image_in old p) (fits.pages p low high))
    ];
  }
