-- A format, call by call.
use Rattle.std.proofs.Common.{◌≡◌, ◌⊎◌, ℕ, zero, suc, ◌≤◌, ◌<◌, List, [], ◌∷◌, length, take, refl, sym, ap, ◌∙◌, subst, inl, inr, arith}
use Rattle.std.specs.Prelude.{slice_index}
use Rattle.std.proofs.lemmas.List.{nil_from_length}
use Rattle.rq_disk.specs.Device.{Images, Leaves}
use Rattle.rq_disk.specs.Memory.{MayBe, PageState, PagesSince, after_page_calls, fresh_pages, pages_after, pages_seen, reads}
use Rattle.rq_disk.specs.declared.mem_pages.MemPages.{MemPages}
use Rattle.rq_disk.specs.declared.mem_pages.PageCall.{PageCall}
use Rattle.rq_disk.specs.declared.mem_pages.PageCall.TheVariants.{Sync, Write}
use Rattle.rq_page.specs.Formatted.{IsFormatted, superblock_bytes, superblock_front}
use Rattle.rq_page.specs.Pages.{header_bytes, header_front, header_of, slot_of}
use Rattle.rq_page.specs.Sizes.{page_count}
use Rattle.rq_restart.specs.Formatting.{AreBeforeOrFormatted, IsBeforeOrFormatted, SuperblockIsLast, WritesItsPages}
use Rattle.rq_core.specs.Devices.{mem_pages}
use Rattle.rq_cases.specs.Formatting.{FormatsAreJudged, Handed, HasCalled, blank, zeros}
use Rattle.rq_cases.specs.Opened.{AreNewPages}
use Rattle.rq_cases.specs.Store.{cells_0, page_image, sizes}
use Rattle.rq_cases.proofs.Images.{header_is}
use Rattle.rq_cases.proofs.Pages.{are_formatted, cells_0_long}

abbrev at_first : PageState
at_first = fresh_pages blank

is_first : (h : Handed) → IsFormatted sizes 0 h.first.value
is_first h = subst (IsFormatted sizes 0) (sym h.first_is) (are_formatted 0 (omega arith))

-- zeros are no formatted page
zero_first : IsFormatted sizes 0 zeros → ⊥
unfolding slot_of superblock_bytes superblock_front
zero_first f = (let e : 0 ≡ 82 = ap (λ (l : List ℕ). slice_index l 0) (f.slots 1 (omega arith) (omega arith)) in omega (arith, e))

zero_groups : IsFormatted sizes 1 zeros → ⊥
unfolding header_of header_bytes header_front
zero_groups f = (let e : 0 ≡ 1 = ap (λ (l : List ℕ). slice_index l 11) f.header in omega (arith, e))

cells_as_groups : header_bytes 0 2 2 ≡ header_bytes 0 1 1 → ⊥
unfolding header_bytes header_front
cells_as_groups e = (let f : 2 ≡ 1 = ap (λ (l : List ℕ). slice_index l 11) e in omega (arith, f))

zero_header : header_of zeros ≡ header_bytes 0 2 2 → ⊥
unfolding header_of header_bytes header_front
zero_header e = (let f : 0 ≡ 2 = ap (λ (l : List ℕ). slice_index l 11) e in omega (arith, f))

zero_cells : zeros ≡ page_image 0 2 2 cells_0 → ⊥
zero_cells e = zero_header (ap header_of e ∙ header_is 0 2 2 cells_0 cells_0_long)

-- what a crash may have left since pages were so
abbrev SinceFrom : PageState → List PageCall → ℕ → Images → Type 0
SinceFrom s calls t c = (k : ℕ) × (t ≤ k) × (k ≤ length calls) × Leaves (MayBe (after_page_calls s (take k calls))) c

module _ (old new : MemPages) (n : AreNewPages old blank) (calls : List PageCall) (f : HasCalled old new calls) where
  now_is : fresh_pages new.first.items ≡ at_first
  now_is = ap fresh_pages f.first ∙ ap (pages_after old.first.items) (sym (nil_from_length old.calls.items n.moment)) ∙ n.pages

  -- what may have been left since, and what may be left now
  since_is : (λ c. mem_pages.left_since new (mem_pages.moment old) c) ≡ PagesSince blank calls 0
  since_is = λ i. SinceFrom (now_is i) (f.made i) (n.moment i)

  before_is : mem_pages.may_be old ≡ MayBe at_first
  before_is = λ i. MayBe (n.pages i)

  back : (images : Images) → PagesSince blank calls 0 images → mem_pages.left_since new (mem_pages.moment old) images
  back images left = subst (λ (Q : Images → Type 0). Q images) (sym since_is) left

  before_was : (q : ℕ) (c : List ℕ) → mem_pages.may_be old q c → c ≡ at_first.synced q
  before_was q c may = at (subst (λ (Q : ℕ → List ℕ → Type 0). Q q c) before_is may) where
    at : MayBe at_first q c → c ≡ at_first.synced q
    at (inl e) = e
    at (inr none) = absurd none

-- the superblock is written, and no other page is synced
abbrev first_alone : Handed → Images
first_alone h zero = h.first.value
first_alone h (suc q) = at_first.synced (suc q)

module _ (h : Handed) (old new : MemPages) (n : AreNewPages old blank) where
  -- where a crash leaves the superblock alone
  alone : (calls : List PageCall) (f : HasCalled old new calls) → PagesSince blank calls 0 (first_alone h) → SuperblockIsLast mem_pages sizes old new → ⊥
  alone calls f since l = at (l.each (first_alone h) (back old new n calls f (first_alone h) since)) where
    at : IsBeforeOrFormatted mem_pages sizes old (first_alone h) → ⊥
    at (inl may) = zero_first (subst (IsFormatted sizes 0) (before_was old new n calls f 0 h.first.value may) (is_first h))
    at (inr all) = zero_groups (all 1 (omega arith))

  first_of_all : (f : HasCalled old new (Write 0 h.first ∷ [])) → SuperblockIsLast mem_pages sizes old new → ⊥
  first_of_all f = alone (Write 0 h.first ∷ []) f (1, omega arith, omega arith, may) where
    may : (q : ℕ) → MayBe (pages_after blank (Write 0 h.first ∷ [])) q (first_alone h q)
    may zero = inr (inl (refl, refl))
    may (suc q) = inl refl

  abbrev unsynced : List PageCall
  unsynced = Write 1 h.groups ∷ Write 2 h.cells ∷ Write 0 h.first ∷ Sync ∷ []

  no_sync : (f : HasCalled old new unsynced) → SuperblockIsLast mem_pages sizes old new → ⊥
  no_sync f = alone unsynced f (3, omega arith, omega arith, may) where
    may : (q : ℕ) → MayBe (pages_after blank (take 3 unsynced)) q (first_alone h q)
    may zero = inr (inl (refl, refl))
    may (suc q) = inl refl

  -- where it leaves another page, or another image
  one_written : (page : ℕ) (f : HasCalled old new (Write page h.cells ∷ [])) → WritesItsPages mem_pages sizes old new
      → AreBeforeOrFormatted mem_pages sizes old (reads (pages_after blank (Write page h.cells ∷ [])))
  one_written page f l =
      l.each (reads (pages_after blank (Write page h.cells ∷ [])))
      (back old new n (Write page h.cells ∷ []) f (reads (pages_after blank (Write page h.cells ∷ [])))
      (1, omega arith, omega arith, λ q. pages_seen (pages_after blank (Write page h.cells ∷ [])) q))

  not_zeros : h.cells.value ≡ zeros → ⊥
  not_zeros e = zero_cells (sym e ∙ h.cells_are)

  past : (f : HasCalled old new (Write 3 h.cells ∷ [])) → WritesItsPages mem_pages sizes old new → ⊥
  past f l = at (one_written 3 f l 3) where
    at : mem_pages.may_be old 3 h.cells.value ⊎ ((3 < page_count sizes) × IsFormatted sizes 3 h.cells.value) → ⊥
    at (inl may) = not_zeros (before_was old new n (Write 3 h.cells ∷ []) f 3 h.cells.value may)
    at (inr is) = (let low = is.0 in omega (arith, low))

  swapped : (f : HasCalled old new (Write 1 h.cells ∷ [])) → WritesItsPages mem_pages sizes old new → ⊥
  swapped f l = at (one_written 1 f l 1) where
    at : mem_pages.may_be old 1 h.cells.value ⊎ ((1 < page_count sizes) × IsFormatted sizes 1 h.cells.value) → ⊥
    at (inl may) = not_zeros (before_was old new n (Write 1 h.cells ∷ []) f 1 h.cells.value may)
    at (inr is) = cells_as_groups (sym (ap header_of h.cells_are ∙ header_is 0 2 2 cells_0 cells_0_long) ∙ is.1.header)

pub formats : FormatsAreJudged
formats = record {
  first = λ old new h n f. first_of_all h old new n f;
  not_synced = λ old new h n f. no_sync h old new n f;
  another_page = λ old new h n f. past h old new n f;
  another_image = λ old new h n f. swapped h old new n f;
}
