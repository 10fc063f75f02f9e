-- A page in its frame, by the table of entries and the frames themselves.
use Rattle.std.proofs.Common.{◌≡◌, ℕ, ◌<◌, ◌≤◌, List, [], length, slice_index_or, Some, true, sym, ap, subst, ◌∙◌, arith, inl, inr}
use Rattle.std.proofs.lemmas.Bool.{cases_eq}
use Rattle.std.proofs.lemmas.List.{length-map}
use Rattle.rq_page.specs.Sizes.{Sizes, page_count}
use Rattle.rq_page.specs.Pages.{IsWritten, lsn_of, slot_of}
use Rattle.rq_page.specs.Formatted.{IsHeaderOf}
use Rattle.rq_page.specs.Slots.{IsSlotOf}
use Rattle.rq_pool.specs.Reading.{IsSoundPage}
use Rattle.rq_pool.specs.Pooled.{Pooled, image_at, is_changed}
use Rattle.rq_pool.specs.Writing.{IsUnwritten}
use Rattle.rq_pool.specs.declared.Entry.{Entry}
use Rattle.rq_pool.specs.declared.Frame.{Frame}
use Rattle.rq_pool.specs.Held.{IsFramed, page_at}
use Rattle.rq_pool.specs.Frames.{AreTied, changed_of, frames_of, held_of, images_of, page_in, pages_of, place_at, places_of}
use Rattle.rq_pool.proofs.Tabled.{read_at}
use Rattle.rq_pool.proofs.Ties.{framed_place, framed_there}

module _ (entries : List Entry) (frames : List Frame) (tied : AreTied (images_of entries) (changed_of entries) (places_of entries) (frames_of frames) (pages_of frames)) (p i : ℕ) (placed : place_at (places_of entries) p ≡ Some i) where
  pub within : i < length frames
  within = let s = tied.there p i placed in rw (length-map frames held_of) at s.within

  pub framed : IsFramed (frames_of frames) p
  framed = framed_there (images_of entries) (changed_of entries) (places_of entries) (frames_of frames) (pages_of frames) tied p i placed

  pub seated : (f : Frame) → f ≡ slice_index_or frames i f → f.page ≡ image_at (images_of entries) p
  seated f is = let s = tied.there p i placed in sym (read_at page_in frames i f [] within is) ∙ s.bytes

  pub page_is : page_at (frames_of frames) i ≡ p
  page_is = let s = tied.there p i placed in s.page

-- a sound page stays so as a slot is written
pub sound_written : (z : Sizes) (page : ℕ) (old new : List ℕ) (n : ℕ) (image : List ℕ) (lsn : ℕ) → IsSoundPage z page old → IsWritten old new n image lsn
    → ((y : Sizes) (p : ℕ) → IsHeaderOf y p old → IsHeaderOf y p new) → IsSlotOf z page n image → IsSoundPage z page new
sound_written z page old new n image lsn sound wrote header fits = record {
  header = header z page sound.header;
  slots = λ k low high. elim (cases_eq k n) [
    | inl here ↦ subst (IsSlotOf z page k) (sym (ap (λ (j : ℕ). slot_of j new) here ∙ wrote.slot)) (subst (λ (j : ℕ). IsSlotOf z page j image) (sym here) fits)
    | inr other ↦ subst (IsSlotOf z page k) (sym (wrote.others k low high other)) (sound.slots k low high)
  ];
}

-- the page in a frame is one whose entry names it
module _ (entries : List Entry) (frames : List Frame) (tied : AreTied (images_of entries) (changed_of entries) (places_of entries) (frames_of frames) (pages_of frames)) (p i : ℕ) (low : i < length (frames_of frames)) (page : page_at (frames_of frames) i ≡ p) where
  pub placed_there : place_at (places_of entries) p ≡ Some i
  placed_there = framed_place (images_of entries) (changed_of entries) (places_of entries) (frames_of frames) (pages_of frames) tied p i low page

  pub stands_as : (f : Frame) → f ≡ slice_index_or frames i f → f.page ≡ image_at (images_of entries) p
  stands_as f is = seated entries frames tied p i placed_there f is

-- a page is to be written, and its record is forced
pub may_be_written : {P : Type 0} (old : Pooled P) (p lsn forced : ℕ) (bytes : List ℕ) → p < page_count old.sizes → is_changed old.changed p ≡ true → bytes ≡ image_at old.images p → lsn ≡ lsn_of bytes → lsn ≤ forced
    → IsUnwritten old p × (lsn_of (image_at old.images p) ≤ forced)
may_be_written old p lsn forced bytes high changed is stamp low = (record { of_store = high; changed = changed }, (let same = ap lsn_of is in omega (arith, same, stamp, low)))
