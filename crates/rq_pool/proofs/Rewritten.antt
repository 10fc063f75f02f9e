-- A slot of a page in its frame was written.
use Rattle.std.proofs.Common.{◌≡◌, ◌≢◌, ℕ, ◌/◌, ◌%◌, ◌<◌, ◌≤◌, ◌==◌, cond, nat_lt, Bool, true, false, List, [], length, slice_set, Option, None, Some, refl, sym, ap, subst, arith, ◌∙◌, inl, inr}
use Rattle.std.proofs.lemmas.Bool.{cases_eq, cases_lt}
use Rattle.std.proofs.lemmas.Bool.Decides.{nat_tests}
use Rattle.std.proofs.lemmas.List.{get_or-set_same, get_or-set_other}
use Rattle.rq_bitset.specs.Flags.{flag_at}
use Rattle.rq_disk.specs.declared.device.PageDevice.{Ghosts}
use Rattle.rq_level.specs.Meaning.{AppliesOnce, Redo}
use Rattle.rq_page.specs.Formatted.{IsHeaderOf}
use Rattle.rq_page.specs.Pages.{IsWritten}
use Rattle.rq_page.specs.Sizes.{Sizes, page_count}
use Rattle.rq_page.specs.Slots.{Free, IsSlotOf, held_in}
use Rattle.rq_views.specs.Log.{put}
use Rattle.rq_views.specs.Stored.{slot_at, slots_in}
use Rattle.rq_pool.specs.Frames.{AreTied, MayBeApart, bytes_at, place_at}
use Rattle.rq_pool.specs.Held.{Held}
use Rattle.rq_pool.specs.Indexed.{Indexed, IsIndex, IsNotedOn}
use Rattle.rq_pool.specs.Pooled.{AreOver, IsPool, image_at}
use Rattle.rq_pool.specs.Reading.{IsSoundPage}
use Rattle.rq_pool.specs.Writing.{IsRedoAt}
use Rattle.rq_pool.proofs.Indexes.{StandsInStore, index_written, rest_stays, slot_stays}
use Rattle.rq_pool.proofs.Over.{over_set, page_sound, pool_set}
use Rattle.rq_pool.proofs.Seated.{sound_written}
use Rattle.rq_pool.proofs.Slots.{slots_here}
use Rattle.rq_pool.proofs.Ties.{apart_kept, tied_set}

-- what the slots of a store hold then
pub slots_put : (z : Sizes) (old new : List (List ℕ)) (at : ℕ) (image : List ℕ) (lsn : ℕ) → 1 ≤ at % 16 → IsWritten (image_at old (at / 16)) (image_at new (at / 16)) (at % 16) image lsn
    → ((p : ℕ) → p ≢ at / 16 → image_at new p ≡ image_at old p) → (a : ℕ) → slots_in z new a ≡ put (slots_in z old) at (held_in z (at / 16) image) a
slots_put z old new at image lsn low written others a = elim (cases_eq a at) [
  | inl here ↦
      let yes_there : (a == at) ≡ true = grind (arith, nat_tests) in
      ap (slots_in z new) here ∙ slots_here z new at low ∙ ap (held_in z (at / 16)) written.slot ∙ sym (ap (λ (b : Bool). cond b (held_in z (at / 16) image) (slots_in z old a)) yes_there)
  | inr other ↦
      let not_there : (a == at) ≡ false = grind (arith, nat_tests) in
      let stays : slots_in z new a ≡ slots_in z old a = elim (cases_lt 0 (a % 16)) [
        | inl slot ↦ slot_stays z old new a (rest_stays old new at a image lsn written others slot other)
        | inr none ↦
            let nothing : nat_lt 0 (a % 16) ≡ false = grind (arith, nat_tests) in
            ap (λ (b : Bool). cond b (held_in z (a / 16) (slot_at new a)) Free) nothing ∙ sym (ap (λ (b : Bool). cond b (held_in z (a / 16) (slot_at old a)) Free) nothing)
      ] in
      stays ∙ sym (ap (λ (b : Bool). cond b (held_in z (at / 16) image) (slots_in z old a)) not_there)
]

-- Page n stands in frame i, where its bytes are these now.
module _ (z : Sizes) (images : List (List ℕ)) (changed : List Bool) (places : List (Option ℕ)) (frames : List Held) (pages : List (List ℕ)) (tied : AreTied images changed places frames pages) (pool : IsPool z images) (n i at : ℕ) (b image : List ℕ) (lsn : ℕ) (is : n ≡ at / 16) (placed : place_at places n ≡ Some i) (low : 1 ≤ at / 16) (high : at / 16 < page_count z) (fits : IsSlotOf z (at / 16) (at % 16) image) (wrote : IsWritten (bytes_at pages i) b (at % 16) image lsn) where
  abbrev pub new : List (List ℕ)
  new = slice_set images n b

  within : n < length images
  within = let count = pool.count in omega (arith, is, high, count)

  pub image_is : image_at new (at / 16) ≡ b
  image_is = ap (image_at new) (sym is) ∙ get_or-set_same images n b [] within

  pub bytes_are : bytes_at pages i ≡ image_at images (at / 16)
  bytes_are = let there = tied.there n i placed in there.bytes ∙ ap (image_at images) is

  pub page_written : IsWritten (image_at images (at / 16)) (image_at new (at / 16)) (at % 16) image lsn
  page_written =
      subst (λ (old : List ℕ). IsWritten old (image_at new (at / 16)) (at % 16) image lsn) bytes_are (subst (λ (now : List ℕ). IsWritten (bytes_at pages i) now (at % 16) image lsn) (sym image_is) wrote)

  pub page_others : (p : ℕ) → p ≢ at / 16 → image_at new p ≡ image_at images p
  page_others p ne = get_or-set_other images n p b [] (λ e. ne (e ∙ is))

  pub pool_written : ((y : Sizes) (p : ℕ) → IsHeaderOf y p (bytes_at pages i) → IsHeaderOf y p b) → IsPool z new
  pool_written header =
      let sound = sound_written z (at / 16) (bytes_at pages i) b (at % 16) image lsn (subst (IsSoundPage z (at / 16)) (sym bytes_are) (page_sound z images (at / 16) pool low high)) wrote header fits in
      pool_set z images n b pool (rw is low) (rw is high) (subst (λ (p : ℕ). IsSoundPage z p b) (sym is) sound)

  pub over_page : {P : Type 0} (g : Ghosts P) (device : P) → AreOver g device z images changed → ((y : Sizes) (p : ℕ) → IsHeaderOf y p (bytes_at pages i) → IsHeaderOf y p b) → AreOver g device z new (slice_set changed n true)
  over_page g device over header = over_set g z images new changed (slice_set changed n true) device n over (pool_written header) (rw is high) refl (λ p ne. get_or-set_other images n p b [] ne)

  pub tied_page : AreTied new (slice_set changed n true) places frames (slice_set pages i b)
  tied_page = tied_set images changed places frames pages tied i n b placed within

  pub apart_page : (apart : Option ℕ) (spare : List ℕ) → MayBeApart images places apart spare → MayBeApart new places apart spare
  apart_page apart spare may = apart_kept images places apart spare n i b placed may

  pub index_page : (x : Indexed) → StandsInStore x z → (flags now : List ℕ) → IsIndex x z images flags → ((k : ℕ) → k < x.count → x.at k ≡ at → IsNotedOn x z b now k) → ((k : ℕ) → (k < x.count → x.at k ≢ at) → flag_at now k ≡ flag_at flags k) → length now ≡ length flags → IsIndex x z new now
  index_page x stands flags now index noted others same = index_written x z stands images new flags now at image b lsn index page_written page_others image_is noted others same

-- what a record writes, where it was applied to its page
pub redone_page : (z : Sizes) (at : ℕ) (w : Option Redo) (old new : List ℕ) (lsn : ℕ) (made : Bool) → IsRedoAt z at w → AppliesOnce w old lsn made new
    → made ≡ true → (image : List ℕ) × IsSlotOf z (at / 16) (at % 16) image × IsWritten old new (at % 16) image lsn
    × ((x : Sizes) (p : ℕ) → IsHeaderOf x p old → IsHeaderOf x p new)
redone_page z at None old new lsn made told is so = absurd told
redone_page z at (Some w) old new lsn made told is so =
    (w.after, told.1, subst (λ (n : ℕ). IsWritten old new n w.after lsn) told.0 (is.done so), is.header)
