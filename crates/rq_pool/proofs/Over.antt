-- Pages stay tied to their device.
use Rattle.std.proofs.Common.{◌≡◌, ◌≢◌, ℕ, ◌+◌, ◌*◌, ◌/◌, ◌%◌, ◌<◌, ◌≤◌, Bool, true, false, List, [], length, replicate, slice_set, sym, ap, subst, arith, ◌∙◌, inl, inr}
use Rattle.std.proofs.lemmas.Bool.{cases_eq, true≢false}
use Rattle.std.proofs.lemmas.List.{get_or-set_same, get_or-set_other, length-set, length-replicate}
use Rattle.rq_disk.specs.Device.{Holds}
use Rattle.rq_disk.specs.Memory.{if_yes, if_no}
use Rattle.rq_disk.specs.declared.device.PageDevice.{Ghosts}
use Rattle.rq_page.specs.Sizes.{Sizes, page_count}
use Rattle.rq_page.specs.Pages.{slot_of}
use Rattle.rq_page.specs.Slots.{IsSlotOf}
use Rattle.rq_page.specs.Formatted.{IsFormatted, IsHeaderOf}
use Rattle.rq_views.specs.Stored.{slot_at}
use Rattle.rq_pool.specs.Pooled.{IsPool, AreOver, image_at, is_changed}
use Rattle.rq_pool.specs.Reading.{ArePages, AreSeen, IsSoundPage, OnlyRead}

-- one page more is one of a store's
pub pool_set : (z : Sizes) (images : List (List ℕ)) (n : ℕ) (page : List ℕ) → IsPool z images → 1 ≤ n → n < page_count z → IsSoundPage z n page → IsPool z (slice_set images n page)
pool_set z images n page pool low high sound = record {
  range = pool.range;
  count = length-set images n page ∙ pool.count;
  slots = λ a is. elim (cases_eq (a / 16) n) [
    | inl here ↦
        let at : slot_at new a ≡ slot_of (a % 16) page = ap (λ (q : ℕ). slot_of (a % 16) (image_at new q)) here ∙ ap (slot_of (a % 16)) put in
        subst (λ (r : List ℕ). IsSlotOf z (a / 16) (a % 16) r) (sym at) (subst (λ (q : ℕ). IsSlotOf z q (a % 16) (slot_of (a % 16) page)) (sym here) (sound.slots (a % 16) is.slot (omega arith)))
    | inr other ↦ subst (λ (r : List ℕ). IsSlotOf z (a / 16) (a % 16) (slot_of (a % 16) r)) (sym (get_or-set_other images n (a / 16) page [] other)) (pool.slots a is)
  ];
  superblock = subst (λ (r : List ℕ). IsFormatted z 0 r) (sym (get_or-set_other images n 0 page [] (λ e. absurd (omega (arith, e, low))))) pool.superblock;
  headers = λ p from to. elim (cases_eq p n) [
    | inl here ↦ subst (λ (q : ℕ). IsHeaderOf z q (image_at new q)) (sym here) (subst (IsHeaderOf z n) (sym put) sound.header)
    | inr other ↦ subst (IsHeaderOf z p) (sym (get_or-set_other images n p page [] other)) (pool.headers p from to)
  ];
} where
  new : List (List ℕ)
  new = slice_set images n page

  put : image_at new n ≡ page
  put = get_or-set_same images n page [] (let c = pool.count in omega (arith, high, c))

-- each page behind the first is sound
pub page_sound : (z : Sizes) (images : List (List ℕ)) (n : ℕ) → IsPool z images → 1 ≤ n → n < page_count z → IsSoundPage z n (image_at images n)
page_sound z images n pool low high = record {
  header = pool.headers n low high;
  slots = λ k from to.
      let a : ℕ = n * 16 + k in
      let page : a / 16 ≡ n = omega (arith, from, to) in
      let slot : a % 16 ≡ k = omega (arith, from, to) in
      subst (λ (q : ℕ). IsSlotOf z q k (slot_of k (image_at images q))) page
      (subst (λ (j : ℕ). IsSlotOf z (a / 16) j (slot_of j (image_at images (a / 16)))) slot
      (pool.slots a (record { page_low = omega (arith, page, low); page_high = omega (arith, page, high); slot = omega (arith, slot, from) })));
}

module _ {P : Type 0} (g : Ghosts P) (z : Sizes) (images : List (List ℕ)) (changed : List Bool) (old new : P) (over : AreOver g old z images changed) where
  -- the device was only read
  pub over_read : OnlyRead g old new → AreOver g new z images changed
  over_read read = record { pool = over.pool; flags = over.flags; clean = λ h p lt same. over.clean (read.honest h) p lt same ∙ ap (λ (s : ℕ → List ℕ). s p) (sym read.same) }

  -- and a page was put into its frame
  pub over_fixed : (n : ℕ) (page : List ℕ) → 1 ≤ n → n < page_count z → OnlyRead g old new → (g.honest new → page ≡ g.seen old n) → IsSoundPage z n page → AreOver g new z (slice_set images n page) changed
  over_fixed n page low high read is sound = record {
    pool = pool_set z images n page over.pool low high sound;
    flags = over.flags;
    clean = λ h p lt same. elim (cases_eq p n) [
      | inl here ↦ ap (image_at (slice_set images n page)) here ∙ get_or-set_same images n page [] (let c = over.pool.count in omega (arith, high, c)) ∙ is h ∙ ap (λ (s : ℕ → List ℕ). s n) (sym read.same) ∙ ap (g.seen new) (sym here)
      | inr other ↦ get_or-set_other images n p page [] other ∙ (over_read read).clean h p lt same
    ];
  }

  -- the page that was read is the one that stood there
  pub page_fixed : (n : ℕ) (page : List ℕ) → n < page_count z → is_changed changed n ≡ false → OnlyRead g old new → (g.honest new → page ≡ g.seen old n) → g.honest new → page ≡ image_at images n
  page_fixed n page high same read is h = is h ∙ sym (over.clean (read.honest h) n high same)

  -- the device was synced
  pub over_synced : (g.honest new → g.honest old) → g.seen new ≡ g.seen old → AreOver g new z images changed
  over_synced honest same = record { pool = over.pool; flags = over.flags; clean = λ h p lt off. over.clean (honest h) p lt off ∙ ap (λ (s : ℕ → List ℕ). s p) (sym same) }

  -- a page was written
  pub over_written : (n : ℕ) → n < page_count z → (g.honest new → g.honest old) → Holds (g.seen old) n (image_at images n) (g.seen new) → AreOver g new z images (slice_set changed n false)
  over_written n high falls holds = record {
    pool = over.pool;
    flags = length-set changed n false ∙ over.flags;
    clean = λ h p lt same. elim (cases_eq p n) [
      | inl here ↦ ap (image_at images) here ∙ sym (if_yes p n (image_at images n) (g.seen old p) here) ∙ sym (holds p)
      | inr other ↦ over.clean (falls h) p lt (sym (get_or-set_other changed n p false false other) ∙ same) ∙ sym (if_no p n (image_at images n) (g.seen old p) other) ∙ sym (holds p)
    ];
  }

  -- a page was perhaps written, and counts as changed from then on
  pub over_marked : (n : ℕ) → n < page_count z → (g.honest new → g.honest old) → ((p : ℕ) → p ≢ n → g.seen new p ≡ g.seen old p) → AreOver g new z images (slice_set changed n true)
  over_marked n high falls others = record {
    pool = over.pool;
    flags = length-set changed n true ∙ over.flags;
    clean = λ h p lt same. elim (cases_eq p n) [
      | inl here ↦ absurd (true≢false (sym (get_or-set_same changed n true false (let f = over.flags in omega (arith, high, f))) ∙ ap (is_changed (slice_set changed n true)) (sym here) ∙ same))
      | inr other ↦ over.clean (falls h) p lt (sym (get_or-set_other changed n p true false other) ∙ same) ∙ sym (others p other)
    ];
  }

  -- a page behind the last was perhaps written
  pub over_beyond : (n : ℕ) → page_count z ≤ n → (g.honest new → g.honest old) → ((p : ℕ) → p ≢ n → g.seen new p ≡ g.seen old p) → AreOver g new z images changed
  over_beyond n high falls others = record {
    pool = over.pool;
    flags = over.flags;
    clean = λ h p lt same. over.clean (falls h) p lt same ∙ sym (others p (λ e. absurd (omega (arith, e, lt, high))));
  }

-- a slot of a page was written
pub over_set : {P : Type 0} (g : Ghosts P) (z : Sizes) (images now : List (List ℕ)) (changed flags : List Bool) (device : P) (n : ℕ) → AreOver g device z images changed → IsPool z now → n < page_count z → flags ≡ slice_set changed n true → ((p : ℕ) → p ≢ n → image_at now p ≡ image_at images p)
    → AreOver g device z now flags
over_set g z images now changed flags device n over pool high is others =
    subst (AreOver g device z now) (sym is) (record {
      pool = pool;
      flags = length-set changed n true ∙ over.flags;
      clean = λ h p lt same. elim (cases_eq p n) [
        | inl here ↦ absurd (true≢false (sym (get_or-set_same changed n true false (let f = over.flags in omega (arith, high, f))) ∙ ap (is_changed (slice_set changed n true)) (sym here) ∙ same))
        | inr other ↦ others p other ∙ over.clean h p lt (sym (get_or-set_other changed n p true false other) ∙ same)
      ];
    })

-- pages that were read are those of a store
pub pool_loaded : (z : Sizes) (images : List (List ℕ)) → ArePages z images → IsPool z images
pool_loaded z images pages = record {
  range = pages.superblock.range;
  count = pages.count;
  slots = λ a is. let sound = pages.sound (a / 16) is.page_low is.page_high in sound.slots (a % 16) is.slot (omega arith);
  superblock = pages.superblock.formatted;
  headers = λ p from to. let sound = pages.sound p from to in sound.header;
}

-- the pages were loaded
pub over_loaded : {P : Type 0} (g : Ghosts P) (z : Sizes) (images : List (List ℕ)) (changed : List Bool) (old new : P) → IsPool z images → changed ≡ replicate (page_count z) false → (g.honest new → AreSeen (g.seen old) images (page_count z)) → g.seen new ≡ g.seen old → AreOver g new z images changed
over_loaded g z images changed old new pool flags seen same = record {
  pool = pool;
  flags = ap length flags ∙ length-replicate (page_count z) false;
  clean = λ h p lt _. seen h p lt ∙ ap (λ (s : ℕ → List ℕ). s p) (sym same);
}
