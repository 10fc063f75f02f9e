-- What contracts see of the pages of a store.
use Rattle.std.specs.Prelude.{◌≡◌, ℕ, ◌<◌, ◌≤◌, Bool, false, List, [], length, slice_index_or, Option}
use Rattle.rq_page.specs.Sizes.{Sizes, IsInRange, page_count}
use Rattle.rq_page.specs.Formatted.{IsFormatted, IsHeaderOf}
use Rattle.rq_views.specs.Stored.{AreSlots}
use Rattle.rq_disk.specs.declared.device.PageDevice.{Ghosts}
use Rattle.rq_pool.specs.Held.{Held}

pub record Pooled (P : Type 0) : Type 0 where
  pub device : P
  pub sizes : Sizes
  -- the images of the pages, page 0 first
  pub images : List (List ℕ)
  -- whether each page was changed since it was read or written
  pub changed : List Bool
  -- which page stands in each frame
  pub frames : List Held
  -- the page that was read last and stands in no frame
  pub apart : Option ℕ

-- the image of a page
abbrev pub image_at : List (List ℕ) → ℕ → List ℕ
image_at images page = slice_index_or images page []

-- whether a page was changed since it was read or written
abbrev pub is_changed : List Bool → ℕ → Bool
is_changed changed page = slice_index_or changed page false

-- What is so of the pages of a store. They are all there, and the first tells the sizes. Behind it each header is the one of
-- its place, and each slot is one of the store.
pub record IsPool (z : Sizes) (images : List (List ℕ)) : Type 0 where
  pub range : IsInRange z
  pub count : length images ≡ page_count z
  pub slots : AreSlots z images
  pub superblock : IsFormatted z 0 (image_at images 0)
  pub headers : (p : ℕ) → 1 ≤ p → p < page_count z → IsHeaderOf z p (image_at images p)

-- Pages over their device: each is one of a store's, and where the device has been honest it reads as those that were
-- not changed.
pub record AreOver {P : Type 0} (g : Ghosts P) (device : P) (z : Sizes) (images : List (List ℕ))
    (changed : List Bool) : Type 0 where
  pub pool : IsPool z images
  pub flags : length changed ≡ page_count z
  pub clean : g.honest device → (p : ℕ) → p < page_count z → is_changed changed p ≡ false
      → image_at images p ≡ g.seen device p
