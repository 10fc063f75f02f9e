-- What is read of a device of pages.
use Rattle.std.specs.Prelude.{◌≡◌, ◌⊎◌, ℕ, ◌+◌, ◌%◌, ◌^◌, ◌<◌, ◌≤◌, List, length, Result, Ok, Err}
use Rattle.rq_model.specs.declared.refusal.Refusal.{Refusal}
use Rattle.rq_model.specs.declared.refusal.Refusal.TheVariants as why
use Rattle.rq_model.specs.declared.refusal.Damage.TheVariants as damage
use Rattle.rq_disk.specs.Device.{Images, Leaves, NoMore, Elapses}
use Rattle.rq_disk.specs.declared.device.PageDevice.{Ghosts}
use Rattle.rq_page.specs.Sizes.{Sizes, IsInRange, page_count}
use Rattle.rq_page.specs.Pages.{slot_of}
use Rattle.rq_page.specs.Slots.{IsSlotOf}
use Rattle.rq_page.specs.Formatted.{IsFormatted, IsHeaderOf}
use Rattle.rq_pool.specs.declared.RefusedPages.{RefusedPages}
use Rattle.rq_pool.specs.Pooled.{Pooled, image_at}

-- a device was only read: it reads the same, a crash leaves no more than before, and time goes on
pub record OnlyRead {P : Type 0} (g : Ghosts P) (old new : P) : Type 0 where
  pub same : g.seen new ≡ g.seen old
  pub honest : g.honest new → g.honest old
  pub crash : NoMore (g.may_be old) (g.may_be new)
  pub time : Elapses (g.moment old) (g.moment new) (g.left_since old) (g.left_since new) (Leaves (g.may_be old))

-- the superblock tells the sizes of the store
pub record IsSuperblock (z : Sizes) (image : List ℕ) : Type 0 where
  pub range : IsInRange z
  pub formatted : IsFormatted z 0 image

-- the header and the slots of a page behind the first are those of its place
pub record IsSoundPage (z : Sizes) (page : ℕ) (image : List ℕ) : Type 0 where
  pub header : IsHeaderOf z page image
  pub slots : (n : ℕ) → 1 ≤ n → n ≤ 15 → IsSlotOf z page n (slot_of n image)

-- the images are the pages of a store
pub record ArePages (z : Sizes) (images : List (List ℕ)) : Type 0 where
  pub superblock : IsSuperblock z (image_at images 0)
  pub count : length images ≡ page_count z
  pub sound : (p : ℕ) → 1 ≤ p → p < page_count z → IsSoundPage z p (image_at images p)

-- the first n images are those that are seen
abbrev pub AreSeen : Images → List (List ℕ) → ℕ → Type 0
AreSeen seen images n = (p : ℕ) → p < n → image_at images p ≡ seen p

-- a page behind the superblock is not sound, and those between are
pub record IsDamagedPage (z : Sizes) (seen : Images) (page : ℕ) : Type 0 where
  pub superblock : IsSuperblock z (seen 0)
  pub low : 1 ≤ page
  pub high : page < page_count z
  pub bad : IsSoundPage z page (seen page) → ⊥
  pub first : (p : ℕ) → 1 ≤ p → p < page → IsSoundPage z p (seen p)

-- The page is the first that is none of a store's. It is the superblock and tells no sizes, or it is not sound by the sizes
-- that are told.
abbrev pub IsDamaged : Images → ℕ → Type 0
IsDamaged seen page =
    ((page ≡ 0) × ((z : Sizes) → IsSuperblock z (seen 0) → ⊥)) ⊎ ((z : Sizes) × IsDamagedPage z seen page)

-- the superblock tells sizes of a store
abbrev pub TellsSizes : Images → Type 0
TellsSizes seen = (z : Sizes) × IsSuperblock z (seen 0)

-- why reading the pages of a device stopped
abbrev pub StopsFor : {P : Type 0} → Ghosts P → Refusal → P → P → Type 0
StopsFor g why.NoMemory old new = (g.honest new → TellsSizes (g.seen old)) × (g.faults new ≡ g.faults old)
StopsFor g why.DiskRead old new = g.faults new ≡ (g.faults old + 1) % 2 ^ 64
StopsFor g (why.Damaged (damage.Page page)) old new = (g.honest new → IsDamaged (g.seen old) page)
    × (g.faults new ≡ g.faults old)
StopsFor g _ old new = ⊥

-- the device as it is afterwards
abbrev pub device_of : {P N : Type 0} → Result (Pooled P × N) (RefusedPages P) → P
device_of (Ok read) = read.0.device
device_of (Err stopped) = stopped.device
