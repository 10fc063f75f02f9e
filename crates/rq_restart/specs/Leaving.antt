-- What a crash leaves of pages that a log is repeated on, some of which were written out for others.
use Rattle.std.specs.Prelude.{◌≡◌, ◌⊎◌, ℕ, ◌<◌, ◌≤◌, List, drop}
use Rattle.rq_model.specs.declared.record.Record.{Record}
use Rattle.rq_disk.specs.Device.{Elapses, Images, Leaves}
use Rattle.rq_disk.specs.declared.device.PageDevice.{Ghosts}
use Rattle.rq_page.specs.Formatted.{IsFormatted, IsHeaderOf}
use Rattle.rq_page.specs.Sizes.{Sizes, page_count}
use Rattle.rq_pool.specs.Reading.{IsSoundPage}
use Rattle.rq_restart.specs.Repeating.{Repeats}

-- the image of a page of a store as the oldest of these records leave it that were repeated so far
pub record IsRepeatedTo (z : Sizes) (first : Images) (records : List Record) (page : ℕ) (c : List ℕ) : Type 0 where
  -- so many of the newest lack
  pub lacks : ℕ
  pub last : Images
  pub repeated : Repeats z (drop lacks records) first last
  pub is : c ≡ last page
  pub header : 1 ≤ page → page < page_count z → IsHeaderOf z page c

module _ {P : Type 0} (p : Ghosts P) (z : Sizes) (first : Images) (records : List Record) (old : P) where
  -- of a page: what a crash might have left before, or such an image
  abbrev pub WasLeftOrRepeated : ℕ → List ℕ → Type 0
  WasLeftOrRepeated page c = p.may_be old page c ⊎ IsRepeatedTo z first records page c

  -- a crash leaves such images, now and at any moment since
  pub record LeavesRepeated (new : P) : Type 0 where
    pub now : (page : ℕ) (c : List ℕ) → p.may_be new page c → WasLeftOrRepeated page c
    pub time : Elapses (p.moment old) (p.moment new) (p.left_since old) (p.left_since new) (Leaves WasLeftOrRepeated)

-- an image of that page of a store of these sizes, which has it
pub record IsPageOf (z : Sizes) (page : ℕ) (c : List ℕ) : Type 0 where
  pub within : page < page_count z
  pub superblock : page ≡ 0 → IsFormatted z 0 c
  pub sound : 1 ≤ page → page < page_count z → IsSoundPage z page c

-- Whatever was read: of a page a crash leaves, now and at any moment since, what it might have left before, or such an image.
pub record LeavesSound {P : Type 0} (p : Ghosts P) (z : Sizes) (old new : P) : Type 0 where
  pub now : (page : ℕ) (c : List ℕ) → p.may_be new page c → p.may_be old page c ⊎ IsPageOf z page c
  pub time : Elapses (p.moment old) (p.moment new) (p.left_since old) (p.left_since new)
      (Leaves (λ page c. p.may_be old page c ⊎ IsPageOf z page c))
