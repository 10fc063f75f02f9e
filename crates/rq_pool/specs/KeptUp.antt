-- What a call may make of pages that changes none of them: some are read, and some that count as changed are written out, where
-- their last record is forced.
use Rattle.std.specs.Prelude.{◌≡◌, ◌⊎◌, ℕ, ◌≤◌, true, false, List}
use Rattle.rq_disk.specs.Device.{Leaves, Elapses}
use Rattle.rq_disk.specs.declared.device.PageDevice.{Ghosts}
use Rattle.rq_page.specs.Pages.{lsn_of}
use Rattle.rq_pool.specs.Indexed.{AreFlaggedAlike}
use Rattle.rq_pool.specs.Pooled.{Pooled, image_at, is_changed}

-- each page has the LSN that it had
abbrev pub HaveSameLsns : (old new : List (List ℕ)) → Type 0
HaveSameLsns old new = (p : ℕ) → lsn_of (image_at new p) ≡ lsn_of (image_at old p)

module _ {P : Type 0} (g : Ghosts P) (forced : ℕ) where
  -- the image of a page that was changed, where its last record is forced
  pub record IsForced (old : Pooled P) (p : ℕ) (c : List ℕ) : Type 0 where
    pub changed : is_changed old.changed p ≡ true
    pub is : c ≡ image_at old.images p
    pub lsn : lsn_of c ≤ forced

  -- a crash may leave what it might have left before, or such an image
  abbrev pub MayBeKept : Pooled P → ℕ → List ℕ → Type 0
  MayBeKept old p c = g.may_be old.device p c ⊎ IsForced old p c

  -- a page that counts as changed did so before, and has that image
  pub record StaysChanged (old new : Pooled P) (p : ℕ) : Type 0 where
    pub was : is_changed old.changed p ≡ true
    pub same : image_at new.images p ≡ image_at old.images p

  -- the last record of a page is forced, and the device reads the page as its image
  pub record IsWrittenOut (old new : Pooled P) (p : ℕ) : Type 0 where
    pub lsn : lsn_of (image_at old.images p) ≤ forced
    pub reads : g.seen new.device p ≡ image_at old.images p

  -- Pages are kept up. Where the device is honest, each has its image. Whatever it is, each has its LSN, the same cells are free, and
  -- the same groups closed. None counts as changed that did not, and one that does so no more is written out. The device reads each
  -- that did not count as changed as before. Of each, a crash at any moment leaves what it might have left, or its image, if that was
  -- changed and is forced.
  pub record IsKeptUp (old new : Pooled P) : Type 0 where
    pub sizes : new.sizes ≡ old.sizes
    pub images : g.honest new.device → new.images ≡ old.images
    pub lsns : HaveSameLsns old.images new.images
    pub flags : AreFlaggedAlike old.sizes old.images new.images
    pub changed : (p : ℕ) → is_changed new.changed p ≡ true → StaysChanged old new p
    pub written : (p : ℕ) → is_changed old.changed p ≡ true → is_changed new.changed p ≡ false → IsWrittenOut old new p
    pub others : (p : ℕ) → is_changed old.changed p ≡ false → g.seen new.device p ≡ g.seen old.device p
    pub honest : g.honest new.device → g.honest old.device
    pub crash : (p : ℕ) (c : List ℕ) → g.may_be new.device p c → MayBeKept old p c
    pub time : Elapses (g.moment old.device) (g.moment new.device) (g.left_since old.device) (g.left_since new.device)
        (Leaves (MayBeKept old))

-- nothing happened but in frames
pub record IsStill {P : Type 0} (old new : Pooled P) : Type 0 where
  pub device : new.device ≡ old.device
  pub sizes : new.sizes ≡ old.sizes
  pub images : new.images ≡ old.images
  pub changed : new.changed ≡ old.changed
  pub apart : new.apart ≡ old.apart
