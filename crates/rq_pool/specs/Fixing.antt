-- How pages that are wanted at once are fixed in frames: first those that stand in some, then each other one.
use Rattle.std.specs.Prelude.{◌≡◌, ◌⊎◌, ℕ, ◌+◌, ◌-◌, ◌^◌, ◌<◌, ◌≤◌, Bool, true, false, List, length, slice_index_or, slice_set}
use Rattle.rq_model.specs.declared.refusal.Refusal.{Refusal}
use Rattle.rq_model.specs.declared.refusal.Refusal.TheVariants as why
use Rattle.rq_model.specs.declared.refusal.Damage.TheVariants as damage
use Rattle.rq_disk.specs.Device.PageAsk.{Reads, Writes}
use Rattle.rq_disk.specs.declared.device.PageDevice.{Ghosts}
use Rattle.rq_page.specs.Pages.{lsn_of}
use Rattle.rq_pool.specs.Fetching.{HasFailed}
use Rattle.rq_pool.specs.Held.{Held, IsFramed, IsSetAt, fixed_at, page_at}
use Rattle.rq_pool.specs.KeptUp.{IsForced, IsKeptUp, IsStill}
use Rattle.rq_pool.specs.Pooled.{Pooled, image_at}
use Rattle.rq_pool.specs.Want.{AreFramed, StayFixed, among, framed_in, missing, spare_for}

-- ---- one page

-- a page is fixed in the frame in which it stands, or let go there, if it stands in one
abbrev pub IsSetIn : Bool → List Held → ℕ → List Held → Type 0
IsSetIn fixed old page new = IsSetAt fixed old page new ⊎ ((IsFramed old page → ⊥) × (new ≡ old))

-- the page in a frame may give way to another: nobody has fixed it, and its LSN is forced
pub record IsLoose (images : List (List ℕ)) (forced : ℕ) (frames : List Held) (at : ℕ) : Type 0 where
  pub within : at < length frames
  pub free : fixed_at frames at ≡ false
  pub lsn : lsn_of (image_at images (page_at frames at)) ≤ forced

-- a page that stood in no frame took the place of one that could give way, and is fixed there
pub record IsBrought (images : List (List ℕ)) (forced : ℕ) (old : List Held) (page : ℕ) (new : List Held) : Type 0 where
  pub outside : IsFramed old page → ⊥
  pub at : ℕ
  pub loose : IsLoose images forced old at
  pub now : new ≡ slice_set old at (record { page = page; fixed = true })

-- the page stood in a frame, and nothing happened, or it was brought into one
abbrev pub IsHad : {P : Type 0} → ℕ → Pooled P → ℕ → Pooled P → Type 0
IsHad forced old page new = (IsFramed old.frames page × (new ≡ old)) ⊎ IsBrought old.images forced old.frames page new.frames

-- the page stands in no frame, and no frame has one that may give way
pub record IsFull {P : Type 0} (old : Pooled P) (forced page : ℕ) : Type 0 where
  pub outside : IsFramed old.frames page → ⊥
  pub none : (at : ℕ) → IsLoose old.images forced old.frames at → ⊥

-- why a page was not brought into a frame
abbrev pub NotBrought : {P : Type 0} → Ghosts P → ℕ → ℕ → Refusal → Pooled P → Pooled P → Type 0
NotBrought g forced page why.PoolFull old new = IsFull old forced page × (g.faults new.device ≡ g.faults old.device)
NotBrought g forced page why.DiskRead old new = (IsFramed old.frames page → ⊥) × HasFailed g (Reads page) old.device new.device
NotBrought g forced page why.DiskWrite old new = (IsFramed old.frames page → ⊥) × (other : ℕ) × (image : List ℕ)
    × IsForced g forced new other image × HasFailed g (Writes other image) old.device new.device
NotBrought g forced page (why.Damaged (damage.Page n)) old new = (IsFramed old.frames page → ⊥) × (n ≡ page)
    × (g.honest new.device → ⊥) × (g.faults new.device ≡ g.faults old.device)
NotBrought g forced page _ old new = ⊥

-- why it was not, where some frame has one that may
abbrev pub NotBroughtIn : {P : Type 0} → Ghosts P → ℕ → Refusal → Pooled P → Pooled P → Type 0
NotBroughtIn g page why.PoolFull old new = ⊥
NotBroughtIn g page e old new = NotBrought g (2 ^ 64 - 1) page e old new

-- ---- all of them

-- as many of these pages more stand in frames as fewer frames may give way
abbrev pub AreEven : {P : Type 0} → Pooled P → ℕ → List ℕ → Pooled P → Type 0
AreEven old forced ps new =
    missing new.frames ps + spare_for old.images forced ps old.frames
    ≡ missing old.frames ps + spare_for new.images forced ps new.frames

-- the first k of these pages are fixed in the frames in which they stand, or let go
pub record AreSetTo {P : Type 0} (fixed : Bool) (old new : Pooled P) (ps : List ℕ) (k : ℕ) : Type 0 where
  pub count : length new.frames ≡ length old.frames
  pub same : (i : ℕ) → page_at new.frames i ≡ page_at old.frames i
  pub each : (i j : ℕ) → i < length new.frames → j < k → page_at new.frames i ≡ slice_index_or ps j 0
      → fixed_at new.frames i ≡ fixed
  pub still : IsStill old new
  pub stay : StayFixed ps old.frames new.frames
  pub even : (forced : ℕ) → AreEven old forced ps new

-- those of these pages that stand in frames are fixed there
abbrev pub AreHeld : List ℕ → List Held → Type 0
AreHeld ps frames = (i : ℕ) → i < length frames → among ps (page_at frames i) ≡ true → fixed_at frames i ≡ true

-- What is so while these pages are brought into frames. All other pages are fixed where they were, and keep their images.
pub record AreOnWay {P : Type 0} (g : Ghosts P) (forced : ℕ) (old new : Pooled P) (ps : List ℕ) : Type 0 where
  pub count : length new.frames ≡ length old.frames
  pub kept : IsKeptUp g forced old new
  pub stay : StayFixed ps old.frames new.frames
  pub others : (p : ℕ) → among ps p ≡ false → image_at new.images p ≡ image_at old.images p

-- the first k of these pages stand in frames, and all that do so are fixed there
pub record AreHadTo {P : Type 0} (g : Ghosts P) (forced : ℕ) (old new : Pooled P) (ps : List ℕ) (k : ℕ) : Type 0 where
  pub way : AreOnWay g forced old new ps
  pub even : AreEven old forced ps new
  pub held : AreHeld ps new.frames
  pub had : (j : ℕ) → j < k → framed_in new.frames (slice_index_or ps j 0) ≡ true
  pub stand : (q : ℕ) → among ps q ≡ true → IsFramed old.frames q → IsFramed new.frames q
  pub faults : g.faults new.device ≡ g.faults old.device
  pub stood : AreFramed old.frames ps → new ≡ old

-- nothing happened but that pages are fixed, each in the frame in which it stood
pub record IsHeldStill {P : Type 0} (old new : Pooled P) : Type 0 where
  pub still : IsStill old new
  pub same : (i : ℕ) → page_at new.frames i ≡ page_at old.frames i
