-- Several pages that are wanted in frames at once.
use Rattle.std.specs.Prelude.{◌≡◌, ℕ, cond, ◌<◌, ◌≤◌, ◌||◌, nat_eq, nat_lt, Bool, true, false, List, [], ◌∷◌, ◌++◌, length, slice_index_or}
use Rattle.std.specs.List.{sum_by}
use Rattle.rq_model.specs.declared.refusal.Refusal.{Refusal}
use Rattle.rq_model.specs.declared.refusal.Refusal.TheVariants as why
use Rattle.rq_model.specs.declared.refusal.Damage.TheVariants as damage
use Rattle.rq_disk.specs.Device.PageAsk.{Reads, Writes}
use Rattle.rq_disk.specs.declared.device.PageDevice.{Ghosts}
use Rattle.rq_page.specs.Sizes.{Sizes, page_count}
use Rattle.rq_page.specs.Pages.{lsn_of}
use Rattle.rq_pool.specs.Fetching.{HasFailed, HasOutside}
use Rattle.rq_pool.specs.Held.{Held, IsFixed, IsFramed}
use Rattle.rq_pool.specs.KeptUp.{IsForced}
use Rattle.rq_pool.specs.Pooled.{Pooled, image_at}

-- the page is one of these
abbrev pub among : List ℕ → ℕ → Bool
among [] q = false
among (p ∷ ps) q = nat_eq p q || among ps q

-- each of these pages stands in a frame
abbrev pub AreFramed : List Held → List ℕ → Type 0
AreFramed frames ps = (q : ℕ) → among ps q ≡ true → IsFramed frames q

-- it stands in one of these frames
abbrev pub framed_in : List Held → ℕ → Bool
framed_in [] q = false
framed_in (h ∷ hs) q = nat_eq h.page q || framed_in hs q

-- these pages, each once
abbrev pub distinct : List ℕ → List ℕ
distinct [] = []
distinct (p ∷ ps) = cond (among ps p) (distinct ps) (p ∷ distinct ps)

-- each is a page of the store behind the first
abbrev pub AreOfStore : Sizes → List ℕ → Type 0
AreOfStore z ps = (i : ℕ) → i < length ps → (1 ≤ slice_index_or ps i 0) × (slice_index_or ps i 0 < page_count z)

-- 0 where so, else 1
abbrev pub one_unless : Bool → ℕ
one_unless true = 0
one_unless false = 1

-- 1 where the page in a frame may give way to one of these and is none of them, else 0
abbrev pub spare_one : List (List ℕ) → ℕ → List ℕ → Held → ℕ
spare_one images forced ps h =
    one_unless (h.fixed || (among ps h.page || nat_lt forced (lsn_of (image_at images h.page))))

-- how many frames may: they are not fixed, have none of these pages, and the LSN of theirs is forced
abbrev pub spare_for : List (List ℕ) → ℕ → List ℕ → List Held → ℕ
spare_for images forced ps frames = sum_by (spare_one images forced ps) frames

-- 1 where a page stands in no frame, else 0
abbrev pub lack : List Held → ℕ → ℕ
lack frames p = one_unless (framed_in frames p)

-- how many of these pages stand in no frame
abbrev pub missing : List Held → List ℕ → ℕ
missing frames ps = sum_by (lack frames) (distinct ps)

-- they outnumber those frames, of which none is ever empty
abbrev pub CannotBeHad : {P : Type 0} → Pooled P → ℕ → List ℕ → Type 0
CannotBeHad old forced ps = spare_for old.images forced ps old.frames < missing old.frames ps

-- the page in a frame has to stay there: it is fixed, or the LSN of it is not forced
abbrev pub has_to_stay : List (List ℕ) → ℕ → Held → Bool
has_to_stay images forced h = h.fixed || nat_lt forced (lsn_of (image_at images h.page))

-- the pages that have to
abbrev pub staying : List (List ℕ) → ℕ → List Held → List ℕ
staying images forced [] = []
staying images forced (h ∷ hs) =
    cond (has_to_stay images forced h) (h.page ∷ staying images forced hs) (staying images forced hs)

-- these pages and those that have to stay are more, each counted once, than there are frames
abbrev pub OutnumberFrames : {P : Type 0} → Pooled P → ℕ → List ℕ → Type 0
OutnumberFrames old forced ps = length old.frames < length (distinct (ps ++ staying old.images forced old.frames))

-- of each page but these, it is fixed in a frame exactly where it was
pub record StayFixed (ps : List ℕ) (old new : List Held) : Type 0 where
  pub to : (q : ℕ) → among ps q ≡ false → IsFixed old q → IsFixed new q
  pub from : (q : ℕ) → among ps q ≡ false → IsFixed new q → IsFixed old q

-- none of these pages is fixed in a frame
abbrev pub NoneFixed : List ℕ → List Held → Type 0
NoneFixed ps frames = (q : ℕ) → among ps q ≡ true → IsFixed frames q → ⊥

-- Why pages were not fixed. They cannot all be had. Or a device failed: as it read one of them that stood in no frame, or as it wrote
-- out a page whose last record is forced, for one that stood in none. Or it gave no page of a store, and is not honest.
abbrev pub NotFixed : {P : Type 0} → Ghosts P → ℕ → List ℕ → Refusal → Pooled P → Pooled P → Type 0
NotFixed g forced ps why.PoolFull old new = CannotBeHad old forced ps × (g.faults new.device ≡ g.faults old.device)
NotFixed g forced ps why.DiskRead old new = (out : HasOutside old) × (among ps out.page ≡ true)
    × HasFailed g (Reads out.page) old.device new.device
NotFixed g forced ps why.DiskWrite old new = (page : ℕ) × (image : List ℕ) × IsForced g forced new page image
    × HasFailed g (Writes page image) old.device new.device × (out : HasOutside old) × (among ps out.page ≡ true)
NotFixed g forced ps (why.Damaged (damage.Page n)) old new = (among ps n ≡ true) × (g.honest new.device → ⊥)
    × (g.faults new.device ≡ g.faults old.device)
NotFixed g forced ps _ old new = ⊥
