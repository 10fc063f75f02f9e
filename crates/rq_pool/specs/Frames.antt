-- The table of pages, the frames, and how they agree.
use Rattle.std.specs.Prelude.{◌≡◌, ℕ, suc, cond, ◌<◌, ◌≤◌, nat_eq, nat_lt, Bool, true, List, [], ◌∷◌, length, map, slice_index_or, Option, None, Some}
use Rattle.rq_pool.specs.declared.Entry.{Entry}
use Rattle.rq_pool.specs.declared.Frame.{Frame}
use Rattle.rq_pool.specs.Pooled.{image_at, is_changed}
use Rattle.rq_pool.specs.Held.{Held, fixed_at, page_at}

-- ---- the table

abbrev pub image_of : Entry → List ℕ
image_of entry = entry.image.value

abbrev pub images_of : List Entry → List (List ℕ)
images_of entries = map image_of entries

abbrev pub was_changed : Entry → Bool
was_changed entry = entry.seat.changed

abbrev pub changed_of : List Entry → List Bool
changed_of entries = map was_changed entries

-- the frame in which a page stands
abbrev pub place_in : Entry → Option ℕ
place_in entry = entry.seat.frame

abbrev pub places_of : List Entry → List (Option ℕ)
places_of entries = map place_in entries

abbrev pub place_at : List (Option ℕ) → ℕ → Option ℕ
place_at places page = slice_index_or places page None

-- ---- the frames

abbrev pub held_of : Frame → Held
held_of frame = record { page = frame.number; fixed = frame.fixed }

abbrev pub frames_of : List Frame → List Held
frames_of frames = map held_of frames

abbrev pub page_in : Frame → List ℕ
page_in frame = frame.page

abbrev pub pages_of : List Frame → List (List ℕ)
pages_of frames = map page_in frames

-- the bytes in a frame
abbrev pub bytes_at : List (List ℕ) → ℕ → List ℕ
bytes_at pages i = slice_index_or pages i []

-- Of pages that are put in order into so many frames, and into no frame behind these: the frame of one, and what it has.
abbrev pub first_place : ℕ → ℕ → Option ℕ
first_place most page = cond (nat_lt page most) (Some page) None

abbrev pub first_frame : ℕ → ℕ → List Held
first_frame most page = cond (nat_lt page most) (record { page = page; fixed = nat_eq page 0 } ∷ []) []

abbrev pub first_page : ℕ → ℕ → List ℕ → List (List ℕ)
first_page most page image = cond (nat_lt page most) (image ∷ []) []

-- Frames that are fixed so, the first of them with page p, each other with the page behind the one before.
abbrev pub in_order : ℕ → List Bool → List Held
in_order p [] = []
in_order p (fixed ∷ more) = record { page = p; fixed = fixed } ∷ in_order (suc p) more

-- the superblock is fixed in the first frame
pub record IsFirstFixed (frames : List Held) : Type 0 where
  pub page : page_at frames 0 ≡ 0
  pub fixed : fixed_at frames 0 ≡ true

-- ---- how they agree

-- this page stands in this frame, as its image
pub record StandsThere (images : List (List ℕ)) (frames : List Held) (pages : List (List ℕ)) (p i : ℕ) : Type 0 where
  pub within : i < length frames
  pub page : page_at frames i ≡ p
  pub bytes : bytes_at pages i ≡ image_at images p

-- the frame has a page of the store, whose entry names it
pub record HasPage (places : List (Option ℕ)) (frames : List Held) (i : ℕ) : Type 0 where
  pub high : page_at frames i < length places
  pub back : place_at places (page_at frames i) ≡ Some i

-- Table and frames agree: an entry names the frame of its page, each frame has a page whose entry names it, and a page that was
-- changed stands in one.
pub record AreTied (images : List (List ℕ)) (changed : List Bool) (places : List (Option ℕ)) (frames : List Held)
    (pages : List (List ℕ)) : Type 0 where
  pub count : length places ≡ length images
  pub same : length pages ≡ length frames
  pub few : length frames ≤ length images
  pub there : (p i : ℕ) → place_at places p ≡ Some i → StandsThere images frames pages p i
  pub back : (i : ℕ) → i < length frames → HasPage places frames i
  pub framed : (p : ℕ) → is_changed changed p ≡ true → place_at places p ≡ None → ⊥

-- the page that was read apart stands in no frame
pub record IsApart (images : List (List ℕ)) (places : List (Option ℕ)) (p : ℕ) (bytes : List ℕ) : Type 0 where
  pub high : p < length images
  pub none : place_at places p ≡ None
  pub is : bytes ≡ image_at images p

abbrev pub MayBeApart : List (List ℕ) → List (Option ℕ) → Option ℕ → List ℕ → Type 0
MayBeApart images places None bytes = Unit {0}
MayBeApart images places (Some p) bytes = IsApart images places p bytes

-- each page stands in a frame
abbrev pub AllStand : List (Option ℕ) → Type 0
AllStand places = (p : ℕ) → p < length places → place_at places p ≡ None → ⊥
