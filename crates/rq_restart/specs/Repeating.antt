-- Going through a log: what is made of the pages, one record after the other, and where it stops.
use Rattle.std.specs.Prelude.{◌≡◌, ◌⊎◌, ℕ, ◌+◌, ◌/◌, ◌%◌, ◌<◌, ◌≤◌, true, cond, nat_lt, List, [], ◌∷◌, length}
use Rattle.rq_model.specs.declared.record.Record.{Record}
use Rattle.rq_disk.specs.Device.{Images}
use Rattle.rq_page.specs.Sizes.{Sizes, page_count}
use Rattle.rq_page.specs.Pages.{lsn_of, slot_of}
use Rattle.rq_page.specs.Slots.{held_in}
use Rattle.rq_page.specs.Slots.Slot.{Free}
use Rattle.rq_pool.specs.Pooled.{Pooled, is_changed}
use Rattle.rq_views.specs.Log.{Slots}
use Rattle.rq_analysis.specs.Rules.{BeforeIt, FollowsRules, IsNextIn}
use Rattle.rq_store.specs.Opening.{MayRedo, Redoes, IsCounted}
use Rattle.rq_store.specs.Fitting.{told_by, image_in}

-- the image of each page
abbrev pub paged : {P : Type 0} → Pooled P → Images
paged pages = image_in pages.images

-- No page is older than it was. One with another LSN has that of one of so many records. One that counts as changed and did not is
-- newer.
pub record AreMarked {P : Type 0} (count : ℕ) (old new : Pooled P) : Type 0 where
  pub later : (p : ℕ) → lsn_of (paged old p) ≤ lsn_of (paged new p)
  pub within : (p : ℕ) → (lsn_of (paged new p) ≡ lsn_of (paged old p)) ⊎ (lsn_of (paged new p) ≤ count)
  pub newer : (p : ℕ) → is_changed new.changed p ≡ true
      → (is_changed old.changed p ≡ true) ⊎ (lsn_of (paged old p) < lsn_of (paged new p))

-- the LSN of each page behind the superblock is that of one of so many records, or 0
abbrev pub HaveLsnsWithin : Sizes → ℕ → Images → Type 0
HaveLsnsWithin z count pages = (p : ℕ) → 1 ≤ p → p < page_count z → lsn_of (pages p) ≤ count

-- what the slots of these pages hold
abbrev pub slots_on : Sizes → Images → Slots
slots_on z pages a = cond (nat_lt 0 (a % 16)) (held_in z (a / 16) (slot_of (a % 16) (pages (a / 16)))) Free

-- the record belongs behind these: it is the next of its incarnation and follows the rules of a log, what it writes may
-- stand there, and where its page is older, its before-image stands there
pub record Belongs (z : Sizes) (older : List Record) (r : Record) (old : Images) : Type 0 where
  pub next : IsNextIn older r
  pub follows : FollowsRules older r
  pub may : MayRedo z old (length older + 1) r

-- it was checked, and its write was made where its page is older
pub record IsRecordRedone (z : Sizes) (older : List Record) (r : Record) (old new : Images) : Type 0 where
  pub belongs : Belongs z older r old
  pub redone : Redoes (told_by r) (length older + 1) old new

-- each record was, the oldest first; nothing was made of the pages before a Base
abbrev pub Repeats : Sizes → List Record → Images → Images → Type 0
Repeats z [] first last = last ≡ first
Repeats z (r ∷ older) first last =
    (mid : Images) × BeforeIt r (Repeats z older first mid) (mid ≡ first) × IsRecordRedone z older r mid last

-- no number of a directory or cell page is beyond a log of so many records
abbrev pub ArePagesCounted : Sizes → ℕ → Images → Type 0
ArePagesCounted z count pages = (p : ℕ) → 1 ≤ p → p < page_count z → IsCounted z count p (pages p)

-- a number of this page is, and none of a page before it
pub record IsFirstUncounted (z : Sizes) (count : ℕ) (pages : Images) (page : ℕ) : Type 0 where
  pub low : 1 ≤ page
  pub high : page < page_count z
  pub bad : IsCounted z count page (pages page) → ⊥
  pub first : (p : ℕ) → 1 ≤ p → p < page → IsCounted z count p (pages p)
