-- A store that is being formatted.
use Rattle.std.specs.Prelude.{◌≡◌, ◌⊎◌, ℕ, ◌<◌, ◌≤◌}
use Rattle.rq_disk.specs.Device.{Images}
use Rattle.rq_disk.specs.declared.device.PageDevice.{Ghosts}
use Rattle.rq_page.specs.Sizes.{Sizes, page_count}
use Rattle.rq_page.specs.Formatted.{IsFormatted}
use Rattle.rq_engine.specs.Devices.{PagesLeave}

-- the superblock is one that a crash might have left before, or every page is formatted
abbrev pub IsBeforeOrFormatted : {P : Type 0} → Ghosts P → Sizes → P → Images → Type 0
IsBeforeOrFormatted p z old images = p.may_be old 0 (images 0)
    ⊎ ((q : ℕ) → q < page_count z → IsFormatted z q (images q))

-- So whatever a crash at any moment leaves: a store that was not formatted to its end doesn't open, unless the
-- superblock of an older one still stands.
abbrev pub SuperblockIsLast : {P : Type 0} → Ghosts P → Sizes → P → P → Type 0
SuperblockIsLast p z old new = PagesLeave p old new (IsBeforeOrFormatted p z old)

-- each page is one that a crash might have left before, or one of the store's, and formatted
abbrev pub AreBeforeOrFormatted : {P : Type 0} → Ghosts P → Sizes → P → Images → Type 0
AreBeforeOrFormatted p z old images =
    (q : ℕ) → p.may_be old q (images q) ⊎ ((q < page_count z) × IsFormatted z q (images q))

-- So whatever a crash at any moment leaves: pages of the store alone are written, and each as it is formatted.
abbrev pub WritesItsPages : {P : Type 0} → Ghosts P → Sizes → P → P → Type 0
WritesItsPages p z old new = PagesLeave p old new (AreBeforeOrFormatted p z old)

-- The pages past the store's last one read as before.
abbrev pub KeepsOthers : {P : Type 0} → Ghosts P → Sizes → P → P → Type 0
KeepsOthers p z old new = (q : ℕ) → page_count z ≤ q → p.seen new q ≡ p.seen old q
