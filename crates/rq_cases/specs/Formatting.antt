-- A format over devices in memory, call by call: the superblock comes last, and no other page is touched.
use Rattle.std.specs.Prelude.{◌≡◌, ℕ, List, [], ◌∷◌, replicate, Box}
use Rattle.std.specs.declared.alloc.Global.{Global}
use Rattle.rq_disk.specs.declared.mem_pages.MemPages.{MemPages}
use Rattle.rq_disk.specs.declared.mem_pages.PageCall.{PageCall}
use Rattle.rq_disk.specs.declared.mem_pages.PageCall.TheVariants.{Sync, Write}
use Rattle.rq_restart.specs.Formatting.{SuperblockIsLast, WritesItsPages}
use Rattle.rq_core.specs.Devices.{mem_pages}
use Rattle.rq_cases.specs.Opened.{AreNewPages}
use Rattle.rq_cases.specs.Reading.{superblock}
use Rattle.rq_cases.specs.Store.{cells_0, groups_0, page_image, sizes}

-- pages of zeros
abbrev pub zeros : List ℕ
zeros = replicate 4096 0

abbrev pub blank : List (List ℕ)
blank = zeros ∷ zeros ∷ zeros ∷ zeros ∷ []

-- these calls were made since
pub record HasCalled (old new : MemPages) (calls : List PageCall) : Type 0 where
  pub first : new.first.items ≡ old.first.items
  pub made : new.calls.items ≡ calls

-- the formatted pages, as they are handed to the device
pub record Handed : Type 0 where
  pub first : Box (List ℕ) Global
  pub groups : Box (List ℕ) Global
  pub cells : Box (List ℕ) Global
  pub first_is : first.value ≡ superblock
  pub groups_are : groups.value ≡ page_image 0 1 1 groups_0
  pub cells_are : cells.value ≡ page_image 0 2 2 cells_0

pub record FormatsAreJudged : Type 0 where
  pub first : (old new : MemPages) (h : Handed) → AreNewPages old blank → HasCalled old new (Write 0 h.first ∷ [])
      → SuperblockIsLast mem_pages sizes old new → ⊥
  pub not_synced : (old new : MemPages) (h : Handed) → AreNewPages old blank
      → HasCalled old new (Write 1 h.groups ∷ Write 2 h.cells ∷ Write 0 h.first ∷ Sync ∷ [])
      → SuperblockIsLast mem_pages sizes old new → ⊥
  pub another_page : (old new : MemPages) (h : Handed) → AreNewPages old blank
      → HasCalled old new (Write 3 h.cells ∷ [])
      → WritesItsPages mem_pages sizes old new → ⊥
  pub another_image : (old new : MemPages) (h : Handed) → AreNewPages old blank
      → HasCalled old new (Write 1 h.cells ∷ [])
      → WritesItsPages mem_pages sizes old new → ⊥
