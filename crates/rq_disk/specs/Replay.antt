-- Calls of pages in memory, made again.
use Rattle.std.specs.Prelude.{◌≡◌, ℕ, List, [], ◌∷◌, slice_set, ⊤}
use Rattle.rq_disk.specs.Memory.{PageState, after_page_calls}
use Rattle.rq_disk.specs.declared.mem_pages.PageCall.{PageCall}
use Rattle.rq_disk.specs.declared.mem_pages.PageCall.TheVariants.{Write, Sync}

-- none is a sync
abbrev pub AllWrites : List PageCall → Type 0
AllWrites [] = ⊤
AllWrites (Write page image ∷ calls) = AllWrites calls
AllWrites (Sync ∷ calls) = ⊥

-- behind these calls all is synced, where it was before them
abbrev pub StartsFresh : List PageCall → Type 0
StartsFresh calls = (s : PageState) → s.since ≡ [] → (after_page_calls s calls).since ≡ []

-- these images with each write made
abbrev pub replayed : List (List ℕ) → List PageCall → List (List ℕ)
replayed images [] = images
replayed images (Write page image ∷ calls) = replayed (slice_set images page image.value) calls
replayed images (Sync ∷ calls) = replayed images calls

-- the writes, the newest first, before those that there were
abbrev pub writes_and : List (ℕ × List ℕ) → List PageCall → List (ℕ × List ℕ)
writes_and ws [] = ws
writes_and ws (Write page image ∷ calls) = writes_and ((page, image.value) ∷ ws) calls
writes_and ws (Sync ∷ calls) = writes_and ws calls

abbrev pub page_writes : List PageCall → List (ℕ × List ℕ)
page_writes calls = writes_and [] calls
