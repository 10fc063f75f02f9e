-- What files show to contracts.
use Rattle.std.specs.Prelude.{ℕ, List}
use Rattle.rq_disk.specs.FileCalls.{FileCall}
use Rattle.rq_disk.specs.declared.file_log.FileLog.{FileLog}
use Rattle.rq_disk.specs.declared.file_pages.FilePages.{FilePages}
use Rattle.rq_disk.specs.declared.contents.FileContents as held
use Rattle.rq_disk.specs.declared.storage.Storage as storage
use Rattle.rq_disk.specs.declared.storage.NotedFile.{NotedFile}

-- its calls, the newest first
abbrev pub file_calls : {X : Type 0} → NotedFile X → List FileCall
file_calls f = f.calls

-- how many bytes it was told to have when it was opened
abbrev pub opened_len : {X : Type 0} → NotedFile X → ℕ
opened_len f = f.len

-- how many pages a file has
abbrev pub file_page_count : {S F : Type 0} {h : held.Ghosts S} {f : storage.Ghosts F} → FilePages S F h f → ℕ
file_page_count d = d.count

-- how many bytes a log was told to have when it was opened
abbrev pub first_len : {S F : Type 0} {h : held.Ghosts S} {f : storage.Ghosts F} → FileLog S F h f → ℕ
first_len d = d.first
