-- Devices in memory, as the worked run finds them and as its calls leave them.
use Rattle.std.specs.Prelude.{◌≡◌, ℕ, List, [], ◌∷◌, ◌++◌, false, true, None, Vec, Box}
use Rattle.std.specs.declared.alloc.Global.{Global}
use Rattle.rq_model.specs.declared.record.Record.{Record}
use Rattle.rq_disk.specs.Memory.{fresh_log, fresh_pages}
use Rattle.rq_disk.specs.Shown.{log_moment, log_of, pages_moment, pages_of}
use Rattle.rq_disk.specs.declared.mem_log.LogCall.TheVariants.{Append, Force}
use Rattle.rq_disk.specs.declared.mem_log.MemLog.{MemLog}
use Rattle.rq_disk.specs.declared.mem_pages.MemPages.{MemPages}
use Rattle.rq_disk.specs.declared.mem_pages.PageCall.TheVariants.{Write}
use Rattle.rq_log.specs.Spelled.{spelled}
use Rattle.rq_pool.specs.Frames.{in_order}
use Rattle.rq_store.specs.State.{State}
use Rattle.rq_engine.specs.Opened.{OpenStore}

-- pages in memory with these images, and a log in memory of these records, as `new` says that it makes them
pub record AreNewPages (d : MemPages) (images : List (List ℕ)) : Type 0 where
  pub pages : pages_of d ≡ fresh_pages images
  pub moment : pages_moment d ≡ 0

pub record IsNewLog (d : MemLog) (records : List Record) : Type 0 where
  pub log : log_of d ≡ fresh_log (spelled records)
  pub moment : log_moment d ≡ 0

-- the log once these bytes were appended to it, and it was forced
pub record IsForcedSince (old new : MemLog) (bytes : List ℕ) : Type 0 where
  pub run : Vec ℕ Global
  pub items : run.items ≡ bytes
  pub first : new.start.value.items ≡ old.start.value.items
  pub calls : new.calls.items ≡ Append run ∷ Force ∷ []
  pub failures : new.failures ≡ old.failures

-- the pages once this image was written
pub record IsWrittenSince (old new : MemPages) (page : ℕ) (image : List ℕ) : Type 0 where
  pub kept : Box (List ℕ) Global
  pub value : kept.value ≡ image
  pub first : new.first.items ≡ old.first.items
  pub calls : new.calls.items ≡ old.calls.items ++ Write page kept ∷ []
  pub failures : new.failures ≡ old.failures

-- an open store over them: each page stands in a frame, and the directory page and the cell page were changed since they were read
abbrev pub over : State → MemPages → MemLog → OpenStore MemPages MemLog
over s pages log = record {
  state = s;
  pages = pages;
  log = log;
  changed = false ∷ true ∷ true ∷ [];
  frames = in_order 0 (true ∷ false ∷ false ∷ []);
  apart = None;
  replacing = false;
}
