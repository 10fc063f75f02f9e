-- What a format has written, and what bytes tell.
use Rattle.std.specs.Prelude.{◌≡◌, ◌≢◌, ℕ, ◌<◌, ◌≤◌, List, [], ◌∷◌, length}
use Rattle.rq_model.specs.declared.record.Record.{Record}
use Rattle.rq_model.specs.declared.record.Record.TheVariants.{Base}
use Rattle.rq_model.specs.Bases.{marked, standing}
use Rattle.rq_disk.specs.Device.{Images}
use Rattle.rq_disk.specs.declared.mem_pages.MemPages.{MemPages}
use Rattle.rq_log.specs.Counted.{LastLsn}
use Rattle.rq_log.specs.Spelled.{AreSpelled, EndsWith, spelled}
use Rattle.rq_page.specs.Sizes.{Sizes, page_count}
use Rattle.rq_page.specs.Formatted.{IsFormatted}
use Rattle.rq_pool.specs.Reading.{IsSuperblock}
use Rattle.rq_pool.specs.Writing.{HasRun}
use Rattle.rq_core.specs.Devices.{mem_pages}
use Rattle.rq_restart.specs.Formatting.{AreBeforeOrFormatted, IsBeforeOrFormatted, KeepsOthers}

pub record DevicesAreJudged : Type 0 where
  pub nothing_written : (z : Sizes) (d : MemPages) (images : Images) → ((q : ℕ) → mem_pages.may_be d q (images q))
      → AreBeforeOrFormatted mem_pages z d images
  pub written_past_the_last : (z : Sizes) (d : MemPages) (images : Images) (q : ℕ) → page_count z ≤ q
      → (mem_pages.may_be d q (images q) → ⊥) → AreBeforeOrFormatted mem_pages z d images → ⊥
  pub superblock_before : (z : Sizes) (d : MemPages) (images : Images) → mem_pages.may_be d 0 (images 0)
      → IsBeforeOrFormatted mem_pages z d images
  pub superblock_too_early : (z : Sizes) (d : MemPages) (images : Images) (q : ℕ) → q < page_count z
      → (mem_pages.may_be d 0 (images 0) → ⊥) → (IsFormatted z q (images q) → ⊥)
      → IsBeforeOrFormatted mem_pages z d images → ⊥
  pub others_kept : (z : Sizes) (d : MemPages) → KeepsOthers mem_pages z d d
  pub another_changed : (z : Sizes) (old new : MemPages) (q : ℕ) → page_count z ≤ q
      → mem_pages.seen new q ≢ mem_pages.seen old q
      → KeepsOthers mem_pages z old new → ⊥
  pub ran : (d : MemPages) → (mem_pages.stopped d → ⊥) → HasRun mem_pages d d
  pub ran_while_stopped : (old new : MemPages) → mem_pages.honest new → mem_pages.stopped old
      → HasRun mem_pages old new → ⊥
  -- what bytes tell
  pub no_bytes : (log : List Record) → AreSpelled log → EndsWith log [] → log ≡ []
  pub two_logs : (a b : List Record) (bytes : List ℕ) → AreSpelled a → AreSpelled b → standing a ≢ standing b
      → EndsWith a bytes → EndsWith b bytes → ⊥
  pub lsn_of_a_base : LastLsn (spelled (Base 5 1 ∷ [])) 6
  pub another_lsn : (log : List Record) (bytes : List ℕ) (n : ℕ) → AreSpelled log → n ≢ length (marked log)
      → EndsWith log bytes → LastLsn bytes n → ⊥
  pub below_a_base : (a b : List Record) → EndsWith (Base 5 1 ∷ a) (spelled (Base 5 1 ∷ b))
  pub two_sizes : (a b : Sizes) (image : List ℕ) → a ≢ b → IsSuperblock a image → IsSuperblock b image → ⊥
