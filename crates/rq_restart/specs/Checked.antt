-- What a restart checked of the pages and the log.
use Rattle.std.specs.Prelude.{◌≡◌, ℕ, List, [], length}
use Rattle.rq_disk.specs.Device.{Images}
use Rattle.rq_model.specs.declared.record.Record.{Record}
use Rattle.rq_page.specs.Sizes.{Sizes}
use Rattle.rq_analysis.specs.OpenWorkView.{open_work_of}
use Rattle.rq_restart.specs.Repeating.{Repeats, ArePagesCounted, IsFirstUncounted}

-- every transaction in the log that finished an operation has its end
abbrev pub IsEnded : List Record → Type 0
IsEnded log = (open_work_of log).active ≡ []

-- The log was gone through on the pages: each record belonged where it stood and was repeated, and no number of a page
-- is beyond the log, neither as the pages were read nor then.
pub record IsReadAndRedone (z : Sizes) (log : List Record) (first last : Images) : Type 0 where
  pub repeated : Repeats z log first last
  pub counted_read : ArePagesCounted z (length log) first
  pub counted : ArePagesCounted z (length log) last

abbrev pub WasReadAndRedone : Sizes → List Record → Images → Type 0
WasReadAndRedone z log first = (last : Images) × IsReadAndRedone z log first last

-- this page is the first with a number beyond the log as the pages were read, and history was repeated
pub record IsBeyond (z : Sizes) (log : List Record) (first : Images) (page : ℕ) : Type 0 where
  pub last : Images
  pub repeated : Repeats z log first last
  pub beyond : IsFirstUncounted z (length log) first page
