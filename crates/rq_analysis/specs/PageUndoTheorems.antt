-- What holds of the records by which a restart undoes operations that have no end.
use Rattle.std.specs.Prelude.{◌≡◌, ℕ, ◌<◌, List, [], ◌∷◌, length, true}
use Rattle.rq_model.specs.declared.record.Record.{Record}
use Rattle.rq_model.specs.Bases.{marked}
use Rattle.rq_model.specs.Commits.{committed_of}
use Rattle.rq_model.specs.Content.{content}
use Rattle.rq_model.specs.Incarnations.{Extends, is_plain}
use Rattle.rq_model.specs.Unended.{unfinished, lost}
use Rattle.rq_page.specs.Sizes.{Sizes}
use Rattle.rq_store.specs.Whole.{IsWhole}
use Rattle.rq_store.specs.Fitting.{left_by}
use Rattle.rq_analysis.specs.OpenWorkView.{open_work_of}
use Rattle.rq_analysis.specs.Pages.{IsNextUndo, IsUndone, work}

-- Behind a whole log the next such record leaves a whole log, with less to do. It is no Commit and no OpEnd.
pub record UndosKeepLogsWhole : Type 0 where
  pub whole : (z : Sizes) (log : List Record) (r : Record) → IsWhole z log → IsNextUndo (open_work_of log) r
      → IsWhole z (r ∷ log)
  pub less : (log : List Record) (r : Record) → IsNextUndo (open_work_of log) r
      → work (open_work_of (r ∷ log)) < work (open_work_of log)
  pub plain : (log : List Record) (r : Record) → IsNextUndo (open_work_of log) r → is_plain r ≡ true

-- What a log is once all of them are undone: whole, where it was; with the content that it had; with no operation
-- unfinished, the transactions lost that were, and the slots that whole operations had written.
pub record IsUndoneFrom (z : Sizes) (log now : List Record) : Type 0 where
  pub whole : IsWhole z now
  pub extends : Extends log now
  pub content : (s : ℕ) → content now s ≡ content log s
  pub committed : committed_of now ≡ committed_of log
  pub none_unfinished : unfinished now ≡ []
  pub lost : lost now ≡ lost log
  pub slots : (a : ℕ) → (left_by z now).slots a ≡ (left_by z log).quiet a

abbrev pub UndoneLogsAreWhole : Type 0
UndoneLogsAreWhole = (z : Sizes) (log now : List Record) → IsWhole z log → IsUndone log now → IsUndoneFrom z log now

-- what is counted is what has no end, also where the log is read
pub record UnendedAreCounted : Type 0 where
  pub unfinished : (z : Sizes) (log : List Record) → IsWhole z log
      → length (open_work_of log).unfinished ≡ length (unfinished log)
  pub lost : (z : Sizes) (log : List Record) → IsWhole z log → (open_work_of log).active ≡ lost log
  pub read : (z : Sizes) (log : List Record) → IsWhole z log → open_work_of (marked log) ≡ open_work_of log
