-- A log as a restart leaves it on its way, and at its end: operations without an end are undone by pages, and then lost
-- transactions by their inverses, one after the other, each in its turn.
use Rattle.std.specs.Prelude.{◌≡◌, ℕ, ◌+◌, ◌≤◌, List, [], ◌∷◌, length, drop}
use Rattle.rq_model.specs.declared.record.Record.{Record}
use Rattle.rq_model.specs.Commits.{committed_of}
use Rattle.rq_model.specs.Content.{content}
use Rattle.rq_model.specs.Incarnations.{Extends}
use Rattle.rq_model.specs.Unended.{lost, unfinished}
use Rattle.rq_page.specs.Sizes.{Sizes}
use Rattle.rq_store.specs.Opening.{next_restart}
use Rattle.rq_store.specs.State.{State}
use Rattle.rq_store.specs.Whole.{IsWhole}
use Rattle.rq_analysis.specs.Pages.{IsUndoing, IsUndone}
use Rattle.rq_analysis.specs.Lost.{IsRepeated, lost_store}
use Rattle.rq_analysis.specs.Moves.{newest_store}
use Rattle.rq_analysis.specs.Turns.{MovesInTurn}
use Rattle.rq_analysis.specs.AbortTheorems.{IsStopped}

-- on the way
pub data IsRecovering (z : Sizes) (log now : List Record) : Type 0 where
  Undoing : IsUndoing log now → IsRecovering z log now
  Aborting : (undone : List Record) (images : List (List ℕ)) (forced : ℕ) (stores : List State) → IsUndone log undone
      → IsRepeated z images undone forced → MovesInTurn (lost_store z images undone forced) stores
      → (newest_store (lost_store z images undone forced) stores).records ≡ now → IsRecovering z log now

-- at the end: nobody was lost, or all are aborted
pub data IsRecovered (z : Sizes) (log now : List Record) : Type 0 where
  NoneLost : IsUndone log now → lost now ≡ [] → IsRecovered z log now
  AllAborted : (undone : List Record) (images : List (List ℕ)) (forced : ℕ) (stores : List State) → IsUndone log undone
      → IsRepeated z images undone forced → MovesInTurn (lost_store z images undone forced) stores
      → (newest_store (lost_store z images undone forced) stores).rows ≡ []
      → (newest_store (lost_store z images undone forced) stores).records ≡ now → IsRecovered z log now

-- What a log is once it is recovered: whole, as it was; with the content and the commits that it had; with nothing
-- unfinished and nobody lost; so that the record that begins the next incarnation may stand behind it.
pub record IsRecoveredFrom (z : Sizes) (log now : List Record) : Type 0 where
  pub whole : IsWhole z now
  pub extends : Extends log now
  pub content : (g : ℕ) → content now g ≡ content log g
  pub committed : committed_of now ≡ committed_of log
  pub none_unfinished : unfinished now ≡ []
  pub none_lost : lost now ≡ []
  pub restarts : IsWhole z (next_restart now ∷ now)

-- and what a crash leaves on the way is a log from which a restart goes on
pub record RecoveredLogsAreWhole : Type 0 where
  pub recovered : (z : Sizes) (log now : List Record) → IsWhole z log → IsRecovered z log now → IsRecoveredFrom z log now
  pub stopped : (z : Sizes) (log now : List Record) (n : ℕ) → IsWhole z log → IsRecovering z log now
      → n + length log ≤ length now → IsStopped z log (drop n now)
