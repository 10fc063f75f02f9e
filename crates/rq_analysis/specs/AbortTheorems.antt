-- What holds of undoing lost transactions by their inverses.
use Rattle.std.specs.Prelude.{◌≡◌, ◌≢◌, ℕ, reverse, ◌+◌, ◌<◌, ◌≤◌, false, List, [], ◌∷◌, ◌++◌, length, drop}
use Rattle.rq_model.specs.declared.record.Deed.{Deed}
use Rattle.rq_model.specs.declared.record.Record.{Record}
use Rattle.rq_model.specs.declared.txn.Txn.{Txn}
use Rattle.rq_model.specs.Vocabulary.{In}
use Rattle.rq_model.specs.Commits.{committed_of}
use Rattle.rq_model.specs.Content.{content}
use Rattle.rq_model.specs.Incarnations.{Extends, incarnation_of}
use Rattle.rq_model.specs.Unended.{unfinished, lost}
use Rattle.rq_page.specs.Sizes.{Sizes, IsInRange}
use Rattle.rq_views.specs.Stored.{slots_in}
use Rattle.rq_txn.specs.declared.Finished.{Finished}
use Rattle.rq_txn.specs.declared.Aim.TheVariants as aims
use Rattle.rq_txn.specs.Rows.{Row, Under, any_under}
use Rattle.rq_level.specs.Writes.{writes_of}
use Rattle.rq_views.specs.Items.{layout_of}
use Rattle.rq_views.specs.Log.{HasBefores, Write}
use Rattle.rq_views.specs.Plans.{IsPlan}
use Rattle.rq_views.specs.Plans.Turn.{Undid}
use Rattle.rq_store.specs.Fitting.{AllHoldBase, FitsLog, image_in, left_by, oldest}
use Rattle.rq_store.specs.Opening.{opened}
use Rattle.rq_store.specs.State.{State, ledger_of}
use Rattle.rq_store.specs.Whole.{IsWhole}
use Rattle.rq_sound.specs.Calls.{IsIdle, aborted, started}
use Rattle.rq_sound.specs.Groups.{slots_now}
use Rattle.rq_sound.specs.Sound.{IsSound}
use Rattle.rq_analysis.specs.Pages.{IsUndone}
use Rattle.rq_analysis.specs.PageUndoTheorems.{IsUndoneFrom}
use Rattle.rq_sound.specs.Inverses.{InverseIsLatched, MayBeUndone, InverseTakesLowest}
use Rattle.rq_analysis.specs.Lost.{IsRepeated, lost_store}
use Rattle.rq_analysis.specs.Turns.{AreAborting, EndsNext, NextTurn, TakesBackNext}
use Rattle.rq_analysis.specs.Work.{abort_work}
use Rattle.rq_analysis.specs.Moves.{AreAborted, IsAbortMove, MovesBehind, newest_store}

-- Each move of an abort leaves a sound store over a whole log. What it adds to the log is no Commit and no OpEnd.
pub record AbortsKeepLogsWhole : Type 0 where
  pub sound : (s now : State) → IsSound s → IsAbortMove s now → IsSound now
  pub whole : (s now : State) → IsSound s → IsAbortMove s now → IsWhole now.sizes now.records
  pub extends : (s now : State) → IsAbortMove s now → Extends s.records now.records
  pub committed : (s now : State) → IsAbortMove s now → committed_of now.records ≡ committed_of s.records

-- where every transaction of a sound store has ended, so has everything in its log
pub record SettledStoresHaveEnded : Type 0 where
  pub unfinished : (s : State) → IsSound s → s.rows ≡ [] → unfinished s.records ≡ []
  pub lost : (s : State) → IsSound s → s.rows ≡ [] → lost s.records ≡ []

-- The newest deed of a transaction with nothing under way can be undone; where nothing at all is, its inverse meets no
-- latch.
pub record InversesAreFound : Type 0 where
  pub found : (s : State) (r : Row) (rest : List Finished) (f : Finished) → IsSound s → IsIdle s r
      → r.finished ≡ rest ++ f ∷ [] → MayBeUndone s f.deed
  pub unlatched : (s : State) (d : Deed) → IsSound s → MayBeUndone s d → any_under s.rows ≡ false
      → InverseIsLatched s.sizes (slots_now s) s.rows d → ⊥

-- Once every transaction is aborted the store is sound; its log is whole, has nothing unfinished and nobody lost, and
-- the commits that it had.
pub record AbortedLogsAreSettled : Type 0 where
  pub sound : (s now : State) → IsSound s → AreAborted s now → IsSound now
  pub committed : (s now : State) → AreAborted s now → committed_of now.records ≡ committed_of s.records
  pub unfinished : (s now : State) → IsSound s → AreAborted s now → unfinished now.records ≡ []
  pub lost : (s now : State) → IsSound s → AreAborted s now → lost now.records ≡ []

-- The store that a crash leaves, with the transactions that it stopped as rows to be undone, is sound: what undoes them
-- are the moves that a running store makes. A log with a lost transaction is of some incarnation.
pub record LostStoresAreSound : Type 0 where
  pub sound : (z : Sizes) (images : List (List ℕ)) (log : List Record) (forced : ℕ) → IsRepeated z images log forced
      → IsSound (lost_store z images log forced)
  pub some : (z : Sizes) (log : List Record) → IsWhole z log → lost log ≢ [] → 1 ≤ incarnation_of log

-- Each move of an abort of a sound store leaves less to do, so that they come to an end.
abbrev pub AbortsEnd : Type 0
AbortsEnd = (s now : State) → IsSound s → IsAbortMove s now → abort_work now < abort_work s

-- What a store is once all of its lost transactions are aborted: its log is that with plain records behind, which is
-- whole, with the content and the commits that it had, nothing unfinished and nobody lost; and the store that opens over
-- it is sound, and shows these commits.
pub record IsRestored (z : Sizes) (log : List Record) (now : State) : Type 0 where
  pub sizes : now.sizes ≡ z
  pub whole : IsWhole z now.records
  pub extends : Extends log now.records
  pub committed : committed_of now.records ≡ committed_of log
  pub content : (g : ℕ) → content now.records g ≡ content log g
  pub unfinished : unfinished now.records ≡ []
  pub lost : lost now.records ≡ []
  pub opens : IsSound (opened now.sizes now.images now.records)
  pub shows : (ledger_of (opened now.sizes now.images now.records)).committed ≡ committed_of log

abbrev pub LostStoresOpen : Type 0
LostStoresOpen = (z : Sizes) (images : List (List ℕ)) (log : List Record) (forced : ℕ) (now : State)
    → IsRepeated z images log forced → AreAborted (lost_store z images log forced) now → IsRestored z log now

-- What a crash leaves of the moves of aborts: a whole log with the content and the commits that it had, in which nobody
-- is lost who was not. Once the inverse that was cut off is undone by pages, that is so still, and restart goes on.
pub record IsStopped (z : Sizes) (log cut : List Record) : Type 0 where
  pub whole : IsWhole z cut
  pub extends : Extends log cut
  pub committed : committed_of cut ≡ committed_of log
  pub content : (g : ℕ) → content cut g ≡ content log g
  pub none_new : (t : Txn) → In t (lost cut) → In t (lost log)
  pub again : (last : List Record) → IsUndone cut last → IsUndoneFrom z cut last

-- wherever the crash cuts the records that the moves added
abbrev pub AbortsMayStop : Type 0
AbortsMayStop = (s : State) (stores : List State) (n : ℕ) → IsSound s → MovesBehind s stores
    → n + length s.records ≤ length (newest_store s stores).records
    → IsStopped s.sizes s.records (drop n (newest_store s stores).records)

-- Where transactions are left to be undone and nothing is under way, one is next: of those with nothing left to undo the
-- one of the least number, which may end; else the one with the newest deed of all, whose inverse can be planned and may
-- start. No more than one is next, and whoever is to be undone stays so.
pub record AbortsHaveTurns : Type 0 where
  pub next : (s : State) → IsSound s → s.rows ≢ [] → NextTurn s.rows
  pub one_ends : (s : State) (r q : Row) → IsSound s → EndsNext s.rows r → EndsNext s.rows q → r ≡ q
  pub one_back : (s : State) (r q : Row) (rest others : List Finished) (f g : Finished) → IsSound s
      → TakesBackNext s.rows r rest f → TakesBackNext s.rows q others g → r ≡ q
  pub not_both : (s : State) (r q : Row) (rest : List Finished) (f : Finished) → EndsNext s.rows r
      → TakesBackNext s.rows q rest f → ⊥
  pub ends : (s : State) (r : Row) → IsSound s → any_under s.rows ≡ false → AreAborting s.rows → EndsNext s.rows r
      → IsAbortMove s (aborted s r)
  pub plans : (s : State) (r : Row) (rest : List Finished) (f : Finished) → IsSound s → any_under s.rows ≡ false
      → TakesBackNext s.rows r rest f
      → (ws : List Write) × IsPlan (layout_of s.sizes) (Undid f.deed) ws
      × HasBefores ws (left_by s.sizes s.records).slots
  pub starts : (s : State) (r : Row) (rest : List Finished) (f : Finished) (u : Under) → IsSound s
      → any_under s.rows ≡ false → AreAborting s.rows → TakesBackNext s.rows r rest f → u.number ≡ r.number + 1
      → u.made ≡ 0 → u.aim ≡ aims.Undoing f.lsn f.deed
      → IsPlan (layout_of s.sizes) (Undid f.deed) (reverse (writes_of s.sizes u.writes))
      → HasBefores (reverse (writes_of s.sizes u.writes)) (left_by s.sizes s.records).slots
      → InverseTakesLowest s.sizes (slots_now s) s.rows f.deed u.writes → IsAbortMove s (started s r u s.ends)
  pub stay : (s now : State) → IsAbortMove s now → AreAborting s.rows → AreAborting now.rows
  pub lost : (z : Sizes) (images : List (List ℕ)) (log : List Record) (forced : ℕ)
      → AreAborting (lost_store z images log forced).rows
  pub idle : (z : Sizes) (images : List (List ℕ)) (log : List Record) (forced : ℕ)
      → any_under (lost_store z images log forced).rows ≡ false

-- A restart over what a crash left of them goes on: once the inverse that was cut off is undone by pages, and the pages
-- hold what that log leaves, the store with lost transactions is there again, of whom each was lost before. The content
-- and the commits are what they were.
pub record StopsAreRepeated : Type 0 where
  pub repeated : (z : Sizes) (images : List (List ℕ)) (log cut last : List Record) (forced : ℕ) → IsInRange z
      → 1 ≤ incarnation_of log → IsStopped z log cut → IsUndone cut last
      → incarnation_of (oldest forced last) ≡ incarnation_of last → forced ≤ length last
      → ((a : ℕ) → slots_in z images a ≡ (left_by z last).slots a) → FitsLog z (image_in images) last
      → AllHoldBase z (image_in images) last → IsRepeated z images last forced
  pub none_new : (z : Sizes) (log cut last : List Record) (t : Txn) → IsStopped z log cut → IsUndone cut last
      → In t (lost last) → In t (lost log)
  pub content : (z : Sizes) (log cut last : List Record) (g : ℕ) → IsStopped z log cut → IsUndone cut last
      → content last g ≡ content log g
  pub committed : (z : Sizes) (log cut last : List Record) → IsStopped z log cut → IsUndone cut last
      → committed_of last ≡ committed_of log
