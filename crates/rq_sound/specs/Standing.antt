-- What is so of each transaction that has not ended, and of its operation under way, beside those of others.
use Rattle.std.specs.Prelude.{◌≡◌, ◌≢◌, ℕ, ◌+◌, ◌<◌, ◌≤◌, true, false, List, [], ◌∷◌, ◌++◌, length, take, drop, reverse, Option, Some, None}
use Rattle.rq_model.specs.declared.txn.Txn.{Txn}
use Rattle.rq_model.specs.declared.record.Record.{Record}
use Rattle.rq_model.specs.Bases.{earlier}
use Rattle.rq_model.specs.Vocabulary.{In, same_txn}
use Rattle.rq_model.specs.Deeds.{TellsItself}
use Rattle.rq_model.specs.Content.{has_end, deeds}
use Rattle.rq_model.specs.Rules.{any_use, uses_send, uses_receive}
use Rattle.rq_page.specs.Sizes.{Sizes}
use Rattle.rq_views.specs.Items.{items, layout_of, operation, has_undone}
use Rattle.rq_views.specs.Legal.{open_deeds, over, under_way, turned_back, crossed, view}
use Rattle.rq_views.specs.Numbers.{greatest}
use Rattle.rq_views.specs.Groups.{TellsView}
use Rattle.rq_views.specs.Chain.{View}
use Rattle.rq_views.specs.Plans.{IsPlan, deed_sender}
use Rattle.rq_views.specs.InStore.{IsDeedOf, IsStranger}
use Rattle.rq_views.specs.Owed.{Owes}
use Rattle.rq_level.specs.Writes.{writes_of}
use Rattle.rq_txn.specs.declared.Finished.{Finished}
use Rattle.rq_groups.specs.Ends.{HeldEnds, has_held}
use Rattle.rq_store.specs.Fitting.{left_by}
use Rattle.rq_store.specs.Rows.{placed, HoldsFor, is_under, unmade}
use Rattle.rq_store.specs.Settled.{AreEnds, IsSettled}
use Rattle.rq_txn.specs.declared.Aim.{Aim}
use Rattle.rq_txn.specs.Rows.{Under, Row, deed_of, found_row, AreDistinct, latched_by}
use Rattle.rq_txn.specs.declared.Aim.TheVariants as aims
use Rattle.rq_sound.specs.Rows.{turn_of}

-- a deed is done over the view that it tells
abbrev pub TellsFor : Aim → View → Type 0
TellsFor (aims.Doing d) v = TellsView d v
TellsFor (aims.Undoing lsn d) v = Unit {0}

-- and what its OpEnd spells can be read
abbrev pub ReadsFor : Aim → Type 0
ReadsFor (aims.Doing d) = TellsItself d
ReadsFor (aims.Undoing lsn d) = Unit {0}

-- What is so of an operation under way, whatever else is: its plan fits the slots of its pages as they were at its
-- start, what is made of it is a beginning of the plan, and nobody else writes its pages.
pub record FollowsPlan (z : Sizes) (log : List Record) (ends : HeldEnds) (t : Txn) (u : Under) : Type 0 where
  pub made : u.made ≤ length u.writes
  pub going : over (operation t u.number) (items z log) ≡ false
  pub forward : turned_back (operation t u.number) (items z log) ≡ false
  pub uncrossed : (p : ℕ) → latched_by u p ≡ true
      → crossed (layout_of z).page (operation t u.number) p (items z log) ≡ false
  pub stands : (p : ℕ) → latched_by u p ≡ false → (left_by z log).stands (operation t u.number) p ≡ false
  pub written : (left_by z log).writes (operation t u.number) ≡ reverse (take u.made (writes_of z u.writes))
  pub owes : Owes (layout_of z).page (left_by z log) (operation t u.number) (latched_by u)
      (drop u.made (writes_of z u.writes))
  pub plan : IsPlan (layout_of z) (turn_of u.aim) (reverse (writes_of z u.writes))
  pub told : TellsFor u.aim (view (items z log) (deed_sender (deed_of u.aim)))
  pub held : HoldsFor ends t (deed_of u.aim)
  pub of_store : IsDeedOf z (deed_of u.aim)
  pub reads : ReadsFor u.aim

-- who does a deed is not aborting; who is aborting undoes what it finished last
abbrev pub IsAimOf : Row → Aim → Type 0
IsAimOf r (aims.Doing d) = r.aborting ≡ false
IsAimOf r (aims.Undoing lsn d) = (r.aborting ≡ true)
    × ((fs : List Finished) × (n : ℕ) × (r.finished ≡ fs ++ record { lsn = lsn; number = n; deed = d } ∷ []))

abbrev pub IsAsPlanned : Sizes → List Record → HeldEnds → Row → Option Under → Type 0
IsAsPlanned z log ends r None = Unit {0}
IsAsPlanned z log ends r (Some u) = FollowsPlan z log ends r.txn u × (r.number ≡ u.number) × IsAimOf r u.aim

-- t holds the ends of all that it ever did, undone or not
pub record HoldsAll (ends : HeldEnds) (t : Txn) (log : List Record) : Type 0 where
  pub sends : (s : ℕ) → any_use (uses_send s) (deeds (λ u. same_txn u t) log) ≡ true → has_held t s ends.sending ≡ true
  pub takes : (s : ℕ) → any_use (uses_receive s) (deeds (λ u. same_txn u t) log) ≡ true
      → has_held t s ends.receiving ≡ true

-- what is so of a transaction that has not ended
pub record IsRow (z : Sizes) (log : List Record) (ends : HeldEnds) (incarnation begins : ℕ) (r : Row) : Type 0 where
  pub of_incarnation : r.txn.incarnation ≡ incarnation
  pub counted : r.txn.count ≤ begins
  pub running : has_end log r.txn ≡ false
  pub behind : IsStranger r.txn (earlier log)
  pub forward : r.aborting ≡ false → has_undone log r.txn ≡ false
  pub done : open_deeds r.txn (items z log) ≡ placed r.finished
  pub held : HoldsAll ends r.txn log
  pub numbered : greatest r.txn (items z log) + unmade r.under ≡ r.number
  pub idle : (n : ℕ) → is_under n r.under ≡ false → under_way (operation r.txn n) (items z log) ≡ false
  pub going : IsAsPlanned z log ends r r.under

-- no two operations under way have latched the same page
abbrev pub AreApart : List Row → Type 0
AreApart rows = (r q : Row) (u v : Under) (p : ℕ) → In r rows → In q rows → r.txn ≢ q.txn
    → r.under ≡ Some u → q.under ≡ Some v → latched_by u p ≡ true → latched_by v p ≡ false

-- the transactions that have not ended, and the ends that they hold
pub record AreStanding (z : Sizes) (log : List Record) (ends : HeldEnds) (rows : List Row) (incarnation begins : ℕ)
    : Type 0 where
  pub each : (r : Row) → In r rows → IsRow z log ends incarnation begins r
  pub distinct : AreDistinct rows
  pub others : (t : Txn) → found_row t rows ≡ None → IsSettled z log t
  pub apart : AreApart rows
  pub sending : AreEnds rows ends.sending
  pub receiving : AreEnds rows ends.receiving
  pub strangers : (t : Txn) → t.incarnation ≡ incarnation → begins < t.count → IsStranger t log
