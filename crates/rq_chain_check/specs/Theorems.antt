-- Where chains are whole.
use Rattle.std.specs.Prelude.{◌≡◌, ℕ, false, List, []}
use Rattle.rq_model.specs.declared.record.Record.{Record}
use Rattle.rq_model.specs.Unended.{unfinished}
use Rattle.rq_page.specs.Sizes.{Sizes}
use Rattle.rq_views.specs.Log.{Slots}
use Rattle.rq_views.specs.Stored.{slots_in}
use Rattle.rq_store.specs.Fitting.{left_by}
use Rattle.rq_store.specs.Opening.{opened}
use Rattle.rq_store.specs.State.{State}
use Rattle.rq_store.specs.Whole.{IsWhole}
use Rattle.rq_txn.specs.Rows.{any_under}
use Rattle.rq_sound.specs.Sound.{IsSound}
use Rattle.rq_chain_check.specs.Links.{AreLinked, IsFault}

-- The chains are whole in the slots that a whole log with nothing unfinished leaves. So they are in a sound store that is
-- opened over any log. So they are in each sound store that has no operation under way.
pub record SoundStoresAreLinked : Type 0 where
  pub left : (z : Sizes) (q : Slots) (log : List Record) → IsWhole z log → unfinished log ≡ []
      → ((a : ℕ) → q a ≡ (left_by z log).slots a) → AreLinked z q
  pub open_store : (z : Sizes) (images : List (List ℕ)) (log : List Record) → IsSound (opened z images log)
      → AreLinked z (slots_in z images)
  pub idle : (s : State) → IsSound s → any_under s.rows ≡ false → AreLinked s.sizes (slots_in s.sizes s.images)

-- A page is named only where the chains are not whole, and then it is one page.
pub record FaultsAreExact : Type 0 where
  pub none : (z : Sizes) (q : Slots) (page : ℕ) → AreLinked z q → IsFault z q page → ⊥
  pub one : (z : Sizes) (q : Slots) (page other : ℕ) → IsFault z q page → IsFault z q other → page ≡ other
