-- Which slots a level asks for before it plans: those that its operation needs, and no others; and how they
-- are given to it, one after the other.
use Rattle.std.specs.Prelude.{◌≡◌, ℕ, ◌/◌, ◌%◌, ◌<◌, ◌++◌, false, true, List, [], ◌∷◌, Option, None, Some}
use Rattle.rq_model.specs.declared.record.Deed.{Deed}
use Rattle.rq_model.specs.Deeds.{deed_by, deed_level}
use Rattle.rq_model.specs.Vocabulary.{In}
use Rattle.rq_page.specs.Sizes.{client_count, client_slot_at, directory_at, sender_count}
use Rattle.rq_page.specs.Slots.{IsSlotOf, Slot, held_in}
use Rattle.rq_views.specs.InStore.{IsDeedOf}
use Rattle.rq_views.specs.Plans.Turn.{Undid}
use Rattle.rq_views.specs.Stored.{IsStoreSlot}
use Rattle.rq_level.specs.declared.slots.Given.{Given}
use Rattle.rq_level.specs.ChainPlans.{job_wanted}
use Rattle.rq_level.specs.Given.{AreGiven, GivenHolds, given_at}
use Rattle.rq_level.specs.TagPlans.{client_wanted}
use Rattle.rq_level.specs.Ops.{Doing, Job, doing_by}
use Rattle.rq_level.specs.Ops.Doing.{Send, Receive, Close}
use Rattle.rq_store.specs.State.{State}
use Rattle.rq_txn.specs.Rows.{latched_in}
use Rattle.rq_sound.specs.Groups.{slots_now}
use Rattle.rq_sound.specs.Latching.{any_latched, at_tail, behind_head, needed}
use Rattle.rq_sound.specs.Levels.{IsGathered}
use Rattle.rq_sound.specs.Wants.{AreGivenOf}

-- slots of the store were given, as they are
pub record AreGivenFrom (s : State) (given : List Given) : Type 0 where
  pub of_store : AreGiven s.sizes given
  pub as_is : (a : ℕ) (x : Slot) → GivenHolds s.sizes given a x → slots_now s a ≡ x

-- the job is this, to be done by the level that it names; or what takes back this deed of that level
pub record IsToDo (job : Job) (d : Doing) : Type 0 where
  pub forward : job.undo ≡ false
  pub told : doing_by job.level job.bytes ≡ Some d

pub record IsToUndo (job : Job) (d : Deed) : Type 0 where
  pub back : job.undo ≡ true
  pub told : deed_by job.level job.bytes ≡ Some d

-- Of all the slots that an operation needs this one is wanted next: it is the store's, and was not given. None is where
-- all were given.
pub record IsWantedOf (s : State) (given : List Given) (wanted : Option ℕ) (all : List ℕ) : Type 0 where
  pub one : (a : ℕ) → wanted ≡ Some a → In a all
  pub of_store : (a : ℕ) → wanted ≡ Some a → IsStoreSlot s.sizes a
  pub new : (a : ℕ) → wanted ≡ Some a → given_at a given ≡ None
  pub latched : (a : ℕ) → wanted ≡ Some a → latched_in s.rows (a / 16) ≡ true → any_latched s.rows all ≡ true
  pub none : wanted ≡ None → AreGivenOf s given all

-- What the level of chains asks for, by what it is to plan and what it was given, and that of tags, by the client; whether the
-- store is sound or not.
pub record WantsAreNeeded : Type 0 where
  pub sends : (s : State) (given : List Given) (job : Job) (g tag : ℕ) (body : List ℕ) → AreGivenFrom s given
      → IsToDo job (Send g tag body) → g < sender_count s.sizes
      → IsWantedOf s given (job_wanted job given) (at_tail (slots_now s) g)
  pub receives : (s : State) (given : List Given) (job : Job) (g : ℕ) → AreGivenFrom s given
      → IsToDo job (Receive g) → g < sender_count s.sizes
      → IsWantedOf s given (job_wanted job given) (behind_head (slots_now s) g)
  pub closes : (s : State) (given : List Given) (job : Job) (g : ℕ) → AreGivenFrom s given
      → IsToDo job (Close g) → g < sender_count s.sizes
      → IsWantedOf s given (job_wanted job given) (directory_at g ∷ [])
  pub undoes : (s : State) (given : List Given) (job : Job) (d : Deed) → AreGivenFrom s given
      → IsToUndo job d → deed_level d ≡ 1 → IsDeedOf s.sizes d
      → IsWantedOf s given (job_wanted job given) (needed s.sizes (slots_now s) (Undid d))
  pub tags : (s : State) (given : List Given) (c : ℕ) → AreGivenFrom s given → c < client_count s.sizes
      → IsWantedOf s given (client_wanted (Some s.sizes) (Some c) given) (client_slot_at s.sizes c ∷ [])

-- what was given, with this slot behind it
abbrev pub with_slot : List Given → ℕ → List ℕ → List Given
with_slot given a bytes = given ++ record { at = a; bytes = bytes } ∷ []

-- Slots are given one after the other: none at first, and then each as it is, of the store; and, where only those are
-- given that nobody has latched, what was given is gathered.
pub record SlotsAreGathered : Type 0 where
  pub none_given : (s : State) → AreGivenFrom s []
  pub one_given : (s : State) (given : List Given) (a : ℕ) (bytes : List ℕ) → AreGivenFrom s given
      → IsStoreSlot s.sizes a → IsSlotOf s.sizes (a / 16) (a % 16) bytes
      → slots_now s a ≡ held_in s.sizes (a / 16) bytes → AreGivenFrom s (with_slot given a bytes)
  pub none_gathered : (s : State) → IsGathered s []
  pub one_gathered : (s : State) (given : List Given) (a : ℕ) (bytes : List ℕ) → IsGathered s given
      → slots_now s a ≡ held_in s.sizes (a / 16) bytes → latched_in s.rows (a / 16) ≡ false
      → IsGathered s (with_slot given a bytes)
