-- What every level keeps to, whatever its number.
use Rattle.std.specs.Prelude.{◌≡◌, ◌≢◌, ◌<◌, ◌≤◌, ℕ, Bool, true, false, List, [], Option, None, Some, Err, length}
use Rattle.rq_model.specs.declared.record.Record.{Record}
use Rattle.rq_model.specs.declared.refusal.Refusal.{Refusal}
use Rattle.rq_model.specs.declared.refusal.Refusal.TheVariants as why
use Rattle.rq_model.specs.declared.record.Deed.{Deed}
use Rattle.rq_model.specs.Deeds.{deed_by, spelled_deed}
use Rattle.rq_model.specs.Vocabulary.{is_some}
use Rattle.rq_page.specs.Sizes.{Sizes, IsCellAddress, place_of}
use Rattle.rq_views.specs.Chain.{View}
use Rattle.rq_views.specs.Items.{layout_of}
use Rattle.rq_views.specs.Log.{Slots}
use Rattle.rq_views.specs.Plans.{deed_sender}
use Rattle.rq_level.specs.LevelState.{LevelState, flag_at}
use Rattle.rq_level.specs.Ops.{Job}
use Rattle.rq_level.specs.Given.{given_at}
use Rattle.rq_level.specs.Gists.{gist_of}
use Rattle.rq_level.specs.Asked.{IsGathered, job_back, reply_back, TellsDeedOf, AreNoted, AreOver, AreBackOver, AreWritten, AsksForNone, Knows, AreAsGiven, StandsYet, AreOverSlots, Chooses, ChoosesBack, MayChoose, AreOfSlots, AreBackOfSlots}
use Rattle.rq_level.specs.OwnState.{OwnStateIsAnew}
use Rattle.rq_level.specs.TakenBack.{AreOverHeld, LeavesOthers, ShowsOf, newest_first}
use Rattle.rq_level.specs.Meaning.{Meaning, OfPlans, OfBacks, AreOf, Redo, AppliesOnce, level_count, meaning_of}
use Rattle.rq_level.specs.declared.slots.Given.{Given}
use Rattle.rq_level.specs.declared.writes.Replies.TheVariants as replies

abbrev pub IsNotGiven : List Given → Option ℕ → Type 0
IsNotGiven given None = Unit {0}
IsNotGiven given (Some a) = given_at a given ≡ None

-- why an operation may have no plan
abbrev pub MayHaveNoPlan : Refusal → Type 0
MayHaveNoPlan why.NoMemory = Unit {0}
MayHaveNoPlan why.Latched = Unit {0}
MayHaveNoPlan (why.Damaged d) = Unit {0}
MayHaveNoPlan _ = ⊥

-- the sizes and the flags at this place are as they were
abbrev pub IsUntouchedAt : ℕ → LevelState → LevelState → Type 0
IsUntouchedAt i now k = (now.sizes ≡ k.sizes) × (flag_at now.free i ≡ flag_at k.free i)
    × (flag_at now.reserved i ≡ flag_at k.reserved i)

-- these bytes are the spelling of a deed, which the level reads
pub record TellsDeed (n : ℕ) (bytes : List ℕ) : Type 0 where
  pub deed : Deed
  pub spelled : bytes ≡ spelled_deed deed
  pub reads : deed_by n bytes ≡ Some deed

-- of the level of this number
pub record IsLawful (n : ℕ) (m : Meaning) : Type 0 where
  -- what is not planned leaves what the level keeps, and is refused for memory, a latch or damage alone
  pub refuses : (k : LevelState) (job : Job) (given : List Given) (latched : List ℕ) (r : Refusal) (after : LevelState)
      → m.plans k job given latched (Err r) after → MayHaveNoPlan r × (after ≡ k)
  pub refuses_undo : (k : LevelState) (told : Record) (given : List Given) (latched : List ℕ) (r : Refusal) (after : LevelState)
      → m.undoes k told given latched (Err r) after → MayHaveNoPlan r × (after ≡ k)
  -- a plan has at most three writes
  pub count : OfPlans m (λ k job given latched p after. length p.writes.items ≤ 3)
  pub count_undo : OfBacks m (λ k told given latched p after. length p.writes.items ≤ 3)
  -- each is over what was given of its slot; where nothing was, it is of the lowest cell that may be taken
  pub before : OfPlans m (λ k job given latched p after. AreOf k.sizes given → AreNoted m k given
      → AreOver k given latched p.writes.items)
  pub before_undo : OfBacks m (λ k told given latched p after. AreOf k.sizes given → AreNoted m k given
      → AreBackOver told k given latched p.writes.items)
  -- a plan by a level that knows the slots writes over what they hold
  pub holds : (q : ℕ → List ℕ) → OfPlans m (λ k job given latched p after. Knows m k q → AreOf k.sizes given
      → AreAsGiven q given → AreOverSlots q p.writes.items)
  pub holds_undo : (q : ℕ → List ℕ) → OfBacks m (λ k told given latched p after. Knows m k q → AreOf k.sizes given
      → AreAsGiven q given → StandsYet q told → AreOverSlots q p.writes.items)
  -- each slot that it asked for is written
  pub asked_is_written : OfPlans m (λ k job given latched p after. IsGathered m k.sizes job given → AreWritten given p)
  pub asked_is_written_undo : OfBacks m (λ k told given latched p after. IsGathered m k.sizes (job_back told) given → AreWritten given p)
  -- where it takes a cell, it did not ask for it
  pub spares : OfPlans m (λ k job given latched p after. IsGathered m k.sizes job given → AreNoted m k given → after ≢ k
      → AsksForNone k latched given)
  pub spares_undo : OfBacks m (λ k told given latched p after. IsGathered m k.sizes (job_back told) given → AreNoted m k given
      → after ≢ k → AsksForNone k latched given)
  -- a slot that it writes and did not ask for is the cell that it chooses
  pub takes : OfPlans m (λ k job given latched p after. Chooses k given after p)
  pub takes_undo : OfBacks m (λ k told given latched p after. ChoosesBack told k given after p)
  -- the writes of a plan are of slots of the store that the level was told, and so are those of what takes it back
  pub slots : OfPlans m (λ k job given latched p after. AreOfSlots k p)
  pub slots_undo : OfBacks m (λ k told given latched p after. AreBackOfSlots told k p)
  -- it asks for no slot twice, and for three at most
  pub asks : (z : Option Sizes) (job : Job) (given : List Given) → IsNotGiven given (m.want z job given)
  pub few : (z : Option Sizes) (job : Job) (given : List Given) → IsGathered m z job given → length given ≤ 3
  -- a plan tells a deed of the level, by its spelling; what takes something back tells none
  pub told : OfPlans m (λ k job given latched p after. TellsDeed n p.deed)
  pub silent : OfBacks m (λ k told given latched p after. p.deed ≡ [])
  -- a plan replies what its deed tells, with what is counted of that; what takes an operation back, that it is undone
  pub replies : OfPlans m (λ k job given latched p after. (d : Deed) → deed_by n p.deed ≡ Some d
      → p.reply ≡ replies.Deed (gist_of d))
  pub replies_undo : OfBacks m (λ k told given latched p after. p.reply ≡ reply_back told)
  -- a plan does to its group what its deed tells. What takes that back leaves what was done meanwhile on the other end.
  -- Neither changes another group
  pub inverse : (z : Sizes) (d : Deed) (v : View) (q : Slots) → OfPlans m (λ k job given latched p after. k.sizes ≡ Some z
      → deed_by n p.deed ≡ Some d → AreOverHeld q (newest_first z p) → ShowsOf (layout_of z) q (deed_sender d) v
      → LeavesOthers n m z d v q p)
  -- a plan leaves what the level keeps, or chooses the cell that it writes first
  pub chooses : OfPlans m (λ k job given latched p after. MayChoose m k p.writes.items after)
  pub chooses_undo : OfBacks m (λ k told given latched p after. MayChoose m k p.writes.items after)
  -- a slot that is noted again counts as it was noted last
  pub last : (k : LevelState) (a : ℕ) (x y : List ℕ) → m.note (m.note k a x) a y ≡ m.note k a y
  -- slots are noted in any order, but for the one that tells the sizes
  pub commutes : (k : LevelState) (a b : ℕ) (x y : List ℕ) → a ≢ 1 → b ≢ 1 → a ≢ b
      → m.note (m.note k a x) b y ≡ m.note (m.note k b y) a x
  -- but for that one, to note a slot changes the flags of its own cell alone
  pub alone : (k : LevelState) (z : Sizes) (a i : ℕ) (x : List ℕ) → k.sizes ≡ Some z → a ≢ 1
      → (IsCellAddress z a → i ≢ place_of z a) → IsUntouchedAt i (m.note k a x) k
  -- noting keeps how many flags there are
  pub room : (k : LevelState) (a : ℕ) (x : List ℕ)
      → (length (m.note k a x).free ≡ length k.free) × (length (m.note k a x).reserved ≡ length k.reserved)
  -- one that is ready for a store was told no other sizes, and stays ready when a slot is noted
  pub no_others : (k : LevelState) (z y : Sizes) → m.ready z k → k.sizes ≡ Some y → y ≡ z
  pub stays : (k : LevelState) (z : Sizes) (a : ℕ) (x : List ℕ) → a ≢ 1 → m.ready z k → m.ready z (m.note k a x)
  -- bytes that are a deed are of a level that there is
  pub reads : (bytes : List ℕ) → is_some (deed_by n bytes) ≡ true → n < level_count
  -- what it plans is a job of its number that is to be done, and there is such a level
  pub own : OfPlans m (λ k job given latched p after. (job.level ≡ n) × (job.undo ≡ false) × (n < level_count))
  -- what it takes back tells one of its deeds, or is a slot write of level 0
  pub own_back : OfBacks m (λ k told given latched p after. TellsDeedOf n told)

-- a record that is applied again to its page changes nothing
abbrev pub AppliedTwiceIsOnce : Type 0
AppliedTwiceIsOnce = (w : Option Redo) (old once twice : List ℕ) (lsn : ℕ) (first second : Bool)
    → AppliesOnce w old lsn first once → AppliesOnce w once lsn second twice → (second ≡ false) × (twice ≡ once)

-- each level keeps its laws
abbrev pub AllLawful : Type 0
AllLawful = (n : ℕ) → IsLawful n (meaning_of n)

-- and keeps of a store what its slots, read anew, would give
abbrev pub AllKeepAnew : Type 0
AllKeepAnew = (n : ℕ) → OwnStateIsAnew (meaning_of n)
