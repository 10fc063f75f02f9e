-- What a plan keeps to, and what there is none for, whatever slots its level was given.
use Rattle.std.specs.Prelude.{ℕ, ◌≡◌, ◌≤◌, ◌/◌, Bool, true, false, List, Option, Some, Result, Ok, Err, All, length}
use Rattle.rq_model.specs.declared.record.Deed.{Deed}
use Rattle.rq_model.specs.declared.record.Deed.TheVariants.{Append, UnlinkHead, Close as Close_deed, Mark}
use Rattle.rq_model.specs.declared.refusal.Damage.TheVariants as damage
use Rattle.rq_model.specs.declared.refusal.Refusal.{Refusal}
use Rattle.rq_model.specs.declared.refusal.Refusal.TheVariants as why
use Rattle.rq_model.specs.Deeds.{deed_by}
use Rattle.rq_page.specs.Sizes.{Sizes, client_slot_at, directory_at}
use Rattle.rq_views.specs.Items.{told_deed}
use Rattle.rq_level.specs.Asked.{AreNoted}
use Rattle.rq_level.specs.ChainPlans.{IsInverse}
use Rattle.rq_level.specs.declared.slots.Given.{Given}
use Rattle.rq_level.specs.declared.writes.Plan.{Plan}
use Rattle.rq_level.specs.declared.writes.Replies.TheVariants as replies
use Rattle.rq_level.specs.Gists.{gist_of}
use Rattle.rq_level.specs.LevelState.{LevelState}
use Rattle.rq_level.specs.Meaning.{Meaning}
use Rattle.rq_level.specs.Ops.{Job}
use Rattle.rq_level.specs.Ops.Doing.{Send, Receive, Close}
use Rattle.rq_level.specs.Writes.{AreSlotWrites}
use Rattle.rq_txn.specs.Rows.{Row, latched_in}
use Rattle.rq_txn.specs.Told.{IsTold}
use Rattle.rq_planner.specs.Answered.{IsDeedFor, deed_of}
use Rattle.rq_planner.specs.Asked.{Task, task_by}
use Rattle.rq_planner.specs.Asked.Task.{Chain, Tag}

-- how many slots a plan of it writes at most
abbrev pub most_writes : Task → ℕ
most_writes (Chain (Send g tag body)) = 3
most_writes (Chain (Receive g)) = 3
most_writes (Chain (Close g)) = 1
most_writes (Tag t) = 1

-- and a plan of what takes a deed back
abbrev pub most_writes_back : Deed → ℕ
most_writes_back (Append g n tag previous body) = 3
most_writes_back (UnlinkHead g n tag body) = 3
most_writes_back (Close_deed g) = 1
most_writes_back (Mark c tag previous) = 1

-- It writes slots of the store, three at most. It tells a deed of its level, with what is counted of that.
pub record IsLawfulPlan (z : Sizes) (level : ℕ) (p : Plan) : Type 0 where
  pub slots : AreSlotWrites z p.writes.items
  pub count : length p.writes.items ≤ 3
  pub told : IsTold level p.deed
  pub reply : p.reply ≡ replies.Deed (gist_of (told_deed (deed_by level p.deed)))

-- and the deed that a job asked for, with no more writes than what is asked may have
pub record IsLawfulFor (z : Sizes) (job : Job) (p : Plan) : Type 0 where
  pub lawful : IsLawfulPlan z job.level p
  pub asked : (d : Task) → task_by job.level job.bytes ≡ Some d → IsDeedFor d (deed_of d p)
  pub few : (d : Task) → task_by job.level job.bytes ≡ Some d → length p.writes.items ≤ most_writes d

-- what takes a deed back tells none, and nothing is counted of it
pub record IsLawfulInverse (z : Sizes) (p : Plan) : Type 0 where
  pub slots : AreSlotWrites z p.writes.items
  pub count : length p.writes.items ≤ 3
  pub inverse : IsInverse p

-- why there may be no plan: want of memory, latches, what the slots hold, or a page that was not read
abbrev pub MayRefuse : Refusal → Type 0
MayRefuse why.NoMemory = Unit {0}
MayRefuse why.Latched = Unit {0}
MayRefuse (why.Damaged x) = Unit {0}
MayRefuse why.DiskRead = Unit {0}
MayRefuse r = ⊥

-- why there may be none where nothing is under way, so that nobody has latched a page: a latch then means damage
abbrev pub unlatched_refusal : Refusal → Refusal
unlatched_refusal why.Latched = why.Damaged (damage.Page 0)
unlatched_refusal r = r

-- ---- latches

-- slots were given of pages that nobody has latched, and the level has noted each so
pub record AreFreelyGiven (rows : List Row) (m : Meaning) (k : LevelState) (given : List Given) : Type 0 where
  pub unlatched : All (λ g. latched_in rows (g.at / 16) ≡ false) given
  pub noted : AreNoted m k given

-- it is refused as latched where this is latched, and as something else where it is not
abbrev pub IsForLatch : Bool → Refusal → Type 0
IsForLatch latched why.Latched = latched ≡ true
IsForLatch latched _ = latched ≡ false

-- a slot that is wanted is not given, as latched exactly where its page is
pub record IsHeldBack (rows : List Row) (want : List Given → Option ℕ) (r : Refusal) : Type 0 where
  pub given : List Given
  pub at : ℕ
  pub next : want given ≡ Some at
  pub latch : IsForLatch (latched_in rows (at / 16)) r

-- the answer is that it is latched exactly where this is
abbrev pub IsExactlyLatched : Bool → Result Plan Refusal → Type 0
IsExactlyLatched latched (Ok p) = latched ≡ false
IsExactlyLatched latched (Err r) = IsForLatch latched r

-- No page tells which slot a close or a mark needs. So the latch of that one's page decides, whatever the device gave.
abbrev pub IsByOwnLatch : Sizes → List Row → Task → Result Plan Refusal → Type 0
IsByOwnLatch z rows (Chain (Send g tag body)) answer = Unit {0}
IsByOwnLatch z rows (Chain (Receive g)) answer = Unit {0}
IsByOwnLatch z rows (Chain (Close g)) answer = IsExactlyLatched (latched_in rows (directory_at g / 16)) answer
IsByOwnLatch z rows (Tag t) answer = IsExactlyLatched (latched_in rows (client_slot_at z t.client / 16)) answer
