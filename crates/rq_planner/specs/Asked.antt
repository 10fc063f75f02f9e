-- What is asked of a level, and what it needs for that.
use Rattle.std.specs.Prelude.{ℕ, ◌<◌, cond, false, List, [], ◌∷◌, Option, None, Some, option_map}
use Rattle.rq_model.specs.declared.record.Deed.{Deed}
use Rattle.rq_model.specs.declared.record.Deed.TheVariants.{Append, UnlinkHead, Close as Close_deed, Mark}
use Rattle.rq_model.specs.Deeds.{deed_by}
use Rattle.rq_page.specs.Sizes.{Sizes, client_count, client_slot_at, directory_at, sender_count}
use Rattle.rq_views.specs.Log.{Slots}
use Rattle.rq_views.specs.Plans.Turn.{Undid}
use Rattle.rq_level.specs.Ops.{Doing, Job, Tagging, doing_by, doing_level, tagging_by}
use Rattle.rq_level.specs.Ops.Doing.{Send, Receive, Close}
use Rattle.rq_pool.specs.Pooled.{Pooled}
use Rattle.rq_txn.specs.Rows.{Row}
use Rattle.rq_store.specs.State.{State}
use Rattle.rq_sound.specs.Latching.{at_tail, behind_head, needed}

-- ---- stores

-- a store of which these are known, and nothing else
abbrev pub known : Sizes → List (List ℕ) → List Row → State
known z images rows = record {
  sizes = z;
  rows = rows;
  ends = record { sending = []; receiving = [] };
  images = images;
  records = [];
  forced = 0;
  failed = false;
  incarnation = 0;
  begins = 0;
  cells_in_use = 0;
  waiting = [];
  sent = record { counts = []; tags = [] };
}

-- what its pages and its rows tell of a store
abbrev pub known_from : {P : Type 0} → Pooled P → List Row → State
known_from pages rows = known pages.sizes pages.images rows

-- ---- what is asked

-- something that is to be done: at an end of a group's chain, or a mark
pub data Task : Type 0 where
  Chain : (doing : Doing) → Task
  Tag : (tagging : Tagging) → Task

-- to do something, or to take back what a deed tells
pub data Asked : Type 0 where
  Do : (task : Task) → Asked
  Undo : (deed : Deed) → Asked

abbrev pub doing_sender : Doing → ℕ
doing_sender (Send g tag body) = g
doing_sender (Receive g) = g
doing_sender (Close g) = g

-- the level that does it
abbrev pub task_level : Task → ℕ
task_level (Chain d) = doing_level d
task_level (Tag t) = 2

-- what is read as the one or as the other
abbrev pub chain_or_tag : Option Doing → Option Tagging → Option Task
chain_or_tag (Some d) t = Some (Chain d)
chain_or_tag None t = option_map Tag t

-- what bytes ask the level of this number for, if for anything
abbrev pub task_by : (level : ℕ) → List ℕ → Option Task
task_by level bytes = chain_or_tag (doing_by level bytes) (tagging_by level bytes)

-- what a job asks for, if anything
abbrev pub asked_by : Job → Option Asked
asked_by job = cond job.undo (option_map Undo (deed_by job.level job.bytes)) (option_map Do (task_by job.level job.bytes))

-- it is of one of the store's senders or clients
abbrev pub IsTaskOf : Sizes → Task → Type 0
IsTaskOf z (Chain d) = doing_sender d < sender_count z
IsTaskOf z (Tag t) = t.client < client_count z

-- and so is the deed
abbrev pub HasPlace : Sizes → Deed → Type 0
HasPlace z (Append g n tag previous body) = g < sender_count z
HasPlace z (UnlinkHead g n tag body) = g < sender_count z
HasPlace z (Close_deed g) = g < sender_count z
HasPlace z (Mark c tag previous) = c < client_count z

abbrev pub IsOfStore : Sizes → Asked → Type 0
IsOfStore z (Do task) = IsTaskOf z task
IsOfStore z (Undo d) = HasPlace z d

-- the slots that it needs, but for a free one
abbrev pub slots_to_do : Sizes → Slots → Task → List ℕ
slots_to_do z q (Chain (Send g tag body)) = at_tail q g
slots_to_do z q (Chain (Receive g)) = behind_head q g
slots_to_do z q (Chain (Close g)) = directory_at g ∷ []
slots_to_do z q (Tag t) = client_slot_at z t.client ∷ []

abbrev pub slots_for : Sizes → Slots → Asked → List ℕ
slots_for z q (Do task) = slots_to_do z q task
slots_for z q (Undo d) = needed z q (Undid d)
