-- What the level of tags answers to a mark that is to be planned, and which slot it asks for.
use Rattle.std.specs.Prelude.{◌≡◌, ℕ, ◌+◌, ◌-◌, ◌/◌, ◌<◌, ◌≤◌, ◌^◌, Bool, true, false, cond, nat_eq, List, [], ◌∷◌, reverse, Option, None, Some, Result, Ok, Err}
use Rattle.rq_model.specs.declared.record.Deed.{Deed}
use Rattle.rq_model.specs.declared.record.Deed.TheVariants.{Append, UnlinkHead, Close, Mark}
use Rattle.rq_model.specs.declared.record.Record.{Record}
use Rattle.rq_model.specs.declared.record.Record.TheVariants.{OpEnd}
use Rattle.rq_model.specs.declared.refusal.Damage.TheVariants as damage
use Rattle.rq_model.specs.declared.refusal.Refusal.{Refusal}
use Rattle.rq_model.specs.declared.refusal.Refusal.TheVariants as why
use Rattle.rq_model.specs.Deeds.{spelled_deed, deed_by}
use Rattle.rq_page.specs.declared.client.ClientSlot.{ClientSlot}
use Rattle.rq_page.specs.Sizes.{Sizes, client_count, client_slot_at}
use Rattle.rq_page.specs.Slots.Slot.{Client}
use Rattle.rq_views.specs.Items.{layout_of}
use Rattle.rq_views.specs.Plans.{client_write}
use Rattle.rq_level.specs.ChainPlans.{IsInverse, RefusesUnread, along}
use Rattle.rq_level.specs.Given.{GivenHolds}
use Rattle.rq_level.specs.LevelState.{LevelState, told_sizes}
use Rattle.rq_level.specs.Ops.{Job, Tagging, tagging_by}
use Rattle.rq_level.specs.Writes.{writes_of, AreSlotWrites}
use Rattle.rq_level.specs.declared.slots.Given.{Given}
use Rattle.rq_level.specs.declared.writes.Gist.TheVariants as gists
use Rattle.rq_level.specs.declared.writes.Plan.{Plan}
use Rattle.rq_level.specs.declared.writes.Replies.TheVariants as replies

-- the slots hold what a mark needs
pub record CanTag (z : Sizes) (given : List Given) (c : ℕ) : Type 0 where
  pub below : c < client_count z
  pub held : ClientSlot
  pub held_is : GivenHolds z given (client_slot_at z c) (Client held)
  pub own : held.client ≡ c
  pub room : held.count ≤ 2 ^ 50

-- the plan of a mark: the client's slot counts it, and holds its tag
pub record IsTagPlan (z : Sizes) (k : LevelState) (given : List Given) (c tag : ℕ) (p : Plan) (after : LevelState) : Type 0 where
  pub can : CanTag z given c
  pub writes : reverse (writes_of z p.writes.items) ≡ client_write (layout_of z) can.held
      (record can.held { count = can.held.count + 1; tag = tag }) ∷ []
  pub slots : AreSlotWrites z p.writes.items
  pub deed : p.deed ≡ spelled_deed (Mark c tag can.held.tag)
  pub reads : deed_by 2 p.deed ≡ Some (Mark c tag can.held.tag)
  pub reply : p.reply ≡ replies.Deed (gists.Mark c tag)
  pub kept : after ≡ k

-- the slots hold what the inverse of a mark needs: its tag is the client's last
pub record CanUntag (z : Sizes) (given : List Given) (c tag : ℕ) : Type 0 where
  pub below : c < client_count z
  pub held : ClientSlot
  pub held_is : GivenHolds z given (client_slot_at z c) (Client held)
  pub own : held.client ≡ c
  pub some : 0 < held.count
  pub last : held.tag ≡ tag

-- the plan of the inverse of a mark: the client's slot holds the tag before it again
pub record IsUntagPlan (z : Sizes) (k : LevelState) (given : List Given) (c tag previous : ℕ) (p : Plan)
    (after : LevelState) : Type 0 where
  pub can : CanUntag z given c tag
  pub writes : reverse (writes_of z p.writes.items) ≡ client_write (layout_of z) can.held
      (record can.held { count = can.held.count - 1; tag = previous }) ∷ []
  pub slots : AreSlotWrites z p.writes.items
  pub inverse : IsInverse p
  pub kept : after ≡ k

-- why there is none, where the slots hold what it needs if Can: the damage is of the page of the client's slot
abbrev pub RefusesTag : Sizes → ℕ → Type 0 → Refusal → Type 0
RefusesTag z c Can why.NoMemory = Unit {0}
RefusesTag z c Can (why.Damaged d) = (d ≡ damage.Page (client_slot_at z c / 16)) × (Can → ⊥)
RefusesTag z c Can _ = ⊥

-- what the level answers to a mark, and what it keeps then
abbrev pub PlansTag : Option Sizes → Option Tagging → LevelState → List Given → Result Plan Refusal → LevelState → Type 0
PlansTag (Some z) (Some t) k given (Ok p) after = IsTagPlan z k given t.client t.tag p after
PlansTag (Some z) (Some t) k given (Err r) after = RefusesTag z t.client (CanTag z given t.client) r × (after ≡ k)
PlansTag _ _ k given answer after = RefusesUnread k answer after

-- what is to be taken back is not planned as something to do
abbrev pub TagsFor : (undo : Bool) → Option Sizes → Option Tagging → LevelState → List Given → Result Plan Refusal
    → LevelState → Type 0
TagsFor true z t k given answer after = RefusesUnread k answer after
TagsFor false z t k given answer after = PlansTag z t k given answer after

abbrev pub tag_plans : LevelState → Job → List Given → List ℕ → Result Plan Refusal → LevelState → Type 0
tag_plans k job given latched answer after =
    TagsFor job.undo k.sizes (tagging_by job.level job.bytes) k given answer after

-- the same of the inverse of what a deed of tags tells
abbrev pub UndoesTag : Option Sizes → Option Deed → LevelState → List Given → Result Plan Refusal → LevelState → Type 0
UndoesTag (Some z) (Some (Mark c tag previous)) k given (Ok p) after = IsUntagPlan z k given c tag previous p after
UndoesTag (Some z) (Some (Mark c tag previous)) k given (Err r) after =
    RefusesTag z c (CanUntag z given c tag) r × (after ≡ k)
UndoesTag _ _ k given answer after = RefusesUnread k answer after

-- a record that ends an operation tells the deed of its level
abbrev pub tag_undoes : LevelState → Record → List Given → List ℕ → Result Plan Refusal → LevelState → Type 0
tag_undoes k (OpEnd t n level deed) given latched answer after =
    UndoesTag k.sizes (deed_by level deed) k given answer after
tag_undoes k _ given latched answer after = RefusesUnread k answer after

-- ---- which slot it asks for

-- the client that something is to be marked for
abbrev pub client_to_mark : Option Tagging → Option ℕ
client_to_mark None = None
client_to_mark (Some t) = Some t.client

-- the client whose mark a deed tells
abbrev pub client_marked : Option Deed → Option ℕ
client_marked None = None
client_marked (Some (Append s n tag previous body)) = None
client_marked (Some (UnlinkHead s n tag body)) = None
client_marked (Some (Close s)) = None
client_marked (Some (Mark c tag previous)) = Some c

-- the client's slot in a store of known sizes, where it was not given
abbrev pub client_wanted : Option Sizes → Option ℕ → List Given → Option ℕ
client_wanted None c given = None
client_wanted (Some z) None given = None
client_wanted (Some z) (Some c) given = along [] (client_slot_at z c) given

abbrev pub tag_wants : Option Sizes → Job → List Given → Option ℕ
tag_wants z job given = client_wanted z (cond job.undo (client_marked (deed_by job.level job.bytes))
    (client_to_mark (tagging_by job.level job.bytes))) given

-- ---- what it keeps

-- the sizes alone, which slot 1 of the first page tells
abbrev pub tag_note : LevelState → ℕ → List ℕ → LevelState
tag_note k a bytes = cond (nat_eq a 1) (record k { sizes = told_sizes bytes }) k
