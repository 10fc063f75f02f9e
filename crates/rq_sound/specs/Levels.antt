-- What the levels of chains and of tags plan for a store, from slots that it was given, with others' operations under way.
use Rattle.std.specs.Prelude.{◌++◌, Bool, ◌||◌, [], ◌∷◌, length, map, drop, Option, None, Some, ◌≡◌, ℕ, ◌+◌, ◌/◌, ◌<◌, ◌≤◌, true, false, not, List}
use Rattle.rq_model.specs.declared.refusal.Refusal.{Refusal}
use Rattle.rq_model.specs.declared.refusal.Refusal.TheVariants as why
use Rattle.rq_model.specs.declared.record.Deed.TheVariants.{Append, UnlinkHead, Close, Mark}
use Rattle.rq_model.specs.Vocabulary.{has_number}
use Rattle.rq_page.specs.Sizes.{Sizes, IsCellAddress, cell_at, cell_count}
use Rattle.rq_page.specs.Slots.{Slot}
use Rattle.rq_page.specs.Slots.Slot.{Free}
use Rattle.rq_views.specs.Plans.{Turn}
use Rattle.rq_views.specs.Plans.Turn.{Did, Undid}
use Rattle.rq_views.specs.Stored.{is_used}
use Rattle.rq_level.specs.declared.slots.Given.{Given}
use Rattle.rq_level.specs.declared.writes.Plan.{Plan}
use Rattle.rq_level.specs.ChainPlans.{CanMark, CanPutBack, CanReceive, CanSend, CanUnlinkTail, RefusesOther, RefusesTaking, IsSent, IsReceived, IsClosed, IsTailUnlinked, IsReturned, IsReopened}
use Rattle.rq_level.specs.TagPlans.{CanTag, CanUntag, IsTagPlan, IsUntagPlan, RefusesTag}
use Rattle.rq_level.specs.Given.{GivenHolds, has_page}
use Rattle.rq_level.specs.LevelState.{LevelState, IsLowest, NoneToTake, SomeFree, flag_at}
use Rattle.rq_txn.specs.declared.Finished.{Finished}
use Rattle.rq_txn.specs.Rows.{Row, Under, latched_in}
use Rattle.rq_store.specs.State.{State}
use Rattle.rq_sound.specs.Calls.{IsIdle}
use Rattle.rq_sound.specs.Sound.{IsSound}
use Rattle.rq_sound.specs.Groups.{slots_now}
use Rattle.rq_sound.specs.Plans.{AreUnlatched, IsPlannedFrom}
use Rattle.rq_sound.specs.Latching.{AllFreeLatched}

-- what was given is as the slots are, of pages that nobody has latched
pub record IsGathered (s : State) (given : List Given) : Type 0 where
  pub as_is : (a : ℕ) (x : Slot) → GivenHolds s.sizes given a x → slots_now s a ≡ x
  pub unlatched : (a : ℕ) (x : Slot) → GivenHolds s.sizes given a x → latched_in s.rows (a / 16) ≡ false

-- an operation under way has yet to write the slot at this address
abbrev pub to_write_under : Option Under → ℕ → Bool
to_write_under None a = false
to_write_under (Some u) a = has_number a (map (λ w. w.at) (drop u.made u.writes))

abbrev pub to_write : List Row → ℕ → Bool
to_write [] a = false
to_write (r ∷ rows) a = to_write_under r.under a || to_write rows a

-- the level knows a cell as free where its slot is, and those as chosen alone that an operation under way has yet to
-- write; it has room for more cells than the store has
pub record KeepsCells (s : State) (k : LevelState) : Type 0 where
  pub sizes : k.sizes ≡ Some s.sizes
  pub free_count : cell_count s.sizes ≤ length k.free
  pub chosen_count : cell_count s.sizes ≤ length k.reserved
  pub free : (i : ℕ) → i < cell_count s.sizes
      → flag_at k.free i ≡ not (is_used (slots_now s (cell_at s.sizes i)))
  pub chosen : (i : ℕ) → i < cell_count s.sizes → flag_at k.reserved i ≡ true
      → to_write s.rows (cell_at s.sizes i) ≡ true

-- the pages that operations under way have latched
abbrev pub AreLatched : State → List ℕ → Type 0
AreLatched s latched = (p : ℕ) → has_page p latched ≡ latched_in s.rows p

-- the plan is of the operation, over the slots as they are, on pages that nobody has latched
abbrev pub IsUnlatchedPlan : State → Plan → Turn → Type 0
IsUnlatchedPlan s p turn = IsPlannedFrom s.sizes (slots_now s) p.writes.items turn × AreUnlatched s p.writes.items

-- What the level plans from such slots is planned from the slots as they are, and its pages are nobody's, whether the
-- store is sound or not. Where it finds none to take each free cell is on a latched page; and where a sound store is not
-- full it knows some cell as free.
pub record LevelsPlanFromSlots : Type 0 where
  pub lowest : (s : State) (k : LevelState) (latched : List ℕ) (a : ℕ) → KeepsCells s k → AreLatched s latched
      → IsLowest s.sizes k latched a
      → IsCellAddress s.sizes a × (slots_now s a ≡ Free) × (latched_in s.rows (a / 16) ≡ false)
  pub none_to_take : (s : State) (k : LevelState) (latched : List ℕ) → KeepsCells s k → AreLatched s latched
      → NoneToTake s.sizes k latched → AllFreeLatched s
  pub some_free : (s : State) (k : LevelState) → IsSound s → KeepsCells s k → s.cells_in_use < cell_count s.sizes
      → SomeFree s.sizes k
  pub sent : (s : State) (k : LevelState) (given : List Given) (latched : List ℕ) (g tag : ℕ) (body : List ℕ) (p : Plan)
      (after : LevelState) → IsGathered s given → KeepsCells s k → AreLatched s latched
      → (m : IsSent s.sizes k given latched g tag body p after)
      → IsUnlatchedPlan s p (Did (Append g (m.can.directory.sent + 1) tag m.can.directory.last_tag body))
  pub received : (s : State) (k : LevelState) (given : List Given) (g : ℕ) (p : Plan) (after : LevelState)
      → IsGathered s given → (m : IsReceived s.sizes k given g p after)
      → IsUnlatchedPlan s p (Did (UnlinkHead g (m.can.directory.received + 1) m.can.cell.tag m.can.cell.body))
  pub closed : (s : State) (k : LevelState) (given : List Given) (g : ℕ) (p : Plan) (after : LevelState)
      → IsGathered s given → IsClosed s.sizes k given g p after → IsUnlatchedPlan s p (Did (Close g))
  pub unsent : (s : State) (k : LevelState) (given : List Given) (g n tag previous : ℕ) (body : List ℕ) (p : Plan)
      (after : LevelState) → IsGathered s given → IsTailUnlinked s.sizes k given g n previous p after
      → IsUnlatchedPlan s p (Undid (Append g n tag previous body))
  pub returned : (s : State) (k : LevelState) (given : List Given) (latched : List ℕ) (g n tag : ℕ) (body : List ℕ)
      (p : Plan) (after : LevelState) → IsGathered s given → KeepsCells s k → AreLatched s latched
      → IsReturned s.sizes k given latched g n tag body p after → IsUnlatchedPlan s p (Undid (UnlinkHead g n tag body))
  pub reopened : (s : State) (k : LevelState) (given : List Given) (g : ℕ) (p : Plan) (after : LevelState)
      → IsGathered s given → IsReopened s.sizes k given g p after → IsUnlatchedPlan s p (Undid (Close g))
  pub tagged : (s : State) (k : LevelState) (given : List Given) (c tag : ℕ) (p : Plan) (after : LevelState)
      → IsGathered s given → (m : IsTagPlan s.sizes k given c tag p after)
      → IsUnlatchedPlan s p (Did (Mark c tag m.can.held.tag))
  pub untagged : (s : State) (k : LevelState) (given : List Given) (c tag previous : ℕ) (p : Plan) (after : LevelState)
      → IsGathered s given → IsUntagPlan s.sizes k given c tag previous p after
      → IsUnlatchedPlan s p (Undid (Mark c tag previous))

-- want of memory; or each free cell is on a latched page
abbrev pub IsForLatches : State → Refusal → Type 0
IsForLatches s why.NoMemory = Unit {0}
IsForLatches s why.Latched = AllFreeLatched s
IsForLatches s _ = ⊥

-- Where the slots that it was given hold what an operation needs, the level refuses for want of memory alone, or as
-- latched, where it takes a cell and each free one is on a latched page. A send finds a free cell where the store is
-- not full, and the inverse of a receive always.
pub record LevelsRefuseExactly : Type 0 where
  pub sends : (s : State) (k : LevelState) (given : List Given) (latched : List ℕ) (g : ℕ) (r : Refusal) → IsSound s
      → KeepsCells s k → AreLatched s latched → s.cells_in_use < cell_count s.sizes → CanSend s.sizes given g
      → RefusesTaking s.sizes k latched g (CanSend s.sizes given g) r → IsForLatches s r
  pub returns : (s : State) (k : LevelState) (given : List Given) (latched : List ℕ) (row : Row) (rest : List Finished)
      (lsn m g n tag : ℕ) (body : List ℕ) (r : Refusal) → IsSound s → KeepsCells s k → AreLatched s latched
      → IsIdle s row → row.finished ≡ rest ++ record { lsn = lsn; number = m; deed = UnlinkHead g n tag body } ∷ []
      → CanPutBack s.sizes given g n → RefusesTaking s.sizes k latched g (CanPutBack s.sizes given g n) r
      → IsForLatches s r
  pub receives : (z : Sizes) (given : List Given) (g : ℕ) (r : Refusal) → CanReceive z given g
      → RefusesOther g (CanReceive z given g) r → r ≡ why.NoMemory
  pub marks : (z : Sizes) (given : List Given) (g : ℕ) (closed : Bool) (r : Refusal) → CanMark z given g closed
      → RefusesOther g (CanMark z given g closed) r → r ≡ why.NoMemory
  pub unsends : (z : Sizes) (given : List Given) (g n : ℕ) (r : Refusal) → CanUnlinkTail z given g n
      → RefusesOther g (CanUnlinkTail z given g n) r → r ≡ why.NoMemory
  pub tags : (z : Sizes) (given : List Given) (c : ℕ) (r : Refusal) → CanTag z given c
      → RefusesTag z c (CanTag z given c) r → r ≡ why.NoMemory
  pub untags : (z : Sizes) (given : List Given) (c tag : ℕ) (r : Refusal) → CanUntag z given c tag
      → RefusesTag z c (CanUntag z given c tag) r → r ≡ why.NoMemory
