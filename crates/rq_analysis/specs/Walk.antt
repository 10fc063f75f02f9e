-- A store whose transactions are undone, as its pages and its log show it: between two inverses, and within one.
use Rattle.std.specs.Prelude.{◌≡◌, ℕ, ◌<◌, ◌+◌, ◌/◌, ◌%◌, true, false, List, [], ◌∷◌, length, Some, None}
use Rattle.std.specs.List.{slice_get}
use Rattle.rq_model.specs.declared.record.Deed.{Deed}
use Rattle.rq_model.specs.declared.record.Deed.TheVariants.{Append, UnlinkHead, Close, Mark}
use Rattle.rq_model.specs.declared.record.Record.{Record}
use Rattle.rq_model.specs.declared.record.Record.TheVariants.{AbortEnd}
use Rattle.rq_model.specs.declared.txn.Txn.{Txn}
use Rattle.rq_model.specs.Deeds.{deed_by}
use Rattle.rq_model.specs.Unended.{lost}
use Rattle.rq_model.specs.Vocabulary.{In}
use Rattle.rq_page.specs.declared.cell.Cell.{Cell}
use Rattle.rq_page.specs.Sizes.{Sizes}
use Rattle.rq_page.specs.Slots.{IsSlotOf, Slot}
use Rattle.rq_page.specs.Slots.Slot.{Client, Sender, Used}
use Rattle.rq_views.specs.Log.{Slots}
use Rattle.rq_views.specs.InStore.{IsDeedOf}
use Rattle.rq_views.specs.Plans.Turn.{Undid}
use Rattle.rq_views.specs.Stored.{slots_in}
use Rattle.rq_level.specs.declared.writes.SlotWrite.{SlotWrite}
use Rattle.rq_txn.specs.declared.Aim.TheVariants as aims
use Rattle.rq_txn.specs.Rows.{Row, any_under, found_row, without_row}
use Rattle.rq_store.specs.State.{State}
use Rattle.rq_store.specs.Steps.{page_op}
use Rattle.rq_store.specs.Whole.{IsWhole}
use Rattle.rq_sound.specs.Calls.{IsPutIn}
use Rattle.rq_sound.specs.Plans.{IsPlannedFrom}
use Rattle.rq_sound.specs.Rows.{comp_end, own_slot}
use Rattle.rq_sound.specs.Sound.{IsSound}
use Rattle.rq_sound.specs.Inverses.{InverseTakesLowest, MayBeUndone, StandsOn}
use Rattle.rq_analysis.specs.Pages.{IsUndone}
use Rattle.rq_analysis.specs.declared.dues.PendingUndo.{PendingUndo}
use Rattle.rq_analysis.specs.Choices.{AreLost, least_free}
use Rattle.rq_analysis.specs.Dues.{deed_due, dues}
use Rattle.rq_analysis.specs.Lost.{IsRepeated, lost_store}
use Rattle.rq_analysis.specs.Moves.{newest_store}
use Rattle.rq_analysis.specs.Numbers.{number_of, numbers}
use Rattle.rq_analysis.specs.Recovered.{IsRecovered, IsRecovering}
use Rattle.rq_analysis.specs.Turns.{AreAborting, MovesInTurn}

-- moves in turn came to a store with these pages and this log, in which each transaction is lost and to be undone
pub record IsCome (base : State) (stores : List State) (images : List (List ℕ)) (log : List Record) : Type 0 where
  pub turns : MovesInTurn base stores
  pub images_are : (newest_store base stores).images ≡ images
  pub records_are : (newest_store base stores).records ≡ log
  pub lost : AreLost (newest_store base stores)
  pub aborting : AreAborting (newest_store base stores).rows

-- nothing is under way
pub record IsBetween (base : State) (images : List (List ℕ)) (log : List Record) : Type 0 where
  pub stores : List State
  pub come : IsCome base stores images log
  pub idle : any_under (newest_store base stores).rows ≡ false

-- an inverse alone is under way, of which so many writes are made: that of the deed whose OpEnd has this LSN
pub record IsWithin (base : State) (images : List (List ℕ)) (log : List Record) (txn : Txn) (number lsn : ℕ) (deed : Deed)
    (writes : List SlotWrite) (made : ℕ) : Type 0 where
  pub stores : List State
  pub come : IsCome base stores images log
  pub row : Row
  pub of : row.txn ≡ txn
  pub at_row : found_row row.txn (newest_store base stores).rows ≡ Some row
  pub under : row.under ≡ Some (record { number = number; writes = writes; made = made; aim = aims.Undoing lsn deed })
  pub alone : any_under (without_row txn (newest_store base stores).rows) ≡ false

-- the base with these pages and this log
abbrev pub showing : State → List (List ℕ) → List Record → State
showing base images log = record base { images = images; records = log }

-- What a program does whose log and pages are so: it makes the record and the write that are next.
pub record AbortsGoOn : Type 0 where
  -- what is due first is planned over the slots as they are, a message into the lowest free cell
  pub begins : (base : State) (images : List (List ℕ)) (log : List Record) (d : PendingUndo) (ds : List PendingUndo)
      (ws : List SlotWrite) → IsSound base → IsBetween base images log → least_free (dues log) (lost log) ≡ None
      → dues log ≡ d ∷ ds → IsPlannedFrom base.sizes (slots_in base.sizes images) ws (Undid (deed_due d))
      → InverseTakesLowest base.sizes (slots_in base.sizes images) [] (deed_due d) ws
      → IsWithin base images log d.txn (number_of d.txn (numbers log) + 1) d.lsn (deed_due d) ws 0
  -- the next write, on the pages too
  pub makes : (base : State) (images now : List (List ℕ)) (log : List Record) (t : Txn) (n lsn : ℕ) (deed : Deed)
      (ws : List SlotWrite) (made : ℕ) (w : SlotWrite) → IsSound base
      → IsWithin base images log t n lsn deed ws made → slice_get ws made ≡ Some w
      → IsSlotOf base.sizes (w.at / 16) (w.at % 16) w.before → IsSlotOf base.sizes (w.at / 16) (w.at % 16) w.after
      → IsPutIn (showing base images log) w now
      → IsWithin base now (page_op t n w ∷ log) t n lsn deed ws (made + 1)
  -- the inverse's end, where all its writes are made
  pub closes : (base : State) (images : List (List ℕ)) (log : List Record) (t : Txn) (n lsn : ℕ) (deed : Deed)
      (ws : List SlotWrite) → IsSound base → IsWithin base images log t n lsn deed ws (length ws)
      → IsBetween base images (comp_end t n lsn ∷ log)
  -- the end of the transaction of the least count of which nothing is due
  pub ends : (base : State) (images : List (List ℕ)) (log : List Record) (t : Txn) → IsSound base
      → IsBetween base images log → least_free (dues log) (lost log) ≡ Some t
      → IsBetween base images (AbortEnd t ∷ log)
  -- where there is none, and nothing is due, all are undone
  pub done : (base : State) (images : List (List ℕ)) (log : List Record) (k : IsBetween base images log) → IsSound base
      → least_free (dues log) (lost log) ≡ None → dues log ≡ [] → (newest_store base k.stores).rows ≡ []

-- The log of a program on its way is whole, and stays so by the record that is next, whether or not the pages follow.
pub record LogsOnTheWayAreWhole : Type 0 where
  pub between : (base : State) (images : List (List ℕ)) (log : List Record) → IsSound base
      → IsBetween base images log → IsWhole base.sizes log
  pub within : (base : State) (images : List (List ℕ)) (log : List Record) (t : Txn) (n lsn : ℕ) (deed : Deed)
      (ws : List SlotWrite) (made : ℕ) → IsSound base → IsWithin base images log t n lsn deed ws made
      → IsWhole base.sizes log
  pub writes : (base : State) (images : List (List ℕ)) (log : List Record) (t : Txn) (n lsn : ℕ) (deed : Deed)
      (ws : List SlotWrite) (made : ℕ) (w : SlotWrite) → IsSound base
      → IsWithin base images log t n lsn deed ws made → slice_get ws made ≡ Some w
      → IsSlotOf base.sizes (w.at / 16) (w.at % 16) w.before → IsSlotOf base.sizes (w.at / 16) (w.at % 16) w.after
      → IsWhole base.sizes (page_op t n w ∷ log)
  pub closes : (base : State) (images : List (List ℕ)) (log : List Record) (t : Txn) (n lsn : ℕ) (deed : Deed)
      (ws : List SlotWrite) → IsSound base → IsWithin base images log t n lsn deed ws (length ws)
      → IsWhole base.sizes (comp_end t n lsn ∷ log)
  pub ends : (base : State) (images : List (List ℕ)) (log : List Record) (t : Txn) → IsSound base
      → IsBetween base images log → least_free (dues log) (lost log) ≡ Some t → IsWhole base.sizes (AbortEnd t ∷ log)

-- a cell with this number stands at the address
pub record HasNumber (q : Slots) (a n : ℕ) : Type 0 where
  pub cell : Cell
  pub stands : q a ≡ Used cell
  pub number : cell.sequence ≡ n

-- What was sent is the last that its group counts, and stands last; what was received is the last that it counts; what was
-- closed is closed; what was marked is the tag that its client's slot holds, which counts a mark.
abbrev pub IsLastOf : Slots → Slot → Deed → Type 0
IsLastOf q (Sender s d) (Append g n tag previous body) = (s ≡ g) × (d.sent ≡ n) × HasNumber q d.tail n
IsLastOf q (Sender s d) (UnlinkHead g n tag body) = (s ≡ g) × (d.received ≡ n)
IsLastOf q (Sender s d) (Close g) = (s ≡ g) × (d.closed ≡ true)
IsLastOf q (Client k) (Mark c tag previous) = (k.client ≡ c) × (0 < k.count) × (k.tag ≡ tag)
IsLastOf q _ _ = ⊥

-- as the slots have it, the deed was done last at its end of its group, or by its client
abbrev pub StandsLast : Sizes → Slots → Deed → Type 0
StandsLast z q deed = IsLastOf q (q (own_slot z deed)) deed

-- a sound store with these pages and this log, in which nothing is under way, and the deed was done last and may be undone
pub record ShowsUndone (z : Sizes) (images : List (List ℕ)) (log : List Record) (deed : Deed) : Type 0 where
  pub store : State
  pub sound : IsSound store
  pub stands : StandsOn store z images []
  pub records_are : store.records ≡ log
  pub idle : any_under store.rows ≡ false
  pub may : MayBeUndone store deed
  pub last : StandsLast z (slots_in z images) deed

-- What is due first can be taken back: its OpEnd tells a deed of a sender or client that the store has, the slots show that it was
-- done last, and the plan of its inverse, by the pages alone, is refused for memory only (`Planner::plan_inverse_alone` says
-- that of any such store).
pub record DuesCanBeUndone : Type 0 where
  pub reads : (z : Sizes) (log : List Record) (d : PendingUndo) → IsWhole z log → In d (dues log)
      → (deed_by d.level d.deed ≡ Some (deed_due d)) × IsDeedOf z (deed_due d)
  pub may : (base : State) (images : List (List ℕ)) (log : List Record) (d : PendingUndo) (ds : List PendingUndo) → IsSound base
      → IsBetween base images log → least_free (dues log) (lost log) ≡ None → dues log ≡ d ∷ ds
      → ShowsUndone base.sizes images log (deed_due d)

-- what is left, as a program counts it
abbrev pub rounds_left : List Record → ℕ
rounds_left log = length (lost log) + length (dues log)

-- It sets out where history is repeated, each round leaves less, and at each moment its log is that of a restart on its
-- way; at the end it is recovered.
pub record AbortsComeToAnEnd : Type 0 where
  pub first : (z : Sizes) (images : List (List ℕ)) (log : List Record) (forced : ℕ)
      → IsBetween (lost_store z images log forced) images log
  pub less_back : (log : List Record) (d : PendingUndo) (ds : List PendingUndo) (n lsn : ℕ) → dues log ≡ d ∷ ds
      → rounds_left (comp_end d.txn n lsn ∷ log) < rounds_left log
  pub less_end : (log : List Record) (t : Txn) → least_free (dues log) (lost log) ≡ Some t
      → rounds_left (AbortEnd t ∷ log) < rounds_left log
  pub between : (z : Sizes) (log undone : List Record) (images : List (List ℕ)) (forced : ℕ) (now : List (List ℕ))
      (last : List Record) → IsUndone log undone → IsRepeated z images undone forced
      → IsBetween (lost_store z images undone forced) now last → IsRecovering z log last
  pub within : (z : Sizes) (log undone : List Record) (images : List (List ℕ)) (forced : ℕ) (now : List (List ℕ))
      (last : List Record) (t : Txn) (n lsn : ℕ) (deed : Deed) (ws : List SlotWrite) (made : ℕ) → IsUndone log undone
      → IsRepeated z images undone forced
      → IsWithin (lost_store z images undone forced) now last t n lsn deed ws made → IsRecovering z log last
  pub recovered : (z : Sizes) (log undone : List Record) (images : List (List ℕ)) (forced : ℕ) (now : List (List ℕ))
      (last : List Record) → IsUndone log undone → IsRepeated z images undone forced
      → IsBetween (lost_store z images undone forced) now last → least_free (dues last) (lost last) ≡ None
      → dues last ≡ [] → IsRecovered z log last
