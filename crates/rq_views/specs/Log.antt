-- Records over decoded slots, and what a log comes to. A log is its records, the newest first.
use Rattle.rq_page.specs.declared.cell.Cell.{Cell}
use Rattle.rq_model.specs.declared.record.Deed.{Deed}
use Rattle.rq_model.specs.declared.txn.Sub.{Sub}
use Rattle.rq_model.specs.declared.txn.Txn.{Txn}
use Rattle.rq_model.specs.Vocabulary.{same_txn}
use Rattle.rq_page.specs.Slots.{Slot}
use Rattle.rq_page.specs.Slots.Slot.{Free, Used, Sender, Client}
use Rattle.std.specs.Prelude.{◌≡◌, ◌≢◌, ℕ, ◌==◌, ◌&&◌, ◌||◌, List, [], ◌∷◌, Bool, false, cond, if◌then◌else◌, Option, None, Some}
use Rattle.rq_views.specs.Chain.{Cells}

-- what stands at each address
abbrev pub Slots : Type 0
Slots = ℕ → Slot

abbrev pub cell_in : Slot → Option Cell
cell_in Free = None
cell_in (Used c) = Some c
cell_in (Sender s d) = None
cell_in (Client k) = None

abbrev pub cells_of : Slots → Cells
cells_of q = λ a. cell_in (q a)

-- the slots after one is written
abbrev pub put : Slots → ℕ → Slot → Slots
put q at x = λ a. if a == at then x else q a

pub record Write : Type 0 where
  pub at : ℕ
  pub before : Slot
  pub after : Slot

-- the slots after these writes, the newest first
abbrev pub applied : List Write → Slots → Slots
applied [] q = q
applied (w ∷ ws) q = put (applied ws q) w.at w.after

-- each before-image is what the writes before it leave
abbrev pub HasBefores : List Write → Slots → Type 0
HasBefores [] q = Unit {0}
HasBefores (w ∷ ws) q = (w.before ≡ applied ws q w.at) × HasBefores ws q

-- none of the writes is at a
abbrev pub Untouched : ℕ → List Write → Type 0
Untouched a [] = Unit {0}
Untouched a (w ∷ ws) = (a ≢ w.at) × Untouched a ws

abbrev pub same_op : Sub → Sub → Bool
same_op a b = same_txn a.txn b.txn && (a.number == b.number)

pub data Item : Type 0 where
  PageOp : (by : Sub) → (write : Write) → Item
  PageUndo : (by : Sub) → (undone at : ℕ) → (after : Slot) → Item
  OpEnd : (by : Sub) → (deed : Deed) → Item
  OpVoid : (by : Sub) → Item
  CompEnd : (by : Sub) → (undone : ℕ) → Item
  Commit : (txn : Txn) → Item
  AbortEnd : (txn : Txn) → Item
  Restart : (incarnation : ℕ) → Item

-- what a record does to slots and operations
pub data Act : Type 0 where
  Wrote : (by : Sub) → (write : Write) → Act
  Unwrote : (by : Sub) → (at : ℕ) → (after : Slot) → Act
  Done : (by : Sub) → Act
  Voided : (by : Sub) → Act
  Nothing : Act

abbrev pub act : Item → Act
act (PageOp o w) = Wrote o w
act (PageUndo o u at after) = Unwrote o at after
act (OpEnd o d) = Done o
act (OpVoid o) = Voided o
act (CompEnd o u) = Done o
act _ = Nothing

-- where pages, directory slots and clients' slots stand, and what a formatted store holds
pub record Places : Type 0 where
  pub page : ℕ → ℕ
  pub directory_at : ℕ → ℕ
  pub senders : ℕ
  pub client_slot_at : ℕ → ℕ
  pub clients : ℕ
  pub formatted : Slots

-- What a log comes to: the slots; the slots with whole operations alone, each made at its end (quiet);
-- of each operation under way its writes not undone, newest first, and on which pages it stands.
pub record LogState : Type 0 where
  pub slots : Slots
  pub quiet : Slots
  pub writes : Sub → List Write
  pub stands : Sub → ℕ → Bool

abbrev pub slots_after : Act → Slots → Slots
slots_after (Wrote o w) q = put q w.at w.after
slots_after (Unwrote o at after) q = put q at after
slots_after _ q = q

abbrev pub quiet_after : Act → (Sub → List Write) → Slots → Slots
quiet_after (Done o) ws q = applied (ws o) q
quiet_after _ ws q = q

abbrev pub rest_of : List Write → List Write
rest_of [] = []
rest_of (w ∷ ws) = ws

abbrev pub writes_after : Act → Sub → List Write → List Write
writes_after (Wrote p w) o ws = cond (same_op p o) (w ∷ ws) ws
writes_after (Unwrote p at after) o ws = cond (same_op p o) (rest_of ws) ws
writes_after (Done p) o ws = cond (same_op p o) [] ws
writes_after (Voided p) o ws = cond (same_op p o) [] ws
writes_after Nothing o ws = ws

abbrev pub stands_after : (ℕ → ℕ) → Act → Sub → ℕ → Bool → Bool
stands_after page (Wrote q w) o p b = (same_op q o && (page w.at == p)) || b
stands_after page (Unwrote q at after) o p b = b
stands_after page (Done q) o p b = cond (same_op q o) false b
stands_after page (Voided q) o p b = cond (same_op q o) false b
stands_after page Nothing o p b = b

abbrev pub after_act : (ℕ → ℕ) → Act → LogState → LogState
after_act page x z = record {
  slots = slots_after x z.slots;
  quiet = quiet_after x z.writes z.quiet;
  writes = λ o. writes_after x o (z.writes o);
  stands = λ o p. stands_after page x o p (z.stands o p);
}

abbrev pub state_of : Places → List Item → LogState
state_of l [] = record { slots = l.formatted; quiet = l.formatted; writes = λ o. []; stands = λ o p. false }
state_of l (r ∷ log) = after_act l.page (act r) (state_of l log)

-- the newest write not undone is at this address, and this was there before it
abbrev pub IsNewest : List Write → ℕ → Slot → Type 0
IsNewest [] at x = ⊥
IsNewest (w ∷ ws) at x = (w.at ≡ at) × (w.before ≡ x)

-- what a page record, or an operation's end, needs of slots and pages
pub record MayWrite (page : ℕ → ℕ) (z : LogState) (o : Sub) (w : Write) : Type 0 where
  pub before : w.before ≡ z.slots w.at
  pub alone : (u : Sub) → same_op o u ≡ false → z.stands u (page w.at) ≡ false

abbrev pub MayAct : (ℕ → ℕ) → LogState → Act → Type 0
MayAct page z (Wrote o w) = MayWrite page z o w
MayAct page z (Unwrote o at after) = IsNewest (z.writes o) at after
MayAct page z (Done o) = Unit {0}
MayAct page z (Voided o) = z.writes o ≡ []
MayAct page z Nothing = Unit {0}
