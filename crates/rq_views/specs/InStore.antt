-- Whether the records of a log are of a store, and whose they are.
use Rattle.std.specs.Prelude.{◌≡◌, ℕ, ◌/◌, ◌%◌, ◌^◌, ◌<◌, ◌≤◌, Bool, false, List, [], ◌∷◌}
use Rattle.rq_model.specs.declared.txn.Txn.{Txn}
use Rattle.rq_model.specs.declared.record.Deed.{Deed}
use Rattle.rq_model.specs.declared.record.Deed.TheVariants.{Append, UnlinkHead, Close, Mark}
use Rattle.rq_model.specs.declared.record.Record.{Record}
use Rattle.rq_model.specs.declared.record.Record.TheVariants as records
use Rattle.rq_model.specs.Vocabulary.{same_txn}
use Rattle.rq_model.specs.Deeds.{deed_by}
use Rattle.rq_model.specs.Unended.{any_record}
use Rattle.rq_page.specs.Sizes.{Sizes, IsCellAddress, page_count, tags_from, sender_count, sender_at, client_count, client_at}
use Rattle.rq_page.specs.Slots.{Slot, IsSlotOf}
use Rattle.rq_page.specs.Slots.Slot.{Free, Used, Sender, Client}
use Rattle.rq_views.specs.Log.{Slots, Write}
use Rattle.rq_views.specs.Items.{told_deed}

-- the deed is of one of the store's senders or clients; no sender has the number of a client's group
abbrev pub IsDeedOf : Sizes → Deed → Type 0
IsDeedOf z (Append s n tag previous body) = s < sender_count z
IsDeedOf z (UnlinkHead s n tag body) = s < sender_count z
IsDeedOf z (Close s) = s < sender_count z
IsDeedOf z (Mark c tag previous) = (c < client_count z) × (sender_count z ≤ 2 ^ 32)

-- a slot that the record writes is the store's, and so is the sender or client of its deed
abbrev pub InStoreOne : Sizes → Record → Type 0
InStoreOne z (records.PageOp t n page slot before after) = IsSlotOf z page slot after
InStoreOne z (records.PageUndo t n undone page slot after) = IsSlotOf z page slot after
InStoreOne z (records.OpEnd t n level deed) = IsDeedOf z (told_deed (deed_by level deed))
InStoreOne z _ = Unit {0}

-- every record of the log is of the store
abbrev pub InStore : Sizes → List Record → Type 0
InStore z [] = Unit {0}
InStore z (r ∷ log) = InStoreOne z r × InStore z log

-- the address is that of the directory slot of s
pub record IsDirectoryAddress (z : Sizes) (s a : ℕ) : Type 0 where
  pub own : s ≡ sender_at (a / 16) (a % 16)
  pub low : 1 ≤ a / 16
  pub high : a / 16 ≤ z.directory
  pub slot : 1 ≤ a % 16

-- the address is that of the slot of client c
pub record IsClientAddress (z : Sizes) (c a : ℕ) : Type 0 where
  pub own : c ≡ client_at z (a / 16) (a % 16)
  pub low : tags_from z ≤ a / 16
  pub high : a / 16 < page_count z
  pub slot : 1 ≤ a % 16

-- a message stands in a cell, what the directory says of a sender in the sender's directory slot, and what a client
-- marked in the client's
abbrev pub IsInPlace : Sizes → ℕ → Slot → Type 0
IsInPlace z a Free = Unit {0}
IsInPlace z a (Used c) = IsCellAddress z a
IsInPlace z a (Sender s d) = IsDirectoryAddress z s a
IsInPlace z a (Client k) = IsClientAddress z k.client a

-- each slot stands where it may
abbrev pub AllStand : Sizes → Slots → Type 0
AllStand z q = (a : ℕ) → IsInPlace z a (q a)

-- what each of these writes leaves stands where it may
abbrev pub WritesStand : Sizes → List Write → Type 0
WritesStand z [] = Unit {0}
WritesStand z (w ∷ ws) = IsInPlace z w.at w.after × WritesStand z ws

-- the record is one of the transaction's
abbrev pub mentions : Txn → Record → Bool
mentions t (records.PageOp u n page slot before after) = same_txn u t
mentions t (records.PageUndo u n undone page slot after) = same_txn u t
mentions t (records.OpEnd u n level deed) = same_txn u t
mentions t (records.OpVoid u n) = same_txn u t
mentions t (records.CompEnd u n undone) = same_txn u t
mentions t (records.Commit u) = same_txn u t
mentions t (records.AbortEnd u) = same_txn u t
mentions t (records.Restart i) = false
mentions t (records.Base many i) = false

-- no record of the log is the transaction's
abbrev pub IsStranger : Txn → List Record → Type 0
IsStranger t log = any_record (mentions t) log ≡ false
