-- The records of a log over decoded slots and deeds.
use Rattle.std.specs.Prelude.{◌≡◌, ℕ, ◌/◌, ◌%◌, nat_le, nat_lt, ◌&&◌, cond, Bool, true, false, List, [], ◌∷◌, map, Option, Some, None}
use Rattle.rq_model.specs.declared.txn.Txn.{Txn}
use Rattle.rq_model.specs.declared.txn.Sub.{Sub}
use Rattle.rq_model.specs.declared.record.Deed.{Deed}
use Rattle.rq_model.specs.declared.record.Deed.TheVariants.{Close}
use Rattle.rq_model.specs.declared.record.Record.{Record}
use Rattle.rq_model.specs.declared.record.Record.TheVariants as records
use Rattle.rq_model.specs.Vocabulary.{same_txn}
use Rattle.rq_model.specs.Deeds.{deed_by}
use Rattle.rq_page.specs.Sizes.{Sizes, address, directory_at, sender_at, sender_count, page_count, tags_from, client_slot_at, client_at, client_count}
use Rattle.rq_page.specs.Slots.{Slot, held_in}
use Rattle.rq_page.specs.Slots.Slot.{Free, Sender, Client}
use Rattle.rq_page.specs.Directories.{new_directory}
use Rattle.rq_page.specs.Clients.{new_client}
use Rattle.rq_views.specs.Log.{Item, Places}
use Rattle.rq_views.specs.Log.Item.{PageOp, PageUndo, OpEnd, OpVoid, CompEnd, Commit, AbortEnd, Restart}

abbrev pub operation : Txn → ℕ → Sub
operation t n = record { txn = t; number = n }

-- the deed that an OpEnd tells; one that cannot be read is told by no log that passes its checks
abbrev pub told_deed : Option Deed → Deed
told_deed None = Close 0
told_deed (Some d) = d

abbrev pub item_of : Sizes → Record → Item
item_of z (records.PageOp t n page slot before after) = PageOp (operation t n)
    (record { at = address page slot; before = held_in z page before; after = held_in z page after })
item_of z (records.PageUndo t n undone page slot after) = PageUndo (operation t n) undone (address page slot)
    (held_in z page after)
item_of z (records.OpEnd t n level deed) = OpEnd (operation t n) (told_deed (deed_by level deed))
item_of z (records.OpVoid t n) = OpVoid (operation t n)
item_of z (records.CompEnd t n undone) = CompEnd (operation t n) undone
item_of z (records.Commit t) = Commit t
item_of z (records.Restart i) = Restart i
item_of z (records.Base many i) = Restart i
item_of z (records.AbortEnd t) = AbortEnd t

abbrev pub items : Sizes → List Record → List Item
items z log = map (item_of z) log

-- what stands at each address of a formatted store: on a tag page, and on any
abbrev pub formatted_tag : Sizes → ℕ → Slot
formatted_tag z a = cond (nat_lt 0 (a % 16) && nat_le (tags_from z) (a / 16) && nat_lt (a / 16) (page_count z))
    (Client (new_client (client_at z (a / 16) (a % 16)))) Free

abbrev pub formatted_at : Sizes → ℕ → Slot
formatted_at z a = cond (nat_lt 0 (a / 16) && nat_le (a / 16) z.directory && nat_lt 0 (a % 16))
    (Sender (sender_at (a / 16) (a % 16)) new_directory) (formatted_tag z a)

abbrev pub layout_of : Sizes → Places
layout_of z = record {
  page = λ a. a / 16;
  directory_at = directory_at;
  senders = sender_count z;
  client_slot_at = client_slot_at z;
  clients = client_count z;
  formatted = formatted_at z;
}

-- the record ends an inverse of the transaction's
abbrev pub compensates : Txn → Record → Bool
compensates t (records.CompEnd u n undone) = same_txn u t
compensates t _ = false

-- the transaction undid something
abbrev pub has_undone : List Record → Txn → Bool
has_undone [] t = false
has_undone (r ∷ log) t = cond (compensates t r) true (has_undone log t)

-- the deed of an OpEnd can be read; a transaction that undid something does nothing more and doesn't commit
abbrev pub ReadsOne : List Record → Record → Type 0
ReadsOne log (records.OpEnd t n level deed) = ((d : Deed) × (deed_by level deed ≡ Some d)) × (has_undone log t ≡ false)
ReadsOne log (records.Commit t) = has_undone log t ≡ false
ReadsOne log _ = Unit {0}

abbrev pub ReadsItsDeeds : List Record → Type 0
ReadsItsDeeds [] = Unit {0}
ReadsItsDeeds (r ∷ log) = ReadsOne log r × ReadsItsDeeds log
