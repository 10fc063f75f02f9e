-- Worked logs, over a store of two directory pages and two cell pages: 30 senders and 30 cells. One has a tag page, too: 15
-- clients. The newest record comes first.
use Rattle.rq_page.specs.declared.cell.Cell.{Cell}
use Rattle.rq_page.specs.declared.directory.Directory.{Directory}
use Rattle.rq_page.specs.Directories.{new_directory}
use Rattle.rq_page.specs.Sizes.{Sizes}
use Rattle.rq_model.specs.declared.txn.Sub.{Sub}
use Rattle.rq_model.specs.declared.txn.Txn.{Txn}
use Rattle.std.specs.Prelude.{ℕ, List, [], ◌∷◌, true}
use Rattle.rq_views.specs.Chain.{directory_appended}
use Rattle.rq_views.specs.Log.{Write, Places, Item}
use Rattle.rq_views.specs.Items.{layout_of}
use Rattle.rq_views.specs.Plans.{directory_head_unlinked, directory_put_back, directory_tail_unlinked}
use Rattle.rq_page.specs.Slots.{Slot}
use Rattle.rq_page.specs.Slots.Slot.{Free, Used, Sender, Client}
use Rattle.rq_model.specs.declared.record.Deed.{Deed}
use Rattle.rq_model.specs.declared.record.Deed.TheVariants.{Append, UnlinkHead, Close, Mark}
use Rattle.rq_views.specs.Log.Item.{PageOp, PageUndo, OpEnd, OpVoid, CompEnd, Commit, AbortEnd, Restart}

abbrev pub sizes : Sizes
sizes = record { directory = 2; cells = 2; tags = 0 }

abbrev pub small : Places
small = layout_of sizes

abbrev pub t1 : Txn
t1 = record { incarnation = 1; count = 1 }

abbrev pub t2 : Txn
t2 = record { incarnation = 1; count = 2 }

abbrev pub of : Txn → ℕ → Sub
of t n = record { txn = t; number = n }

abbrev pub a1 : Sub
a1 = of t1 1

abbrev pub b1 : Sub
b1 = of t2 1

abbrev pub cell : ℕ → Cell
cell s = record { sender = s; sequence = 1; tag = 7; body = 104 ∷ []; next = 0; prev = 0 }

-- the directory slots of senders 0 and 15 stand at 17 and 33, and the first cells of the two cell pages at 49 and 65
abbrev pub new_a : Write
new_a = record { at = 49; before = Free; after = Used (cell 0) }

abbrev pub end_a : Write
end_a = record { at = 17; before = Sender 0 new_directory; after = Sender 0 (directory_appended new_directory 49 7) }

abbrev pub new_b : Write
new_b = record { at = 65; before = Free; after = Used (cell 15) }

abbrev pub end_b : Write
end_b = record { at = 33; before = Sender 15 new_directory; after = Sender 15 (directory_appended new_directory 65 7) }

abbrev pub sends : ℕ → Deed
sends s = Append s 1 7 0 (104 ∷ [])

abbrev pub takes : ℕ → Deed
takes s = UnlinkHead s 1 7 (104 ∷ [])

-- two operations, interleaved: an append that ends, and one that is undone
abbrev pub row : List Item
row =
    Commit t1 ∷ OpVoid b1 ∷ PageUndo b1 3 65 Free ∷ OpEnd a1 (sends 0) ∷ PageOp a1 end_a ∷ PageOp b1 new_b
    ∷ PageOp a1 new_a ∷ Restart 1 ∷ []

-- the slots that taking the message of sender 0 writes, and that putting it back does
abbrev pub sent_a : Directory
sent_a = directory_appended new_directory 49 7

abbrev pub taken_a : Directory
taken_a = directory_head_unlinked sent_a (cell 0)

abbrev pub free_a : Write
free_a = record { at = 49; before = Used (cell 0); after = Free }

abbrev pub took_a : Write
took_a = record { at = 17; before = Sender 0 sent_a; after = Sender 0 taken_a }

abbrev pub back_a : Write
back_a = record { at = 17; before = Sender 0 taken_a; after = Sender 0 (directory_put_back taken_a 49) }

-- and those that taking back the send for sender 15 does
abbrev pub sent_b : Directory
sent_b = directory_appended new_directory 65 7

abbrev pub free_b : Write
free_b = record { at = 65; before = Used (cell 15); after = Free }

abbrev pub undid_b : Write
undid_b = record { at = 33; before = Sender 15 sent_b; after = Sender 15 (directory_tail_unlinked sent_b (cell 15) 0) }

-- t1 sends for sender 0 and commits
abbrev pub committed_one : List Item
committed_one = Commit t1 ∷ OpEnd a1 (sends 0) ∷ PageOp a1 end_a ∷ PageOp a1 new_a ∷ Restart 1 ∷ []

-- then t2 sends for sender 15 and takes the message of sender 0
abbrev pub done_two : List Item
done_two =
    OpEnd (of t2 2) (takes 0) ∷ PageOp (of t2 2) took_a ∷ PageOp (of t2 2) free_a ∷ OpEnd b1 (sends 15)
    ∷ PageOp b1 end_b ∷ PageOp b1 new_b ∷ committed_one

-- it aborts: the message goes back, and a crash comes while its own is taken back
abbrev pub stopped : List Item
stopped = PageOp (of t2 4) free_b ∷ CompEnd (of t2 3) 11 ∷ PageOp (of t2 3) back_a ∷ PageOp (of t2 3) new_a ∷ done_two

-- a restart undoes by its before-image what is not whole, and takes the send back
abbrev pub taken_back : List Item
taken_back =
    CompEnd (of t2 5) 8 ∷ PageOp (of t2 5) undid_b ∷ PageOp (of t2 5) free_b ∷ OpVoid (of t2 4)
    ∷ PageUndo (of t2 4) 15 65 (Used (cell 15)) ∷ stopped

-- then it ends t2, and the store is open again
abbrev pub restarted : List Item
restarted = Restart 2 ∷ AbortEnd t2 ∷ taken_back

-- t2 takes the message of sender 0
abbrev pub taken_one : List Item
taken_one = OpEnd b1 (takes 0) ∷ PageOp b1 took_a ∷ PageOp b1 free_a ∷ committed_one

-- t1 closes the group of sender 0 and commits
abbrev pub mark_a : Write
mark_a = record { at = 17; before = Sender 0 new_directory; after = Sender 0 (record new_directory { closed = true }) }

abbrev pub closed_one : List Item
closed_one = Commit t1 ∷ OpEnd a1 (Close 0) ∷ PageOp a1 mark_a ∷ Restart 1 ∷ []

-- the store with a tag page
abbrev pub with_tags : Sizes
with_tags = record { directory = 2; cells = 2; tags = 1 }

abbrev pub tagged : Places
tagged = layout_of with_tags

-- what the slot of a client holds
abbrev pub counts : ℕ → ℕ → ℕ → Slot
counts c n tag = Client (record { client = c; count = n; tag = tag })

-- the slots of clients 0 and 1 stand at 81 and 82
abbrev pub tag_a : Write
tag_a = record { at = 81; before = counts 0 0 0; after = counts 0 1 7 }

abbrev pub tag_b : Write
tag_b = record { at = 82; before = counts 1 0 0; after = counts 1 1 9 }

abbrev pub untag_a : Write
untag_a = record { at = 81; before = counts 0 1 7; after = counts 0 0 0 }

-- t1 marks 7 for client 0
abbrev pub marked_one : List Item
marked_one = OpEnd a1 (Mark 0 7 0) ∷ PageOp a1 tag_a ∷ Restart 1 ∷ []

-- then t2 marks 9 for client 1
abbrev pub marked_two : List Item
marked_two = OpEnd b1 (Mark 1 9 0) ∷ PageOp b1 tag_b ∷ marked_one

-- and t1 aborts: its mark is taken back
abbrev pub unmarked_one : List Item
unmarked_one = CompEnd (of t1 2) 3 ∷ PageOp (of t1 2) untag_a ∷ marked_two
