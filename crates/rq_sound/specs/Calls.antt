-- What each call makes of a store, and what it needs.
use Rattle.std.specs.Prelude.{◌≡◌, ◌≢◌, ℕ, ◌+◌, ◌-◌, ◌/◌, ◌%◌, ◌<◌, ◌≤◌, true, false, List, ◌∷◌, length, map, Some, None}
use Rattle.std.specs.List.{slice_get, filter_map}
use Rattle.rq_model.specs.declared.txn.Txn.{Txn}
use Rattle.rq_model.specs.declared.message.Message.{Message}
use Rattle.rq_model.specs.declared.record.Deed.{Deed}
use Rattle.rq_model.specs.Bases.{based}
use Rattle.rq_model.specs.declared.record.Record.TheVariants.{Commit, AbortEnd}
use Rattle.rq_model.specs.Vocabulary.{front, sent_for}
use Rattle.rq_model.specs.Content.{tag_after}
use Rattle.rq_page.specs.Sizes.{page_count, sender_count}
use Rattle.rq_page.specs.Slots.{IsSlotOf, held_in}
use Rattle.rq_page.specs.Formatted.{IsFormatted, IsHeaderOf}
use Rattle.rq_page.specs.Pages.{IsWritten}
use Rattle.rq_views.specs.Claims.{appends_of}
use Rattle.rq_views.specs.Log.{put}
use Rattle.rq_views.specs.Stored.{slots_in}
use Rattle.rq_level.specs.declared.writes.SlotWrite.{SlotWrite}
use Rattle.rq_groups.specs.Ends.{HeldEnds, released}
use Rattle.rq_groups.specs.Waiting.{waits}
use Rattle.rq_groups.specs.Sent.{SentBy, sent_count, sent_tag}
use Rattle.rq_store.specs.Fitting.{image_in}
use Rattle.rq_store.specs.Sends.{group_of, place_count}
use Rattle.rq_store.specs.Steps.{page_op, op_end}
use Rattle.rq_txn.specs.declared.Aim.{Aim}
use Rattle.rq_txn.specs.Rows.{Under, Row, found_row, change_row, without_row, fresh_row, row_started, row_stepped, row_finished, row_undone, row_aborting}
use Rattle.rq_store.specs.State.{State, op_done}
use Rattle.rq_sound.specs.Rows.{comp_end}
use Rattle.rq_sound.specs.Counted.{appends_aim, takes_all, sends_in}

abbrev pub next_txn : State → Txn
next_txn s = record { incarnation = s.incarnation; count = s.begins + 1 }

-- the next transaction begins
abbrev pub begun : State → State
begun s = record s {
  rows = fresh_row (next_txn s) ∷ s.rows;
  begins = s.begins + 1;
}

-- an operation starts, with the ends as its transaction holds them now
abbrev pub started : State → Row → Under → HeldEnds → State
started s r u ends = record s {
  rows = change_row r.txn (row_started u) s.rows;
  ends = ends;
  cells_in_use = s.cells_in_use + appends_aim u.aim;
}

-- an operation makes a write
abbrev pub stepped : State → Row → Under → SlotWrite → List (List ℕ) → State
stepped s r u w images = record s {
  rows = change_row r.txn row_stepped s.rows;
  images = images;
  records = page_op r.txn u.number w ∷ s.records;
}

-- A slot write is made in the pages: its page has the LSN of the next record, the others stay, and each is of its
-- place.
pub record IsPutIn (s : State) (w : SlotWrite) (images : List (List ℕ)) : Type 0 where
  pub image : (a : ℕ) → slots_in s.sizes images a
      ≡ put (slots_in s.sizes s.images) w.at (held_in s.sizes (w.at / 16) w.after) a
  pub page : IsWritten (image_in s.images (w.at / 16)) (image_in images (w.at / 16)) (w.at % 16) w.after
      (length s.records + 1)
  pub others : (p : ℕ) → p ≢ w.at / 16 → image_in images p ≡ image_in s.images p
  pub superblock : IsFormatted s.sizes 0 (image_in images 0)
  pub headers : (p : ℕ) → 1 ≤ p → p < page_count s.sizes → IsHeaderOf s.sizes p (image_in images p)

-- the write is the operation's next, and is made in the pages
pub record IsNextWrite (s : State) (r : Row) (u : Under) (w : SlotWrite) (images : List (List ℕ)) : Type 0 where
  pub at_row : found_row r.txn s.rows ≡ Some r
  pub under : r.under ≡ Some u
  pub next : slice_get u.writes u.made ≡ Some w
  pub before : IsSlotOf s.sizes (w.at / 16) (w.at % 16) w.before
  pub after : IsSlotOf s.sizes (w.at / 16) (w.at % 16) w.after
  pub made : IsPutIn s w images

-- all writes of an operation for this are made
pub record IsReady (s : State) (r : Row) (u : Under) (aim : Aim) : Type 0 where
  pub at_row : found_row r.txn s.rows ≡ Some r
  pub under : r.under ≡ Some u
  pub aim_is : u.aim ≡ aim
  pub made : u.made ≡ length u.writes

-- a send, a receive, a close or a mark ends; what is received waits no more
abbrev pub finished : State → Row → Under → Deed → List ℕ → State
finished s r u d waiting = record s {
  rows = change_row r.txn (row_finished (record { lsn = length s.records + 1; number = u.number; deed = d })) s.rows;
  records = op_end r.txn u.number d ∷ s.records;
  waiting = waiting;
}

-- an inverse ends; what was received waits again, and what was sent has no cell
abbrev pub undone : State → Row → Under → ℕ → Deed → List ℕ → State
undone s r u lsn d waiting = record s {
  rows = change_row r.txn (row_undone (front r.finished)) s.rows;
  records = comp_end r.txn u.number lsn ∷ s.records;
  cells_in_use = s.cells_in_use - appends_of d;
  waiting = waiting;
}

-- its transaction has nothing under way
pub record IsIdle (s : State) (r : Row) : Type 0 where
  pub at_row : found_row r.txn s.rows ≡ Some r
  pub idle : r.under ≡ None

-- the ends once t holds none
abbrev pub without_ends : Row → HeldEnds → HeldEnds
without_ends r ends = record { sending = released r.txn ends.sending; receiving = released r.txn ends.receiving }

-- a transaction commits
abbrev pub committed : State → Row → ℕ → List ℕ → SentBy → State
committed s r cells waiting sent = record s {
  rows = without_row r.txn s.rows;
  ends = without_ends r s.ends;
  records = Commit r.txn ∷ s.records;
  cells_in_use = cells;
  waiting = waiting;
  sent = sent;
}

-- what it sent for g, in order
abbrev pub sends_for : ℕ → Row → List Message
sends_for g r = filter_map (sent_for g) (map op_done r.finished)

-- it may: it doesn't abort; the cells of what it took are free then, and what it sent waits; what it sent or marked is
-- counted, the last with its tag
pub record MayCommit (s : State) (r : Row) (cells : ℕ) (waiting : List ℕ) (sent : SentBy) : Type 0 where
  pub idle : IsIdle s r
  pub forward : r.aborting ≡ false
  pub freed : cells + takes_all r ≡ s.cells_in_use
  pub waits : (g : ℕ) → g < sender_count s.sizes → waits waiting g ≡ waits s.waiting g + sends_in g r
  pub counts : (i : ℕ) → i < place_count s.sizes
      → sent_count sent i ≡ sent_count s.sent i + sends_in (group_of s.sizes i) r
  pub tags : (i : ℕ) → i < place_count s.sizes
      → sent_tag sent i ≡ tag_after (sent_tag s.sent i) (sends_for (group_of s.sizes i) r)

-- a transaction starts to abort
abbrev pub aborting : State → Row → State
aborting s r = record s { rows = change_row r.txn row_aborting s.rows }

-- and ends, all that it did undone
abbrev pub aborted : State → Row → State
aborted s r = record s {
  rows = without_row r.txn s.rows;
  ends = without_ends r s.ends;
  records = AbortEnd r.txn ∷ s.records;
}

-- all records are forced
abbrev pub forced : State → State
forced s = record s { forced = length s.records }

-- one record, a Base, stands for all, and is forced
abbrev pub checkpointed : State → State
checkpointed s = record s { records = based s.incarnation s.records; forced = length (based s.incarnation s.records) }

-- a device fails
abbrev pub failed : State → State
failed s = record s { failed = true }

-- one record stands for all, and the store stops
abbrev pub migrated : State → State
migrated s = failed (checkpointed s)
