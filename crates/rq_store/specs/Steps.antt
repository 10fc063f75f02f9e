-- What a call puts in the log and in the pages, and what the end of an operation gives and takes.
use Rattle.std.specs.Prelude.{◌≡◌, ◌≢◌, ℕ, ◌+◌, ◌<◌, ◌≤◌, ◌/◌, ◌%◌, List, length, drop, cond, nat_eq}
use Rattle.rq_model.specs.declared.txn.Txn.{Txn}
use Rattle.rq_model.specs.declared.record.Record.{Record}
use Rattle.rq_model.specs.declared.record.Record.TheVariants.{PageOp, OpEnd}
use Rattle.rq_model.specs.Deeds.{deed_level, spelled_deed}
use Rattle.rq_model.specs.declared.record.Deed.{Deed}
use Rattle.rq_model.specs.declared.record.Deed.TheVariants.{Append, UnlinkHead, Close, Mark}
use Rattle.rq_model.specs.Replay.{Reply}
use Rattle.rq_model.specs.Replay.Reply.{Gave_sent, Gave_message, Gave_closed, Gave_marked}
use Rattle.rq_page.specs.Sizes.{page_count}
use Rattle.rq_page.specs.Pages.{IsWritten}
use Rattle.rq_page.specs.Formatted.{IsFormatted, IsHeaderOf}
use Rattle.rq_level.specs.declared.writes.SlotWrite.{SlotWrite}
use Rattle.rq_store.specs.State.{State}
use Rattle.rq_store.specs.Fitting.{image_in}

-- the newer log is the older one and what came since
abbrev pub Continues : List Record → List Record → Type 0
Continues older newer = (n : ℕ) × (drop n newer ≡ older)

-- A slot write is made in the pages. Its page has the LSN of the next record, the others stay, and each is of its place.
pub record IsPutIn (s : State) (w : SlotWrite) (images : List (List ℕ)) : Type 0 where
  pub page : IsWritten (image_in s.images (w.at / 16)) (image_in images (w.at / 16)) (w.at % 16) w.after
      (length s.records + 1)
  pub others : (p : ℕ) → p ≢ w.at / 16 → image_in images p ≡ image_in s.images p
  pub superblock : IsFormatted s.sizes 0 (image_in images 0)
  pub headers : (p : ℕ) → 1 ≤ p → p < page_count s.sizes → IsHeaderOf s.sizes p (image_in images p)

-- the record of a slot write
abbrev pub page_op : Txn → ℕ → SlotWrite → Record
page_op t n w = PageOp t n (w.at / 16) (w.at % 16) w.before w.after

-- the record of an operation's end
abbrev pub op_end : Txn → ℕ → Deed → Record
op_end t n d = OpEnd t n (deed_level d) (spelled_deed d)

-- what the end of an operation gives
abbrev pub gave_done : Deed → Reply
gave_done (Append sender sequence tag previous body) = Gave_sent
gave_done (UnlinkHead sender sequence tag body) = Gave_message (record { sender = sender; tag = tag; body = body })
gave_done (Close sender) = Gave_closed
gave_done (Mark client tag previous) = Gave_marked

-- how many messages the deed takes from g
abbrev pub took : ℕ → Deed → ℕ
took g (Append sender sequence tag previous body) = 0
took g (UnlinkHead sender sequence tag body) = cond (nat_eq sender g) 1 0
took g (Close sender) = 0
took g (Mark client tag previous) = 0
