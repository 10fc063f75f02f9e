-- What holds of the worked logs, and which records may not come next.
use Rattle.std.specs.Prelude.{◌≡◌, ℕ, ◌<◌, List, [], ◌∷◌, false}
use Rattle.rq_model.specs.declared.in_place.InPlace.{InPlace}
use Rattle.rq_model.specs.declared.record.Deed.TheVariants.{Append, Close, Mark}
use Rattle.rq_model.specs.declared.record.Record.{Record}
use Rattle.rq_model.specs.declared.record.Record.TheVariants as records
use Rattle.rq_model.specs.declared.txn.Sub.{Sub}
use Rattle.rq_model.specs.declared.txn.Txn.{Txn}
use Rattle.rq_model.specs.Vocabulary.{client_group}
use Rattle.rq_page.specs.Directories.{new_directory}
use Rattle.rq_page.specs.Sizes.{cell_count}
use Rattle.rq_page.specs.Slots.Slot.{Free, Used, Sender}
use Rattle.rq_views.specs.Chain.{View, AreTaken, AreSent}
use Rattle.rq_views.specs.Chain.Sending.{Sent, TailUnlinked}
use Rattle.rq_views.specs.Chain.Taking.{Took}
use Rattle.rq_views.specs.Claims.{claimed, MayClaim, HasRoom}
use Rattle.rq_views.specs.Groups.{MayGroup, KeepsGroups, committed}
use Rattle.rq_views.specs.Inverses.{CanBeDone, inverse}
use Rattle.rq_views.specs.Items.{ReadsOne}
use Rattle.rq_views.specs.Legal.{IsLegalLog, MayPageOp, MayRestart, open_deeds, view}
use Rattle.rq_views.specs.Log.{Item, Write, state_of}
use Rattle.rq_views.specs.Log.Item.{PageOp, OpEnd, Commit, Restart}
use Rattle.rq_views.specs.Numbers.{greatest, IsNumbered, AreNumbered}
use Rattle.rq_views.specs.Plans.{IsPlan, ShowsTag, Spares, Turn, with_turn}
use Rattle.rq_views.specs.Plans.Turn.{Did, Undid}
use Rattle.rq_views.specs.WorkedItems.{sizes, small, t1, t2, of, a1, b1, cell, new_a, new_b, sends, takes, row, committed_one, done_two, stopped, taken_back, restarted, taken_one, closed_one, tagged, counts, tag_a, untag_a, marked_one, marked_two, unmarked_one}

-- the log keeps every rule
pub record KeepsAll (log : List Item) : Type 0 where
  pub legal : IsLegalLog small log
  pub groups : KeepsGroups log
  pub room : HasRoom (cell_count sizes) log
  pub numbers : AreNumbered log

abbrev pub nothing : View
nothing = record { closed = false; received = 0; last_tag = 0; messages = [] }

abbrev pub one_waits : View
one_waits = record { closed = false; received = 0; last_tag = 7; messages = (7, 104 ∷ []) ∷ [] }

abbrev pub one_taken : View
one_taken = record { closed = false; received = 1; last_tag = 7; messages = [] }

-- two operations interleaved; an abort that a crash stops within an inverse, and the restart after it
pub record WorkedLogs : Type 0 where
  pub interleaved : KeepsAll row
  pub interleaved_view : view row 0 ≡ one_waits
  pub interleaved_slot : (state_of small row).slots 65 ≡ Free
  pub restarted_keeps : KeepsAll restarted
  pub done_view : view done_two 0 ≡ one_taken
  pub stopped_view : view stopped 0 ≡ one_waits
  pub restarted_view : view restarted 0 ≡ one_waits
  pub restarted_committed : committed restarted 0 ≡ one_waits
  pub restarted_other : view restarted 15 ≡ nothing
  pub stopped_slot : (state_of small stopped).slots 65 ≡ Free
  pub stopped_quiet : (state_of small stopped).quiet 65 ≡ Used (cell 15)
  pub restarted_slot : (state_of small restarted).slots 33 ≡ Sender 15 new_directory
  pub done_claims : claimed done_two ≡ 2
  pub restarted_claims : claimed restarted ≡ 1
  pub restarted_number : greatest t2 restarted ≡ 5
  -- while an inverse is under way on sender 15, no operation has written over a slot of sender 0, and one has over a
  -- slot of sender 15
  pub spares : (o : Sub) → Spares 0 ((state_of small stopped).writes o)
  pub not_spared : ((o : Sub) → Spares 15 ((state_of small stopped).writes o)) → ⊥

-- a group to which one tag was marked
abbrev pub one_mark : ℕ → View
one_mark tag = record { closed = false; received = 0; last_tag = tag; messages = (tag, []) ∷ [] }

-- in this log the view of the client's group is v, and the client's slot shows it
pub record Tells (log : List Item) (c : ℕ) (v : View) : Type 0 where
  pub told : view log (client_group c) ≡ v
  pub shown : ShowsTag tagged (state_of tagged log).slots c v
  pub quiet : ShowsTag tagged (state_of tagged log).quiet c v

-- a mark, another client's, and the first taken back; a client that marked nothing
pub record WorkedMarks : Type 0 where
  pub legal : IsLegalLog tagged unmarked_one
  pub groups : KeepsGroups unmarked_one
  pub numbers : AreNumbered unmarked_one
  pub begun : Tells (Restart 1 ∷ []) 0 nothing
  pub one_first : Tells marked_one 0 (one_mark 7)
  pub one_second : Tells marked_one 1 nothing
  pub two_first : Tells marked_two 0 (one_mark 7)
  pub two_second : Tells marked_two 1 (one_mark 9)
  pub back_first : Tells unmarked_one 0 nothing
  pub back_second : Tells unmarked_one 1 (one_mark 9)
  pub back_other : Tells unmarked_one 14 nothing
  -- while the mark is taken back, the slot no longer shows it, and the slots of whole operations do
  pub taking_back : ShowsTag tagged (state_of tagged (PageOp (of t1 2) untag_a ∷ marked_two)).quiet 0 (one_mark 7)
  pub not_shown : ShowsTag tagged (state_of tagged (PageOp (of t1 2) untag_a ∷ marked_two)).slots 0 (one_mark 7) → ⊥
  -- no sender shows any of it
  pub sender_shows : view unmarked_one 0 ≡ nothing
  pub claims : claimed marked_two ≡ 0

-- a second message that is sent behind the first
abbrev pub sends_second : Turn
sends_second = Did (Append 0 2 8 7 (105 ∷ []))

-- a receive of the first message
abbrev pub takes_first : Turn
takes_first = Did (takes 0)

-- a write over a cell that is used
abbrev pub over_used : Write
over_used = record { at = 49; before = Used (cell 0); after = Free }

-- what may not come next, each after a log that keeps every rule
pub record RefusedRecords : Type 0 where
  -- of a store with one cell: a send while a message that was in it is taken and may go back
  pub taken_keeps : KeepsAll taken_one
  pub taken_room : HasRoom 1 taken_one
  pub full : MayClaim 1 taken_one (OpEnd (of t2 2) (sends 15)) → ⊥
  -- a send to a closed group, and a second close
  pub closed_keeps : KeepsAll closed_one
  pub closed_send : MayGroup closed_one (OpEnd b1 (sends 0)) → ⊥
  pub closed_again : MayGroup closed_one (OpEnd b1 (Close 0)) → ⊥
  -- a transaction's first operation numbered 2
  pub gap : IsNumbered closed_one (PageOp (of t2 2) new_b) → ⊥
  -- a restart where a transaction took back all that it did and has no AbortEnd
  pub settled : open_deeds t2 taken_back ≡ []
  pub not_ended : MayRestart taken_back 2 → ⊥
  -- a deed or a commit of a transaction that took something back
  pub deed_after_undo : (log : List Record) (t : Txn) (n m k level : ℕ) (deed : InPlace 256)
      → ReadsOne (records.CompEnd t m k ∷ log) (records.OpEnd t n level deed) → ⊥
  pub commit_after_undo : (log : List Record) (t : Txn) (m k : ℕ)
      → ReadsOne (records.CompEnd t m k ∷ log) (records.Commit t) → ⊥
  -- A send is taken back around a receive of what stood before it. A receive of the message itself could not be done
  -- without the send.
  pub undo_met : CanBeDone sends_second one_waits × AreTaken (Took 7 (104 ∷ []) ∷ []) one_waits one_taken
      × AreTaken (Took 7 (104 ∷ []) ∷ []) (with_turn sends_second one_waits) (with_turn sends_second one_taken)
  pub undo_not_met : (w : View) → AreTaken (Took 7 (104 ∷ []) ∷ Took 8 (105 ∷ []) ∷ []) one_waits w → ⊥
  -- A receive is taken back around a send behind what it took, and that gives what the send alone would have given.
  -- None can be done where no message waits, and no send can be taken back there.
  pub put_back_met : CanBeDone takes_first one_waits × AreSent (Sent 8 (105 ∷ []) ∷ []) one_waits
      (with_turn sends_second one_waits)
      × AreSent (Sent 8 (105 ∷ []) ∷ []) (with_turn takes_first one_waits) (with_turn sends_second one_taken)
  pub put_back_gives : with_turn (inverse takes_first) (with_turn sends_second one_taken)
      ≡ with_turn sends_second one_waits
  pub put_back_not_done : CanBeDone takes_first nothing → ⊥
  pub put_back_not_met : (w : View) → AreSent (TailUnlinked 0 ∷ []) nothing w → ⊥
  -- A slot write may come where its slot holds what it tells, and its operation and its transaction go on.
  pub page_op_met : MayPageOp small (Restart 1 ∷ []) a1 new_a
  pub page_op_of_another_slot : MayPageOp small (Restart 1 ∷ []) a1 over_used → ⊥
  pub page_op_after_end : (w : Write) → MayPageOp small committed_one a1 w → ⊥
  pub page_op_after_commit : (n : ℕ) (w : Write) → MayPageOp small (Commit t1 ∷ Restart 1 ∷ []) (of t1 n) w → ⊥
  -- A mark tells the tag that its client's slot holds. It is of that client, and one more is counted.
  pub mark_met : IsPlan tagged (Did (Mark 0 7 0)) (tag_a ∷ [])
  pub mark_of_another_tag : (previous : ℕ) → 0 < previous → IsPlan tagged (Did (Mark 0 7 previous)) (tag_a ∷ []) → ⊥
  pub mark_of_another_client : IsPlan tagged (Did (Mark 1 7 0)) (tag_a ∷ []) → ⊥
  pub mark_not_counted : IsPlan tagged (Did (Mark 0 7 0)) (record tag_a { after = counts 0 0 7 } ∷ []) → ⊥
  -- none is taken back where none is counted
  pub none_to_take_back : IsPlan tagged (Undid (Mark 0 7 0)) (record tag_a { after = counts 0 0 0 } ∷ []) → ⊥
