-- Worked plans of levels, each as it should be, and wrong ones of these. They are sends and receives, what takes each back, a slot
-- write that is taken back, and a mark.
use Rattle.std.specs.Prelude.{◌≡◌, ◌/◌, ◌%◌, ◌<◌, ◌^◌, ℕ, true, false, List, [], ◌∷◌, Some, drop, length, replicate}
use Rattle.std.proofs.Common.{arith}
use Rattle.rq_model.specs.declared.record.Deed.TheVariants.{Append, Close, Mark, UnlinkHead}
use Rattle.rq_model.specs.declared.record.Record.{Record}
use Rattle.rq_model.specs.declared.record.Record.TheVariants.{OpEnd, PageOp}
use Rattle.rq_model.specs.declared.refusal.Refusal.TheVariants as why
use Rattle.rq_model.specs.Deeds.{spelled_deed}
use Rattle.rq_page.specs.declared.cell.Cell.{Cell}
use Rattle.rq_page.specs.declared.client.ClientSlot.{ClientSlot}
use Rattle.rq_page.specs.declared.directory.Directory.{Directory}
use Rattle.rq_page.specs.Cells.{cell_bytes, free_bytes}
use Rattle.rq_page.specs.Clients.{client_bytes}
use Rattle.rq_page.specs.Directories.{directory_bytes, new_directory}
use Rattle.rq_views.specs.Chain.{directory_appended}
use Rattle.rq_views.specs.Plans.{directory_head_unlinked}
use Rattle.rq_views.specs.WorkedItems.{cell, t1}
use Rattle.rq_level.specs.Lawful.{IsLawful}
use Rattle.rq_level.specs.LevelState.{LevelState, nothing_kept, reserved_at}
use Rattle.rq_level.specs.Meaning.{meaning_of}
use Rattle.rq_level.specs.Ops.{Job, chain_job, tag_job}
use Rattle.rq_level.specs.Ops.Doing.{Receive, Send}
use Rattle.rq_level.specs.declared.slots.Given.{Given}
use Rattle.rq_level.specs.declared.writes.Gist.TheVariants as gists
use Rattle.rq_level.specs.declared.writes.Plan.{Plan}
use Rattle.rq_level.specs.declared.writes.Replies.{Replies}
use Rattle.rq_level.specs.declared.writes.Replies.TheVariants as replies
use Rattle.rq_level.specs.declared.writes.SlotWrite.{SlotWrite}
use Rattle.rq_cases.specs.Store.{count_sent, count_taken, fill_cell, free_cell, group, one_closed, one_sent, one_taken, sizes, tagged}
use Rattle.rq_cases.specs.WrongLevels.{IsButForWrites, IsRight, IsRightBack, Question, also_plans, also_refuses, also_refuses_back, also_undoes, plans_by_opening, undoes_by_opening}

-- a plan with these writes, this deed and this reply
pub record Has (writes : List SlotWrite) (deed : List ℕ) (reply : Replies) (q : Plan) : Type 0 where
  pub writes_are : q.writes.items ≡ writes
  pub deed_is : q.deed ≡ deed
  pub reply_is : q.reply ≡ reply

-- of a store of 15 cells, of which the first is used
abbrev pub chains_kept : LevelState
chains_kept = record { sizes = Some sizes; free = false ∷ replicate 14 true; reserved = replicate 15 false }

-- or each is free, and the first is perhaps chosen
abbrev pub all_free : LevelState
all_free = record { sizes = Some sizes; free = replicate 15 true; reserved = replicate 15 false }

abbrev pub first_chosen : LevelState
first_chosen = reserved_at sizes all_free 33

-- ---- a send, and what takes it back

-- a message of sender 0, who has none, is to be sent, with the sender's slot
abbrev pub send : Question Job
send = record {
  kept = all_free;
  asked = chain_job (Send 0 7 (104 ∷ []));
  given = record { at = 17; bytes = group new_directory } ∷ [];
  latched = [];
}

abbrev pub IsSend : Plan → Type 0
IsSend q = Has (fill_cell ∷ count_sent ∷ []) (spelled_deed (Append 0 1 7 0 (104 ∷ []))) (replies.Deed (gists.Append 0 7)) q

-- the sender's slot, and that of the message
abbrev pub one_given : List Given
one_given = record { at = 17; bytes = group one_sent } ∷ record { at = 33; bytes = cell_bytes (cell 0) } ∷ []

abbrev pub send_back : Question Record
send_back = record {
  kept = chains_kept;
  asked = OpEnd t1 1 1 (spelled_deed (Append 0 1 7 0 (104 ∷ [])));
  given = one_given;
  latched = [];
}

abbrev pub count_none : SlotWrite
count_none = record count_sent { before = group one_sent; after = group new_directory }

abbrev pub IsSendBack : Plan → Type 0
IsSendBack q = Has (free_cell ∷ count_none ∷ []) [] replies.Undone q

-- ---- a receive, and what takes it back

-- the one message of sender 0 is asked for, with the slots that this wants
abbrev pub receive : Question Job
receive = record { kept = chains_kept; asked = chain_job (Receive 0); given = one_given; latched = [] }

abbrev pub IsReceive : Plan → Type 0
IsReceive q = Has (free_cell ∷ count_taken ∷ []) (spelled_deed (UnlinkHead 0 1 7 (104 ∷ []))) (replies.Deed (gists.UnlinkHead 0)) q

abbrev pub receive_back : Question Record
receive_back = record {
  kept = all_free;
  asked = OpEnd t1 1 1 (spelled_deed (UnlinkHead 0 1 7 (104 ∷ [])));
  given = record { at = 17; bytes = group one_taken } ∷ [];
  latched = [];
}

abbrev pub count_again : SlotWrite
count_again = record count_sent { before = group one_taken; after = group one_sent }

abbrev pub IsReceiveBack : Plan → Type 0
IsReceiveBack q = Has (fill_cell ∷ count_again ∷ []) [] replies.Undone q

-- ---- the first of two messages is received, and put back at the tail

abbrev pub first_cell : Cell
first_cell = record (cell 0) { next = 34 }

abbrev pub second_cell : Cell
second_cell = record { sender = 0; sequence = 2; tag = 8; body = 105 ∷ []; next = 0; prev = 33 }

abbrev pub two_sent : Directory
two_sent = directory_appended one_sent 34 8

-- the first is received: the second follows nothing
abbrev pub second_alone : Cell
second_alone = record second_cell { prev = 0 }

abbrev pub first_taken : Directory
first_taken = directory_head_unlinked two_sent first_cell

-- the first stands behind the second
abbrev pub first_behind : Cell
first_behind = record (cell 0) { prev = 34 }

abbrev pub second_before : Cell
second_before = record second_alone { next = 33 }

abbrev pub first_at_tail : Directory
first_at_tail = record first_taken { received = 0; tail = 33 }

-- two cells are used, and once the first is received one
abbrev pub two_kept : LevelState
two_kept = record { sizes = Some sizes; free = false ∷ false ∷ replicate 13 true; reserved = replicate 15 false }

abbrev pub second_kept : LevelState
second_kept = record two_kept { free = true ∷ false ∷ replicate 13 true }

pub second_page : 34 / 16 < 2 ^ 32
second_page = omega arith

pub second_slot : 0 < 34 % 16
second_slot = omega arith

abbrev pub relink_second : SlotWrite
relink_second = record {
  at = 34;
  before = cell_bytes second_cell;
  after = cell_bytes second_alone;
  page = second_page;
  slot = second_slot;
}

abbrev pub receive_first : Question Job
receive_first = record {
  kept = two_kept;
  asked = chain_job (Receive 0);
  given =
      record { at = 17; bytes = group two_sent } ∷ record { at = 33; bytes = cell_bytes first_cell }
      ∷ record { at = 34; bytes = cell_bytes second_cell } ∷ [];
  latched = [];
}

abbrev pub IsReceiveFirst : Plan → Type 0
IsReceiveFirst q = Has
    (record free_cell { before = cell_bytes first_cell } ∷ relink_second
    ∷ record count_sent { before = group two_sent; after = group first_taken } ∷ [])
    (spelled_deed (UnlinkHead 0 1 7 (104 ∷ []))) (replies.Deed (gists.UnlinkHead 0)) q

abbrev pub receive_first_back : Question Record
receive_first_back = record {
  kept = second_kept;
  asked = OpEnd t1 1 1 (spelled_deed (UnlinkHead 0 1 7 (104 ∷ [])));
  given = record { at = 17; bytes = group first_taken } ∷ record { at = 34; bytes = cell_bytes second_alone } ∷ [];
  latched = [];
}

abbrev pub IsPutAtTail : Plan → Type 0
IsPutAtTail p = Has
    (record fill_cell { after = cell_bytes first_behind }
    ∷ record relink_second { before = cell_bytes second_alone; after = cell_bytes second_before }
    ∷ record count_sent { before = group first_taken; after = group first_at_tail } ∷ [])
    [] replies.Undone p

-- ---- a slot write that is taken back

-- the write that filled the first cell is to be taken back: nothing is wanted for that
abbrev pub write_back : Question Record
write_back = record { kept = nothing_kept; asked = PageOp t1 1 2 1 free_bytes (cell_bytes (cell 0)); given = []; latched = [] }

abbrev pub IsWriteBack : Plan → Type 0
IsWriteBack q = Has (free_cell ∷ []) [] replies.Nothing q

-- ---- a mark

pub tag_page : 49 / 16 < 2 ^ 32
tag_page = omega arith

pub tag_slot : 0 < 49 % 16
tag_slot = omega arith

-- the first client was marked with nothing, and once with 70
abbrev pub unmarked : ClientSlot
unmarked = record { client = 0; count = 0; tag = 0 }

abbrev pub marked : ClientSlot
marked = record { client = 0; count = 1; tag = 70 }

abbrev pub count_mark : SlotWrite
count_mark = record { at = 49; before = client_bytes unmarked; after = client_bytes marked; page = tag_page; slot = tag_slot }

-- it is to be marked, with its slot
abbrev pub mark : Question Job
mark = record {
  kept = record { sizes = Some tagged; free = []; reserved = [] };
  asked = tag_job 0 70;
  given = record { at = 49; bytes = client_bytes unmarked } ∷ [];
  latched = [];
}

abbrev pub IsMark : Plan → Type 0
IsMark q = Has (count_mark ∷ []) (spelled_deed (Mark 0 70 0)) (replies.Deed (gists.Mark 0 70)) q

-- ---- what is wrong

-- the message's cell is freed by its first byte
abbrev pub free_one_byte : SlotWrite
free_one_byte = record free_cell { after = 0 ∷ drop 1 (cell_bytes (cell 0)) }

-- a cell that is free is freed
abbrev pub free_again : SlotWrite
free_again = record free_cell { before = free_bytes }

pub other_page : 18 / 16 < 2 ^ 32
other_page = omega arith

pub other_slot : 0 < 18 % 16
other_slot = omega arith

-- the group of sender 1 is closed
abbrev pub close_another : SlotWrite
close_another = record {
  at = 18;
  before = directory_bytes (record { sender = 1; directory = new_directory });
  after = directory_bytes (record { sender = 1; directory = one_closed });
  page = other_page;
  slot = other_slot;
}

-- the slot of sender 0 names a cell that is free
abbrev pub linked_free : List Given
linked_free = record { at = 17; bytes = group one_sent } ∷ record { at = 33; bytes = free_bytes } ∷ []

-- a plan is right that writes what it should, tells what was done, and replies with that
pub record LevelsAreJudged : Type 0 where
  -- from any plan there is one that has these
  pub some_has : (p : Plan) (writes : List SlotWrite) (deed : List ℕ) (reply : Replies) → length writes < 2 ^ 63
      → (q : Plan) × Has writes deed reply q
  pub send_is_right : (q : Plan) → IsSend q → IsRight 1 send q first_chosen
  pub send_back_is_right : (q : Plan) → IsSendBack q → IsRightBack 1 send_back q chains_kept
  pub receive_is_right : (q : Plan) → IsReceive q → IsRight 1 receive q chains_kept
  pub receive_back_is_right : (q : Plan) → IsReceiveBack q → IsRightBack 1 receive_back q first_chosen
  pub write_back_is_right : (q : Plan) → IsWriteBack q → IsRightBack 0 write_back q nothing_kept
  pub mark_is_right : (q : Plan) → IsMark q → IsRight 2 mark q mark.kept

-- of each case of wrong levels with premises one that meets these
pub record WrongPlansAreRefused : Type 0 where
  pub refused_send_keeps_its_choice : (q : Plan) → IsSend q
      → IsLawful 1 (also_refuses send why.NoMemory first_chosen (meaning_of 1)) → ⊥
  pub refused_back_keeps_its_choice : (q : Plan) → IsReceiveBack q
      → IsLawful 1 (also_refuses_back receive_back why.Latched first_chosen (meaning_of 1)) → ⊥
  pub receive_writes_four : (q p : Plan) → IsReceive q → IsButForWrites p q
      → p.writes.items ≡ free_cell ∷ count_taken ∷ free_cell ∷ count_taken ∷ []
      → IsLawful 1 (also_plans receive p chains_kept (meaning_of 1)) → ⊥
  pub write_back_writes_four : (q p : Plan) → IsWriteBack q → IsButForWrites p q
      → p.writes.items ≡ free_cell ∷ free_cell ∷ free_cell ∷ free_cell ∷ []
      → IsLawful 0 (also_undoes write_back p nothing_kept (meaning_of 0)) → ⊥
  pub receive_closes_another : (q p : Plan) → IsReceive q → IsButForWrites p q
      → p.writes.items ≡ close_another ∷ free_cell ∷ count_taken ∷ []
      → IsLawful 1 (also_plans receive p chains_kept (meaning_of 1)) → ⊥
  pub receive_frees_a_free_cell : (q p : Plan) → IsReceive q → IsButForWrites p q
      → p.writes.items ≡ free_again ∷ count_taken ∷ []
      → IsLawful 1 (also_plans receive p chains_kept (meaning_of 1)) → ⊥
  pub write_back_compares_nothing : (q p : Plan) → IsWriteBack q → IsButForWrites p q → p.writes.items ≡ free_again ∷ []
      → IsLawful 0 (also_undoes write_back p nothing_kept (meaning_of 0)) → ⊥
  pub send_by_flags_of_the_opening : (q : Plan) → IsSend q → IsLawful 1 plans_by_opening → ⊥
  pub receive_back_by_flags_of_the_opening : (q : Plan) → IsReceiveBack q → IsLawful 1 undoes_by_opening → ⊥
  pub receive_leaves_its_group : (q p : Plan) → IsReceive q → IsButForWrites p q → p.writes.items ≡ free_cell ∷ []
      → IsLawful 1 (also_plans receive p chains_kept (meaning_of 1)) → ⊥
  pub send_back_does_nothing : (q p : Plan) → IsSendBack q → IsButForWrites p q → p.writes.items ≡ []
      → IsLawful 1 (also_undoes send_back p chains_kept (meaning_of 1)) → ⊥
  pub send_takes_a_linked_cell : (p : Plan)
      → IsLawful 1 (also_plans (record send { given = linked_free }) p first_chosen (meaning_of 1)) → ⊥
  pub receive_back_takes_a_linked_cell : (p : Plan)
      → IsLawful 1 (also_undoes (record receive_back { given = linked_free }) p first_chosen (meaning_of 1)) → ⊥
  pub send_forgets_its_choice : (q : Plan) → IsSend q → IsLawful 1 (also_plans send q all_free (meaning_of 1)) → ⊥
  pub receive_back_forgets_its_choice : (q : Plan) → IsReceiveBack q
      → IsLawful 1 (also_undoes receive_back q all_free (meaning_of 1)) → ⊥
  pub receive_frees_by_one_byte : (q p : Plan) → IsReceive q → IsButForWrites p q
      → p.writes.items ≡ free_one_byte ∷ count_taken ∷ []
      → IsLawful 1 (also_plans receive p chains_kept (meaning_of 1)) → ⊥
  pub send_back_frees_by_one_byte : (q p : Plan) → IsSendBack q → IsButForWrites p q
      → p.writes.items ≡ free_one_byte ∷ count_none ∷ []
      → IsLawful 1 (also_undoes send_back p chains_kept (meaning_of 1)) → ⊥
  pub mark_tells_a_close : (q : Plan) → IsMark q
      → IsLawful 2 (also_plans mark (record q { deed = spelled_deed (Close 0) }) mark.kept (meaning_of 2)) → ⊥
  pub send_back_tells_a_deed : (q : Plan) → IsSendBack q
      → IsLawful 1 (also_undoes send_back (record q { deed = spelled_deed (Close 0) }) chains_kept (meaning_of 1)) → ⊥
  pub mark_says_undone : (q : Plan) → IsMark q
      → IsLawful 2 (also_plans mark (record q { reply = replies.Undone }) mark.kept (meaning_of 2)) → ⊥
  pub write_back_says_undone : (q : Plan) → IsWriteBack q
      → IsLawful 0 (also_undoes write_back (record q { reply = replies.Undone }) nothing_kept (meaning_of 0)) → ⊥
  pub receive_back_puts_at_the_tail : (q p : Plan) → IsReceiveFirst q → IsPutAtTail p
      → IsLawful 1 (also_undoes receive_first_back p (reserved_at sizes second_kept 33) (meaning_of 1)) → ⊥
  pub receive_frees_too_early : (q : Plan) → IsReceive q → IsLawful 1 (also_plans receive q all_free (meaning_of 1)) → ⊥
  pub send_back_frees_too_early : (q : Plan) → IsSendBack q
      → IsLawful 1 (also_undoes send_back q all_free (meaning_of 1)) → ⊥
  pub tags_do_a_receive : (q : Plan) → IsLawful 2 (also_plans receive q chains_kept (meaning_of 2)) → ⊥
  pub tags_take_a_receive_back : (q : Plan) → IsReceiveBack q
      → IsLawful 2 (also_undoes receive_back q first_chosen (meaning_of 2)) → ⊥
