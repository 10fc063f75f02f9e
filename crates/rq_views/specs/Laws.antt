-- What holds of every legal log, by name; and worked logs.
use Rattle.rq_views.specs.Inverses.{InversesLeaveTheOthers}
use Rattle.rq_views.specs.StoreTheorems.{ChainsAreBounded, IdleSlotsAreWhole, IdleSlotsShowTheTags, NumbersHaveNoGaps, QuietSlotsShowTheTags, SettledCellsAreCommitted, SlotsStandWhereTheyMay, TakenMessagesHaveCells, UsedCellsAreMessages}
use Rattle.rq_views.specs.Theorems.{CommittedIsContent, IdleSlotsShowTheFold, PlansChangeOneChain, QuietSlotsShowTheFold, RulesKeepGroups, SettledFoldIsCommitted, ViewsAreHolders}
use Rattle.rq_views.specs.Worked.{RefusedRecords, WorkedLogs, WorkedMarks}

pub record Laws : Type 0 where
  -- The writes of one operation do to the chain of its sender what the operation does, and leave each other chain as
  -- it was. Those of a mark leave every chain.
  pub plans_change_one_chain : PlansChangeOneChain
  -- Over every legal log, with any operations interleaved at single slot writes: the slots that whole operations
  -- alone have written show each sender's chain as its operations say.
  pub quiet_slots_show_the_fold : QuietSlotsShowTheFold
  -- The slots as they are show it too, of each sender over whose slots no operation under way has written, as none
  -- has of a sender that no operation is on.
  pub idle_slots_show_the_fold : IdleSlotsShowTheFold
  -- Over every legal log of a store, the slots that whole operations alone have written show each client's marks: how
  -- many there are, and the tag of the last.
  pub quiet_slots_show_the_tags : QuietSlotsShowTheTags
  -- The slots as they are show them too, of each client whose slot no operation under way has written.
  pub idle_slots_show_the_tags : IdleSlotsShowTheTags
  -- Where every transaction has ended, each chain is what committed transactions leave.
  pub settled_fold_is_committed : SettledFoldIsCommitted
  -- What the chains of committed transactions hold is the content of the log.
  pub committed_is_content : CommittedIsContent
  -- Of a log of a store only cells hold messages, and only a sender's directory slot tells of it.
  pub slots_stand_where_they_may : SlotsStandWhereTheyMay
  -- Of every legal log of a store, the cells that whole operations use are as many as the messages of all chains.
  pub used_cells_are_messages : UsedCellsAreMessages
  -- Where no operation is under way, the slots are those that whole operations have written.
  pub idle_slots_are_whole : IdleSlotsAreWhole
  -- No chain has held more messages, taken or not, than the log has records.
  pub chains_are_bounded : ChainsAreBounded
  -- Where every transaction that did something has ended, as many cells are used as messages are committed and not
  -- taken.
  pub settled_cells_are_committed : SettledCellsAreCommitted
  -- Over every legal log with room, each message that a transaction took and may put back has a cell for it.
  pub taken_messages_have_cells : TakenMessagesHaveCells
  -- Of every legal log, the operations of a transaction have the numbers from 1 to its greatest, each.
  pub numbers_have_no_gaps : NumbersHaveNoGaps
  -- An operation is done, and then others on the other end of its chain that could be done without it, with the same
  -- replies: its inverse gives the view that these alone would have given.
  pub inverses_leave_the_others : InversesLeaveTheOthers
  -- Worked logs, with what they come to: two operations interleaved, and an abort that a crash stops and a restart
  -- ends.
  pub worked_logs : WorkedLogs
  -- What the slots of clients show after a mark, after another client's, and after the first is taken back.
  pub worked_marks : WorkedMarks
  -- What may not come next, after logs that keep all rules: a record for each rule that a log keeps besides being
  -- legal.
  pub refused_records : RefusedRecords
  -- Where only the holder of an end uses it, as the rules of receives and groups say of the records, and each deed
  -- tells what it was done over, the same rules hold of the views.
  pub rules_keep_groups : RulesKeepGroups
  -- Over every legal log that keeps the rules, one transaction at most has deeds at each end of a sender that are
  -- neither committed nor undone, and the sender's chain, once whole operations are counted, is what is committed,
  -- without what the one at the receiving end took, and then what the one at the sending end sent. Of a transaction
  -- that undid all that it did at an end, and holds it on, nothing is said.
  pub views_are_holders : ViewsAreHolders
