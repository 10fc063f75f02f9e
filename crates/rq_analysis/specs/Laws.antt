-- What undoing makes of a log and of a store, and what records may follow, by name.
use Rattle.rq_analysis.specs.Choices.{TurnsAreChosen}
use Rattle.rq_analysis.specs.Dues.{DuesAreNext}
use Rattle.rq_analysis.specs.Numbers.{NumbersAreKept}
use Rattle.rq_analysis.specs.Recovered.{RecoveredLogsAreWhole}
use Rattle.rq_analysis.specs.AbortTheorems.{AbortedLogsAreSettled, AbortsEnd, AbortsHaveTurns, AbortsKeepLogsWhole, AbortsMayStop, InversesAreFound, LostStoresAreSound, LostStoresOpen, SettledStoresHaveEnded, StopsAreRepeated}
use Rattle.rq_analysis.specs.Walk.{AbortsComeToAnEnd, AbortsGoOn, DuesCanBeUndone, LogsOnTheWayAreWhole}
use Rattle.rq_analysis.specs.PageUndoTheorems.{UndosKeepLogsWhole, UndoneLogsAreWhole, UnendedAreCounted}
use Rattle.rq_analysis.specs.RuleTheorems.{RulesTell, WholeLogsFollow}

pub record Laws : Type 0 where
  -- Each move of an abort leaves a sound store over a whole log, which has at most a record more, no Commit and no
  -- OpEnd.
  pub aborts_keep_logs_whole : AbortsKeepLogsWhole
  -- The log of a sound store in which every transaction has ended has nothing unfinished and nobody lost.
  pub settled_stores_have_ended : SettledStoresHaveEnded
  -- The newest deed of a transaction with nothing under way can be undone, and meets no latch where nothing is under
  -- way.
  pub inverses_are_found : InversesAreFound
  -- Once every transaction is aborted the log has nothing unfinished, nobody lost, and the commits that it had.
  pub aborted_logs_are_settled : AbortedLogsAreSettled
  -- The store that a crash leaves, with the transactions that it stopped as rows to be undone, is sound.
  pub lost_stores_are_sound : LostStoresAreSound
  -- Each move of an abort leaves less to do.
  pub aborts_end : AbortsEnd
  -- Once all lost transactions are aborted the log has the content that it had, and the store that opens over it is
  -- sound.
  pub lost_stores_open : LostStoresOpen
  -- A crash may stop the aborts anywhere: what it leaves is a whole log with the content that it had, from which a
  -- restart goes on.
  pub aborts_may_stop : AbortsMayStop
  -- Where transactions are left to be undone, one is next, and what is done to it may be done.
  pub aborts_have_turns : AbortsHaveTurns
  -- A restart over what a crash left of the aborts goes on: the store with lost transactions is there again, with the
  -- content that it had.
  pub stops_are_repeated : StopsAreRepeated
  -- What is to be taken back next stands first on a stack that the records of the log make.
  pub dues_are_next : DuesAreNext
  -- The transactions that are lost in the log, with that stack, tell which of them is next, and what is done to it.
  pub turns_are_chosen : TurnsAreChosen
  -- The number of a transaction's next operation is told by a list that the records of the log make, in which no
  -- transaction stands twice.
  pub numbers_are_kept : NumbersAreKept
  -- A program whose pages and log are those of a store on its way makes the record, and the write, that are next, and
  -- is on its way then.
  pub aborts_go_on : AbortsGoOn
  -- It sets out where history is repeated, and comes to an end, at which the log is recovered.
  pub aborts_come_to_an_end : AbortsComeToAnEnd
  -- What is due first tells a deed of a sender or client that the store has, and may be undone in a sound store with
  -- these pages.
  pub dues_can_be_undone : DuesCanBeUndone
  -- At each moment its log is whole, and stays so by the record that is next.
  pub logs_on_the_way_are_whole : LogsOnTheWayAreWhole
  -- A log that a restart recovers is whole, with the content that it had, and nothing is unfinished or lost in it;
  -- wherever a crash stops that, a restart goes on.
  pub recovered_logs_are_whole : RecoveredLogsAreWhole
  -- Each record by which an operation without an end is undone leaves a whole log, with less to do.
  pub undos_keep_logs_whole : UndosKeepLogsWhole
  -- Once all such operations are undone the log is whole, with the content that it had, and its slots are those that
  -- whole operations had written.
  pub undone_logs_are_whole : UndoneLogsAreWhole
  -- What is noted of a log as it is gone through, also as it is read, is what has no end in it.
  pub unended_are_counted : UnendedAreCounted
  -- The records of a whole log follow the rules: no sound store is refused for them.
  pub whole_logs_follow : WholeLogsFollow
  -- Where each record follows the rules, PageUndos and CompEnds name records that are there, each at most once, and the
  -- numbers of a transaction's operations have no gaps.
  pub rules_tell : RulesTell
