-- An open store as plain lists, and the ledger that it comes to.
use Rattle.std.specs.Prelude.{ℕ, ◌+◌, ◌-◌, Bool, true, false, List, Option, Some, None, map, length}
use Rattle.std.specs.List.{sum_by}
use Rattle.rq_model.specs.declared.record.Deed.{Deed}
use Rattle.rq_model.specs.declared.record.Deed.TheVariants.{Append, UnlinkHead, Close, Mark}
use Rattle.rq_model.specs.declared.record.Record.{Record}
use Rattle.rq_model.specs.Vocabulary.{Op}
use Rattle.rq_model.specs.History.{Job}
use Rattle.rq_model.specs.History.Job.{Sending, Taking, Ending, Marking}
use Rattle.rq_model.specs.Ledger.{Open, Ledger, Phase, kept_in}
use Rattle.rq_model.specs.Ledger.Phase.{Running, Stopped}
use Rattle.rq_model.specs.Tests.{Size}
use Rattle.rq_model.specs.Content.{said}
use Rattle.rq_model.specs.Commits.{op_of, committed_of}
use Rattle.rq_page.specs.Sizes.{Sizes, sender_count, cell_count, client_count}
use Rattle.rq_txn.specs.declared.Finished.{Finished}
use Rattle.rq_txn.specs.declared.Aim.{Aim}
use Rattle.rq_txn.specs.declared.Aim.TheVariants.{Doing, Undoing}
use Rattle.rq_txn.specs.Rows.{Row, Under}
use Rattle.rq_groups.specs.Ends.{HeldEnds, held_by}
use Rattle.rq_groups.specs.Sent.{SentBy}

-- The transactions that have not ended and the ends that they hold, the pages' images, and the records of the log, the
-- newest first.
pub record State : Type 0 where
  pub sizes : Sizes
  pub rows : List Row
  pub ends : HeldEnds
  pub images : List (List ℕ)
  pub records : List Record
  pub forced : ℕ
  pub failed : Bool
  pub incarnation : ℕ
  pub begins : ℕ
  pub cells_in_use : ℕ
  -- by sender, how many messages wait: they are committed, and nobody has taken them
  pub waiting : List ℕ
  -- by sender, how many messages are committed, and the last one's tag; behind the senders the same of each client's marks
  pub sent : SentBy

abbrev pub size_of : Sizes → Size
size_of z = record { senders = sender_count z; cells = cell_count z; clients = client_count z }

-- what a finished operation did
abbrev pub op_done : Finished → Op
op_done f = op_of (said f.deed)

abbrev pub job_of : Deed → Job
job_of (Append sender sequence tag previous body) = Sending (record { sender = sender; tag = tag; body = body })
job_of (UnlinkHead sender sequence tag body) = Taking sender
job_of (Close sender) = Ending sender
job_of (Mark client tag previous) = Marking client tag

abbrev pub job_of_aim : Aim → Job
job_of_aim (Doing d) = job_of d
job_of_aim (Undoing lsn d) = Job.Undoing

abbrev pub job_under : Option Under → Option Job
job_under None = None
job_under (Some u) = Some (job_of_aim u.aim)

-- how many writes are not made
abbrev pub left_under : Option Under → ℕ
left_under None = 0
left_under (Some u) = length u.writes - u.made

abbrev pub open_of : HeldEnds → Row → Open
open_of ends r = record {
  txn = r.txn;
  aborting = r.aborting;
  ops = map op_done r.finished;
  sending = held_by r.txn ends.sending;
  receiving = held_by r.txn ends.receiving;
  number = r.number;
  under = job_under r.under;
  left = left_under r.under;
}

abbrev pub open_ones_of : HeldEnds → List Row → List Open
open_ones_of ends rows = map (open_of ends) rows

-- an open store runs, or a device of it has failed
abbrev pub phase_of : Bool → Phase
phase_of false = Running
phase_of true = Stopped

abbrev pub ledger_of : State → Ledger
ledger_of s = record {
  committed = committed_of s.records;
  open_ones = open_ones_of s.ends s.rows;
  phase = phase_of s.failed;
  incarnation = s.incarnation;
  begins = s.begins;
  records = length s.records;
  forced = s.forced;
  durable = kept_in s.forced (committed_of s.records);
}

-- the records that an operation under way has yet to log, and those of all
abbrev pub owed_under : Option Under → ℕ
owed_under None = 0
owed_under (Some u) = length u.writes - u.made + 1

abbrev pub owed_one : Row → ℕ
owed_one r = owed_under r.under

abbrev pub owed_by : List Row → ℕ
owed_by rows = sum_by owed_one rows
