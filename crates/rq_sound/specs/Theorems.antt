-- What holds of every sound store, with whatever operations under way.
use Rattle.std.specs.Prelude.{◌≡◌, ℕ, ◌+◌, ◌-◌, ◌/◌, ◌<◌, ◌^◌, ◌||◌, true, false, not, nat_lt, nat_eq, List, [], ◌∷◌, ◌++◌, length, Some}
use Rattle.std.specs.List.{sum_by}
use Rattle.rq_model.specs.declared.txn.Sub.{Sub}
use Rattle.rq_model.specs.declared.txn.Txn.{Txn}
use Rattle.rq_model.specs.declared.record.Deed.{Deed}
use Rattle.rq_model.specs.declared.record.Deed.TheVariants.{UnlinkHead, Close}
use Rattle.rq_model.specs.declared.record.Record.{Record}
use Rattle.rq_model.specs.Commits.{committed_of}
use Rattle.rq_model.specs.History.{Call}
use Rattle.rq_model.specs.Ledger.{ended_in, in_chain, rest_in}
use Rattle.rq_model.specs.Tests as tests
use Rattle.rq_model.specs.Tests.{Passes, bad_tags, cells_in_use, has_closed, log_full, undo_cost}
use Rattle.rq_model.specs.Legal.{start_of}
use Rattle.rq_model.specs.Replay.{Reply}
use Rattle.rq_model.specs.Unended.{unfinished, lost}
use Rattle.rq_model.specs.Vocabulary.{In}
use Rattle.rq_page.specs.Sizes.{Sizes, IsInRange, IsCellAddress, cell_count, sender_count}
use Rattle.rq_page.specs.Slots.Slot.{Free}
use Rattle.rq_views.specs.Claims.{takes_of, takes_placed}
use Rattle.rq_views.specs.Items.{items, layout_of}
use Rattle.rq_views.specs.Legal.{open_deeds, under_way, view}
use Rattle.rq_views.specs.Log.{HasBefores, Write}
use Rattle.rq_views.specs.Plans.{IsPlan}
use Rattle.rq_views.specs.Plans.Turn.{Undid}
use Rattle.rq_views.specs.Stored.{slots_in}
use Rattle.rq_level.specs.declared.writes.SlotWrite.{SlotWrite}
use Rattle.rq_txn.specs.declared.Finished.{Finished}
use Rattle.rq_groups.specs.Ends.{is_free_for}
use Rattle.rq_groups.specs.Waiting.{waits}
use Rattle.rq_groups.specs.Sent.{SentBy}
use Rattle.rq_store.specs.Fitting.{left_by, image_in, AllHoldBase, FitsLog}
use Rattle.rq_store.specs.Opening.{opened}
use Rattle.rq_store.specs.State.{size_of, op_done, job_of, State, ledger_of, open_of}
use Rattle.rq_store.specs.Steps.{took, gave_done}
use Rattle.rq_store.specs.Whole.{IsWhole}
use Rattle.rq_txn.specs.declared.Aim.{Aim}
use Rattle.rq_txn.specs.Rows.{Under, Row, latched_in}
use Rattle.rq_txn.specs.declared.Aim.TheVariants as aims
use Rattle.rq_sound.specs.Counted.{takes_in}
use Rattle.rq_sound.specs.Rows.{own_slot}
use Rattle.rq_sound.specs.Sound.{IsSound}
use Rattle.rq_sound.specs.Starts.{MayDo, MayUndo, with_end}
use Rattle.rq_sound.specs.ModelSteps.{IsModelStep}
use Rattle.rq_sound.specs.Calls.{next_txn, begun, started, stepped, IsNextWrite, finished, undone, IsReady, IsIdle, committed, MayCommit, aborting, aborted, checkpointed, forced, failed, migrated}

-- each call keeps a store sound
pub record CallsKeepSoundness : Type 0 where
  pub begins : (s : State) → IsSound s → IsSound (begun s)
  pub starts : (s : State) (r : Row) (u : Under) (d : Deed) → IsSound s → MayDo s r u d
      → IsSound (started s r u (with_end r.txn d s.ends))
  pub starts_inverse : (s : State) (r : Row) (u : Under) (rest : List Finished) (f : Finished) → IsSound s
      → MayUndo s r u rest f → IsSound (started s r u s.ends)
  pub steps : (s : State) (r : Row) (u : Under) (w : SlotWrite) (images : List (List ℕ)) → IsSound s
      → IsNextWrite s r u w images → IsSound (stepped s r u w images)
  pub finishes : (s : State) (r : Row) (u : Under) (d : Deed) (waiting : List ℕ) → IsSound s
      → IsReady s r u (aims.Doing d) → ((g : ℕ) → waits waiting g ≡ waits s.waiting g - took g d)
      → IsSound (finished s r u d waiting)
  pub undoes : (s : State) (r : Row) (u : Under) (lsn : ℕ) (d : Deed) (waiting : List ℕ) → IsSound s
      → IsReady s r u (aims.Undoing lsn d) → ((g : ℕ) → waits waiting g ≡ waits s.waiting g + took g d)
      → IsSound (undone s r u lsn d waiting)
  pub commits : (s : State) (r : Row) (cells : ℕ) (waiting : List ℕ) (sent : SentBy) → IsSound s
      → MayCommit s r cells waiting sent → IsSound (committed s r cells waiting sent)
  pub starts_abort : (s : State) (r : Row) → IsSound s → IsIdle s r → IsSound (aborting s r)
  pub ends_abort : (s : State) (r : Row) → IsSound s → IsIdle s r → r.finished ≡ [] → IsSound (aborted s r)
  pub forces : (s : State) → IsSound s → IsSound (forced s)
  pub fails : (s : State) → IsSound s → IsSound (failed s)

-- The newest deed of a transaction with nothing under way can be undone over the slots as they are, whatever others do
-- meanwhile, once nobody has latched the page of its own slot: a message that was taken finds a free cell
-- (`put_back_finds`), and a close finds its group closed still (`reopen_finds`). A message that is sent finds a cell
-- where the store is not full, and so does one that a lost transaction took.
pub record InversesCanBePlanned : Type 0 where
  pub planned : (s : State) (r : Row) (rest : List Finished) (f : Finished) → IsSound s → IsIdle s r
      → r.finished ≡ rest ++ f ∷ [] → latched_in s.rows (own_slot s.sizes f.deed / 16) ≡ false
      → (ws : List Write) × IsPlan (layout_of s.sizes) (Undid f.deed) ws
      × HasBefores ws (left_by s.sizes s.records).slots
  pub put_back_finds : (s : State) (r : Row) (rest : List Finished) (f : Finished) → IsSound s → IsIdle s r
      → r.finished ≡ rest ++ f ∷ [] → takes_of f.deed ≡ 1
      → (a : ℕ) × IsCellAddress s.sizes a × ((left_by s.sizes s.records).slots a ≡ Free)
  pub reopen_finds : (s : State) (r : Row) (rest : List Finished) (f : Finished) (g : ℕ) → IsSound s → IsIdle s r
      → r.finished ≡ rest ++ f ∷ [] → f.deed ≡ Close g → (view (items s.sizes s.records) g).closed ≡ true
  pub send_finds : (s : State) → IsSound s → s.cells_in_use < cell_count s.sizes
      → (a : ℕ) × IsCellAddress s.sizes a × ((left_by s.sizes s.records).slots a ≡ Free)
  pub lost_finds : (z : Sizes) (log : List Record) (t : Txn) → IsWhole z log
      → ((o : Sub) → under_way o (items z log) ≡ false) → 0 < sum_by takes_placed (open_deeds t (items z log))
      → (a : ℕ) × IsCellAddress z a × ((left_by z log).slots a ≡ Free)

-- What the model's tests ask, by what the store keeps: whether an end is free, how many cells are in use, whether a
-- group is closed for who may send, what waits for who may receive, and how long a chain is.
pub record TestsAreAnswered : Type 0 where
  pub free_to_send : (s : State) (t : Txn) (g : ℕ) → IsSound s
      → tests.free_to_send t g (ledger_of s).open_ones ≡ is_free_for t g s.ends.sending
  pub free_to_receive : (s : State) (t : Txn) (g : ℕ) → IsSound s
      → tests.free_to_receive t g (ledger_of s).open_ones ≡ is_free_for t g s.ends.receiving
  pub cells : (s : State) → IsSound s → cells_in_use (size_of s.sizes) (ledger_of s) ≡ s.cells_in_use
  pub closed : (s : State) (g : ℕ) (r : Row) → IsSound s → In r s.rows → is_free_for r.txn g s.ends.sending ≡ true
      → (view (items s.sizes s.records) g).closed
      ≡ (ended_in (committed_of s.records) g || has_closed g (Some (open_of s.ends r)))
  pub waiting : (s : State) (g : ℕ) (r : Row) → IsSound s → g < sender_count s.sizes → In r s.rows
      → is_free_for r.txn g s.ends.receiving ≡ true
      → waits s.waiting g + takes_in g r ≡ length (rest_in (committed_of s.records) g)
  pub chain : (s : State) (g : ℕ) → IsSound s
      → in_chain (ledger_of s) g ≡ length (view (items s.sizes s.records) g).messages

-- Aborts are steps of the model: their start, the start of an inverse, each of its writes, that these are all made, its
-- end, that nothing is left to undo, and the abort's end. So are a begin and a force. Where the log has no room the
-- model refuses them, so room is asked for here.
pub record AbortsAreSteps : Type 0 where
  pub begins : (s : State) → IsSound s → s.failed ≡ false
      → (not (nat_lt (length s.rows) 4096) || nat_eq s.begins (2 ^ 64 - 1)) ≡ false
      → IsModelStep s Call.Begin (Reply.Gave_txn (next_txn s)) (begun s)
  pub starts_abort : (s : State) (r : Row) → IsSound s → s.failed ≡ false → IsIdle s r → r.aborting ≡ false
      → IsModelStep s (Call.Start_abort r.txn) Reply.Gave_aborting (aborting s r)
  pub starts_inverse : (s : State) (r : Row) (u : Under) (rest : List Finished) (f : Finished) → IsSound s
      → s.failed ≡ false → MayUndo s r u rest f
      → log_full (ledger_of s) (undo_cost (Some (op_done f))) ≡ false
      → IsModelStep s (Call.Undo_next r.txn) (Reply.Gave_sub r.txn (r.number + 1)) (started s r u s.ends)
  pub steps : (s : State) (r : Row) (u : Under) (w : SlotWrite) (images : List (List ℕ)) → IsSound s
      → s.failed ≡ false → IsNextWrite s r u w images
      → IsModelStep s (Call.Step r.txn u.number) (Reply.Gave_lsn (length s.records + 1)) (stepped s r u w images)
  pub all_made : (s : State) (r : Row) (u : Under) (aim : Aim) → IsSound s → s.failed ≡ false → IsReady s r u aim
      → IsModelStep s (Call.Step r.txn u.number) Reply.Gave_ready s
  pub undoes : (s : State) (r : Row) (u : Under) (lsn : ℕ) (d : Deed) (waiting : List ℕ) → IsSound s
      → s.failed ≡ false → IsReady s r u (aims.Undoing lsn d)
      → ((g : ℕ) → waits waiting g ≡ waits s.waiting g + took g d)
      → IsModelStep s (Call.Finish r.txn u.number) Reply.Gave_undone (undone s r u lsn d waiting)
  pub none_left : (s : State) (r : Row) → IsSound s → s.failed ≡ false → IsIdle s r → r.aborting ≡ true
      → r.finished ≡ [] → IsModelStep s (Call.Undo_next r.txn) Reply.Gave_nothing_left s
  pub ends_abort : (s : State) (r : Row) → IsSound s → s.failed ≡ false → IsIdle s r → r.aborting ≡ true
      → r.finished ≡ [] → log_full (ledger_of s) 1 ≡ false
      → IsModelStep s (Call.End_abort r.txn) Reply.Gave_aborted (aborted s r)
  pub forces : (s : State) → IsSound s → s.failed ≡ false
      → IsModelStep s Call.Force (Reply.Gave_forced (length s.records)) (forced s)

-- So is a checkpoint, where no transaction is open.
abbrev pub CheckpointsAreSteps : Type 0
CheckpointsAreSteps = (s : State) → IsSound s → s.rows ≡ [] → s.failed ≡ false → log_full (ledger_of s) 1 ≡ false
    → IsModelStep s Call.Checkpoint (Reply.Gave_checkpoint (length s.records + 1)) (checkpointed s)

-- So is a migration, where besides so many tag pages may be added.
abbrev pub MigrationsAreSteps : Type 0
MigrationsAreSteps = (s : State) (pages : ℕ) → IsSound s → s.rows ≡ [] → s.failed ≡ false
    → log_full (ledger_of s) 1 ≡ false → bad_tags (size_of s.sizes) pages ≡ false
    → IsModelStep s (Call.Migrate pages) (Reply.Gave_migrated (length s.records + 1)) (migrated s)

-- So are deeds and commits: the start of a send, a receive, a close or a mark that passes the model's tests, a receive
-- from whichever sender included; that no message waits; its end; and a commit.
pub record DeedsAreSteps : Type 0 where
  pub starts : (s : State) (r : Row) (u : Under) (d : Deed) → IsSound s → MayDo s r u d
      → Passes (size_of s.sizes) (ledger_of s) (start_of r.txn (job_of d))
      → IsModelStep s (start_of r.txn (job_of d)) (Reply.Gave_sub r.txn (r.number + 1))
      (started s r u (with_end r.txn d s.ends))
  pub receives_any : (s : State) (r : Row) (u : Under) (g sequence tag : ℕ) (body : List ℕ) → IsSound s
      → MayDo s r u (UnlinkHead g sequence tag body)
      → Passes (size_of s.sizes) (ledger_of s) (Call.Start_receive_from r.txn g)
      → IsModelStep s (Call.Start_receive r.txn) (Reply.Gave_sub r.txn (r.number + 1))
      (started s r u (with_end r.txn (UnlinkHead g sequence tag body) s.ends))
  pub none_from : (s : State) (r : Row) (g : ℕ) → IsSound s → IsIdle s r → g < sender_count s.sizes
      → is_free_for r.txn g s.ends.receiving ≡ true → waits s.waiting g ≡ 0
      → Passes (size_of s.sizes) (ledger_of s) (Call.Start_receive_from r.txn g)
      → IsModelStep s (Call.Start_receive_from r.txn g) Reply.Gave_none s
  pub none : (s : State) (r : Row) → IsSound s → IsIdle s r
      → ((g : ℕ) → g < sender_count s.sizes → is_free_for r.txn g s.ends.receiving ≡ true → waits s.waiting g ≡ 0)
      → Passes (size_of s.sizes) (ledger_of s) (Call.Start_receive r.txn)
      → IsModelStep s (Call.Start_receive r.txn) Reply.Gave_none s
  pub finishes : (s : State) (r : Row) (u : Under) (d : Deed) (waiting : List ℕ) → IsSound s → s.failed ≡ false
      → IsReady s r u (aims.Doing d) → ((g : ℕ) → waits waiting g ≡ waits s.waiting g - took g d)
      → IsModelStep s (Call.Finish r.txn u.number) (gave_done d) (finished s r u d waiting)
  pub commits : (s : State) (r : Row) (cells : ℕ) (waiting : List ℕ) (sent : SentBy) → IsSound s → s.failed ≡ false
      → MayCommit s r cells waiting sent → log_full (ledger_of s) 1 ≡ false
      → IsModelStep s (Call.Commit r.txn) (Reply.Gave_commit (record { txn = r.txn; lsn = length s.records + 1 }))
      (committed s r cells waiting sent)

-- so a store that opens over a log in which everything has ended is sound
abbrev pub OpenedIsSound : Type 0
OpenedIsSound = (z : Sizes) (images : List (List ℕ)) (log : List Record) → IsInRange z → IsWhole z log
    → unfinished log ≡ [] → lost log ≡ [] → ((a : ℕ) → slots_in z images a ≡ (left_by z log).slots a)
    → FitsLog z (image_in images) log → AllHoldBase z (image_in images) log → IsSound (opened z images log)
