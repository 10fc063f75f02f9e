-- What one call makes of an open store: of its lists, of its devices, and of what a crash leaves of them.
use Rattle.std.specs.Prelude.{◌≡◌, ◌↔◌, ℕ, true, false, Bool, Option, None, Some, Result, Ok, Err, List, length, slice_set}
use Rattle.rq_model.specs.declared.refusal.Refusal.{Refusal}
use Rattle.rq_model.specs.declared.refusal.Refusal.TheVariants as why
use Rattle.rq_model.specs.declared.txn.Sub.{Sub}
use Rattle.rq_model.specs.declared.txn.Txn.{Txn}
use Rattle.rq_model.specs.History.{Call}
use Rattle.rq_model.specs.History.Call.{Start_close, Start_mark, Start_receive, Start_receive_from, Undo_next}
use Rattle.rq_disk.specs.declared.device.LogDevice as log_device
use Rattle.rq_disk.specs.declared.device.PageDevice as page_device
use Rattle.rq_log.specs.Crash.{LeavesOnly}
use Rattle.rq_log.specs.Spelled.{IsBeginning}
use Rattle.rq_page.specs.Pages.{lsn_of}
use Rattle.rq_pool.specs.Pooled.{image_at}
use Rattle.rq_pool.specs.Writing.{changed_after}
use Rattle.rq_store.specs.State.{State}
use Rattle.rq_sound.specs.Latching.{IsLatched}
use Rattle.rq_sound.specs.Sound.{IsSound}
use Rattle.rq_sound.specs.ModelSteps.{IsModelStep}
use Rattle.rq_model.specs.declared.record.Record.{Record}
use Rattle.rq_engine.specs.Earlier.{on, over, unknown, IsEarlier}
use Rattle.rq_engine.specs.declared.event.Event.{Event}
use Rattle.rq_engine.specs.declared.event.Event.TheVariants as event
use Rattle.rq_engine.specs.declared.event.Progress.{Progress}
use Rattle.rq_engine.specs.declared.event.Progress.TheVariants as progress
use Rattle.rq_engine.specs.declared.event.Reply.{Reply}
use Rattle.rq_engine.specs.declared.event.Reply.TheVariants as reply
use Rattle.rq_engine.specs.Aborts.{IsUndoBegun, IsUndoOf, UndoSays}
use Rattle.rq_engine.specs.Answers.{IsUnderWay}
use Rattle.rq_engine.specs.Lists.{IsCloseBegun, IsMarkBegun, IsSendBegun, IsTakeBegun, ListsSay, TakeFromSays, TakeSays}
use Rattle.rq_engine.specs.Sends.{TakesLowest}
use Rattle.rq_engine.specs.Opened.{OpenStore, AreHonest}
use Rattle.rq_engine.specs.KeptUp.{AreButRead, ChangesStay, OnRead, RefusedButRead}
use Rattle.rq_engine.specs.Checkpoint.{HasMadeOneRecord, IsBeginningOrBase, IsCutOrBased, KeepsFitOrBased, NotCheckpointed}
use Rattle.rq_engine.specs.Migration.{HasMigrated, IsCutOrGrown, KeepsOrGrows, MayGetTags, NotMigrated}
use Rattle.rq_engine.specs.Crash.{AreFit, RunsThroughCuts}
use Rattle.rq_engine.specs.Devices.{Path}
use Rattle.rq_engine.specs.Says.{RefusedForCause, LogSays, PagesSay, WritesSay, call_of, gave, written_by}
use Rattle.rq_level.specs.declared.writes.SlotWrite.{SlotWrite}
use Rattle.rq_store.specs.Plans.{IsSendPlan, IsTakePlan, WaitsFor}
use Rattle.rq_sound.specs.Groups.{slots_now}
use Rattle.rq_engine.specs.Closes.{IsClosePlan}
use Rattle.rq_engine.specs.Marks.{IsMarkPlan}
use Rattle.rq_engine.specs.Fixing.{AreWritesOf, HadFrames, RefusedForFrames}
use Rattle.rq_model.specs.Causes.{reads_pages, starts_one, writes_out}

-- what a device that fails in a write leaves of the store: it is stopped; no other call meets such a failure
abbrev pub WriteFails : {P L : Type 0} → Bool → OpenStore P L → OpenStore P L → Type 0
WriteFails true old new = new.state ≡ record old.state { failed = true }
WriteFails false old new = new ≡ old

-- what a refusal leaves of the store, of a call that reads no page
abbrev pub RefusedStill : {P L : Type 0} → Bool → OpenStore P L → Refusal → OpenStore P L → Type 0
RefusedStill writes old why.DiskWrite new = WriteFails writes old new
RefusedStill writes old r new = new ≡ old

abbrev pub RefusedBy : {P L : Type 0} → (reads writes : Bool) → Call → OpenStore P L → Refusal → OpenStore P L → Type 0
RefusedBy true writes c old r new = RefusedButRead c old r new
RefusedBy false writes c old r new = RefusedStill writes old r new

-- What a refusal leaves of the store. All is as it was, the devices too, but where a device failed in a write, which stops the
-- store, and where a start or a content was refused behind its tests (`RefusedButRead`). Of devices other clauses tell there.
abbrev pub RefusalLeaves : {P L : Type 0} → OpenStore P L → Event → Reply → OpenStore P L → Type 0
RefusalLeaves old e (reply.Refused r) new =
    RefusedBy (reads_pages (call_of e)) (writes_out (call_of e)) (call_of e) old r new
RefusalLeaves old e _ new = Unit {0}

-- What a call leaves of the lists that may read pages, whatever its device gave: what has begun, or that nothing is there to
-- begin with. What begins is planned from what was read, so of the plan an honest device alone tells (`lists`).
abbrev pub StartBegan : {P L : Type 0} → (Begins : Sub → State → Type 0) → Reply → OpenStore P L → Type 0
StartBegan Begins (reply.Started sub) new = Begins sub new.state
StartBegan Begins (reply.Refused r) new = Unit {0}
StartBegan Begins _ new = ⊥

abbrev pub TakeBegan : {P L : Type 0} → OpenStore P L → (Begins : Sub → State → Type 0) → (Lacks : State → Type 0) → Reply
    → OpenStore P L → Type 0
TakeBegan old Begins Lacks (reply.Started sub) new = Begins sub new.state
TakeBegan old Begins Lacks reply.NoMessage new = (new ≡ old) × Lacks new.state
TakeBegan old Begins Lacks (reply.Refused r) new = Unit {0}
TakeBegan old Begins Lacks _ new = ⊥

abbrev pub UndoBegan : {P L : Type 0} → OpenStore P L → Txn → Reply → OpenStore P L → Type 0
UndoBegan old t (reply.Started sub) new = IsUndoBegun old.state t sub new.state
UndoBegan old t reply.NothingLeft new = (new ≡ old) × UndoSays old.state t None new.state
UndoBegan old t (reply.Refused r) new = Unit {0}
UndoBegan old t _ new = ⊥

abbrev pub ContentShown : {P L : Type 0} → OpenStore P L → Reply → OpenStore P L → Type 0
ContentShown old (reply.Content groups) new = AreButRead old.state new.state
ContentShown old (reply.Refused r) new = Unit {0}
ContentShown old _ new = ⊥

abbrev pub BegunSay : {P L : Type 0} → OpenStore P L → Event → Reply → OpenStore P L → Type 0
BegunSay old (event.StartSend txn sender tag body) r new = StartBegan (IsSendBegun old.state txn sender tag body.items) r new
BegunSay old (event.StartReceive txn) r new =
    TakeBegan old (λ sub s. (sender : ℕ) × IsTakeBegun old.state txn sender (Start_receive txn) sub s) (TakeSays old.state txn None) r new
BegunSay old (event.StartReceiveFrom txn sender) r new =
    TakeBegan old (IsTakeBegun old.state txn sender (Start_receive_from txn sender)) (TakeFromSays old.state txn sender None) r new
BegunSay old (event.StartClose txn sender) r new = StartBegan (IsCloseBegun old.state txn sender) r new
BegunSay old (event.StartMark txn client tag) r new = StartBegan (IsMarkBegun old.state txn client tag) r new
BegunSay old (event.UndoNext txn) r new = UndoBegan old txn r new
BegunSay old event.Content r new = ContentShown old r new
BegunSay old _ r new = Unit {0}

-- one page has a change that was not written: that of the record with this LSN
abbrev pub IsStamped : {P L : Type 0} → OpenStore P L → ℕ → OpenStore P L → Type 0
IsStamped old lsn new = (page : ℕ) × (lsn_of (image_at new.state.images page) ≡ lsn)
    × (new.changed ≡ slice_set old.changed page true)

abbrev pub StepChanges : {P L : Type 0} → OpenStore P L → Progress → OpenStore P L → Type 0
StepChanges old (progress.Done lsn) new = IsStamped old lsn new
StepChanges old progress.Ready new = new.changed ≡ old.changed

abbrev pub SteppedSay : {P L : Type 0} → OpenStore P L → Reply → OpenStore P L → Type 0
SteppedSay old (reply.Stepped p) new = StepChanges old p new
SteppedSay old _ new = new.changed ≡ old.changed

-- Which pages count as changed then. A step adds the page that it writes, and a page that is written out is taken off. What a
-- checkpoint takes off is said with that. Behind a migration it is not said.
abbrev pub ChangesSay : {P L : Type 0} → OpenStore P L → Event → Reply → OpenStore P L → Type 0
ChangesSay old (event.Step sub) r new = SteppedSay old r new
ChangesSay old (event.WritePage page) r new = new.changed ≡ changed_after old.changed page (written_by r)
ChangesSay old event.Checkpoint r new = Unit {0}
ChangesSay old (event.Migrate pages) r new = Unit {0}
ChangesSay old e r new = ChangesStay (starts_one (call_of e)) old new

-- the operation that a send started is under way, and takes the lowest free cell on a page that nobody has latched
abbrev pub StartSays : {P L : Type 0} → OpenStore P L → Event → Reply → OpenStore P L → Type 0
StartSays old (event.StartSend txn sender tag body) (reply.Started sub) new =
    IsUnderWay new.state sub (λ r u. TakesLowest old.state u.writes)
StartSays old _ _ new = Unit {0}

-- a refusal as latched has this cause
abbrev pub OnLatched : Type 0 → Refusal → Type 0
OnLatched P why.Latched = P
OnLatched P _ = Unit {0}

-- the start is refused as latched where it is, and what it starts is not
abbrev pub LatchedReply : State → Call → Reply → Type 0
LatchedReply s c (reply.Refused r) = OnLatched (IsLatched s c) r
LatchedReply s c (reply.Started sub) = IsLatched s c → ⊥
LatchedReply s c _ = Unit {0}

abbrev pub StartsUnlatched : {X : Type 0} → State → Call → Result X Refusal → Type 0
StartsUnlatched s c (Ok x) = IsLatched s c → ⊥
StartsUnlatched s c (Err r) = OnLatched (IsLatched s c) r

abbrev pub TakesUnlatched : State → Call → Result (Option Sub) Refusal → Type 0
TakesUnlatched s c (Ok None) = Unit {0}
TakesUnlatched s c (Ok (Some sub)) = IsLatched s c → ⊥
TakesUnlatched s c (Err r) = OnLatched (IsLatched s c) r

-- A start is refused as latched only where others' latches stand in the way of whatever it may start. That needs a page that
-- another has latched, or a cell of which none is free outside those. Nothing is started there. Want of memory may come in the
-- refusal's place. Which pages a close and a mark need is told by no page, so it is said of any device.
abbrev pub LatchedSay : (honest : Type 0) → State → Event → Reply → Type 0
LatchedSay honest s (event.StartSend txn sender tag body) r =
    honest → LatchedReply s (call_of (event.StartSend txn sender tag body)) r
LatchedSay honest s (event.StartReceive txn) r = honest → LatchedReply s (Start_receive txn) r
LatchedSay honest s (event.StartReceiveFrom txn sender) r = honest → LatchedReply s (Start_receive_from txn sender) r
LatchedSay honest s (event.StartClose txn sender) r = LatchedReply s (Start_close txn sender) r
LatchedSay honest s (event.StartMark txn client tag) r = LatchedReply s (Start_mark txn client tag) r
LatchedSay honest s (event.UndoNext txn) r = honest → LatchedReply s (Undo_next txn) r
LatchedSay honest s _ r = Unit {0}

-- what a reply tells of frames
abbrev pub FramesReply : {P L : Type 0} → (MayBePlanned : List SlotWrite → Type 0) → OpenStore P L → Reply → State → Type 0
FramesReply MayBePlanned old (reply.Started sub) new = HadFrames old sub new
FramesReply MayBePlanned old (reply.Refused r) new = RefusedForFrames MayBePlanned old r
FramesReply MayBePlanned old _ new = Unit {0}

-- A start is refused for frames only where those for the pages of some plan of it cannot be had. So they could be had for what is
-- started. It is refused as a page was not written out only where one of those stands in no frame. Over an honest device the plan
-- is one from the slots as they are, on pages that nobody has latched, and that of a send takes the lowest cell.
abbrev pub FramesSay : {P L : Type 0} → (honest : Type 0) → OpenStore P L → Event → Reply → State → Type 0
FramesSay honest old (event.StartSend txn sender tag body) r new =
    FramesReply (λ ws. honest → AreWritesOf old.state
    (λ u. IsSendPlan old.state.sizes (slots_now old.state) u sender tag body.items × TakesLowest old.state u.writes) ws) old r new
FramesSay honest old (event.StartReceive txn) r new =
    FramesReply (λ ws. honest → AreWritesOf old.state
    (λ u. (sender : ℕ) × WaitsFor old.state txn sender × IsTakePlan old.state.sizes (slots_now old.state) u sender) ws) old r new
FramesSay honest old (event.StartReceiveFrom txn sender) r new =
    FramesReply (λ ws. honest → AreWritesOf old.state (λ u. IsTakePlan old.state.sizes (slots_now old.state) u sender) ws) old r new
FramesSay honest old (event.StartClose txn sender) r new =
    FramesReply (λ ws. honest → AreWritesOf old.state
    (λ u. IsClosePlan old.state.sizes (slots_now old.state) u sender) ws) old r new
FramesSay honest old (event.StartMark txn client tag) r new =
    FramesReply (λ ws. honest → AreWritesOf old.state
    (λ u. IsMarkPlan old.state.sizes (slots_now old.state) u client tag) ws) old r new
FramesSay honest old (event.UndoNext txn) r new =
    FramesReply (λ ws. honest → AreWritesOf old.state (IsUndoOf old.state txn) ws) old r new
FramesSay honest old _ r new = Unit {0}

-- a checkpoint was made, or why not; so of a migration; any other call is none
abbrev pub CheckpointReply : {P L : Type 0} → page_device.Ghosts P → log_device.Ghosts L → OpenStore P L → Reply
    → OpenStore P L → Type 0
CheckpointReply p l old (reply.Checkpointed lsn) new = HasMadeOneRecord p l old new lsn
CheckpointReply p l old (reply.Refused r) new = NotCheckpointed p l old new r
CheckpointReply p l old _ new = ⊥

abbrev pub MigrateReply : {P L : Type 0} → page_device.Ghosts P → log_device.Ghosts L → ℕ → OpenStore P L → Reply
    → OpenStore P L → Type 0
MigrateReply p l n old (reply.Migrated lsn) new = MayGetTags n old.state × HasMigrated p l n old new lsn
MigrateReply p l n old (reply.Refused r) new = NotMigrated p l n old new r
MigrateReply p l n old _ new = ⊥

abbrev pub CheckpointSays : {P L : Type 0} → page_device.Ghosts P → log_device.Ghosts L → OpenStore P L → Event → Reply
    → OpenStore P L → Type 0
CheckpointSays p l old event.Checkpoint r new = CheckpointReply p l old r new
CheckpointSays p l old (event.Migrate pages) r new = MigrateReply p l pages old r new
CheckpointSays p l old _ r new = Unit {0}

-- a checkpoint may fail as it replaces the log, and a migration too
abbrev pub MayHalfReplace : {P L : Type 0} → OpenStore P L → Reply → OpenStore P L → Type 0
MayHalfReplace old (reply.Refused why.DiskWrite) new = Unit {0}
MayHalfReplace old _ new = new.replacing ≡ old.replacing

abbrev pub ReplacingSays : {P L : Type 0} → OpenStore P L → Event → Reply → OpenStore P L → Type 0
ReplacingSays old event.Checkpoint r new = MayHalfReplace old r new
ReplacingSays old (event.Migrate pages) r new = MayHalfReplace old r new
ReplacingSays old _ r new = new.replacing ≡ old.replacing

-- what a crash at any moment of the call leaves of the log
abbrev pub MayLeave : State → Event → List ℕ → Type 0
MayLeave s event.Checkpoint bytes = IsBeginningOrBase s.records s.forced bytes
MayLeave s (event.Migrate pages) bytes = IsBeginningOrBase s.records s.forced bytes
MayLeave s _ bytes = IsBeginning s.records s.forced bytes

-- whose pages fit after the call: a store's that no checkpoint and no migration stopped
abbrev pub StaysWhole : {P L : Type 0} → Event → OpenStore P L → Type 0
StaysWhole event.Checkpoint new = new.state.failed ≡ false
StaysWhole (event.Migrate pages) new = new.state.failed ≡ false
StaysWhole _ new = Unit {0}

-- what a crash at any moment of the call leaves of both devices
abbrev pub RunsThrough : {P L : Type 0} → page_device.Ghosts P → log_device.Ghosts L → OpenStore P L → Event
    → OpenStore P L → Type 0
RunsThrough p l old event.Checkpoint new = Path p l (IsCutOrBased old.state) old.pages old.log new.pages new.log
RunsThrough p l old (event.Migrate pages) new = Path p l (IsCutOrGrown pages old.state) old.pages old.log new.pages new.log
RunsThrough p l old _ new = RunsThroughCuts p l old new

abbrev pub KeepsOrBased : {P L : Type 0} → page_device.Ghosts P → log_device.Ghosts L → OpenStore P L → Event
    → OpenStore P L → Type 0
KeepsOrBased p l old event.Checkpoint new = KeepsFitOrBased p l old new
KeepsOrBased p l old (event.Migrate pages) new = KeepsOrGrows p l pages old new
KeepsOrBased p l old _ new = Unit {0}

-- The call was made, and answered so.
pub record Applied {P L : Type 0} (p : page_device.Ghosts P) (l : log_device.Ghosts L) (old : OpenStore P L)
    (e : Event) (r : Reply) (new : OpenStore P L) : Type 0 where
  -- Of a sound store over honest devices, whatever its earlier records were. The entry that event and reply say may come next,
  -- and a refusal has its cause. Latches are judged, too, of most starts where the pages' device is honest.
  pub steps : AreHonest p l new → (earlier : List Record) → IsEarlier earlier old.state → IsSound (on earlier old.state)
      → IsModelStep (on earlier old.state) (call_of e) (gave r) (on earlier new.state)
  pub cause : AreHonest p l new → (earlier : List Record) → IsEarlier earlier old.state → IsSound (on earlier old.state)
      → RefusedForCause (on earlier old.state) e r
  pub latched : (earlier : List Record) → IsEarlier earlier old.state → IsSound (on earlier old.state)
      → LatchedSay (p.honest new.pages) (on earlier old.state) e r
  -- of every store
  pub frames : FramesSay (p.honest new.pages) old e r new.state
  pub frame_count : length new.frames ≡ length old.frames
  pub sizes : new.state.sizes ≡ old.state.sizes
  -- of the records of which nothing is known nothing is known after it
  pub unknown : unknown new.state.records ≡ unknown old.state.records
  pub replacing : ReplacingSays old e r new
  pub failed : (r ≡ reply.Refused why.Failed) ↔ (old.state.failed ≡ true)
  pub refused : RefusalLeaves old e r new
  pub lists : OnRead (reads_pages (call_of e)) (p.honest new.pages) (ListsSay old.state e r new.state)
  pub begun : BegunSay old e r new
  pub changes : ChangesSay old e r new
  pub starts : p.honest new.pages → StartSays old e r new
  pub writes : WritesSay old e r
  pub pages : PagesSay p old new e r
  pub log : LogSays l old new e r
  pub checkpoint : CheckpointSays p l old e r new
  pub honest : AreHonest p l new → AreHonest p l old
  -- of crashes, at every moment since the call began, where no failed call may have replaced the log
  pub any_moment : old.replacing ≡ false → l.honest new.log → LeavesOnly l old.log new.log (MayLeave old.state e)
  pub fit : AreHonest p l new → StaysWhole e new → (earlier : List Record) → IsEarlier earlier old.state → IsSound (on earlier old.state)
      → AreFit p (over earlier old) → AreFit p (over earlier new)
  pub crash : old.replacing ≡ false → AreHonest p l new → (earlier : List Record) → IsEarlier earlier old.state → IsSound (on earlier old.state)
      → AreFit p (over earlier old) → RunsThrough p l (over earlier old) e (over earlier new)
