-- What a refusal leaves of the store.
use Rattle.std.proofs.Common.{◌≡◌, ◌∙◌, Bool, true, false, IfErr, IfOk, Option, Some, None, Result, Ok, Err, length, refl, subst, sym}
use Rattle.std.specs.Prelude.{IfSome, IfNone}
use Rattle.std.proofs.lemmas.Bool.{true≢false}
use Rattle.rq_model.specs.declared.txn.Sub.{Sub}
use Rattle.rq_model.specs.declared.txn.Txn.{Txn}
use Rattle.rq_model.specs.History.{Call}
use Rattle.rq_store.specs.State.{State}
use Rattle.rq_model.specs.declared.refusal.Refusal.{Refusal}
use Rattle.rq_model.specs.declared.refusal.Refusal.TheVariants as why
use Rattle.rq_engine.specs.declared.event.Event.{Event}
use Rattle.rq_engine.specs.declared.event.Reply.{Reply}
use Rattle.rq_engine.specs.declared.event.Reply.TheVariants as reply
use Rattle.rq_engine.specs.Opened.{OpenStore}
use Rattle.rq_engine.specs.declared.event.Event.TheVariants as event
use Rattle.rq_disk.specs.declared.device.LogDevice as log_device
use Rattle.rq_disk.specs.declared.device.PageDevice as page_device
use Rattle.rq_pool.specs.Reading.{OnlyRead}
use Rattle.rq_engine.specs.Applied.{BegunSay, ChangesSay, RefusalLeaves, RefusedBy, RefusedStill, ReplacingSays, TakeBegan, UndoBegan}
use Rattle.rq_engine.specs.KeptUp.{AnswerCounts, AreButRead, KeepsDevices, KeepsUp, OnRead, RefusedButRead, ReplyCounts}
use Rattle.rq_engine.specs.Aborts.{IsUndoBegun, UndoSays}
use Rattle.rq_engine.specs.Lists.{ListsSay}
use Rattle.rq_engine.specs.Says.{IsContent, LogSays, PagesSay, begun_reply, call_of, undo_reply}
use Rattle.rq_engine.proofs.KeptUp.{up_still}
use Rattle.rq_model.specs.Causes.{reads_pages, starts_one, writes_out}

module _ {P L : Type 0} (old new : OpenStore P L) where
  still_plain : (r : Refusal) → new ≡ old → RefusedStill false old r new
  still_plain why.DiskWrite same = same
  still_plain r same = same

  -- a call that reads no page and writes to no device changes nothing where it is refused
  pub plain_leaves : (e : Event) (r : Refusal) → reads_pages (call_of e) ≡ false → writes_out (call_of e) ≡ false → new ≡ old → RefusalLeaves old e (reply.Refused r) new
  plain_leaves e r reads writes same = rw (reads, writes) (still_plain r same)

  -- so does one of a store that had failed
  failed_by : (reads writes : Bool) (c : Call) → RefusedBy reads writes c old why.Failed new → new ≡ old
  failed_by true writes c h = h.1
  failed_by false writes c h = h

  pub failed_leaves : (e : Event) → RefusalLeaves old e (reply.Refused why.Failed) new → new ≡ old
  failed_leaves e h = failed_by (reads_pages (call_of e)) (writes_out (call_of e)) (call_of e) h

  -- one that starts an operation has perhaps read pages
  start_leaves : (e : Event) (c : Call) (r : Refusal) → call_of e ≡ c → reads_pages c ≡ true → RefusedButRead c old r new → RefusalLeaves old e (reply.Refused r) new
  start_leaves e c r is reads left = rw (is, reads) left

  pub begun_leaves : (e : Event) (c : Call) (x : Result (Option Sub) Refusal) (y : Reply) → call_of e ≡ c → reads_pages c ≡ true → IfErr x (λ r. RefusedButRead c old r new) → y ≡ begun_reply x → RefusalLeaves old e y new
  begun_leaves e c (Ok (Some sub)) y is reads left said = rw said tt
  begun_leaves e c (Ok None) y is reads left said = rw said tt
  begun_leaves e c (Err r) y is reads left said = rw said (start_leaves e c r is reads left)

  pub undo_leaves : (e : Event) (c : Call) (x : Result (Option Sub) Refusal) (y : Reply) → call_of e ≡ c → reads_pages c ≡ true → IfErr x (λ r. RefusedButRead c old r new) → y ≡ undo_reply x → RefusalLeaves old e y new
  undo_leaves e c (Ok (Some sub)) y is reads left said = rw said tt
  undo_leaves e c (Ok None) y is reads left said = rw said tt
  undo_leaves e c (Err r) y is reads left said = rw said (start_leaves e c r is reads left)

  -- what has begun then
  pub take_begins : (Begins : Sub → State → Type 0) (Lacks : State → Type 0) (x : Result (Option Sub) Refusal) (y : Reply) → IfOk x (λ b. IfSome b (λ sub. Begins sub new.state)) → IfOk x (λ b. IfNone b ((new ≡ old) × Lacks new.state)) → y ≡ begun_reply x → TakeBegan old Begins Lacks y new
  take_begins Begins Lacks (Ok (Some sub)) y begun none is = rw is begun
  take_begins Begins Lacks (Ok None) y begun none is = rw is none
  take_begins Begins Lacks (Err r) y begun none is = rw is tt

  pub undo_begins : (t : Txn) (x : Result (Option Sub) Refusal) (y : Reply) → IfOk x (λ b. IfSome b (λ sub. IsUndoBegun old.state t sub new.state)) → IfOk x (λ b. IfNone b ((new ≡ old) × UndoSays old.state t None new.state)) → y ≡ undo_reply x → UndoBegan old t y new
  undo_begins t (Ok (Some sub)) y begun none is = rw is begun
  undo_begins t (Ok None) y begun none is = rw is none
  undo_begins t (Err r) y begun none is = rw is tt

  -- and how often the pages' device has failed
  module _ (p : page_device.Ghosts P) where
    pub take_counts : (x : Result (Option Sub) Refusal) (y : Reply) → AnswerCounts p x old new → y ≡ begun_reply x → ReplyCounts p y old new
    take_counts (Ok (Some sub)) y counts is = rw is counts
    take_counts (Ok None) y counts is = rw is counts
    take_counts (Err r) y counts is = rw is counts

    pub undo_counts : (x : Result (Option Sub) Refusal) (y : Reply) → AnswerCounts p x old new → y ≡ undo_reply x → ReplyCounts p y old new
    undo_counts (Ok (Some sub)) y counts is = rw is counts
    undo_counts (Ok None) y counts is = rw is counts
    undo_counts (Err r) y counts is = rw is counts

  -- what a call leaves for want of memory, and one that shows the content
  module _ (p : page_device.Ghosts P) (l : log_device.Ghosts L) where
    -- pages were only read, and count as changed as before
    abbrev OnlyReads : Call → Type 0
    OnlyReads c = starts_one c ≡ false → OnlyRead p old.pages new.pages × (new.changed ≡ old.changed)

    keeps_devices : (e : Event) (r : Reply) → reads_pages (call_of e) ≡ true → PagesSay p old new e r → LogSays l old new e r → ReplacingSays old e r new → ChangesSay old e r new → length new.frames ≡ length old.frames → KeepsDevices p old new × ReplyCounts p r old new × OnlyReads (call_of e)
    keeps_devices event.Content r is pages log replacing changes count = ((pages.0.0, log, replacing, count, pages.0.2), pages.1, λ none. (pages.0.1, changes))
    keeps_devices (event.StartSend txn sender tag body) r is pages log replacing changes count = ((pages.0, log, replacing, count, pages.2), pages.1, λ none. absurd (true≢false none))
    keeps_devices (event.StartReceive txn) r is pages log replacing changes count = ((pages.0, log, replacing, count, pages.2), pages.1, λ none. absurd (true≢false none))
    keeps_devices (event.StartReceiveFrom txn sender) r is pages log replacing changes count = ((pages.0, log, replacing, count, pages.2), pages.1, λ none. absurd (true≢false none))
    keeps_devices (event.StartClose txn sender) r is pages log replacing changes count = ((pages.0, log, replacing, count, pages.2), pages.1, λ none. absurd (true≢false none))
    keeps_devices (event.StartMark txn client tag) r is pages log replacing changes count = ((pages.0, log, replacing, count, pages.2), pages.1, λ none. absurd (true≢false none))
    keeps_devices (event.UndoNext txn) r is pages log replacing changes count = ((pages.0, log, replacing, count, pages.2), pages.1, λ none. absurd (true≢false none))
    keeps_devices _ r is pages log replacing changes count = absurd (true≢false (sym is))

    memory_by : (c : Call) (reads : Bool) → reads_pages c ≡ reads → (writes : Bool) → RefusedBy reads writes c old why.NoMemory new → (reads ≡ true → KeepsDevices p old new × (p.faults new.pages ≡ p.faults old.pages) × OnlyReads c) → KeepsUp p c old new
    memory_by c true is writes h devices = record { devices = (devices refl).0; lists = h.1; faults = (devices refl).1; read = (devices refl).2; still = λ none. absurd (true≢false (sym is ∙ none)) }
    memory_by c false is writes h devices = up_still p c old new h

    pub memory_keeps : (e : Event) (r : Reply) → PagesSay p old new e r → LogSays l old new e r → ReplacingSays old e r new → ChangesSay old e r new → length new.frames ≡ length old.frames → RefusalLeaves old e r new → r ≡ reply.Refused why.NoMemory → KeepsUp p (call_of e) old new
    memory_keeps e r pages log replacing changes count left is =
        memory_by (call_of e) (reads_pages (call_of e)) refl (writes_out (call_of e)) (subst (λ (x : Reply). RefusalLeaves old e x new) is left)
        (λ reads. (let k = keeps_devices e r reads pages log replacing changes count in (k.0, subst (λ (x : Reply). ReplyCounts p x old new) is k.1, k.2)))

    content_of : (e : Event) (groups : _) → OnRead (reads_pages (call_of e)) (p.honest new.pages) (ListsSay old.state e (reply.Content groups) new.state) → BegunSay old e (reply.Content groups) new → (reads_pages (call_of e) ≡ true) × AreButRead old.state new.state
    content_of event.Content groups lists begun = (refl, begun)
    content_of (event.StartSend txn sender tag body) groups lists begun = absurd begun
    content_of (event.StartReceive txn) groups lists begun = absurd begun
    content_of (event.StartReceiveFrom txn sender) groups lists begun = absurd begun
    content_of (event.StartClose txn sender) groups lists begun = absurd begun
    content_of (event.StartMark txn client tag) groups lists begun = absurd begun
    content_of (event.UndoNext txn) groups lists begun = absurd begun
    content_of _ groups lists begun = absurd lists

    pub content_keeps : (e : Event) (r : Reply) → IsContent r → OnRead (reads_pages (call_of e)) (p.honest new.pages) (ListsSay old.state e r new.state) → BegunSay old e r new → PagesSay p old new e r → LogSays l old new e r → ReplacingSays old e r new → ChangesSay old e r new → length new.frames ≡ length old.frames → KeepsUp p (call_of e) old new
    content_keeps e (reply.Content groups) is lists begun pages log replacing changes count =
        let c = content_of e groups lists begun in
        let k = keeps_devices e (reply.Content groups) c.0 pages log replacing changes count in
        record { devices = k.0; lists = c.1; faults = k.1; read = k.2; still = λ none. absurd (true≢false (sym c.0 ∙ none)) }
    content_keeps e _ is lists begun pages log replacing changes count = absurd is
