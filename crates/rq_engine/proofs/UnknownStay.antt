-- A call leaves the records of which nothing is known alone, and whatever they were it adds no Base.
use Rattle.std.proofs.Common.{◌≡◌, ℕ, Bool, true, false, ap, List}
use Rattle.rq_model.specs.declared.record.Record.{Record}
use Rattle.rq_model.specs.Bases.{base_lsn}
use Rattle.rq_model.specs.declared.refusal.Refusal.{Refusal}
use Rattle.rq_model.specs.declared.refusal.Refusal.TheVariants as why
use Rattle.rq_model.specs.Causes.{reads_pages, starts_one, writes_out}
use Rattle.rq_store.specs.State.{State}
use Rattle.rq_engine.specs.declared.event.Event.{Event}
use Rattle.rq_engine.specs.declared.event.Event.TheVariants as event
use Rattle.rq_level.specs.declared.writes.Outcome.TheVariants as outcome
use Rattle.rq_engine.specs.declared.event.Progress.TheVariants as progress
use Rattle.rq_engine.specs.declared.event.Reply.{Reply}
use Rattle.rq_engine.specs.declared.event.Reply.TheVariants as reply
use Rattle.rq_engine.specs.Applied.{BegunSay, RefusalLeaves, RefusedBy, RefusedStill, WriteFails}
use Rattle.rq_engine.specs.Earlier.{rebased, unknown}
use Rattle.rq_engine.specs.KeptUp.{OnRead, RefusedBehind}
use Rattle.rq_engine.specs.Lists.{ListsSay}
use Rattle.rq_engine.specs.Opened.{OpenStore}
use Rattle.rq_engine.specs.Says.{call_of}
use Rattle.rq_engine.specs.Tested.{tested}
use Rattle.rq_model.specs.History.{Call}

-- only a checkpoint adds a Base, and a migration
abbrev pub IsNoCheckpoint : Event → Type 0
IsNoCheckpoint event.Checkpoint = ⊥
IsNoCheckpoint (event.Migrate pages) = ⊥
IsNoCheckpoint _ = Unit {0}

module _ {P L : Type 0} (old new : OpenStore P L) where
  -- both at once: these records, and the newest Base's LSN with others in their place
  abbrev under : State → List Record × (List Record → ℕ)
  under s = (unknown s.records, λ e. base_lsn (rebased e s.records))

  abbrev Same : Type 0
  Same = under new.state ≡ under old.state

  failing : (b : Bool) → WriteFails b old new → Same
  failing true w = ap under w
  failing false w = ap (λ (o : OpenStore P L). under o.state) w

  refused_but : (b : Bool) (ts : List (Bool × Refusal)) (r : Refusal) → RefusedBehind b ts old r new → Same
  refused_but true ts why.DiskWrite h = ap under h.1
  refused_but false ts why.DiskWrite h = absurd h.1
  refused_but b ts why.DiskRead h = ap under h.1
  refused_but b ts (why.Damaged d) h = ap under h.1
  refused_but true ts why.Latched h = ap under h.1
  refused_but false ts why.Latched h = absurd h.1
  refused_but true ts why.PoolFull h = ap under h.1
  refused_but false ts why.PoolFull h = absurd h.1
  refused_but b ts why.NoMemory h = ap under h.1
  refused_but b ts _ h = ap (λ (o : OpenStore P L). under o.state) h.1

  refused_still : (w : Bool) (r : Refusal) → RefusedStill w old r new → Same
  refused_still w why.DiskWrite h = failing w h
  refused_still w _ h = ap (λ (o : OpenStore P L). under o.state) h

  refused_by : (reads writes : Bool) (c : Call) (r : Refusal) → RefusedBy reads writes c old r new → Same
  refused_by true writes c r h = refused_but (starts_one c) (tested old.state c) r h
  refused_by false writes c r h = refused_still writes r h

  refused : (e : Event) (r : Refusal) → RefusalLeaves old e (reply.Refused r) new → Same
  refused e r h = refused_by (reads_pages (call_of e)) (writes_out (call_of e)) (call_of e) r h

  both_stay : (e : Event) (r : Reply) → IsNoCheckpoint e → (H : Type 0) → OnRead (reads_pages (call_of e)) H (ListsSay old.state e r new.state) → BegunSay old e r new → RefusalLeaves old e r new → Same
  both_stay event.Begin (reply.Begun t) other H h b f = ap under h.lists
  both_stay event.Begin (reply.Refused r) other H h b f = refused event.Begin r f
  both_stay (event.StartSend t s tag body) (reply.Started sub) other H h b f = ap under b.2.lists
  both_stay (event.StartSend t s tag body) (reply.Refused r) other H h b f = refused (event.StartSend t s tag body) r f
  both_stay (event.StartSend t s tag body) _ other H h b f = absurd b
  both_stay (event.StartReceive t) (reply.Started sub) other H h b f = ap under b.1.3.lists
  both_stay (event.StartReceive t) reply.NoMessage other H h b f = ap (λ (o : OpenStore P L). under o.state) b.0
  both_stay (event.StartReceive t) (reply.Refused r) other H h b f = refused (event.StartReceive t) r f
  both_stay (event.StartReceive t) _ other H h b f = absurd b
  both_stay (event.StartReceiveFrom t s) (reply.Started sub) other H h b f = ap under b.3.lists
  both_stay (event.StartReceiveFrom t s) reply.NoMessage other H h b f = ap (λ (o : OpenStore P L). under o.state) b.0
  both_stay (event.StartReceiveFrom t s) (reply.Refused r) other H h b f = refused (event.StartReceiveFrom t s) r f
  both_stay (event.StartReceiveFrom t s) _ other H h b f = absurd b
  both_stay (event.StartClose t s) (reply.Started sub) other H h b f = ap under b.2.lists
  both_stay (event.StartClose t s) (reply.Refused r) other H h b f = refused (event.StartClose t s) r f
  both_stay (event.StartClose t s) _ other H h b f = absurd b
  both_stay (event.StartMark t c tag) (reply.Started sub) other H h b f = ap under b.2.lists
  both_stay (event.StartMark t c tag) (reply.Refused r) other H h b f = refused (event.StartMark t c tag) r f
  both_stay (event.StartMark t c tag) _ other H h b f = absurd b
  both_stay (event.Step sub) (reply.Stepped (progress.Done lsn)) other H h b f = ap under h.3.state
  both_stay (event.Step sub) (reply.Stepped progress.Ready) other H h b f = ap under h.1
  both_stay (event.Step sub) (reply.Refused r) other H h b f = refused (event.Step sub) r f
  both_stay (event.Finish sub) (reply.Finished outcome.Undone) other H h b f = ap under h.lists
  both_stay (event.Finish sub) (reply.Finished outcome.Sent) other H h b f = ap under h.lists
  both_stay (event.Finish sub) (reply.Finished (outcome.Message m)) other H h b f = ap under h.lists
  both_stay (event.Finish sub) (reply.Finished outcome.Closed) other H h b f = ap under h.lists
  both_stay (event.Finish sub) (reply.Finished outcome.Marked) other H h b f = ap under h.lists
  both_stay (event.Finish sub) (reply.Refused r) other H h b f = refused (event.Finish sub) r f
  both_stay (event.Commit t) (reply.Committed n) other H h b f = ap under h.lists
  both_stay (event.Commit t) (reply.Refused r) other H h b f = refused (event.Commit t) r f
  both_stay (event.StartAbort t) reply.Aborting other H h b f = ap under h.1
  both_stay (event.StartAbort t) (reply.Refused r) other H h b f = refused (event.StartAbort t) r f
  both_stay (event.UndoNext t) (reply.Started sub) other H h b f = ap under b.2.lists
  both_stay (event.UndoNext t) reply.NothingLeft other H h b f = ap (λ (o : OpenStore P L). under o.state) b.0
  both_stay (event.UndoNext t) (reply.Refused r) other H h b f = refused (event.UndoNext t) r f
  both_stay (event.UndoNext t) _ other H h b f = absurd b
  both_stay (event.EndAbort t) reply.Aborted other H h b f = ap under h.1
  both_stay (event.EndAbort t) (reply.Refused r) other H h b f = refused (event.EndAbort t) r f
  both_stay (event.Acknowledged n) (reply.Acknowledged g) other H h b f = ap under h.1
  both_stay (event.Acknowledged n) (reply.Refused r) other H h b f = refused (event.Acknowledged n) r f
  both_stay event.HandOver reply.HandedOver other H h b f = ap under h
  both_stay event.HandOver (reply.Refused r) other H h b f = refused event.HandOver r f
  both_stay event.Force (reply.Forced lsn) other H h b f = ap under h.1
  both_stay event.Force (reply.Refused r) other H h b f = refused event.Force r f
  both_stay (event.WritePage page) (reply.Written w) other H h b f = ap under h
  both_stay (event.WritePage page) (reply.Refused r) other H h b f = refused (event.WritePage page) r f
  both_stay (event.LastTag s) (reply.LastTag last) other H h b f = ap under h.lists
  both_stay (event.LastTag s) (reply.Refused r) other H h b f = refused (event.LastTag s) r f
  both_stay (event.ClientTag c) (reply.ClientTag last) other H h b f = ap under h.lists
  both_stay (event.ClientTag c) (reply.Refused r) other H h b f = refused (event.ClientTag c) r f
  both_stay event.Content (reply.Content gs) other H h b f = ap under b
  both_stay event.Content (reply.Refused r) other H h b f = refused event.Content r f
  both_stay event.Content _ other H h b f = absurd b
  both_stay event.Checkpoint r other H h b f = absurd other
  both_stay (event.Migrate pages) r other H h b f = absurd other
  both_stay _ _ other H h b f = absurd h

  pub unknown_stay : (e : Event) (r : Reply) (H : Type 0) → OnRead (reads_pages (call_of e)) H (ListsSay old.state e r new.state) → BegunSay old e r new → RefusalLeaves old e r new → unknown new.state.records ≡ unknown old.state.records
  unknown_stay event.Checkpoint (reply.Checkpointed lsn) H h b f = ap (λ (s : State). unknown s.records) h.1
  unknown_stay event.Checkpoint (reply.Refused r) H h b f = ap (λ k. k.0) (refused event.Checkpoint r f)
  unknown_stay event.Checkpoint _ H h b f = absurd h
  unknown_stay (event.Migrate pages) (reply.Migrated lsn) H h b f = ap (λ (s : State). unknown s.records) h.1
  unknown_stay (event.Migrate pages) (reply.Refused r) H h b f = ap (λ k. k.0) (refused (event.Migrate pages) r f)
  unknown_stay (event.Migrate pages) _ H h b f = absurd h
  unknown_stay e r H h b f = ap (λ k. k.0) (both_stay e r tt H h b f)

  pub base_stays : (earlier : List Record) (e : Event) (r : Reply) → IsNoCheckpoint e → (H : Type 0) → OnRead (reads_pages (call_of e)) H (ListsSay old.state e r new.state) → BegunSay old e r new → RefusalLeaves old e r new → base_lsn (rebased earlier new.state.records) ≡ base_lsn (rebased earlier old.state.records)
  base_stays earlier e r other H h b f = ap (λ k. k.1 earlier) (both_stay e r other H h b f)
