-- What a call makes of pages, and what a crash in it leaves, whichever call it is.
use Rattle.std.proofs.Common.{◌≡◌, ℕ, true, false, List, ◌∙◌, ap, subst, sym}
use Rattle.std.proofs.lemmas.Bool.{true≢false}
use Rattle.rq_disk.specs.Device.{Images, Leaves}
use Rattle.rq_disk.specs.declared.device.LogDevice as log_device
use Rattle.rq_disk.specs.declared.device.PageDevice as page_device
use Rattle.rq_log.specs.Crash.{LeavesOnly}
use Rattle.rq_log.specs.Spelled.{IsBeginning}
use Rattle.rq_model.specs.declared.record.Record.{Record}
use Rattle.rq_model.specs.declared.refusal.Refusal.{Refusal}
use Rattle.rq_model.specs.declared.refusal.Refusal.TheVariants as why
use Rattle.rq_store.specs.State.{State}
use Rattle.rq_sound.specs.ModelSteps.{IsModelStep}
use Rattle.rq_sound.specs.Sound.{IsSound}
use Rattle.rq_engine.specs.declared.event.Event.{Event}
use Rattle.rq_engine.specs.declared.event.Event.TheVariants as event
use Rattle.rq_engine.specs.declared.event.Reply.{Reply}
use Rattle.rq_engine.specs.declared.event.Reply.TheVariants as reply
use Rattle.rq_engine.specs.KeptUp.{OnRead}
use Rattle.rq_engine.specs.Applied.{BegunSay, CheckpointSays, KeepsOrBased, MayLeave, RefusalLeaves, RunsThrough, StaysWhole}
use Rattle.rq_engine.specs.Checkpoint.{NotCheckpointed}
use Rattle.rq_engine.specs.Migration.{NotMigrated}
use Rattle.rq_engine.specs.Crash.{AreFit}
use Rattle.rq_engine.specs.Earlier.{IsEarlier, on, over}
use Rattle.rq_engine.specs.Lists.{ListsSay}
use Rattle.rq_engine.specs.Opened.{AreHonest, OpenStore}
use Rattle.rq_engine.specs.Says.{PagesSay, WritesSay, call_of, gave}
use Rattle.rq_model.specs.Causes.{reads_pages, writes_out}
use Rattle.rq_engine.proofs.Crashing.{IsOnDevice, cuts_over, fit_kept_over}
use Rattle.rq_engine.proofs.UnknownStay.{base_stays}

module _ {P L : Type 0} (p : page_device.Ghosts P) (l : log_device.Ghosts L) (old new : OpenStore P L) where
  -- what a checkpoint leaves that was refused
  pub not_leaves : (e : Event) (r : Refusal) → reads_pages (call_of e) ≡ false → writes_out (call_of e) ≡ true → NotCheckpointed p l old new r → RefusalLeaves old e (reply.Refused r) new
  not_leaves e why.Failed reads writes n = rw reads n.1
  not_leaves e why.NotQuiet reads writes n = rw reads n.2
  not_leaves e why.LogFull reads writes n = rw reads n.3
  not_leaves e why.NotForced reads writes n = rw reads n.4
  not_leaves e why.DiskWrite reads writes n = rw (reads, writes) n.0.state
  not_leaves e _ reads writes n = absurd n

  -- or a migration
  pub not_grown : (n : ℕ) (r : Refusal) → NotMigrated p l n old new r → RefusalLeaves old (event.Migrate n) (reply.Refused r) new
  not_grown n why.Failed w = w.1
  not_grown n why.BadTags w = w.2
  not_grown n why.NotQuiet w = w.1.2
  not_grown n why.LogFull w = w.1.3
  not_grown n why.NotForced w = w.1.4
  not_grown n why.DiskWrite w = w.1.state
  not_grown n _ w = absurd w.1

  -- a store that runs behind a migration was refused one, and is as it was
  runs_as_before : (n : ℕ) (r : Refusal) → NotMigrated p l n old new r → new.state.failed ≡ false → new ≡ old
  runs_as_before n why.Failed w running = w.1
  runs_as_before n why.BadTags w running = w.2
  runs_as_before n why.NotQuiet w running = w.1.2
  runs_as_before n why.LogFull w running = w.1.3
  runs_as_before n why.NotForced w running = w.1.4
  runs_as_before n why.DiskWrite w running = absurd (true≢false (sym (ap (λ (s : State). s.failed) w.1.state) ∙ running))
  runs_as_before n _ w running = absurd w.1

  pub as_before : (n : ℕ) (r : Reply) → CheckpointSays p l old (event.Migrate n) r new → new.state.failed ≡ false → new ≡ old
  as_before n (reply.Migrated lsn) says running = absurd (true≢false (sym (ap (λ (s : State). s.failed) says.1.state) ∙ running))
  as_before n (reply.Refused r) says running = runs_as_before n r says running
  as_before n _ says running = absurd says

  -- a store that runs behind one has run before it
  ran_refused : (r : Refusal) → NotCheckpointed p l old new r → new.state.failed ≡ false → old.state.failed ≡ false
  ran_refused why.Failed n running = ap (λ (o : OpenStore P L). o.state.failed) (sym n.1) ∙ running
  ran_refused why.NotQuiet n running = n.0
  ran_refused why.LogFull n running = n.0
  ran_refused why.NotForced n running = n.0
  ran_refused why.DiskWrite n running = n.0.could.running
  ran_refused _ n running = absurd n

  ran_before : (r : Reply) → CheckpointSays p l old event.Checkpoint r new → new.state.failed ≡ false → old.state.failed ≡ false
  ran_before (reply.Checkpointed lsn) says running = says.could.running
  ran_before (reply.Refused r) says running = ran_refused r says running
  ran_before _ says running = absurd says

module _ {P L : Type 0} (p : page_device.Ghosts P) (l : log_device.Ghosts L) (only_now : (d : P) (c : Images) → p.left_since d (p.moment d) c → Leaves (p.may_be d) c)
    (old new : OpenStore P L) (x : List Record) (told : IsOnDevice old.state) (long : IsEarlier x old.state) (k : IsSound (on x old.state)) (fit : AreFit p (over x old)) where
  -- the pages fit afterwards
  pub fit_after : (old.state.failed ≡ false → old.replacing ≡ false) → AreHonest p l new → (e : Event) (r : Reply) → StaysWhole e new → CheckpointSays p l old e r new → KeepsOrBased p l old e new → new.state.sizes ≡ old.state.sizes
      → OnRead (reads_pages (call_of e)) (p.honest new.pages) (ListsSay old.state e r new.state) → BegunSay old e r new → RefusalLeaves old e r new → IsModelStep (on x old.state) (call_of e) (gave r) (on x new.state) → WritesSay old e r → PagesSay p old new e r → AreFit p (over x new)
  fit_after untried h event.Checkpoint r whole says keeps sizes lists begun refused steps when pages = (keeps (untried (ran_before p l old new r says whole)) h x long k fit).fit whole
  fit_after untried h (event.Migrate n) r whole says keeps sizes lists begun refused steps when pages = subst (λ (o : OpenStore P L). AreFit p (over x o)) (sym (as_before p l old new n r says whole)) fit
  fit_after untried h e r whole says keeps sizes lists begun refused steps when pages =
      fit_kept_over p l only_now old new x told long k fit e r tt _ _ sizes (base_stays old new x e r tt (p.honest new.pages) lists begun refused) steps when pages

  -- and what a crash leaves at any moment of the call
  pub runs_after : old.replacing ≡ false → AreHonest p l new → (e : Event) (r : Reply) → KeepsOrBased p l old e new → WritesSay old e r → PagesSay p old new e r
      → ((c : List ℕ) → l.may_leave old.log c → IsBeginning old.state.records old.state.forced c) → LeavesOnly l old.log new.log (MayLeave old.state e) → RunsThrough p l (over x old) e (over x new)
  runs_after none h event.Checkpoint r keeps when pages log run = (keeps none h x long k fit).crash
  runs_after none h (event.Migrate n) r keeps when pages log run = keeps none h x long k fit
  runs_after none h e r keeps when pages log run = cuts_over p l only_now old new x told long k fit e r tt when pages log run
