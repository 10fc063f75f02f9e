-- Stores that a device stopped in a checkpoint, or that a migration stopped: what calls make of them, and what a crash leaves.
use Rattle.std.proofs.Common.{◌≡◌, ◌⊎◌, ℕ, ◌≤◌, true, false, List, [], ◌∷◌, length, Option, None, Some, inl, inr, ⊎_elim, ap, subst, sym, refl, ◌∙◌}
use Rattle.rq_model.specs.declared.record.Record.{Record}
use Rattle.rq_model.specs.declared.refusal.Refusal.{Refusal}
use Rattle.rq_model.specs.declared.refusal.Refusal.TheVariants as why
use Rattle.rq_model.specs.History.{Call, Entry}
use Rattle.rq_model.specs.History.Entry.{Refused as Refused_entry}
use Rattle.rq_model.specs.History.Call.{Begin, Start_send, Start_receive, Start_receive_from, Start_close, Start_mark, Step, Finish, Commit, Acknowledge, Start_abort, Undo_next, End_abort, Hand_over, Force, Checkpoint, Migrate, Write_page, Last_tag, Client_tag, Show}
use Rattle.rq_model.specs.Growth.{Growth, IsGrownBy, IsOfMigration, MayBeCutOff, MayStand, growth, growth_by, refused_growth}
use Rattle.rq_model.specs.Growth.Growth.{Grows, May_grow, May_base, Stays}
use Rattle.rq_model.specs.Ledger.{Ledger, Phase, after, ledger, runs}
use Rattle.rq_model.specs.Ledger.Phase.{Stopped}
use Rattle.rq_model.specs.Tests.{log_full}
use Rattle.rq_model.proofs.Follows.{none_told}
use Rattle.rq_model.specs.Replay.{Reply as Gave, Says}
use Rattle.rq_model.specs.Replay.Reply.{Gave_txn, Gave_sub, Gave_none, Gave_nothing_left, Gave_lsn, Gave_ready, Gave_sent, Gave_message, Gave_closed, Gave_marked, Gave_undone, Gave_handed_over, Gave_forced, Gave_aborting, Gave_aborted, Gave_commit, Gave_receipt, Gave_written, Gave_tag, Gave_client_tag, Gave_content, Gave_refusal}
use Rattle.rq_disk.specs.Device.{Images, Leaves}
use Rattle.rq_disk.specs.declared.device.LogDevice as log_device
use Rattle.rq_disk.specs.declared.device.PageDevice as page_device
use Rattle.rq_page.specs.Sizes.{Sizes}
use Rattle.rq_store.specs.State.{State, ledger_of, open_ones_of, phase_of}
use Rattle.rq_sound.specs.Calls.{checkpointed}
use Rattle.rq_sound.specs.Sound.{IsSound}
use Rattle.rq_engine.specs.declared.event.Event.{Event}
use Rattle.rq_engine.specs.declared.event.Event.TheVariants as event
use Rattle.rq_engine.specs.declared.event.Reply.{Reply}
use Rattle.rq_engine.specs.declared.event.Reply.TheVariants as reply
use Rattle.rq_engine.specs.Applied.{Applied, RefusalLeaves}
use Rattle.rq_engine.specs.Says.{call_of, gave}
use Rattle.rq_engine.specs.Checkpoint.{HasMadeOneRecord, IsCutOrBased, MayMakeOneRecord, NotCheckpointed}
use Rattle.rq_engine.specs.Crash.{IsCut}
use Rattle.rq_engine.specs.Devices.{EachPair}
use Rattle.rq_engine.specs.Earlier.{IsEarlier, on}
use Rattle.rq_engine.specs.Migration.{HasMigrated, IsCutGrown, IsCutOrGrown, MayGetTags, NotMigrated}
use Rattle.rq_engine.specs.Opened.{AreHonest, OpenStore}
use Rattle.rq_engine.proofs.Earlier.{full_on, long_on}
use Rattle.rq_engine.proofs.Leaving.{failed_leaves}
use Rattle.rq_engine.proofs.Migrating.{grown_failed, left_after}
use Rattle.rq_core.specs.Happenings.{call_growth, is_of_device}
use Rattle.rq_core.specs.World.{IsCutBy, IsCutTagged, IsHalfMade, IsWritten, LeftBehind, MayBeTold}
use Rattle.rq_core.proofs.Devices.{path_end}

-- ---- cuts of a store that has failed

cut_failed : (s : State) (images : Images) (bytes : List ℕ) → IsCut s images bytes → IsCut (record s { failed = true }) images bytes
cut_failed s images bytes c = record { lost = c.lost; forced = c.forced; incarnation = c.incarnation; told = c.told; spells = c.spells; begins = c.begins; store = c.store; durable = c.durable; content = c.content }

based_by : (g : Growth) (k : Ledger) (s : State) (images : Images) (bytes : List ℕ) → MayStand g k → IsCutOrBased s images bytes → IsCutBy g k None s images bytes
based_by g k s images bytes may (inl c) = inl c
based_by g k s images bytes may (inr c) = inr (may, c)

tagged_failed : (g : Growth) (n : ℕ) (s : State) (images : Images) (bytes : List ℕ) → IsCutTagged g n s images bytes → IsCutTagged g n (record s { failed = true }) images bytes
tagged_failed (Grows pages) n s images bytes c = (c.0, grown_failed n s images bytes c.1)
tagged_failed Stays n s images bytes c = grown_failed n (checkpointed s) images bytes c
tagged_failed May_base n s images bytes c = grown_failed n (checkpointed s) images bytes c
tagged_failed (May_grow pages) n s images bytes c = grown_failed n (checkpointed s) images bytes c

by_failed : (g : Growth) (k : Ledger) (tags : Option ℕ) (s : State) (images : Images) (bytes : List ℕ) → IsCutBy g k tags s images bytes → IsCutBy g k tags (record s { failed = true }) images bytes
by_failed g k None s images bytes (inl c) = inl (cut_failed s images bytes c)
by_failed g k None s images bytes (inr c) = inr (c.0, cut_failed (checkpointed s) images bytes c.1)
by_failed g k (Some n) s images bytes c = (c.0, c.1, tagged_failed g n s images bytes c.2)

-- ---- what a call tells of checkpoints and migrations

-- only a checkpoint or a migration may be left half made
abbrev is_plain : Call → Type 0
is_plain Checkpoint = ⊥
is_plain (Migrate pages) = ⊥
is_plain _ = Unit {0}

plain_refusal : (r : Refusal) (c : Call) (g : Growth) → is_plain c → refused_growth r c g ≡ g
plain_refusal why.DiskWrite Checkpoint g plain = absurd plain
plain_refusal why.DiskWrite (Migrate pages) g plain = absurd plain
plain_refusal why.DiskWrite _ g plain = refl
plain_refusal _ c g plain = refl

pub plain_growth : (c : Call) (r : Gave) (e : Entry) (g : Growth) → Says c r e → is_plain c → growth_by e g ≡ g
plain_growth c (Gave_refusal r) e g s plain = ap (λ (x : Entry). growth_by x g) s ∙ plain_refusal r c g plain
plain_growth Begin (Gave_txn t) e g s plain = ap (λ (x : Entry). growth_by x g) s
plain_growth (Start_send t m) (Gave_sub u n) e g s plain = ap (λ (x : Entry). growth_by x g) s.1
plain_growth (Start_receive t) (Gave_sub u n) e g s plain = ap (λ (x : Entry). growth_by x g) s.2
plain_growth (Start_receive t) Gave_none e g s plain = ap (λ (x : Entry). growth_by x g) s
plain_growth (Start_receive_from t sender) (Gave_sub u n) e g s plain = ap (λ (x : Entry). growth_by x g) s.1
plain_growth (Start_receive_from t sender) Gave_none e g s plain = ap (λ (x : Entry). growth_by x g) s
plain_growth (Start_close t sender) (Gave_sub u n) e g s plain = ap (λ (x : Entry). growth_by x g) s.1
plain_growth (Start_mark t client tag) (Gave_sub u n) e g s plain = ap (λ (x : Entry). growth_by x g) s.1
plain_growth (Step t n) (Gave_lsn lsn) e g s plain = ap (λ (x : Entry). growth_by x g) s
plain_growth (Step t n) Gave_ready e g s plain = ap (λ (x : Entry). growth_by x g) s
plain_growth (Finish t n) Gave_sent e g s plain = ap (λ (x : Entry). growth_by x g) s.1
plain_growth (Finish t n) (Gave_message m) e g s plain = ap (λ (x : Entry). growth_by x g) s
plain_growth (Finish t n) Gave_closed e g s plain = ap (λ (x : Entry). growth_by x g) s.1
plain_growth (Finish t n) Gave_marked e g s plain = ap (λ (x : Entry). growth_by x g) s.2
plain_growth (Finish t n) Gave_undone e g s plain = ap (λ (x : Entry). growth_by x g) s
plain_growth (Commit t) (Gave_commit c) e g s plain = ap (λ (x : Entry). growth_by x g) s.1
plain_growth (Start_abort t) Gave_aborting e g s plain = ap (λ (x : Entry). growth_by x g) s
plain_growth (Undo_next t) (Gave_sub u n) e g s plain = ap (λ (x : Entry). growth_by x g) s.1
plain_growth (Undo_next t) Gave_nothing_left e g s plain = ap (λ (x : Entry). growth_by x g) s
plain_growth (End_abort t) Gave_aborted e g s plain = ap (λ (x : Entry). growth_by x g) s
plain_growth (Acknowledge t lsn) (Gave_receipt None) e g s plain = ap (λ (x : Entry). growth_by x g) s
plain_growth (Acknowledge t lsn) (Gave_receipt (Some c)) e g s plain = ap (λ (x : Entry). growth_by x g) s.1
plain_growth Hand_over Gave_handed_over e g s plain = ap (λ (x : Entry). growth_by x g) s
plain_growth Force (Gave_forced lsn) e g s plain = ap (λ (x : Entry). growth_by x g) s
plain_growth Checkpoint r e g s plain = absurd plain
plain_growth (Migrate pages) r e g s plain = absurd plain
plain_growth (Write_page page) (Gave_written done) e g s plain = ap (λ (x : Entry). growth_by x g) s
plain_growth (Last_tag sender) (Gave_tag sent tag) e g s plain = ap (λ (x : Entry). growth_by x g) s
plain_growth (Client_tag client) (Gave_client_tag count tag) e g s plain = ap (λ (x : Entry). growth_by x g) s
plain_growth Show (Gave_content groups) e g s plain = ap (λ (x : Entry). growth_by x g) s
plain_growth c r e g s plain = absurd s

-- what a store that has failed tells
failed_entry : (e : Event) (r : Reply) (x : Entry) → Says (call_of e) (gave r) x → r ≡ reply.Refused why.Failed → x ≡ Refused_entry (call_of e) why.Failed
failed_entry e r x s is = subst (λ (y : Reply). Says (call_of e) (gave y) x) is s

-- a crash of a store that no checkpoint and no migration has left half made
pub plain_leaves : {P L : Type 0} (p : page_device.Ghosts P) (l : log_device.Ghosts L) (h : List Entry) (s : State) (pages : P) (log : L) → growth h ≡ Stays → EachPair p l pages log (IsCut s) → LeftBehind p l h (growth h) s pages log
plain_leaves p l h s pages log is leaves = λ images bytes a b. let n = none_told (growth h) is in (None, n, n, inl (leaves images bytes a b))

-- the tag pages of a migration that a device refused, or in which the crash comes, may be told
refused_told : (n : ℕ) (g : Growth) (l : Ledger) → log_full l 1 ≡ false → (tags : Option ℕ) → IsGrownBy (May_grow n) tags → MayBeTold tags (growth_by (Refused_entry (Migrate n) why.DiskWrite) g) (after (Refused_entry (Migrate n) why.DiskWrite) l)
refused_told n g l room None by = tt
refused_told n g l room (Some m) by = (by, room)

stopped_told : (n : ℕ) (g : Growth) (l : Ledger) → g ≡ Stays → runs l.phase ≡ true → log_full l 1 ≡ false → (tags : Option ℕ) → IsGrownBy (May_grow n) tags → MayBeTold tags g l
stopped_told n g l is run room None by = none_told g is
stopped_told n g l is run room (Some m) by = subst (λ (x : Growth). IsOfMigration x l m) (sym is) (run, room)

module _ {P L : Type 0} (p : page_device.Ghosts P) (l : log_device.Ghosts L) (z : Sizes) (now_p : (d : P) (t : ℕ) (c : Images) → t ≤ p.moment d → Leaves (p.may_be d) c → p.left_since d t c)
    (now_l : (d : L) (t : ℕ) (c : List ℕ) → t ≤ l.moment d → l.may_leave d c → l.left_since d t c) (h : List Entry) (past : List Record) (old new : OpenStore P L) (long : IsEarlier past old.state) (at : ledger_of (on past old.state) ≡ ledger h) where
  -- the log has room for a record, and the store runs, where the history ends
  room : MayMakeOneRecord old → log_full (ledger h) 1 ≡ false
  room could = ap (λ (k : Ledger). log_full k 1) (sym at) ∙ full_on past old.state long 1 ∙ could.room

  running : MayMakeOneRecord old → runs (ledger h).phase ≡ true
  running could = ap (λ (k : Ledger). runs k.phase) (sym at) ∙ ap (λ f. runs (phase_of f)) could.running

  -- one record may stand for all, where it is cut off
  stands : (g : Growth) (phase : Phase) → MayMakeOneRecord old → MayBeCutOff g phase → MayStand g (record (ledger h) { phase = phase })
  stands g phase could cut = record { none_open = ap (λ (k : Ledger). k.open_ones) (sym at) ∙ ap (open_ones_of old.state.ends) could.none_open; room = room could; cut_off = cut }

  -- where a crash comes inside it
  stands_inside : growth h ≡ Stays → MayMakeOneRecord old → MayStand (growth h) (ledger h)
  stands_inside is could = stands (growth h) (ledger h).phase could (subst (λ (g : Growth). MayBeCutOff g (ledger h).phase) (sym is) (running could))

  -- what a crash in a migration leaves
  either_by : (g : Growth) (k : Ledger) (n : ℕ) (images : Images) (bytes : List ℕ) → MayStand g k → ((s : State) → IsCutGrown n (checkpointed s) images bytes → IsCutTagged g n s images bytes) → MayGetTags n old.state → old.state.rows ≡ [] → IsCutOrGrown n (on past old.state) images bytes
      → (tags : Option ℕ) × IsGrownBy (May_grow n) tags × IsCutBy g k tags (on past old.state) images bytes
  either_by g k n images bytes stand tagged may none (inl c) = (None, tt, based_by g k (on past old.state) images bytes stand c)
  either_by g k n images bytes stand tagged may none (inr c) = (Some n, refl, (none, may, tagged (on past old.state) c))

  -- ---- behind a call that was answered, of which this is the entry
  module _ (x : Entry) where
    abbrev Written : OpenStore P L → Type 0
    Written s = IsWritten p l z (x ∷ h) past s

    abbrev Half : OpenStore P L → Type 0
    Half s = IsHalfMade p l z (x ∷ h) past s

    abbrev Before : Type 0
    Before = IsWritten p l z h past old

    -- a call that changes nothing of the devices
    unchanged : growth_by x (growth h) ≡ growth h → new ≡ old → Before → Written new
    unchanged same is w = subst Written (sym is) (record { untried = w.untried; stays = same ∙ w.stays; fit = w.fit })

    -- it has stopped for a device
    half : old.state.rows ≡ [] → new.state ≡ record old.state { failed = true } → LeftBehind p l (x ∷ h) (growth_by x (growth h)) (on past old.state) new.pages new.log → Half new
    half none is leaves = record {
      failed = ap (λ (s : State). s.failed) is;
      none_open = ap (λ (s : State). s.rows) is ∙ none;
      leaves = λ images bytes a b. let c = leaves images bytes a b in
          (c.0, c.1, c.2, subst (λ (s : State). IsCutBy (growth_by x (growth h)) (after x (ledger h)) c.0 (on past s) images bytes) (sym is) (by_failed (growth_by x (growth h)) (after x (ledger h)) c.0 (on past old.state) images bytes c.3));
    }

    -- a checkpoint that was refused
    not_made : (r : Refusal) → x ≡ Refused_entry Checkpoint r → NotCheckpointed p l old new r → EachPair p l new.pages new.log (IsCutOrBased (on past old.state)) → Before → Written new ⊎ Half new
    not_made why.DiskWrite is n leaves w =
        inr (half n.0.could.none_open n.0.state (λ images bytes a b. (
          None,
          subst (λ (y : Entry). IsGrownBy (growth_by y (growth h)) None) (sym is) tt,
          subst (λ (y : Entry). IsGrownBy (growth_by y (growth h)) None) (sym is) tt,
          subst (λ (y : Entry). IsCutBy (growth_by y (growth h)) (after y (ledger h)) None (on past old.state) images bytes) (sym is)
              (based_by May_base (record (ledger h) { phase = Stopped }) (on past old.state) images bytes (stands May_base Stopped n.0.could tt) (leaves images bytes a b)),
        )))
    not_made why.Failed is n leaves w = inl (unchanged (ap (λ (y : Entry). growth_by y (growth h)) is) n.1 w)
    not_made why.NotQuiet is n leaves w = inl (unchanged (ap (λ (y : Entry). growth_by y (growth h)) is) n.2 w)
    not_made why.LogFull is n leaves w = inl (unchanged (ap (λ (y : Entry). growth_by y (growth h)) is) n.3 w)
    not_made why.NotForced is n leaves w = inl (unchanged (ap (λ (y : Entry). growth_by y (growth h)) is) n.4 w)
    not_made _ is n leaves w = absurd n

    -- a migration that was refused
    not_grown : (n : ℕ) (r : Refusal) → x ≡ Refused_entry (Migrate n) r → NotMigrated p l n old new r → EachPair p l new.pages new.log (IsCutOrGrown n (on past old.state)) → Before → Written new ⊎ Half new
    not_grown n why.DiskWrite is w leaves before =
        inr (half w.1.could.none_open w.1.state (λ images bytes a b. let c = either_by (May_grow n) (record (ledger h) { phase = Stopped }) n images bytes (stands (May_grow n) Stopped w.1.could tt) (λ s y. y) w.0 w.1.could.none_open (leaves images bytes a b) in (
          c.0,
          subst (λ (y : Entry). IsGrownBy (growth_by y (growth h)) c.0) (sym is) c.1,
          subst (λ (y : Entry). MayBeTold c.0 (growth_by y (growth h)) (after y (ledger h))) (sym is) (refused_told n (growth h) (ledger h) (room w.1.could) c.0 c.1),
          subst (λ (y : Entry). IsCutBy (growth_by y (growth h)) (after y (ledger h)) c.0 (on past old.state) images bytes) (sym is) c.2,
        )))
    not_grown n why.Failed is w leaves before = inl (unchanged (ap (λ (y : Entry). growth_by y (growth h)) is) w.1 before)
    not_grown n why.BadTags is w leaves before = inl (unchanged (ap (λ (y : Entry). growth_by y (growth h)) is) w.2 before)
    not_grown n why.NotQuiet is w leaves before = inl (unchanged (ap (λ (y : Entry). growth_by y (growth h)) is) w.1.2 before)
    not_grown n why.LogFull is w leaves before = inl (unchanged (ap (λ (y : Entry). growth_by y (growth h)) is) w.1.3 before)
    not_grown n why.NotForced is w leaves before = inl (unchanged (ap (λ (y : Entry). growth_by y (growth h)) is) w.1.4 before)
    not_grown n _ is w leaves before = absurd w.1

    written_after : (e : Event) (r : Reply) → Says (call_of e) (gave r) x → Applied p l old e r new → AreHonest p l new → IsSound (on past old.state) → Before → Written new ⊎ Half new
    written_after event.Checkpoint (reply.Checkpointed lsn) says a honest sound w =
        let m : HasMadeOneRecord p l old new lsn = a.checkpoint in
        inl (record { untried = m.replacing ∙ w.untried; stays = ap (λ (y : Entry). growth_by y (growth h)) says ∙ w.stays; fit = a.fit honest (ap (λ (s : State). s.failed) m.state ∙ m.could.running) past long sound w.fit })
    written_after event.Checkpoint (reply.Refused r) says a honest sound w = not_made r says a.checkpoint (path_end p l now_p now_l (a.crash w.untried honest past long sound w.fit)) w
    written_after event.Checkpoint _ says a honest sound w = absurd a.checkpoint
    written_after (event.Migrate n) (reply.Migrated lsn) says a honest sound w =
        let m : HasMigrated p l n old new lsn = a.checkpoint.1 in
        let leaves = left_after p l n old new lsn past honest long sound a.checkpoint.0 m in
        let later : IsEarlier past new.state = long ∙ ap (λ (u : List Record). length u) (sym a.unknown) in
        let all : new.state.forced ≡ length (on past new.state).records = ap (λ (s : State). s.forced) m.state ∙ ap (λ (s : State). length s.records) (sym m.state) ∙ sym (long_on past new.state later) in
        inr (record {
          failed = ap (λ (s : State). s.failed) m.state;
          none_open = ap (λ (s : State). s.rows) m.state ∙ m.could.none_open;
          leaves = λ images bytes c d. (
            Some n,
            subst (λ (y : Entry). IsGrownBy (growth_by y (growth h)) (Some n)) (sym says) refl,
            subst (λ (y : Entry). IsOfMigration (growth_by y (growth h)) (after y (ledger h)) n) (sym says) refl,
            subst (λ (y : Entry). IsCutBy (growth_by y (growth h)) (after y (ledger h)) (Some n) (on past new.state) images bytes) (sym says)
                (ap (λ (s : State). s.rows) m.state ∙ m.could.none_open, subst (λ (s : State). MayGetTags n (on past s)) (sym m.state) a.checkpoint.0, (all, leaves images bytes c d)),
          );
        })
    written_after (event.Migrate n) (reply.Refused r) says a honest sound w = not_grown n r says a.checkpoint (path_end p l now_p now_l (a.crash w.untried honest past long sound w.fit)) w
    written_after (event.Migrate n) _ says a honest sound w = absurd a.checkpoint
    written_after e r says a honest sound w = inl (record { untried = a.replacing ∙ w.untried; stays = plain_growth (call_of e) (gave r) x (growth h) says tt ∙ w.stays; fit = a.fit honest tt past long sound w.fit })

  -- a store that was stopped answers no call, and stays
  still : (e : Event) (r : Reply) → Applied p l old e r new → old.state.failed ≡ true → new ≡ old
  still e r a failed = failed_leaves old new e (subst (λ (x : Reply). RefusalLeaves old e x new) (a.failed.1 failed) a.refused)

  half_after : (x : Entry) (e : Event) (r : Reply) → Says (call_of e) (gave r) x → Applied p l old e r new → IsHalfMade p l z h past old → IsHalfMade p l z (x ∷ h) past new
  half_after x e r says a half =
      let is = failed_entry e r x says (a.failed.1 half.failed) in
      subst (IsHalfMade p l z (x ∷ h) past) (sym (still e r a half.failed)) (record { failed = half.failed; none_open = half.none_open; leaves = subst (λ (y : Entry). LeftBehind p l (y ∷ h) (growth_by y (growth h)) (on past old.state) old.pages old.log) (sym is) half.leaves })

  -- what a call makes of the devices of an open store
  pub devices_after : (x : Entry) (e : Event) (r : Reply) → Says (call_of e) (gave r) x → Applied p l old e r new → AreHonest p l new → IsSound (on past old.state) → IsWritten p l z h past old ⊎ IsHalfMade p l z h past old → IsWritten p l z (x ∷ h) past new ⊎ IsHalfMade p l z (x ∷ h) past new
  devices_after x e r says a honest sound d =
      ⊎_elim (written_after x e r says a honest sound) (λ half. inr (half_after x e r says a half)) d

  -- ---- what a crash behind a call leaves, of the store before it
  of_checkpoint : (r : Refusal) → is_of_device r ≡ true → NotCheckpointed p l old new r → MayMakeOneRecord old
  of_checkpoint why.DiskWrite device n = n.0.could
  of_checkpoint why.DiskRead device n = absurd n
  of_checkpoint _ device n = cc device

  of_migration : (n : ℕ) (r : Refusal) → is_of_device r ≡ true → NotMigrated p l n old new r → MayGetTags n old.state × MayMakeOneRecord old
  of_migration n why.DiskWrite device w = (w.0, w.1.could)
  of_migration n why.DiskRead device w = absurd w.1
  of_migration n _ device w = cc device

  -- one that a device refused
  stopped : (e : Event) (r : Refusal) → is_of_device r ≡ true → Applied p l old e (reply.Refused r) new → AreHonest p l new → IsSound (on past old.state) → IsWritten p l z h past old → LeftBehind p l h (call_growth (call_of e) (growth h)) (on past old.state) new.pages new.log
  stopped event.Checkpoint r device a honest sound w =
      let could = of_checkpoint r device a.checkpoint in
      let leaves = path_end p l now_p now_l (a.crash w.untried honest past long sound w.fit) in
      λ images bytes c d. let n = none_told (growth h) w.stays in (None, n, n, based_by (growth h) (ledger h) (on past old.state) images bytes (stands_inside w.stays could) (leaves images bytes c d))
  stopped (event.Migrate n) r device a honest sound w =
      let may = of_migration n r device a.checkpoint in
      let leaves = path_end p l now_p now_l (a.crash w.untried honest past long sound w.fit) in
      λ images bytes c d. let x = either_by (growth h) (ledger h) n images bytes (stands_inside w.stays may.1) (λ s y. subst (λ (g : Growth). IsCutTagged g n s images bytes) (sym w.stays) y) may.0 may.1.none_open (leaves images bytes c d) in
      (x.0, x.1, stopped_told n (growth h) (ledger h) w.stays (running may.1) (room may.1) x.0 x.1, x.2)
  stopped e r device a honest sound w = plain_leaves p l h (on past old.state) new.pages new.log w.stays (path_end p l now_p now_l (a.crash w.untried honest past long sound w.fit))

  no_device : (r : Refusal) → is_of_device r ≡ true → reply.Refused r ≡ reply.Refused why.Failed → ⊥
  no_device why.DiskWrite d e = cc e
  no_device why.DiskRead d e = cc e
  no_device _ d e = cc d

  pub left_stopped : (e : Event) (r : Refusal) → is_of_device r ≡ true → Applied p l old e (reply.Refused r) new → AreHonest p l new → IsSound (on past old.state) → IsWritten p l z h past old ⊎ IsHalfMade p l z h past old → LeftBehind p l h (call_growth (call_of e) (growth h)) (on past old.state) new.pages new.log
  left_stopped e r device a honest sound d = ⊎_elim (stopped e r device a honest sound) (λ half. absurd (no_device r device (a.failed.1 half.failed))) d

  -- a hand-over
  pub left_handed : (r : Reply) → Applied p l old event.HandOver r new → AreHonest p l new → IsSound (on past old.state) → IsWritten p l z h past old ⊎ IsHalfMade p l z h past old → LeftBehind p l h (growth h) (on past old.state) new.pages new.log
  left_handed r a honest sound d =
      ⊎_elim (λ w. plain_leaves p l h (on past old.state) new.pages new.log w.stays (path_end p l now_p now_l (a.crash w.untried honest past long sound w.fit)))
      (λ half. subst (λ (s : OpenStore P L). LeftBehind p l h (growth h) (on past old.state) s.pages s.log) (sym (still event.HandOver r a half.failed)) half.leaves) d
