-- Each kind of happening keeps what is so of a store between two of them.
use Rattle.std.specs.Prelude.{◌==◌, if◌then◌else◌}
use Rattle.std.proofs.Common.{◌≡◌, ℕ, ◌+◌, ◌≤◌, List, [], ◌∷◌, ◌++◌, length, take, drop, refl, sym, ◌∙◌, ap, subst, true, false, Option, Some, None, arith, inl, inr, ◌⊎◌}
use Rattle.std.proofs.lemmas.Bool.{cases_eq}
use Rattle.std.proofs.lemmas.List.{take-append-drop, length-drop}
use Rattle.rq_model.specs.declared.record.Record.{Record}
use Rattle.rq_model.specs.Vocabulary.{In}
use Rattle.rq_model.specs.History.{Entry, commits}
use Rattle.rq_model.specs.History.Entry.{Grew, Restarted as Restarted_entry}
use Rattle.rq_model.specs.Incarnations.{Extends, Ties, incarnation_of}
use Rattle.rq_model.specs.Commits.{committed_of}
use Rattle.rq_model.specs.Ledger.{Ledger, ledger, after}
use Rattle.rq_model.specs.Ledger.Phase.{Shut}
use Rattle.rq_model.specs.Legal.{Legal, IsLegal}
use Rattle.rq_model.specs.Tests.{any_busy, bad_tags, size_at, with_clients}
use Rattle.rq_model.specs.Rules.{KeepsRules}
use Rattle.rq_model.specs.Growth.{Growth, IsGrownBy, IsOfMigration, MayStand, growth}
use Rattle.rq_model.specs.Growth.Growth.{Grows, May_grow, May_base, Stays}
use Rattle.rq_model.proofs.Follows.{follows, none_told, shut_told}
use Rattle.rq_model.proofs.Replayed.{never_break, size_stays}
use Rattle.rq_model.specs.Promises.{CheckpointCrashGoesOn, CrashGoesOn, GrowthGoesOn, ShutCrashGoesOn, RestartGoesOn, EndsBy, EndsInCrash, crash_with, log_grown, AcknowledgedStay, FifoThroughout}
use Rattle.rq_disk.specs.Device.{Images, Leaves}
use Rattle.rq_disk.specs.declared.device.LogDevice as log_device
use Rattle.rq_disk.specs.declared.device.PageDevice as page_device
use Rattle.rq_disk.specs.Memory.{if_yes, if_no}
use Rattle.rq_log.specs.Spelled.{AreSpelled, EndsWith}
use Rattle.rq_page.specs.Sizes.{Sizes, IsInRange, with_tags}
use Rattle.rq_store.specs.State.{State, ledger_of, open_ones_of, size_of, phase_of}
use Rattle.rq_sound.specs.Calls.{checkpointed}
use Rattle.rq_sound.specs.Sound.{IsSound}
use Rattle.rq_store.specs.Opening.{IsLeft, next_restart}
use Rattle.rq_store.specs.Fitting.{AllFit, FitsPage, HoldsBase}
use Rattle.rq_store.proofs.Opens.{busy_is}
use Rattle.rq_page.specs.Formatted.{IsFormatted, IsHeaderOf}
use Rattle.rq_engine.specs.Applied.{Applied}
use Rattle.rq_engine.specs.Crash.{IsCut}
use Rattle.rq_engine.specs.Migration.{IsCutGrown, MayGetTags}
use Rattle.rq_engine.proofs.Migrating.{may_get}
use Rattle.rq_engine.specs.Devices.{EachPair}
use Rattle.rq_engine.specs.Opened.{AreHonest, OpenStore}
use Rattle.rq_engine.specs.Says.{RefusedForCause, call_of, gave}
use Rattle.rq_engine.proofs.Causes.{has_cause}
use Rattle.rq_model.specs.Causes.{HasCause, IsCaused}
use Rattle.rq_engine.specs.declared.event.Event.{Event}
use Rattle.rq_level.specs.declared.writes.Outcome.TheVariants as outcome
use Rattle.rq_engine.specs.declared.event.Progress.TheVariants as progress
use Rattle.rq_engine.specs.declared.event.Reply.{Reply}
use Rattle.rq_engine.specs.declared.event.Reply.TheVariants as reply
use Rattle.rq_model.specs.Bases.{based, earlier, marked}
use Rattle.rq_model.proofs.Bases.{added_earlier}
use Rattle.rq_model.proofs.Cuts.{extends_join}
use Rattle.rq_engine.specs.Earlier.{on, rebased}
use Rattle.rq_analysis.proofs.Marked.{marked_length}
use Rattle.rq_restart.proofs.Pasts.{begun_on, incarnation_on, mended_added, opened_earlier, past_of, same_log}
use Rattle.rq_restart.specs.Past.{IsPast}
use Rattle.rq_restart.specs.Restarting.{IsReadAs, IsLeftOn}
use Rattle.rq_analysis.specs.Recovered.{IsRecovered, IsRecoveredFrom}
use Rattle.rq_analysis.proofs.Recovering.{recovered_from}
use Rattle.rq_restart.specs.Underway.{IsGoneOnWith, IsStore, IsSomeStore, IsLeftOrGoesOn}
use Rattle.rq_restart.specs.Once.{OneLogEach, OneSizeEach}
use Rattle.rq_restart.specs.declared.restart.Report.{Report}
use Rattle.rq_core.specs.Happenings.{Happening, Course, Tells, AddsCall, called, growth_in}
use Rattle.rq_core.specs.Happenings.Answer.{Answered, Crashed}
use Rattle.rq_core.specs.Headline.{AcknowledgedAreKept, EndsHistory, LeavesStores, LeftLast, IsHeadline, sizes_at}
use Rattle.rq_core.specs.Happened.{IsCrashed, IsOpened}
use Rattle.rq_core.specs.World.{World, IsCutBy, IsCutTagged, IsShut, IsOpen, LeftBehind, MayBeTold, Ran, CanCrash}
use Rattle.rq_core.proofs.HalfMade.{devices_after}
use Rattle.rq_core.specs.World.World.{Is_shut, Is_open}

not_shut : (failed : _) → phase_of failed ≡ Shut → ⊥
not_shut false e = cc e
not_shut true e = cc e

-- a store that stands where a history ends is open there
pub runs_there : (h : List Entry) (s : State) → ledger_of s ≡ ledger h → (ledger h).phase ≡ Shut → ⊥
runs_there h s at is = not_shut s.failed (ap (λ (l : Ledger). l.phase) at ∙ is)

pub caused : (e : Event) (r : Reply) (s : State) → RefusedForCause s e r → IsCaused (any_busy (ledger_of s).open_ones) (call_of e) (gave r)
caused e (reply.Refused r) s h = subst (λ b. HasCause b (call_of e) r) (sym (busy_is s.ends s.rows)) (has_cause s (call_of e) r h)
caused e (reply.Stepped progress.Ready) s h = tt
caused e (reply.Stepped (progress.Done lsn)) s h = tt
caused e (reply.Finished outcome.Sent) s h = tt
caused e (reply.Finished (outcome.Message m)) s h = tt
caused e (reply.Finished outcome.Closed) s h = tt
caused e (reply.Finished outcome.Undone) s h = tt
caused e _ s h = tt

-- ---- sizes

-- the model's size of a store, wherever its history has led
pub size_is : (z : Sizes) (h : List Entry) → size_of (sizes_at z h) ≡ size_at (size_of z) h
size_is z [] = refl
size_is z (Grew pages records ∷ h) = ap (with_clients pages) (size_is z h)
size_is z (_ ∷ h) = size_is z h

-- ---- where a history ends

-- what the end of a history asks of a store that stands there, whether it runs or has failed
pub record StandsAt (z : Sizes) (h : List Entry) (s : State) : Type 0 where
  pub legal : IsLegal (size_of z) h
  pub sizes : s.sizes ≡ sizes_at z h
  pub range : IsInRange s.sizes
  pub committed : committed_of s.records ≡ (ledger h).committed
  pub records : length s.records ≡ (ledger h).records
  pub incarnation : s.incarnation ≡ (ledger h).incarnation
  pub forced : s.forced ≡ (ledger h).forced
  pub open_ones : open_ones_of s.ends s.rows ≡ (ledger h).open_ones
  pub begun : incarnation_of s.records ≡ s.incarnation
  pub rules : KeepsRules s.records

pub stands_at : (z : Sizes) (h : List Entry) (s : State) → IsLegal (size_of z) h → s.sizes ≡ sizes_at z h → ledger_of s ≡ ledger h → IsSound s → StandsAt z h s
stands_at z h s legal sizes at sound = record {
  legal = legal;
  sizes = sizes;
  range = sound.range;
  committed = ap (λ (k : Ledger). k.committed) at;
  records = ap (λ (k : Ledger). k.records) at;
  incarnation = ap (λ (k : Ledger). k.incarnation) at;
  forced = ap (λ (k : Ledger). k.forced) at;
  open_ones = ap (λ (k : Ledger). k.open_ones) at;
  begun = sound.incarnation;
  rules = sound.log.rules;
}

-- with tag pages that it could get
with_range : (n : ℕ) (z : Sizes) → n ≤ 1024 → IsInRange z → IsInRange (with_tags n z)
with_range n z most r = record { directory_low = r.directory_low; directory_high = r.directory_high; cells_low = r.cells_low; cells_high = r.cells_high; tags_high = most }

-- what is left with the tag pages, where nothing of this log is lost
record IsAllLeft (y : Sizes) (now : List Record) (images : Images) (bytes : List ℕ) : Type 0 where
  left : IsLeft y images now
  are_spelled : AreSpelled now
  ends : EndsWith now bytes

-- the cut of a store whose records are all forced loses none of them
all_left : (y : Sizes) (t : State) (images : Images) (bytes : List ℕ) → t.forced ≡ length t.records → IsCut (record t { sizes = y }) images bytes → IsAllLeft y t.records images bytes
all_left y t images bytes all c =
    let within = c.forced in
    let lost : c.lost ≡ 0 = omega (arith, within, all) in
    let same : drop c.lost t.records ≡ t.records = ap (λ (n : ℕ). drop n t.records) lost in
    record { left = subst (IsLeft y images) same c.store; are_spelled = subst AreSpelled same c.told; ends = subst (λ (rs : List Record). EndsWith rs bytes) same c.spells }

-- one record for all
one_for_all : (s : State) (n : ℕ) → incarnation_of s.records ≡ s.incarnation → (images : Images) (bytes : List ℕ) → IsCutGrown n (checkpointed s) images bytes → IsAllLeft (with_tags n s.sizes) (based (incarnation_of s.records) s.records) images bytes
one_for_all s n begun images bytes c =
    subst (λ (i : ℕ). IsAllLeft (with_tags n s.sizes) (based i s.records) images bytes) (sym begun) (all_left (with_tags n s.sizes) (checkpointed s) images bytes (omega arith) c)

tagged_left : (s : State) (n : ℕ) (g : Growth) → incarnation_of s.records ≡ s.incarnation → (images : Images) (bytes : List ℕ) → IsCutTagged g n s images bytes → IsAllLeft (with_tags n s.sizes) (log_grown g s.records) images bytes
tagged_left s n (Grows pages) begun images bytes c = all_left (with_tags n s.sizes) s images bytes c.0 c.1
tagged_left s n Stays begun images bytes c = one_for_all s n begun images bytes c
tagged_left s n May_base begun images bytes c = one_for_all s n begun images bytes c
tagged_left s n (May_grow pages) begun images bytes c = one_for_all s n begun images bytes c

module _ {P L : Type 0} (p : page_device.Ghosts P) (l : log_device.Ghosts L) (honest_p : (d : P) → p.honest d) (honest_l : (d : L) → l.honest d) (z : Sizes) where
  abbrev Ran_to : Course → World P L → Type 0
  Ran_to course w = Ran p l z course w

  -- a call of an open store
  pub calls : (now_p : (d : P) (t : ℕ) (c : Images) → t ≤ p.moment d → Leaves (p.may_be d) c → p.left_since d t c) (now_l : (d : L) (t : ℕ) (c : List ℕ) → t ≤ l.moment d → l.may_leave d c → l.left_since d t c) (course : Course) (x : Happening) (e : Event) (r : Reply) (old new : OpenStore P L) → called course x ≡ Some (call_of e) → Applied p l old e r new
      → Ran_to course (Is_open old) → Ran_to ((x, Answered (gave r)) ∷ course) (Is_open new)
  calls now_p now_l course x e r old new is a ran =
      let o : IsOpen p l z ran.history old = ran.stands in
      let honest : AreHonest p l new = (honest_p new.pages, honest_l new.log) in
      let s = a.steps honest o.past o.long o.sound in
      let plain = never_break (call_of e) (gave r) s.entry s.says in
      let same : sizes_at z (s.entry ∷ ran.history) ≡ sizes_at z ran.history = size_stays with_tags (sizes_at z ran.history) s.entry plain in
      let there : Legal (size_of (sizes_at z ran.history)) (ledger_of (on o.past old.state)) s.entry = subst (λ y. Legal (size_of y) (ledger_of (on o.past old.state)) s.entry) o.sizes s.legal in
      record {
        history = s.entry ∷ ran.history;
        tells = (ran.history, ran.tells, subst (λ c. AddsCall c (gave r) ran.history (s.entry ∷ ran.history)) (sym is) (s.entry, s.says, subst (λ l. IsCaused (any_busy l.open_ones) (call_of e) (gave r)) o.ledger (caused e r (on o.past old.state) (a.cause honest o.past o.long o.sound)), refl));
        legal = (follows (size_of z) ran.history s.entry plain (subst (λ b. Legal (size_at (size_of z) ran.history) b s.entry) o.ledger (subst (λ y. Legal y (ledger_of (on o.past old.state)) s.entry) (size_is z ran.history) there)), ran.legal);
        stands = record {
          sizes = a.sizes ∙ o.sizes ∙ sym same;
          past = o.past;
          long = o.long ∙ ap (λ (u : List Record). length u) (sym a.unknown);
          ledger = s.after ∙ ap (after s.entry) o.ledger;
          sound = s.sound;
          devices = devices_after p l z now_p now_l ran.history o.past old new o.long o.ledger s.entry e r s.says a honest o.sound o.devices;
        };
        counted = tt;
      }

  -- whatever a crash leaves of a store that stands where a history ends may end the history
  abbrev Ends_at : Option ℕ → List Entry → Images → List ℕ → Type 0
  Ends_at tags h images bytes = (now : List Record) × IsStore (sizes_at z (crash_with tags (length now) h ∷ h)) now images bytes × EndsBy tags (size_of z) h now

  module _ (h : List Entry) (s : State) (k : StandsAt z h s) where
    abbrev Ends : Images → List ℕ → Type 0
    Ends images bytes = Ends_at None h images bytes

    ties : Ties (ledger h) s.records
    ties =
        let i = k.incarnation in
        let j = k.begun in
        record { committed = sym k.committed; records = sym k.records; incarnation = omega (arith, i, j) }

    range : IsInRange (sizes_at z h)
    range = subst IsInRange k.sizes k.range

    cut_told : CrashGoesOn (size_of z) → IsGrownBy (growth h) None → (images : Images) (bytes : List ℕ) → IsCut s images bytes → Ends images bytes
    cut_told law told images bytes c =
        let kept = drop c.lost s.records in
        let whole : take c.lost s.records ++ kept ≡ s.records = take-append-drop c.lost s.records in
        let left : IsLeft (sizes_at z h) images kept = subst (λ y. IsLeft y images kept) k.sizes c.store in
        let begun = c.incarnation in
        let i = k.incarnation in
        let f = k.forced in
        let n = length-drop c.lost s.records in
        let m = c.forced in (
          kept,
          record { range = range; are_spelled = c.told; is = c.spells; left = left },
          law h (take c.lost s.records) kept k.legal told (subst (Ties (ledger h)) (sym whole) ties) left.whole.rules (omega (arith, f, n, m)) (omega (arith, i, begun)),
        )

    -- the Base that a checkpoint puts in the place of all is left whole
    base_told : CheckpointCrashGoesOn (size_of z) → IsGrownBy (growth h) None → MayStand (growth h) (ledger h) → (images : Images) (bytes : List ℕ) → IsCut (checkpointed s) images bytes → Ends images bytes
    base_told law told may images bytes c =
        let all : List Record = based s.incarnation s.records in
        let within = c.forced in
        let lost : c.lost ≡ 0 = omega (arith, within) in
        let same : drop c.lost all ≡ all = ap (λ (n : ℕ). drop n all) lost in
        let left : IsLeft (sizes_at z h) images all = subst (IsLeft (sizes_at z h) images) same (subst (λ y. IsLeft y images (drop c.lost all)) k.sizes c.store) in
        let ends : EndsInCrash (size_of z) h (based (incarnation_of s.records) s.records) = law h s.records k.legal told ties k.rules may in (
          all,
          record { range = range; are_spelled = subst AreSpelled same c.told; is = subst (λ (rs : List Record). EndsWith rs bytes) same c.spells; left = left },
          subst (λ (i : ℕ). EndsInCrash (size_of z) h (based i s.records)) k.begun ends,
        )

    -- the tag pages of a migration stand over all records
    tagged_told : GrowthGoesOn (size_of z) → ((ledger h).phase ≡ Shut → ⊥) → (n : ℕ) → IsOfMigration (growth h) (ledger h) n → s.rows ≡ [] → MayGetTags n s → (images : Images) (bytes : List ℕ) → IsCutTagged (growth h) n s images bytes → Ends_at (Some n) h images bytes
    tagged_told law not_closed n of none may images bytes c =
        let now : List Record = log_grown (growth h) s.records in
        let a = tagged_left s n (growth h) k.begun images bytes c in
        let sizes : with_tags n s.sizes ≡ with_tags n (sizes_at z h) = ap (with_tags n) k.sizes in (
          now,
          record { range = subst IsInRange sizes (with_range n s.sizes (may_get s.sizes n may).2 k.range); are_spelled = a.are_spelled; is = a.ends; left = subst (λ y. IsLeft y images now) sizes a.left },
          law h n s.records k.legal
              (record { tags = subst (λ y. bad_tags y n ≡ false) (ap size_of k.sizes ∙ size_is z h) may; none_open = sym k.open_ones ∙ ap (open_ones_of s.ends) none; not_shut = not_closed })
              of ties k.rules,
        )

  -- by whether tag pages are left that it had not
  module _ (law : CrashGoesOn (size_of z)) (half : CheckpointCrashGoesOn (size_of z)) (grows : GrowthGoesOn (size_of z)) (h : List Entry) (s : State) (k : StandsAt z h s) (not_closed : (ledger h).phase ≡ Shut → ⊥) where
    ends_by : (tags : Option ℕ) → MayBeTold tags (growth h) (ledger h) → (images : Images) (bytes : List ℕ) → IsCutBy (growth h) (ledger h) tags s images bytes → Ends_at tags h images bytes
    ends_by None told images bytes (inl c) = cut_told h s k law told images bytes c
    ends_by None told images bytes (inr c) = base_told h s k half told c.0 images bytes c.1
    ends_by (Some n) told images bytes c = tagged_told h s k grows not_closed n told c.0 c.1 images bytes c.2

    pub leaves_open : (g : Growth) (pages : P) (log : L) → LeftBehind p l h g s pages log → LeavesStores p l z g h pages log
    leaves_open g pages log left images bytes a b =
        let c = left images bytes a b in
        let e = ends_by c.0 c.2 images bytes c.3 in
        record { tags = c.0; left = c.1; now = e.0; store = e.1; ends = e.2 }

  -- and so may whatever a crash leaves of one that is shut
  pub leaves_shut : (law : ShutCrashGoesOn (size_of z)) (h : List Entry) (pages : P) (log : L) → IsLegal (size_of z) h → IsShut p l z h pages log → LeavesStores p l z (growth h) h pages log
  leaves_shut law h pages log legal s = λ images bytes a b.
      let x = s.left images bytes a b in
      let store : IsStore (sizes_at z h) x.0 images bytes = x.2 in
      record {
        tags = None;
        left = none_told (growth h) (shut_told (size_of z) h legal s.phase);
        now = x.0;
        store = store;
        ends = law h s.older x.0 legal s.phase s.ties x.1 store.left.whole.order store.left.whole.rules;
      }

  module _ (some_p : (d : P) (page : ℕ) → p.may_be d page (p.seen d page)) (some_l : (d : L) → l.may_leave d (l.seen d)) where
    -- a crash, which leaves one image of each page, and one log
    pub crashed : (course : Course) (x : Happening) (pages new_pages : P) (log new_log : L) (count : ℕ) → CanCrash p l z course x pages log → IsCrashed p l pages new_pages log new_log count → Ran_to ((x, Crashed count) ∷ course) (Is_shut new_pages new_log)
    crashed course x pages new_pages log new_log count can c =
        let seen = l.seen new_log in
        let pick : EndsHistory p l z (growth_in x (growth can.history)) can.history (p.seen new_pages) seen = can.leaves (p.seen new_pages) seen (c.pages_left (p.seen new_pages) (some_p new_pages)) (c.log_left seen (some_l new_log)) in
        let older = can.history in
        let now = pick.now in
        let h = crash_with pick.tags (length now) older ∷ older in
        let store : IsStore (sizes_at z h) now (p.seen new_pages) seen = pick.store in
        let ends : EndsBy pick.tags (size_of z) older now = pick.ends in
        let m : count ≡ length now = c.holds now store.are_spelled store.is ∙ marked_length now store.left.whole.based in
        let only : EachPair p l new_pages new_log (IsStore (sizes_at z h) now) = λ images bytes a b.
        let pages_are : p.seen new_pages ≡ images = λ i q. (sym (c.pages_only q (images q) (a q))) i in
        subst (λ bs. IsStore (sizes_at z h) now images bs) (sym (c.log_only bytes b)) (subst (λ is. IsStore (sizes_at z h) now is seen) pages_are store) in
        record {
          history = h;
          tells = (older, can.tells, (can.may, pick.tags, pick.left, ap (λ (n : ℕ). crash_with pick.tags n older ∷ older) (sym m)));
          legal = ends.legal;
          stands = record { range = store.range; phase = is_shut pick.tags (length now) older; older = now; ties = ends.ties; left = λ images bytes a b. (now, ([], refl, tt), only images bytes a b) };
          counted = λ images bytes a b. (now, only images bytes a b, sym m);
        }
      where
        is_shut : (tags : Option ℕ) (n : ℕ) (h : List Entry) → (ledger (crash_with tags n h ∷ h)).phase ≡ Shut
        is_shut None n h = refl
        is_shut (Some pages) n h = refl

    -- the pages of a store that is shut fit its log, whichever image each of them has
    abbrev with_image : (ℕ → List ℕ) → ℕ → List ℕ → Images
    with_image seen page image q = if q == page then image else seen q

    is_image : (seen : ℕ → List ℕ) (page : ℕ) (image : List ℕ) → with_image seen page image page ≡ image
    is_image seen page image = if_yes page page image (seen page) refl

    leaves_image : (pages : P) (page : ℕ) (image : List ℕ) → p.may_be pages page image → Leaves (p.may_be pages) (with_image (p.seen pages) page image)
    leaves_image pages page image may q = elim (cases_eq q page) [
      | inl same ↦ subst (λ k. p.may_be pages k (with_image (p.seen pages) page image k)) (sym same) (subst (p.may_be pages page) (sym (is_image (p.seen pages) page image)) may)
      | inr other ↦ subst (p.may_be pages q) (sym (if_no q page image (p.seen pages q) other)) (some_p pages q)
    ]

    -- a log that goes on from another tells of the same records before its Base
    extends_earlier : (older log : List Record) → Extends older log → earlier log ≡ earlier older
    extends_earlier older log e = ap earlier (sym e.1) ∙ added_earlier e.0 older e.2

    -- the log of a store that is shut, as it is read
    pub record IsReadOf (y : Sizes) (older : List Record) (pages : P) (log : L) : Type 0 where
      pub read : List Record
      pub told : AreSpelled read
      pub reads : EndsWith read (l.seen log)
      pub more : Extends older read
      pub left : IsLeft y (p.seen pages) read
      pub each : EachPair p l pages log (IsSomeStore y (earlier read))

    pub read_of : (h : List Entry) (pages : P) (log : L) (s : IsShut p l z h pages log) → IsReadOf (sizes_at z h) s.older pages log
    read_of h pages log s =
        let x = s.left (p.seen pages) (l.seen log) (some_p pages) (some_l log) in
        let store : IsStore (sizes_at z h) x.0 (p.seen pages) (l.seen log) = x.2 in
        record {
          read = x.0;
          told = store.are_spelled;
          reads = store.is;
          more = x.1;
          left = store.left;
          each = λ images bytes a b. (let y = s.left images bytes a b in (y.0, y.2, extends_earlier s.older y.0 y.1 ∙ sym (extends_earlier s.older x.0 x.1)));
        }

    module _ (one : OneLogEach) where
      -- two logs that bytes tell, before whose Bases the same stood
      one_whole : (a b : List Record) (bytes : List ℕ) → earlier a ≡ earlier b → AreSpelled a → AreSpelled b → EndsWith a bytes → EndsWith b bytes → a ≡ b
      one_whole a b bytes past are told ends end = same_log a b (one a b bytes are told ends end) past

      all_fit : (h : List Entry) (pages : P) (log : L) (s : IsShut p l z h pages log) (r : IsReadOf (sizes_at z h) s.older pages log) → AllFit (p.may_be pages) (sizes_at z h) r.read
      all_fit h pages log s r = record {
        superblock = λ c may. subst (IsFormatted (sizes_at z h) 0) (is_image (p.seen pages) 0 c) (at 0 c may).fits.superblock;
        headers = λ q c low high may. subst (IsHeaderOf (sizes_at z h) q) (is_image (p.seen pages) q c) ((at q c may).fits.headers q low high);
        pages = λ q c low high may. subst (FitsPage (sizes_at z h) r.read q) (is_image (p.seen pages) q c) ((at q c may).fits.pages q low high);
        based = λ q c low high may. subst (HoldsBase (sizes_at z h) r.read q) (is_image (p.seen pages) q c) ((at q c may).based q low high);
      } where
        at : (q : ℕ) (c : List ℕ) → p.may_be pages q c → IsLeft (sizes_at z h) (with_image (p.seen pages) q c) r.read
        at q c may =
            let x = r.each (with_image (p.seen pages) q c) (l.seen log) (leaves_image pages q c may) (some_l log) in
            let store : IsStore (sizes_at z h) x.0 (with_image (p.seen pages) q c) (l.seen log) = x.1 in
            subst (IsLeft (sizes_at z h) (with_image (p.seen pages) q c)) (one_whole x.0 r.read (l.seen log) x.2 store.are_spelled r.told store.is r.reads) store.left

      -- a restart that opened the store
      pub record IsReopened (h : List Entry) (report : Report) (new : OpenStore P L) : Type 0 where
        pub legal : IsLegal (size_of z) (Restarted_entry report.incarnation report.records ∷ h)
        pub stands : IsOpen p l z (Restarted_entry report.incarnation report.records ∷ h) new

      pub reopened : (size_once : OneSizeEach) (goes : RestartGoesOn (size_of z)) (h : List Entry) (pages : P) (log : L) (report : Report) (new : OpenStore P L) → IsLegal (size_of z) h → IsShut p l z h pages log → IsOpened p l pages log report new → IsReopened h report new
      reopened size_once goes h pages log report new legal s opens =
          let o = opens.opens in
          let r = read_of h pages log s in
          let now : List Record = r.read in
          let past : List Record = earlier now in
          let whole = r.left.whole in
          let read : IsReadAs l log new.log now = record { honest = honest_l new.log; are_spelled = r.told; reads = r.reads } in
          let is : new.state.sizes ≡ sizes_at z h = size_once new.state.sizes (sizes_at z h) (p.seen pages 0) (o.sizes (honest_p new.pages)) (record { range = s.range; formatted = r.left.fits.superblock }) in
          let on_left : IsLeftOn p new.state.sizes pages new.pages now = record { honest = honest_p new.pages; left = subst (λ y. IsLeft y (p.seen pages) now) (sym is) r.left } in
          let opened = (o.over now read).value in
          let back = o.recovers now read on_left in
          let rolled_back = drop 1 new.state.records in
          let all = rebased past rolled_back in
          let is_past : IsPast past rolled_back = (mended_added past (marked now) rolled_back opened.0).past (past_of now r.told) in
          let from : IsRecoveredFrom (sizes_at z h) now all = recovered_from (sizes_at z h) now all whole (subst (λ y. IsRecovered y now all) is back.recovered) in
          let law = goes h s.older all legal s.phase s.ties (extends_join s.older now all r.more from.extends) from.whole.order in
          let content : (ledger h).committed ≡ committed_of now = ap (λ (k : Ledger). k.committed) (sym law.ledger) ∙ from.committed in
          let entry : ledger_of (on past new.state) ≡ after (Restarted_entry report.incarnation report.records) (ledger h) = back.entry (ledger h) content in
          let begun : incarnation_of all + 1 ≡ report.incarnation = ap (λ n. n + 1) (incarnation_on past rolled_back is_past) ∙ sym (ap (λ (y : State). y.incarnation) opened.1) ∙ ap (λ (k : Ledger). k.incarnation) entry in
          let count : length (next_restart all ∷ all) ≡ report.records = ap (λ (b : List Record). length b) (sym (begun_on past rolled_back is_past)) ∙ ap (λ (y : State). length (rebased past y.records)) (sym opened.1) ∙ ap (λ (k : Ledger). k.records) entry in
          let e : Restarted_entry (incarnation_of all + 1) (length (next_restart all ∷ all)) ≡ Restarted_entry report.incarnation report.records = ap (λ n. Restarted_entry n (length (next_restart all ∷ all))) begun ∙ ap (Restarted_entry report.incarnation) count in
          record {
            legal = subst (λ (k : Entry). IsLegal (size_of z) (k ∷ h)) e law.legal;
            stands = record {
              sizes = is;
              past = past;
              long = opened_earlier now new.state opened r.told whole.based;
              ledger = entry;
              sound = back.sound;
              devices = inl (record { untried = o.untried; stays = shut_told (size_of z) h legal s.phase; fit = back.fit whole.based (subst (λ y. AllFit (p.may_be pages) y now) (sym is) (all_fit h pages log s r)) });
            };
          }

      -- a restart that was refused
      pub stays_shut : (h : List Entry) (pages new_pages : P) (log new_log : L) (s : IsShut p l z h pages log) (r : IsReadOf (sizes_at z h) s.older pages log) → EachPair p l new_pages new_log (IsLeftOrGoesOn l log (sizes_at z h) r.read) → IsShut p l z h new_pages new_log
      stays_shut h pages new_pages log new_log s r leaves =
          record {
            range = s.range;
            phase = s.phase;
            older = s.older;
            ties = s.ties;
            left = λ images bytes a b.
                let x = leaves images bytes a b in
                let store : IsStore (sizes_at z h) x.0 images bytes = x.1 in
                (x.0, over images bytes x.0 store x.2 x.3, store);
          } where
            over : (images : Images) (bytes : List ℕ) (now : List Record) → IsStore (sizes_at z h) now images bytes → earlier now ≡ earlier r.read → l.may_leave log bytes ⊎ IsGoneOnWith r.read (l.seen log) now bytes → Extends s.older now
            over images bytes now store past (inl was) =
                let y = s.left (p.seen pages) bytes (some_p pages) was in
                let there : IsStore (sizes_at z h) y.0 (p.seen pages) bytes = y.2 in
                let same = past ∙ extends_earlier s.older r.read r.more ∙ sym (extends_earlier s.older y.0 y.1) in
                subst (Extends s.older) (sym (one_whole now y.0 bytes same store.are_spelled there.are_spelled store.is there.is)) y.1
            over images bytes now store past (inr on) = extends_join s.older r.read now r.more on.more

  -- the headline, where an open store is given up, and where one is shut
  pub headline : (fifo : (h : List Entry) → IsLegal (size_of z) h → FifoThroughout h) (stay : AcknowledgedStay (size_of z)) (course : Course) (h : List Entry) (pages : P) (log : L) → Tells course h → IsLegal (size_of z) h
      → LeavesStores p l z (growth h) h pages log → LeftLast p l z h course pages log → IsHeadline p l z course pages log
  headline fifo stay course h pages log tells legal leaves last = record {
    history = h;
    tells = tells;
    legal = legal;
    order = fifo h legal;
    acknowledged = kept h legal;
    leaves = λ images bytes a b. let w = leaves images bytes a b in (w, kept (crash_with w.tags (length w.now) h ∷ h) w.ends.legal);
    left = last;
  } where
    kept : (k : List Entry) → IsLegal (size_of z) k → AcknowledgedAreKept k
    kept k is newer older t lsn e i = subst (λ (x : List Entry). In t (commits x)) e (stay newer older t lsn (subst (IsLegal (size_of z)) (sym e) is) i)
