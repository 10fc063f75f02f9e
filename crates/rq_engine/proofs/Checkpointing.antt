-- What a crash in a checkpoint leaves.
use Rattle.std.proofs.Common.{◌≡◌, ◌≢◌, ◌⊎◌, ℕ, zero, suc, ◌+◌, ◌-◌, ◌%◌, ◌^◌, ◌<◌, ◌≤◌, Bool, true, false, List, [], ◌∷◌, length, drop, slice_set, Option, Some, None, Result, Ok, Err, IfOk, refl, sym, ◌∙◌, ap, subst, inl, inr, ⊎_elim, arith}
use Rattle.std.proofs.lemmas.Bool.{cases_eq, true_from_ne_false, true≢false}
use Rattle.rq_model.specs.declared.refusal.Refusal.{Refusal}
use Rattle.rq_model.specs.declared.refusal.Refusal.TheVariants as why
use Rattle.rq_model.specs.History.Call.{Checkpoint}
use Rattle.rq_model.specs.Replay.{Reply as Gave}
use Rattle.rq_model.specs.Replay.Reply.{Gave_checkpoint, Gave_refusal}
use Rattle.rq_model.specs.Vocabulary.{first, is_some}
use Rattle.rq_groups.specs.Ends.{HeldEnds}
use Rattle.rq_txn.specs.Rows.{Row}
use Rattle.rq_record.specs.Spelling.{IsInRange}
use Rattle.rq_log.proofs.Kept.{fits_base}
use Rattle.rq_log.specs.Spelled.{spelled_all}
use Rattle.rq_pool.specs.declared.Written.{Written}
use Rattle.rq_pool.specs.declared.Written.TheVariants as out
use Rattle.rq_pool.specs.Pooled.{image_at, is_changed}
use Rattle.rq_pool.specs.Writing.{DeviceAfter, HasChangeBeyond, MayHaveWritten, NoChangeBeyond, changed_after}
use Rattle.rq_store.specs.State.{open_ones_of}
use Rattle.rq_sound.specs.ModelSteps.{IsModelStep}
use Rattle.rq_engine.specs.Answers.{AnswersLegally, IsCausedIn}
use Rattle.rq_engine.proofs.Earlier.{full_on, lsn_on, standing_on}
use Rattle.rq_engine.proofs.Refusals.{refuse, refuse_failed}
use Rattle.rq_engine.proofs.Standing.{failed_steps}
use Rattle.rq_model.specs.declared.record.Record.{Record}
use Rattle.rq_model.specs.declared.record.Record.TheVariants.{Base}
use Rattle.rq_model.specs.Bases.{based, gone, standing}
use Rattle.rq_model.specs.Commits.{committed_of}
use Rattle.rq_model.proofs.Bases.{length_standing}
use Rattle.rq_model.proofs.Rises.{kept_less}
use Rattle.rq_page.specs.Pages.{lsn_of}
use Rattle.rq_page.specs.Sizes.{Sizes, page_count}
use Rattle.rq_disk.specs.Device.{Images, Leaves, Only}
use Rattle.rq_disk.specs.Memory.{if_no}
use Rattle.rq_disk.specs.declared.device.LogDevice as log_device
use Rattle.rq_disk.specs.declared.device.PageDevice as page_device
use Rattle.rq_log.specs.Crash.{LeavesOnly}
use Rattle.rq_log.specs.Logged.{IsLog, IsSettled, Logged}
use Rattle.rq_log.specs.Spelled.{spelled, AreSpelled, IsBeginning}
use Rattle.rq_log.proofs.Moments.{joined, weaker}
use Rattle.rq_log.proofs.Runs.{all_of}
use Rattle.rq_store.specs.State.{State}
use Rattle.rq_store.specs.Fitting.{AllFit, FitsPage, HoldsBase, image_in, oldest}
use Rattle.rq_sound.specs.Calls.{checkpointed}
use Rattle.rq_sound.specs.Sound.{IsSound}
use Rattle.rq_sound.proofs.Checkpoints.{checkpoint, checkpoint_sound}
use Rattle.rq_sound.proofs.Contracts.{calls_keep}
use Rattle.rq_engine.specs.Opened.{AreHonest, OpenStore, WritesWhen, pooled, state_after}
use Rattle.rq_engine.specs.Crash.{AreFit, IsCut, KeepsFit, LeavesCut}
use Rattle.rq_engine.specs.Checkpoint.{CountsNone, CountsOne, HasFewer, HasMadeOneRecord, MayMakeOneRecord, IsBeginningOrBase, IsCutOrBased, IsStopped, KeepsFitOrBased, NotCheckpointed}
use Rattle.rq_engine.specs.Devices.{KeepsPage, Path}
use Rattle.rq_engine.specs.Devices.Path.{Start, Pages, Log}
use Rattle.rq_engine.specs.Earlier.{IsEarlier, on, over, rebased}
use Rattle.rq_engine.proofs.Crashing.{IsOnDevice, are_left, cut, on_device}
use Rattle.rq_engine.proofs.Earlier.{long_on}

-- ---- runs of device calls

module _ {P L : Type 0} (p : page_device.Ghosts P) (l : log_device.Ghosts L) where
  -- what has Q at each moment has R
  pub path_weaker : (Q R : Images → List ℕ → Type 0) {pages now : P} {log new : L} → ((images : Images) (bytes : List ℕ) → Q images bytes → R images bytes) → Path p l Q pages log now new → Path p l R pages log now new
  path_weaker Q R f (Start each) = Start (λ images bytes a b. f images bytes (each images bytes a b))
  path_weaker Q R f (Pages first run) = Pages (path_weaker Q R f first) (record { later = run.later; each = λ images since bytes b. f images bytes (run.each images since bytes b) })
  path_weaker Q R f (Log first run) = Log (path_weaker Q R f first) (weaker l _ _ _ _ run (λ bytes each images a. f images bytes (each images a)))

  -- two runs, one after the other
  pub path_join : {Q : Images → List ℕ → Type 0} {pages mid now : P} {log between new : L} → Path p l Q pages log mid between → Path p l Q mid between now new → Path p l Q pages log now new
  path_join first (Start each) = first
  path_join first (Pages second run) = Pages (path_join first second) run
  path_join first (Log second run) = Log (path_join first second) run

-- ---- cuts

-- a cut of a store that has more forced, or has failed, is one of the store
pub cut_forced : (s : State) (n : ℕ) (f : _) (images : Images) (bytes : List ℕ) → s.forced ≤ n → IsCut (record s { forced = n; failed = f }) images bytes → IsCut s images bytes
cut_forced s n f images bytes le c =
    let within = c.forced in
    let more = c.durable in
    let less = kept_less s.forced n (committed_of s.records) le in
    record {
      lost = c.lost;
      forced = omega (arith, le, within);
      incarnation = c.incarnation;
      told = c.told;
      spells = c.spells;
      begins = c.begins;
      store = c.store;
      durable = omega (arith, less, more);
      content = c.content;
    }

module _ {P L : Type 0} (p : page_device.Ghosts P) (l : log_device.Ghosts L) where
  pub either : (old new : OpenStore P L) → KeepsFit p l old new → KeepsFitOrBased p l old new
  either old new keeps none h e long k fit =
      let stays = keeps none h e long k fit in
      record { fit = λ running. stays.fit; crash = path_weaker p l (IsCut (on e old.state)) (IsCutOrBased (on e old.state)) (λ images bytes c. inl c) stays.crash }

  -- calls that leave the lists, one after the other
  pub keeps_join : (old mid new : OpenStore P L) → mid.state ≡ old.state → mid.replacing ≡ old.replacing → (AreHonest p l new → AreHonest p l mid) → KeepsFit p l old mid → KeepsFit p l mid new → KeepsFit p l old new
  keeps_join old mid new same tried falls first second none h e long k fit =
      let one = first none (falls h) e long k fit in
      let two = second (tried ∙ none) h e (subst (IsEarlier e) (sym same) long) (subst (λ (s : State). IsSound (on e s)) (sym same) k) one.fit in
      record { fit = two.fit; crash = path_join p l one.crash (subst (λ (s : State). Path p l (IsCut (on e s)) mid.pages mid.log new.pages new.log) same two.crash) }

  -- the same behind a force
  pub forced_join : (old mid new : OpenStore P L) (n : ℕ) → mid.state ≡ record old.state { forced = n } → old.state.forced ≤ n → mid.replacing ≡ old.replacing → (AreHonest p l new → AreHonest p l mid)
      → ((e : List Record) → IsEarlier e old.state → IsSound (on e old.state) → IsSound (on e mid.state)) → KeepsFit p l old mid → KeepsFit p l mid new → KeepsFit p l old new
  forced_join old mid new n same more tried falls sound first second none h e long k fit =
      let one = first none (falls h) e long k fit in
      let two = second (tried ∙ none) h e (subst (IsEarlier e) (sym same) long) (sound e long k) one.fit in
      let crash : Path p l (IsCut (record (on e old.state) { forced = n })) mid.pages mid.log new.pages new.log = subst (λ (s : State). Path p l (IsCut (on e s)) mid.pages mid.log new.pages new.log) same two.crash in
      record {
        fit = two.fit;
        crash = path_join p l one.crash (path_weaker p l (IsCut (record (on e old.state) { forced = n })) (IsCut (on e old.state)) (λ images bytes c. cut_forced (on e old.state) n old.state.failed images bytes more c) crash);
      }

  -- or that only force records
  pub either_join : (old mid new : OpenStore P L) (n : ℕ) → mid.state ≡ record old.state { forced = n } → old.state.forced ≤ n → mid.replacing ≡ old.replacing → (AreHonest p l new → AreHonest p l mid)
      → ((e : List Record) → IsEarlier e old.state → IsSound (on e old.state) → IsSound (on e mid.state)) → KeepsFit p l old mid → KeepsFitOrBased p l mid new → KeepsFitOrBased p l old new
  either_join old mid new n same more tried falls sound first second none h e long k fit =
      let one = first none (falls h) e long k fit in
      let two = second (tried ∙ none) h e (subst (IsEarlier e) (sym same) long) (sound e long k) one.fit in
      let crash : Path p l (IsCutOrBased (record (on e old.state) { forced = n })) mid.pages mid.log new.pages new.log = subst (λ (s : State). Path p l (IsCutOrBased (on e s)) mid.pages mid.log new.pages new.log) same two.crash in
      record {
        fit = two.fit;
        crash = path_join p l (path_weaker p l (IsCut (on e old.state)) (IsCutOrBased (on e old.state)) (λ images bytes c. inl c) one.crash)
            (path_weaker p l (IsCutOrBased (record (on e old.state) { forced = n })) (IsCutOrBased (on e old.state)) (λ images bytes c. ⊎_elim (λ a. inl (cut_forced (on e old.state) n old.state.failed images bytes more a)) (λ b. inr b) c) crash);
      }

-- ---- the Base

pub checkpointed_on : (e : List Record) (s : State) → IsEarlier e s → on e (checkpointed s) ≡ checkpointed (on e s)
checkpointed_on e s h =
    ap (λ (n : ℕ). record s { records = Base n s.incarnation ∷ rebased e s.records; forced = suc n }) (sym (long_on e s h))

set_clears : (changed : List Bool) (page q : ℕ) → (q ≢ page → is_changed changed q ≡ false) → is_changed (slice_set changed page false) q ≡ false
set_clears [] page q others = refl
set_clears (c ∷ changed) zero zero others = refl
set_clears (c ∷ changed) zero (suc q) others = others (λ e. absurd (omega (arith, e)))
set_clears (c ∷ changed) (suc page) zero others = others (λ e. absurd (omega (arith, e)))
set_clears (c ∷ changed) (suc page) (suc q) others = set_clears changed page q (λ ne. others (λ e. ne (omega (arith, e))))

module _ {P L : Type 0} (p : page_device.Ghosts P) (l : log_device.Ghosts L) (s : OpenStore P L) (k : IsSound s.state) (none : s.state.rows ≡ []) (all : s.state.forced ≡ length s.state.records) (told : IsOnDevice s.state) (fit : AreFit p s)
    (pages : (q : ℕ) (c : List ℕ) → 1 ≤ q → q < page_count s.state.sizes → p.may_be s.pages q c → c ≡ image_in s.state.images q) (fits : AreSpelled (based s.state.incarnation s.state.records)) where
  abbrev z : Sizes
  z = s.state.sizes

  abbrev now : State
  now = checkpointed s.state

  sound : IsSound now
  sound = checkpoint_sound s.state k none

  told_now : IsOnDevice now
  told_now = (fits, λ some. omega arith)

  whole : oldest now.forced now.records ≡ now.records
  whole = ap (λ (n : ℕ). drop n now.records) (let n : length now.records - now.forced ≡ 0 = omega arith in n)

  -- a crash leaves just the images
  pub based_fit : AllFit (p.may_be s.pages) z (oldest now.forced now.records)
  based_fit = subst (AllFit (p.may_be s.pages) z) (sym whole) (record {
    superblock = fit.superblock;
    headers = fit.headers;
    pages = λ q c low high may. subst (FitsPage z now.records q) (sym (pages q c low high may)) (sound.fits.pages q low high);
    based = λ q c low high may. subst (HoldsBase z now.records q) (sym (pages q c low high may)) (sound.based q low high);
  })

  cut_based : (images : Images) (bytes : List ℕ) → Leaves (p.may_be s.pages) images → bytes ≡ spelled now.records → IsCut now images bytes
  cut_based images bytes there is =
      cut now sound told_now images bytes (are_left (p.may_be s.pages) z (oldest now.forced now.records) images based_fit there)
      (all_of (standing now.records) (now.forced - gone now.records) bytes (let one : now.forced - gone now.records ≤ 1 = omega arith in one) is)

  cut_whole : (images : Images) (bytes : List ℕ) → Leaves (p.may_be s.pages) images → bytes ≡ spelled s.state.records → IsCut s.state images bytes
  cut_whole images bytes there is =
      cut s.state k told images bytes (are_left (p.may_be s.pages) z (oldest s.state.forced s.state.records) images fit there)
      (all_of (standing s.state.records) (s.state.forced - gone s.state.records) bytes (let stand = length_standing s.state.records in omega (arith, all, stand)) is)

  pub replace_path : (new : L) → LeavesCut p l s → LeavesOnly l s.log new (λ c. (c ≡ spelled s.state.records) ⊎ (c ≡ spelled now.records)) → Path p l (IsCutOrBased s.state) s.pages s.log s.pages new
  replace_path new leaves run =
      Log (Start (λ images bytes a b. inl (leaves images bytes a b)))
      (weaker l s.log new (λ c. (c ≡ spelled s.state.records) ⊎ (c ≡ spelled now.records)) (λ bytes. (images : Images) → Leaves (p.may_be s.pages) images → IsCutOrBased s.state images bytes) run
      (λ bytes c images there. ⊎_elim (λ a. inl (cut_whole images bytes there a)) (λ b. inr (cut_based images bytes there b)) c))

-- over any earlier records
module _ {P L : Type 0} (p : page_device.Ghosts P) (l : log_device.Ghosts L) (old new : OpenStore P L) (none : old.state.rows ≡ []) (all : old.state.forced ≡ length old.state.records) (told : IsOnDevice old.state) (range : IsInRange (Base (length old.state.records) old.state.incarnation))
    (images : p.honest old.pages → (q : ℕ) (c : List ℕ) → 1 ≤ q → q < page_count old.state.sizes → p.may_be old.pages q c → c ≡ image_in old.state.images q) (cut : old.replacing ≡ false → l.honest old.log → (e : List Record) → IsEarlier e old.state → IsSound (on e old.state) → AreFit p (over e old) → LeavesCut p l (over e old))
    (pages : new.pages ≡ old.pages) (falls : l.honest new.log → l.honest old.log) (run : old.replacing ≡ false → l.honest new.log → LeavesOnly l old.log new.log (λ c. (c ≡ spelled old.state.records) ⊎ (c ≡ spelled (based old.state.incarnation old.state.records)))) where
  module _ (e : List Record) (long : IsEarlier e old.state) (k : IsSound (on e old.state)) (fit : AreFit p (over e old)) (untried : old.replacing ≡ false) (h : AreHonest p l new) where
    longer : length (rebased e old.state.records) ≡ length old.state.records
    longer = long_on e old.state long

    there : p.honest old.pages
    there = subst (λ (d : P). p.honest d) pages h.0

    fits : AreSpelled (based old.state.incarnation (rebased e old.state.records))
    fits = (fits_base (length (rebased e old.state.records)) old.state.incarnation (subst (λ (n : ℕ). IsInRange (Base n old.state.incarnation)) (sym longer) range), tt)

    stands : standing (rebased e old.state.records) ≡ standing old.state.records
    stands = (standing_on e old.state.records told.0 long).0

    run_over : LeavesOnly l old.log new.log (λ c. (c ≡ spelled (rebased e old.state.records)) ⊎ (c ≡ spelled (based old.state.incarnation (rebased e old.state.records))))
    run_over = weaker l old.log new.log _ _ (run untried h.1) (λ c. ⊎_elim
        (λ a. inl (a ∙ ap spelled_all (sym stands)))
        (λ b. inr (b ∙ ap (λ (n : ℕ). spelled (Base n old.state.incarnation ∷ [])) (sym longer))))

    path : Path p l (IsCutOrBased (on e old.state)) old.pages old.log new.pages new.log
    path = subst (λ (d : P). Path p l (IsCutOrBased (on e old.state)) old.pages old.log d new.log) (sym pages)
        (replace_path p l (over e old) k none (all ∙ sym longer) (on_device e old.state long told) fit (images there) fits new.log (cut untried (falls h.1) e long k fit) run_over)

  -- the Base stands there
  pub base_put : new.state ≡ checkpointed old.state → KeepsFitOrBased p l old new
  base_put is untried h e long k fit = record {
    fit = λ running. subst (λ (s : State). AllFit (p.may_be new.pages) s.sizes (oldest s.forced s.records)) (sym (ap (on e) is ∙ checkpointed_on e old.state long))
        (subst (λ (d : P). AllFit (p.may_be d) old.state.sizes (oldest (checkpointed (on e old.state)).forced (checkpointed (on e old.state)).records)) (sym pages)
        (based_fit p l (over e old) k none (all ∙ sym (longer e long k fit untried h)) (on_device e old.state long told) fit (images (there e long k fit untried h)) (fits e long k fit untried h)));
    crash = path e long k fit untried h;
  }

  -- or its device has failed
  pub base_missed : new.state ≡ record old.state { failed = true } → KeepsFitOrBased p l old new
  base_missed is untried h e long k fit = record {
    fit = λ running. subst (λ (s : State). AllFit (p.may_be new.pages) s.sizes (oldest s.forced s.records)) (sym (ap (on e) is))
        (subst (λ (d : P). AllFit (p.may_be d) old.state.sizes (oldest old.state.forced (rebased e old.state.records))) (sym pages) fit);
    crash = path e long k fit untried h;
  }

-- ---- why a checkpoint is refused

-- an open transaction has its entry
pub some_open : (ends : HeldEnds) (rows : List Row) → rows ≢ [] → is_some (first (open_ones_of ends rows)) ≡ true
some_open ends [] some = absurd (some refl)
some_open ends (r ∷ rows) some = refl

pub none_open : (ends : HeldEnds) (rows : List Row) → rows ≡ [] → is_some (first (open_ones_of ends rows)) ≡ false
none_open ends rows none = ap (λ (rs : List Row). is_some (first (open_ones_of ends rs))) none

-- no page of a sound store is ahead of its log
pub none_beyond : {P L : Type 0} (old : OpenStore P L) (e : List Record) → IsEarlier e old.state → IsSound (on e old.state) → HasChangeBeyond (pooled old) (length old.state.records) → ⊥
none_beyond old e long k beyond =
    let within = (k.fits.pages beyond.0 beyond.1 beyond.2.of_store).within in
    let more = beyond.3 in
    let same = long_on e old.state long in
    omega (arith, within, more, same)

pub refused_legally : {P L X : Type 0} (p : page_device.Ghosts P) (l : log_device.Ghosts L) (old new : OpenStore P L) (gives : X → Gave) (r : Refusal) → NotCheckpointed p l old new r → AnswersLegally p l old Checkpoint gives (Err r) new
refused_legally p l old new gives why.Failed n h e long k =
    subst (λ (s : OpenStore _ _). IsModelStep (on e old.state) Checkpoint (Gave_refusal why.Failed) (on e s.state) × IsCausedIn (on e old.state) Checkpoint why.Failed) (sym n.1) (refuse_failed (on e old.state) Checkpoint n.0 k)
refused_legally p l old new gives why.NotQuiet n h e long k =
    let some = some_open old.state.ends old.state.rows n.1 in
    subst (λ (s : OpenStore _ _). IsModelStep (on e old.state) Checkpoint (Gave_refusal why.NotQuiet) (on e s.state) × IsCausedIn (on e old.state) Checkpoint why.NotQuiet) (sym n.2)
    (refuse (on e old.state) Checkpoint why.NotQuiet refl tt (rw (n.0, some) refl) k)
refused_legally p l old new gives why.LogFull n h e long k =
    let none = none_open old.state.ends old.state.rows n.1 in
    let full = full_on e old.state long 1 ∙ n.2 in
    subst (λ (s : OpenStore _ _). IsModelStep (on e old.state) Checkpoint (Gave_refusal why.LogFull) (on e s.state) × IsCausedIn (on e old.state) Checkpoint why.LogFull) (sym n.3)
    (refuse (on e old.state) Checkpoint why.LogFull refl tt (rw (n.0, none, full) refl) k)
refused_legally p l old new gives why.DiskWrite n h e long k =
    subst (λ (s : State). IsModelStep (on e old.state) Checkpoint (Gave_refusal why.DiskWrite) (on e s) × IsCausedIn (on e old.state) Checkpoint why.DiskWrite) (sym n.0.state) (failed_steps (on e old.state) k n.0.could.running Checkpoint, refl)
refused_legally p l old new gives why.NotForced n h e long k = absurd (none_beyond old e long k n.3)
refused_legally p l old new gives _ n h e long k = absurd n

-- where it stopped in its midst, and counts no more as forced than before
pub stopped_is : {P L : Type 0} (p : page_device.Ghosts P) (l : log_device.Ghosts L) (old mid new : OpenStore P L) (r : Refusal) → MayMakeOneRecord old → IsStopped old.state mid.state r → CountsOne p l old mid → HasFewer old.changed mid.changed
    → ((page : ℕ) → page_count old.state.sizes ≤ page → KeepsPage p old.pages mid.pages page) → new.state ≡ record mid.state { forced = old.state.forced } → new.changed ≡ mid.changed → new.pages ≡ mid.pages → new.log ≡ mid.log → NotCheckpointed p l old new r
stopped_is p l old mid new why.DiskWrite could s counts fewer beyond is marks pages log = (
  record {
    could = could;
    state = is ∙ ap (λ (x : State). record x { forced = old.state.forced }) s.0;
    fewer = λ page h. ap (λ (m : List Bool). is_changed m page) marks ∙ fewer page h;
    beyond = subst (λ (d : _). (page : ℕ) → page_count old.state.sizes ≤ page → KeepsPage p old.pages d page) (sym pages) beyond;
  },
  subst (λ (d : _). CountsOne p l old (record new { pages = d })) (sym pages) (subst (λ (d : _). CountsOne p l old (record new { pages = mid.pages; log = d })) (sym log) counts),
)
stopped_is p l old mid new _ could s counts fewer beyond is marks pages log = absurd s

-- ---- failures that are counted

module _ {P L : Type 0} (p : page_device.Ghosts P) (l : log_device.Ghosts L) where
  -- none was counted before it
  pub counts_one : (old mid new : OpenStore P L) → p.faults mid.pages ≡ p.faults old.pages → l.faults mid.log ≡ l.faults old.log → CountsOne p l mid new → CountsOne p l old new
  counts_one old mid new pages log (inl c) = inl (c.0 ∙ ap (λ (n : ℕ). (n + 1) % 2 ^ 64) pages, c.1 ∙ log)
  counts_one old mid new pages log (inr c) = inr (c.0 ∙ pages, c.1 ∙ ap (λ (n : ℕ). (n + 1) % 2 ^ 64) log)

  -- a record for all, behind a force and what leaves the lists
  made_later : (old mid new : OpenStore P L) (lsn n : ℕ) → MayMakeOneRecord old → mid.state ≡ record old.state { forced = n } → mid.replacing ≡ old.replacing
      → p.faults mid.pages ≡ p.faults old.pages → l.faults mid.log ≡ l.faults old.log → ((page : ℕ) → page_count old.state.sizes ≤ page → KeepsPage p old.pages new.pages page)
      → HasMadeOneRecord p l mid new lsn → HasMadeOneRecord p l old new lsn
  made_later old mid new lsn n could is tried pages log beyond m = record {
    could = could;
    lsn = m.lsn ∙ ap (λ (s : State). length s.records + 1) is;
    state = m.state ∙ ap checkpointed is;
    reads = m.reads;
    durable = m.durable;
    pages = λ h page low high. subst (λ (s : State). Only (image_at s.images page) (p.may_be new.pages page)) is (m.pages h page low (subst (λ (s : State). page < page_count s.sizes) (sym is) high));
    clean = λ page low high. m.clean page low (subst (λ (s : State). page < page_count s.sizes) (sym is) high);
    beyond = beyond;
    replacing = m.replacing ∙ tried;
    counts = (m.counts.0 ∙ pages, m.counts.1 ∙ log);
  }

  pub made_after : (old mid new : OpenStore P L) (n : ℕ) (answer : Result ℕ Refusal) → MayMakeOneRecord old → mid.state ≡ record old.state { forced = n } → mid.replacing ≡ old.replacing → CountsNone p l old mid
      → ((page : ℕ) → page_count old.state.sizes ≤ page → KeepsPage p old.pages new.pages page) → IfOk answer (HasMadeOneRecord p l mid new) → IfOk answer (HasMadeOneRecord p l old new)
  made_after old mid new n (Ok lsn) could is tried counts beyond m = made_later old mid new lsn n could is tried counts.0 counts.1 beyond m
  made_after old mid new n (Err r) could is tried counts beyond m = tt

-- ---- pages that are written, each in its turn

unset_stays : (changed : List Bool) (page q : ℕ) → is_changed changed q ≡ false → is_changed (slice_set changed page false) q ≡ false
unset_stays changed page q h = set_clears changed page q (λ other. h)

pub fewer_after : (changed : List Bool) (page : ℕ) (r : Result Written Refusal) → HasFewer changed (changed_after changed page r)
fewer_after changed page (Ok out.Done) q h = unset_stays changed page q h
fewer_after changed page (Ok out.Nothing) q h = h
fewer_after changed page (Err r) q h = h

still_changed : (old new : List Bool) (page : ℕ) → HasFewer old new → is_changed new page ≡ true → is_changed old page ≡ true
still_changed old new page fewer h = true_from_ne_false (is_changed old page) (λ none. true≢false (sym h ∙ fewer page none))

module _ {P L : Type 0} (p : page_device.Ghosts P) (l : log_device.Ghosts L) (first old new : OpenStore P L) (page : ℕ) where
  -- one that is refused has stopped the store
  pub page_stops : (r : Refusal) → old.state ≡ first.state → first.state.failed ≡ false → first.state.forced ≡ length first.state.records → NoChangeBeyond (pooled first) (length first.state.records)
      → HasFewer first.changed old.changed → 1 ≤ page → WritesWhen old page (Err r) → new.state ≡ state_after old.state (Err r) → IsStopped first.state new.state r
  page_stops why.Failed same running forced within fewer low when is = absurd (true≢false (sym when ∙ ap (λ (s : State). s.failed) same ∙ running))
  page_stops why.DiskWrite same running forced within fewer low when is =
      let now : new.state ≡ record first.state { failed = true } = is ∙ ap (λ (s : State). record s { failed = true }) same in
      let count : new.state.forced ≡ first.state.forced = ap (λ (s : State). s.forced) now in
      (now ∙ ap (λ (n : ℕ). record first.state { forced = n; failed = true }) (sym count), omega (arith, count))
  page_stops why.NotForced same running forced within fewer low when is =
      let most : lsn_of (image_at first.state.images page) ≤ length first.state.records = within page low (still_changed first.changed old.changed page fewer when.1.0.changed) in
      let more : first.state.forced < lsn_of (image_at first.state.images page) = subst (λ (s : State). s.forced < lsn_of (image_at s.images page)) same when.1.1 in
      omega (arith, most, more, forced)
  page_stops _ same running forced within fewer low when is = absurd when.1

  -- and its failure is counted
  pub page_counts : (r : Refusal) → IsStopped first.state new.state r → DeviceAfter p page (image_at old.state.images page) old.pages new.pages (Err r) → p.faults old.pages ≡ p.faults first.pages → new.log ≡ first.log → CountsOne p l first new
  page_counts why.DiskWrite s after faults log = inl (after.1 ∙ ap (λ (n : ℕ). (n + 1) % 2 ^ 64) faults, ap l.faults log)
  page_counts _ s after faults log = absurd s

  -- one that is answered counts none
  pub page_counts_none : (w : Written) → DeviceAfter p page (image_at old.state.images page) old.pages new.pages (Ok w) → p.faults new.pages ≡ p.faults old.pages
  page_counts_none out.Done after = after.2
  page_counts_none out.Nothing after = ap p.faults after

-- and leaves what other pages read as
module _ {P : Type 0} (p : page_device.Ghosts P) where
  -- a device that was left alone keeps each page
  pub kept_same : (old new : P) (page : ℕ) → new ≡ old → KeepsPage p old new page
  kept_same old new page is = (ap (λ (d : P). p.seen d page) is, λ c may. subst (λ (d : P). p.may_be d page c) is may)

  -- in two steps
  pub kept_join : (old mid new : P) (page : ℕ) → KeepsPage p old mid page → KeepsPage p mid new page → KeepsPage p old new page
  kept_join old mid new page one two = (two.0 ∙ one.0, λ c may. one.1 c (two.1 c may))

  -- one that a page was handed to leaves of any other what it could
  pub kept_of_others : (page : ℕ) (image : List ℕ) (old new : P) → MayHaveWritten p page image old new → (other : ℕ) → other ≢ page → (c : List ℕ) → p.may_be new other c → p.may_be old other c
  kept_of_others page image old new wrote other ne c may = elim (wrote.crash other c may) [ inl was ↦ was | inr e ↦ absurd (ne e.0) ]

pub page_others : {P L : Type 0} (p : page_device.Ghosts P) (old new : OpenStore P L) (page : ℕ) (r : Result Written Refusal) → DeviceAfter p page (image_at old.state.images page) old.pages new.pages r → (q : ℕ) → (q ≢ page) → KeepsPage p old.pages new.pages q
page_others p old new page (Ok out.Done) after q other = (after.0 q ∙ if_no q page (image_at old.state.images page) (p.seen old.pages q) other, kept_of_others p page (image_at old.state.images page) old.pages new.pages after.1 q other)
page_others p old new page (Ok out.Nothing) after q other = kept_same p old.pages new.pages q after
page_others p old new page (Err why.DiskWrite) after q other = (after.0.others q other, kept_of_others p page (image_at old.state.images page) old.pages new.pages after.0 q other)
page_others p old new page (Err r) after q other = kept_same p old.pages new.pages q after

-- ---- what the log is left as

-- where fewer count as forced
pub begins_less : (records : List Record) (more less : ℕ) (bytes : List ℕ) → less ≤ more → IsBeginning records more bytes → IsBeginning records less bytes
begins_less records more less bytes le b =
    let within = b.1 in
    (b.0, omega (arith, within, le), b.2, λ some. b.3 (omega (arith, some, le)))

-- all of it, or the Base
pub whole_or_base : (s : State) (i : ℕ) (bytes : List ℕ) → s.forced ≡ length s.records → (bytes ≡ spelled s.records) ⊎ (bytes ≡ spelled (based i s.records)) → IsBeginningOrBase s.records s.forced bytes
whole_or_base s i bytes all (inl e) = inl (all_of (standing s.records) (s.forced - gone s.records) bytes (let stand = length_standing s.records in omega (arith, all, stand)) e)
whole_or_base s i bytes all (inr e) = inr (i, e)

pub base_less : (s t : State) (bytes : List ℕ) → s.records ≡ t.records → t.forced ≤ s.forced → IsBeginningOrBase s.records s.forced bytes → IsBeginningOrBase t.records t.forced bytes
base_less s t bytes same le (inl b) = inl (subst (λ (rs : List Record). IsBeginning rs t.forced bytes) same (begins_less s.records s.forced t.forced bytes le b))
base_less s t bytes same le (inr b) = inr (b.0, b.1 ∙ ap (λ (rs : List Record). spelled (based b.0 rs)) same)

-- ---- a page that was written counts as changed no more, and no other does that did not

pub cleared : (changed : List Bool) (page q : ℕ) (w : Written) → (w ≡ out.Nothing → is_changed changed page ≡ false) → (q ≢ page → is_changed changed q ≡ false) → is_changed (changed_after changed page (Ok w)) q ≡ false
cleared changed page q out.Done same others = set_clears changed page q others
cleared changed page q out.Nothing same others = elim (cases_eq q page) [
  | inl e ↦ ap (is_changed changed) e ∙ same refl
  | inr ne ↦ others ne
]

-- what a crash leaves while no call is made, whether a checkpoint has failed or not
pub left_at_rest : {L : Type 0} (l : log_device.Ghosts L) (log : Logged L) → IsLog l log → IsSettled l log → l.honest log.device → (bytes : List ℕ) → l.may_leave log.device bytes → IsBeginningOrBase log.records log.forced bytes
left_at_rest l log k settled h bytes may = by log.replacing refl where
  by : (tried : Option ℕ) → log.replacing ≡ tried → IsBeginningOrBase log.records log.forced bytes
  by None e = inl (k.leaves h (settled, e) bytes may)
  by (Some i) e = ⊎_elim (λ b. inl b) (λ b. inr (i, b)) (k.replaced h settled i e bytes may)

-- no call is made of a device
pub still_run : {L : Type 0} (l : log_device.Ghosts L) (Q : List ℕ → Type 0) (old mid new : L) → new ≡ mid → LeavesOnly l old mid Q → LeavesOnly l old new Q
still_run l Q old mid new same run = subst (λ (d : _). LeavesOnly l old d Q) (sym same) run

-- none behind a run that forces the log
pub begins_first : {L : Type 0} (l : log_device.Ghosts L) (s : State) (old mid new : L) → new ≡ mid → LeavesOnly l old mid (IsBeginning s.records s.forced) → LeavesOnly l old new (IsBeginningOrBase s.records s.forced)
begins_first l s old mid new same run =
    still_run l (IsBeginningOrBase s.records s.forced) old mid new same (weaker l old mid (IsBeginning s.records s.forced) (IsBeginningOrBase s.records s.forced) run (λ bytes b. inl b))

-- a run that forces the log, and then replaces it
pub begins_join : {L : Type 0} (l : log_device.Ghosts L) (old mid : State) (log between new : L) → mid ≡ record old { forced = length old.records } → old.forced ≤ length old.records → LeavesOnly l log between (IsBeginning old.records old.forced)
    → LeavesOnly l between new (IsBeginningOrBase mid.records mid.forced) → LeavesOnly l log new (IsBeginningOrBase old.records old.forced)
begins_join l old mid log between new is le first second =
    joined l log between new (IsBeginningOrBase old.records old.forced) (weaker l log between (IsBeginning old.records old.forced) (IsBeginningOrBase old.records old.forced) first (λ bytes b. inl b))
    (weaker l between new (IsBeginningOrBase mid.records mid.forced) (IsBeginningOrBase old.records old.forced) second
    (λ bytes b. base_less mid old bytes (ap (λ (s : State). s.records) is) (let count = ap (λ (s : State). s.forced) is in omega (arith, count, le)) b))

-- ---- the whole of it

-- the entry of one that is made
pub made_legally : {P L : Type 0} (p : page_device.Ghosts P) (l : log_device.Ghosts L) (old new : OpenStore P L) (lsn : ℕ) → HasMadeOneRecord p l old new lsn → AnswersLegally p l old Checkpoint (λ n. Gave_checkpoint n) (Ok lsn) new
made_legally p l old new lsn m h e long k =
    let here = checkpoint (on e old.state) k m.could.none_open m.could.running (full_on e old.state long 1 ∙ m.could.room) in
    let there : IsModelStep (on e old.state) Checkpoint (Gave_checkpoint (length (on e old.state).records + 1)) (on e new.state) = subst (λ (s : State). IsModelStep (on e old.state) Checkpoint (Gave_checkpoint (length (on e old.state).records + 1)) s) (sym (ap (on e) m.state ∙ checkpointed_on e old.state long)) here in
    subst (λ (n : ℕ). IsModelStep (on e old.state) Checkpoint (Gave_checkpoint n) (on e new.state)) (sym (lsn_on e old.state long lsn m.lsn)) there

-- what of a refusal is so where the store is sound: its pages fit unless it has failed
not_fit : {P L : Type 0} (p : page_device.Ghosts P) (l : log_device.Ghosts L) (old new : OpenStore P L) (r : Refusal) → NotCheckpointed p l old new r → (e : List Record) → IsEarlier e old.state → IsSound (on e old.state) → AreFit p (over e old) → new.state.failed ≡ false → AreFit p (over e new)
not_fit p l old new why.Failed n e long k fit running = subst (λ (s : OpenStore _ _). AreFit p (over e s)) (sym n.1) fit
not_fit p l old new why.NotQuiet n e long k fit running = subst (λ (s : OpenStore _ _). AreFit p (over e s)) (sym n.2) fit
not_fit p l old new why.LogFull n e long k fit running = subst (λ (s : OpenStore _ _). AreFit p (over e s)) (sym n.3) fit
not_fit p l old new why.NotForced n e long k fit running = subst (λ (s : OpenStore _ _). AreFit p (over e s)) (sym n.4) fit
not_fit p l old new why.DiskWrite n e long k fit running = absurd (true≢false (sym (ap (λ (s : State). s.failed) n.0.state) ∙ running))
not_fit p l old new _ n e long k fit running = absurd n

-- that fewer are counted as forced changes no device
pub forgets : {P L : Type 0} (p : page_device.Ghosts P) (l : log_device.Ghosts L) (old mid new : OpenStore P L) (r : Refusal) → new.pages ≡ mid.pages → new.log ≡ mid.log → NotCheckpointed p l old new r → KeepsFitOrBased p l old mid → KeepsFitOrBased p l old new
forgets p l old mid new r pages log n keeps untried h e long k fit =
    let there : AreHonest p l mid = (subst (λ (d : _). p.honest d) pages h.0, subst (λ (d : _). l.honest d) log h.1) in
    let m = keeps untried there e long k fit in
    record {
      fit = not_fit p l old new r n e long k fit;
      crash = subst (λ (d : _). Path p l (IsCutOrBased (on e old.state)) old.pages old.log d new.log) (sym pages) (subst (λ (d : _). Path p l (IsCutOrBased (on e old.state)) old.pages old.log mid.pages d) (sym log) m.crash);
    }

pub forced_sound : (s t : State) → t ≡ record s { forced = length s.records } → (e : List Record) → IsEarlier e s → IsSound (on e s) → IsSound (on e t)
forced_sound s t is e long k =
    subst IsSound (ap (λ (n : ℕ). record (on e s) { forced = n }) (long_on e s long) ∙ sym (ap (on e) is)) (calls_keep.forces (on e s) k)

-- what is so of each answer, by the answer
pub if_ok : {A E : Type 0} {X Y : A → Type 0} (r : Result A E) → ((x : A) → X x → Y x) → IfOk r X → IfOk r Y
if_ok (Ok x) f h = f x h
if_ok (Err e) f h = tt
