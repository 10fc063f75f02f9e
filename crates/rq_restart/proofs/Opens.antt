-- What a restart answers, by what was made of its pages and its log.
use Rattle.std.proofs.Common.{◌≡◌, ⊎_elim, ℕ, zero, suc, ◌+◌, ◌<◌, ◌≤◌, ◌++◌, Bool, true, false, List, ◌∷◌, length, min, drop, replicate, inl, inr, refl, sym, ◌∙◌, ap, subst, arith}
use Rattle.rq_model.specs.declared.record.Record.{Record}
use Rattle.rq_model.specs.declared.refusal.Refusal.{Refusal}
use Rattle.rq_model.specs.Bases.{earlier, marked}
use Rattle.rq_model.specs.Commits.{committed_of}
use Rattle.rq_model.specs.History.Entry.{Restarted}
use Rattle.rq_model.specs.Incarnations.{Extends}
use Rattle.rq_model.specs.Ledger.{Ledger, after}
use Rattle.rq_disk.specs.Device.{Images, Leaves}
use Rattle.rq_disk.specs.declared.device.LogDevice as log_device
use Rattle.rq_disk.specs.declared.device.PageDevice as page_device
use Rattle.rq_groups.specs.Sent.{SentBy}
use Rattle.rq_level.specs.LevelState.{LevelState}
use Rattle.rq_log.specs.Logged.{Logged}
use Rattle.rq_page.specs.Pages.{lsn_of}
use Rattle.rq_page.specs.Sizes.{Sizes, page_count}
use Rattle.rq_pool.specs.Fetching.{AreAllFramed}
use Rattle.rq_pool.specs.Pooled.{IsPool, Pooled, is_changed}
use Rattle.rq_pool.specs.Reading.{ArePages, AreSeen, IsSuperblock, OnlyRead}
use Rattle.rq_sound.specs.Sound.{IsSound}
use Rattle.rq_store.specs.Fitting.{AllFit, image_in, oldest}
use Rattle.rq_store.proofs.Fitting.{oldest_all}
use Rattle.rq_store.specs.Opening.{IsLeft, next_restart, opened}
use Rattle.rq_store.specs.State.{State, ledger_of}
use Rattle.rq_store.specs.Whole.{AreBased, IsWhole}
use Rattle.rq_store.proofs.Opening.{opened_after}
use Rattle.rq_analysis.specs.Recovered.{IsRecovered}
use Rattle.rq_analysis.proofs.Marked.{marked_incarnation}
use Rattle.rq_analysis.proofs.Recovering.{recovered_from}
use Rattle.rq_engine.specs.Crash.{AreFit}
use Rattle.rq_engine.specs.Earlier.{on as on_earlier, over as over_earlier, rebased}
use Rattle.rq_engine.specs.Opened.{OpenStore, pooled}
use Rattle.rq_restart.specs.declared.restart.Report.{Report}
use Rattle.rq_restart.specs.Leaving.{LeavesRepeated, LeavesSound, WasLeftOrRepeated}
use Rattle.rq_restart.specs.Opens.{Opens, OpensOver, ReadWhereEnough, Recovers, Refuses}
use Rattle.rq_restart.specs.Past.{IsPast, WhereLeft}
use Rattle.rq_restart.specs.Repeating.{paged}
use Rattle.rq_restart.specs.Restarting.{IsBegun, IsLeftOn, IsReadAs, IsRefusedFor, IsRefusedOver, LeavesPages, OpensLog, RefusesLog, Reports, Stops, StopsOver, TellTruly, WasChecked}
use Rattle.rq_restart.specs.Undoing.{HaveBeenHonest, HaveToldTruly, failures}
use Rattle.rq_restart.specs.Refused.{MayBeShut}
use Rattle.rq_restart.proofs.Begun.{begun_commits, begun_sound, engine_over, opened_over, rolled_back_incarnation, sound_over}
use Rattle.rq_restart.proofs.GoingOn.{pages_since}
use Rattle.rq_restart.proofs.Loading.{load_shut, one_size, shut_log}
use Rattle.rq_restart.proofs.Parsing.{stopped_shut}
use Rattle.rq_restart.proofs.Leaving.{left_fits}
use Rattle.rq_restart.proofs.Lefts.{left_longer}
use Rattle.rq_restart.proofs.Pasts.{added_join, begun_added, begun_on, earlier_back, incarnation_on, left_there, length_on, mended_added, opened_on, past_of, read_is}
use Rattle.rq_restart.proofs.Sounding.{sound_since}
use Rattle.rq_restart.proofs.Restarts.{begins_from, left_read, shut_over, told_on, was_checked}

-- no page counts as changed
none_marked : (n q : ℕ) → is_changed (replicate n false) q ≡ false
none_marked zero q = refl
none_marked (suc n) zero = refl
none_marked (suc n) (suc q) = none_marked n q

module _ {P L : Type 0} (p : page_device.Ghosts P) (l : log_device.Ghosts L) (pages : P) (log : L) where
  -- what a crash leaves of pages since they were read
  pub leaves_pages : ((d : P) (c : Images) → p.left_since d (p.moment d) c → Leaves (p.may_be d) c) → (loaded : Pooled P) → ArePages loaded.sizes loaded.images → (p.honest loaded.device → AreSeen (p.seen pages) loaded.images (page_count loaded.sizes)) → OnlyRead p pages loaded.device
      → (new_pages : P) → (p.honest new_pages → p.honest loaded.device) → (records : List Record) → LeavesRepeated p loaded.sizes (paged loaded) records loaded.device new_pages → LeavesPages p l pages log new_pages loaded.sizes records
  leaves_pages pages_now loaded sound seen only new_pages honest records left = record {
    images = loaded.images;
    were = record { sound = sound; seen = λ h. seen (honest h) };
    now = λ q c may. since q c (left.now q c may);
    moments = record {
      later = omega (arith, only.time.later, left.time.later);
      each = λ images past. ⊎_elim
          (λ then. ⊎_elim (λ first q. inl (pages_now pages images first q)) (λ may q. inl (may q)) (only.time.nothing_else (p.moment pages) images (omega arith) then))
          (λ may q. since q (images q) (may q))
          (left.time.nothing_else (p.moment pages) images only.time.later past);
    };
  } where
    since : (q : ℕ) (c : List ℕ) → WasLeftOrRepeated p loaded.sizes (paged loaded) records loaded.device q c → WasLeftOrRepeated p loaded.sizes (paged loaded) records pages q c
    since q c = ⊎_elim (λ was. inl (only.crash q c was)) (λ r. inr r)

  -- why it was refused tells so of devices that hold a store
  pub refuses : (count : ℕ) (e : Refusal) (new_pages : P) (new_log : L) → IsRefusedFor p l pages log count e new_pages new_log → Refuses p l pages log count e new_pages new_log
  refuses count e new_pages new_log cause = record {
    cause = cause;
    stops = λ h z block older r. elim cause [
      | inl load ↦ subst (λ d. Stops (IsLeftOn p z pages new_pages older) z older e (p.faults pages) (p.faults new_pages) (l.faults log) (l.faults d)) (sym load.same) (load_shut p z pages new_pages older e (l.faults log) block load.stops)
      | inr read ↦
          let y = read.sizes in
          let seen = p.seen pages in
          shut_log (IsLeftOn p z pages new_pages older) (IsLeft y (image_in read.images) older) z y older
          (λ on.
          let same = one_size z y (seen 0) block (told_on y seen read.images read.were.sound (read.were.seen on.honest)) in
          (left_read y seen read.images older (read.were.seen on.honest) (subst (λ x. IsLeft x seen older) same on.left), sym same))
          e p pages new_pages (failures l.faults log new_log) read.fails (log_shut y read.images older r (read.over (inr h, r.honest)))
    ];
  } where
    log_shut : (y : Sizes) (images : List (List ℕ)) (older : List Record) → IsReadAs l log new_log older → StopsOver l y (image_in images) e log new_log → MayBeShut (IsLeft y (image_in images) older) y older e
    log_shut y images older r (inl stopped) = stopped_shut l y older (image_in images) log new_log e r stopped
    log_shut y images older r (inr read) = shut_over y read.0 older (image_in images) e (λ marks. read_is read.0 older (l.seen log) marks read.1 r.are_spelled (read.2 r.honest) r.reads) r.are_spelled read.3

  -- what was checked of the store that was opened recovers the log that was read, where it was left so
  module _ (s : OpenStore P L) (report : Report) (pool : IsPool s.state.sizes s.state.images) (checked : WasChecked p l pages log s.state.sizes (paged (pooled s)) s.state.records s.pages s.log)
      (older : List Record) (read : IsReadAs l log s.log older) (over : OpensOver older s report) (on : IsLeftOn p s.state.sizes pages s.pages older)
      (forced : s.state.forced ≡ length s.state.records) (left_now : LeavesPages p l pages log s.pages s.state.sizes s.state.records) where
    abbrev z : Sizes
    z = s.state.sizes

    abbrev e : List Record
    e = earlier older

    abbrev rolled_back : List Record
    rolled_back = drop 1 s.state.records

    same : checked.older ≡ marked older
    same = read_is checked.older older (l.seen log) checked.marks checked.are_spelled read.are_spelled (checked.reads read.honest) read.reads

    left : IsLeft z (image_in checked.images) older
    left = left_read z (p.seen pages) checked.images older (checked.seen on.honest) on.left

    back : rebased e checked.older ≡ older
    back = ap (rebased e) same ∙ earlier_back older read.are_spelled

    based : AreBased (rebased e (marked older))
    based = subst AreBased (sym (earlier_back older read.are_spelled)) on.left.whole.based

    recovered : IsRecovered z older (rebased e rolled_back)
    recovered =
        subst (λ (l : List Record). IsRecovered z l (rebased e rolled_back)) back
        (subst (λ (l : List Record). IsRecovered z (rebased e checked.older) (rebased e l)) (sym (ap (drop 1) checked.begun))
        (left_there checked.older older same read.are_spelled checked.rolled_back_on.recovered left))

    sound : IsSound (on_earlier e s.state)
    sound =
        let rolls = checked.rolled_back_on in
        let whole : WhereLeft z (image_in checked.images) checked.older (λ x. IsSound (opened z s.state.images (rebased x rolled_back))) = λ x past left.
        subst (λ rs. IsSound (opened z s.state.images (rebased x rs))) (ap (drop 1) (sym checked.begun))
        (begun_sound z (image_in checked.images) (paged (pooled s)) s.state.images checked.older checked.rolled_back x refl pool rolls.rolls_back past (rolls.recovered x past left) rolls.repeated left) in
        subst (λ (k : State). IsSound (on_earlier e k)) (sym over.value.1)
        (sound_over z s.state.images (marked older) rolled_back e over.value.0 (past_of older read.are_spelled) based (left_there checked.older older same read.are_spelled whole left))

    -- its ledger is what the entry of a restart makes of any with the content of the log
    entry : (ledger : Ledger) → ledger.committed ≡ committed_of older → ledger_of (on_earlier e s.state) ≡ after (Restarted report.incarnation report.records) ledger
    entry ledger content =
        let images = s.state.images in
        let now : List Record = rebased e rolled_back in
        let added = mended_added e (marked older) rolled_back over.value.0 in
        let past = added.past (past_of older read.are_spelled) in
        let now_based = added.based based in
        let is : on_earlier e s.state ≡ opened z images now = ap (on_earlier e) over.value.1 ∙ opened_on e z images rolled_back past now_based in
        let from = recovered_from z older now on.left.whole recovered in
        let there : IsSound (opened z images now) = subst IsSound is sound in
        let long = length_on e rolled_back past now_based in
        let all : length s.state.records ≡ length (next_restart now ∷ now) = ap (λ (k : State). length k.records) over.value.1 ∙ ap suc (sym long) in
        ap ledger_of is
        ∙ opened_after z images now there.range from.whole from.none_unfinished from.none_lost there.pages ledger (content ∙ sym from.committed)
        ∙ ap (λ (i : ℕ). after (Restarted (i + 1) (length (next_restart now ∷ now))) ledger) (incarnation_on e rolled_back past ∙ rolled_back_incarnation (marked older) rolled_back over.value.0 ∙ marked_incarnation older)
        ∙ ap (λ (i : ℕ). after (Restarted i (length (next_restart now ∷ now))) ledger) (sym over.reports.incarnation_is)
        ∙ ap (λ (n : ℕ). after (Restarted report.incarnation n) ledger) (sym (over.reports.records_are ∙ all))

    -- where all that the pages might be fitted the log that was read, all that they may be fits the forced log
    fit : AreBased older → AllFit (p.may_be pages) z older → AreFit p (over_earlier e s)
    fit older_based all =
        let now : List Record = rebased e rolled_back in
        let begins : List Record = next_restart rolled_back ∷ rolled_back in
        let added = mended_added e (marked older) rolled_back over.value.0 in
        let past : IsPast e rolled_back = added.past (past_of older read.are_spelled) in
        let are : s.state.records ≡ begins = ap (λ (k : State). k.records) over.value.1 in
        let behind = added_join e (marked older) rolled_back begins added (begun_added e rolled_back) in
        let there : List Record = rebased e begins in
        let reads_so : marked there ≡ begins = behind.past (past_of older read.are_spelled) in
        let extends : Extends older there = (behind.more, ap (λ (k : List Record). behind.more ++ k) (sym (earlier_back older read.are_spelled)) ∙ behind.there, behind.plain) in
        let from = recovered_from z older now on.left.whole recovered in
        let whole : IsWhole z there = subst (IsWhole z) (sym (begun_on e rolled_back past)) from.restarts in
        let seen : IsLeft z (image_in left_now.images) older = left_read z (p.seen pages) left_now.images older (left_now.were.seen on.honest) on.left in
        let stays : IsLeft z (image_in left_now.images) there = left_longer z (image_in left_now.images) older there seen whole extends in
        let fits : AllFit (p.may_be s.pages) z there = left_fits p pages s.pages z (image_in left_now.images) older there all stays extends
        (λ page c may. subst (λ (rs : List Record). WasLeftOrRepeated p z (image_in left_now.images) rs pages page c) (are ∙ sym reads_so) (left_now.now page c may)) in
        let long : length there ≡ length begins = length_on e begins reads_so (behind.based based) in
        let oldest_is : oldest s.state.forced (rebased e s.state.records) ≡ there = ap (λ (n : ℕ). oldest n (rebased e s.state.records)) (forced ∙ ap (λ (k : List Record). length k) are ∙ sym long) ∙ ap (λ (k : List Record). oldest (length there) (rebased e k)) are ∙ oldest_all there in
        subst (λ (k : List Record). AllFit (p.may_be s.pages) z k) (sym oldest_is) fits

    pub recovers : Recovers p pages older s report
    recovers = record { sound = sound; recovered = recovered; entry = entry; fit = fit }

  -- an engine over what was made of the pages and of the log
  module _ (pages_now : (d : P) (c : Images) → p.left_since d (p.moment d) c → Leaves (p.may_be d) c) (loaded : Pooled P) (pages_sound : ArePages loaded.sizes loaded.images) (seen : p.honest loaded.device → AreSeen (p.seen pages) loaded.images (page_count loaded.sizes)) (unchanged : loaded.changed ≡ replicate (page_count loaded.sizes) false)
      (cause : p.faults loaded.device ≡ p.faults pages) (only : OnlyRead p pages loaded.device) (count : ℕ) (framed : page_count loaded.sizes ≤ count + 1 → AreAllFramed loaded) (every : length loaded.frames ≡ min (page_count loaded.sizes) (count + 1)) (now : Pooled P) (new : Logged L) (cells : ℕ) (waiting : List ℕ) (sent : SentBy) (planner : List LevelState) (report : Report) (o : OpensLog p l loaded now log new cells waiting sent planner report) where
    abbrev pub engine : OpenStore P L
    engine = record {
      state = engine_over now.sizes now.images new.records new.forced report.incarnation cells waiting sent;
      pages = now.device;
      log = new.device;
      changed = now.changed;
      frames = now.frames;
      apart = now.apart;
      replacing = false;
    }

    as_marked : (older : List Record) → IsReadAs l log new.device older → o.read.records ≡ marked older
    as_marked older r = read_is o.read.records older (l.seen log) o.was_read.marks o.was_read.are_spelled r.are_spelled (o.was_read.reads (o.honest r.honest)) r.reads

    has_begun : (older : List Record) → IsReadAs l log new.device older → IsBegun (marked older) new
    has_begun older r = subst (λ rs. IsBegun rs new) (as_marked older r) (o.begun r.honest)

    all : (older : List Record) → IsReadAs l log new.device older → OpensOver older engine report
    all older r =
        let e : List Record = earlier older in
        let is = as_marked older r in
        let back : rebased e o.read.records ≡ older = ap (rebased e) is ∙ earlier_back older r.are_spelled in
        let begun = has_begun older r in
        let told : Reports now.sizes older new.records report.incarnation report.records report.unfinished report.lost = subst (λ rs. Reports now.sizes rs new.records report.incarnation report.records report.unfinished report.lost) back (o.restarted.reports r.honest e (subst (IsPast e) (sym is) (past_of older r.are_spelled))) in
        record {
          reports = told;
          value = opened_over now.sizes now.images (marked older) new report.incarnation cells waiting sent begun (told.incarnation_is ∙ ap (λ n. n + 1) (sym (marked_incarnation older))) o.cells_used o.restarted.told.told o.restarted.told.told_sent;
          committed = begun_commits (marked older) new e begun ∙ ap committed_of (earlier_back older r.are_spelled);
        }

    told_truly : TellTruly p l pages log count now.sizes now.device new.device → HaveToldTruly p l loaded now new.device
    told_truly told = (⊎_elim (λ few. inl (framed (subst (λ (z : Sizes). page_count z ≤ count + 1) o.continues.sizes few))) (λ h. inr h) told.0, told.1)

    checked : HaveToldTruly p l loaded now new.device → WasChecked p l pages log now.sizes (paged now) new.records now.device new.device
    checked = was_checked p l pages log loaded pages_sound seen now new cells waiting sent planner report o

    as_read : p.honest now.device → (q : ℕ) → q < page_count now.sizes → lsn_of (image_in loaded.images q) ≡ lsn_of (p.seen pages q)
    as_read h q high = ap lsn_of (seen (o.continues.pages_honest h) q (subst (λ (z : Sizes). q < page_count z) o.continues.sizes high))

    -- none counted as changed as it was read
    newer : p.honest now.device → (q : ℕ) → q < page_count now.sizes → is_changed now.changed q ≡ true → lsn_of (p.seen pages q) < lsn_of (image_in now.images q)
    newer h q high e = elim (o.continues.marked.newer q e) [
      | inl was ↦ absurd (let bad : true ≡ false = sym was ∙ ap (λ (c : List Bool). is_changed c q) unchanged ∙ none_marked (page_count loaded.sizes) q in cc bad)
      | inr since ↦ (let same = as_read h q high in omega (arith, since, same))
    ]

    leaves : HaveBeenHonest p l now.device new.device → LeavesPages p l pages log now.device now.sizes new.records
    leaves h = subst (λ (z : Sizes). LeavesPages p l pages log now.device z new.records) (sym o.continues.sizes)
        (leaves_pages pages_now loaded pages_sound seen only now.device o.continues.pages_honest new.records (o.continues.leaves h (paged loaded) refl))

    pub opens : Opens p l pages log count engine report
    opens =
        record {
          sizes = λ h. subst (λ z. IsSuperblock z (p.seen pages 0)) (sym o.continues.sizes) (told_on loaded.sizes (p.seen pages) loaded.images pages_sound (seen (o.continues.pages_honest h)));
          checked = λ told. checked (told_truly told);
          later = λ h q high. (let same = as_read h q high in let later = o.continues.marked.later q in omega (arith, same, later));
          marked = newer;
          within = o.within;
          told = λ h. (o.read.records, record { honest = h; are_spelled = o.was_read.are_spelled; reads = o.was_read.reads (o.honest h) });
          over = all;
          recovers = λ older r on. recovers engine report o.pool (checked (inr on.honest, r.honest)) older r (all older r) on o.restarted.forced (leaves (on.honest, r.honest));
          running = refl;
          idle = refl;
          forced = o.restarted.forced;
          reads = o.restarted.ready.reads;
          durable = o.restarted.ready.durable;
          untried = refl;
          unfailed = (o.none_failed.0 ∙ cause, o.none_failed.1);
          read = λ few. (let all = framed (subst (λ (z : Sizes). page_count z ≤ count + 1) o.continues.sizes few) in (
            subst (OnlyRead p pages) (sym (o.continues.stood all)) only,
            begins_from p l pages log loaded pages_sound seen now.device new.device o.continues.pages_honest (o.any_moment all),
          ));
          frames = o.continues.count ∙ every ∙ ap (λ (z : Sizes). min (page_count z) (count + 1)) (sym o.continues.sizes);
          written = subst (λ (z : Sizes). LeavesSound p z pages now.device) (sym o.continues.sizes) (sound_since p loaded.sizes pages loaded.device now.device only o.continues.written);
          pages_left = leaves;
        }

  -- ---- a restart that was refused over pages that were read

  module _ (pages_now : (d : P) (c : Images) → p.left_since d (p.moment d) c → Leaves (p.may_be d) c) (loaded : Pooled P) (pages_sound : ArePages loaded.sizes loaded.images) (seen : p.honest loaded.device → AreSeen (p.seen pages) loaded.images (page_count loaded.sizes)) (only : OnlyRead p pages loaded.device) (count : ℕ) (framed : page_count loaded.sizes ≤ count + 1 → AreAllFramed loaded) where
    pub refused_over : p.faults loaded.device ≡ p.faults pages → (e : Refusal) (new_pages : P) (new_log : L) → RefusesLog p l loaded new_pages log new_log e → IsRefusedOver p l pages log count e new_pages new_log
    refused_over cause e new_pages new_log r = record {
      sizes = loaded.sizes;
      images = loaded.images;
      were = record { sound = pages_sound; seen = λ h. seen (r.honest h) };
      fails = pages_since p pages loaded.device new_pages cause e (failures l.faults log new_log) r.fails;
      read = λ few. (let stood = r.stood (framed few) in (subst (OnlyRead p pages) (sym stood.0) only, stood.1, begins_from p l pages log loaded pages_sound seen new_pages new_log r.honest stood.2, ap p.faults stood.0 ∙ cause));
      told = λ other h older told reads. (r.telling h older told reads).reads other;
      unread = r.unread;
      written = sound_since p loaded.sizes pages loaded.device new_pages only r.written;
      over = λ told. r.over (⊎_elim (λ few. inl (framed few)) (λ h. inr h) told.0, told.1);
      leaves = λ h. (let some = r.leaves h in record {
        front = some.front;
        begins = some.begins;
        made = some.made;
        left = leaves_pages pages_now loaded pages_sound seen only new_pages r.honest (some.made ++ some.front) some.left;
      });
    }

    -- where the frames are enough, an honest device was only read
    pub read_enough : (new_pages : P) → (p.honest new_pages → p.honest loaded.device) → (AreAllFramed loaded → new_pages ≡ loaded.device) → ReadWhereEnough p pages new_pages count
    read_enough new_pages honest stood h z block few =
        let same : loaded.sizes ≡ z = one_size loaded.sizes z (p.seen pages 0) (told_on loaded.sizes (p.seen pages) loaded.images pages_sound (seen (honest h))) block in
        subst (OnlyRead p pages) (sym (stood (framed (subst (λ (y : Sizes). page_count y ≤ count + 1) (sym same) few)))) only

    -- there is a frame beside that of the superblock
    pub some_frame : length loaded.frames ≡ min (page_count loaded.sizes) (count + 1) → 8 ≤ count → 1 < length loaded.frames
    some_frame every few = (let low = pages_sound.superblock.range.directory_low in omega (arith, every, few, low))
