-- A migration: its entry, why it is refused, and what a crash in it leaves.
use Rattle.std.proofs.Common.{◌≡◌, ◌≢◌, ◌⊎◌, ℕ, zero, suc, ◌+◌, ◌-◌, ◌*◌, ◌<◌, ◌≤◌, ◌||◌, false, not, nat_lt, List, [], ◌∷◌, length, drop, Ok, Err, refl, sym, ◌∙◌, ap, subst, inl, inr, ⊎_elim, arith}
use Rattle.std.proofs.lemmas.Bool.{or_parts}
use Rattle.std.proofs.lemmas.Bool.Decides.{nat_tests}
use Rattle.rq_model.specs.declared.record.Record.{Record}
use Rattle.rq_model.specs.declared.record.Record.TheVariants.{Base}
use Rattle.rq_model.specs.declared.refusal.Refusal.{Refusal}
use Rattle.rq_model.specs.declared.refusal.Refusal.TheVariants as why
use Rattle.rq_model.specs.History.Call.{Migrate}
use Rattle.rq_model.specs.Replay.{Reply as Gave}
use Rattle.rq_model.specs.Replay.Reply.{Gave_migrated, Gave_refusal}
use Rattle.rq_model.specs.Tests.{bad_tags}
use Rattle.rq_model.specs.Bases.{based, gone, standing}
use Rattle.rq_page.specs.Sizes.{Sizes, IsInRange, page_count, with_tags}
use Rattle.rq_page.specs.Formatted.{IsFormatted}
use Rattle.rq_disk.specs.Device.{Images, Leaves, Only}
use Rattle.rq_disk.specs.declared.device.LogDevice as log_device
use Rattle.rq_disk.specs.declared.device.PageDevice as page_device
use Rattle.rq_log.specs.Crash.{LeavesOnly}
use Rattle.rq_log.specs.Spelled.{AreSpelled, spelled}
use Rattle.rq_log.proofs.Kept.{fits_base}
use Rattle.rq_pool.specs.Pooled.{image_at}
use Rattle.rq_record.specs.Spelling.{IsInRange as IsInRecord}
use Rattle.rq_log.proofs.Runs.{all_of}
use Rattle.rq_pool.specs.Writing.{IsFormattedAfter, MayHaveWritten}
use Rattle.rq_store.specs.State.{State, size_of}
use Rattle.rq_store.specs.Fitting.{AllFit, image_in, oldest}
use Rattle.rq_store.specs.Growing.{IsGrown}
use Rattle.rq_store.proofs.Growing.{stores_grow}
use Rattle.rq_sound.specs.Calls.{checkpointed, failed, migrated}
use Rattle.rq_sound.specs.ModelSteps.{IsModelStep}
use Rattle.rq_sound.specs.Sound.{IsSound}
use Rattle.rq_sound.proofs.Checkpoints.{checkpoint_sound, migration}
use Rattle.rq_engine.specs.Answers.{AnswersLegally, IsCausedIn}
use Rattle.rq_engine.specs.Checkpoint.{CountsOne, IsCutOrBased, IsStopped, KeepsFitOrBased, MayMakeOneRecord}
use Rattle.rq_engine.specs.Crash.{AreFit, IsCut, KeepsFit, LeavesCut}
use Rattle.rq_engine.specs.Devices.{EachPair, KeepsPage, Path}
use Rattle.rq_engine.specs.Devices.Path.{Pages}
use Rattle.rq_engine.specs.Earlier.{IsEarlier, on, over, rebased}
use Rattle.rq_engine.specs.Migration.{AreTagPages, HasMigrated, HasTags, IsCutGrown, IsCutOrGrown, KeepsBeyond, KeepsOrGrows, MayGetTags, NotMigrated, TellsSizes}
use Rattle.rq_engine.specs.Opened.{AreHonest, OpenStore}
use Rattle.rq_engine.proofs.Checkpointing.{base_put, checkpointed_on, cut_forced, kept_join, none_beyond, none_open, path_join, path_weaker, some_open}
use Rattle.rq_engine.proofs.Crashing.{AreLeft, IsOnDevice, are_left, cut}
use Rattle.rq_engine.proofs.Earlier.{full_on, long_on, lsn_on, told_on}
use Rattle.rq_engine.proofs.Refusals.{refuse, refuse_failed}
use Rattle.rq_engine.proofs.Standing.{failed_steps}

-- ---- its entry, and why it is refused

module _ {P L X : Type 0} (p : page_device.Ghosts P) (l : log_device.Ghosts L) (n : ℕ) (old new : OpenStore P L) (gives : X → Gave) where
  abbrev Says : List Record → Refusal → State → Type 0
  Says e r s = IsModelStep (on e old.state) (Migrate n) (Gave_refusal r) (on e s) × IsCausedIn (on e old.state) (Migrate n) r

  stays : (e : List Record) (r : Refusal) → new ≡ old → Says e r old.state → Says e r new.state
  stays e r same = subst (λ (s : OpenStore P L). Says e r s.state) (sym same)

  pub not_legally : (r : Refusal) → NotMigrated p l n old new r → AnswersLegally p l old (Migrate n) gives (Err r) new
  not_legally why.Failed w h e long k = stays e why.Failed w.1 (refuse_failed (on e old.state) (Migrate n) w.0 k)
  not_legally why.BadTags w h e long k = stays e why.BadTags w.2 (refuse (on e old.state) (Migrate n) why.BadTags refl tt (rw (w.0, w.1) refl) k)
  not_legally why.NotQuiet w h e long k =
      stays e why.NotQuiet w.1.2 (refuse (on e old.state) (Migrate n) why.NotQuiet refl tt (rw (w.1.0, w.0, some_open old.state.ends old.state.rows w.1.1) refl) k)
  not_legally why.LogFull w h e long k =
      stays e why.LogFull w.1.3 (refuse (on e old.state) (Migrate n) why.LogFull refl tt (rw (w.1.0, w.0, none_open old.state.ends old.state.rows w.1.1, full_on e old.state long 1 ∙ w.1.2) refl) k)
  not_legally why.DiskWrite w h e long k = subst (Says e why.DiskWrite) (sym w.1.state) (failed_steps (on e old.state) k w.1.could.running (Migrate n), refl)
  not_legally why.NotForced w h e long k = absurd (none_beyond old e long k w.1.3)
  not_legally _ w h e long k = absurd w.1

pub migrated_on : (e : List Record) (s : State) → IsEarlier e s → on e (migrated s) ≡ migrated (on e s)
migrated_on e s h = ap failed (checkpointed_on e s h)

pub migrated_legally : {P L : Type 0} (p : page_device.Ghosts P) (l : log_device.Ghosts L) (n : ℕ) (old new : OpenStore P L) (lsn : ℕ) → MayGetTags n old.state → HasMigrated p l n old new lsn → AnswersLegally p l old (Migrate n) (λ x. Gave_migrated x) (Ok lsn) new
migrated_legally p l n old new lsn may m h e long k =
    let here = migration (on e old.state) k m.could.none_open n m.could.running (full_on e old.state long 1 ∙ m.could.room) may in
    let there : IsModelStep (on e old.state) (Migrate n) (Gave_migrated (length (on e old.state).records + 1)) (on e new.state) = subst (IsModelStep (on e old.state) (Migrate n) (Gave_migrated (length (on e old.state).records + 1))) (sym (ap (on e) m.state ∙ migrated_on e old.state long)) here in
    subst (λ (x : ℕ). IsModelStep (on e old.state) (Migrate n) (Gave_migrated x) (on e new.state)) (sym (lsn_on e old.state long lsn m.lsn_is)) there

-- ---- the tag pages

-- the numbers that a store can get
pub may_get : (z : Sizes) (n : ℕ) → bad_tags (size_of z) n ≡ false → (z.tags ≡ 0) × (1 ≤ n) × (n ≤ 1024)
may_get z n may =
    let a = or_parts (not (nat_lt 0 n) || nat_lt 1024 n) (nat_lt 0 (15 * z.tags)) may in
    let b = or_parts (not (nat_lt 0 n)) (nat_lt 1024 n) a.0 in
    let low = b.0 in
    let high = b.1 in
    let none = a.1 in
    (grind (arith, nat_tests, none), grind (arith, nat_tests, low), grind (arith, nat_tests, high))

-- a cut of a store that got its tag pages is one of a store with them
pub grow_cut : (s : State) (n : ℕ) (old new : Images) (bytes : List ℕ) → IsInRange s.sizes → bad_tags (size_of s.sizes) n ≡ false → IsCut s old bytes → IsGrown s.sizes n old new → IsCutGrown n s new bytes
grow_cut s n old new bytes range may c grown =
    let tags = may_get s.sizes n may in
    record {
      lost = c.lost;
      forced = c.forced;
      incarnation = c.incarnation;
      told = c.told;
      spells = c.spells;
      begins = c.begins;
      store = stores_grow s.sizes n (drop c.lost s.records) old new range tags.0 tags.2 c.store grown;
      durable = c.durable;
      content = c.content;
    }

-- The Base alone, over each page's image, with the tag pages.
module _ {P L : Type 0} (p : page_device.Ghosts P) (l : log_device.Ghosts L) (n : ℕ) (s : State) (k : IsSound s) (none : s.rows ≡ []) (may : MayGetTags n s) (told : IsOnDevice (checkpointed s)) (pages : P) (log : L) (durable : Only (spelled (checkpointed s).records) (l.may_leave log)) where
  abbrev now : State
  now = checkpointed s

  whole : oldest now.forced now.records ≡ now.records
  whole = ap (λ (m : ℕ). drop m now.records) (let m : length now.records - now.forced ≡ 0 = omega arith in m)

  kept : (bytes : List ℕ) → bytes ≡ spelled now.records → IsCut now (image_in s.images) bytes
  kept bytes is =
      let sound : IsSound now = checkpoint_sound s k none in
      cut now sound told (image_in s.images) bytes
      (subst (AreLeft s.sizes (image_in s.images)) (sym whole) (sound.fits, sound.based))
      (all_of (standing now.records) (now.forced - gone now.records) bytes (let one : now.forced - gone now.records ≤ 1 = omega arith in one) is)

  pub grown_cut : (images : Images) (bytes : List ℕ) → IsFormatted (with_tags n s.sizes) 0 (images 0) → ((page : ℕ) → 1 ≤ page → page < page_count s.sizes → images page ≡ image_in s.images page)
      → ((page : ℕ) → page_count s.sizes ≤ page → page < page_count (with_tags n s.sizes) → IsFormatted (with_tags n s.sizes) page (images page)) → bytes ≡ spelled now.records → IsCutGrown n now images bytes
  grown_cut images bytes first others added is = grow_cut now n (image_in s.images) images bytes k.range may (kept bytes is) (record { superblock = first; others = others; added = added })

  -- the superblock is handed to the device, once the Base is there
  module _ (fit : AllFit (p.may_be pages) s.sizes (oldest now.forced now.records)) (held : (page : ℕ) (c : List ℕ) → 1 ≤ page → page < page_count s.sizes → p.may_be pages page c → c ≡ image_in s.images page)
      (added : (page : ℕ) (c : List ℕ) → page_count s.sizes ≤ page → page < page_count (with_tags n s.sizes) → p.may_be pages page c → IsFormatted (with_tags n s.sizes) page c) where
    based_cut : (images : Images) (bytes : List ℕ) → Leaves (p.may_be pages) images → bytes ≡ spelled now.records → IsCut now images bytes
    based_cut images bytes there is =
        cut now (checkpoint_sound s k none) told images bytes (are_left (p.may_be pages) s.sizes (oldest now.forced now.records) images fit there)
        (all_of (standing now.records) (now.forced - gone now.records) bytes (let one : now.forced - gone now.records ≤ 1 = omega arith in one) is)

    all_there : (images : Images) → p.may_be pages 0 (images 0) → ((page : ℕ) → page ≢ 0 → p.may_be pages page (images page)) → Leaves (p.may_be pages) images
    all_there images first others zero = first
    all_there images first others (suc page) = others (suc page) (λ e. absurd (omega (arith, e)))

    pub told_path : {first_pages : P} {first_log : L} (new : P) → Path p l (IsCutOrBased s) first_pages first_log pages log → TellsSizes p (with_tags n s.sizes) pages new → Path p l (IsCutOrGrown n s) first_pages first_log new log
    told_path new first tells =
        Pages (path_weaker p l (IsCutOrBased s) (IsCutOrGrown n s) (λ images bytes c. inl c) first) (record {
          later = tells.each.later;
          each = λ images since bytes left.
              let q = tells.each.each images since in
              ⊎_elim (λ old. inl (inr (based_cut images bytes (all_there images old q.0) (durable bytes left))))
              (λ told_now. inr (grown_cut images bytes told_now
              (λ page low high. held page (images page) low high (q.0 page (λ e. absurd (omega (arith, e, low)))))
              (λ page low high. added page (images page) low high (q.0 page (λ e. absurd (omega (arith, e, low)))))
              (durable bytes left))) q.1;
        })

-- What a crash leaves of a store that has migrated.
pub grown_left : {P L : Type 0} (p : page_device.Ghosts P) (l : log_device.Ghosts L) (n : ℕ) (s : State) (k : IsSound s) (none : s.rows ≡ []) (may : MayGetTags n s) (told : IsOnDevice (checkpointed s)) (pages : P) (log : L) → Only (spelled (checkpointed s).records) (l.may_leave log)
    → ((page : ℕ) (c : List ℕ) → 1 ≤ page → page < page_count s.sizes → p.may_be pages page c → c ≡ image_in s.images page) → HasTags p n s.sizes pages → EachPair p l pages log (IsCutGrown n (checkpointed s))
grown_left p l n s k none may told pages log durable held tags images bytes there left =
    grown_cut p l n s k none may told pages log durable images bytes (tags.superblock (images 0) (there 0))
    (λ page low high. held page (images page) low high (there page)) (λ page low high. tags.added page (images page) low high (there page)) (durable bytes left)

-- ---- runs of device calls

module _ {P L : Type 0} (p : page_device.Ghosts P) (l : log_device.Ghosts L) (n : ℕ) where
  pub grows_either : (old new : OpenStore P L) → KeepsFit p l old new → KeepsOrGrows p l n old new
  grows_either old new keeps none h e long k fit = path_weaker p l (IsCut (on e old.state)) (IsCutOrGrown n (on e old.state)) (λ images bytes c. inl (inl c)) (keeps none h e long k fit).crash

  -- behind what forces records and leaves the lists
  pub grows_join : (old mid new : OpenStore P L) (m : ℕ) → mid.state ≡ record old.state { forced = m } → old.state.forced ≤ m → mid.replacing ≡ old.replacing → (AreHonest p l new → AreHonest p l mid)
      → ((e : List Record) → IsEarlier e old.state → IsSound (on e old.state) → IsSound (on e mid.state)) → KeepsFit p l old mid → KeepsOrGrows p l n mid new → KeepsOrGrows p l n old new
  grows_join old mid new m same more tried falls sound first second none h e long k fit =
      let one = first none (falls h) e long k fit in
      let two = second (tried ∙ none) h e (subst (IsEarlier e) (sym same) long) (sound e long k) one.fit in
      let crash : Path p l (IsCutOrGrown n (record (on e old.state) { forced = m })) mid.pages mid.log new.pages new.log = subst (λ (s : State). Path p l (IsCutOrGrown n (on e s)) mid.pages mid.log new.pages new.log) same two in
      path_join p l (path_weaker p l (IsCut (on e old.state)) (IsCutOrGrown n (on e old.state)) (λ images bytes c. inl (inl c)) one.crash)
      (path_weaker p l (IsCutOrGrown n (record (on e old.state) { forced = m })) (IsCutOrGrown n (on e old.state))
      (λ images bytes c. ⊎_elim (λ a. inl (⊎_elim (λ b. inl (cut_forced (on e old.state) m old.state.failed images bytes more b)) (λ b. inr b) a)) (λ b. inr b) c) crash)

-- a formatted page that could not be written was handed to its device
pub handed : {P : Type 0} (p : page_device.Ghosts P) (z : Sizes) (page : ℕ) (old new : P) (r : Refusal) → r ≡ why.DiskWrite → IsFormattedAfter p z page old new (Err r) → (image : List ℕ) × MayHaveWritten p page image old new
handed p z page old new r is after =
    let w : IsFormattedAfter p z page old new (Err why.DiskWrite) = subst (λ (y : Refusal). IsFormattedAfter p z page old new (Err y)) is after in
    (w.0, w.2)

-- ---- what was written of the tag pages, and behind them

module _ {P : Type 0} (p : page_device.Ghosts P) (n : ℕ) (z : Sizes) where
  -- a call keeps pages behind the store's own
  pub beyond_stays : (may : bad_tags (size_of z) n ≡ false) (old mid new : P) → KeepsBeyond p n z old mid → ((page : ℕ) → page_count z ≤ page → KeepsPage p mid new page) → KeepsBeyond p n z old new
  beyond_stays may old mid new first behind page past = let none = (may_get z n may).0 in kept_join p old mid new page (first page past) (behind page (omega (arith, none, past)))

  pub tags_stay : (mid new : P) → AreTagPages p n z mid → ((page : ℕ) → page_count z ≤ page → KeepsPage p mid new page) → AreTagPages p n z new
  tags_stay mid new tags behind page low high = subst (IsFormatted (with_tags n z) page) (sym (behind page low).0) (tags page low high)

  -- so does one that writes the first page
  pub behind_first : (mid new : P) → ((page : ℕ) → page ≢ 0 → KeepsPage p mid new page) → (page : ℕ) → page_count z ≤ page → KeepsPage p mid new page
  behind_first mid new others page low = others page (λ e. absurd (omega (arith, e, low)))

module _ {P L : Type 0} (p : page_device.Ghosts P) (l : log_device.Ghosts L) (n : ℕ) where
  -- behind calls that count no failure
  pub migrated_later : (old mid new : OpenStore P L) (lsn m : ℕ) → MayMakeOneRecord old → mid.state ≡ record old.state { forced = m } → mid.replacing ≡ old.replacing
      → p.faults mid.pages ≡ p.faults old.pages → l.faults mid.log ≡ l.faults old.log → KeepsBeyond p n old.state.sizes old.pages mid.pages → HasMigrated p l n mid new lsn → HasMigrated p l n old new lsn
  migrated_later old mid new lsn m could is tried pages log beyond h = record {
    could = could;
    lsn_is = h.lsn_is ∙ ap (λ (s : State). length s.records + 1) is;
    state = h.state ∙ ap migrated is;
    told = h.told;
    reads = h.reads;
    durable = h.durable;
    pages = λ honest page low high. subst (λ (s : State). Only (image_at s.images page) (p.may_be new.pages page)) is (h.pages honest page low (subst (λ (s : State). page < page_count s.sizes) (sym is) high));
    tags = subst (λ (s : State). HasTags p n s.sizes new.pages) is h.tags;
    beyond = λ page past b may. h.beyond page (subst (λ (s : State). page_count (with_tags n s.sizes) ≤ page) (sym is) past) b may ∙ (beyond page past).0;
    replacing = h.replacing ∙ tried;
    counts = (h.counts.0 ∙ pages, h.counts.1 ∙ log);
  }

  -- the log's device failed before the sizes were told
  pub based_grows : (old new : OpenStore P L) → KeepsFitOrBased p l old new → KeepsOrGrows p l n old new
  based_grows old new keeps none h e long k fit = path_weaker p l (IsCutOrBased (on e old.state)) (IsCutOrGrown n (on e old.state)) (λ images bytes c. inl c) (keeps none h e long k fit).crash

  -- they were told, or the pages' device failed
  module _ (old new : OpenStore P L) (log : L) (could : MayMakeOneRecord old) (all : old.state.forced ≡ length old.state.records) (may : MayGetTags n old.state) (told : IsOnDevice old.state) (range : IsInRecord (Base (length old.state.records) old.state.incarnation))
      (images : p.honest old.pages → (q : ℕ) (c : List ℕ) → 1 ≤ q → q < page_count old.state.sizes → p.may_be old.pages q c → c ≡ image_in old.state.images q) (cuts : old.replacing ≡ false → l.honest old.log → (e : List Record) → IsEarlier e old.state → IsSound (on e old.state) → AreFit p (over e old) → LeavesCut p l (over e old))
      (falls : l.honest log → l.honest old.log) (run : old.replacing ≡ false → l.honest log → LeavesOnly l old.log log (λ c. (c ≡ spelled old.state.records) ⊎ (c ≡ spelled (based old.state.incarnation old.state.records)))) where
    abbrev mid : OpenStore P L
    mid = record old { state = checkpointed old.state; log = log }

    pub told_grows : new.log ≡ log → (p.honest new.pages → p.honest old.pages) → Only (spelled (based old.state.incarnation old.state.records)) (l.may_leave log) → TellsSizes p (with_tags n old.state.sizes) old.pages new.pages
        → ((page : ℕ) (c : List ℕ) → page_count old.state.sizes ≤ page → page < page_count (with_tags n old.state.sizes) → p.may_be old.pages page c → IsFormatted (with_tags n old.state.sizes) page c) → KeepsOrGrows p l n old new
    told_grows is pages durable tells added untried h e long k fit =
        let there : AreHonest p l mid = (pages h.0, subst l.honest is h.1) in
        let s : State = on e old.state in
        let one = base_put p l old mid could.none_open all told range images cuts refl falls run refl untried there e long k fit in
        let longer : length (rebased e old.state.records) ≡ length old.state.records = long_on e old.state long in
        let spells : AreSpelled (based old.state.incarnation (rebased e old.state.records)) = (fits_base (length (rebased e old.state.records)) old.state.incarnation (subst (λ (m : ℕ). IsInRecord (Base m old.state.incarnation)) (sym longer) range), tt) in
        let now : State = checkpointed s in
        let fits : AllFit (p.may_be old.pages) old.state.sizes (oldest now.forced now.records) = subst (λ (x : State). AllFit (p.may_be old.pages) x.sizes (oldest x.forced x.records)) (checkpointed_on e old.state long) (one.fit could.running) in
        subst (λ (d : L). Path p l (IsCutOrGrown n s) old.pages old.log new.pages d) (sym is)
        (told_path p l n s k could.none_open may (spells, λ some. omega arith) old.pages log
        (λ b left. durable b left ∙ ap (λ (m : ℕ). spelled (Base m old.state.incarnation ∷ [])) (sym longer))
        fits (images (pages h.0)) added new.pages one.crash tells)

-- it stopped in its midst, and counts no more as forced than before
pub stopped_so : {P L : Type 0} (p : page_device.Ghosts P) (l : log_device.Ghosts L) (n : ℕ) (old mid new : OpenStore P L) (r : Refusal) → MayGetTags n old.state → MayMakeOneRecord old → IsStopped old.state mid.state r → CountsOne p l old mid
    → (mid.log ≡ old.log) ⊎ AreTagPages p n old.state.sizes mid.pages → KeepsBeyond p n old.state.sizes old.pages mid.pages
    → new.state ≡ record mid.state { forced = old.state.forced } → new.pages ≡ mid.pages → new.log ≡ mid.log → NotMigrated p l n old new r
stopped_so p l n old mid new why.DiskWrite may could s counts first beyond is pages log = (
  may,
  record {
    could = could;
    state = is ∙ ap (λ (x : State). record x { forced = old.state.forced }) s.0;
    counts = subst (λ (d : _). CountsOne p l old (record new { pages = d })) (sym pages) (subst (λ (d : _). CountsOne p l old (record new { pages = mid.pages; log = d })) (sym log) counts);
    first = ⊎_elim (λ e. inl (log ∙ e)) (λ tags. inr (subst (AreTagPages p n old.state.sizes) (sym pages) tags)) first;
    beyond = subst (KeepsBeyond p n old.state.sizes old.pages) (sym pages) beyond;
  },
)
stopped_so p l n old mid new _ may could s counts first beyond is pages log = absurd s

-- a cut of a store is one of it where it has failed
pub grown_failed : (n : ℕ) (s : State) (images : Images) (bytes : List ℕ) → IsCutGrown n s images bytes → IsCutGrown n (failed s) images bytes
grown_failed n s images bytes c = record { lost = c.lost; forced = c.forced; incarnation = c.incarnation; told = c.told; spells = c.spells; begins = c.begins; store = c.store; durable = c.durable; content = c.content }

-- behind a migration that was answered a crash leaves the store with its tag pages
pub left_after : {P L : Type 0} (p : page_device.Ghosts P) (l : log_device.Ghosts L) (n : ℕ) (old new : OpenStore P L) (lsn : ℕ) (past : List Record) → AreHonest p l new → IsEarlier past old.state → IsSound (on past old.state) → MayGetTags n old.state → HasMigrated p l n old new lsn
    → EachPair p l new.pages new.log (IsCutGrown n (on past new.state))
left_after p l n old new lsn past h long k may m images bytes there left =
    let s : State = on past old.state in
    let longer : length (rebased past old.state.records) ≡ length old.state.records = long_on past old.state long in
    let told : AreSpelled (checkpointed old.state).records = subst (λ (x : State). AreSpelled x.records) m.state m.told in
    let spells : AreSpelled (checkpointed s).records = subst (λ (x : State). AreSpelled x.records) (checkpointed_on past old.state long) (told_on past (checkpointed old.state).records told long) in
    let durable : Only (spelled (checkpointed s).records) (l.may_leave new.log) = λ b may_leave. m.durable h.1 b may_leave ∙ ap (λ (x : State). spelled x.records) m.state ∙ ap (λ (c : ℕ). spelled (Base c old.state.incarnation ∷ [])) (sym longer) in
    let cut = grown_left p l n s k m.could.none_open may (spells, λ some. omega arith) new.pages new.log durable (λ page c low high b. m.pages h.0 page low high c b) m.tags images bytes there left in
    subst (λ (x : State). IsCutGrown n x images bytes) (sym (ap (on past) m.state ∙ migrated_on past old.state long)) (grown_failed n (checkpointed s) images bytes cut)
