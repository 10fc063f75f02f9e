-- A restart of a store on its way, from the devices as they were found to the next incarnation.
use Rattle.std.proofs.Common.{◌≡◌, ⊎_elim, ℕ, ◌≤◌, ◌++◌, ◌∷◌, List, [], cond, drop, nat_eq, true, false, length, inl, inr, refl, sym, ◌∙◌, ap, subst, arith}
use Rattle.std.proofs.lemmas.Bool.{cases_eq}
use Rattle.std.proofs.lemmas.Bool.Decides.{nat_tests}
use Rattle.std.proofs.lemmas.List.{drop-append-le, length-append}
use Rattle.rq_model.specs.declared.record.Record.{Record}
use Rattle.rq_model.specs.Bases.{IsMarked, earlier, marked, standing}
use Rattle.rq_model.proofs.Bases.{added_stand, marked_stands}
use Rattle.rq_model.specs.Incarnations.{Extends}
use Rattle.rq_model.proofs.Cuts.{extends_join}
use Rattle.rq_disk.specs.Device.{Images, Leaves}
use Rattle.rq_disk.specs.declared.device.LogDevice as log_device
use Rattle.rq_disk.specs.declared.device.PageDevice as page_device
use Rattle.rq_log.specs.Crash.{LeavesOnly}
use Rattle.rq_log.specs.Logged.{Logged}
use Rattle.rq_log.specs.Reading.{IsRead, LogRead}
use Rattle.rq_log.specs.Spelled.{AreAllSpelled, AreSpelled, EndsWith}
use Rattle.rq_log.proofs.Moments.{weaker}
use Rattle.rq_log.proofs.Parsing.{one_log}
use Rattle.rq_page.specs.Formatted.{IsFormatted, IsHeaderOf}
use Rattle.rq_page.specs.Sizes.{Sizes, IsInRange, page_count}
use Rattle.rq_pool.specs.Fetching.{MayHaveRead}
use Rattle.rq_pool.specs.Pooled.{Pooled}
use Rattle.rq_pool.specs.Reading.{ArePages, AreSeen, OnlyRead}
use Rattle.rq_store.specs.Fitting.{AllFit, FitsPage, HoldsBase, image_in}
use Rattle.rq_store.specs.Opening.{IsLeft, next_restart}
use Rattle.rq_store.specs.Whole.{IsWhole}
use Rattle.rq_store.proofs.Cutting.{whole_dropped}
use Rattle.rq_analysis.specs.Recovered.{IsRecovered}
use Rattle.rq_analysis.proofs.Recovering.{recovered_from}
use Rattle.rq_analysis.proofs.Stopping.{plain_drop}
use Rattle.rq_engine.specs.Devices.{EachPair}
use Rattle.rq_engine.specs.Devices.Path.{Log, Start}
use Rattle.rq_engine.specs.Earlier.{rebased}
use Rattle.rq_restart.specs.Opens.{KeepsStores}
use Rattle.rq_restart.specs.Repeating.{Repeats, paged}
use Rattle.rq_restart.specs.Past.{IsPast}
use Rattle.rq_restart.specs.Restarting.{IsBegunBehind, WasLeftOrForced}
use Rattle.rq_restart.specs.RolledBack.{IsRolledBackSince}
use Rattle.rq_restart.specs.Standing.{Found, KeepsStore, Stands, StandsRead, before}
use Rattle.rq_restart.specs.Telling.{GoesOnTelling}
use Rattle.rq_restart.specs.Underway.{IsOnWay, IsSomeStore}
use Rattle.rq_restart.specs.Undoing.{AreAsFound, HaveBeenHonest}
use Rattle.rq_restart.proofs.Loading.{one_size}
use Rattle.rq_restart.proofs.OnWay.{log_is_read, on_device, pages_are_read, path_end}
use Rattle.rq_restart.proofs.Pasts.{IsAddedOn, added_join, begun_added, begun_on, earlier_back, mended_added, past_of, read_is, same_log, standing_on}
use Rattle.rq_restart.proofs.Restarts.{left_read, told_on}
use Rattle.rq_restart.proofs.Standing.{pages_stand}

-- the first of the records behind a log, that begin an incarnation over it, where this was read of it
module _ (z : Sizes) (images : Images) (log older : List Record) (read bytes : List ℕ) (told : AreSpelled log) (same : older ≡ marked log) (b : IsBegunBehind z images older read bytes) where
  abbrev e : List Record
  e = earlier log

  back : rebased e older ≡ log
  back = ap (rebased e) same ∙ earlier_back log told

  past : IsPast e older
  past = subst (IsPast e) (sym same) (past_of log told)

  abbrev begins : List Record
  begins = next_restart b.rolled_back ∷ b.rolled_back

  added : IsAddedOn e older begins
  added = added_join e older b.rolled_back begins (mended_added e older b.rolled_back b.rolls_back) (begun_added e b.rolled_back)

  abbrev behind : List Record
  behind = added.more

  -- all of them, behind the whole log
  abbrev pub all : List Record
  all = rebased e begins

  there : behind ++ log ≡ all
  there = ap (λ (l : List Record). behind ++ l) (sym back) ∙ added.there

  few : b.lacks ≤ length behind
  few = let n = ap length added.are in let m = length-append behind older in let s = b.some in omega (arith, n, m, s)

  -- and the first of them
  abbrev pub kept : List Record
  kept = drop b.lacks all

  is_kept : drop b.lacks behind ++ log ≡ kept
  is_kept = sym (drop-append-le b.lacks behind log few) ∙ ap (drop b.lacks) there

  pub kept_extends : Extends log kept
  kept_extends = (drop b.lacks behind, is_kept, plain_drop b.lacks behind added.plain)

  -- the same stands of them as of what was read
  pub kept_stand : standing kept ≡ standing (drop b.lacks begins)
  kept_stand =
      let plain = plain_drop b.lacks behind added.plain in
      let was : drop b.lacks behind ++ older ≡ drop b.lacks begins = sym (drop-append-le b.lacks behind older few) ∙ ap (drop b.lacks) added.are in
      ap standing (sym is_kept) ∙ added_stand (drop b.lacks behind) log plain
      ∙ ap (λ (l : List Record). drop b.lacks behind ++ l) (sym (marked_stands log) ∙ ap standing (sym same))
      ∙ sym (added_stand (drop b.lacks behind) older plain) ∙ ap standing was

-- no record is read yet
abbrev pub unread : {L : Type 0} → L → LogRead L
unread log = record { records = []; left = 0; device = log; first = log }

module _ {P L : Type 0} (p : page_device.Ghosts P) (l : log_device.Ghosts L)
    (pages_now : (d : P) (c : Images) → p.left_since d (p.moment d) c → Leaves (p.may_be d) c) (pages_count : (d : P) (t : ℕ) (c : Images) → t ≤ p.moment d → Leaves (p.may_be d) c → p.left_since d t c) (log_count : (d : L) (t : ℕ) (c : List ℕ) → t ≤ l.moment d → l.may_leave d c → l.left_since d t c) where
  -- devices that hold a store, of which the pages were read
  module _ (pages_some : (d : P) (q : ℕ) → p.may_be d q (p.seen d q)) (log_some : (d : L) → l.may_leave d (l.seen d)) (pages : P) (log : L) (z : Sizes) (read : List Record) (are : AreSpelled read) (reads : EndsWith read (l.seen log)) (was : EachPair p l pages log (IsSomeStore z (earlier read))) where
    left_of : (images : Images) → Leaves (p.may_be pages) images → IsInRange z × IsLeft z images read
    left_of images a =
        let x = was images (l.seen log) a (log_some log) in
        (x.1.range, subst (IsLeft z images) (same_log x.0 read (one_log (standing x.0) (standing read) (l.seen log) x.1.are_spelled are x.1.is reads) x.2) x.1.left)

    -- all pages read as they do, but for one
    abbrev one : ℕ → List ℕ → Images
    one q c n = cond (nat_eq n q) c (p.seen pages n)

    one_is : (q : ℕ) (c : List ℕ) → one q c q ≡ c
    one_is q c = let yes : nat_eq q q ≡ true = grind (arith, nat_tests) in ap (λ b. cond b c (p.seen pages q)) yes

    one_leaves : (q : ℕ) (c : List ℕ) → p.may_be pages q c → Leaves (p.may_be pages) (one q c)
    one_leaves q c may n = elim (cases_eq n q) [
      | inl same ↦
          let yes : nat_eq n q ≡ true = grind (arith, nat_tests) in
          subst (p.may_be pages n) (sym (ap (λ b. cond b c (p.seen pages n)) yes)) (subst (λ (k : ℕ). p.may_be pages k c) (sym same) may)
      | inr other ↦
          let no : nat_eq n q ≡ false = grind (arith, nat_tests) in
          subst (p.may_be pages n) (sym (ap (λ b. cond b c (p.seen pages n)) no)) (pages_some pages n)
    ]

    left_one : (q : ℕ) (c : List ℕ) → p.may_be pages q c → IsLeft z (one q c) read
    left_one q c may = (left_of (one q c) (one_leaves q c may)).1

    all_fit : AllFit (p.may_be pages) z read
    all_fit = record {
      superblock = λ c may. subst (IsFormatted z 0) (one_is 0 c) (left_one 0 c may).fits.superblock;
      headers = λ q c low high may. subst (IsHeaderOf z q) (one_is q c) ((left_one q c may).fits.headers q low high);
      pages = λ q c low high may. subst (FitsPage z read q) (one_is q c) ((left_one q c may).fits.pages q low high);
      based = λ q c low high may. subst (HoldsBase z read q) (one_is q c) ((left_one q c may).based q low high);
    }

    seen_left : IsInRange z × IsLeft z (p.seen pages) read
    seen_left = left_of (p.seen pages) (pages_some pages)

    pub started : (loaded : P) → OnlyRead p pages loaded → IsOnWay p l pages log z read read loaded log
    started loaded only = pages_are_read p l pages_now pages_count log_count pages log z read read pages loaded log (record {
      path = Start (λ images bytes a b. let s = was images bytes a b in (s.0, s.1, s.2, inl b));
      fit = all_fit;
      range = seen_left.0;
      whole = seen_left.1.whole;
      extends = ([], refl, tt);
      told = are;
      reads = reads;
      seen = inl refl;
    }) only

    module _ (loaded : Pooled P) (sound : ArePages loaded.sizes loaded.images) (seen : AreSeen (p.seen pages) loaded.images (page_count loaded.sizes)) (only : OnlyRead p pages loaded.device) where
      abbrev pub found : Found P L
      found = record { pages = pages; log = log; sizes = z; read = read; images = image_in loaded.images }

      sizes_are : loaded.sizes ≡ z
      sizes_are = one_size loaded.sizes z (p.seen pages 0) (told_on loaded.sizes (p.seen pages) loaded.images sound seen) (record { range = seen_left.0; formatted = seen_left.1.fits.superblock })

      pub stands_first : StandsRead p l found loaded (unread log)
      stands_first = record {
        sizes = sizes_are;
        left = left_read z (p.seen pages) loaded.images read (subst (λ (y : Sizes). AreSeen (p.seen pages) loaded.images (page_count y)) sizes_are seen) seen_left.1;
        on = started loaded.device only;
        reads = reads;
        repeated = refl;
      }

  -- ---- the log is read

  module _ (f : Found P L) (pages : Pooled P) (reader : LogRead L) (so : StandsRead p l f pages reader) where
    -- it was read, or forced
    pub reader_reads : (new : L) → IsRead l reader.device new → StandsRead p l f pages (record reader { device = new })
    reader_reads new only = record {
      sizes = so.sizes;
      left = so.left;
      on = log_is_read p l pages_now pages_count log_count f.pages f.log f.sizes f.read f.read pages.device reader.device new so.on only;
      reads = so.reads;
      repeated = so.repeated;
    }

    -- all of it was
    pub all_read : (log : Logged L) → log.records ≡ reader.records → log.device ≡ reader.device → IsMarked reader.records → AreSpelled reader.records → EndsWith reader.records (l.seen reader.first) → Stands p l f pages log × AreAsFound p l f log.records
    all_read log records device marks are ends =
        let same : log.records ≡ marked f.read = records ∙ read_is reader.records f.read (l.seen reader.first) marks are so.on.told ends so.reads in
        let back : rebased (before p l f) log.records ≡ f.read = ap (rebased (before p l f)) same ∙ earlier_back f.read so.on.told in (
          record {
            sizes = so.sizes;
            left = so.left;
            kept = f.read;
            on = subst (λ (d : L). IsOnWay p l f.pages f.log f.sizes f.read f.read pages.device d) (sym device) so.on;
            front = ([], sym back, tt);
            past = subst (IsPast (before p l f)) (sym same) (past_of f.read so.on.told);
            repeated = subst (λ (rs : List Record). Repeats f.sizes rs f.images (paged pages)) (sym records) so.repeated;
          },
          back,
        )

  -- ---- what a restart leaves

  module _ (pages_some : (d : P) (q : ℕ) → p.may_be d q (p.seen d q)) (log_some : (d : L) → l.may_leave d (l.seen d)) (pages : P) (log : L) where
    -- the pages could not be read
    pub keeps_unread : (new_pages : P) → OnlyRead p pages new_pages → GoesOnTelling l log log (Unit {0}) → KeepsStores p l pages log new_pages log
    keeps_unread new_pages only telling = record {
      pages_honest = only.honest;
      kept = λ h older told reads. (telling h older told reads).moments;
      path = λ h k z read are reads was. (started pages_some log_some pages log z read are reads was new_pages only).path;
      crash = λ h k z read are reads was. path_end p l pages_now pages_count log_count pages log z read (started pages_some log_some pages log z read are reads was new_pages only).path;
    }

    -- they were read, and a restart went its way
    pub keeps_stores : (loaded : Pooled P) → ArePages loaded.sizes loaded.images → (p.honest loaded.device → AreSeen (p.seen pages) loaded.images (page_count loaded.sizes)) → OnlyRead p pages loaded.device
        → (new_pages : P) (new_log : L) (ended : Type 0) → (p.honest new_pages → p.honest loaded.device) → GoesOnTelling l log new_log ended
        → (HaveBeenHonest p l new_pages new_log → (f : Found P L) → StandsRead p l f loaded (unread log) → KeepsStore p l f new_pages new_log) → KeepsStores p l pages log new_pages new_log
    keeps_stores loaded sound seen only new_pages new_log ended honest telling way = record {
      pages_honest = λ h. only.honest (honest h);
      kept = λ h older told reads. (telling h older told reads).moments;
      path = λ h k z read are reads was. on_path h k z read are reads was;
      crash = λ h k z read are reads was. path_end p l pages_now pages_count log_count pages log z read (on_path h k z read are reads was);
    } where
      on_path : (h : p.honest new_pages) (k : l.honest new_log) (z : Sizes) (read : List Record) (are : AreSpelled read) (reads : EndsWith read (l.seen log)) (was : EachPair p l pages log (IsSomeStore z (earlier read))) → KeepsStore p l (found pages_some log_some pages log z read are reads was loaded sound (seen (honest h)) only) new_pages new_log
      on_path h k z read are reads was = way (h, k) (found pages_some log_some pages log z read are reads was loaded sound (seen (honest h)) only) (stands_first pages_some log_some pages log z read are reads was loaded sound (seen (honest h)) only)

  -- ---- the next incarnation is begun

  module _ (f : Found P L) (pages : Pooled P) (log : Logged L) (so : Stands p l f pages log) (recovered : IsRecovered f.sizes f.read (rebased (before p l f) log.records)) where
    abbrev past_e : List Record
    past_e = before p l f

    abbrev begun_now : List Record
    begun_now = next_restart log.records ∷ log.records

    abbrev all_now : List Record
    all_now = rebased past_e begun_now

    front_now : Extends so.kept all_now
    front_now = let added = begun_added past_e log.records in extends_join so.kept (rebased past_e log.records) all_now so.front (added.more, added.there, added.plain)

    stands_all : standing all_now ≡ standing begun_now
    stands_all = standing_on past_e begun_now ((begun_added past_e log.records).past so.past)

    whole : IsWhole f.sizes all_now
    whole = subst (IsWhole f.sizes) (sym (begun_on past_e log.records so.past)) (recovered_from f.sizes f.read (rebased past_e log.records) so.left.whole recovered).restarts

    pub begun_keeps : (new : L) (r : Record) → r ≡ next_restart log.records → LeavesOnly l log.device new (WasLeftOrForced l log.device (r ∷ log.records) log.forced) → KeepsStore p l f pages.device new
    begun_keeps new r is leaves =
        let run = subst (λ (q : Record). LeavesOnly l log.device new (WasLeftOrForced l log.device (q ∷ log.records) log.forced)) is leaves in
        Log so.on.path (weaker l log.device new (WasLeftOrForced l log.device begun_now log.forced) _ run (λ bytes b images a. ⊎_elim
        (λ was. path_end p l pages_now pages_count log_count f.pages f.log f.sizes f.read so.on.path images bytes a was)
        (λ on. on_device p l pages_now pages_count log_count f.pages f.log f.sizes f.read so.kept all_now pages.device (record log { records = begun_now }) so.on front_now stands_all (subst AreAllSpelled (sym stands_all) on.0) (λ n few. whole_dropped f.sizes n all_now whole) bytes images a on.1) b))

  -- pages were read of which the records that mend the log were repeated, before that
  module _ (f : Found P L) (old mid new : Pooled P) (log mid_log : Logged L) (so : Stands p l f old log) (found_so : AreAsFound p l f log.records) (rolls : IsRolledBackSince old.sizes log.records mid_log.records (paged old) (paged mid)) (there : Stands p l f mid mid_log) (read : MayHaveRead p mid new) (h : p.honest new.device) where
    stands_read : Stands p l f new mid_log
    stands_read = pages_stand p l pages_now pages_count log_count f mid mid_log there new (read.kept 0).sizes ((read.kept 0).images h) read.device

    recovers_so : IsRecovered f.sizes f.read (rebased (before p l f) mid_log.records)
    recovers_so =
        let mended = subst (λ (y : Sizes). IsRolledBackSince y log.records mid_log.records (paged old) (paged mid)) so.sizes rolls in
        subst (λ (k : List Record). IsRecovered f.sizes k (rebased (before p l f) mid_log.records)) found_so
        (mended.recovered f.images so.repeated (before p l f) so.past (subst (IsLeft f.sizes f.images) (sym found_so) so.left))

    pub mended_keeps : (now : L) (r : Record) → r ≡ next_restart mid_log.records → LeavesOnly l mid_log.device now (WasLeftOrForced l mid_log.device (r ∷ mid_log.records) mid_log.forced) → KeepsStore p l f new.device now
    mended_keeps = begun_keeps f new mid_log stands_read recovers_so

  pub slots_keep : (f : Found P L) (mid new : Pooled P) (log : Logged L) → Stands p l f mid log → MayHaveRead p mid new → p.honest new.device → KeepsStore p l f new.device log.device
  slots_keep f mid new log there read h = (pages_stand p l pages_now pages_count log_count f mid log there new (read.kept 0).sizes ((read.kept 0).images h) read.device).on.path
