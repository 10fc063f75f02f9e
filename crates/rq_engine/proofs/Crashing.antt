-- Pages that a crash leaves fit the log that it leaves.
use Rattle.std.proofs.Common.{◌≡◌, Bool, true, false, ℕ, zero, suc, ◌+◌, ◌-◌, ◌<◌, ◌≤◌, List, drop, refl, sym, subst, Result, Ok, Err, ◌⊎◌, ⊎_elim, inl, inr, arith, length, take, ap, ◌∙◌, ◌≡◌}
use Rattle.std.proofs.lemmas.List.{drop_all, length-drop, take-append-drop}
use Rattle.rq_model.specs.Commits.{committed_of}
use Rattle.rq_model.specs.Incarnations.{incarnation_of}
use Rattle.rq_model.specs.Ledger.{group_in, kept_in}
use Rattle.rq_model.proofs.Rises.{kept_less}
use Rattle.rq_model.proofs.Told.{content_is}
use Rattle.rq_model.proofs.Cuts.{cut_commits}
use Rattle.rq_model.specs.declared.record.Record.{Record}
use Rattle.rq_model.specs.declared.refusal.Refusal.{Refusal}
use Rattle.rq_model.specs.declared.refusal.Refusal.TheVariants as why
use Rattle.rq_model.specs.History.{Call}
use Rattle.rq_model.specs.Replay.{Reply as Gave}
use Rattle.rq_page.specs.Sizes.{Sizes, page_count}
use Rattle.rq_page.specs.Pages.{lsn_of}
use Rattle.rq_page.specs.Formatted.{IsFormatted, IsHeaderOf}
use Rattle.rq_disk.specs.Device.{Images, Leaves}
use Rattle.rq_disk.specs.declared.device.LogDevice as log_device
use Rattle.rq_disk.specs.declared.device.PageDevice as page_device
use Rattle.rq_model.specs.Bases.{base_lsn, gone, standing}
use Rattle.rq_model.proofs.Bases.{base_among, drop_standing, length_standing}
use Rattle.rq_log.specs.Spelled.{AreAllSpelled, AreSpelled, EndsWithAll, IsBeginning}
use Rattle.rq_log.specs.Crash.{LeavesOnly}
use Rattle.rq_pool.specs.declared.Written.{Written}
use Rattle.rq_pool.specs.declared.Written.TheVariants as out
use Rattle.rq_pool.specs.KeptUp.{IsKeptUp, MayBeKept}
use Rattle.rq_pool.specs.Pooled.{image_at}
use Rattle.rq_pool.specs.Writing.{DeviceAfter, MayHaveSynced, MayHaveWritten}
use Rattle.rq_store.specs.State.{State}
use Rattle.rq_store.specs.Fitting.{oldest, AllHoldBase, HoldsBase, FitsPage, FitsLog, AllFit, image_in}
use Rattle.rq_store.specs.Steps.{Continues}
use Rattle.rq_sound.specs.Sound.{IsSound}
use Rattle.rq_sound.specs.ModelSteps.{IsModelStep}
use Rattle.rq_store.proofs.Based.{all_base_longer, base_shorter, grown_base, hold_base, kept_base, oldest_base}
use Rattle.rq_store.proofs.Begun.{begun_cut}
use Rattle.rq_store.proofs.Cutting.{whole_dropped, longer_continues, oldest_continues, all_fit_longer, page_fits_oldest, fits_log, fits_log_longer}
use Rattle.rq_engine.specs.declared.event.Event.{Event}
use Rattle.rq_engine.specs.declared.event.Event.TheVariants as event
use Rattle.rq_engine.specs.declared.event.Reply.{Reply}
use Rattle.rq_engine.specs.declared.event.Reply.TheVariants as reply
use Rattle.rq_engine.specs.Opened.{AreHonest, OpenStore, WritesWhen, pooled, state_after}
use Rattle.rq_model.specs.Causes.{starts_one}
use Rattle.rq_engine.specs.KeptUp.{PagesStay, RefusalCounts, ReplyCounts}
use Rattle.rq_engine.specs.Says.{PagesSay, WritesSay, call_of, written_by}
use Rattle.rq_engine.specs.Crash.{AreFit, IsCut, KeepsFit, LeavesCut, RunsThroughCuts, StaysFit, commits_left}
use Rattle.rq_engine.specs.Earlier.{on, over, rebased, IsEarlier}
use Rattle.rq_engine.specs.Devices.Path.{Start, Pages, Log}
use Rattle.rq_engine.proofs.UnknownStay.{IsNoCheckpoint}
use Rattle.rq_engine.proofs.Earlier.{beginning_on, long_on, standing_on, told_on}
use Rattle.rq_log.proofs.Moments.{started, weaker}
use Rattle.rq_log.proofs.Runs.{AreAllSpelled-drop}

-- the commits that a cut leaves
pub commits_of_cut : (lost : ℕ) (log : List Record) → take (commits_left log lost) (committed_of log) ≡ committed_of (drop lost log)
commits_of_cut lost log =
    subst (λ l. take (kept_in (length (drop lost log)) (committed_of l)) (committed_of l) ≡ committed_of (drop lost log)) (take-append-drop lost log) (cut_commits (take lost log) (drop lost log))

-- the record that began the incarnation is forced, so some are
some_forced : (forced i : ℕ) (log : List Record) → incarnation_of (oldest forced log) ≡ i → 1 ≤ i → 0 < forced
some_forced zero i log e some =
    let none = ap incarnation_of (drop_all (length log - 0) log (omega arith)) in
    absurd (omega (arith, e, some, none))
some_forced (suc n) i log e some = omega arith

-- its records have spellings, and a Base is forced once anything is
abbrev pub IsOnDevice : State → Type 0
IsOnDevice s = AreSpelled s.records × (0 < s.forced → gone s.records < s.forced)

pub on_device : (e : List Record) (s : State) → IsEarlier e s → IsOnDevice s → IsOnDevice (on e s)
on_device e s long told = (told_on e s.records told.0 long, λ some. subst (λ (n : ℕ). n < s.forced) (sym (standing_on e s.records told.0 long).1) (told.1 some))

-- the pages fit the log, and none is older than its Base without what that stands for
abbrev pub AreLeft : Sizes → Images → List Record → Type 0
AreLeft z images log = FitsLog z images log × AllHoldBase z images log

pub are_left : (may_be : ℕ → List ℕ → Type 0) (z : Sizes) (log : List Record) (images : Images) → AllFit may_be z log → ((p : ℕ) → may_be p (images p)) → AreLeft z images log
are_left may_be z log images f each = (fits_log may_be z log images f each, hold_base may_be z log images f each)

-- more is forced than what the Base stands for
more_forced : (s : State) → IsSound s → IsOnDevice s → gone s.records < s.forced
more_forced s k told = told.1 (some_forced s.forced s.incarnation s.records k.begun k.some)

-- the log's first records, and pages that fit those that are forced
pub cut : (s : State) → IsSound s → IsOnDevice s → (images : Images) (bytes : List ℕ) → AreLeft s.sizes images (oldest s.forced s.records) → IsBeginning s.records s.forced bytes → IsCut s images bytes
cut s k told images bytes fits b =
    let based = more_forced s k told in
    let all = length_standing s.records in
    let within : b.0 + s.forced ≤ length s.records = (let le = b.1 in omega (arith, le, all, based)) in
    let stand = drop_standing b.0 s.records (omega (arith, within, based)) in
    let whole = whole_dropped s.sizes b.0 s.records k.log in
    let goes_on = longer_continues b.0 s.forced s.records within in
    record {
      lost = b.0;
      forced = within;
      incarnation = begun_cut b.0 s.forced s.incarnation s.records within whole.order k.begun;
      told = subst AreAllSpelled (sym stand) (AreAllSpelled-drop b.0 (standing s.records) told.0);
      spells = subst (λ (l : List Record). EndsWithAll l bytes) (sym stand) b.2;
      begins = b.3 (omega (arith, based));
      store = record { whole = whole; fits = fits_log_longer s.sizes images (oldest s.forced s.records) (drop b.0 s.records) goes_on fits.0; based = all_base_longer s.sizes images (oldest s.forced s.records) (drop b.0 s.records) goes_on (kept_base b.0 s.forced s.records within based) fits.1 };
      durable = kept_less s.forced (length (drop b.0 s.records)) (committed_of s.records) (let n = length-drop b.0 s.records in omega (arith, n, within));
      content = λ g. content_is g (drop b.0 s.records) whole.rules ∙ ap (λ c. group_in c g) (sym (commits_of_cut b.0 s.records));
    }

module _ {P L : Type 0} (p : page_device.Ghosts P) (l : log_device.Ghosts L) (only_now : (d : P) (c : Images) → p.left_since d (p.moment d) c → Leaves (p.may_be d) c) where
  pub leaves_cut : (s : OpenStore P L) → (l.honest s.log → (c : List ℕ) → l.may_leave s.log c → IsBeginning s.state.records s.state.forced c) → IsOnDevice s.state → l.honest s.log → IsSound s.state → AreFit p s → LeavesCut p l s
  leaves_cut s log told h k fit images bytes there left = cut s.state k told images bytes (are_left (p.may_be s.pages) s.state.sizes (oldest s.state.forced s.state.records) images fit there) (log h bytes left)

  module _ (old new : OpenStore P L) (k : IsSound old.state) (fit : AreFit p old) (told : IsOnDevice old.state) where
    abbrev z : Sizes
    z = old.state.sizes

    abbrev kept : List Record
    kept = oldest old.state.forced old.state.records

    kept_of : Continues kept old.state.records
    kept_of = (length old.state.records - old.state.forced, refl)

    -- the Base is forced
    same_base : base_lsn old.state.records ≡ base_lsn kept
    same_base = sym (oldest_base old.state.forced old.state.records (base_among old.state.forced old.state.records (more_forced old.state k told)) k.forced)

    -- what is so of the pages afterwards, and of them at each moment since
    record Goes : Type 0 where
      pub now : AllFit (p.may_be new.pages) z kept
      pub each : (images : Images) → p.left_since new.pages (p.moment old.pages) images → AreLeft z images kept
      pub later : p.moment old.pages ≤ p.moment new.pages

    stays : new.pages ≡ old.pages → Goes
    stays e = record {
      now = subst (λ (d : P). AllFit (p.may_be d) z kept) (sym e) fit;
      each = subst (λ (d : P). (images : Images) → p.left_since d (p.moment old.pages) images → AreLeft z images kept) (sym e)
          (λ images left. are_left (p.may_be old.pages) z kept images fit (only_now old.pages images left));
      later = (let same = ap p.moment e in omega (arith, same));
    }

    -- the page that is handed to the device
    module _ (page : ℕ) (within : page < page_count z) (forced : lsn_of (image_at old.state.images page) ≤ old.state.forced) (w : MayHaveWritten p page (image_at old.state.images page) old.pages new.pages) where
      fits_now : AllFit (p.may_be new.pages) z kept
      fits_now = record {
        superblock = λ c may. ⊎_elim (fit.superblock c) (λ e. subst (λ b. IsFormatted z 0 b) (sym e.1) (subst (λ p. IsFormatted z 0 (image_in old.state.images p)) e.0 k.fits.superblock)) (w.crash 0 c may);
        headers = λ p c low high may. ⊎_elim (fit.headers p c low high) (λ e. subst (λ b. IsHeaderOf z p b) (sym e.1) (subst (λ q. IsHeaderOf z p (image_in old.state.images q)) e.0 (k.fits.headers p low high))) (w.crash p c may);
        pages = λ p c low high may. ⊎_elim (fit.pages p c low high) (λ e. subst (λ b. FitsPage z kept p b) (sym e.1) (subst (λ q. lsn_of (image_in old.state.images q) ≤ old.state.forced → FitsPage z kept p (image_in old.state.images q)) e.0 (λ le. page_fits_oldest z p old.state.forced (image_in old.state.images p) old.state.records le k.forced (k.fits.pages p low high)) forced)) (w.crash p c may);
        based = λ p c low high may. ⊎_elim (fit.based p c low high) (λ e. subst (λ b. HoldsBase z kept p b) (sym e.1) (subst (λ q. HoldsBase z kept p (image_in old.state.images q)) e.0 (base_shorter kept old.state.records kept_of same_base z p (image_in old.state.images p) (k.based p low high)))) (w.crash p c may);
      }

      written : Goes
      written = record {
        now = fits_now;
        each = λ images left. ⊎_elim
            (λ was. are_left (p.may_be old.pages) z kept images fit (only_now old.pages images was))
            (λ now. are_left (p.may_be new.pages) z kept images fits_now now)
            (w.time.nothing_else (p.moment old.pages) images (omega arith) left);
        later = w.time.later;
      }

    -- pages are read, and others whose last records are forced are handed to the device
    module _ (k_up : IsKeptUp p old.state.forced (pooled old) (pooled new)) where
      abbrev may_be_kept : ℕ → List ℕ → Type 0
      may_be_kept = MayBeKept p old.state.forced (pooled old)

      kept_fits : AllFit may_be_kept z kept
      kept_fits = record {
        superblock = λ c may. ⊎_elim (fit.superblock c) (λ e. subst (λ b. IsFormatted z 0 b) (sym e.is) k.fits.superblock) may;
        headers = λ q c low high may. ⊎_elim (fit.headers q c low high) (λ e. subst (λ b. IsHeaderOf z q b) (sym e.is) (k.fits.headers q low high)) may;
        pages = λ q c low high may. ⊎_elim (fit.pages q c low high) (λ e. subst (λ b. lsn_of b ≤ old.state.forced → FitsPage z kept q b) (sym e.is) (λ le. page_fits_oldest z q old.state.forced (image_in old.state.images q) old.state.records le k.forced (k.fits.pages q low high)) e.lsn) may;
        based = λ q c low high may. ⊎_elim (fit.based q c low high) (λ e. subst (λ b. HoldsBase z kept q b) (sym e.is) (base_shorter kept old.state.records kept_of same_base z q (image_in old.state.images q) (k.based q low high))) may;
      }

      kept_up : Goes
      kept_up = record {
        now = record {
          superblock = λ c may. kept_fits.superblock c (k_up.crash 0 c may);
          headers = λ q c low high may. kept_fits.headers q c low high (k_up.crash q c may);
          pages = λ q c low high may. kept_fits.pages q c low high (k_up.crash q c may);
          based = λ q c low high may. kept_fits.based q c low high (k_up.crash q c may);
        };
        each = λ images left. ⊎_elim
            (λ was. are_left (p.may_be old.pages) z kept images fit (only_now old.pages images was))
            (λ now. are_left may_be_kept z kept images kept_fits now)
            (k_up.time.nothing_else (p.moment old.pages) images (omega arith) left);
        later = k_up.time.later;
      }

    -- a page behind those of the store is
    behind : (page : ℕ) (image : List ℕ) → page_count z ≤ page → MayHaveWritten p page image old.pages new.pages → Goes
    behind page image over w =
        let was : (q : ℕ) (c : List ℕ) → q < page_count z → p.may_be new.pages q c → p.may_be old.pages q c = λ q c low may. ⊎_elim (λ b. b) (λ e. absurd (let same = e.0 in omega (arith, same, low, over))) (w.crash q c may) in
        let now : AllFit (p.may_be new.pages) z kept = record {
          superblock = λ c may. fit.superblock c (was 0 c (omega arith) may);
          headers = λ q c low high may. fit.headers q c low high (was q c high may);
          pages = λ q c low high may. fit.pages q c low high (was q c high may);
          based = λ q c low high may. fit.based q c low high (was q c high may);
        } in
        record {
          now = now;
          each = λ images left. ⊎_elim
              (λ before. are_left (p.may_be old.pages) z kept images fit (only_now old.pages images before))
              (λ since. are_left (p.may_be new.pages) z kept images now since)
              (w.time.nothing_else (p.moment old.pages) images (omega arith) left);
          later = w.time.later;
        }

    -- the pages are made durable
    synced : MayHaveSynced p old.pages new.pages → Goes
    synced w = record {
      now = record {
        superblock = λ c may. fit.superblock c (w.crash 0 c may);
        headers = λ q c low high may. fit.headers q c low high (w.crash q c may);
        pages = λ q c low high may. fit.pages q c low high (w.crash q c may);
        based = λ q c low high may. fit.based q c low high (w.crash q c may);
      };
      each = λ images left. are_left (p.may_be old.pages) z kept images fit
          (⊎_elim (λ was. only_now old.pages images was) (λ now q. w.crash q (images q) (now q)) (w.time.nothing_else (p.moment old.pages) images (omega arith) left));
      later = w.time.later;
    }

    goes_out : (page : ℕ) (r : Result Written Refusal) → WritesWhen old page r → DeviceAfter p page (image_at old.state.images page) old.pages new.pages r → Goes
    goes_out page (Ok out.Done) when after = written page when.1.0.of_store when.1.1 after.1
    goes_out page (Ok out.Nothing) when after = stays after
    goes_out page (Err why.DiskWrite) when after = written page when.1.0.of_store when.1.1 after.0
    goes_out page (Err _) when after = stays after

    goes_by : (starts : Bool) (r : Reply) → PagesStay starts p old r new → Goes
    goes_by true r say = kept_up say.0
    goes_by false r say = stays say

    goes : (e : Event) (r : Reply) → IsNoCheckpoint e → WritesSay old e r → PagesSay p old new e r → Goes
    goes (event.WritePage page) r other when say = goes_out page (written_by r) when say
    goes event.Checkpoint r other when say = absurd other
    goes (event.Migrate pages) r other when say = absurd other
    goes event.Content r other when say = kept_up say.0.0
    goes e r other when say = goes_by (starts_one (call_of e)) r say

    pub fit_kept : (e : Event) (r : Reply) → IsNoCheckpoint e → (call : Call) (gave : Gave) → new.state.sizes ≡ old.state.sizes → base_lsn new.state.records ≡ base_lsn old.state.records → IsModelStep old.state call gave new.state → WritesSay old e r → PagesSay p old new e r → AreFit p new
    fit_kept e r other call gave sizes base steps when say =
        subst (λ (y : Sizes). AllFit (p.may_be new.pages) y (oldest new.state.forced new.state.records)) (sym sizes)
        (all_fit_longer (p.may_be new.pages) z kept (oldest new.state.forced new.state.records)
        (oldest_continues old.state.forced new.state.forced old.state.records new.state.records steps.goes_on k.forced steps.stays_forced steps.sound.forced)
        (grown_base old.state.forced new.state.forced old.state.records new.state.records base (more_forced old.state k told) k.forced steps.stays_forced steps.sound.forced)
        (goes e r other when say).now)

    -- at each moment a crash leaves a cut of the older records, whichever device the call changes
    through : Goes → ((c : List ℕ) → l.may_leave old.log c → IsBeginning old.state.records old.state.forced c)
        → LeavesOnly l old.log new.log (IsBeginning old.state.records old.state.forced) → RunsThroughCuts p l old new
    through g log run =
        let cut_of : (images : Images) (bytes : List ℕ) → AreLeft z images kept → IsBeginning old.state.records old.state.forced bytes → IsCut old.state images bytes =
        (λ images bytes fits b. cut old.state k told images bytes fits b) in
        Log (Pages (Start (λ images bytes a b. cut_of images bytes (are_left (p.may_be old.pages) z kept images fit a) (log bytes b)))
        (record { later = g.later; each = λ images since bytes b. cut_of images bytes (g.each images since) (log bytes b) }))
        (weaker l old.log new.log (IsBeginning old.state.records old.state.forced) (λ bytes. (images : Images) → Leaves (p.may_be new.pages) images → IsCut old.state images bytes) run
        (λ bytes b images a. cut_of images bytes (are_left (p.may_be new.pages) z kept images g.now a) b))

    pub runs_through_cuts : (e : Event) (r : Reply) → IsNoCheckpoint e → WritesSay old e r → PagesSay p old new e r
        → ((c : List ℕ) → l.may_leave old.log c → IsBeginning old.state.records old.state.forced c)
        → LeavesOnly l old.log new.log (IsBeginning old.state.records old.state.forced) → RunsThroughCuts p l old new
    runs_through_cuts e r other when say log run = through (goes e r other when say) log run

    -- a call that writes no record
    module _ (sizes : new.state.sizes ≡ z) (records : new.state.records ≡ old.state.records)
        (log : (c : List ℕ) → l.may_leave old.log c → IsBeginning old.state.records old.state.forced c) where
      stays_fit : Goes → old.state.forced ≤ new.state.forced → new.state.forced ≤ length old.state.records
          → LeavesOnly l old.log new.log (IsBeginning old.state.records old.state.forced) → StaysFit p l old new
      stays_fit g more within run = record {
        fit = subst (λ (y : Sizes). AllFit (p.may_be new.pages) y (oldest new.state.forced new.state.records)) (sym sizes)
            (subst (λ (rs : List Record). AllFit (p.may_be new.pages) z (oldest new.state.forced rs)) (sym records)
            (all_fit_longer (p.may_be new.pages) z kept (oldest new.state.forced old.state.records)
            (oldest_continues old.state.forced new.state.forced old.state.records old.state.records (0, refl) k.forced more within)
            (grown_base old.state.forced new.state.forced old.state.records old.state.records refl (more_forced old.state k told) k.forced more within) g.now));
        crash = through g log run;
      }

-- a page that is written, or is not, leaves these
lists_stay : (s : State) (r : Result Written Refusal) → ((state_after s r).sizes ≡ s.sizes) × ((state_after s r).records ≡ s.records) × ((state_after s r).forced ≡ s.forced)
lists_stay s (Ok w) = (refl, refl, refl)
lists_stay s (Err why.DiskWrite) = (refl, refl, refl)
lists_stay s (Err e) = (refl, refl, refl)

-- the same of the store as it is
abbrev KeepsFitAlone : {P L : Type 0} → page_device.Ghosts P → log_device.Ghosts L → OpenStore P L → OpenStore P L → Type 0
KeepsFitAlone p l old new = AreHonest p l new → IsSound old.state → AreFit p old → StaysFit p l old new

-- calls that write no record, of devices whose crashes leave nothing else while no call is made
module _ {P L : Type 0} (p : page_device.Ghosts P) (l : log_device.Ghosts L) (only_pages : (d : P) (c : Images) → p.left_since d (p.moment d) c → Leaves (p.may_be d) c)
    (only_log : (d : L) (c : List ℕ) → l.left_since d (l.moment d) c → l.may_leave d c) (old new : OpenStore P L) (told : IsOnDevice old.state)
    (leaves : l.honest old.log → (c : List ℕ) → l.may_leave old.log c → IsBeginning old.state.records old.state.forced c) where
  -- no call of the log's device is made
  log_still : l.honest old.log → new.log ≡ old.log → LeavesOnly l old.log new.log (IsBeginning old.state.records old.state.forced)
  log_still h same = subst (λ (d : L). LeavesOnly l old.log d (IsBeginning old.state.records old.state.forced)) (sym same)
      (started l old.log (IsBeginning old.state.records old.state.forced) (λ c left. leaves h c (only_log old.log c left)))

  -- one of the log's device, from a store that is the older one
  log_fits : (met : OpenStore P L) → met ≡ old → new.pages ≡ met.pages → new.state.sizes ≡ met.state.sizes → new.state.records ≡ met.state.records
      → (new.state.forced ≡ met.state.forced) ⊎ (new.state.forced ≡ length met.state.records) → (l.honest new.log → l.honest met.log)
      → (l.honest new.log → LeavesOnly l met.log new.log (IsBeginning met.state.records met.state.forced)) → KeepsFitAlone p l old new
  log_fits met same = subst (λ (s : OpenStore P L). new.pages ≡ s.pages → new.state.sizes ≡ s.state.sizes → new.state.records ≡ s.state.records
      → (new.state.forced ≡ s.state.forced) ⊎ (new.state.forced ≡ length s.state.records) → (l.honest new.log → l.honest s.log)
      → (l.honest new.log → LeavesOnly l s.log new.log (IsBeginning s.state.records s.state.forced)) → KeepsFitAlone p l old new) (sym same)
      (λ pages sizes records forced honest run h k fit.
      let few = k.forced in
      stays_fit p l only_pages old new k fit told sizes records (leaves (honest h.1)) (stays p l only_pages old new k fit told pages)
      (⊎_elim (λ e. omega (arith, e)) (λ e. omega (arith, e, few)) forced) (⊎_elim (λ e. omega (arith, e, few)) (λ e. omega (arith, e)) forced) (run h.1))

  -- one of the pages' device
  page_fits : (page : ℕ) (r : Result Written Refusal) → WritesWhen old page r → DeviceAfter p page (image_at old.state.images page) old.pages new.pages r
      → new.state ≡ state_after old.state r → new.log ≡ old.log → KeepsFitAlone p l old new
  page_fits page r when after state log h k fit =
      let same = lists_stay old.state r in
      let honest : l.honest old.log = subst (λ (d : L). l.honest d) log h.1 in
      let forced : new.state.forced ≡ old.state.forced = ap (λ (s : State). s.forced) state ∙ same.2 in
      let few = k.forced in
      stays_fit p l only_pages old new k fit told (ap (λ (s : State). s.sizes) state ∙ same.0) (ap (λ (s : State). s.records) state ∙ same.1) (leaves honest)
      (goes_out p l only_pages old new k fit told page r when after) (omega (arith, forced)) (omega (arith, forced, few)) (log_still honest log)

-- what is said of pages says nothing of records
when_over : {P L : Type 0} (x : List Record) (old : OpenStore P L) (page : ℕ) (w : Result Written Refusal) → WritesWhen old page w → WritesWhen (over x old) page w
when_over x old page (Ok w) h = h
when_over x old page (Err why.Failed) h = h
when_over x old page (Err _) h = h

-- nor does what a page write leaves
after_over : (x : List Record) (s : State) (r : Result Written Refusal) → on x (state_after s r) ≡ state_after (on x s) r
after_over x s (Ok w) = refl
after_over x s (Err why.DiskWrite) = refl
after_over x s (Err e) = refl

writes_over : {P L : Type 0} (x : List Record) (old : OpenStore P L) (e : Event) (r : Reply) → WritesSay old e r → WritesSay (over x old) e r
writes_over x old (event.WritePage page) r h = when_over x old page (written_by r) h
writes_over x old _ r h = tt

-- nor does how often the pages' device has failed
module _ {P L : Type 0} (p : page_device.Ghosts P) (x : List Record) (old new : OpenStore P L) where
  refusal_over : (r : Refusal) → RefusalCounts p r old new → RefusalCounts p r (over x old) (over x new)
  refusal_over why.DiskWrite h = h
  refusal_over why.DiskRead h = h
  refusal_over r h = h

  counts_over : (r : Reply) → ReplyCounts p r old new → ReplyCounts p r (over x old) (over x new)
  counts_over (reply.Refused r) h = refusal_over r h
  counts_over r h = h

  stay_over : (starts : Bool) (r : Reply) → PagesStay starts p old r new → PagesStay starts p (over x old) r (over x new)
  stay_over true r h = (h.0, counts_over r h.1, h.2)
  stay_over false r h = h

  pages_over : (e : Event) (r : Reply) → PagesSay p old new e r → PagesSay p (over x old) (over x new) e r
  pages_over (event.WritePage page) r h = h
  pages_over event.Checkpoint r h = h
  pages_over (event.Migrate pages) r h = h
  pages_over event.Content r h = (h.0, counts_over r h.1)
  pages_over e r h = stay_over (starts_one (call_of e)) r h

-- over any earlier records
module _ {P L : Type 0} (p : page_device.Ghosts P) (l : log_device.Ghosts L) (only_now : (d : P) (c : Images) → p.left_since d (p.moment d) c → Leaves (p.may_be d) c) where
  pub leaves_cut_over : (s : OpenStore P L) (x : List Record) → (l.honest s.log → (c : List ℕ) → l.may_leave s.log c → IsBeginning s.state.records s.state.forced c) → IsOnDevice s.state → l.honest s.log → IsEarlier x s.state → IsSound (on x s.state) → AreFit p (over x s) → LeavesCut p l (over x s)
  leaves_cut_over s x log told h long k fit = leaves_cut p l only_now (over x s) (λ q c m. beginning_on x s.state.records s.state.forced c told.0 long (log q c m)) (on_device x s.state long told) h k fit

  pub fit_kept_over : (old new : OpenStore P L) (x : List Record) → IsOnDevice old.state → IsEarlier x old.state → IsSound (on x old.state) → AreFit p (over x old) → (e : Event) (r : Reply) → IsNoCheckpoint e → (call : Call) (gave : Gave) → new.state.sizes ≡ old.state.sizes
      → base_lsn (rebased x new.state.records) ≡ base_lsn (rebased x old.state.records) → IsModelStep (on x old.state) call gave (on x new.state) → WritesSay old e r → PagesSay p old new e r → AreFit p (over x new)
  fit_kept_over old new x told long k fit e r other call gave sizes base steps when say =
      fit_kept p l only_now (over x old) (over x new) k fit (on_device x old.state long told) e r other call gave sizes base steps (writes_over x old e r when) (pages_over p x old new e r say)

  pub cuts_over : (old new : OpenStore P L) (x : List Record) → IsOnDevice old.state → IsEarlier x old.state → IsSound (on x old.state) → AreFit p (over x old) → (e : Event) (r : Reply) → IsNoCheckpoint e → WritesSay old e r → PagesSay p old new e r
      → ((c : List ℕ) → l.may_leave old.log c → IsBeginning old.state.records old.state.forced c)
      → LeavesOnly l old.log new.log (IsBeginning old.state.records old.state.forced) → RunsThroughCuts p l (over x old) (over x new)
  cuts_over old new x told long k fit e r other when say log run =
      let on_x : (c : List ℕ) → IsBeginning old.state.records old.state.forced c → IsBeginning (rebased x old.state.records) old.state.forced c = λ c. beginning_on x old.state.records old.state.forced c told.0 long in
      runs_through_cuts p l only_now (over x old) (over x new) k fit (on_device x old.state long told) e r other (writes_over x old e r when) (pages_over p x old new e r say)
      (λ c m. on_x c (log c m)) (weaker l old.log new.log (IsBeginning old.state.records old.state.forced) (IsBeginning (rebased x old.state.records) old.state.forced) run on_x)

-- calls that write no record, over any earlier records
module _ {P L : Type 0} (p : page_device.Ghosts P) (l : log_device.Ghosts L) (only_pages : (d : P) (c : Images) → p.left_since d (p.moment d) c → Leaves (p.may_be d) c)
    (only_log : (d : L) (c : List ℕ) → l.left_since d (l.moment d) c → l.may_leave d c) (old new : OpenStore P L) (told : IsOnDevice old.state)
    (leaves : old.replacing ≡ false → l.honest old.log → (c : List ℕ) → l.may_leave old.log c → IsBeginning old.state.records old.state.forced c) where
  module _ (x : List Record) (long : IsEarlier x old.state) where
    told_over : IsOnDevice (on x old.state)
    told_over = on_device x old.state long told

    begins_over : (c : List ℕ) → IsBeginning old.state.records old.state.forced c → IsBeginning (rebased x old.state.records) old.state.forced c
    begins_over c = beginning_on x old.state.records old.state.forced c told.0 long

    leaves_over : old.replacing ≡ false → l.honest old.log → (c : List ℕ) → l.may_leave old.log c → IsBeginning (rebased x old.state.records) old.state.forced c
    leaves_over none h c m = begins_over c (leaves none h c m)

    run_over : LeavesOnly l old.log new.log (IsBeginning old.state.records old.state.forced) → LeavesOnly l old.log new.log (IsBeginning (rebased x old.state.records) old.state.forced)
    run_over run = weaker l old.log new.log (IsBeginning old.state.records old.state.forced) (IsBeginning (rebased x old.state.records) old.state.forced) run begins_over

  -- one of the log's device, from a store that is the older one
  pub log_fit : (met : OpenStore P L) → met ≡ old → new.pages ≡ met.pages → new.state.sizes ≡ met.state.sizes → new.state.records ≡ met.state.records
      → (new.state.forced ≡ met.state.forced) ⊎ (new.state.forced ≡ length met.state.records) → (l.honest new.log → l.honest met.log)
      → (met.replacing ≡ false → l.honest new.log → LeavesOnly l met.log new.log (IsBeginning met.state.records met.state.forced)) → KeepsFit p l old new
  log_fit met same = subst (λ (s : OpenStore P L). new.pages ≡ s.pages → new.state.sizes ≡ s.state.sizes → new.state.records ≡ s.state.records
      → (new.state.forced ≡ s.state.forced) ⊎ (new.state.forced ≡ length s.state.records) → (l.honest new.log → l.honest s.log)
      → (s.replacing ≡ false → l.honest new.log → LeavesOnly l s.log new.log (IsBeginning s.state.records s.state.forced)) → KeepsFit p l old new) (sym same)
      (λ pages sizes records forced honest run none h x long k fit.
      log_fits p l only_pages only_log (over x old) (over x new) (told_over x long) (leaves_over x long none) (over x old) refl pages sizes (ap (rebased x) records)
      (⊎_elim (λ e. inl e) (λ e. inr (e ∙ sym (long_on x old.state long))) forced) honest (λ q. run_over x long (run none q)) h k fit)

  -- one of the pages' device
  pub page_fit : (page : ℕ) (r : Result Written Refusal) → WritesWhen old page r → DeviceAfter p page (image_at old.state.images page) old.pages new.pages r
      → new.state ≡ state_after old.state r → new.log ≡ old.log → KeepsFit p l old new
  page_fit page r when after state log none h x long k fit =
      page_fits p l only_pages only_log (over x old) (over x new) (told_over x long) (leaves_over x long none) page r (when_over x old page r when) after
      (ap (on x) state ∙ after_over x old.state r) log h k fit

  -- a page behind those of the store is handed to its device
  pub behind_fit : (page : ℕ) (image : List ℕ) → page_count old.state.sizes ≤ page → MayHaveWritten p page image old.pages new.pages → new.state.sizes ≡ old.state.sizes → new.state.records ≡ old.state.records → new.state.forced ≡ old.state.forced → new.log ≡ old.log → KeepsFit p l old new
  behind_fit page image past w sizes records forced log none h x long k fit =
      let few = k.forced in
      let honest : l.honest old.log = subst (λ (d : L). l.honest d) log h.1 in
      stays_fit p l only_pages (over x old) (over x new) k fit (told_over x long) sizes (ap (rebased x) records) (leaves_over x long none honest)
      (behind p l only_pages (over x old) (over x new) k fit (told_over x long) page image past w) (omega (arith, forced)) (omega (arith, forced, few))
      (log_still p l only_pages only_log (over x old) (over x new) (told_over x long) (leaves_over x long none) honest log)

  -- its pages are made durable
  pub sync_fit : MayHaveSynced p old.pages new.pages → new.state.sizes ≡ old.state.sizes → new.state.records ≡ old.state.records → new.state.forced ≡ old.state.forced → new.log ≡ old.log → KeepsFit p l old new
  sync_fit w sizes records forced log none h x long k fit =
      let few = k.forced in
      let honest : l.honest old.log = subst (λ (d : L). l.honest d) log h.1 in
      stays_fit p l only_pages (over x old) (over x new) k fit (told_over x long) sizes (ap (rebased x) records) (leaves_over x long none honest)
      (synced p l only_pages (over x old) (over x new) k fit (told_over x long) w) (omega (arith, forced)) (omega (arith, forced, few))
      (log_still p l only_pages only_log (over x old) (over x new) (told_over x long) (leaves_over x long none) honest log)

-- no call is made
pub none_fit : {P L : Type 0} (p : page_device.Ghosts P) (l : log_device.Ghosts L) (only_pages : (d : P) (c : Images) → p.left_since d (p.moment d) c → Leaves (p.may_be d) c)
    (only_log : (d : L) (c : List ℕ) → l.left_since d (l.moment d) c → l.may_leave d c) (s : OpenStore P L) → IsOnDevice s.state
    → (s.replacing ≡ false → l.honest s.log → (c : List ℕ) → l.may_leave s.log c → IsBeginning s.state.records s.state.forced c) → KeepsFit p l s s
none_fit p l only_pages only_log s told leaves none h x long k fit =
    let told_x = told_over p l only_pages only_log s s told leaves x long in
    let leaves_x = leaves_over p l only_pages only_log s s told leaves x long none in
    log_fits p l only_pages only_log (over x s) (over x s) told_x leaves_x (over x s) refl refl refl refl (inl refl) (λ q. q)
    (λ q. log_still p l only_pages only_log (over x s) (over x s) told_x leaves_x q refl) h k fit
