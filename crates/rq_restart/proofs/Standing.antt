-- A restart of a store on its way, from call to call.
use Rattle.std.proofs.Common.{◌≡◌, ◌⊎◌, ⊎_elim, ℕ, ◌-◌, ◌^◌, ◌<◌, ◌≤◌, ◌∷◌, List, [], drop, length, inl, inr, refl, sym, ◌∙◌, ap, subst, arith}
use Rattle.std.proofs.lemmas.List.{length-append}
use Rattle.rq_model.specs.declared.record.Record.{Record}
use Rattle.rq_model.specs.Bases.{IsMarked, base_lsn, marked, standing}
use Rattle.rq_model.proofs.Bases.{gone_less, length_standing, read_marked}
use Rattle.rq_model.specs.Incarnations.{Extends}
use Rattle.rq_model.proofs.Cuts.{extends_join}
use Rattle.rq_disk.specs.Device.{Images, Leaves, Only}
use Rattle.rq_disk.specs.declared.device.LogDevice as log_device
use Rattle.rq_disk.specs.declared.device.PageDevice as page_device
use Rattle.rq_log.specs.Crash.{LeavesOnly}
use Rattle.rq_log.specs.Logged.{Logged, WasLeftOrGoesOn}
use Rattle.rq_log.specs.Reading.{BeginsWith, IsRead, LogRead}
use Rattle.rq_log.specs.Spelled.{AreAllSpelled, AreSpelled, EndsWith, spelled, spelled_all}
use Rattle.rq_page.specs.Sizes.{Sizes, page_count}
use Rattle.rq_pool.specs.Fetching.{AreAllFramed}
use Rattle.rq_pool.specs.KeptUp.{IsKeptUp}
use Rattle.rq_pool.specs.Pooled.{IsPool, Pooled}
use Rattle.rq_pool.specs.Reading.{OnlyRead}
use Rattle.rq_store.specs.Fitting.{AllHoldBase, FitsPage, image_in}
use Rattle.rq_store.specs.Opening.{IsLeft}
use Rattle.rq_store.specs.Whole.{AreBased, IsWhole}
use Rattle.rq_analysis.specs.Pages.{IsUndoing}
use Rattle.rq_analysis.specs.Recovered.{IsRecovering}
use Rattle.rq_analysis.specs.Recovered.IsRecovering.{Undoing}
use Rattle.rq_analysis.proofs.Recovering.{recovering_stops}
use Rattle.rq_engine.specs.Earlier.{rebased}
use Rattle.rq_restart.specs.Past.{IsPast}
use Rattle.rq_restart.specs.Repeating.{Repeats, paged}
use Rattle.rq_restart.specs.Standing.{Found, KeepsStore, Stands, StandsRead, before}
use Rattle.rq_restart.specs.Underway.{IsOnWay}
use Rattle.rq_restart.specs.Undoing.{IsDurable}
use Rattle.rq_restart.proofs.Lefts.{left_longer}
use Rattle.rq_restart.proofs.OnWay.{all_forced, forced_path, log_is_read, pages_are_read, written_out}
use Rattle.rq_restart.proofs.Pasts.{IsAddedOn, standing_on, undoing_on}
use Rattle.rq_restart.proofs.Parsing.{front_of}
use Rattle.rq_restart.proofs.Repeated.{AreUpTo, all_up_to, at_base, up_to}

module _ {P L : Type 0} (p : page_device.Ghosts P) (l : log_device.Ghosts L)
    (pages_now : (d : P) (c : Images) → p.left_since d (p.moment d) c → Leaves (p.may_be d) c) (pages_count : (d : P) (t : ℕ) (c : Images) → t ≤ p.moment d → Leaves (p.may_be d) c → p.left_since d t c) (log_count : (d : L) (t : ℕ) (c : List ℕ) → t ≤ l.moment d → l.may_leave d c → l.left_since d t c)
    (f : Found P L) (pages : Pooled P) (log : Logged L) (so : Stands p l f pages log) where
  abbrev e : List Record
  e = before p l f

  abbrev all : List Record
  all = rebased e log.records

  -- operations without an end are being undone
  pub undoing_stands : (first : Pooled P) (found : Logged L) → Stands p l f first found → rebased e found.records ≡ f.read → IsUndoing found.records log.records → IsRecovering f.sizes f.read all
  undoing_stands first found was same u =
      Undoing (subst (λ (rs : List Record). IsUndoing rs all) same (undoing_on e found.records was.past (subst AreBased (sym same) was.left.whole.based) log.records u))

  -- the pages were read, and are as they were; the log was
  pub pages_stand : (new : Pooled P) → new.sizes ≡ pages.sizes → new.images ≡ pages.images → OnlyRead p pages.device new.device → Stands p l f new log
  pages_stand new sizes images only = record {
    sizes = sizes ∙ so.sizes;
    left = so.left;
    kept = so.kept;
    on = pages_are_read p l pages_now pages_count log_count f.pages f.log f.sizes f.read so.kept pages.device new.device log.device so.on only;
    front = so.front;
    past = so.past;
    repeated = subst (λ (i : List (List ℕ)). Repeats f.sizes log.records f.images (image_in i)) (sym images) so.repeated;
  }

  pub log_stands : (new : Logged L) → new.records ≡ log.records → IsRead l log.device new.device → Stands p l f pages new
  log_stands new records only = record {
    sizes = so.sizes;
    left = so.left;
    kept = so.kept;
    on = log_is_read p l pages_now pages_count log_count f.pages f.log f.sizes f.read so.kept pages.device log.device new.device so.on only;
    front = subst (λ (rs : List Record). Extends so.kept (rebased e rs)) (sym records) so.front;
    past = subst (IsPast e) (sym records) so.past;
    repeated = subst (λ (rs : List Record). Repeats f.sizes rs f.images (paged pages)) (sym records) so.repeated;
  }

  -- records came behind the log and were repeated on the pages, and no device was called
  pub records_stand : (new : Pooled P) (now : Logged L) → new.sizes ≡ pages.sizes → new.device ≡ pages.device → now.device ≡ log.device → IsAddedOn e log.records now.records → (Repeats f.sizes log.records f.images (paged pages) → Repeats f.sizes now.records f.images (paged new)) → Stands p l f new now
  records_stand new now sizes pages_device log_device added repeated = record {
    sizes = sizes ∙ so.sizes;
    left = so.left;
    kept = so.kept;
    on = subst (λ (d : P). IsOnWay p l f.pages f.log f.sizes f.read so.kept d now.device) (sym pages_device) (subst (λ (d : L). IsOnWay p l f.pages f.log f.sizes f.read so.kept pages.device d) (sym log_device) so.on);
    front = extends_join so.kept all (rebased e now.records) so.front (added.more, added.there, added.plain);
    past = added.past so.past;
    repeated = repeated so.repeated;
  }

  -- ---- a page has to stand in a frame

  module _ (way : IsRecovering f.sizes f.read all) (told : AreSpelled log.records) where
    whole_up : (n : ℕ) → n ≤ length so.front.0 → IsWhole f.sizes (drop n all)
    whole_up n few =
        let a = ap (λ (k : List Record). length k) so.front.1 in
        let b = length-append so.front.0 so.kept in
        let c = ap (λ (k : List Record). length k) so.on.extends.1 in
        let d = length-append so.on.extends.0 f.read in
        (recovering_stops f.sizes f.read all n so.left.whole way (omega (arith, a, b, c, d, few))).whole

    all_told : AreSpelled all
    all_told = subst AreAllSpelled (sym (standing_on e log.records so.past)) told

    -- the log was forced, or that failed
    pub force_fails : (now : Logged L) → LeavesOnly l log.device now.device (WasLeftOrGoesOn l log) → KeepsStore p l f pages.device now.device
    force_fails now leaves = forced_path p l pages_now pages_count log_count f.pages f.log f.sizes f.read so.kept all pages.device log so.on so.front (standing_on e log.records so.past) all_told whole_up now leaves

    module _ (now : Logged L) (leaves : LeavesOnly l log.device now.device (WasLeftOrGoesOn l log)) (records : now.records ≡ log.records) (seen : l.seen now.device ≡ spelled now.records) where
      seen_all : l.seen now.device ≡ spelled all
      seen_all = seen ∙ ap spelled records ∙ ap spelled_all (sym (standing_on e log.records so.past))

      on_forced : IsOnWay p l f.pages f.log f.sizes f.read all pages.device now.device
      on_forced = all_forced p l pages_now pages_count log_count f.pages f.log f.sizes f.read so.kept all pages.device log so.on so.front (standing_on e log.records so.past) all_told whole_up now leaves seen_all

      pub forced_stands : (s : Stands p l f pages now) × (s.kept ≡ rebased e now.records)
      forced_stands = (
        record {
          sizes = so.sizes;
          left = so.left;
          kept = all;
          on = on_forced;
          front = ([], ap (rebased e) (sym records), tt);
          past = subst (IsPast e) (sym records) so.past;
          repeated = subst (λ (rs : List Record). Repeats f.sizes rs f.images (paged pages)) (sym records) so.repeated;
        },
        ap (rebased e) (sym records),
      )

-- a page may give way to another behind the force of all records
module _ {P L : Type 0} (p : page_device.Ghosts P) (l : log_device.Ghosts L)
    (pages_now : (d : P) (c : Images) → p.left_since d (p.moment d) c → Leaves (p.may_be d) c) (pages_count : (d : P) (t : ℕ) (c : Images) → t ≤ p.moment d → Leaves (p.may_be d) c → p.left_since d t c) (log_count : (d : L) (t : ℕ) (c : List ℕ) → t ≤ l.moment d → l.may_leave d c → l.left_since d t c)
    (f : Found P L) (old new : Pooled P) (log : Logged L) (forced : ℕ) (so : Stands p l f old log) (none : so.kept ≡ rebased (before p l f) log.records) (durable : Only (spelled log.records) (l.may_leave log.device)) (seen : l.seen log.device ≡ spelled log.records)
    (pool : IsPool old.sizes old.images) (up : IsKeptUp p forced old new) (images : new.images ≡ old.images) where
  abbrev then : List Record
  then = rebased (before p l f) log.records

  on_then : IsOnWay p l f.pages f.log f.sizes f.read then old.device log.device
  on_then = subst (λ (k : List Record). IsOnWay p l f.pages f.log f.sizes f.read k old.device log.device) none so.on

  there : IsLeft f.sizes f.images then
  there = left_longer f.sizes f.images f.read then so.left on_then.whole on_then.extends

  are : AreUpTo f.sizes then f.images there (length then) (paged old)
  are = all_up_to f.sizes then f.images there (paged old) (subst (λ (rs : List Record). Repeats f.sizes rs f.images (paged old)) (sym so.past) so.repeated)

  pub written_stands : Stands p l f new log
  written_stands = record {
    sizes = up.sizes ∙ so.sizes;
    left = so.left;
    kept = then;
    on = written_out p l pages_now pages_count log_count f.pages f.log f.sizes f.read then log.device (λ c may. durable c may ∙ sym seen) forced old new on_then (subst (λ (z : Sizes). IsPool z old.images) so.sizes pool) (λ q low high. (are.fits q low high).fits) are.based up;
    front = ([], refl, tt);
    past = so.past;
    repeated = subst (λ (i : List (List ℕ)). Repeats f.sizes log.records f.images (image_in i)) (sym images) so.repeated;
  }

-- ---- a log is read and repeated

-- a device that is read stays durable
pub stays_durable : {P L : Type 0} (l : log_device.Ghosts L) (old now : Pooled P) (log read : L) → IsDurable l old log → (AreAllFramed old → AreAllFramed now) → l.honest read → IsRead l log read → AreAllFramed now ⊎ Only (l.seen read) (l.may_leave read)
stays_durable l old now log read durable stand honest only = ⊎_elim (λ all. inl (stand all)) (λ d. inr (λ c may. d (only.honest honest) c (only.leaves c may) ∙ sym only.same)) durable

module _ {P L : Type 0} (p : page_device.Ghosts P) (l : log_device.Ghosts L)
    (pages_now : (d : P) (c : Images) → p.left_since d (p.moment d) c → Leaves (p.may_be d) c) (pages_count : (d : P) (t : ℕ) (c : Images) → t ≤ p.moment d → Leaves (p.may_be d) c → p.left_since d t c) (log_count : (d : L) (t : ℕ) (c : List ℕ) → t ≤ l.moment d → l.may_leave d c → l.left_since d t c)
    (f : Found P L) (pages : Pooled P) (reader : LogRead L) (so : StandsRead p l f pages reader) where
  -- the images fit all of it
  record AreFit : Type 0 where
    pub fits : (q : ℕ) → 1 ≤ q → q < page_count f.sizes → FitsPage f.sizes f.read q (paged pages q)
    pub based : AllHoldBase f.sizes (paged pages) f.read

  fit_to : (k : ℕ) (mid : Images) → mid ≡ paged pages → AreUpTo f.sizes f.read f.images so.left k mid → AreFit
  fit_to k mid same up = subst (λ (i : Images). (fits : (q : ℕ) → 1 ≤ q → q < page_count f.sizes → FitsPage f.sizes f.read q (i q)) (based : AllHoldBase f.sizes i f.read) → AreFit) (sym same) (λ fits based. record { fits = fits; based = based }) (λ q low high. (up.fits q low high).fits) up.based

  are_fit : IsMarked reader.records → AreSpelled reader.records → BeginsWith reader.records (l.seen reader.first) → AreFit
  are_fit marks told begins = by reader.records refl where
    by : (front : List Record) → front ≡ reader.records → AreFit
    by [] none = fit_to (base_lsn f.read) f.images (sym (subst (λ (rs : List Record). Repeats f.sizes rs f.images (paged pages)) (sym none) so.repeated)) (at_base f.sizes f.read f.images so.left f.images refl)
    by (r ∷ front) is =
        let stands : 0 < length (standing reader.records) = (let less = gone_less (r ∷ front) (omega arith) in let sum = length_standing (r ∷ front) in subst (λ (rs : List Record). 0 < length (standing rs)) is (omega (arith, less, sum))) in
        let first = front_of f.read reader.records (l.seen reader.first) begins.0 so.on.told told so.reads begins.1 stands in
        let same : reader.records ≡ marked first.records = read_marked reader.records first.records marks (sym first.same) in
        fit_to (length first.records) (paged pages) refl (up_to f.sizes f.read f.images so.left first.records first.first first.within first.base (paged pages) (subst (λ (rs : List Record). Repeats f.sizes rs f.images (paged pages)) same so.repeated))

  module _ (now : L) (only : IsRead l reader.device now) where
    -- more of it was read
    pub read_on : IsOnWay p l f.pages f.log f.sizes f.read f.read pages.device now
    read_on = log_is_read p l pages_now pages_count log_count f.pages f.log f.sizes f.read f.read pages.device reader.device now so.on only

    -- and a page brought into a frame
    pub brought_on : (new : Pooled P) → (AreAllFramed pages → new ≡ pages) → IsKeptUp p (2 ^ 64 - 1) pages new → IsPool pages.sizes pages.images → IsMarked reader.records → AreSpelled reader.records → BeginsWith reader.records (l.seen reader.first) → AreAllFramed pages ⊎ Only (l.seen now) (l.may_leave now) → IsOnWay p l f.pages f.log f.sizes f.read f.read new.device now
    brought_on new stood up pool marks told begins = ⊎_elim
        (λ all. subst (λ (x : Pooled P). IsOnWay p l f.pages f.log f.sizes f.read f.read x.device now) (sym (stood all)) read_on)
        (λ durable. (let fit = are_fit marks told begins in
        written_out p l pages_now pages_count log_count f.pages f.log f.sizes f.read f.read now durable (2 ^ 64 - 1) pages new read_on (subst (λ (z : Sizes). IsPool z pages.images) so.sizes pool) fit.fits fit.based up))

-- what was read is repeated on pages that are on their way too
pub stands_read : {P L : Type 0} (p : page_device.Ghosts P) (l : log_device.Ghosts L) (f : Found P L) (pages new : Pooled P) (reader now : LogRead L) → StandsRead p l f pages reader → new.sizes ≡ pages.sizes → now.first ≡ reader.first → IsOnWay p l f.pages f.log f.sizes f.read f.read new.device now.device → Repeats f.sizes now.records f.images (paged new)
    → StandsRead p l f new now
stands_read {L = L} p l f pages new reader now so sizes first on repeated = record {
  sizes = sizes ∙ so.sizes;
  left = so.left;
  on = on;
  reads = subst (λ (d : L). EndsWith f.read (l.seen d)) (sym first) so.reads;
  repeated = repeated;
}
