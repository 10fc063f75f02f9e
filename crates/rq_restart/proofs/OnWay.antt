-- A restart on its way: devices are read, the log is forced, and pages are written out behind that.
use Rattle.std.proofs.Common.{◌≡◌, ⊎_elim, ℕ, ◌-◌, ◌<◌, ◌≤◌, ◌++◌, List, [], drop, length, inl, inr, sym, ◌∙◌, ap, subst, arith}
use Rattle.std.proofs.lemmas.List.{append-nil, drop-append-le, length-append, length-drop}
use Rattle.rq_model.specs.declared.record.Record.{Record}
use Rattle.rq_model.specs.Bases.{earlier, gone, standing}
use Rattle.rq_model.specs.Incarnations.{Extends}
use Rattle.rq_model.proofs.Bases.{added_earlier, added_stand, extends_base}
use Rattle.rq_model.proofs.Cuts.{extends_join}
use Rattle.rq_disk.specs.Device.{Images, Leaves}
use Rattle.rq_disk.specs.declared.device.LogDevice as log_device
use Rattle.rq_disk.specs.declared.device.PageDevice as page_device
use Rattle.rq_log.specs.Crash.{LeavesOnly}
use Rattle.rq_log.specs.Logged.{Logged, WasLeftOrGoesOn}
use Rattle.rq_log.specs.Reading.{IsRead}
use Rattle.rq_log.specs.Spelled.{AreAllSpelled, AreSpelled, EndsWith, EndsWithAll, GoOnTo, GoesOn, spelled, spelled_all}
use Rattle.rq_log.proofs.Moments.{weaker}
use Rattle.rq_log.proofs.Parsing.{one_log}
use Rattle.rq_log.proofs.Runs.{AreAllSpelled-drop, nothing_short}
use Rattle.rq_page.specs.Formatted.{IsFormatted, IsHeaderOf}
use Rattle.rq_page.specs.Sizes.{Sizes, page_count}
use Rattle.rq_pool.specs.KeptUp.{IsKeptUp, MayBeKept}
use Rattle.rq_pool.specs.Pooled.{IsPool, Pooled}
use Rattle.rq_pool.specs.Reading.{OnlyRead}
use Rattle.rq_store.specs.Fitting.{AllFit, AllHoldBase, FitsPage, HoldsBase, image_in}
use Rattle.rq_store.specs.Opening.{IsLeft}
use Rattle.rq_store.specs.Whole.{IsWhole}
use Rattle.rq_store.proofs.Cutting.{all_fit_longer, fits_log, no_more_fit}
use Rattle.rq_analysis.proofs.Stopping.{plain_drop}
use Rattle.rq_engine.specs.Devices.{EachPair, Path}
use Rattle.rq_engine.specs.Devices.Path.{Log, Pages, Start}
use Rattle.rq_restart.specs.Underway.{IsLeftOrGoesOn, IsOnWay}
use Rattle.rq_restart.proofs.Lefts.{front_continues, left_longer}

module _ {P L : Type 0} (p : page_device.Ghosts P) (l : log_device.Ghosts L)
    (pages_now : (d : P) (c : Images) → p.left_since d (p.moment d) c → Leaves (p.may_be d) c) (pages_count : (d : P) (t : ℕ) (c : Images) → t ≤ p.moment d → Leaves (p.may_be d) c → p.left_since d t c) (log_count : (d : L) (t : ℕ) (c : List ℕ) → t ≤ l.moment d → l.may_leave d c → l.left_since d t c)
    (pages : P) (log : L) (z : Sizes) (read : List Record) where
  abbrev Q : Images → List ℕ → Type 0
  Q = IsLeftOrGoesOn l log z read

  abbrev On : List Record → P → L → Type 0
  On = IsOnWay p l pages log z read

  -- what is so at each moment of a run is so behind it
  pub path_end : {first then : P} {start new : L} → Path p l Q first start then new → EachPair p l then new Q
  path_end (Start each) = each
  path_end (Pages path run) = λ images bytes a b. run.each images (pages_count _ _ images run.later a) bytes b
  path_end (Log path run) = λ images bytes a b. run.each bytes (log_count _ _ bytes run.later b) images a

  -- pages were read
  pub pages_are_read : (kept : List Record) (now new : P) (now_log : L) → On kept now now_log → OnlyRead p now new → On kept new now_log
  pages_are_read kept now new now_log on only = record {
    path = Pages on.path (record {
      later = only.time.later;
      each = λ images since bytes b. path_end on.path images bytes (⊎_elim (pages_now now images) (λ may. may) (only.time.nothing_else (p.moment now) images (omega arith) since)) b;
    });
    fit = no_more_fit (p.may_be now) (p.may_be new) z kept only.crash on.fit;
    range = on.range;
    whole = on.whole;
    extends = on.extends;
    told = on.told;
    reads = on.reads;
    seen = on.seen;
  }

  -- the log was
  pub log_is_read : (kept : List Record) (now : P) (now_log new : L) → On kept now now_log → IsRead l now_log new → On kept now new
  log_is_read kept now now_log new on only = record {
    path = Log on.path (weaker l now_log new (l.may_leave now_log) (λ bytes. (images : Images) → Leaves (p.may_be now) images → Q images bytes) only.moments (λ bytes b images a. path_end on.path images bytes a b));
    fit = on.fit;
    range = on.range;
    whole = on.whole;
    extends = on.extends;
    told = on.told;
    reads = subst (EndsWith kept) (sym only.same) on.reads;
    seen = ⊎_elim (λ same. inl (only.same ∙ same)) (λ all. inr (only.same ∙ all)) on.seen;
  }

  -- what a crash may leave of the pages is left of the records that they fit
  left_of : (kept : List Record) (now : P) (now_log : L) → On kept now now_log → (images : Images) → Leaves (p.may_be now) images → IsLeft z images kept
  left_of kept now now_log on images a = record {
    whole = on.whole;
    fits = fits_log (p.may_be now) z kept images on.fit a;
    based = λ q low high. on.fit.based q (images q) low high (a q);
  }

  -- ---- records behind them are handed over and forced

  module _ (kept all : List Record) (now : P) (old : Logged L) (on : On kept now old.device) (front : Extends kept all) (stands : standing all ≡ standing old.records) (told : AreSpelled all)
      (whole : (n : ℕ) → n ≤ length front.0 → IsWhole z (drop n all)) where
    abbrev behind : List Record
    behind = front.0

    all_extend : Extends read all
    all_extend = extends_join read kept all on.extends front

    are : standing all ≡ behind ++ standing kept
    are = ap standing (sym front.1) ∙ added_stand behind kept front.2

    pub on_device : (bytes : List ℕ) (images : Images) → Leaves (p.may_be now) images → GoesOn (standing old.records) (old.forced - gone old.records) (l.seen old.device) bytes → Q images bytes
    on_device bytes images a goes =
        let on_all : GoesOn (behind ++ standing kept) (old.forced - gone old.records) (l.seen old.device) bytes = subst (λ (k : List Record). GoesOn k (old.forced - gone old.records) (l.seen old.device) bytes) (sym stands ∙ are) goes in
        let all_told : AreAllSpelled (behind ++ standing kept) = subst AreAllSpelled are told in
        let one : standing kept ≡ drop on_all.behind (behind ++ standing kept) = one_log (standing kept) (drop on_all.behind (behind ++ standing kept)) (l.seen old.device) on.told (AreAllSpelled-drop on_all.behind (behind ++ standing kept) all_told) on.reads on_all.reads in
        let sum = length-append behind (standing kept) in
        let dropped = length-drop on_all.behind (behind ++ standing kept) in
        let same = ap (λ (k : List Record). length k) one in
        let within = on_all.within in
        let few : on_all.behind ≤ length behind = omega (arith, sum, dropped, same, within) in
        let lost : on_all.lost ≤ length behind = (let some = on_all.some in omega (arith, some, few)) in
        let is : drop on_all.lost all ≡ drop on_all.lost behind ++ kept = ap (drop on_all.lost) (sym front.1) ∙ drop-append-le on_all.lost behind kept lost in
        let plain = plain_drop on_all.lost behind front.2 in
        let left : Extends kept (drop on_all.lost all) = (drop on_all.lost behind, sym is, plain) in
        let left_stands : standing (drop on_all.lost all) ≡ drop on_all.lost (behind ++ standing kept) =
        ap standing is ∙ added_stand (drop on_all.lost behind) kept plain ∙ sym (drop-append-le on_all.lost behind (standing kept) lost) in
        let extends : Extends read (drop on_all.lost all) = extends_join read kept (drop on_all.lost all) on.extends left in (
          drop on_all.lost all,
          record {
            range = on.range;
            are_spelled = subst AreAllSpelled (sym left_stands) (AreAllSpelled-drop on_all.lost (behind ++ standing kept) all_told);
            is = subst (λ (k : List Record). EndsWithAll k bytes) (sym left_stands) on_all.is;
            left = left_longer z images kept (drop on_all.lost all) (left_of kept now old.device on images a) (whole on_all.lost lost) left;
          },
          ap earlier (sym extends.1) ∙ added_earlier extends.0 read extends.2,
          inr (record {
            more = extends;
            first = ⊎_elim
                (λ first. inr (all, told, all_extend, subst (λ (k : List Record). GoOnTo bytes (spelled_all k)) (sym are) first))
                (λ was. ⊎_elim
                (λ seen. inl (subst (GoOnTo bytes) seen was))
                (λ seen. inr (kept, on.told, on.extends, subst (GoOnTo bytes) seen was)) on.seen)
                on_all.from;
          }),
        )

    -- at each moment of that, and behind it whether or not it failed
    pub forced_path : (new : Logged L) → LeavesOnly l old.device new.device (WasLeftOrGoesOn l old) → Path p l Q pages log now new.device
    forced_path new leaves =
        Log on.path (weaker l old.device new.device (WasLeftOrGoesOn l old) (λ bytes. (images : Images) → Leaves (p.may_be now) images → Q images bytes) leaves (λ bytes b images a. ⊎_elim (λ was. path_end on.path images bytes a was) (on_device bytes images a) b))

    pub all_forced : (new : Logged L) → LeavesOnly l old.device new.device (WasLeftOrGoesOn l old) → l.seen new.device ≡ spelled all → On all now new.device
    all_forced new leaves seen = record {
      path = forced_path new leaves;
      fit = all_fit_longer (p.may_be now) z kept all (front_continues kept all behind front.1) (extends_base kept all front) on.fit;
      range = on.range;
      whole = whole 0 (omega arith);
      extends = all_extend;
      told = told;
      reads = ([], nothing_short, seen ∙ sym (append-nil (spelled all)));
      seen = inr seen;
    }

  -- ---- pages are written out where all that the log reads as is durable

  module _ (kept : List Record) (now_log : L) (durable : (c : List ℕ) → l.may_leave now_log c → c ≡ l.seen now_log) (forced : ℕ) (old new : Pooled P) (on : On kept old.device now_log) (pool : IsPool z old.images)
      (fits : (q : ℕ) → 1 ≤ q → q < page_count z → FitsPage z kept q (image_in old.images q)) (based : AllHoldBase z (image_in old.images) kept) (up : IsKeptUp p forced old new) where
    abbrev May : ℕ → List ℕ → Type 0
    May = MayBeKept p forced old

    all_fit : AllFit May z kept
    all_fit = record {
      superblock = λ c. ⊎_elim (on.fit.superblock c) (λ f. subst (IsFormatted z 0) (sym f.is) pool.superblock);
      headers = λ q c low high. ⊎_elim (on.fit.headers q c low high) (λ f. subst (IsHeaderOf z q) (sym f.is) (pool.headers q low high));
      pages = λ q c low high. ⊎_elim (on.fit.pages q c low high) (λ f. subst (FitsPage z kept q) (sym f.is) (fits q low high));
      based = λ q c low high. ⊎_elim (on.fit.based q c low high) (λ f. subst (HoldsBase z kept q) (sym f.is) (based q low high));
    }

    pair : (images : Images) (bytes : List ℕ) → Leaves May images → l.may_leave now_log bytes → Q images bytes
    pair images bytes a b =
        let is = durable bytes b in (
          kept,
          record {
            range = on.range;
            are_spelled = on.told;
            is = subst (EndsWith kept) (sym is) on.reads;
            left = record { whole = on.whole; fits = fits_log May z kept images all_fit a; based = λ q low high. all_fit.based q (images q) low high (a q) };
          },
          ap earlier (sym on.extends.1) ∙ added_earlier on.extends.0 read on.extends.2,
          inr (record {
            more = on.extends;
            first = ⊎_elim
                (λ seen. inl ([], sym seen ∙ sym is ∙ sym (append-nil bytes)))
                (λ seen. inr (kept, on.told, on.extends, ([], sym seen ∙ sym is ∙ sym (append-nil bytes)))) on.seen;
          }),
        )

    pub written_out : On kept new.device now_log
    written_out = record {
      path = Pages on.path (record {
        later = up.time.later;
        each = λ images since bytes b. ⊎_elim
            (λ past. path_end on.path images bytes (pages_now old.device images past) b)
            (λ kept. pair images bytes kept b)
            (up.time.nothing_else (p.moment old.device) images (omega arith) since);
      });
      fit = no_more_fit May (p.may_be new.device) z kept up.crash all_fit;
      range = on.range;
      whole = on.whole;
      extends = on.extends;
      told = on.told;
      reads = on.reads;
      seen = on.seen;
    }
