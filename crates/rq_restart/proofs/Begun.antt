-- What undoing leaves of a store that was left as a crash may leave one.
use Rattle.std.proofs.Common.{◌≡◌, ◌⊎◌, ℕ, ◌+◌, ◌-◌, ◌≤◌, ◌^◌, ◌++◌, false, List, [], ◌∷◌, length, drop, inl, inr, refl, sym, ⊎_elim, ◌∙◌, ap, subst, arith, true}
use Rattle.std.proofs.lemmas.List.{drop-append-le, length-append, length-drop, length-map}
use Rattle.rq_model.specs.declared.record.Record.{Record}
use Rattle.rq_model.specs.declared.refusal.Refusal.{Refusal}
use Rattle.rq_model.specs.declared.refusal.Refusal.TheVariants as why
use Rattle.rq_model.specs.declared.record.Record.TheVariants as records
use Rattle.rq_model.specs.Incarnations.{Extends, incarnation_of, is_plain}
use Rattle.rq_model.specs.Commits.{committed_of}
use Rattle.rq_model.proofs.Cuts.{extends_commits, extends_join}
use Rattle.rq_analysis.proofs.Stopping.{plain_drop}
use Rattle.rq_page.specs.Sizes.{Sizes}
use Rattle.rq_pool.specs.Pooled.{IsPool}
use Rattle.rq_log.specs.Logged.{Logged}
use Rattle.rq_log.specs.Spelled.{spelled, AreSpelled, EndsWith, GoOnTo, GoesOn}
use Rattle.rq_views.specs.Stored.{count_used, slots_in}
use Rattle.rq_sound.specs.Sound.{IsSound}
use Rattle.rq_sound.proofs.Opened.{opened_sound}
use Rattle.rq_groups.specs.Sent.{SentBy}
use Rattle.rq_disk.specs.Device.{Images}
use Rattle.rq_store.specs.Opening.{FitsUpTo, IsLeft, opened, next_restart, waiting_in, sent_in_slots}
use Rattle.rq_store.specs.State.{State}
use Rattle.rq_store.specs.Fitting.{AllHoldBase, FitsLog, image_in}
use Rattle.rq_store.specs.Whole.{AreBased, IsWhole}
use Rattle.rq_engine.specs.Earlier.{on, rebased}
use Rattle.rq_store.proofs.Fitting.{oldest_all}
use Rattle.rq_store.proofs.Redoing.{redone_slots}
use Rattle.rq_analysis.specs.OpenWorkView.{OpenWorkView, open_work_of}
use Rattle.rq_analysis.specs.Pages.{IsNextUndo, IsUndoing, UndoesBehind}
use Rattle.rq_analysis.specs.Pages.IsNextUndo.{Voids, Undoes}
use Rattle.rq_analysis.proofs.Noting.{noted_incarnation, noted_unfinished, noted_active, pair_of}
use Rattle.rq_analysis.proofs.Undos.{undo_is_plain, undo_keeps_whole, undoing_extends}
use Rattle.rq_analysis.specs.Recovered.{IsRecovered, IsRecoveredFrom}
use Rattle.rq_analysis.proofs.Recovering.{recovered_from}
use Rattle.rq_restart.specs.Aborting.IsAborting.{Between}
use Rattle.rq_restart.specs.Checked.{WasReadAndRedone}
use Rattle.rq_restart.specs.RolledBack.{ArePlannedFrom, IsRolledBack}
use Rattle.rq_restart.specs.Refused.{BeginsNot, WhyShut}
use Rattle.rq_restart.specs.Restarting.{IsBegun, IsBegunBehind, Reports}
use Rattle.rq_restart.specs.Past.{IsPast, WhereLeft}
use Rattle.rq_restart.specs.Repeating.{Belongs, Repeats}
use Rattle.rq_restart.specs.Undoing.{IsBadUndo}
use Rattle.rq_restart.proofs.Aborts.{aborting_extends, aborting_incarnation}
use Rattle.rq_restart.proofs.Lefts.{left_longer, left_undoing}
use Rattle.rq_restart.proofs.RollingBack.{recovered_on}
use Rattle.rq_model.specs.Bases.{gone, is_base, marked, standing}
use Rattle.rq_model.proofs.Bases.{added_stand, base_plain}
use Rattle.rq_log.specs.Spelled.{spelled_all, AreAllSpelled, EndsWithAll}
use Rattle.rq_log.proofs.Runs.{AreAllSpelled-drop}
use Rattle.rq_log.proofs.Parsing.{one_log}
use Rattle.rq_restart.proofs.Going.{left_belongs}
use Rattle.rq_restart.proofs.Pasts.{added_join, begun_added, incarnation_on, mended_added, opened_on, undoing_added, undoing_on, work_on}
use Rattle.rq_restart.proofs.Repeated.{all_up_to, few_read, follow_marked, repeated_read}
use Rattle.rq_restart.proofs.Undos.{undo_is_no_base}

-- it extends the log, and is of its incarnation
pub rolled_back_extends : (log rolled_back : List Record) → IsRolledBack log rolled_back → Extends log rolled_back
rolled_back_extends log rolled_back m = extends_join log m.undone rolled_back (undoing_extends log m.undone m.undoes.undoing) (aborting_extends m.undone rolled_back m.aborting)

-- of a store that was left so, each record that undoes something belongs where it stands
pub no_bad_undo : (z : Sizes) (log : List Record) (first : Images) (lsn : ℕ) → IsBadUndo z log first lsn → WhereLeft z first log (λ e. ⊥)
no_bad_undo z log first lsn b e past left =
    let all : List Record = rebased e log in
    let then : List Record = rebased e b.undone in
    let added = undoing_added e log b.undone b.undoing in
    let past_then : IsPast e b.undone = added.past past in
    let based_then : AreBased then = added.based left.whole.based in
    let there = left_undoing z first all then left (undoing_on e log past left.whole.based b.undone b.undoing) in
    let next : IsNextUndo (open_work_of then) b.newest = subst (λ (h : OpenWorkView). IsNextUndo h b.newest) (sym (work_on e b.undone past_then based_then)) b.next in
    let plain : is_base b.newest ≡ false = undo_is_no_base (open_work_of then) b.newest next in
    let grown : List Record = b.newest ∷ then in
    let w : IsWhole z grown = undo_keeps_whole z then b.newest there.whole next in
    let more : IsLeft z first grown = left_longer z first then grown there w (b.newest ∷ [], refl, (undo_is_plain (open_work_of then) b.newest next, tt)) in
    let belongs : Belongs z (marked then) b.newest b.mid = left_belongs z grown then b.newest first b.mid plain (oldest_all grown) (omega arith) (sym (base_plain b.newest then plain)) more (subst (λ (l : List Record). Repeats z l first b.mid) (sym past_then) b.repeated) in
    b.bad (subst (λ (l : List Record). Belongs z l b.newest b.mid) past_then belongs)

-- once it is recovered, the store that opens over the log is sound
pub begun_sound : (z : Sizes) (first last : Images) (images : List (List ℕ)) (log rolled_back : List Record) (e : List Record) → last ≡ image_in images → IsPool z images → IsRolledBack log rolled_back → IsPast e log → IsRecovered z (rebased e log) (rebased e rolled_back) → Repeats z rolled_back first last
    → IsLeft z first (rebased e log) → IsSound (opened z images (rebased e rolled_back))
begun_sound z first last images log rolled_back e are pool m past recovered repeated left =
    let all : List Record = rebased e log in
    let now : List Record = rebased e rolled_back in
    let from : IsRecoveredFrom z all now = recovered_from z all now left.whole recovered in
    let there = left_longer z first all now left from.whole from.extends in
    let past_now : IsPast e rolled_back = (mended_added e log rolled_back m).past past in
    let up = all_up_to z now first there last (subst (λ (l : List Record). Repeats z l first last) (sym past_now) repeated) in
    let fits : FitsUpTo z (image_in images) now (length now) = subst (λ f. FitsUpTo z f now (length now)) are up.fits in
    let slots = redone_slots z now images from.whole.in_store fits in
    let fit : FitsLog z (image_in images) now = record { superblock = pool.superblock; headers = pool.headers; pages = λ p low high. (fits p low high).fits } in
    opened_sound z images now pool.range from.whole from.none_unfinished from.none_lost slots fit (subst (λ f. AllHoldBase z f now) are up.based)

-- ---- what is begun

same_incarnation : (log : List Record) (r : Record) → IsNextUndo (open_work_of log) r → incarnation_of (r ∷ log) ≡ incarnation_of log
same_incarnation log r (Voids o s least e) = rw e refl
same_incarnation log r (Undoes p ps none f e) = rw e refl

behind_incarnation : (log front : List Record) → UndoesBehind log front → incarnation_of (front ++ log) ≡ incarnation_of log
behind_incarnation log [] h = refl
behind_incarnation log (r ∷ front) h = same_incarnation (front ++ log) r h.0 ∙ behind_incarnation log front h.1

pub undoing_incarnation : (log undone : List Record) → IsUndoing log undone → incarnation_of undone ≡ incarnation_of log
undoing_incarnation log undone u = ap incarnation_of (sym u.are) ∙ behind_incarnation log u.front u.undoes

pub rolled_back_incarnation : (log rolled_back : List Record) → IsRolledBack log rolled_back → incarnation_of rolled_back ≡ incarnation_of log
rolled_back_incarnation log rolled_back m = aborting_incarnation m.undone rolled_back m.aborting ∙ undoing_incarnation log m.undone m.undoes.undoing

module _ (rolled_back : List Record) (h : OpenWorkView) (noted : h ≡ open_work_of rolled_back) (last : ℕ) (is : last ≡ h.incarnation) where
  pub last_is : last ≡ incarnation_of rolled_back
  last_is = is ∙ ap (λ (n : OpenWorkView). n.incarnation) noted ∙ noted_incarnation rolled_back

  pub begins : (now : List Record) → now ≡ records.Restart (last + 1) ∷ rolled_back → now ≡ next_restart rolled_back ∷ rolled_back
  begins now e = e ∙ ap (λ n. records.Restart (n + 1) ∷ rolled_back) last_is

module _ (log rolled_back : List Record) (m : IsRolledBack log rolled_back) (h : OpenWorkView) (noted : h ≡ open_work_of rolled_back) (last : ℕ) (is : last ≡ h.incarnation) where
  is_last : last ≡ incarnation_of rolled_back
  is_last = last_is rolled_back h noted last is

  pub reports : (z : Sizes) (now : List Record) (incarnation count unfinished_count gone : ℕ)
      → (incarnation ≡ last + 1) × (count ≡ length now) × (unfinished_count ≡ length (open_work_of log).unfinished) × (gone ≡ length (open_work_of log).active)
      → (e : List Record) → IsPast e log → Reports z (rebased e log) now incarnation count unfinished_count gone
  reports z now incarnation count unfinished_count gone told e past =
      let all : List Record = rebased e log in
      let read : open_work_of log ≡ open_work_of (marked all) = ap open_work_of (sym past) in
      record {
        incarnation_is = told.0 ∙ ap (λ n. n + 1) (is_last ∙ rolled_back_incarnation log rolled_back m ∙ sym (incarnation_on e log past));
        records_are = told.1;
        unfinished_read = told.2 ∙ ap (λ (x : OpenWorkView). length x.unfinished) read;
        lost_read = told.3 ∙ ap (λ (x : OpenWorkView). length x.active) read;
        unfinished_are = λ w. told.2 ∙ ap (λ (x : OpenWorkView). length x.unfinished) (sym (work_on e log past w.based)) ∙ sym (length-map (open_work_of all).unfinished pair_of) ∙ ap length (noted_unfinished z all w.legal);
        lost_are = λ w. told.3 ∙ ap (λ (x : OpenWorkView). length x.active) (sym (work_on e log past w.based)) ∙ ap length (noted_active z all w.legal w.reads);
      }

  -- why the incarnation was not begun
  pub not_begun : (z : Sizes) (first now_paged : Images) (e : Refusal) (before now : ℕ) (untouched : Type 0) → Repeats z rolled_back first now_paged → ArePlannedFrom z first log rolled_back m → WhereLeft z first log (λ e. IsRecovered z (rebased e log) (rebased e rolled_back))
      → WasReadAndRedone z log first → BeginsNot e (length rolled_back) last before now untouched → WhyShut z log first e
  not_begun z first now_paged why.NoMemory before now untouched repeated planned recovered was b = tt
  not_begun z first now_paged why.DiskWrite before now untouched repeated planned recovered was b = was
  not_begun z first now_paged why.LogFull before now untouched repeated planned recovered was b = (record { undone = m.undone; undoing = m.undoes.undoing; now = rolled_back; aborting = Between (record { behind = m.aborting; planned = planned }); turn = inr m.undoes; none_lost = m.none_lost; full = full; recovering = λ e past left. recovered_on z (rebased e log) (rebased e rolled_back) (recovered e past left) }, was) where
    full : 2 ^ 50 ≤ length rolled_back
    full = elim b.0 [
      | inl is_full ↦ is_full
      | inr many ↦ let read = repeated_read z rolled_back first now_paged repeated in let few = few_read rolled_back read.0 (follow_marked rolled_back read.1) in let e = is_last in omega (arith, few, e, many)
    ]
  not_begun z first now_paged _ before now untouched repeated planned recovered was b = absurd b

-- the records behind, as they were forced
pub begun_behind : (z : Sizes) (images : Images) (log rolled_back : List Record) (r : Record) (kept : ℕ) (seen bytes : List ℕ) → IsRolledBack log rolled_back → WhereLeft z images log (λ e. IsRecovered z (rebased e log) (rebased e rolled_back)) → r ≡ next_restart rolled_back
    → AreSpelled log → EndsWith log seen → AreSpelled (r ∷ rolled_back) → GoesOn (standing (r ∷ rolled_back)) (kept - gone (r ∷ rolled_back)) seen bytes → IsBegunBehind z images log seen bytes
begun_behind z images log rolled_back r kept seen bytes m recovered is are read now goes =
    let all : List Record = r ∷ rolled_back in
    let e = rolled_back_extends log rolled_back m in
    let plain : is_plain r ≡ true = ap is_plain is in
    let behind : List Record = r ∷ e.0 in
    let whole : behind ++ log ≡ all = ap (λ (l : List Record). r ∷ l) e.1 in
    let stands : standing all ≡ behind ++ standing log = ap standing (sym whole) ∙ added_stand behind log (plain, e.2) in
    let on : GoesOn (behind ++ standing log) (kept - gone all) seen bytes = subst (λ (l : List Record). GoesOn l (kept - gone all) seen bytes) stands goes in
    let told : AreAllSpelled (behind ++ standing log) = subst AreAllSpelled stands now in
    let one : standing log ≡ drop on.behind (behind ++ standing log) = one_log (standing log) (drop on.behind (behind ++ standing log)) seen are (AreAllSpelled-drop on.behind (behind ++ standing log) told) read on.reads in
    let sum = length-append behind (standing log) in
    let dropped = length-drop on.behind (behind ++ standing log) in
    let same = ap (λ (l : List Record). length l) one in
    let within = on.within in
    let few : on.behind ≤ length behind = omega (arith, sum, dropped, same, within) in
    let lost_few : on.lost ≤ length behind = (let lost = on.some in omega (arith, lost, few)) in
    let left_is : drop on.lost all ≡ drop on.lost behind ++ log = ap (drop on.lost) (sym whole) ∙ drop-append-le on.lost behind log lost_few in
    let left_stands : standing (drop on.lost all) ≡ drop on.lost (behind ++ standing log) =
    ap standing left_is ∙ added_stand (drop on.lost behind) log (plain_drop on.lost behind (plain, e.2)) ∙ sym (drop-append-le on.lost behind (standing log) lost_few) in
    let n = ap (λ (l : List Record). length l) whole in
    let k = length-append behind log in
    record {
      rolled_back = rolled_back;
      rolls_back = m;
      recovered = recovered;
      told = are;
      are_spelled = subst (λ (q : Record). AreSpelled (q ∷ rolled_back)) is now;
      lacks = on.lost;
      some = omega (arith, n, k, lost_few);
      left_told = subst (λ (q : Record). AreSpelled (drop on.lost (q ∷ rolled_back))) is (subst AreAllSpelled (sym left_stands) (AreAllSpelled-drop on.lost (behind ++ standing log) told));
      is = subst (λ (q : Record). EndsWith (drop on.lost (q ∷ rolled_back)) bytes) is (subst (λ (l : List Record). EndsWithAll l bytes) (sym left_stands) on.is);
      from = subst (λ (q : Record). GoOnTo bytes (spelled (q ∷ rolled_back)) ⊎ GoOnTo bytes seen) is (⊎_elim (λ first. inl (subst (λ (l : List Record). GoOnTo bytes (spelled_all l)) (sym stands) first)) (λ was. inr was) on.from);
    }

-- ---- what is opened

-- an engine over the log and its pages
abbrev pub engine_over : Sizes → List (List ℕ) → List Record → ℕ → ℕ → ℕ → List ℕ → SentBy → State
engine_over z images rs forced incarnation cells waiting sent = record {
  sizes = z;
  rows = [];
  ends = record { sending = []; receiving = [] };
  images = images;
  records = rs;
  forced = forced;
  failed = false;
  incarnation = incarnation;
  begins = 0;
  cells_in_use = cells;
  waiting = waiting;
  sent = sent;
}

pub opened_over : {L : Type 0} (z : Sizes) (images : List (List ℕ)) (log : List Record) (new : Logged L) (incarnation cells : ℕ) (waiting : List ℕ) (sent : SentBy) → IsBegun log new → incarnation ≡ incarnation_of log + 1 → cells ≡ count_used z (slots_in z images) → waiting ≡ waiting_in z images → sent ≡ sent_in_slots z images
    → IsRolledBack log (drop 1 new.records) × (engine_over z images new.records new.forced incarnation cells waiting sent ≡ opened z images (drop 1 new.records))
opened_over z images log new incarnation cells waiting sent b number used waits told =
    let rolled_back = b.rolled_back in
    let all : List Record = next_restart rolled_back ∷ rolled_back in
    let last : drop 1 new.records ≡ rolled_back = ap (drop 1) b.records in
    let forced : new.forced ≡ length all = b.forced ∙ ap length b.records in
    let i : incarnation ≡ incarnation_of rolled_back + 1 = number ∙ ap (λ n. n + 1) (sym (rolled_back_incarnation log rolled_back b.rolls_back)) in (
      subst (IsRolledBack log) (sym last) b.rolls_back,
      ap (λ rs. engine_over z images rs new.forced incarnation cells waiting sent) b.records
          ∙ ap (λ n. engine_over z images all n incarnation cells waiting sent) forced
          ∙ ap (λ n. engine_over z images all (length all) n cells waiting sent) i
          ∙ ap (λ n. engine_over z images all (length all) (incarnation_of rolled_back + 1) n waiting sent) used
          ∙ ap (λ w. engine_over z images all (length all) (incarnation_of rolled_back + 1) (count_used z (slots_in z images)) w sent) waits
          ∙ ap (λ x. engine_over z images all (length all) (incarnation_of rolled_back + 1) (count_used z (slots_in z images)) (waiting_in z images) x) told
          ∙ ap (opened z images) (sym last),
    )

-- what mends a log has its commits, and so has each that reads so
pub begun_commits : {L : Type 0} (log : List Record) (new : Logged L) (e : List Record) → IsBegun log new → committed_of (rebased e new.records) ≡ committed_of (rebased e log)
begun_commits log new e b =
    let k = added_join e log b.rolled_back (next_restart b.rolled_back ∷ b.rolled_back) (mended_added e log b.rolled_back b.rolls_back) (begun_added e b.rolled_back) in
    ap (λ (l : List Record). committed_of (rebased e l)) b.records ∙ extends_commits (rebased e log) (rebased e (next_restart b.rolled_back ∷ b.rolled_back)) (k.more, k.there, k.plain)

-- so is the store that was opened, had these been the earlier records
pub sound_over : (z : Sizes) (images : List (List ℕ)) (log rolled_back : List Record) (e : List Record) → IsRolledBack log rolled_back → IsPast e log → AreBased (rebased e log) → IsSound (opened z images (rebased e rolled_back)) → IsSound (on e (opened z images rolled_back))
sound_over z images log rolled_back e m past based =
    let k = mended_added e log rolled_back m in
    subst IsSound (sym (opened_on e z images rolled_back (k.past past) (k.based based)))
