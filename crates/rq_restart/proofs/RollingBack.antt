-- What mends a log: operations without an end are undone by pages, and then lost transactions by their inverses.
use Rattle.std.proofs.Common.{◌≡◌, ◌≢◌, ◌⊎◌, ◌++◌, ⊎_elim, ℕ, ◌≤◌, Result, Ok, List, [], ◌∷◌, length, map, Some, None, inl, inr, refl, sym, ◌∙◌, ap, subst, arith}
use Rattle.rq_disk.specs.Device.{Images, Leaves}
use Rattle.std.specs.Prelude.{IfErr}
use Rattle.rq_model.specs.declared.record.Record.{Record}
use Rattle.rq_model.specs.declared.refusal.Refusal.{Refusal}
use Rattle.rq_model.specs.declared.refusal.Refusal.TheVariants as why
use Rattle.rq_model.specs.declared.refusal.Damage.TheVariants as damage
use Rattle.rq_model.specs.declared.txn.Txn.{Txn}
use Rattle.rq_model.specs.Incarnations.{incarnation_of}
use Rattle.rq_model.specs.Unended.{lost}
use Rattle.rq_page.specs.Sizes.{Sizes}
use Rattle.rq_pool.specs.Fetching.{HasReadFor, IsReadAsStored, IsUnread, MayHaveRead}
use Rattle.rq_pool.specs.Pooled.{IsPool, Pooled}
use Rattle.rq_pool.proofs.Fetched.{stored_images}
use Rattle.rq_disk.specs.declared.device.LogDevice as log_device
use Rattle.rq_disk.specs.declared.device.PageDevice as page_device
use Rattle.rq_log.specs.Logged.{Logged}
use Rattle.rq_store.specs.Fitting.{image_in}
use Rattle.rq_txn.specs.Rows.{Row, found_row}
use Rattle.rq_engine.specs.Earlier.{rebased}
use Rattle.rq_store.specs.Opening.{IsLeft}
use Rattle.rq_store.specs.Whole.{AreBased, IsWhole}
use Rattle.rq_store.specs.State.{State}
use Rattle.rq_store.proofs.Fitting.{oldest_all}
use Rattle.rq_store.proofs.Redoing.{redone_slots}
use Rattle.rq_sound.specs.Sound.{IsSound}
use Rattle.rq_analysis.specs.OpenWorkView.{OpenWorkView, open_work_of}
use Rattle.rq_analysis.specs.Pages.{IsNextUndo, IsUndone, UndoesBehind}
use Rattle.rq_analysis.specs.Pages.IsNextUndo.{Voids, Undoes}
use Rattle.rq_analysis.specs.PageUndoTheorems.{IsUndoneFrom}
use Rattle.rq_analysis.proofs.Undos.{undone_from}
use Rattle.rq_analysis.specs.declared.dues.PendingUndo.{PendingUndo}
use Rattle.rq_analysis.specs.Choices.{least_free}
use Rattle.rq_analysis.specs.Dues.{dues}
use Rattle.rq_analysis.specs.Lost.{IsRepeated, lost_store}
use Rattle.rq_analysis.specs.Moves.{newest_store}
use Rattle.rq_analysis.specs.Recovered.{IsRecovered, IsRecovering}
use Rattle.rq_analysis.specs.Recovered.IsRecovered.{AllAborted, NoneLost}
use Rattle.rq_analysis.specs.Recovered.IsRecovering.{Aborting, Undoing}
use Rattle.rq_analysis.specs.Walk.{IsBetween}
use Rattle.rq_analysis.proofs.Owing.{first_due}
use Rattle.rq_analysis.proofs.Logging.{come_sound}
use Rattle.rq_analysis.proofs.Store.{lost_sound, some_incarnation}
use Rattle.rq_analysis.proofs.Walking.{aborts_come}
use Rattle.rq_restart.specs.Aborting.{AbortingStops, HasAborted, IsAborting, IsAbortingFrom, IsFull, IsOnItsWay, IsShown, OfStore, RepeatedFrom, RepeatedSince}
use Rattle.rq_restart.specs.Past.{IsPast}
use Rattle.rq_restart.specs.Aborting.IsOnItsWay.{Between, Within}
use Rattle.rq_restart.specs.Checked.{IsEnded}
use Rattle.rq_restart.specs.RolledBack.{IsRolledBackSince, RollbackStops}
use Rattle.rq_restart.specs.Repeating.{ArePagesCounted, Repeats, paged}
use Rattle.rq_restart.specs.Standing.{Found, Stands, StandsOver, before}
use Rattle.rq_restart.specs.Undoing.{AreAsFound, GoesOn, HaveBeenHonest, HaveToldTruly, IsOfReads, IsRepeatedOn, UndoStops}
use Rattle.rq_restart.proofs.GoingOn.{goes_reading, goes_then, told_behind, told_first}
use Rattle.rq_restart.proofs.Aborts.{aborting_none, aborting_weaker, bad_weaker, planned_weaker, active_lost}
use Rattle.rq_restart.proofs.Lefts.{left_undoing}
use Rattle.rq_restart.proofs.Pasts.{undoing_added, undoing_on, undone_on, work_on}
use Rattle.rq_restart.proofs.Repeated.{AreUpTo, all_up_to}
use Rattle.rq_restart.proofs.RoundsBehind.{IsAbortedTo}
use Rattle.rq_restart.proofs.Standing.{pages_stand}
use Rattle.rq_restart.proofs.Showing.{between_holds}

-- undoing by pages leaves the transactions that have no end
same_one : (log : List Record) (r : Record) → IsNextUndo (open_work_of log) r → (open_work_of (r ∷ log)).active ≡ (open_work_of log).active
same_one log r (Voids o s least e) = rw e refl
same_one log r (Undoes p ps none f e) = rw e refl

same_behind : (log front : List Record) → UndoesBehind log front → (open_work_of (front ++ log)).active ≡ (open_work_of log).active
same_behind log [] h = refl
same_behind log (r ∷ front) h = same_one (front ++ log) r h.0 ∙ same_behind log front h.1

pub undone_active : (log undone : List Record) → IsUndone log undone → (open_work_of undone).active ≡ (open_work_of log).active
undone_active log undone u = ap (λ l. (open_work_of l).active) (sym u.undoing.are) ∙ same_behind log u.undoing.front u.undoing.undoes

-- at its end a restart has been on its way
pub recovered_on : (z : Sizes) (log now : List Record) → IsRecovered z log now → IsRecovering z log now
recovered_on z log now (NoneLost u none) = Undoing u.undoing
recovered_on z log now (AllAborted last images forced stores u rep moves none are) = Aborting last images forced stores u rep moves are

no_rows : (rows : List Row) → map (λ r. r.txn) rows ≡ [] → rows ≡ []
no_rows [] e = refl
no_rows (r ∷ rows) e = absurd (cc e)

-- what is undone by pages of a store that was left so, on pages that it was repeated on
module _ {P : Type 0} (z : Sizes) (log undone : List Record) (mid : Pooled P) (u : IsUndone log undone) (pool : IsPool z mid.images) (first : Images) (e : List Record) (past : IsPast e log) (left : IsLeft z first (rebased e log)) (repeated : Repeats z undone first (paged mid)) where
  -- the log, and what was undone of it
  abbrev all : List Record
  all = rebased e log

  abbrev pub then : List Record
  then = rebased e undone

  past_then : IsPast e undone
  past_then = (undoing_added e log undone u.undoing).past past

  based_then : AreBased then
  based_then = (undoing_added e log undone u.undoing).based left.whole.based

  undone_there : IsUndone all then
  undone_there = undone_on e log past left.whole.based undone u

  there : IsLeft z first then
  there = left_undoing z first all then left undone_there.undoing

  from : IsUndoneFrom z all then
  from = undone_from z all then left.whole undone_there

  up : AreUpTo z then first there (length then) (paged mid)
  up = all_up_to z then first there (paged mid) (subst (λ (l : List Record). Repeats z l first (paged mid)) (sym past_then) repeated)

  active_there : (open_work_of undone).active ≡ lost then
  active_there = ap (λ (h : OpenWorkView). h.active) (sym (work_on e undone past_then based_then)) ∙ active_lost z then from.whole

  abbrev pub base : State
  base = lost_store z mid.images then (length then)

  module _ (some : IsEnded undone → ⊥) where
    some_lost : lost then ≢ []
    some_lost none = some (active_there ∙ none)

    is_repeated : IsRepeated z mid.images then (length then)
    is_repeated = record {
      range = pool.range;
      whole = from.whole;
      none_unfinished = from.none_unfinished;
      some = some_incarnation z then from.whole some_lost;
      begun = ap incarnation_of (oldest_all then);
      within = omega arith;
      pages = redone_slots z then mid.images from.whole.in_store up.fits;
      fits = record { superblock = pool.superblock; headers = pool.headers; pages = λ p low high. (up.fits p low high).fits };
      based = up.based;
    }

    pub sound : IsSound base
    sound = lost_sound z mid.images then (length then) is_repeated

    pub shown : IsShown undone mid e base
    shown = (past_then, aborts_come.first z mid.images then (length then))

    pub on_its_way : (last : List Record) → IsOnItsWay base last → IsRecovering z all last
    on_its_way last (Between images b) = aborts_come.between z all then mid.images (length then) images last undone_there is_repeated b
    on_its_way last (Within images t n lsn deed ws made i) = aborts_come.within z all then mid.images (length then) images last t n lsn deed ws made undone_there is_repeated i

    pub full_recovering : (s : IsFull z (IsAbortingFrom z undone mid) (IsShown undone mid)) → IsRecovering z all (rebased e s.last)
    full_recovering s = on_its_way (rebased e s.last) (s.way e base sound refl shown)

    pub none_bad : OfStore z (IsShown undone mid) (λ x b. ⊥) → ⊥
    none_bad f = f e base sound refl shown

    module _ (now : List Record) (new : Pooled P) (g : HasAborted z undone mid now new) (ended : IsEnded now) where
      abbrev last : List Record
      last = rebased e now

      shown_then : IsShown now new e base
      shown_then = g.shown e base sound refl shown

      after : IsBetween base new.images last
      after = shown_then.1

      whole_then : IsWhole z last
      whole_then = (between_holds base new.images last sound after).whole

      none_lost : lost last ≡ []
      none_lost = sym (active_lost z last whole_then) ∙ ap (λ (h : OpenWorkView). h.active) (work_on e now shown_then.0 whole_then.based) ∙ ended

      nothing_due : dues last ≡ []
      nothing_due = by (dues last) refl where
        by : (ds : List PendingUndo) → dues last ≡ ds → ds ≡ []
        by [] is = refl
        by (d ∷ ds) is =
            let s = newest_store base after.stores in
            let c = after.come in
            let n = first_due s (come_sound base after.stores new.images last sound c) d ds (ap dues c.records_are ∙ is) in
            let none : s.rows ≡ [] = no_rows s.rows (c.lost ∙ ap lost c.records_are ∙ none_lost) in
            absurd (let bad : None ≡ Some n.row = ap (found_row d.txn) (sym none) ∙ n.at_row in cc bad)

      pub all_recovered : IsRecovered z all last
      all_recovered = aborts_come.recovered z all then mid.images (length then) new.images last undone_there is_repeated after (ap (least_free (dues last)) none_lost) nothing_due

  -- so the log is recovered
  pub recovered_is : (now : List Record) (new : Pooled P) → HasAborted z undone mid now new → IsEnded now → (IsEnded undone → now ≡ undone) → IsRecovered z all (rebased e now)
  recovered_is now new g ended none = by (open_work_of undone).active refl where
    by : (ts : List Txn) → (open_work_of undone).active ≡ ts → IsRecovered z all (rebased e now)
    by [] is = subst (λ (l : List Record). IsRecovered z all (rebased e l)) (sym (none is)) (NoneLost undone_there (sym active_there ∙ is))
    by (t ∷ ts) is = all_recovered (λ bad. (let k : t ∷ ts ≡ [] = sym is ∙ bad in cc k)) now new g ended

-- why operations were not undone, or then transactions, is why the log was not mended
pub undo_rolls_nothing_back : (z : Sizes) (log : List Record) (first : Images) (e : Refusal) → UndoStops z log first e → RollbackStops z log first e
undo_rolls_nothing_back z log first why.NoMemory s = tt
undo_rolls_nothing_back z log first why.DiskRead s = tt
undo_rolls_nothing_back z log first why.DiskWrite s = tt
undo_rolls_nothing_back z log first why.LogFull s = record { undone = s.undone; undoing = s.undoing; now = s.undone; aborting = aborting_none z (RepeatedFrom z first) s.undone; turn = inl refl; none_lost = λ e. refl; full = s.full; recovering = λ e past left. Undoing (undoing_on e log past left.whole.based s.undone s.undoing) }
undo_rolls_nothing_back z log first (why.Damaged (damage.Record lsn)) s = inl s
undo_rolls_nothing_back z log first _ s = absurd s

pub abort_rolls_nothing_back : {P : Type 0} (z : Sizes) (log undone : List Record) (mid : Pooled P) → IsUndone log undone → IsPool z mid.images → (IsEnded undone → ⊥) → (first : Images) → Repeats z undone first (paged mid) → (e : Refusal) → AbortingStops z undone mid e → RollbackStops z log first e
abort_rolls_nothing_back z log undone mid u pool some first repeated why.NoMemory s = tt
abort_rolls_nothing_back z log undone mid u pool some first repeated why.DiskRead s = tt
abort_rolls_nothing_back z log undone mid u pool some first repeated why.DiskWrite s = tt
abort_rolls_nothing_back z log undone mid u pool some first repeated why.LogFull s = record {
  undone = undone;
  undoing = u.undoing;
  now = s.last;
  aborting = aborting_weaker z (RepeatedSince z undone (paged mid)) (RepeatedFrom z first) (λ l p h. h first repeated) undone s.last s.aborting;
  turn = inr u;
  none_lost = λ e. absurd (some (undone_active log undone u ∙ e));
  full = s.full;
  recovering = λ e past left. full_recovering z log undone mid u pool first e past left repeated some s;
}
abort_rolls_nothing_back z log undone mid u pool some first repeated (why.Damaged (damage.Record lsn)) s = inr (record {
  undone = undone;
  undoes = u;
  last = s.last;
  aborting = aborting_weaker z (RepeatedSince z undone (paged mid)) (RepeatedFrom z first) (λ l p h. h first repeated) undone s.last s.aborting;
  bad = bad_weaker z (IsAbortingFrom z undone mid) (IsAborting z (RepeatedFrom z first) undone) (aborting_weaker z (RepeatedSince z undone (paged mid)) (RepeatedFrom z first) (λ l p h. h first repeated) undone) first s.last lsn (s.bad first repeated);
  none = λ e past left. none_bad z log undone mid u pool first e past left repeated some s.none;
})
abort_rolls_nothing_back z log undone mid u pool some first repeated _ s = absurd s

-- what mends it from there, wherever the log was repeated so
pub rolled_back_since : {P : Type 0} (z : Sizes) (log undone now : List Record) (old mid new : Pooled P) → mid.sizes ≡ z → IsUndone log undone → IsPool mid.sizes mid.images → ((first : Images) → Repeats z log first (paged old) → Repeats z undone first (paged mid))
    → HasAborted mid.sizes undone mid now new → IsEnded now → (IsEnded undone → now ≡ undone) → IsRolledBackSince z log now (paged old) (paged new)
rolled_back_since z log undone now old mid new same u in_pool before went ended none =
    let gone : HasAborted z undone mid now new = subst (λ y. HasAborted y undone mid now new) same went in
    let pool : IsPool z mid.images = subst (λ y. IsPool y mid.images) same in_pool in
    record {
      is = record { undone = undone; undoes = u; aborting = gone.aborting.behind; ended = ended; none_lost = λ e. none (undone_active log undone u ∙ e) };
      planned = λ first b. planned_weaker z (RepeatedSince z undone (paged mid)) (RepeatedFrom z first) (λ l p h. h first (before first b)) undone gone.aborting.behind.rounds gone.aborting.planned;
      repeated = λ first b. gone.repeated first (before first b);
      recovered = λ first b e past left. recovered_is z log undone mid u pool first e past left (before first b) now new gone ended none;
    }

-- what a page that was not read tells
pub unread_rolls_nothing_back : {P : Type 0} (g : page_device.Ghosts P) (z : Sizes) (log : List Record) (first : Images) (e : Refusal) (old new : Pooled P) → IsUnread g old e new → IsReadAsStored g old new → RollbackStops z log first e
unread_rolls_nothing_back g z log first why.DiskRead old new is stored = tt
unread_rolls_nothing_back g z log first (why.Damaged (damage.Page n)) old new is stored = absurd (is.1 stored)
unread_rolls_nothing_back g z log first _ old new is stored = absurd is

pub unread_reads : {P : Type 0} (g : page_device.Ghosts P) (e : Refusal) (old new : Pooled P) → IsUnread g old e new → IsOfReads e
unread_reads g why.DiskRead old new not = tt
unread_reads g (why.Damaged (damage.Page n)) old new not = tt
unread_reads g _ old new not = absurd not

-- all have ended, or some have not
ended_or_not : (log : List Record) → IsEnded log ⊎ (IsEnded log → ⊥)
ended_or_not log = by (open_work_of log).active where
  by : (ts : List Txn) → (ts ≡ []) ⊎ (ts ≡ [] → ⊥)
  by [] = inl refl
  by (t ∷ ts) = inr (λ e. cc e)

-- a store that stands where its operations are undone, and transactions are not
module _ {P L : Type 0} (p : page_device.Ghosts P) (l : log_device.Ghosts L) (f : Found P L) (log : List Record) (mid : Pooled P) (now : Logged L) (found : AreAsFound p l f log) (past : IsPast (before p l f) log) (u : IsUndone log now.records) (pool : IsPool mid.sizes mid.images) (so : Stands p l f mid now)
    (some : IsEnded now.records → ⊥) where
  in_pool : IsPool f.sizes mid.images
  in_pool = subst (λ (y : Sizes). IsPool y mid.images) so.sizes pool

  was_left : IsLeft f.sizes f.images (rebased (before p l f) log)
  was_left = subst (IsLeft f.sizes f.images) (sym found) so.left

  stands_over : StandsOver p l f (IsShown now.records mid) mid now
  stands_over = record {
    stands = so;
    base = base f.sizes log now.records mid u in_pool f.images (before p l f) past was_left so.repeated;
    sound = sound f.sizes log now.records mid u in_pool f.images (before p l f) past was_left so.repeated some;
    same = refl;
    is = shown f.sizes log now.records mid u in_pool f.images (before p l f) past was_left so.repeated some;
    ways = λ last way. subst (λ (read : List Record). IsRecovering f.sizes read last) found (on_its_way f.sizes log now.records mid u in_pool f.images (before p l f) past was_left so.repeated some last way);
  }

-- operations were undone, and then pages were read
pub record IsUndoneRead {P L : Type 0} (p : page_device.Ghosts P) (l : log_device.Ghosts L) (old one two : Pooled P) (log mid : Logged L) : Type 0 where
  pub goes : GoesOn {P = P} {L = L} {X = Unit {0}} p l old log.device log.records (Ok tt) one mid.device mid.records
  pub repeated : HaveToldTruly p l old one mid.device → IsRepeatedOn old.sizes log.records (paged old) mid.records (paged one)
  pub undone : l.honest mid.device → IsUndone log.records mid.records
  pub pool : IsPool one.sizes one.images
  pub way : HaveBeenHonest p l one.device mid.device → (f : Found P L) → Stands p l f old log → AreAsFound p l f log.records → Stands p l f one mid
  pub read : HasReadFor {P = P} {X = Unit {0}} p one (Ok tt) two

-- and then transactions were, in whole rounds
pub record IsAbortedBehind {P L : Type 0} (p : page_device.Ghosts P) (l : log_device.Ghosts L) (two three : Pooled P) (mid now : Logged L) : Type 0 where
  pub to : IsAbortedTo p l two mid three now
  pub ended : IsEnded now.records
  pub none : IsEnded mid.records → (now ≡ mid) × (three ≡ two)

module _ {P L : Type 0} {p : page_device.Ghosts P} {l : log_device.Ghosts L} (only_now : (d : L) (c : List ℕ) → l.left_since d (l.moment d) c → l.may_leave d c) {old one two : Pooled P} {log mid : Logged L} (k : IsUndoneRead p l old one two log mid) where
  pub went : GoesOn {X = Unit {0}} p l old log.device log.records (Ok tt) two mid.device mid.records
  went = goes_then p l old one two log.device mid.device mid.device log.records mid.records mid.records (Ok tt) (Ok tt) k.goes k.goes.counted (λ told. (k.repeated told).repeated) (goes_reading p l only_now one two mid.device mid.records (Ok tt) k.read tt)

  read_truly : HaveToldTruly p l old two mid.device → IsReadAsStored p one two
  read_truly told = (told_behind p l old one two log.device mid.device mid.device log.records mid.records (Ok tt) k.goes told).0

  pub repeated_then : HaveToldTruly p l old two mid.device → IsRepeatedOn old.sizes log.records (paged old) mid.records (paged two)
  repeated_then told = subst (λ (i : List (List ℕ)). IsRepeatedOn old.sizes log.records (paged old) mid.records (image_in i)) (sym (stored_images p one two k.read.read (read_truly told))) (k.repeated (told_first p l old one two mid.device mid.device k.read.read.device.honest (λ h. h) told))

  pool_read : IsReadAsStored p one two → IsPool two.sizes two.images
  pool_read stored = subst (λ y. IsPool y two.images) (sym (k.read.read.kept 0).sizes) (subst (λ (i : List (List ℕ)). IsPool one.sizes i) (sym (stored_images p one two k.read.read stored)) k.pool)

  pub pool_then : HaveToldTruly p l old two mid.device → IsPool two.sizes two.images
  pool_then told = pool_read (read_truly told)

  -- and then transactions were, or were not
  module _ {Y : Type 0} (three : Pooled P) (now : Logged L) (s : Result Y Refusal) (abort : GoesOn p l two mid.device mid.records s three now.device now.records) where
    pub told_two : HaveToldTruly p l old three now.device → HaveToldTruly p l old two mid.device
    told_two = told_first p l old two three mid.device now.device abort.pages_honest abort.log_honest

    pub told_three : HaveToldTruly p l old three now.device → HaveToldTruly p l two three now.device
    told_three = told_behind p l old two three log.device mid.device now.device log.records mid.records (Ok tt) went

    pub all_went : GoesOn p l old log.device log.records s three now.device now.records
    all_went = goes_then p l old two three log.device mid.device now.device log.records mid.records now.records (Ok tt) s went went.counted (λ told. (repeated_then told).repeated) abort

  module _ {three : Pooled P} {now : Logged L} (a : IsAbortedBehind p l two three mid now) where
    pub rounds_went : GoesOn {X = Unit {0}} p l old log.device log.records (Ok tt) three now.device now.records
    rounds_went = all_went three now (Ok tt) a.to.carried.goes

    pub rolled_back : HaveToldTruly p l old three now.device → IsRolledBackSince old.sizes log.records now.records (paged old) (paged three)
    rolled_back told =
        let before = told_two three now (Ok tt) a.to.carried.goes told in
        rolled_back_since old.sizes log.records mid.records now.records old two three went.sizes (k.undone before.1) (pool_then before) (repeated_then before).repeated (a.to.carried.gone (told_three three now (Ok tt) a.to.carried.goes told)) a.ended (λ x. ap (λ (y : Logged _). y.records) (a.none x).0)

    pub rolled_back_counted : HaveToldTruly p l old three now.device → ArePagesCounted old.sizes (length log.records) (paged old) → ArePagesCounted old.sizes (length now.records) (paged three)
    rolled_back_counted told counted =
        subst (λ (z : Sizes). ArePagesCounted z (length now.records) (paged three)) went.sizes
        ((a.to.carried.gone (told_three three now (Ok tt) a.to.carried.goes told)).counted (subst (λ (z : Sizes). ArePagesCounted z (length mid.records) (paged two)) (sym went.sizes) ((repeated_then (told_two three now (Ok tt) a.to.carried.goes told)).counted counted)))

    -- and pages are read once more
    module _ (four : Pooled P) (read : MayHaveRead p three four) where
      pub told_rounds : HaveToldTruly p l old four now.device → HaveToldTruly p l old three now.device
      told_rounds = told_first p l old three four now.device now.device read.device.honest (λ h. h)

      pub links_truly : HaveToldTruly p l old four now.device → IsReadAsStored p three four
      links_truly told = (told_behind p l old three four log.device now.device now.device log.records now.records (Ok tt) rounds_went told).0

      pub links_images : HaveToldTruly p l old four now.device → four.images ≡ three.images
      links_images told = stored_images p three four read (links_truly told)

      pub links_went : {X : Type 0} (r : Result X Refusal) → HasReadFor p three r four → IfErr r IsOfReads → GoesOn p l old log.device log.records r four now.device now.records
      links_went r only names = goes_then p l old three four log.device now.device now.device log.records now.records now.records (Ok tt) r rounds_went rounds_went.counted (λ told. (rolled_back told).repeated) (goes_reading p l only_now three four now.device now.records r only names)

  -- a store stands all the while
  module _ (pages_now : (d : P) (c : Images) → p.left_since d (p.moment d) c → Leaves (p.may_be d) c) (pages_count : (d : P) (t : ℕ) (c : Images) → t ≤ p.moment d → Leaves (p.may_be d) c → p.left_since d t c) (log_count : (d : L) (t : ℕ) (c : List ℕ) → t ≤ l.moment d → l.may_leave d c → l.left_since d t c)
      (f : Found P L) (so : Stands p l f old log) (found : AreAsFound p l f log.records) where
    stands_two : HaveBeenHonest p l two.device mid.device → Stands p l f two mid
    stands_two h = pages_stand p l pages_now pages_count log_count f one mid (k.way (k.read.read.device.honest h.0, h.1) f so found) two (k.read.read.kept 0).sizes ((k.read.read.kept 0).images h.0) k.read.read.device

    pub over_two : HaveBeenHonest p l two.device mid.device → (IsEnded mid.records → ⊥) → StandsOver p l f (IsShown mid.records two) two mid
    over_two h some = stands_over p l f log.records two mid found so.past (k.undone h.1) (pool_read (inr h.0)) (stands_two h) some

    module _ {three : Pooled P} {now : Logged L} (a : IsAbortedBehind p l two three mid now) (four : Pooled P) (read : MayHaveRead p three four) where
      stands_three : HaveBeenHonest p l three.device now.device → Stands p l f three now
      stands_three h =
          let before : HaveBeenHonest p l two.device mid.device = (a.to.carried.goes.pages_honest h.0, a.to.carried.goes.log_honest h.1) in
          ⊎_elim
          (λ ended. subst (λ (y : Logged _). Stands p l f three y) (sym (a.none ended).0) (subst (λ (x : Pooled _). Stands p l f x mid) (sym (a.none ended).1) (stands_two before)))
          (λ some. (a.to.carried.way h f (over_two before some)).stands) (ended_or_not mid.records)

      pub stands_four : HaveBeenHonest p l four.device now.device → Stands p l f four now
      stands_four h = pages_stand p l pages_now pages_count log_count f three now (stands_three (read.device.honest h.0, h.1)) four (read.kept 0).sizes ((read.kept 0).images h.0) read.device
