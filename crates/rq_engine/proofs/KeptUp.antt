-- Open stores that are kept up.
use Rattle.std.proofs.Common.{◌≡◌, ℕ, Bool, true, false, List, length, slice_index_or, refl, sym, ap, subst, ◌∙◌, Result, Ok, Err, IfErr, ◌+◌, ◌%◌, ◌^◌, ◌<◌}
use Rattle.rq_disk.specs.declared.device.LogDevice as log_device
use Rattle.rq_disk.specs.declared.device.PageDevice as page_device
use Rattle.rq_model.specs.declared.refusal.Refusal.{Refusal}
use Rattle.rq_model.specs.declared.refusal.Refusal.TheVariants as why
use Rattle.rq_model.specs.declared.refusal.Damage.TheVariants.{Page}
use Rattle.rq_model.specs.declared.txn.Txn.{Txn}
use Rattle.rq_model.specs.History.{Call}
use Rattle.rq_model.specs.Tests.{NoneHolds}
use Rattle.rq_content.specs.Read.{StopsFor}
use Rattle.rq_groups.specs.declared.End.{End}
use Rattle.rq_groups.specs.Sides.{with_end}
use Rattle.rq_page.specs.Sizes.{Sizes, page_count}
use Rattle.rq_planner.specs.Answered.{IsDeedFor, KnowsCells}
use Rattle.rq_planner.specs.Asked.{Task}
use Rattle.rq_planner.specs.Lawful.{MayRefuse}
use Rattle.rq_pool.proofs.Fetched.{read_none, read_then, still_read}
use Rattle.rq_pool.proofs.KeptUp.{kept_still, kept_then}
use Rattle.rq_pool.specs.Fetching.{AreAllFramed, HasFailed, HasOutside, HasReadFor, MayHaveRead}
use Rattle.rq_pool.specs.Fixing.{IsHeldStill}
use Rattle.rq_pool.proofs.Wants.{among_one}
use Rattle.rq_pool.specs.Pooled.{Pooled}
use Rattle.rq_store.specs.State.{State}
use Rattle.rq_txn.specs.Rows.{Row, change_row, row_started}
use Rattle.rq_engine.specs.Answers.{HasNothingUnderWay}
use Rattle.rq_model.specs.Causes.{starts_one}
use Rattle.rq_engine.specs.KeptUp.{AreButRead, KeepsDevices, KeepsUp, RefusalCounts, RefusedBehind, RefusedButRead, with_images_of, HasReadPages, HasReadSoFar, HasTried, AnswerCounts, IsLeftBy, MayRefuseStart, StartLeaves, failed_by}
use Rattle.rq_engine.specs.Frames.{IsForFrames, NotBegun}
use Rattle.rq_level.specs.LevelState.{LevelState}
use Rattle.rq_planner.proofs.Knowing.{knows_kept}
use Rattle.rq_pool.specs.Want.{AreFramed, AreOfStore, NotFixed, CannotBeHad, OutnumberFrames}
use Rattle.rq_engine.specs.Lists.{DoesTask, IsStarted}
use Rattle.rq_engine.specs.Opened.{AreHonest, LeavesDevices, OpenStore, pooled}
use Rattle.rq_engine.specs.Plans.{Planned, under_plan, is_latched}
use Rattle.rq_engine.specs.Tested.{tested}
use Rattle.std.specs.Prelude.{OnOk}
use Rattle.std.proofs.lemmas.Bool.{false≢true, true≢false}
use Rattle.rq_groups.specs.Ends.{HeldEnds}
use Rattle.rq_pool.specs.Held.{Held, IsFramed}
use Rattle.rq_pool.specs.KeptUp.{IsForced, IsKeptUp, IsStill}
use Rattle.rq_disk.specs.Device.{PageAsk}
use Rattle.rq_disk.specs.Device.PageAsk.{Reads, Writes}

-- lists but for images, over images that stayed
pub but_same : (lists new : State) → AreButRead lists new → new.images ≡ lists.images → new ≡ lists
but_same lists new but same = but ∙ ap (λ (i : List (List _)). record lists { images = i }) same

-- a start may be refused as there may be no plan
pub may_start : (r : Refusal) → MayRefuse r → MayRefuseStart r
may_start why.NoMemory m = tt
may_start why.Latched m = tt
may_start why.DiskRead m = tt
may_start (why.Damaged d) m = tt
may_start _ m = absurd m

-- what did not begin leaves the lists so
left_then : (old mid : State) (r : Refusal) (new : State) → AreButRead old mid → IsLeftBy mid r new → IsLeftBy old r new
left_then old mid r new but left = left ∙ ap (λ (s : State). record s { failed = failed_by s.failed r; images = new.images }) but

not_begun_may : (H : Type 0) (r : Refusal) → NotBegun H r → MayRefuseStart r
not_begun_may H why.NoMemory n = tt
not_begun_may H why.PoolFull n = tt
not_begun_may H why.DiskRead n = tt
not_begun_may H why.DiskWrite n = tt
not_begun_may H (why.Damaged d) n = tt
not_begun_may H _ n = absurd n

-- what stays of pages to which nothing happened
pub pages_stay : {P : Type 0} (old new : Pooled P) → new ≡ old → (new.device ≡ old.device) × (new.changed ≡ old.changed) × (new.images ≡ old.images)
pages_stay {P} old new same = (ap (λ (s : Pooled P). s.device) same, ap (λ (s : Pooled P). s.changed) same, ap (λ (s : Pooled P). s.images) same)

module _ {P L : Type 0} (g : page_device.Ghosts P) where
  -- no device was called
  pub devices_still : (old new : OpenStore P L) → LeavesDevices old new → new.state.sizes ≡ old.state.sizes → new.state.images ≡ old.state.images → KeepsDevices g old new
  devices_still old new left sizes images = (kept_still g old.state.forced (pooled old) (pooled new) left.0 sizes images left.2, left.1, left.3, left.4, λ _. (left.0, left.2, images))

  -- nothing happened
  pub up_still : (c : Call) (old new : OpenStore P L) → new ≡ old → KeepsUp g c old new
  up_still c old new same =
      subst (λ (s : OpenStore P L). KeepsUp g c old s) (sym same) (record { devices = devices_still old old (refl, refl, refl, refl, refl) refl refl; lists = refl; faults = refl; read = λ e. (read_none g old.pages, refl); still = λ e. refl })

  -- over an honest device the lists are all as they were
  pub up_state : {c : Call} (old new : OpenStore P L) → KeepsUp g c old new → g.honest new.pages → new.state ≡ old.state
  up_state old new k h = but_same old.state new.state k.lists (k.devices.0.images h)

  -- honesty falls only
  pub up_honest : (l : log_device.Ghosts L) (old new : OpenStore P L) → KeepsDevices g old new → AreHonest g l new → AreHonest g l old
  up_honest l old new k h = (k.0.honest h.0, subst (λ (d : L). l.honest d) k.1 h.1)

  -- ---- pages that were perhaps read

  -- nothing was
  pub pages_still : (old new : OpenStore P L) → new ≡ old → HasReadPages g old new
  pages_still old new same = subst (λ (s : OpenStore P L). HasReadPages g old s) (sym same) (record { pages = still_read g (pooled old); lists = refl; log = refl; replacing = refl })

  -- some were, and then some
  pub pages_then : (old mid new : OpenStore P L) → HasReadPages g old mid → HasReadPages g mid new → HasReadPages g old new
  pages_then old mid new a b = record {
    pages = read_then g (pooled old) (pooled mid) (pooled new) a.pages b.pages;
    lists = b.lists ∙ ap (λ (s : State). record s { images = new.state.images }) a.lists;
    log = b.log ∙ a.log;
    replacing = b.replacing ∙ a.replacing;
  }

  pub so_far_then : (old mid new : OpenStore P L) → HasReadSoFar g old mid → HasReadSoFar g mid new → HasReadSoFar g old new
  so_far_then old mid new a b = (pages_then old mid new a.0 b.0, b.1 ∙ a.1)

  pub read_devices : (old new : OpenStore P L) → HasReadPages g old new → KeepsDevices g old new
  read_devices old new h = (h.pages.kept old.state.forced, h.log, h.replacing, ap (λ (l : List Held). length l) h.pages.frames, λ all. pages_stay (pooled old) (pooled new) (h.pages.stood all))

  -- over an honest device the lists are as they were
  pub read_state : (old new : OpenStore P L) → HasReadPages g old new → g.honest new.pages → new.state ≡ old.state
  read_state old new h honest = but_same old.state new.state h.lists ((h.pages.kept 0).images honest)

  -- what was done then is done of the pages as they were
  pub devices_then : (old mid new : OpenStore P L) → HasReadPages g old mid → KeepsDevices g mid new → KeepsDevices g old new
  devices_then old mid new a b =
      let forced : mid.state.forced ≡ old.state.forced = ap (λ (s : State). s.forced) a.lists in (
        kept_then g old.state.forced (pooled old) (pooled mid) (pooled new) (a.pages.kept old.state.forced) (subst (λ (n : ℕ). IsKeptUp g n (pooled mid) (pooled new)) forced b.0),
        b.1 ∙ a.log,
        b.2 ∙ a.replacing,
        b.3 ∙ ap (λ (l : List Held). length l) a.pages.frames,
        λ all.
            let same = a.pages.stood all in
            let one = pages_stay (pooled old) (pooled mid) same in
            let two = b.4 (subst (λ (s : Pooled P). AreAllFramed s) (sym same) all) in
            (two.0 ∙ one.0, two.1 ∙ one.1, two.2 ∙ one.2),
      )

  -- and a failure is the first
  failed_then : (old mid new : OpenStore P L) (ask : PageAsk) → HasReadSoFar g old mid → HasFailed g ask mid.pages new.pages → HasFailed g ask old.pages new.pages
  failed_then old mid new ask a c = record { once = c.once ∙ ap (λ n. (n + 1) % 2 ^ 64) a.1; before = c.before; none = c.none ∙ a.1; excused = c.excused }

  -- a page that stood in no frame did not before
  abbrev outside_then : (old mid : OpenStore P L) → HasReadPages g old mid → HasOutside (pooled mid) → HasOutside (pooled old)
  outside_then old mid a out = record {
    page = out.page;
    behind = out.behind;
    within = subst (λ (z : Sizes). out.page < page_count z) (a.pages.kept 0).sizes out.within;
    outside = λ framed. out.outside (subst (λ (f : List Held). IsFramed f out.page) (sym a.pages.frames) framed);
  }

  pub counts_then : (old mid new : OpenStore P L) → HasReadSoFar g old mid → (r : Refusal) → MayRefuseStart r → RefusalCounts g r mid new → RefusalCounts g r old new
  counts_then old mid new a why.NoMemory stops c = c ∙ a.1
  counts_then old mid new a why.Latched stops c = c ∙ a.1
  counts_then old mid new a why.PoolFull stops c = c ∙ a.1
  counts_then old mid new a (why.Damaged d) stops c = c ∙ a.1
  counts_then old mid new a why.DiskRead stops c = (outside_then old mid a.0 c.0, failed_then old mid new (Reads c.0.page) a c.1)
  counts_then old mid new a why.DiskWrite stops c =
      let forced : mid.state.forced ≡ old.state.forced = ap (λ (s : State). s.forced) a.0.lists in
      (c.0, c.1, subst (λ (n : ℕ). IsForced g n (pooled new) c.0 c.1) forced c.2, failed_then old mid new (Writes c.0 c.1) a c.3, outside_then old mid a.0 c.4)
  counts_then old mid new a _ stops c = absurd stops

  -- ---- starts

  -- pages were read, and nothing else happened
  pub read_leaves : (old new : OpenStore P L) (r : Refusal) → MayRefuse r → HasReadPages g old new → StartLeaves g old r new
  read_leaves old new why.NoMemory m h = h.lists
  read_leaves old new why.Latched m h = h
  read_leaves old new why.DiskRead m h = h.lists
  read_leaves old new (why.Damaged d) m h = h.lists
  read_leaves old new _ m h = absurd m

  -- what did not begin was not held up by latches
  not_begun_leaves : (H : Type 0) (old new : OpenStore P L) (r : Refusal) → NotBegun H r → IsLeftBy old.state r new.state → StartLeaves g old r new
  not_begun_leaves H old new why.NoMemory n left = left
  not_begun_leaves H old new why.PoolFull n left = left
  not_begun_leaves H old new why.DiskRead n left = left
  not_begun_leaves H old new why.DiskWrite n left = left
  not_begun_leaves H old new (why.Damaged d) n left = left
  not_begun_leaves H old new _ n left = absurd n

  leaves_then : (old mid new : OpenStore P L) (r : Refusal) → HasReadSoFar g old mid → StartLeaves g mid r new → StartLeaves g old r new
  leaves_then old mid new why.Latched a left = pages_then old mid new a.0 left
  leaves_then old mid new r a left = left_then old.state mid.state r new.state a.0.lists left

  -- the lists that a refused start leaves, but for images, and all of them over an honest device
  pub start_lists : (old new : OpenStore P L) (r : Refusal) → StartLeaves g old r new → IsLeftBy old.state r new.state
  start_lists old new why.Latched left = left.lists
  start_lists old new r left = left

  pub start_left : (old new : OpenStore P L) (r : Refusal) → KeepsDevices g old new → StartLeaves g old r new → g.honest new.pages → new.state ≡ record old.state { failed = failed_by old.state.failed r }
  start_left old new r devices left honest = but_same (record old.state { failed = failed_by old.state.failed r }) new.state (start_lists old new r left) (devices.0.images honest)

  module _ {X : Type 0} where
    -- what was refused has begun nothing
    pub tried_refused : (old new : OpenStore P L) (HasBegun : State → Type 0) (r : Refusal) → HasReadPages g old new → RefusalCounts g r old new → MayRefuse r → HasTried {X = X} g old HasBegun (Err r) new
    tried_refused old new HasBegun r read counts causes = record { devices = read_devices old new read; counts = counts; begun = tt; left = read_leaves old new r causes read; causes = may_start r causes }

    -- What was planned begins, or does not: it changes rows and ends alone.
    pub tried_planned : (H : Type 0) (old mid new : OpenStore P L) (HasBegun : State → Type 0) (rows : List Row → List Row) (ends : HeldEnds → HeldEnds) → HasReadSoFar g old mid → HasBegun (record old.state { rows = rows old.state.rows; ends = ends old.state.ends })
        → (answer : Result X Refusal) → OnOk answer (AreButRead (record mid.state { rows = rows mid.state.rows; ends = ends mid.state.ends }) new.state) → KeepsDevices g mid new → AnswerCounts g answer mid new → IfErr answer (λ r. IsLeftBy mid.state r new.state) → IfErr answer (NotBegun H) → HasTried g old HasBegun answer new
    tried_planned H old mid new HasBegun rows ends read begun (Ok x) is devices counts left causes = record {
      devices = devices_then old mid new read.0 devices;
      counts = counts ∙ read.1;
      begun = subst HasBegun (sym (ap (with_images_of old.state) is ∙ ap (λ (s : State). record s { rows = rows s.rows; ends = ends s.ends; images = old.state.images }) read.0.lists)) begun;
      left = tt;
      causes = tt;
    }
    tried_planned H old mid new HasBegun rows ends read begun (Err r) is devices counts left causes = record {
      devices = devices_then old mid new read.0 devices;
      counts = counts_then old mid new read r (not_begun_may H r causes) counts;
      begun = tt;
      left = not_begun_leaves H old new r causes (left_then old.state mid.state r new.state read.0.lists left);
      causes = not_begun_may H r causes;
    }

    -- a start that is tried behind others
    pub tried_then : (old mid new : OpenStore P L) (A B : State → Type 0) → HasReadSoFar g old mid → ((s : State) → A (with_images_of mid.state s) → B (with_images_of old.state s)) → (answer : Result X Refusal) → HasTried g mid A answer new → HasTried g old B answer new
    tried_then old mid new A B read same (Ok x) h = record { devices = devices_then old mid new read.0 h.devices; counts = h.counts ∙ read.1; begun = same new.state h.begun; left = tt; causes = tt }
    tried_then old mid new A B read same (Err r) h = record {
      devices = devices_then old mid new read.0 h.devices;
      counts = counts_then old mid new read r h.causes h.counts;
      begun = tt;
      left = leaves_then old mid new r read h.left;
      causes = h.causes;
    }

    -- one that latches hold up has read pages, and that is all
    pub tried_latched : (old new : OpenStore P L) (A : State → Type 0) (answer : Result X Refusal) → is_latched answer ≡ true → HasTried g old A answer new → HasReadSoFar g old new
    tried_latched old new A (Ok x) latched h = absurd (false≢true latched)
    tried_latched old new A (Err why.Latched) latched h = (h.left, h.counts)
    tried_latched old new A (Err _) latched h = absurd (false≢true latched)

    pub tried_held : (old new : OpenStore P L) (A : State → Type 0) → HasReadSoFar g old new → HasTried {X = X} g old A (Err why.Latched) new
    tried_held old new A read = tried_refused old new A why.Latched read.0 read.1 tt

-- levels go on knowing the slots of pages that are kept up
pub knows_kept_up : {P : Type 0} (g : page_device.Ghosts P) (forced : ℕ) (old new : Pooled P) (levels : List LevelState) → IsKeptUp g forced old new → KnowsCells old.sizes old.images levels → KnowsCells new.sizes new.images levels
knows_kept_up g forced old new levels kept h = subst (λ (z : Sizes). KnowsCells z new.images levels) (sym kept.sizes) (knows_kept old.sizes old.images new.images kept.flags levels h)

-- a store that has not failed had not before
pub not_failed_by : (failed : Bool) (r : Refusal) → failed_by failed r ≡ false → failed ≡ false
not_failed_by failed why.DiskWrite e = absurd (true≢false e)
not_failed_by failed _ e = e

-- why pages could not be fixed
module _ {P : Type 0} (g : page_device.Ghosts P) (forced : ℕ) (ps : List ℕ) where
  pub not_fixed_frames : (X : Type 0) (old new : Pooled P) (r : Refusal) → (CannotBeHad old forced ps → OutnumberFrames old forced ps) → NotFixed g forced ps r old new → IsForFrames {X = X} old forced ps (Err r)
  not_fixed_frames X old new why.PoolFull counted n = counted n.0
  not_fixed_frames X old new why.DiskWrite counted n = λ all. n.4.outside (all n.4.page n.5)
  not_fixed_frames X old new _ counted n = tt

-- where each page of the store stands in a frame, nothing happened but that some were fixed
pub stay_framed : {P X : Type 0} (ps : List ℕ) (old new : Pooled P) → AreOfStore old.sizes ps → (AreFramed old.frames ps → X × IsHeldStill old new) → AreAllFramed old → IsStill old new
stay_framed ps old new of_store stood all =
    (stood (λ q wanted. (let one = among_one ps q wanted in subst (IsFramed old.frames) one.is (all (slice_index_or ps one.at 0) (of_store one.at one.within).0 (of_store one.at one.within).1)))).1.still

pub not_fixed_counts : {P L : Type 0} (g : page_device.Ghosts P) (ps : List ℕ) (old new : OpenStore P L) (r : Refusal) → NotFixed g old.state.forced ps r (pooled old) (pooled new) → RefusalCounts g r old new
not_fixed_counts g ps old new why.PoolFull n = n.1
not_fixed_counts g ps old new why.DiskRead n = (n.0, n.2)
not_fixed_counts g ps old new why.DiskWrite n = (n.0, n.1, n.2, n.3, n.4)
not_fixed_counts g ps old new (why.Damaged (Page p)) n = n.2
not_fixed_counts g ps old new _ n = absurd n

-- what a call leaves that has something planned, and nothing else done
module _ {P L : Type 0} (g : page_device.Ghosts P) (inside old new : OpenStore P L) (is : inside ≡ old) where
  pub plan_reads : new.state ≡ record inside.state { sizes = new.state.sizes; images = new.state.images } → new.log ≡ inside.log → new.replacing ≡ inside.replacing → MayHaveRead g (pooled inside) (pooled new) → HasReadPages g old new
  plan_reads rest log replacing read = subst (λ (o : OpenStore P L). HasReadPages g o new) is (record {
    pages = read;
    lists = rest ∙ ap (λ (z : Sizes). record inside.state { sizes = z; images = new.state.images }) (read.kept 0).sizes;
    log = log;
    replacing = replacing;
  })

  counts_of : {X : Type 0} (answer : Result X Refusal) → HasReadFor g (pooled inside) answer (pooled new) → IfErr answer MayRefuse → AnswerCounts g answer inside new
  counts_of (Ok x) read causes = read.counted
  counts_of (Err why.NoMemory) read causes = read.refused
  counts_of (Err why.Latched) read causes = read.refused
  counts_of (Err (why.Damaged d)) read causes = read.refused
  counts_of (Err why.DiskRead) read causes = read.refused
  counts_of (Err _) read causes = absurd causes

  pub plan_counts : {X : Type 0} (answer : Result X Refusal) → HasReadFor g (pooled inside) answer (pooled new) → IfErr answer MayRefuse → AnswerCounts g answer old new
  plan_counts answer read causes = subst (λ (o : OpenStore P L). AnswerCounts g answer o new) is (counts_of answer read causes)

-- it is refused behind its tests
pub tried_leaves : {P L : Type 0} (g : page_device.Ghosts P) (old new : OpenStore P L) (c : Call) → starts_one c ≡ true → NoneHolds (tested old.state c) → (r : Refusal) → MayRefuseStart r → StartLeaves g old r new → RefusedButRead c old r new
tried_leaves g old new c starts passed r causes left = subst (λ (b : Bool). RefusedBehind b (tested old.state c) old r new) (sym starts) (at (tested old.state c) passed r causes left) where
  at : (tests : List (Bool × Refusal)) → NoneHolds tests → (r : Refusal) → MayRefuseStart r → StartLeaves g old r new → RefusedBehind true tests old r new
  at tests passed why.NoMemory causes left = (passed, left)
  at tests passed why.Latched causes left = (passed, left.lists)
  at tests passed why.PoolFull causes left = (passed, left)
  at tests passed why.DiskRead causes left = (passed, left)
  at tests passed why.DiskWrite causes left = (passed, left)
  at tests passed (why.Damaged d) causes left = (passed, left)
  at tests passed _ causes left = absurd causes

-- what has begun: it is to do what was asked
pub begun_by : (s : State) (t : Txn) (n : ℕ) (end : End) (cells : ℕ) (task : Task) (plan : Planned) (new : State) → HasNothingUnderWay s t n → IsDeedFor task plan.deed
    → new ≡ record s { rows = change_row t (row_started (under_plan n plan)) s.rows; ends = with_end t end s.ends; cells_in_use = cells } → IsStarted s (record { txn = t; number = n }) end cells (DoesTask task) new
begun_by s t n end cells task plan new ready asked is = record {
  under = under_plan n plan;
  number = refl;
  ready = ready;
  plan = (refl, plan.deed, refl, asked);
  lists = is;
}

-- what stopped a content leaves, behind its tests
module _ {P L : Type 0} (g : page_device.Ghosts P) (rows : List Row) where
  left_of : (tests : List (Bool × Refusal)) → NoneHolds tests → (old new : OpenStore P L) (r : Refusal) → AreButRead old.state new.state → StopsFor g rows (pooled old) r (pooled new) → RefusedBehind false tests old r new
  left_of tests passed old new why.NoMemory but stops = (passed, but)
  left_of tests passed old new why.DiskRead but stops = (passed, but)
  left_of tests passed old new (why.Damaged d) but stops = (passed, but)
  left_of tests passed old new _ but stops = absurd stops

  pub content_leaves : (tests : List (Bool × Refusal)) → NoneHolds tests → (inside old new : OpenStore P L) → inside ≡ old → (r : Refusal) → new.state ≡ record inside.state { sizes = new.state.sizes; images = new.state.images } → MayHaveRead g (pooled inside) (pooled new)
      → StopsFor g rows (pooled inside) r (pooled new) → RefusedBehind false tests old r new
  content_leaves tests passed inside old new is r rest read stops =
      subst (λ (o : OpenStore P L). RefusedBehind false tests o r new) is (left_of tests passed inside new r (rest ∙ ap (λ (z : Sizes). record inside.state { sizes = z; images = new.state.images }) (read.kept 0).sizes) stops)

  -- and how often the device has failed then
  counted_of : (old new : OpenStore P L) (r : Refusal) → StopsFor g rows (pooled old) r (pooled new) → RefusalCounts g r old new
  counted_of old new why.NoMemory stops = stops
  counted_of old new why.DiskRead stops = stops
  counted_of old new (why.Damaged (Page n)) stops = stops.2
  counted_of old new _ stops = absurd stops

  pub content_counts : (inside old new : OpenStore P L) → inside ≡ old → (r : Refusal) → StopsFor g rows (pooled inside) r (pooled new) → RefusalCounts g r old new
  content_counts inside old new is r stops = subst (λ (o : OpenStore P L). RefusalCounts g r o new) is (counted_of inside new r stops)
