-- Frames that a start needs.
use Rattle.std.proofs.Common.{◌≡◌, ℕ, suc, ◌+◌, ◌<◌, ◌||◌, ◌++◌, cond, nat_lt, List, [], ◌∷◌, length, Option, Some, None, option_map, refl, sym, ap, subst, ◌∙◌, arith, Result, Ok, Err, IsTrue}
use Rattle.std.specs.Prelude.{OnOk}
use Rattle.std.proofs.lemmas.Bool.{false≢true}
use Rattle.rq_disk.specs.declared.device.PageDevice as page_device
use Rattle.rq_model.specs.declared.refusal.Refusal.{Refusal}
use Rattle.rq_model.specs.declared.refusal.Refusal.TheVariants as why
use Rattle.rq_model.specs.declared.txn.Sub.{Sub}
use Rattle.rq_model.specs.declared.txn.Txn.{Txn}
use Rattle.rq_model.specs.Legal.{OnFound}
use Rattle.rq_model.specs.Tests.{without_pages}
use Rattle.rq_level.specs.declared.writes.SlotWrite.{SlotWrite}
use Rattle.rq_level.specs.Ops.{Tagging}
use Rattle.rq_level.specs.Ops.Doing.{Close, Receive, Send}
use Rattle.rq_page.specs.Pages.{lsn_of}
use Rattle.rq_page.specs.Sizes.{client_count, sender_count}
use Rattle.rq_planner.specs.Asked.Task.{Chain, Tag}
use Rattle.rq_planner.specs.Lawful.{MayRefuse}
use Rattle.rq_pool.specs.Held.{Held, page_at}
use Rattle.rq_pool.specs.Pooled.{image_at}
use Rattle.rq_pool.specs.Want.{AreFramed, distinct, has_to_stay, staying}
use Rattle.rq_store.specs.Plans.{IsSendPlan, IsTakePlan, WaitsFor}
use Rattle.rq_store.specs.State.{State}
use Rattle.rq_sound.specs.Groups.{slots_now}
use Rattle.rq_sound.specs.Plans.{AreUnlatched}
use Rattle.rq_txn.proofs.Finding.{found_change_same}
use Rattle.rq_txn.specs.declared.Aim.TheVariants.{Undoing}
use Rattle.rq_txn.specs.declared.Finished.{Finished}
use Rattle.rq_txn.specs.Rows.{Row, Under, change_row, found_row, row_started}
use Rattle.rq_engine.specs.Aborts.{IsTurnedBack, IsUndoOf}
use Rattle.rq_engine.specs.Answers.{HasNothingUnderWay, OnUnder}
use Rattle.rq_engine.specs.Applied.{FramesReply}
use Rattle.rq_engine.specs.Closes.{IsClosePlan}
use Rattle.rq_engine.specs.declared.event.Reply.{Reply}
use Rattle.rq_engine.specs.Fixing.{AreWritesOf, LacksFrames, OnFrames, RefusedForFrames, StartHasFrames, TakeHasFrames}
use Rattle.rq_engine.specs.Frames.{IsForFrames, pages_of}
use Rattle.rq_engine.specs.KeptUp.{AreButRead, HasReadPages, HasReadSoFar, KeepsDevices}
use Rattle.rq_engine.specs.Marks.{IsMarkPlan}
use Rattle.rq_engine.specs.Opened.{OpenStore, pooled}
use Rattle.rq_engine.specs.Plans.{AreTakeWrites, AreWritesFor, IsInversePlan, under_plan}
use Rattle.rq_engine.specs.Says.{begun_reply, undo_reply}
use Rattle.rq_engine.specs.Sends.{TakesLowest}
use Rattle.rq_engine.proofs.KeptUp.{read_state}
use Rattle.rq_engine.proofs.Leveled.{close_plan, mark_plan, send_plan, take_plan}
use Rattle.rq_engine.proofs.Refusals.{found_of, on_found}

-- what has to stay is told by what stands in frames
staying_same : (old new : List (List ℕ)) (forced : ℕ) (hs : List Held) → ((i : ℕ) → i < length hs → image_at new (page_at hs i) ≡ image_at old (page_at hs i)) → staying new forced hs ≡ staying old forced hs
staying_same old new forced [] same = refl
staying_same old new forced (h ∷ hs) same =
    let one : has_to_stay new forced h ≡ has_to_stay old forced h = ap (λ (l : List ℕ). h.fixed || nat_lt forced (lsn_of l)) (same 0 (omega arith)) in
    let rest = staying_same old new forced hs (λ i lt. same (suc i) (omega (arith, lt))) in
    ap (λ (l : List ℕ). cond (has_to_stay new forced h) (h.page ∷ l) l) rest ∙ ap (λ b. cond b (h.page ∷ staying old forced hs) (staying old forced hs)) one

under_more : (n : ℕ) (P Q : Row → Under → Type 0) → ((r : Row) (u : Under) → P r u → Q r u) → (o : Option Row) → OnFound o (λ r. OnUnder n P r r.under) → OnFound o (λ r. OnUnder n Q r r.under)
under_more n P Q more None h = h
under_more n P Q more (Some r) h = at r.under h where
  at : (w : Option Under) → OnUnder n P r w → OnUnder n Q r w
  at None x = x
  at (Some u) x = (x.0, more r u x.1)

-- an operation that has begun is under way
begun_is : (old rows : List Row) (t : Txn) (u : Under) (P : Row → Under → Type 0) → OnFound (found_row t old) (λ r. (r.under ≡ None) × (u.number ≡ r.number + 1)) → rows ≡ change_row t (row_started u) old → ((r : Row) → P r u)
    → OnFound (found_row t rows) (λ r. OnUnder u.number P r r.under)
begun_is old rows t u P ready is holds =
    let r = found_of (λ r. (r.under ≡ None) × (u.number ≡ r.number + 1)) (found_row t old) ready in
    let found : found_row t rows ≡ Some (row_started u r.0) = ap (found_row t) is ∙ found_change_same t (row_started u) old (λ q. refl) ∙ ap (option_map (row_started u)) r.1 in
    on_found (λ q. OnUnder u.number P q q.under) (found_row t rows) (row_started u r.0) found (refl, holds (row_started u r.0))

-- pages were perhaps read before
module _ {P L : Type 0} (g : page_device.Ghosts P) (old mid : OpenStore P L) (read : HasReadPages g old mid) where
  staying_read : staying mid.state.images mid.state.forced mid.frames ≡ staying old.state.images old.state.forced old.frames
  staying_read =
      ap (λ (s : State). staying mid.state.images s.forced mid.frames) read.lists ∙ ap (λ (l : List Held). staying mid.state.images old.state.forced l) read.pages.frames
      ∙ staying_same old.state.images mid.state.images old.state.forced old.frames (λ i lt. read.pages.held (page_at old.frames i) (record { at = i; within = lt; is = refl }))

  -- that changes nothing of it
  lacks_before : (ws : List SlotWrite) → LacksFrames mid ws → LacksFrames old ws
  lacks_before ws lacks =
      let a : length (distinct (pages_of ws ++ staying mid.state.images mid.state.forced mid.frames)) ≡ length (distinct (pages_of ws ++ staying old.state.images old.state.forced old.frames)) = ap (λ (l : List ℕ). length (distinct (pages_of ws ++ l))) staying_read in
      let b = ap (λ (l : List Held). length l) read.pages.frames in
      omega (arith, a, b, lacks)

  lacks_after : (ws : List SlotWrite) → LacksFrames old ws → LacksFrames mid ws
  lacks_after ws lacks =
      let a : length (distinct (pages_of ws ++ staying mid.state.images mid.state.forced mid.frames)) ≡ length (distinct (pages_of ws ++ staying old.state.images old.state.forced old.frames)) = ap (λ (l : List ℕ). length (distinct (pages_of ws ++ l))) staying_read in
      let b = ap (λ (l : List Held). length l) read.pages.frames in
      omega (arith, a, b, lacks)

  -- nor of which pages stand in frames
  outside_before : (ws : List SlotWrite) → (AreFramed mid.frames (pages_of ws) → ⊥) → AreFramed old.frames (pages_of ws) → ⊥
  outside_before ws outside all = outside (subst (λ (l : List Held). AreFramed l (pages_of ws)) (sym read.pages.frames) all)

  module _ {X : Type 0} where
    -- what was planned begins, or does not
    pub planned_frames : (t : Txn) (u : Under) (MayBe : List SlotWrite → Type 0) (new lists : State) → HasNothingUnderWay old.state t u.number → MayBe u.writes → lists.rows ≡ change_row t (row_started u) mid.state.rows → (answer : Result X Refusal) → OnOk answer (AreButRead lists new)
        → IsForFrames (pooled mid) mid.state.forced (pages_of u.writes) answer → StartHasFrames MayBe old (record { txn = t; number = u.number }) answer new
    planned_frames t u MayBe new lists ready may rows (Ok x) begun frames =
        begun_is old.state.rows new.rows t u (λ r v. LacksFrames old v.writes → ⊥) ready (ap (λ (s : State). s.rows) begun ∙ rows ∙ ap (λ (s : State). change_row t (row_started u) s.rows) read.lists) (λ r lacks. frames (lacks_after u.writes lacks))
    planned_frames t u MayBe new lists ready may rows (Err why.PoolFull) begun frames = (u.writes, lacks_before u.writes frames, may)
    planned_frames t u MayBe new lists ready may rows (Err why.DiskWrite) begun frames = (u.writes, outside_before u.writes frames, may)
    planned_frames t u MayBe new lists ready may rows (Err _) begun frames = tt

    -- a start is tried behind others
    pub frames_then : (A B : List SlotWrite → Type 0) → ((ws : List SlotWrite) → A ws → B ws) → (sub : Sub) (answer : Result X Refusal) (new : State) → StartHasFrames A mid sub answer new → StartHasFrames B old sub answer new
    frames_then A B more sub (Ok x) new h = under_more sub.number (λ r u. LacksFrames mid u.writes → ⊥) (λ r u. LacksFrames old u.writes → ⊥) (λ r u none lacks. none (lacks_after u.writes lacks)) (found_row sub.txn new.rows) h
    frames_then A B more sub (Err why.PoolFull) new h = (h.0, lacks_before h.0 h.1, more h.0 h.2)
    frames_then A B more sub (Err why.DiskWrite) new h = (h.0, outside_before h.0 h.1, more h.0 h.2)
    frames_then A B more sub (Err _) new h = tt

-- what is not planned is not refused for frames
pub no_plan_frames : (A B : Type 0) (r : Refusal) → MayRefuse r → OnFrames A B r
no_plan_frames A B why.PoolFull m = absurd m
no_plan_frames A B why.DiskWrite m = absurd m
no_plan_frames A B _ m = tt

-- nor does a test refuse it so
pub no_test_frames : (A B : Type 0) (r : Refusal) → IsTrue (without_pages r) → OnFrames A B r
no_test_frames A B why.PoolFull m = absurd (false≢true m)
no_test_frames A B why.DiskWrite m = absurd (false≢true m)
no_test_frames A B _ m = tt

pub full_more : {P L : Type 0} (old : OpenStore P L) (A B : List SlotWrite → Type 0) → ((ws : List SlotWrite) → A ws → B ws) → (r : Refusal) → RefusedForFrames A old r → RefusedForFrames B old r
full_more old A B more why.PoolFull h = (h.0, h.1, more h.0 h.2)
full_more old A B more why.DiskWrite h = (h.0, h.1, more h.0 h.2)
full_more old A B more _ h = tt

-- ---- receives

module _ {P L X : Type 0} (g : page_device.Ghosts P) (old mid new : OpenStore P L) (t : Txn) (n : ℕ) (read : HasReadSoFar g old mid) (answer : Result X Refusal) where
  abbrev own : Sub
  own = record { txn = t; number = n }

  -- one from this sender, of which a message waits
  pub take_frames : (sender : ℕ) → WaitsFor mid.state t sender → KeepsDevices g mid new → StartHasFrames (λ ws. g.honest new.pages → AreWritesFor mid.state (Chain (Receive sender)) ws) mid own answer new.state
      → StartHasFrames (λ ws. g.honest new.pages → AreTakeWrites old.state t ws) old own answer new.state
  take_frames sender waits devices h = frames_then g old mid read.0 (λ ws. g.honest new.pages → AreWritesFor mid.state (Chain (Receive sender)) ws) (λ ws. g.honest new.pages → AreTakeWrites old.state t ws)
      (λ ws a honest. subst (λ (s : State). AreTakeWrites s t ws) (read_state g old mid read.0 (devices.0.honest honest)) (sender, waits, a honest)) own answer new.state h

  pub takes_frames : KeepsDevices g mid new → StartHasFrames (λ ws. g.honest new.pages → AreTakeWrites mid.state t ws) mid own answer new.state → StartHasFrames (λ ws. g.honest new.pages → AreTakeWrites old.state t ws) old own answer new.state
  takes_frames devices h = frames_then g old mid read.0 (λ ws. g.honest new.pages → AreTakeWrites mid.state t ws) (λ ws. g.honest new.pages → AreTakeWrites old.state t ws)
      (λ ws a honest. subst (λ (s : State). AreTakeWrites s t ws) (read_state g old mid read.0 (devices.0.honest honest)) (a honest)) own answer new.state h

-- ---- the writes of each call's plan

module _ (s : State) (ws : List SlotWrite) where
  pub send_writes : (g n tag : ℕ) (body : List ℕ) → g < sender_count s.sizes → AreWritesFor s (Chain (Send g tag body)) ws → AreWritesOf s (λ u. IsSendPlan s.sizes (slots_now s) u g tag body × TakesLowest s u.writes) ws
  send_writes g n tag body below p = (under_plan n p.0, p.2, subst (AreUnlatched s) p.2 p.1.free, (send_plan s g n p.0 below tag body p.1, p.1.lowest))

  pub close_writes : (g n : ℕ) → g < sender_count s.sizes → AreWritesFor s (Chain (Close g)) ws → AreWritesOf s (λ u. IsClosePlan s.sizes (slots_now s) u g) ws
  close_writes g n below p = (under_plan n p.0, p.2, subst (AreUnlatched s) p.2 p.1.free, close_plan s g n p.0 below p.1)

  pub mark_writes : (t : Tagging) (n : ℕ) → t.client < client_count s.sizes → AreWritesFor s (Tag t) ws → AreWritesOf s (λ u. IsMarkPlan s.sizes (slots_now s) u t.client t.tag) ws
  mark_writes t n below p = (under_plan n p.0, p.2, subst (AreUnlatched s) p.2 p.1.free, mark_plan s t n p.0 below p.1)

  pub take_writes : (g n : ℕ) → g < sender_count s.sizes → AreWritesFor s (Chain (Receive g)) ws → AreWritesOf s (λ u. IsTakePlan s.sizes (slots_now s) u g) ws
  take_writes g n below p = (under_plan n p.0, p.2, subst (AreUnlatched s) p.2 p.1.free, take_plan s g n p.0 below p.1)

  pub any_writes : (t : Txn) (n : ℕ) → AreTakeWrites s t ws → AreWritesOf s (λ u. (sender : ℕ) × WaitsFor s t sender × IsTakePlan s.sizes (slots_now s) u sender) ws
  any_writes t n p = (let w = take_writes p.0 n p.1.0 p.2 in (w.0, w.1, w.2, (p.0, p.1, w.3)))

  pub undo_writes : (t : Txn) (n : ℕ) (f : Finished) → IsTurnedBack s t n (Some f) → IsInversePlan s f.deed ws → AreWritesOf s (IsUndoOf s t) ws
  undo_writes t n f back p = (
    record { number = n; writes = ws; made = 0; aim = Undoing f.lsn f.deed },
    refl,
    p.free,
    (f, (n, back), record { can = p.can; planned = record { made = refl; aim = refl; plan = p.planned }; lowest = p.lowest }),
  )

-- ---- replies

module _ {P L : Type 0} (A : List SlotWrite → Type 0) (old : OpenStore P L) (new : State) where
  pub begun_frames : (x : Result (Option Sub) Refusal) (y : Reply) → TakeHasFrames A old x new → y ≡ begun_reply x → FramesReply A old y new
  begun_frames (Ok (Some sub)) y h is = rw is h
  begun_frames (Ok None) y h is = rw is tt
  begun_frames (Err r) y h is = rw is h

  pub undo_frames : (x : Result (Option Sub) Refusal) (y : Reply) → TakeHasFrames A old x new → y ≡ undo_reply x → FramesReply A old y new
  undo_frames (Ok (Some sub)) y h is = rw is h
  undo_frames (Ok None) y h is = rw is tt
  undo_frames (Err r) y h is = rw is h
