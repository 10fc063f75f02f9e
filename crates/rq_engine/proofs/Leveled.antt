-- What the level plans, as the engine's starts have it.
use Rattle.std.proofs.Common.{◌≡◌, ◌≢◌, ℕ, ◌+◌, ◌/◌, ◌%◌, ◌<◌, ◌≤◌, cond, nat_eq, nat_lt, List, [], ◌∷◌, length, refl, sym, ◌∙◌, ap, subst, inl, inr, true, false, Option, Some, None, Result, Ok, Err, arith, Bool, ◌⊎◌}
use Rattle.std.specs.Prelude.{IfErr, OnOk, IfOk}
use Rattle.std.proofs.lemmas.Bool.{cases_Bool, false_from_ne_true, ltb-true, or_cases, or_right, false≢true, true≢false}
use Rattle.rq_model.specs.declared.record.Deed.{Deed}
use Rattle.rq_model.specs.declared.refusal.Refusal.{Refusal}
use Rattle.rq_model.specs.declared.refusal.Refusal.TheVariants as why
use Rattle.rq_model.specs.declared.txn.Txn.{Txn}
use Rattle.rq_model.specs.declared.record.Deed.TheVariants.{Append, UnlinkHead, Close as Close_deed, Mark}
use Rattle.rq_model.specs.declared.record.Record.{Record}
use Rattle.rq_model.specs.Deeds.{deed_by, spelled_deed, TellsItself}
use Rattle.rq_model.proofs.Deeds.{told_by_its_level}
use Rattle.rq_model.specs.Commits.{op_of}
use Rattle.rq_model.specs.Content.{said}
use Rattle.rq_model.specs.Causes.{may_write, reads_pages, starts_one, writes_out}
use Rattle.rq_model.specs.History.{Call}
use Rattle.rq_model.specs.History.Call.{Show}
use Rattle.rq_model.specs.Ledger.{runs}
use Rattle.rq_model.specs.Replay.Reply.{Gave_refusal}
use Rattle.rq_model.specs.Tests.{Passes, undo_cost, starts as starts_in}
use Rattle.rq_page.specs.declared.cell.Cell.{Cell}
use Rattle.rq_page.specs.declared.cell.CellSlot.{CellSlot}
use Rattle.rq_page.specs.declared.layout.PageKind.{PageKind}
use Rattle.rq_page.specs.declared.layout.PageKind.TheVariants as kinds
use Rattle.rq_page.specs.Cells.{cell_slot_in}
use Rattle.rq_page.specs.Directories.{directory_in}
use Rattle.rq_page.specs.Clients.{client_in}
use Rattle.rq_page.specs.Kinds.{kind_of}
use Rattle.rq_page.specs.Sizes.{IsCellAddress, Sizes, client_count, directory_at, sender_count}
use Rattle.rq_page.specs.Slots.{held_for, held_in, of_cell_slot}
use Rattle.rq_page.specs.Slots.Slot.{Free, Sender, Used, Client}
use Rattle.rq_views.specs.Stored.{slot_at, slots_in}
use Rattle.rq_views.proofs.Stands.{page_of_cells}
use Rattle.rq_views.specs.InStore.{IsDeedOf}
use Rattle.rq_views.specs.Items.{told_deed}
use Rattle.rq_views.specs.Plans.Turn.{Did}
use Rattle.rq_groups.specs.declared.End.TheVariants.{Receiving}
use Rattle.rq_level.specs.ChainPlans.{TellsDamage}
use Rattle.rq_level.specs.declared.writes.Plan.{Plan}
use Rattle.rq_level.specs.Ops.{Tagging, Job}
use Rattle.rq_level.specs.Ops.Doing.{Send, Receive, Close}
use Rattle.rq_txn.specs.declared.Aim.TheVariants as aims
use Rattle.rq_txn.specs.Rows.{latched_in}
use Rattle.rq_txn.specs.Told.{IsTold}
use Rattle.rq_store.specs.Plans.{IsSendPlan, IsTakePlan, WaitsFor}
use Rattle.rq_store.specs.State.{State, ledger_of, phase_of, size_of}
use Rattle.rq_sound.specs.ModelSteps.{IsModelStep}
use Rattle.rq_sound.specs.Groups.{slots_now}
use Rattle.rq_sound.specs.Plans.{IsMarking, IsPlannedFrom, IsReceive, IsSend}
use Rattle.rq_sound.specs.Sound.{IsSound}
use Rattle.rq_planner.specs.Answered.{IsDeedFor, IsHeldUp, IsPlanOf, IsPlanned, MayBeAsked, RefusesPlan, deed_of}
use Rattle.rq_planner.specs.Asked.{Asked, IsTaskOf, Task, task_by, task_level}
use Rattle.rq_planner.specs.Asked.Asked.{Do}
use Rattle.rq_planner.specs.Asked.Task.{Chain, Tag}
use Rattle.rq_planner.specs.Lawful.{IsByOwnLatch, IsExactlyLatched, IsLawfulFor, IsLawfulPlan, most_writes, most_writes_back}
use Rattle.rq_engine.specs.Closes.{IsClosePlan, close_latched}
use Rattle.rq_engine.specs.Marks.{IsMarkPlan, mark_latched}
use Rattle.rq_engine.specs.Earlier.{IsEarlier, on}
use Rattle.rq_engine.specs.Plans.{AreHeldUp, ComesOf, HasStarted, IsDeedPlan, IsStartOf, IsTakeOf, IsWithin, Planned, RefusesStart, is_latch, is_latched, known_part, planned_of, records_of, under_plan, IsByLatches, IsLatchedBy, IsOwnPlan}
use Rattle.rq_engine.specs.Sends.{take_latched}
use Rattle.rq_engine.specs.Answers.{IsCausedIn, Refuses}
use Rattle.rq_engine.specs.Applied.{OnLatched}
use Rattle.rq_engine.specs.Frames.{NotBegun}
use Rattle.rq_engine.specs.KeptUp.{MayRefuseStart, failed_by}
use Rattle.rq_engine.proofs.Standing.{failed_steps, refused_steps}

-- what starts an operation may read pages
starts_read : (c : Call) → starts_one c ≡ true → reads_pages c ≡ true
starts_read Show e = refl
starts_read c e = e

-- it is of the store
pub within : (z : Sizes) (task : Task) → IsWithin z task → IsTaskOf z task
within z (Chain d) h = h
within z (Tag t) h = h.0

-- a deed is of the store where the sender or the client is that it was asked for
pub asked_stored : (z : Sizes) (task : Task) (e : Deed) → IsDeedFor task e → IsWithin z task → IsDeedOf z e
asked_stored z (Chain (Send g tag body)) (Append h n t previous b) is inside = let same : h ≡ g = is.0 in omega (arith, same, inside)
asked_stored z (Chain (Receive g)) (UnlinkHead h n t b) is inside = let same : h ≡ g = is in omega (arith, same, inside)
asked_stored z (Chain (Close g)) (Close_deed h) is inside = let same : h ≡ g = is in omega (arith, same, inside)
asked_stored z (Tag x) (Mark c t previous) is inside = (let same : c ≡ x.client = is.0 in let below = inside.0 in omega (arith, same, below), inside.1)
asked_stored z task e is inside = absurd is

pub some_task : (a b : Task) → Some a ≡ Some b → a ≡ b
some_task a b e = cc

-- bytes that tell a deed are some
pub some_told : (level : ℕ) (bytes : List ℕ) (d : Deed) → deed_by level bytes ≡ Some d → 1 ≤ length bytes
some_told level [] d told = elim (cases_Bool (nat_eq level 1)) [
  | inl one ↦ absurd (let no : None ≡ Some d = rw one at told in cc)
  | inr other ↦ elim (cases_Bool (nat_eq level 2)) [
    | inl two ↦ absurd (let no : None ≡ Some d = rw (other, two) at told in cc)
    | inr none ↦ absurd (let no : None ≡ Some d = rw (other, none) at told in cc)
  ]
]
some_told level (b ∷ bytes) d told = omega arith

-- a deed that is told is read in its spelling
pub tells_itself : (level : ℕ) (bytes : List ℕ) → IsTold level bytes → TellsItself (told_deed (deed_by level bytes))
tells_itself level bytes told =
    let d = told_deed (deed_by level bytes) in
    ap (λ n. deed_by n (spelled_deed d)) (told_by_its_level level bytes d told.reads) ∙ ap (deed_by level) told.spelled ∙ told.reads

module _ (d : Task) (p : Plan) (level : ℕ) (of_level : level ≡ task_level d) where
  pub asked_for : IsDeedFor d (deed_of d p) → IsDeedFor d (planned_of level p).deed
  asked_for asked = subst (λ n. IsDeedFor d (planned_of n p).deed) (sym of_level) asked

  -- with its deed
  pub deed_plan : (s : State) → IsPlanOf (known_part s) d p → IsLawfulPlan s.sizes level p → IsDeedPlan s d (planned_of level p)
  deed_plan s h lawful = record {
    asked = asked_for h.asked;
    planned = subst (λ n. IsPlannedFrom s.sizes (slots_now s) p.writes.items (Did (planned_of n p).deed)) (sym of_level) h.follows.0;
    free = h.follows.1;
    lowest = h.lowest;
    count = lawful.count;
    reads = tells_itself level p.deed lawful.told;
  }

-- ---- what a start answers

pub never_failed : (r : Refusal) → MayRefuseStart r → r ≢ why.Failed
never_failed r causes e = subst MayRefuseStart e causes

-- what did not begin, over a device that is honest
pub honest_begun : (H : Type 0) → H → (r : Refusal) → NotBegun H r → NotBegun (Unit {0}) r
honest_begun H h why.NoMemory n = tt
honest_begun H h why.PoolFull n = tt
honest_begun H h why.DiskRead n = tt
honest_begun H h why.DiskWrite n = tt
honest_begun H h (why.Damaged d) n = absurd (n h)
honest_begun H h _ n = absurd n

-- it was refused for no latch, and for no damage
not_begun_refuses : (IsHeld : Type 0) (r : Refusal) → NotBegun (Unit {0}) r → RefusesStart IsHeld r
not_begun_refuses IsHeld why.NoMemory n = tt
not_begun_refuses IsHeld why.PoolFull n = tt
not_begun_refuses IsHeld why.DiskRead n = tt
not_begun_refuses IsHeld why.DiskWrite n = tt
not_begun_refuses IsHeld (why.Damaged d) n = tt
not_begun_refuses IsHeld _ n = absurd n

not_begun_sound : (r : Refusal) → NotBegun (Unit {0}) r → TellsDamage r → ⊥
not_begun_sound (why.Damaged d) n damage = n tt
not_begun_sound _ n damage = damage

no_plan_refuses : (IsHeld : Type 0) (r : Refusal) → RefusesPlan IsHeld r → RefusesStart IsHeld r
no_plan_refuses IsHeld why.PoolFull causes = tt
no_plan_refuses IsHeld why.DiskRead causes = tt
no_plan_refuses IsHeld why.DiskWrite causes = tt
no_plan_refuses IsHeld _ causes = causes

-- what was planned begins, or it does not
pub begins_planned : {X : Type 0} {A : Type 0} (H : Type 0) → H → (p : Plan) (HasBegun : Plan → Type 0) (answer : Result X Refusal) → (A → HasBegun p) → OnOk answer A → IfErr answer (NotBegun H) → ComesOf (Ok p) HasBegun answer
begins_planned H h p HasBegun (Ok x) begun started causes = begun started
begins_planned H h p HasBegun (Err r) begun started causes = honest_begun H h r causes

pub plain_begun : {X : Type 0} (H : Type 0) (answer : Result X Refusal) → IfErr answer (NotBegun H) → IfErr answer (λ r. r ≢ why.Failed)
plain_begun H (Ok x) n = tt
plain_begun H (Err r) n = λ e. subst (NotBegun H) e n

-- an answer that is no failed read
pub read_on : {X : Type 0} (x : X) → ◌≡◌ {A = Result X Refusal} (Ok x) (Err why.DiskRead) → ⊥
read_on x e = cc

err_is : {X : Type 0} (r : Refusal) → ◌≡◌ {A = Result X Refusal} (Err r) (Err why.DiskRead) → r ≡ why.DiskRead
err_is r e = cc

pub no_read : {X : Type 0} (r : Refusal) → (r ≡ why.DiskRead → ⊥) → ◌≡◌ {A = Result X Refusal} (Err r) (Err why.DiskRead) → ⊥
no_read r none e = none (err_is r e)

pub no_read_as : {X Y : Type 0} (r : Refusal) → (◌≡◌ {A = Result X Refusal} (Err r) (Err why.DiskRead) → ⊥) → ◌≡◌ {A = Result Y Refusal} (Err r) (Err why.DiskRead) → ⊥
no_read_as r none e = none (ap Err (err_is r e))

-- a read failed, or did not
pub read_or_not : (r : Refusal) → (r ≡ why.DiskRead) ⊎ (r ≡ why.DiskRead → ⊥)
read_or_not why.DiskRead = inl refl
read_or_not _ = inr (λ e. cc)

module _ {X : Type 0} (s : State) (asked : Asked) (HasBegun : Type 0) where
  -- what was planned begins, or it does not
  pub start_answered : {A : Type 0} (H : Type 0) → H → (answer : Result X Refusal) → (IsHeldUp (known_part s) asked → ⊥) → (A → HasBegun) → OnOk answer A → IfErr answer (NotBegun H) → IsStartOf s asked HasBegun answer
  start_answered H h (Ok x) free begun started causes = record { begun = begun started; free = free; causes = tt; sound = λ e long k may. tt }
  start_answered H h (Err r) free begun started causes =
      let honest = honest_begun H h r causes in
      record { begun = tt; free = tt; causes = not_begun_refuses (IsHeldUp (known_part s) asked) r honest; sound = λ e long k may. not_begun_sound r honest }

  -- or nothing was planned
  pub start_refused : (r : Refusal) → RefusesPlan (IsHeldUp (known_part s) asked) r → ((e : List Record) → IsEarlier e s → IsSound (on e s) → MayBeAsked (on e s) asked → TellsDamage r → ⊥) → IsStartOf {X = X} s asked HasBegun (Err r)
  start_refused r causes sound = record { begun = tt; free = tt; causes = no_plan_refuses (IsHeldUp (known_part s) asked) r causes; sound = sound }

  -- as the device gave what the slots hold, or failed
  pub plan_refused : (r : Refusal) → ((r ≡ why.DiskRead → ⊥) → IsPlanned (known_part s) asked (Err r)) → IsStartOf {X = X} s asked HasBegun (Err r)
  plan_refused r is = elim (read_or_not r) [
    | inl read ↦ subst (λ (e : Refusal). IsStartOf {X = X} s asked HasBegun (Err e)) (sym read) (record { begun = tt; free = tt; causes = tt; sound = λ e long k may damage. damage })
    | inr given ↦ (let p = is given in start_refused r p.causes (λ e long k may. p.sound (on e s) refl k may))
  ]

-- ---- what the calls answer

-- a start that a sound store may do is refused as latched only where latches hold it up
pub latched_for : (IsHeld P : Type 0) (r : Refusal) → RefusesStart IsHeld r → (IsHeld → P) → OnLatched P r
latched_for IsHeld P why.Latched causes held = held causes
latched_for IsHeld P _ causes held = tt

-- What a start answers that is refused behind its tests, and what that makes of a sound store.
module _ (s new : State) (c : Call) (IsHeld : Type 0) (starts : starts_one c ≡ true) (running : s.failed ≡ false) (some : IsSound s → starts_in (size_of s.sizes) (ledger_of s) c ≡ true) (passes : IsSound s → Passes (size_of s.sizes) (ledger_of s) c) where
  abbrev IsSo : Refusal → State → Type 0
  IsSo r n = IsModelStep s c (Gave_refusal r) n × IsCausedIn s c r

  runs_on : runs (phase_of s.failed) ≡ true
  runs_on = ap (λ b. runs (phase_of b)) running

  reads : reads_pages c ≡ true
  reads = starts_read c starts

  writes : may_write c ≡ true
  writes = or_right (writes_out c) (starts_one c) starts

  pub refused_for : (r : Refusal) → RefusesStart IsHeld r → (TellsDamage r → ⊥) → new ≡ record s { failed = failed_by s.failed r } → Refuses s c why.NoMemory → (IsHeld → Refuses s c why.Latched) → IsSound s → IsSo r new
  refused_for why.NoMemory causes sound is memory held k = subst (IsSo why.NoMemory) (sym is) (memory k)
  refused_for why.Latched causes sound is memory held k = subst (IsSo why.Latched) (sym is) (held causes k)
  refused_for why.PoolFull causes sound is memory held k = subst (IsSo why.PoolFull) (sym is) (refused_steps s k c why.PoolFull (passes k, some k) refl, starts)
  refused_for why.DiskRead causes sound is memory held k = subst (IsSo why.DiskRead) (sym is) (refused_steps s k c why.DiskRead runs_on refl, reads)
  refused_for why.DiskWrite causes sound is memory held k = subst (IsSo why.DiskWrite) (sym is) (failed_steps s k running c, writes)
  refused_for (why.Damaged x) causes sound is memory held k = absurd (sound tt)
  refused_for _ causes sound is memory held k = absurd causes

pub latched_more : (A B : Type 0) → (A → B) → (r : Refusal) → OnLatched A r → OnLatched B r
latched_more A B more why.Latched h = more h
latched_more A B more _ h = tt

-- ---- what is answered to a receive

pub take_free : (s : State) (g : ℕ) → (IsHeldUp (known_part s) (Do (Chain (Receive g))) → ⊥) → take_latched s g ≡ false
take_free s g h = false_from_ne_true (take_latched s g) h

other_held : (A B : Type 0) (r : Refusal) → is_latch r ≡ false → RefusesStart A r → RefusesStart B r
other_held A B why.NoMemory l causes = tt
other_held A B why.PoolFull l causes = tt
other_held A B why.DiskRead l causes = tt
other_held A B why.DiskWrite l causes = tt
other_held A B (why.Damaged x) l causes = tt
other_held A B why.Latched l causes = absurd (true≢false l)
other_held A B _ l causes = absurd causes

held_more : (A B : Type 0) → (A → B) → (r : Refusal) → RefusesStart A r → RefusesStart B r
held_more A B more why.NoMemory causes = tt
held_more A B more why.PoolFull causes = tt
held_more A B more why.DiskRead causes = tt
held_more A B more why.DiskWrite causes = tt
held_more A B more (why.Damaged x) causes = tt
held_more A B more why.Latched causes = more causes
held_more A B more _ causes = absurd causes

held_by : (A : Type 0) (r : Refusal) → is_latch r ≡ true → RefusesStart A r → A
held_by A why.Latched l causes = causes
held_by A _ l causes = absurd (false≢true l)

module _ {X : Type 0} (s : State) (t : Txn) (n : ℕ) (answer : Result X Refusal) (new : State) where
  -- what holds up a start from one sender, or from some
  pub start_held : (g : ℕ) (HasBegun : Type 0) → is_latched answer ≡ true → IsStartOf s (Do (Chain (Receive g))) HasBegun answer → take_latched s g ≡ true
  start_held g HasBegun l p = at answer l p.causes where
    at : (a : Result X Refusal) → is_latched a ≡ true → IfErr a (RefusesStart (take_latched s g ≡ true)) → take_latched s g ≡ true
    at (Ok x) l c = absurd (false≢true l)
    at (Err r) l c = held_by (take_latched s g ≡ true) r l c

  pub take_held : (P : ℕ → Type 0) → is_latched answer ≡ true → IsTakeOf s t n P answer new → AreHeldUp s t P
  take_held P l p = at answer l p.causes where
    at : (a : Result X Refusal) → is_latched a ≡ true → IfErr a (RefusesStart (AreHeldUp s t P)) → AreHeldUp s t P
    at (Ok x) l c = absurd (false≢true l)
    at (Err r) l c = held_by (AreHeldUp s t P) r l c

module _ {X : Type 0} (s : State) (t : Txn) (n : ℕ) (P : ℕ → Type 0) (new : State) where
  -- what is answered to a start from one sender, and not for latches, is answered to one from some
  pub take_found : (answer : Result X Refusal) (g : ℕ) → WaitsFor s t g → is_latched answer ≡ false → IsStartOf s (Do (Chain (Receive g))) (HasStarted s t n (Receiving g) (Chain (Receive g)) new) answer → IsTakeOf s t n P answer new
  take_found (Ok x) g w l p = record { begun = record { sender = g; waits = w; free = take_free s g p.free; started = p.begun }; causes = tt; sound = λ k. tt }
  take_found (Err r) g w l p = record { begun = tt; causes = other_held (take_latched s g ≡ true) (AreHeldUp s t P) r l p.causes; sound = λ k. p.sound k.0 k.1 k.2 w.2 }

  -- and what is answered to one from some of them, to one from others
  pub take_other : (answer : Result X Refusal) (Q : ℕ → Type 0) → is_latched answer ≡ false → IsTakeOf s t n Q answer new → IsTakeOf s t n P answer new
  take_other (Ok x) Q l p = record { begun = p.begun; causes = tt; sound = p.sound }
  take_other (Err r) Q l p = record { begun = tt; causes = other_held (AreHeldUp s t Q) (AreHeldUp s t P) r l p.causes; sound = p.sound }

  -- where these are held up, it is of no matter which others are tried
  pub take_more : (answer : Result X Refusal) (Q : ℕ → Type 0) → (AreHeldUp s t Q → AreHeldUp s t P) → IsTakeOf s t n Q answer new → IsTakeOf s t n P answer new
  take_more (Ok x) Q more p = record { begun = p.begun; causes = tt; sound = p.sound }
  take_more (Err r) Q more p = record { begun = tt; causes = held_more (AreHeldUp s t Q) (AreHeldUp s t P) more r p.causes; sound = p.sound }

  pub take_none : AreHeldUp s t P → IsTakeOf {X = X} s t n P (Err why.Latched) new
  take_none held = record { begun = tt; causes = held; sound = λ k damage. damage }

-- one sender is all of those
pub take_only : {X : Type 0} (s : State) (t : Txn) (n g : ℕ) (answer : Result X Refusal) (new : State) → WaitsFor s t g → IsStartOf s (Do (Chain (Receive g))) (HasStarted s t n (Receiving g) (Chain (Receive g)) new) answer → IsTakeOf s t n (λ e. e ≡ g) answer new
take_only s t n g (Ok x) new w p = record { begun = record { sender = g; waits = w; free = take_free s g p.free; started = p.begun }; causes = tt; sound = λ k. tt }
take_only s t n g (Err r) new w p = record {
  begun = tt;
  causes = held_more (take_latched s g ≡ true) (AreHeldUp s t (λ e. e ≡ g)) (λ c e is waits. ap (take_latched s) is ∙ c) r p.causes;
  sound = λ k. p.sound k.0 k.1 k.2 w.2;
}

-- ---- closes, sends and receives

module _ (s : State) (g n : ℕ) (plan : Planned) (below : g < sender_count s.sizes) where
  pub close_plan : IsDeedPlan s (Chain (Close g)) plan → IsClosePlan s.sizes (slots_now s) (under_plan n plan) g
  close_plan h = at plan.deed refl h.asked h.planned where
    at : (e : Deed) → plan.deed ≡ e → IsDeedFor (Chain (Close g)) e → IsPlannedFrom s.sizes (slots_now s) plan.writes (Did e) → IsClosePlan s.sizes (slots_now s) (under_plan n plan) g
    at (Close_deed x) is same p = record {
      made = refl;
      below = below;
      marking = subst (λ (m : ℕ). IsMarking s.sizes (slots_now s) plan.writes m true) same p;
      aim = ap (λ (e : Deed). aims.Doing e) (is ∙ ap Close_deed same);
      reads = h.reads;
    }
    at (Append x m t previous b) is same p = absurd same
    at (UnlinkHead x m t b) is same p = absurd same
    at (Mark c t previous) is same p = absurd same

  pub send_plan : (tag : ℕ) (body : List ℕ) → IsDeedPlan s (Chain (Send g tag body)) plan → IsSendPlan s.sizes (slots_now s) (under_plan n plan) g tag body
  send_plan tag body h = at plan.deed refl h.asked h.planned where
    at : (e : Deed) → plan.deed ≡ e → IsDeedFor (Chain (Send g tag body)) e → IsPlannedFrom s.sizes (slots_now s) plan.writes (Did e) → IsSendPlan s.sizes (slots_now s) (under_plan n plan) g tag body
    at (Append x m t previous b) is same p =
        let e : Append x m t previous b ≡ Append g m tag previous body = ap (λ i. Append i m t previous b) same.0 ∙ ap (λ i. Append g m i previous b) same.1 ∙ ap (λ i. Append g m tag previous i) same.2 in
        let q : IsSend s.sizes (slots_now s) plan.writes g m tag previous body = subst (λ (i : Deed). IsPlannedFrom s.sizes (slots_now s) plan.writes (Did i)) e p in
        record {
          directory = q.directory;
          new = q.new;
          old = q.old;
          made = refl;
          below = below;
          directory_is = q.directory_is;
          cell = q.cell;
          free = q.free;
          beside = q.beside;
          aim = ap (λ (i : Deed). aims.Doing i) (is ∙ e ∙ ap (λ i. Append g i tag previous body) q.sequence ∙ ap (λ i. Append g (q.directory.sent + 1) tag i body) q.previous_is);
          writes = q.writes;
          reads = h.reads;
        }
    at (UnlinkHead x m t b) is same p = absurd same
    at (Close_deed x) is same p = absurd same
    at (Mark c t before) is same p = absurd same

-- what holds a message is a cell
used_cell : (z : Sizes) (images : List (List ℕ)) (a : ℕ) (c : Cell) → slots_in z images a ≡ Used c → IsCellAddress z a
used_cell z images a c e = elim (cases_Bool (nat_lt 0 (a % 16))) [
  | inl y ↦ at y (kind_of z (a / 16)) refl (sym (ap (λ b. cond b (held_in z (a / 16) (slot_at images a)) Free) y) ∙ e)
  | inr n ↦ let bad : Free ≡ Used c = sym (ap (λ b. cond b (held_in z (a / 16) (slot_at images a)) Free) n) ∙ e in absurd (cc)
]
  where
    of_cell : (x : CellSlot) → of_cell_slot x ≡ Used c → (k : nat_lt 0 (a % 16) ≡ true) → kind_of z (a / 16) ≡ Some kinds.Cells → IsCellAddress z a
    of_cell x e y k = let p = page_of_cells z (a / 16) k in record { above = p.0; below = p.1; slot = ltb-true 0 (a % 16) y }

    at : nat_lt 0 (a % 16) ≡ true → (k : Option PageKind) → kind_of z (a / 16) ≡ k → held_for k (slot_at images a) ≡ Used c → IsCellAddress z a
    at y None k e = absurd (let bad : Free ≡ Used c = e in cc)
    at y (Some kinds.Superblock) k e = absurd (let bad : Free ≡ Used c = e in cc)
    at y (Some kinds.Directory) k e = absurd (let bad : Sender (directory_in (slot_at images a)).sender (directory_in (slot_at images a)).directory ≡ Used c = e in cc)
    at y (Some kinds.Cells) k e = of_cell (cell_slot_in (slot_at images a)) e y k
    at y (Some kinds.Tags) k e = absurd (let bad : Client (client_in (slot_at images a)) ≡ Used c = e in cc)

pub take_plan : (s : State) (g n : ℕ) (plan : Planned) → g < sender_count s.sizes → IsDeedPlan s (Chain (Receive g)) plan → IsTakePlan s.sizes (slots_now s) (under_plan n plan) g
take_plan s g n plan below h = at plan.deed refl h.asked h.planned where
  at : (e : Deed) → plan.deed ≡ e → IsDeedFor (Chain (Receive g)) e → IsPlannedFrom s.sizes (slots_now s) plan.writes (Did e) → IsTakePlan s.sizes (slots_now s) (under_plan n plan) g
  at (UnlinkHead x m t b) is same p =
      let e : UnlinkHead x m t b ≡ UnlinkHead g m t b = ap (λ i. UnlinkHead i m t b) same in
      let q : IsReceive s.sizes (slots_now s) plan.writes g m t b = subst (λ (i : Deed). IsPlannedFrom s.sizes (slots_now s) plan.writes (Did i)) e p in
      record {
        directory = q.directory;
        cell = q.cell;
        next = q.next;
        made = refl;
        below = below;
        directory_is = q.directory_is;
        head = used_cell s.sizes s.images q.directory.head q.cell q.head_is;
        head_is = q.head_is;
        beside = q.beside;
        aim = ap (λ (i : Deed). aims.Doing i) (is ∙ e ∙ ap (λ i. UnlinkHead g i t b) q.sequence ∙ ap (λ i. UnlinkHead g (q.directory.received + 1) i b) q.tag_is ∙ ap (λ i. UnlinkHead g (q.directory.received + 1) q.cell.tag i) q.body_is);
        writes = q.writes;
        reads = h.reads;
      }
  at (Append x m t previous b) is same p = absurd same
  at (Close_deed x) is same p = absurd same
  at (Mark c t previous) is same p = absurd same

-- a close needs the page of its directory slot
pub close_held : (s : State) (g : ℕ) → IsHeldUp (known_part s) (Do (Chain (Close g))) → close_latched s g ≡ true
close_held s g h = elim (or_cases (latched_in s.rows (directory_at g / 16)) false h) [ inl y ↦ y | inr n ↦ absurd (true≢false (sym n)) ]

-- a mark needs the page of its client's slot
pub mark_held : (s : State) (t : Tagging) → IsHeldUp (known_part s) (Do (Tag t)) → mark_latched s t.client ≡ true
mark_held s t h = elim (or_cases (mark_latched s t.client) false h) [ inl y ↦ y | inr n ↦ absurd (true≢false (sym n)) ]

pub mark_plan : (s : State) (t : Tagging) (n : ℕ) (plan : Planned) → t.client < client_count s.sizes → IsDeedPlan s (Tag t) plan → IsMarkPlan s.sizes (slots_now s) (under_plan n plan) t.client t.tag
mark_plan s t n plan below h = at plan.deed refl h.asked h.planned where
  at : (e : Deed) → plan.deed ≡ e → IsDeedFor (Tag t) e → IsPlannedFrom s.sizes (slots_now s) plan.writes (Did e) → IsMarkPlan s.sizes (slots_now s) (under_plan n plan) t.client t.tag
  at (Mark c tag previous) is same p =
      let e : Mark c tag previous ≡ Mark t.client t.tag previous = ap (λ i. Mark i tag previous) same.0 ∙ ap (λ i. Mark t.client i previous) same.1 in
      record {
        previous = previous;
        made = refl;
        below = below;
        tagging = subst (λ (i : Deed). IsPlannedFrom s.sizes (slots_now s) plan.writes (Did i)) e p;
        aim = ap (λ (i : Deed). aims.Doing i) (is ∙ e);
        reads = h.reads;
      }
  at (Append x m tag previous b) is same p = absurd same
  at (UnlinkHead x m tag b) is same p = absurd same
  at (Close_deed x) is same p = absurd same

-- no more, with an end, than is counted of the task
few_planned : (d : Task) (n : ℕ) → n ≤ most_writes d → n + 1 ≤ records_of d
few_planned (Chain (Send g tag body)) n few = omega (arith, few)
few_planned (Chain (Receive g)) n few = omega (arith, few)
few_planned (Chain (Close g)) n few = omega (arith, few)
few_planned (Tag t) n few = omega (arith, few)

latched_by : (latched : Bool) (answer : Result Plan Refusal) → IsExactlyLatched latched answer → IsLatchedBy latched answer
latched_by latched (Ok p) h = h
latched_by latched (Err why.Latched) h = h
latched_by latched (Err _) h = tt

module _ (s : State) where
  by_latches : (d : Task) (answer : Result Plan Refusal) → IsByOwnLatch s.sizes s.rows d answer → IsByLatches s d answer
  by_latches (Chain (Send g tag body)) answer h = tt
  by_latches (Chain (Receive g)) answer h = tt
  by_latches (Chain (Close g)) answer h = latched_by (close_latched s g) answer h
  by_latches (Tag t) answer h = latched_by (mark_latched s t.client) answer h

  -- what does not begin of a plan is not refused for latches
  not_begun_latched : (H : Type 0) (r : Refusal) (P : Type 0) → NotBegun H r → OnLatched P r
  not_begun_latched H why.Latched P n = absurd n
  not_begun_latched H _ P n = tt

  pub latched_then : {X : Type 0} (H : Type 0) (d : Task) (p : Plan) (answer : Result X Refusal) → IfErr answer (NotBegun H) → IsByLatches s d (Ok p) → IsByLatches s d answer
  latched_then H (Chain (Send g tag body)) p answer causes h = tt
  latched_then H (Chain (Receive g)) p answer causes h = tt
  latched_then H (Chain (Close g)) p (Ok x) causes h = h
  latched_then H (Chain (Close g)) p (Err r) causes h = not_begun_latched H r (close_latched s g ≡ true) causes
  latched_then H (Tag t) p (Ok x) causes h = h
  latched_then H (Tag t) p (Err r) causes h = not_begun_latched H r (mark_latched s t.client ≡ true) causes

  pub latched_refused : (X : Type 0) (d : Task) (r : Refusal) → IsByLatches {X = Plan} s d (Err r) → IsByLatches {X = X} s d (Err r)
  latched_refused X (Chain (Send g tag body)) r h = tt
  latched_refused X (Chain (Receive g)) r h = tt
  latched_refused X (Chain (Close g)) r h = h
  latched_refused X (Tag t) r h = h

  -- what is so of a plan whatever slots its level was given
  pub own_plan : (d : Task) (job : Job) → task_by job.level job.bytes ≡ Some d → (answer : Result Plan Refusal) → IfOk answer (IsLawfulFor s.sizes job) → IsByOwnLatch s.sizes s.rows d answer → IsOwnPlan s d answer
  own_plan d job told (Ok p) lawful latched = record { asked = lawful.asked d told; few = few_planned d (length p.writes.items) (lawful.few d told); latched = by_latches d (Ok p) latched }
  own_plan d job told (Err r) lawful latched = record { asked = tt; few = tt; latched = by_latches d (Err r) latched }

-- no more, with an end, than an inverse is counted as
pub few_back : (d : Deed) (n : ℕ) → n ≤ most_writes_back d → n + 1 ≤ undo_cost (Some (op_of (said d)))
few_back (Append g n tag previous body) k few = omega (arith, few)
few_back (UnlinkHead g n tag body) k few = omega (arith, few)
few_back (Close_deed g) k few = omega (arith, few)
few_back (Mark c tag previous) k few = omega (arith, few)
