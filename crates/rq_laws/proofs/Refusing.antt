-- Refusals, by two stores in the same state.
use Rattle.std.proofs.Common.{◌≡◌, ℕ, zero, suc, ◌+◌, ◌<◌, List, [], ◌∷◌, ◌++◌, refl, sym, ◌∙◌, ap, subst, Bool, true, false, cond, ◌&&◌, ◌||◌, IsTrue, ◌⊎◌, inl, inr, Option, Some, None, Result, Ok, Err, arith, true≢false}
use Rattle.std.proofs.lemmas.Bool.{cases_Bool, not-false, and_right, or_from}
use Rattle.std.proofs.lemmas.Option.{same_Some}
use Rattle.std.proofs.Math.Bool.{or_assoc}
use Rattle.rq_model.specs.declared.refusal.Refusal.{Refusal}
use Rattle.rq_model.specs.declared.refusal.Refusal.TheVariants as why
use Rattle.rq_model.specs.declared.txn.Txn.{Txn}
use Rattle.rq_model.specs.declared.txn.Sub.{Sub}
use Rattle.rq_model.specs.declared.message.Message.{Message}
use Rattle.rq_model.specs.Causes.{HasCause, writes_out}
use Rattle.rq_model.specs.History.{Call, Entry}
use Rattle.rq_model.specs.History.Entry.{Started, None_free, None_from, None_left}
use Rattle.rq_model.specs.History.Job.{Taking}
use Rattle.rq_model.specs.History.Call.{Begin, Start_send, Start_receive, Start_receive_from, Start_close, Start_mark, Step, Finish, Commit, Start_abort, Undo_next, End_abort}
use Rattle.rq_model.specs.Legal.{Legal, LegalRefusal, OnFound}
use Rattle.rq_model.specs.Ledger.{Ledger, Open, found}
use Rattle.rq_model.specs.Vocabulary.{is_some, last}
use Rattle.rq_model.specs.Replay.{Reply as Gave}
use Rattle.rq_model.specs.Replay.Reply.{Gave_sub, Gave_txn, Gave_commit, Gave_aborting, Gave_aborted, Gave_refusal}
use Rattle.rq_model.specs.Tests.{Size, NoneHolds, Passes, any_gives, below, first_of, free_to_receive, gives, holds_for, log_full, newest, starts, tests}
use Rattle.rq_txn.specs.Rows.{any_under}
use Rattle.rq_disk.specs.declared.device.LogDevice as log_device
use Rattle.rq_disk.specs.declared.device.PageDevice as page_device
use Rattle.rq_store.specs.State.{State, ledger_of, size_of}
use Rattle.rq_sound.specs.Latching.{IsLatched}
use Rattle.rq_sound.specs.Sound.{IsSound}
use Rattle.rq_sound.specs.ModelSteps.{IsModelStep}
use Rattle.rq_level.specs.declared.writes.Outcome.{Outcome}
use Rattle.rq_level.specs.declared.writes.Outcome.TheVariants as outcome
use Rattle.rq_engine.specs.declared.event.Progress.{Progress}
use Rattle.rq_engine.specs.declared.event.Progress.TheVariants as progress
use Rattle.rq_engine.specs.declared.event.CommitNo.{CommitNo}
use Rattle.rq_engine.specs.Answers.{AnswersLegally}
use Rattle.rq_engine.proofs.Causes.{has_cause}
use Rattle.rq_engine.specs.Applied.{OnLatched, StartsUnlatched, TakesUnlatched}
use Rattle.rq_model.specs.declared.record.Record.{Record}
use Rattle.rq_engine.specs.Earlier.{IsEarlier, on}
use Rattle.rq_engine.specs.Opened.{OpenStore, AreHonest}
use Rattle.rq_engine.proofs.Owned.{err_own, of_own, ok_own}
use Rattle.rq_engine.specs.Receives.{started_of, undoing_of}
use Rattle.rq_engine.specs.Says.{commit_number, outcome_of, progress_of}
use Rattle.rq_laws.specs.Refusals.{IsWant, LatchedApart, RefuseAlike, TakenApart}
use Rattle.rq_laws.proofs.Ending.{some_none}

-- ---- why a call is refused

-- a test says so; or it passes all, and is latched; or something was wanting
abbrev Why : Size → Ledger → Call → Refusal → Type 0
Why z l c r = (first_of (tests z l c) ≡ Some r) ⊎ ((r ≡ why.Latched) × Passes z l c) ⊎ IsWant r

legal_why : (busy : Bool) (z : Size) (l : Ledger) (c : Call) (r : Refusal) → writes_out c ≡ false → LegalRefusal z l c r → HasCause busy c r → Why z l c r
legal_why busy z l c why.NoMemory w g h = inr (inr tt)
legal_why busy z l c why.DiskWrite w g h = inr (inr tt)
legal_why busy z l c why.DiskRead w g h = inr (inr tt)
legal_why busy z l c (why.Damaged d) w g h = absurd h
legal_why busy z l c why.PoolFull w g h = inr (inr tt)
legal_why busy z l c why.NotForced w g h = absurd (true≢false (sym h ∙ w))
legal_why busy z l c why.Latched w g h = inr (inl (refl, g.0))
legal_why busy z l c _ w g h = inl g

none_first : (cs : List (Bool × Refusal)) → NoneHolds cs → first_of cs ≡ None
none_first [] h = refl
none_first (c ∷ cs) h = ap (λ b. cond b (Some c.1) (first_of cs)) h.0 ∙ none_first cs h.1

-- a call that passes its tests is refused for what is wanting alone, or as latched
passed : (z : Size) (l : Ledger) (c : Call) (r : Refusal) → Passes z l c → (r ≡ why.Latched → ⊥) → Why z l c r → IsWant r
passed z l c r p n w = elim w [
  | inl e ↦ absurd (some_none r (sym e ∙ none_first (tests z l c) p))
  | inr v ↦ elim v [ inl h ↦ absurd (n h.0) | inr h ↦ h ]
]

both_refused : (z : Size) (l : Ledger) (c : Call) (r s : Refusal) → Why z l c r → Why z l c s → (r ≡ s) ⊎ (IsWant r ⊎ IsWant s)
both_refused z l c r s v w = elim v [
  | inl e ↦ elim w [
    | inl f ↦ inl (same_Some r s (sym e ∙ f))
    | inr x ↦ elim x [ inl h ↦ absurd (some_none r (sym e ∙ none_first (tests z l c) h.1)) | inr h ↦ inr (inr h) ]
  ]
  | inr y ↦ elim y [
    | inl g ↦ elim w [
      | inl f ↦ absurd (some_none s (sym f ∙ none_first (tests z l c) g.1))
      | inr x ↦ elim x [ inl h ↦ inl (g.0 ∙ sym h.0) | inr h ↦ inr (inr h) ]
    ]
    | inr g ↦ inr (inl g)
  ]
]

refusal_legal : (old : State) (c : Call) (r : Refusal) (new : State) → IsModelStep old c (Gave_refusal r) new → LegalRefusal (size_of old.sizes) (ledger_of old) c r
refusal_legal old c r new s = subst (λ (e : Entry). Legal (size_of old.sizes) (ledger_of old) e) s.says s.legal

module _ {P L X : Type 0} (p : page_device.Ghosts P) (l : log_device.Ghosts L) (c : Call) (gave : X → Gave) where
  -- what is answered says that the tests are passed
  abbrev pub SaysPassed : Type 0
  SaysPassed = (old new : State) (a : X) → IsModelStep old c (gave a) new → Passes (size_of old.sizes) (ledger_of old) c

  why_refused : (old new : OpenStore P L) (r : Refusal) → writes_out c ≡ false → AnswersLegally p l old c gave (Err r) new → AreHonest p l new → IsSound old.state → Why (size_of old.state.sizes) (ledger_of old.state) c r
  why_refused old new r w a h k = let s = err_own p l old new c gave r a h k in legal_why (any_under old.state.rows) (size_of old.state.sizes) (ledger_of old.state) c r w (refusal_legal old.state c r s.0 s.1.0) (has_cause old.state c r s.1.1)

  refuse_one : (old x y : OpenStore P L) (r s : Result X Refusal) → SaysPassed → writes_out c ≡ false → LatchedApart r s → AnswersLegally p l old c gave r x → AnswersLegally p l old c gave s y → AreHonest p l x → AreHonest p l y → IsSound old.state → RefuseAlike r s
  refuse_one old x y (Ok a) (Ok b) says w apart f g hx hy k = tt
  refuse_one old x y (Ok a) (Err s) says w apart f g hx hy k = passed (size_of old.state.sizes) (ledger_of old.state) c s (let o = ok_own p l old x c gave a f hx k in says old.state o.0 a o.1) apart (why_refused old y s w g hy k)
  refuse_one old x y (Err r) (Ok b) says w apart f g hx hy k = passed (size_of old.state.sizes) (ledger_of old.state) c r (let o = ok_own p l old y c gave b g hy k in says old.state o.0 b o.1) apart (why_refused old x r w f hx k)
  refuse_one old x y (Err r) (Err s) says w apart f g hx hy k = both_refused (size_of old.state.sizes) (ledger_of old.state) c r s (why_refused old x r w f hx k) (why_refused old y s w g hy k)

  not_latched : (old new : OpenStore P L) (r : Refusal) → ((z : Size) (g : Ledger) → starts z g c ≡ false) → AnswersLegally p l old c gave (Err r) new → AreHonest p l new → IsSound old.state → r ≡ why.Latched → ⊥
  not_latched old new r st a h k e =
      let s = err_own p l old new c gave r a h k in
      let g : LegalRefusal (size_of old.state.sizes) (ledger_of old.state) c why.Latched = subst (LegalRefusal (size_of old.state.sizes) (ledger_of old.state) c) e (refusal_legal old.state c r s.0 s.1.0) in
      true≢false (sym g.1 ∙ st (size_of old.state.sizes) (ledger_of old.state))

  plain_apart : (old x y : OpenStore P L) (r s : Result X Refusal) → ((z : Size) (g : Ledger) → starts z g c ≡ false) → AnswersLegally p l old c gave r x → AnswersLegally p l old c gave s y → AreHonest p l x → AreHonest p l y → IsSound old.state → LatchedApart r s
  plain_apart old x y (Ok a) (Ok b) st f g hx hy k = tt
  plain_apart old x y (Ok a) (Err s) st f g hx hy k = not_latched old y s st g hy k
  plain_apart old x y (Err r) (Ok b) st f g hx hy k = not_latched old x r st f hx k
  plain_apart old x y (Err r) (Err s) st f g hx hy k = tt

  -- of a call that starts nothing, and so is never latched
  pub refuse_plain : (old old2 x y : OpenStore P L) (r s : Result X Refusal) → SaysPassed → writes_out c ≡ false → ((z : Size) (g : Ledger) → starts z g c ≡ false) → old ≡ old2 → AnswersLegally p l old c gave r x → AnswersLegally p l old2 c gave s y → AreHonest p l x → AreHonest p l y → IsSound old.state → RefuseAlike r s
  refuse_plain old old2 x y r s says w st is f g hx hy k =
      let h : AnswersLegally p l old c gave s y = subst (λ o. AnswersLegally p l o c gave s y) (sym is) g in
      refuse_one old x y r s says w (plain_apart old x y r s st f h hx hy k) f h hx hy k

  pub refuse_alike : (old old2 x y : OpenStore P L) (r s : Result X Refusal) → SaysPassed → writes_out c ≡ false → old ≡ old2 → (IsSound old.state → LatchedApart r s) → AnswersLegally p l old c gave r x → AnswersLegally p l old2 c gave s y → AreHonest p l x → AreHonest p l y → IsSound old.state → RefuseAlike r s
  refuse_alike old old2 x y r s says w is apart f g hx hy k = refuse_one old x y r s says w (apart k) f (subst (λ o. AnswersLegally p l o c gave s y) (sym is) g) hx hy k

-- ---- calls that may find nothing to start

module _ {P L : Type 0} (p : page_device.Ghosts P) (l : log_device.Ghosts L) (c : Call) (gave : Option Sub → Gave) where
  -- where nothing is started there is nothing to start
  abbrev pub SaysNothing : Type 0
  SaysNothing = (old new : State) → IsModelStep old c (gave None) new → starts (size_of old.sizes) (ledger_of old) c ≡ false

  none_latched : (old x y : OpenStore P L) (r : Refusal) → SaysNothing → AnswersLegally p l old c gave (Ok None) x → AnswersLegally p l old c gave (Err r) y → AreHonest p l x → AreHonest p l y → IsSound old.state → r ≡ why.Latched → ⊥
  none_latched old x y r none f g hx hy k e =
      let refusal = err_own p l old y c gave r g hy k in
      let nothing = ok_own p l old x c gave None f hx k in
      let s : LegalRefusal (size_of old.state.sizes) (ledger_of old.state) c why.Latched = subst (LegalRefusal (size_of old.state.sizes) (ledger_of old.state) c) e (refusal_legal old.state c r refusal.0 refusal.1.0) in
      true≢false (sym s.1 ∙ none old.state nothing.0 nothing.1)

  taken_latched : (old x y : OpenStore P L) (r s : Result (Option Sub) Refusal) → SaysNothing → TakenApart r s → AnswersLegally p l old c gave r x → AnswersLegally p l old c gave s y → AreHonest p l x → AreHonest p l y → IsSound old.state → LatchedApart r s
  taken_latched old x y (Ok a) (Ok b) none apart f g hx hy k = tt
  taken_latched old x y (Ok None) (Err s) none apart f g hx hy k = none_latched old x y s none f g hx hy k
  taken_latched old x y (Ok (Some a)) (Err s) none apart f g hx hy k = apart
  taken_latched old x y (Err r) (Ok None) none apart f g hx hy k = none_latched old y x r none g f hy hx k
  taken_latched old x y (Err r) (Ok (Some b)) none apart f g hx hy k = apart
  taken_latched old x y (Err r) (Err s) none apart f g hx hy k = tt

  pub refuse_taken : (old old2 x y : OpenStore P L) (r s : Result (Option Sub) Refusal) → SaysPassed p l c gave → SaysNothing → writes_out c ≡ false → old ≡ old2 → (IsSound old.state → TakenApart r s) → AnswersLegally p l old c gave r x → AnswersLegally p l old2 c gave s y → AreHonest p l x → AreHonest p l y → IsSound old.state → RefuseAlike r s
  refuse_taken old old2 x y r s says none w is apart f g hx hy k =
      let h : AnswersLegally p l old c gave s y = subst (λ o. AnswersLegally p l o c gave s y) (sym is) g in
      refuse_one p l c gave old x y r s says w (taken_latched old x y r s none (apart k) f h hx hy k) f h hx hy k

-- ---- latches

latched_apart : {X Y : Type 0} (s : State) (c : Call) (r : Result X Refusal) (q : Result Y Refusal) → StartsUnlatched s c r → StartsUnlatched s c q → LatchedApart r q
latched_apart s c (Ok a) (Ok b) f g = tt
latched_apart s c (Ok a) (Err r) f g = λ e. f (subst (OnLatched (IsLatched s c)) e g)
latched_apart s c (Err r) (Ok b) f g = λ e. g (subst (OnLatched (IsLatched s c)) e f)
latched_apart s c (Err r) (Err q) f g = tt

pub starts_apart : {P L X Y : Type 0} (old old2 : OpenStore P L) (c : Call) (r : Result X Refusal) (q : Result Y Refusal) → old ≡ old2
    → ((x : List Record) → IsEarlier x old.state → IsSound (on x old.state) → StartsUnlatched (on x old.state) c r) → ((x : List Record) → IsEarlier x old2.state → IsSound (on x old2.state) → StartsUnlatched (on x old2.state) c q) → IsSound old.state → LatchedApart r q
starts_apart {P} {L} old old2 c r q e f g k = latched_apart old.state c r q (of_own (λ s. StartsUnlatched s c r) old.state f k) (subst (λ (o : OpenStore P L). IsSound o.state → StartsUnlatched o.state c q) (sym e) (of_own (λ s. StartsUnlatched s c q) old2.state g) k)

taken_one : (s : State) (c : Call) (r q : Result (Option Sub) Refusal) → TakesUnlatched s c r → TakesUnlatched s c q → TakenApart r q
taken_one s c (Ok a) (Ok b) f g = tt
taken_one s c (Ok None) (Err r) f g = tt
taken_one s c (Ok (Some a)) (Err r) f g = λ e. f (subst (OnLatched (IsLatched s c)) e g)
taken_one s c (Err r) (Ok None) f g = tt
taken_one s c (Err r) (Ok (Some b)) f g = λ e. g (subst (OnLatched (IsLatched s c)) e f)
taken_one s c (Err r) (Err q) f g = tt

pub takes_apart : {P L : Type 0} (old old2 : OpenStore P L) (c : Call) (r q : Result (Option Sub) Refusal) → old ≡ old2
    → ((x : List Record) → IsEarlier x old.state → IsSound (on x old.state) → TakesUnlatched (on x old.state) c r) → ((x : List Record) → IsEarlier x old2.state → IsSound (on x old2.state) → TakesUnlatched (on x old2.state) c q) → IsSound old.state → TakenApart r q
takes_apart {P} {L} old old2 c r q e f g k = taken_one old.state c r q (of_own (λ s. TakesUnlatched s c r) old.state f k) (subst (λ (o : OpenStore P L). IsSound o.state → TakesUnlatched o.state c q) (sym e) (of_own (λ s. TakesUnlatched s c q) old2.state g) k)

-- ---- calls whose answers say that their tests are passed

pub send_passed : (t : Txn) (m : Message) (old new : State) (a : Sub) → IsModelStep old (Start_send t m) (Gave_sub a.txn a.number) new → Passes (size_of old.sizes) (ledger_of old) (Start_send t m)
send_passed t m old new a s = (subst (λ (e : Entry). Legal (size_of old.sizes) (ledger_of old) e) s.says.1 s.legal).0

pub close_passed : (t : Txn) (g : ℕ) (old new : State) (a : Sub) → IsModelStep old (Start_close t g) (Gave_sub a.txn a.number) new → Passes (size_of old.sizes) (ledger_of old) (Start_close t g)
close_passed t g old new a s = (subst (λ (e : Entry). Legal (size_of old.sizes) (ledger_of old) e) s.says.1 s.legal).0

pub mark_passed : (t : Txn) (c tag : ℕ) (old new : State) (a : Sub) → IsModelStep old (Start_mark t c tag) (Gave_sub a.txn a.number) new → Passes (size_of old.sizes) (ledger_of old) (Start_mark t c tag)
mark_passed t c tag old new a s = (subst (λ (e : Entry). Legal (size_of old.sizes) (ledger_of old) e) s.says.1 s.legal).0

pub abort_passed : {X : Type 0} (t : Txn) (old new : State) (a : X) → IsModelStep old (Start_abort t) Gave_aborting new → Passes (size_of old.sizes) (ledger_of old) (Start_abort t)
abort_passed t old new a s = subst (λ (e : Entry). Legal (size_of old.sizes) (ledger_of old) e) s.says s.legal

pub begin_passed : (old new : State) (a : Txn) → IsModelStep old Begin (Gave_txn a) new → Passes (size_of old.sizes) (ledger_of old) Begin
begin_passed old new a s = (subst (λ (e : Entry). Legal (size_of old.sizes) (ledger_of old) e) s.says s.legal).0

pub commit_passed : (t : Txn) (old new : State) (a : CommitNo) → IsModelStep old (Commit t) (Gave_commit (commit_number a)) new → Passes (size_of old.sizes) (ledger_of old) (Commit t)
commit_passed t old new a s = (subst (λ (e : Entry). Legal (size_of old.sizes) (ledger_of old) e) s.says.1 s.legal).0

pub end_passed : {X : Type 0} (t : Txn) (old new : State) (a : X) → IsModelStep old (End_abort t) Gave_aborted new → Passes (size_of old.sizes) (ledger_of old) (End_abort t)
end_passed t old new a s = subst (λ (e : Entry). Legal (size_of old.sizes) (ledger_of old) e) s.says s.legal

pub step_passed : (t : Txn) (n : ℕ) (old new : State) (a : Progress) → IsModelStep old (Step t n) (progress_of a) new → Passes (size_of old.sizes) (ledger_of old) (Step t n)
step_passed t n old new (progress.Done lsn) s = (subst (λ (e : Entry). Legal (size_of old.sizes) (ledger_of old) e) s.says s.legal).0
step_passed t n old new progress.Ready s = (subst (λ (e : Entry). Legal (size_of old.sizes) (ledger_of old) e) s.says s.legal).0

pub finish_passed : (t : Txn) (n : ℕ) (old new : State) (a : Outcome) → IsModelStep old (Finish t n) (outcome_of a) new → Passes (size_of old.sizes) (ledger_of old) (Finish t n)
finish_passed t n old new outcome.Sent s = (subst (λ (e : Entry). Legal (size_of old.sizes) (ledger_of old) e) s.says.1 s.legal).0
finish_passed t n old new (outcome.Message m) s = (subst (λ (e : Entry). Legal (size_of old.sizes) (ledger_of old) e) s.says s.legal).0
finish_passed t n old new outcome.Closed s = (subst (λ (e : Entry). Legal (size_of old.sizes) (ledger_of old) e) s.says.1 s.legal).0
finish_passed t n old new outcome.Marked s = (subst (λ (e : Entry). Legal (size_of old.sizes) (ledger_of old) e) s.says.2 s.legal).0
finish_passed t n old new outcome.Undone s = (subst (λ (e : Entry). Legal (size_of old.sizes) (ledger_of old) e) s.says s.legal).0

-- ---- receives, and what is undone

abbrev entry_legal : (old : State) → Entry → Type 0
entry_legal old e = Legal (size_of old.sizes) (ledger_of old) e

third : (a b c : Bool) → a ≡ true → b ≡ true → ((a && b) && c) ≡ false → c ≡ false
third true true c e f h = h
third true false c e f h = absurd (true≢false (sym f))
third false b c e f h = absurd (true≢false (sym e))

module _ (l : Ledger) (t : Txn) where
  any_append : (xs ys : List ℕ) (o : Option Open) → any_gives (xs ++ ys) l t o ≡ (any_gives xs l t o || any_gives ys l t o)
  any_append [] ys o = refl
  any_append (x ∷ xs) ys o = ap (λ b. gives l t o x || b) (any_append xs ys o) ∙ sym (or_assoc (gives l t o x) (any_gives xs l t o) (any_gives ys l t o))

  none_below : (n : ℕ) (o : Option Open) → ((g : ℕ) → g < n → gives l t o g ≡ false) → any_gives (below n) l t o ≡ false
  none_below zero o h = refl
  none_below (suc n) o h =
      any_append (below n) (n ∷ []) o
      ∙ or_from (any_gives (below n) l t o) (gives l t o n || false) (none_below n o (λ g k. h g (omega (arith, k)))) (or_from (gives l t o n) false (h n (omega arith)) refl)

  gives_not : (n : ℕ) (o : Option Open) → OnFound o (λ o. (s : ℕ) → s < n → free_to_receive t s l.open_ones ≡ true → holds_for l o s ≡ false) → (g : ℕ) → g < n → gives l t o g ≡ false
  gives_not n None k g h = absurd k
  gives_not n (Some o) k g h = elim (cases_Bool (free_to_receive t g l.open_ones)) [ inl y ↦ rw y (k g h y) | inr m ↦ rw m refl ]

  gives_nothing : (s : ℕ) (o : Option Open) → OnFound o (λ o. holds_for l o s ≡ false) → gives l t o s ≡ false
  gives_nothing s None k = absurd k
  gives_nothing s (Some o) k = and_right (free_to_receive t s l.open_ones) (holds_for l o s) k

  room_for : (s n : ℕ) (o : Option Open) → OnFound o (λ o. (n ≡ o.number + 1) × IsTrue (holds_for l o s)) → free_to_receive t s l.open_ones ≡ true → (gives l t o s && log_full l 4) ≡ false → log_full l 4 ≡ false
  room_for s n None k f e = absurd k
  room_for s n (Some o) k f e = third (free_to_receive t s l.open_ones) (holds_for l o s) (log_full l 4) f k.1 e

  none_newest : (o : Option Open) → OnFound o (λ o. last o.ops ≡ None) → is_some (newest o) ≡ false
  none_newest None k = absurd k
  none_newest (Some o) k = ap is_some k

pub receive_passed : (t : Txn) (old new : State) (a : Option Sub) → IsModelStep old (Start_receive t) (started_of a) new → Passes (size_of old.sizes) (ledger_of old) (Start_receive t)
receive_passed t old new None s = (subst (entry_legal old) s.says s.legal).0
receive_passed t old new (Some a) s =
    let g = s.says.1 in
    let h : Legal (size_of old.sizes) (ledger_of old) (Started t a.number (Taking g)) = subst (entry_legal old) s.says.2 s.legal in
    let p = h.0 in
    let full = room_for (ledger_of old) t g a.number (found t (ledger_of old).open_ones) h.1 (not-false _ p.1.1.1.1.1.0) p.1.1.1.1.1.1.0 in
    (p.0, (p.1.0, (p.1.1.0, (p.1.1.1.0, (and_right _ _ full, tt)))))

pub receive_nothing : (t : Txn) (old new : State) → IsModelStep old (Start_receive t) (started_of None) new → starts (size_of old.sizes) (ledger_of old) (Start_receive t) ≡ false
receive_nothing t old new s =
    let h : Legal (size_of old.sizes) (ledger_of old) (None_free t) = subst (entry_legal old) s.says s.legal in
    none_below (ledger_of old) t (size_of old.sizes).senders (found t (ledger_of old).open_ones) (gives_not (ledger_of old) t (size_of old.sizes).senders (found t (ledger_of old).open_ones) h.1)

pub from_passed : (t : Txn) (g : ℕ) (old new : State) (a : Option Sub) → IsModelStep old (Start_receive_from t g) (started_of a) new → Passes (size_of old.sizes) (ledger_of old) (Start_receive_from t g)
from_passed t g old new None s = (subst (entry_legal old) s.says s.legal).0
from_passed t g old new (Some a) s = (subst (entry_legal old) s.says.1 s.legal).0

pub from_nothing : (t : Txn) (g : ℕ) (old new : State) → IsModelStep old (Start_receive_from t g) (started_of None) new → starts (size_of old.sizes) (ledger_of old) (Start_receive_from t g) ≡ false
from_nothing t g old new s =
    let h : Legal (size_of old.sizes) (ledger_of old) (None_from t g) = subst (entry_legal old) s.says s.legal in
    gives_nothing (ledger_of old) t g (found t (ledger_of old).open_ones) h.1

pub undo_passed : (t : Txn) (old new : State) (a : Option Sub) → IsModelStep old (Undo_next t) (undoing_of a) new → Passes (size_of old.sizes) (ledger_of old) (Undo_next t)
undo_passed t old new None s = (subst (entry_legal old) s.says s.legal).0
undo_passed t old new (Some a) s = (subst (entry_legal old) s.says.1 s.legal).0

pub undo_nothing : (t : Txn) (old new : State) → IsModelStep old (Undo_next t) (undoing_of None) new → starts (size_of old.sizes) (ledger_of old) (Undo_next t) ≡ false
undo_nothing t old new s =
    let h : Legal (size_of old.sizes) (ledger_of old) (None_left t) = subst (entry_legal old) s.says s.legal in
    none_newest (ledger_of old) t (found t (ledger_of old).open_ones) h.1
