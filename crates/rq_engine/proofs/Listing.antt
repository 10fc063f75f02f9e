-- What calls make of the lists.
use Rattle.std.proofs.Common.{◌≡◌, ℕ, ◌+◌, ◌-◌, length, ◌∷◌, ap, sym, subst, refl, IfOk, Option, Some, None, Result, Ok, Err, List, inl, arith}
use Rattle.std.specs.List.{sum_by}
use Rattle.rq_disk.specs.declared.device.LogDevice as log_device
use Rattle.rq_log.specs.Crash.{LeavesOnly}
use Rattle.rq_model.specs.declared.record.Record.TheVariants.{Commit}
use Rattle.rq_model.specs.declared.refusal.Refusal.{Refusal}
use Rattle.rq_model.specs.declared.txn.Sub.{Sub}
use Rattle.rq_model.specs.declared.txn.Txn.{Txn}
use Rattle.rq_engine.specs.Moves.{with_tags, with_sends}
use Rattle.rq_groups.specs.Ends.{released}
use Rattle.rq_page.specs.Sizes.{sender_count}
use Rattle.rq_txn.specs.Rows.{fresh_row, without_row}
use Rattle.rq_store.specs.State.{State}
use Rattle.rq_store.specs.Settled.{takes_one}
use Rattle.rq_disk.specs.declared.device.PageDevice as page_device
use Rattle.rq_model.specs.History.{Call}
use Rattle.rq_sound.specs.Sound.{IsSound}
use Rattle.rq_sound.specs.ModelSteps.{IsModelStep}
use Rattle.rq_sound.specs.Calls.{next_txn}
use Rattle.rq_model.specs.declared.record.Record.{Record}
use Rattle.rq_engine.specs.Earlier.{on, IsEarlier}
use Rattle.rq_engine.specs.Answers.{AnswersLegally, HasNothingUnderWay}
use Rattle.rq_engine.specs.Opened.{AreHonest, OpenStore}
use Rattle.rq_engine.specs.Aborts.{UndoSays}
use Rattle.rq_engine.specs.Applied.{LatchedReply, TakesUnlatched}
use Rattle.rq_engine.specs.Receives.{started_of, undoing_of}
use Rattle.rq_engine.specs.Says.{RefusedForCause, begun_reply, call_of, gave, undo_reply}
use Rattle.rq_model.specs.Causes.{reads_pages}
use Rattle.rq_engine.specs.KeptUp.{OnRead}
use Rattle.rq_engine.specs.Lists.{IsBegun, IsCommitted, TakeSays, TakeFromSays, ListsSay, done_by}
use Rattle.rq_engine.specs.declared.event.CommitNo.{CommitNo}
use Rattle.rq_engine.specs.declared.event.Event.{Event}
use Rattle.rq_engine.specs.declared.event.Event.TheVariants as event
use Rattle.rq_engine.specs.declared.event.Reply.{Reply}

pub begun_lists : (s : State) → IsBegun s (next_txn s) (record s { rows = fresh_row (next_txn s) ∷ s.rows; begins = s.begins + 1 })
begun_lists s = record { number = refl; lists = refl }

-- one that was committed
pub committed_lists : (s : State) (t : Txn) (n cells : ℕ) (number : CommitNo) → number.txn ≡ t → number.lsn ≡ length s.records + 1 → HasNothingUnderWay s t n → cells ≡ s.cells_in_use - sum_by takes_one (done_by s t)
    → IsCommitted s t number (record s { rows = without_row t s.rows; ends = record { sending = released t s.ends.sending; receiving = released t s.ends.receiving }; records = Commit t ∷ s.records; cells_in_use = cells; waiting = with_sends (done_by s t) s.waiting; sent = with_tags (sender_count s.sizes) (done_by s t) s.sent })
committed_lists s t n cells number txn lsn ready freed = record {
  txn = txn;
  lsn = lsn;
  ready = (n, ready);
  lists = ap (λ (k : ℕ). let x : State = record s { rows = without_row t s.rows; ends = record { sending = released t s.ends.sending; receiving = released t s.ends.receiving }; records = Commit t ∷ s.records; cells_in_use = k; waiting = with_sends (done_by s t) s.waiting; sent = with_tags (sender_count s.sizes) (done_by s t) s.sent } in x) freed;
}

pub committed_from : {a b : State} (t : Txn) (number : CommitNo) (new : State) → a ≡ b → IsCommitted a t number new → IsCommitted b t number new
committed_from t number new e is = subst (λ (s : State). IsCommitted s t number new) e is

-- the start of a receive
pub take_lists : (old : State) (t : Txn) (x : Result (Option Sub) Refusal) (y : Reply) (e : Event) (new : State) (H : Type 0) → e ≡ event.StartReceive t → (H → IfOk x (λ b. TakeSays old t b new)) → y ≡ begun_reply x → OnRead (reads_pages (call_of e)) H (ListsSay old e y new)
take_lists old t (Ok (Some sub)) y e new H is says reply = rw (is, reply) says
take_lists old t (Ok None) y e new H is says reply = rw (is, reply) says
take_lists old t (Err r) y e new H is says reply = rw (is, reply) (λ h. tt)

pub take_from_lists : (old : State) (t : Txn) (s : ℕ) (x : Result (Option Sub) Refusal) (y : Reply) (e : Event) (new : State) (H : Type 0) → e ≡ event.StartReceiveFrom t s → (H → IfOk x (λ b. TakeFromSays old t s b new)) → y ≡ begun_reply x → OnRead (reads_pages (call_of e)) H (ListsSay old e y new)
take_from_lists old t s (Ok (Some sub)) y e new H is says reply = rw (is, reply) says
take_from_lists old t s (Ok None) y e new H is says reply = rw (is, reply) says
take_from_lists old t s (Err r) y e new H is says reply = rw (is, reply) (λ h. tt)

-- the start of an inverse
pub undo_lists : (old : State) (t : Txn) (x : Result (Option Sub) Refusal) (y : Reply) (e : Event) (new : State) (H : Type 0) → e ≡ event.UndoNext t → (H → IfOk x (λ b. UndoSays old t b new)) → y ≡ undo_reply x → OnRead (reads_pages (call_of e)) H (ListsSay old e y new)
undo_lists old t (Ok (Some sub)) y e new H is says reply = rw (is, reply) says
undo_lists old t (Ok None) y e new H is says reply = rw (is, reply) says
undo_lists old t (Err r) y e new H is says reply = rw (is, reply) (λ h. tt)

-- a call that leaves the log's device alone leaves what it left
pub log_left : {L : Type 0} (g : log_device.Ghosts L) (old new : L) (P : List ℕ → Type 0) → new ≡ old → ((d : L) (c : List ℕ) → g.left_since d (g.moment d) c → g.may_leave d c)
    → (g.honest old → (c : List ℕ) → g.may_leave old c → P c) → g.honest new → LeavesOnly g old new P
log_left g old new P same only_now leaves h =
    let k = subst g.honest same h in
    subst (λ (d : _). LeavesOnly g old d P) (sym same) (record { later = omega arith; each = λ c left. leaves k c (only_now old c left); before = λ t c le left. inl left; keeps = λ t c le left. left })

-- the reply to a start of a receive is the entry that its answer is
pub begun_answered : {P L : Type 0} (p : page_device.Ghosts P) (l : log_device.Ghosts L) (old : OpenStore P L) (call : Call) (x : Result (Option Sub) Refusal) (y : Reply) (e : Event) (new : OpenStore P L) → call_of e ≡ call → AnswersLegally p l old call started_of x new → y ≡ begun_reply x
    → AreHonest p l new → (earlier : List Record) → IsEarlier earlier old.state → IsSound (on earlier old.state) → IsModelStep (on earlier old.state) (call_of e) (gave y) (on earlier new.state)
begun_answered p l old call (Ok (Some sub)) y e new is says reply h earlier long k = rw (is, reply) (says h earlier long k)
begun_answered p l old call (Ok None) y e new is says reply h earlier long k = rw (is, reply) (says h earlier long k)
begun_answered p l old call (Err r) y e new is says reply h earlier long k = rw (is, reply) (says h earlier long k).0

-- and it is refused for the same cause
pub begun_caused : {P L : Type 0} (p : page_device.Ghosts P) (l : log_device.Ghosts L) (old : OpenStore P L) (call : Call) (x : Result (Option Sub) Refusal) (y : Reply) (e : Event) (new : OpenStore P L) → call_of e ≡ call → AnswersLegally p l old call started_of x new → y ≡ begun_reply x
    → AreHonest p l new → (earlier : List Record) → IsEarlier earlier old.state → IsSound (on earlier old.state) → RefusedForCause (on earlier old.state) e y
begun_caused p l old call (Ok (Some sub)) y e new is says reply h earlier long k = rw reply tt
begun_caused p l old call (Ok None) y e new is says reply h earlier long k = rw reply tt
begun_caused p l old call (Err r) y e new is says reply h earlier long k = rw (reply, is) (says h earlier long k).1

-- so is that to the start of an inverse
pub undo_answered : {P L : Type 0} (p : page_device.Ghosts P) (l : log_device.Ghosts L) (old : OpenStore P L) (call : Call) (x : Result (Option Sub) Refusal) (y : Reply) (e : Event) (new : OpenStore P L) → call_of e ≡ call → AnswersLegally p l old call undoing_of x new → y ≡ undo_reply x
    → AreHonest p l new → (earlier : List Record) → IsEarlier earlier old.state → IsSound (on earlier old.state) → IsModelStep (on earlier old.state) (call_of e) (gave y) (on earlier new.state)
undo_answered p l old call (Ok (Some sub)) y e new is says reply h earlier long k = rw (is, reply) (says h earlier long k)
undo_answered p l old call (Ok None) y e new is says reply h earlier long k = rw (is, reply) (says h earlier long k)
undo_answered p l old call (Err r) y e new is says reply h earlier long k = rw (is, reply) (says h earlier long k).0

-- ---- what replies tell of latches

pub begun_latched : (s : State) (call : Call) (x : Result (Option Sub) Refusal) (y : Reply) → TakesUnlatched s call x → y ≡ begun_reply x → LatchedReply s call y
begun_latched s call (Ok (Some sub)) y h is = rw is h
begun_latched s call (Ok None) y h is = rw is tt
begun_latched s call (Err r) y h is = rw is h

pub undo_latched : (s : State) (call : Call) (x : Result (Option Sub) Refusal) (y : Reply) → TakesUnlatched s call x → y ≡ undo_reply x → LatchedReply s call y
undo_latched s call (Ok (Some sub)) y h is = rw is h
undo_latched s call (Ok None) y h is = rw is tt
undo_latched s call (Err r) y h is = rw is h
