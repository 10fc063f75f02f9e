-- A replay from the ledger of a legal history goes on with it; so do a crash and a restart.
use Rattle.std.proofs.Common.{◌≡◌, ℕ, List, [], ◌∷◌, ◌++◌, Some, None, false, refl, sym, ◌∙◌, ap, subst}
use Rattle.std.proofs.lemmas.Bool.{true≢false}
use Rattle.rq_model.specs.declared.refusal.Refusal.TheVariants.{Failed}
use Rattle.rq_model.specs.History.{Entry, Call}
use Rattle.rq_model.specs.History.Call.{Begin, Start_send, Start_receive, Start_receive_from, Start_close, Start_mark, Step, Finish, Commit, Acknowledge, Start_abort, Undo_next, End_abort, Hand_over, Force, Checkpoint, Migrate, Write_page, Last_tag, Client_tag, Show}
use Rattle.rq_model.specs.History.Entry.{Grew, Refused}
use Rattle.rq_model.specs.Ledger.{Ledger, runs, ledger, after}
use Rattle.rq_model.specs.Legal.{Legal, IsLegal}
use Rattle.rq_model.specs.Tests.{Size, grown_by, size_at, with_clients}
use Rattle.rq_model.proofs.Follows.{is_break, follows}
use Rattle.rq_model.specs.Replay.{Reply, Replays, AllSay, Says}
use Rattle.rq_model.specs.Replay.Reply.{Gave_txn, Gave_sub, Gave_none, Gave_nothing_left, Gave_lsn, Gave_ready, Gave_sent, Gave_message, Gave_closed, Gave_marked, Gave_undone, Gave_handed_over, Gave_checkpoint, Gave_migrated, Gave_forced, Gave_aborting, Gave_aborted, Gave_commit, Gave_receipt, Gave_written, Gave_tag, Gave_client_tag, Gave_content, Gave_refusal}

pub never_break : (c : Call) (g : Reply) (e : Entry) → Says c g e → is_break e ≡ false
never_break c (Gave_refusal r) e s = ap is_break s
never_break Begin (Gave_txn t) e s = ap is_break s
never_break (Start_send t m) (Gave_sub u n) e s = ap is_break s.1
never_break (Start_receive t) (Gave_sub u n) e s = ap is_break s.2
never_break (Start_receive t) Gave_none e s = ap is_break s
never_break (Start_receive_from t sender) (Gave_sub u n) e s = ap is_break s.1
never_break (Start_receive_from t sender) Gave_none e s = ap is_break s
never_break (Start_close t sender) (Gave_sub u n) e s = ap is_break s.1
never_break (Start_mark t client tag) (Gave_sub u n) e s = ap is_break s.1
never_break (Step t n) (Gave_lsn lsn) e s = ap is_break s
never_break (Step t n) Gave_ready e s = ap is_break s
never_break (Finish t n) Gave_sent e s = ap is_break s.1
never_break (Finish t n) (Gave_message m) e s = ap is_break s
never_break (Finish t n) Gave_closed e s = ap is_break s.1
never_break (Finish t n) Gave_marked e s = ap is_break s.2
never_break (Finish t n) Gave_undone e s = ap is_break s
never_break (Commit t) (Gave_commit c) e s = ap is_break s.1
never_break (Start_abort t) Gave_aborting e s = ap is_break s
never_break (Undo_next t) (Gave_sub u n) e s = ap is_break s.1
never_break (Undo_next t) Gave_nothing_left e s = ap is_break s
never_break (End_abort t) Gave_aborted e s = ap is_break s
never_break (Acknowledge t lsn) (Gave_receipt None) e s = ap is_break s
never_break (Acknowledge t lsn) (Gave_receipt (Some c)) e s = ap is_break s.1
never_break Hand_over Gave_handed_over e s = ap is_break s
never_break Force (Gave_forced lsn) e s = ap is_break s
never_break Checkpoint (Gave_checkpoint lsn) e s = ap is_break s
never_break (Migrate pages) (Gave_migrated lsn) e s = ap is_break s
never_break (Write_page page) (Gave_written done) e s = ap is_break s
never_break (Last_tag sender) (Gave_tag sent tag) e s = ap is_break s
never_break (Client_tag client) (Gave_client_tag count tag) e s = ap is_break s
never_break Show (Gave_content groups) e s = ap is_break s
never_break c g e s = absurd s

-- an entry that a call stands for leaves the size of the store
pub size_stays : {X : Type 0} (f : ℕ → X → X) (x : X) (e : Entry) → is_break e ≡ false → grown_by f e x ≡ x
size_stays f x (Grew pages records) b = absurd (true≢false b)
size_stays f x _ b = refl

pub size_once_called : (z : Size) (h : List Entry) (audit : List (Call × Reply)) (newer : List Entry) → AllSay audit newer → size_at z (newer ++ h) ≡ size_at z h
size_once_called z h [] [] s = refl
size_once_called z h (a ∷ audit) (e ∷ newer) s = size_stays with_clients (size_at z (newer ++ h)) e (never_break a.0 a.1 e s.0) ∙ size_once_called z h audit newer s.1
size_once_called z h _ _ s = absurd s

-- A replay from the ledger of a legal history is a longer legal history.
pub replays_on : (z : Size) (h : List Entry) (audit : List (Call × Reply)) (l : Ledger) → IsLegal z h → Replays (size_at z h) (ledger h) audit l → (newer : List Entry) × IsLegal z (newer ++ h) × (ledger (newer ++ h) ≡ l) × AllSay audit newer
replays_on z h [] l a r = ([], a, sym r, tt)
replays_on z h (x ∷ audit) l a r =
    let m = r.0 in
    let e = r.1 in
    let w = replays_on z h audit m a r.2 in
    let at : m ≡ ledger (w.0 ++ h) = sym w.2 in
    let there : Legal (size_at z h) (ledger (w.0 ++ h)) e = subst (λ k. Legal (size_at z h) k e) at r.4 in
    let legal : Legal (size_at z (w.0 ++ h)) (ledger (w.0 ++ h)) e = subst (λ y. Legal y (ledger (w.0 ++ h)) e) (sym (size_once_called z h audit w.0 w.3)) there in
    (e ∷ w.0, (follows z (w.0 ++ h) e (never_break x.0 x.1 e r.3) legal, w.1), ap (after e) w.2 ∙ sym r.5, (r.3, w.3))

-- every call of a store that does not run may be refused so
pub shut_refuses : (z : Size) (l : Ledger) (c : Call) → runs l.phase ≡ false → Legal z l (Refused c Failed)
shut_refuses z l Begin e = rw e refl
shut_refuses z l _ e = rw e refl
