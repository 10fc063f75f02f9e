-- Which entry a call and its reply may stand for, and what a list of them leads to. A reply names the transaction, the
-- commit and the receipt that it speaks of.
use Rattle.std.specs.Prelude.{◌≡◌, ℕ, Bool, true, false, List, [], ◌∷◌, Option, Some, None}
use Rattle.rq_model.specs.declared.txn.Txn.{Txn}
use Rattle.rq_model.specs.declared.refusal.Refusal.{Refusal}
use Rattle.rq_model.specs.declared.message.Message.{Message}
use Rattle.rq_model.specs.Vocabulary.Op.{Send, Take, End, Mark}
use Rattle.rq_model.specs.History.{Group, Entry, Call}
use Rattle.rq_model.specs.History.Call.{Begin, Start_send, Start_receive, Start_receive_from, Start_close, Start_mark, Step, Finish, Commit, Acknowledge, Start_abort, Undo_next, End_abort, Hand_over, Force, Checkpoint, Migrate, Write_page, Last_tag, Client_tag, Show}
use Rattle.rq_model.specs.History.Job.{Sending, Taking, Ending, Marking, Undoing}
use Rattle.rq_model.specs.History.Entry.{Begun, Started, None_free, None_from, Stepped, Ready, Did, Undid, Committed, Acknowledged, Aborting, None_left, Aborted, Handed_over, Forced, Checkpointed, Migrated, Wrote, Told, Told_client, Shown, Refused}
use Rattle.rq_model.specs.Ledger.{Ledger, after}
use Rattle.rq_model.specs.Legal.{Legal}
use Rattle.rq_model.specs.Tests.{Size}

-- a transaction, and the place of its Commit record
pub record Number : Type 0 where
  pub txn : Txn
  pub lsn : ℕ

pub data Reply : Type 0 where
  Gave_txn : (t : Txn) → Reply
  Gave_sub : (t : Txn) (number : ℕ) → Reply
  Gave_none : Reply
  Gave_nothing_left : Reply
  Gave_lsn : (lsn : ℕ) → Reply
  Gave_ready : Reply
  Gave_sent : Reply
  Gave_message : (message : Message) → Reply
  Gave_closed : Reply
  Gave_marked : Reply
  Gave_undone : Reply
  Gave_handed_over : Reply
  Gave_forced : (lsn : ℕ) → Reply
  Gave_checkpoint : (lsn : ℕ) → Reply
  Gave_migrated : (lsn : ℕ) → Reply
  Gave_aborting : Reply
  Gave_aborted : Reply
  Gave_commit : (number : Number) → Reply
  Gave_receipt : (given : Option Number) → Reply
  Gave_written : (done : Bool) → Reply
  Gave_tag : (sent tag : ℕ) → Reply
  Gave_client_tag : (count tag : ℕ) → Reply
  Gave_content : (groups : List Group) → Reply
  Gave_refusal : (refusal : Refusal) → Reply

-- No reply shows the group that was picked, Sent does not show the message, and Marked neither client nor tag.
abbrev pub Says : Call → Reply → Entry → Type 0
Says c (Gave_refusal r) e = e ≡ Refused c r
Says Begin (Gave_txn t) e = e ≡ Begun t
Says (Start_send t m) (Gave_sub u n) e = (u ≡ t) × (e ≡ Started t n (Sending m))
Says (Start_receive t) (Gave_sub u n) e = (u ≡ t) × (s : ℕ) × (e ≡ Started t n (Taking s))
Says (Start_receive t) Gave_none e = e ≡ None_free t
Says (Start_receive_from t s) (Gave_sub u n) e = (u ≡ t) × (e ≡ Started t n (Taking s))
Says (Start_receive_from t s) Gave_none e = e ≡ None_from t s
Says (Start_close t s) (Gave_sub u n) e = (u ≡ t) × (e ≡ Started t n (Ending s))
Says (Start_mark t c tag) (Gave_sub u n) e = (u ≡ t) × (e ≡ Started t n (Marking c tag))
Says (Step t n) (Gave_lsn lsn) e = e ≡ Stepped t n lsn
Says (Step t n) Gave_ready e = e ≡ Ready t n
Says (Finish t n) Gave_sent e = (m : Message) × (e ≡ Did t n (Send m))
Says (Finish t n) (Gave_message m) e = e ≡ Did t n (Take m)
Says (Finish t n) Gave_closed e = (s : ℕ) × (e ≡ Did t n (End s))
Says (Finish t n) Gave_marked e = (c : ℕ) × (tag : ℕ) × (e ≡ Did t n (Mark c tag))
Says (Finish t n) Gave_undone e = e ≡ Undid t n
Says (Commit t) (Gave_commit c) e = (c.txn ≡ t) × (e ≡ Committed t c.lsn)
Says (Start_abort t) Gave_aborting e = e ≡ Aborting t
Says (Undo_next t) (Gave_sub u n) e = (u ≡ t) × (e ≡ Started t n Undoing)
Says (Undo_next t) Gave_nothing_left e = e ≡ None_left t
Says (End_abort t) Gave_aborted e = e ≡ Aborted t
Says (Acknowledge t lsn) (Gave_receipt None) e = e ≡ Acknowledged t lsn false
Says (Acknowledge t lsn) (Gave_receipt (Some c)) e = (c ≡ record { txn = t; lsn = lsn }) × (e ≡ Acknowledged t lsn true)
Says Hand_over Gave_handed_over e = e ≡ Handed_over
Says Force (Gave_forced lsn) e = e ≡ Forced lsn
Says Checkpoint (Gave_checkpoint lsn) e = e ≡ Checkpointed lsn
Says (Migrate pages) (Gave_migrated lsn) e = e ≡ Migrated pages lsn
Says (Write_page page) (Gave_written done) e = e ≡ Wrote page done
Says (Last_tag s) (Gave_tag sent tag) e = e ≡ Told s sent tag
Says (Client_tag c) (Gave_client_tag count tag) e = e ≡ Told_client c count tag
Says Show (Gave_content groups) e = e ≡ Shown groups
Says _ _ e = ⊥

-- the receipt, where one is given
abbrev pub receipt : Bool → Txn → ℕ → Option Number
receipt false t lsn = None
receipt true t lsn = Some (record { txn = t; lsn = lsn })

-- from base, these calls with these replies, newest first, may lead to l
abbrev pub Replays : Size → Ledger → List (Call × Reply) → Ledger → Type 0
Replays z base [] l = l ≡ base
Replays z base (a ∷ audit) l = (mid : Ledger) × (e : Entry) × Replays z base audit mid × Says a.0 a.1 e × Legal z mid e
    × (l ≡ after e mid)

-- each call with its reply stands for the entry at its place
abbrev pub AllSay : List (Call × Reply) → List Entry → Type 0
AllSay [] [] = Unit {0}
AllSay (a ∷ audit) (e ∷ h) = Says a.0 a.1 e × AllSay audit h
AllSay _ _ = ⊥
