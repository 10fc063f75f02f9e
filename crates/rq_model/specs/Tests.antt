-- What each call is tested for, in order.
use Rattle.std.specs.Prelude.{◌≡◌, ℕ, zero, suc, ◌+◌, ◌-◌, ◌*◌, ◌^◌, Bool, true, false, cond, List, [], ◌∷◌, ◌++◌, Option, Some, None, nat_eq, nat_lt, ◌&&◌, ◌||◌, length, not, IsTrue}
use Rattle.std.specs.List.{filter, sum_by}
use Rattle.rq_model.specs.declared.txn.Txn.{Txn}
use Rattle.rq_model.specs.declared.refusal.Refusal.{Refusal}
use Rattle.rq_model.specs.declared.refusal.Refusal.TheVariants.{Failed, UnknownTransaction, NotOpen, Unfinished, UnknownSender, TooLong, SenderBusy, Closed, ReceiverBusy, TooManyTransactions, LogFull, UnknownOperation, NotQuiet, UnknownClient, ClientBusy, BadTags, Full, DiskRead, Latched, PoolFull, DiskWrite, Damaged, NotForced}
use Rattle.rq_model.specs.Vocabulary.{Op, client_group, same_txn, has_number, first, last, is_some}
use Rattle.rq_model.specs.Vocabulary.Op.{Send, Take, End, Mark}
use Rattle.rq_model.specs.History.{Job, Entry, Call}
use Rattle.rq_model.specs.History.Call.{Begin, Start_send, Start_receive, Start_receive_from, Start_close, Start_mark, Step, Finish, Commit, Acknowledge, Start_abort, Undo_next, End_abort, Hand_over, Force, Checkpoint, Migrate, Write_page, Last_tag, Client_tag, Show}
use Rattle.rq_model.specs.History.Job.{Sending}
use Rattle.rq_model.specs.History.Entry.{Grew}
use Rattle.rq_model.specs.Ledger.{Open, Done, Ledger, runs, rest_in, ended_in, any_ends, found, own_takes}

-- how many senders, cells and clients a store has
pub record Size : Type 0 where
  pub senders : ℕ
  pub cells : ℕ
  pub clients : ℕ

-- what a history makes of a size, by what so many tag pages make of it
abbrev pub grown_by : {X : Type 0} → (ℕ → X → X) → Entry → X → X
grown_by f (Grew pages records) x = f pages x
grown_by f _ x = x

abbrev pub grown_at : {X : Type 0} → (ℕ → X → X) → X → List Entry → X
grown_at f x [] = x
grown_at f x (e ∷ h) = grown_by f e (grown_at f x h)

-- 15 clients for each tag page
abbrev pub with_clients : ℕ → Size → Size
with_clients pages z = record z { clients = 15 * pages }

-- the size of a store behind a history, which had this size when it was formatted
abbrev pub size_at : Size → List Entry → Size
size_at z h = grown_at with_clients z h

-- below n: 0, 1, .. in order
abbrev pub below : ℕ → List ℕ
below zero = []
below (suc n) = below n ++ n ∷ []

-- how many messages are committed and not taken, over these senders
abbrev pub count_rest : List ℕ → List Done → ℕ
count_rest [] c = 0
count_rest (s ∷ ss) c = length (rest_in c s) + count_rest ss c

abbrev pub is_sent : Op → Bool
is_sent (Send m) = true
is_sent _ = false

abbrev pub is_sending : Option Job → Bool
is_sending (Some (Sending m)) = true
is_sending _ = false

-- the cells of a transaction's sends: those finished and not undone, and one under way
abbrev pub pending : Open → ℕ
pending o = length (filter is_sent o.ops) + cond (is_sending o.under) 1 0

-- held, taken and appending: a message taken keeps its cell until its taker commits
abbrev pub cells_in_use : Size → Ledger → ℕ
cells_in_use z l = count_rest (below z.senders) l.committed + sum_by pending l.open_ones

-- no transaction but t holds the end
abbrev pub free_of : (Open → List ℕ) → Txn → ℕ → List Open → Bool
free_of held t s [] = true
free_of held t s (o ∷ os) = (same_txn o.txn t || not (has_number s (held o))) && free_of held t s os

abbrev pub free_to_send : Txn → ℕ → List Open → Bool
free_to_send t s os = free_of (λ o. o.sending) t s os

abbrev pub free_to_receive : Txn → ℕ → List Open → Bool
free_to_receive t s os = free_of (λ o. o.receiving) t s os

abbrev pub holds_for : Ledger → Open → ℕ → Bool
holds_for l o s = nat_lt (length (own_takes s o)) (length (rest_in l.committed s))

abbrev pub is_aborting : Option Open → Bool
is_aborting None = false
is_aborting (Some o) = o.aborting

abbrev pub is_busy : Option Open → Bool
is_busy None = false
is_busy (Some o) = is_some o.under

abbrev pub has_done : Option Open → Bool
has_done None = false
has_done (Some o) = is_some (first o.ops)

abbrev pub has_closed : ℕ → Option Open → Bool
has_closed s None = false
has_closed s (Some o) = any_ends s o.ops

-- what t did last and has not undone
abbrev pub newest : Option Open → Option Op
newest None = None
newest (Some o) = last o.ops

-- the records that the operation under way has yet to log
abbrev pub owed : Open → ℕ
owed o = cond (is_some o.under) (o.left + 1) 0

-- n more records, with those that operations under way have yet to log, would pass the greatest log
abbrev pub log_full : Ledger → ℕ → Bool
log_full l n = nat_lt (2 ^ 50) (l.records + sum_by owed l.open_ones + n)

-- what the inverse of an operation is counted as where it starts
abbrev pub undo_cost : Option Op → ℕ
undo_cost None = 0
undo_cost (Some (Send m)) = 4
undo_cost (Some (Take m)) = 4
undo_cost (Some (End s)) = 2
undo_cost (Some (Mark client tag)) = 2

-- s is free for t, and holds a message for it
abbrev pub gives : Ledger → Txn → Option Open → ℕ → Bool
gives l t None s = false
gives l t (Some o) s = free_to_receive t s l.open_ones && holds_for l o s

abbrev pub any_gives : List ℕ → Ledger → Txn → Option Open → Bool
any_gives [] l t o = false
any_gives (s ∷ ss) l t o = gives l t o s || any_gives ss l t o

abbrev pub steps_left : Option Open → Bool
steps_left None = false
steps_left (Some o) = nat_lt 0 o.left

abbrev pub has_under : ℕ → Option Open → Bool
has_under n None = false
has_under n (Some o) = is_some o.under && nat_eq o.number n

abbrev pub any_busy : List Open → Bool
any_busy [] = false
any_busy (o ∷ os) = is_some o.under || any_busy os

-- the first refusal whose test is true
abbrev pub first_of : List (Bool × Refusal) → Option Refusal
first_of [] = None
first_of (c ∷ cs) = cond c.0 (Some c.1) (first_of cs)

-- a transaction that aborts where the call needs one that does not, or the other way round
abbrev pub turned : Bool → Option Open → Bool
turned false o = is_aborting o
turned true o = not (is_aborting o)

-- the tests of a call on a transaction that needs no operation under way
abbrev pub ready_tests : Ledger → Txn → Bool → List (Bool × Refusal)
ready_tests l t aborting =
    let o = found t l.open_ones in
    (not (runs l.phase), Failed) ∷ (not (is_some o), UnknownTransaction) ∷ (turned aborting o, NotOpen)
    ∷ (is_busy o, Unfinished) ∷ []

-- a store cannot get so many tag pages: they are not 1 to 1,024, or it has some
abbrev pub bad_tags : Size → ℕ → Bool
bad_tags z pages = not (nat_lt 0 pages) || nat_lt 1024 pages || nat_lt 0 z.clients

-- the tests of each call, in order
abbrev pub tests : Size → Ledger → Call → List (Bool × Refusal)
tests z l Begin = (not (runs l.phase), Failed) ∷ (
  not (nat_lt (length l.open_ones) 4096) || nat_eq l.begins
      (2 ^ 64 - 1),
  TooManyTransactions,
) ∷ []
tests z l (Start_send t m) =
    let o = found t l.open_ones in
    ready_tests l t false
    ++ ((not (nat_lt m.sender z.senders), UnknownSender) ∷ (nat_lt 216 (length m.body), TooLong)
    ∷ (not (free_to_send t m.sender l.open_ones), SenderBusy)
    ∷ (ended_in l.committed m.sender || has_closed m.sender o, Closed)
    ∷ (nat_eq (cells_in_use z l) z.cells, Full) ∷ (log_full l 4, LogFull) ∷ [])
tests z l (Start_receive t) =
    let o = found t l.open_ones in
    ready_tests l t false
    ++ ((any_gives (below z.senders) l t o && log_full l 4, LogFull) ∷ [])
tests z l (Start_receive_from t s) =
    let o = found t l.open_ones in
    ready_tests l t false
    ++ ((not (nat_lt s z.senders), UnknownSender) ∷ (not (free_to_receive t s l.open_ones), ReceiverBusy)
    ∷ (gives l t o s && log_full l 4, LogFull) ∷ [])
tests z l (Start_close t s) =
    let o = found t l.open_ones in
    ready_tests l t false
    ++ ((not (nat_lt s z.senders), UnknownSender) ∷ (not (free_to_send t s l.open_ones), SenderBusy)
    ∷ (ended_in l.committed s || has_closed s o, Closed) ∷ (log_full l 2, LogFull) ∷ [])
tests z l (Start_mark t c tag) =
    ready_tests l t false
    ++ ((not (nat_lt c z.clients), UnknownClient) ∷ (not (free_to_send t (client_group c) l.open_ones), ClientBusy)
    ∷ (log_full l 2, LogFull) ∷ [])
tests z l (Step t n) = (not (runs l.phase), Failed) ∷ (not (has_under n (found t l.open_ones)), UnknownOperation) ∷ []
tests z l (Finish t n) =
    (not (runs l.phase), Failed) ∷ (not (has_under n (found t l.open_ones)), UnknownOperation)
    ∷ (steps_left (found t l.open_ones), Unfinished) ∷ []
tests z l (Commit t) = ready_tests l t false ++ ((log_full l 1, LogFull) ∷ [])
tests z l (Start_abort t) = ready_tests l t false
tests z l (Undo_next t) =
    let o = found t l.open_ones in
    ready_tests l t true
    ++ ((is_some (newest o) && log_full l (undo_cost (newest o)), LogFull) ∷ [])
tests z l (End_abort t) =
    let o = found t l.open_ones in
    (not (runs l.phase), Failed) ∷ (not (is_some o), UnknownTransaction) ∷ (not (is_aborting o), NotOpen)
    ∷ (is_busy o || has_done o, Unfinished) ∷ (log_full l 1, LogFull) ∷ []
tests z l (Last_tag s) = (not (runs l.phase), Failed) ∷ (not (nat_lt s z.senders), UnknownSender) ∷ []
tests z l (Client_tag c) = (not (runs l.phase), Failed) ∷ (not (nat_lt c z.clients), UnknownClient) ∷ []
tests z l Show = (not (runs l.phase), Failed) ∷ (any_busy l.open_ones, Unfinished) ∷ []
tests z l (Acknowledge t lsn) = (not (runs l.phase), Failed) ∷ []
tests z l Hand_over = (not (runs l.phase), Failed) ∷ []
tests z l Force = (not (runs l.phase), Failed) ∷ []
tests z l Checkpoint = (not (runs l.phase), Failed) ∷ (is_some (first l.open_ones), NotQuiet) ∷ (log_full l 1, LogFull) ∷ []
tests z l (Migrate pages) =
    (not (runs l.phase), Failed) ∷ (bad_tags z pages, BadTags) ∷ (is_some (first l.open_ones), NotQuiet)
    ∷ (log_full l 1, LogFull) ∷ []
tests z l (Write_page p) = (not (runs l.phase), Failed) ∷ []

-- no test is true
abbrev pub NoneHolds : List (Bool × Refusal) → Type 0
NoneHolds [] = Unit {0}
NoneHolds (c ∷ cs) = (c.0 ≡ false) × NoneHolds cs

-- the call is answered and not refused
abbrev pub Passes : Size → Ledger → Call → Type 0
Passes z l c = NoneHolds (tests z l c)

-- the call passes its tests, and there is an operation for it to start
abbrev pub starts : Size → Ledger → Call → Bool
starts z l (Start_send t m) = true
starts z l (Start_receive t) = any_gives (below z.senders) l t (found t l.open_ones)
starts z l (Start_receive_from t s) = gives l t (found t l.open_ones) s
starts z l (Start_close t s) = true
starts z l (Start_mark t c tag) = true
starts z l (Undo_next t) = is_some (newest (found t l.open_ones))
starts z l _ = false

abbrev pub writes_page : Call → Bool
writes_page (Write_page p) = true
writes_page _ = false

-- pages and devices refuse nothing here: there are none
abbrev pub without_pages : Refusal → Bool
without_pages DiskRead = false
without_pages Latched = false
without_pages PoolFull = false
without_pages DiskWrite = false
without_pages (Damaged d) = false
without_pages NotForced = false
without_pages _ = true

-- why a transaction may do nothing now
pub record IsUnready (l : Ledger) (t : Txn) (aborting : Bool) (r : Refusal) : Type 0 where
  pub first : first_of (ready_tests l t aborting) ≡ Some r
  pub plain : IsTrue (without_pages r)
