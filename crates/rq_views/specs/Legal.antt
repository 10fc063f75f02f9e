-- Legal logs: what each record needs of the log before it; and what a log makes of each sender's view.
use Rattle.rq_model.specs.declared.record.Deed.{Deed}
use Rattle.rq_model.specs.declared.txn.Sub.{Sub}
use Rattle.rq_model.specs.declared.txn.Txn.{Txn}
use Rattle.rq_model.specs.Vocabulary.{same_txn}
use Rattle.std.specs.Prelude.{◌≡◌, ℕ, ◌+◌, ◌<◌, ◌==◌, ◌&&◌, ◌||◌, List, [], ◌∷◌, length, Bool, true, false, cond, if◌then◌else◌, Option, None, Some, not}
use Rattle.rq_views.specs.Chain.{View}
use Rattle.rq_page.specs.Slots.{Slot}
use Rattle.rq_views.specs.Log.{Write, Places, same_op, Item, state_of, MayWrite, IsNewest}
use Rattle.rq_page.specs.Slots.Slot.{Sender}
use Rattle.rq_page.specs.Directories.{new_directory}
use Rattle.rq_views.specs.Log.Item.{PageOp, PageUndo, OpEnd, OpVoid, CompEnd, Commit, AbortEnd, Restart}
use Rattle.rq_views.specs.Plans.{Turn, IsPlan, turn_sender, with_turn}
use Rattle.rq_views.specs.Plans.Turn.{Did, Undid}

-- a deed with the LSN of its OpEnd
pub record Placed : Type 0 where
  pub lsn : ℕ
  pub deed : Deed

abbrev pub rest_placed : List Placed → List Placed
rest_placed [] = []
rest_placed (p ∷ ps) = ps

abbrev pub open_after : Txn → ℕ → Item → List Placed → List Placed
open_after t n (OpEnd o d) ps = cond (same_txn o.txn t) (record { lsn = n; deed = d } ∷ ps) ps
open_after t n (CompEnd o u) ps = cond (same_txn o.txn t) (rest_placed ps) ps
open_after t n (Commit u) ps = cond (same_txn u t) [] ps
open_after t n _ ps = ps

-- the deeds of a transaction that has no Commit, not undone, newest first
abbrev pub open_deeds : Txn → List Item → List Placed
open_deeds t [] = []
open_deeds t (r ∷ log) = open_after t (length log + 1) r (open_deeds t log)

abbrev pub undoing : List Placed → Option Turn
undoing [] = None
undoing (p ∷ ps) = Some (Undid p.deed)

-- what the record ends, if it ends an operation
abbrev pub turn : List Item → Item → Option Turn
turn log (OpEnd o d) = Some (Did d)
turn log (CompEnd o u) = undoing (open_deeds o.txn log)
turn log _ = None

abbrev pub view_after : ℕ → Option Turn → View → View
view_after s None v = v
view_after s (Some t) v = if turn_sender t == s then with_turn t v else v

abbrev pub no_view : View
no_view = record { closed = false; received = 0; last_tag = 0; messages = [] }

-- the fold of a sender's OpEnds and CompEnds
abbrev pub view : List Item → ℕ → View
view [] s = no_view
view (r ∷ log) s = view_after s (turn log r) (view log s)

-- whose operation, if the record is of one
abbrev pub of_op : Item → Option Sub
of_op (PageOp o w) = Some o
of_op (PageUndo o u at after) = Some o
of_op (OpEnd o d) = Some o
of_op (OpVoid o) = Some o
of_op (CompEnd o u) = Some o
of_op _ = None

abbrev pub is_of : Sub → Option Sub → Bool
is_of o None = false
is_of o (Some u) = same_op u o

abbrev pub began : Sub → List Item → Bool
began o [] = false
began o (r ∷ log) = is_of o (of_op r) || began o log

abbrev pub is_end : Item → Bool
is_end (OpEnd o d) = true
is_end (OpVoid o) = true
is_end (CompEnd o u) = true
is_end _ = false

-- the operation has its end in the log
abbrev pub over : Sub → List Item → Bool
over o [] = false
over o (r ∷ log) = (is_end r && is_of o (of_op r)) || over o log

abbrev pub under_way : Sub → List Item → Bool
under_way o log = began o log && not (over o log)

abbrev pub is_undo : Item → Bool
is_undo (PageUndo o u at after) = true
is_undo _ = false

-- the operation has a PageUndo
abbrev pub turned_back : Sub → List Item → Bool
turned_back o [] = false
turned_back o (r ∷ log) = (is_undo r && is_of o (of_op r)) || turned_back o log

abbrev pub ends_txn : Txn → Item → Bool
ends_txn t (Commit u) = same_txn u t
ends_txn t (AbortEnd u) = same_txn u t
ends_txn t _ = false

abbrev pub has_end : Txn → List Item → Bool
has_end t [] = false
has_end t (r ∷ log) = ends_txn t r || has_end t log

abbrev pub does : Txn → Item → Bool
does t (OpEnd o d) = same_txn o.txn t
does t _ = false

-- the transaction has done something, taken back or not
abbrev pub has_deed : Txn → List Item → Bool
has_deed t [] = false
has_deed t (r ∷ log) = does t r || has_deed t log

-- the page of a page record
abbrev pub on_page : (ℕ → ℕ) → ℕ → Item → Bool
on_page page p (PageOp o w) = page w.at == p
on_page page p (PageUndo o u at after) = page at == p
on_page page p _ = false

-- since the operation's first record another has a record on the page
abbrev pub crossed : (ℕ → ℕ) → Sub → ℕ → List Item → Bool
crossed page o p [] = false
crossed page o p (r ∷ log) = (began o log && (on_page page p r && not (is_of o (of_op r)))) || crossed page o p log

-- the LSNs of an operation's PageOps not undone, newest first
abbrev pub rest_numbers : List ℕ → List ℕ
rest_numbers [] = []
rest_numbers (n ∷ ns) = ns

abbrev pub lsns_after : Sub → ℕ → Item → List ℕ → List ℕ
lsns_after o n (PageOp u w) ns = cond (same_op u o) (n ∷ ns) ns
lsns_after o n (PageUndo u k at after) ns = cond (same_op u o) (rest_numbers ns) ns
lsns_after o n _ ns = ns

abbrev pub lsns : Sub → List Item → List ℕ
lsns o [] = []
lsns o (r ∷ log) = lsns_after o (length log + 1) r (lsns o log)

abbrev pub IsFirst : ℕ → List ℕ → Type 0
IsFirst n [] = ⊥
IsFirst n (m ∷ ns) = m ≡ n

-- what is made, newest first, once what is owed, the next one first, is made too
abbrev pub onto : List Write → List Write → List Write
onto [] ws = ws
onto (w ∷ owed) ws = onto owed (w ∷ ws)

-- these writes, and some more, are those of an operation
pub record Begins (l : Places) (ws : List Write) : Type 0 where
  pub turn : Turn
  pub owed : List Write
  pub plan : IsPlan l turn (onto owed ws)

-- the writes undo the newest open deed, which stands at u
abbrev pub Undoes : Places → List Placed → ℕ → List Write → Type 0
Undoes l [] u ws = ⊥
Undoes l (p ∷ ps) u ws = (p.lsn ≡ u) × IsPlan l (Undid p.deed) ws

pub record MayPageOp (l : Places) (log : List Item) (o : Sub) (w : Write) : Type 0 where
  pub write : MayWrite l.page (state_of l log) o w
  pub uncrossed : crossed l.page o (l.page w.at) log ≡ false
  pub going : over o log ≡ false
  pub forward : turned_back o log ≡ false
  pub begins : Begins l (w ∷ (state_of l log).writes o)
  pub running : has_end o.txn log ≡ false

pub record MayPageUndo (l : Places) (log : List Item) (o : Sub) (u at : ℕ) (after : Slot) : Type 0 where
  pub newest : IsNewest ((state_of l log).writes o) at after
  pub lsn : IsFirst u (lsns o log)
  pub going : over o log ≡ false

pub record MayOpEnd (l : Places) (log : List Item) (o : Sub) (d : Deed) : Type 0 where
  pub plan : IsPlan l (Did d) ((state_of l log).writes o)
  pub going : over o log ≡ false
  pub forward : turned_back o log ≡ false
  pub running : has_end o.txn log ≡ false

pub record MayCompEnd (l : Places) (log : List Item) (o : Sub) (u : ℕ) : Type 0 where
  pub plan : Undoes l (open_deeds o.txn log) u ((state_of l log).writes o)
  pub going : over o log ≡ false
  pub forward : turned_back o log ≡ false
  pub running : has_end o.txn log ≡ false

pub record MayOpVoid (l : Places) (log : List Item) (o : Sub) : Type 0 where
  pub all_undone : (state_of l log).writes o ≡ []
  pub begun : began o log ≡ true
  pub going : over o log ≡ false

pub record MayCommit (log : List Item) (t : Txn) : Type 0 where
  pub idle : (o : Sub) → o.txn ≡ t → under_way o log ≡ false
  pub running : has_end t log ≡ false

pub record MayAbortEnd (log : List Item) (t : Txn) : Type 0 where
  pub idle : (o : Sub) → o.txn ≡ t → under_way o log ≡ false
  pub running : has_end t log ≡ false
  pub empty : open_deeds t log ≡ []

-- no operation is under way, and whoever did something has its Commit or AbortEnd
pub record MayRestart (log : List Item) (i : ℕ) : Type 0 where
  pub idle : (o : Sub) → under_way o log ≡ false
  pub ended : (t : Txn) → has_deed t log ≡ true → has_end t log ≡ true

abbrev pub MayFollow : Places → List Item → Item → Type 0
MayFollow l log (PageOp o w) = MayPageOp l log o w
MayFollow l log (PageUndo o u at after) = MayPageUndo l log o u at after
MayFollow l log (OpEnd o d) = MayOpEnd l log o d
MayFollow l log (OpVoid o) = MayOpVoid l log o
MayFollow l log (CompEnd o u) = MayCompEnd l log o u
MayFollow l log (Commit t) = MayCommit log t
MayFollow l log (AbortEnd t) = MayAbortEnd log t
MayFollow l log (Restart i) = MayRestart log i

abbrev pub IsLegalLog : Places → List Item → Type 0
IsLegalLog l [] = Unit {0}
IsLegalLog l (r ∷ log) = MayFollow l log r × IsLegalLog l log

-- the formatted store has an empty directory slot for each sender
abbrev pub IsLayout : Places → Type 0
IsLayout l = (s : ℕ) → s < l.senders → l.formatted (l.directory_at s) ≡ Sender s new_directory
