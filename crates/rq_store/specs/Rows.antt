-- What a row's finished operations come to, what a deed needs, and which operation is under way.
use Rattle.std.specs.Prelude.{◌≡◌, ℕ, ◌≤◌, Bool, true, false, cond, nat_eq, List, map, reverse, Option, Some, None}
use Rattle.rq_model.specs.declared.txn.Txn.{Txn}
use Rattle.rq_model.specs.Vocabulary.{client_group}
use Rattle.rq_model.specs.declared.record.Deed.{Deed}
use Rattle.rq_model.specs.declared.record.Deed.TheVariants.{Append, UnlinkHead, Close, Mark}
use Rattle.rq_views.specs.Legal.{Placed}
use Rattle.rq_txn.specs.declared.Finished.{Finished}
use Rattle.rq_txn.specs.Rows.{Under}
use Rattle.rq_groups.specs.Ends.{HeldEnds, has_held}
use Rattle.rq_groups.specs.Waiting.{waits}

-- what is finished, the newest first
abbrev pub placed_one : Finished → Placed
placed_one f = record { lsn = f.lsn; deed = f.deed }

abbrev pub placed : List Finished → List Placed
placed fs = reverse (map placed_one fs)

-- t holds the end that the deed needs
abbrev pub HoldsFor : HeldEnds → Txn → Deed → Type 0
HoldsFor ends t (Append sender sequence tag previous body) = has_held t sender ends.sending ≡ true
HoldsFor ends t (UnlinkHead sender sequence tag body) = has_held t sender ends.receiving ≡ true
HoldsFor ends t (Close sender) = has_held t sender ends.sending ≡ true
HoldsFor ends t (Mark client tag previous) = has_held t (client_group client) ends.sending ≡ true

-- where a message is taken, one waits
abbrev pub HasWaiting : List ℕ → Deed → Type 0
HasWaiting ws (Append sender sequence tag previous body) = Unit {0}
HasWaiting ws (UnlinkHead sender sequence tag body) = 1 ≤ waits ws sender
HasWaiting ws (Close sender) = Unit {0}
HasWaiting ws (Mark client tag previous) = Unit {0}

-- the operation of this number is under way
abbrev pub is_under : ℕ → Option Under → Bool
is_under n None = false
is_under n (Some u) = nat_eq u.number n

-- an operation under way has no record and no number in the log until something of it is made
abbrev pub unmade : Option Under → ℕ
unmade None = 0
unmade (Some u) = cond (nat_eq u.made 0) 1 0
