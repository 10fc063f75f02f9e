-- What starts of receives and of inverses give.
use Rattle.std.specs.Prelude.{◌≡◌, ◌⊎◌, ℕ, Option, Some, None}
use Rattle.rq_model.specs.declared.txn.Sub.{Sub}
use Rattle.rq_model.specs.declared.txn.Txn.{Txn}
use Rattle.rq_model.specs.History.{Call}
use Rattle.rq_model.specs.History.Call.{Start_receive, Start_receive_from}
use Rattle.rq_model.specs.Replay.{Reply as Gave}
use Rattle.rq_model.specs.Replay.Reply.{Gave_sub, Gave_none, Gave_nothing_left}

-- the operation that was started, or that there is nothing to take
abbrev pub started_of : Option Sub → Gave
started_of None = Gave_none
started_of (Some sub) = Gave_sub sub.txn sub.number

-- the inverse that was started, or that nothing is left to undo
abbrev pub undoing_of : Option Sub → Gave
undoing_of None = Gave_nothing_left
undoing_of (Some sub) = Gave_sub sub.txn sub.number

-- the call may take a message of s for t
abbrev pub IsTakeCall : Txn → ℕ → Call → Type 0
IsTakeCall t s call = (call ≡ Start_receive t) ⊎ (call ≡ Start_receive_from t s)
