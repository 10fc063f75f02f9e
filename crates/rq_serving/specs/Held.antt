-- The call of a session that is held, to be made again.
use Rattle.std.specs.Prelude.{◌≡◌, ⊤, Option, Some, None}
use Rattle.std.specs.Coded.{Coded, Coded-set, Unit-prop}
use Rattle.rq_engine.specs.declared.event.Event.{Event}
use Rattle.rq_session.specs.declared.stage.Stage.{Stage}
use Rattle.rq_session.specs.Laws.{asked_last}

-- what is held is the call that the session asked for last, where that is one of an operation or an abort under way
abbrev pub IsHeldAt : Stage → Option Event → Type 0
IsHeldAt s None = ⊤
IsHeldAt s (Some event) = asked_last s ≡ Some event

pub IsHeldAt-prop : Coded (Option Event) → (s : Stage) (held : Option Event) → IsProp (IsHeldAt s held)
IsHeldAt-prop code s None = Unit-prop
IsHeldAt-prop code s (Some event) = Coded-set code (asked_last s) (Some event)
