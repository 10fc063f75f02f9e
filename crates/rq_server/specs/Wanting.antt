-- Whether frames were wanting for a call, and nothing was forced since.
use Rattle.std.specs.Prelude.{◌||◌, ◌&&◌, Bool, true, false, not, List, [], ◌∷◌}
use Rattle.rq_engine.specs.declared.event.Event.{Event}
use Rattle.rq_engine.specs.declared.event.Event.TheVariants.{Force}
use Rattle.rq_engine.specs.declared.event.Reply.{Reply}
use Rattle.rq_engine.specs.declared.event.Reply.TheVariants.{Refused}
use Rattle.rq_model.specs.declared.refusal.Refusal.TheVariants.{PoolFull}
use Rattle.rq_shared.specs.declared.kept.Stamped.{Stamped}

abbrev pub is_force : Event → Bool
is_force Force = true
is_force _ = false

abbrev pub was_full : Reply → Bool
was_full (Refused PoolFull) = true
was_full _ = false

-- one of these calls, the newest first, was refused for want of frames, and none behind it asked for a force
abbrev pub are_frames_wanting : List Stamped → Bool
are_frames_wanting [] = false
are_frames_wanting (s ∷ older) = not (is_force s.event) && (was_full s.reply || are_frames_wanting older)
