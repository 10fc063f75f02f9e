-- What the level of chains is asked to do, as plain data.
use Rattle.std.specs.Prelude.{◌≤◌, Option, Some, None, length}
use Rattle.rq_level.specs.Ops.{Doing as Asked, Send as Send_asked, Receive as Receive_asked, Close as Close_asked}
use Rattle.rq_chain.specs.declared.doing.Doing.{Doing}
use Rattle.rq_chain.specs.declared.doing.Doing.TheVariants as doing

abbrev pub told_one : Doing → Asked
told_one (doing.Send s tag body) = Send_asked s tag body.now
told_one (doing.Receive s) = Receive_asked s
told_one (doing.Close s) = Close_asked s

abbrev pub told : Option Doing → Option Asked
told None = None
told (Some d) = Some (told_one d)

-- a body is no longer than one may be
abbrev pub IsShort : Doing → Type 0
IsShort (doing.Send s tag body) = length body.now ≤ 216
IsShort (doing.Receive s) = Unit {0}
IsShort (doing.Close s) = Unit {0}
