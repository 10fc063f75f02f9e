-- What the level of tags is asked to do, as plain data.
use Rattle.std.specs.Prelude.{Option, Some, None}
use Rattle.rq_level.specs.Ops.{Tagging as Tagging_asked}
use Rattle.rq_tags.specs.declared.doing.Tagging.{Tagging}

abbrev pub told_tagging : Option Tagging → Option Tagging_asked
told_tagging None = None
told_tagging (Some t) = Some (record { client = t.client; tag = t.tag })
