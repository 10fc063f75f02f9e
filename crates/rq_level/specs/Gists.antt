-- What is counted of deeds.
use Rattle.std.specs.Prelude.{Option, None, Some}
use Rattle.rq_model.specs.declared.record.Deed.{Deed}
use Rattle.rq_model.specs.declared.record.Deed.TheVariants as deeds
use Rattle.rq_level.specs.declared.writes.Gist.{Gist}
use Rattle.rq_level.specs.declared.writes.Gist.TheVariants.{Append, UnlinkHead, Close, Mark}
use Rattle.rq_level.specs.declared.writes.Replies.{Replies}
use Rattle.rq_level.specs.declared.writes.Replies.TheVariants as replies

abbrev pub gist_of : Deed → Gist
gist_of (deeds.Append sender sequence tag previous body) = Append sender tag
gist_of (deeds.UnlinkHead sender sequence tag body) = UnlinkHead sender
gist_of (deeds.Close sender) = Close sender
gist_of (deeds.Mark client tag previous) = Mark client tag

-- what is counted, by what the end of an operation replies
abbrev pub counted : Replies → Option Gist
counted (replies.Deed gist) = Some gist
counted _ = None
