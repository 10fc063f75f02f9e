use Rattle.rq_level.specs.Meaning.{meaning_of}
use Rattle.rq_tags.proofs.Clients.{notes_sizes_alone}
use Rattle.rq_tags.proofs.tags.TagLevelLevel.keeps.Goals as goal

pub returns : goal.returns
unfolding meaning_of
returns c e = notes_sizes_alone
