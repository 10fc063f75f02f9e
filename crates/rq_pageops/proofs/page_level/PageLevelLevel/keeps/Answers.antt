use Rattle.std.proofs.Common.{refl}
use Rattle.rq_level.specs.Meaning.{NotesNothing, meaning_of, page_meaning}
use Rattle.rq_pageops.proofs.page_level.PageLevelLevel.keeps.Goals as goal

keeps_nothing : NotesNothing page_meaning
keeps_nothing = record { same = λ k a bytes far. refl }

pub returns : goal.returns
unfolding meaning_of
returns c e = keeps_nothing
