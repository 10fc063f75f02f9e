use Rattle.rq_level.specs.Meaning.{meaning_of}
use Rattle.rq_level.proofs.Anew.{keeps_anew}
use Rattle.rq_level.proofs.EachLevel.{all_lawful}
use Rattle.rq_level.proofs.level.what_is_kept_is_read_anew.Goals as goal

pub returns : goal.returns
returns c = λ n opened all apart. keeps_anew n (meaning_of n) (all_lawful n) opened all apart
