use Rattle.rq_model.proofs.Commits.{commit_adds}
use Rattle.rq_model.proofs.laws.commit_adds_its_own.Goals as goal

pub returns : goal.returns
returns c = commit_adds
