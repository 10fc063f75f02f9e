use Rattle.std.proofs.Common.{◌∙◌}
use Rattle.rq_chain.proofs.Links.{next_placed}
use Rattle.rq_chain.proofs.writes.followed.Goals as goal

pub returns : goal.returns
returns c = λ x e. c.relinked.ensures ∙ next_placed x c.args.next c.args.bytes.now e
