use Rattle.std.proofs.Common.{◌∙◌}
use Rattle.rq_chain.proofs.Links.{prev_placed}
use Rattle.rq_chain.proofs.writes.preceded.Goals as goal

pub returns : goal.returns
returns c = λ x e. c.relinked.ensures ∙ prev_placed x c.args.prev c.args.bytes.now e
