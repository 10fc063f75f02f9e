use Rattle.std.proofs.Common.{◌∙◌}
use Rattle.rq_chain.proofs.Links.{tag_told}
use Rattle.rq_chain.proofs.wants.tag_in.Goals as goal

pub returns : goal.returns
returns c = c.u64_at.ensures ∙ tag_told c.args.bytes.now
