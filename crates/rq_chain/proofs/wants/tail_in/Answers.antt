use Rattle.std.proofs.Common.{◌∙◌}
use Rattle.rq_chain.proofs.Links.{tail_told}
use Rattle.rq_chain.proofs.wants.tail_in.Goals as goal

pub returns : goal.returns
returns c = c.from_number.ensures ∙ c.u64_at.ensures ∙ tail_told c.args.bytes.now
