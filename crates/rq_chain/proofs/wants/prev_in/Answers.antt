use Rattle.std.proofs.Common.{◌∙◌}
use Rattle.rq_chain.proofs.Links.{prev_told}
use Rattle.rq_chain.proofs.wants.prev_in.Goals as goal

pub returns : goal.returns
returns c = c.from_number.ensures ∙ c.u64_at.ensures ∙ prev_told c.args.bytes.now
