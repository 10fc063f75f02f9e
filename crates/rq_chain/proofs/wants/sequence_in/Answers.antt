use Rattle.std.proofs.Common.{◌∙◌}
use Rattle.rq_chain.proofs.Links.{sequence_told}
use Rattle.rq_chain.proofs.wants.sequence_in.Goals as goal

pub returns : goal.returns
returns c = c.u64_at.ensures ∙ sequence_told c.args.bytes.now
