use Rattle.std.proofs.Common.{◌∙◌}
use Rattle.rq_chain.proofs.Links.{next_told}
use Rattle.rq_chain.proofs.wants.next_in.Goals as goal

pub returns : goal.returns
returns c = c.from_number.ensures ∙ c.u64_at.ensures ∙ next_told c.args.bytes.now
