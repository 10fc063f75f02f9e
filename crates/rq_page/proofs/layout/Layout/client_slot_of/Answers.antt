use Rattle.std.proofs.Common.{rules}
use Rattle.rq_page.proofs.layout.Layout.client_slot_of.Goals as goal

pub returns : goal.returns
returns c = search rules
