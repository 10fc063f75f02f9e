use Rattle.std.proofs.Common.{rules}
use Rattle.rq_page.proofs.layout.Layout.version.Goals as goal

pub returns-else-tags-eq0 : goal.returns-else-tags-eq0
returns-else-tags-eq0 c = search rules
