use Rattle.rq_content.proofs.Shown.{content_is, none_met}
use Rattle.rq_content.proofs.content.Goals as goal

pub returns-clause-shown : goal.returns-clause-shown
returns-clause-shown g c h s k e1 e2 e3 idle = content_is s k c.args.pages.now.sizes c.args.pages.now.images c.args.transactions.now e1 e2 e3 idle c.read_groups.result (c.read_groups.ensures.groups h)

pub returns-clause-sound : goal.returns-clause-sound
returns-clause-sound g c h s k e1 e2 e3 idle = none_met g.P.PageDevice s k c.args.pages.now _ c.args.transactions.now e1 e2 e3 idle h c.read_groups.result c.read_groups.ensures.refused
