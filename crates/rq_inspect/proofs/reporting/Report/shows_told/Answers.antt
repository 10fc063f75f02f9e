use Rattle.rq_inspect.proofs.Told.{told_whole}
use Rattle.rq_inspect.proofs.reporting.Report.shows_told.Goals as goal

pub returns : goal.returns
returns c = rw (← c.self.view_is) (λ log h. told_whole log _ c.len-unfinished.ensures.ordered c.len-lost.ensures.ordered h)
