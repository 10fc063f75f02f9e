use Rattle.rq_workers.specs.Acts.{Did}
use Rattle.rq_workers.proofs.Rounds.{Writes}
use Rattle.rq_workers.proofs.worker.Worker.write_pages.Given as goal

-- so far there were rounds alone, and this page's turn comes
abbrev pub invariant-loop : goal.invariant-loop
invariant-loop g l = Did (Writes l.pages l.page) l.fn.self l.self
