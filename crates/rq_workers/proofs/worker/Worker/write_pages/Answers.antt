use Rattle.std.proofs.Common.{sym, subst}
use Rattle.rq_workers.specs.Acts.{Did}
use Rattle.rq_workers.proofs.Rounds.{Writes, write_more, writes_end, may_write}
use Rattle.rq_workers.proofs.worker.Worker.write_pages.Goals as goal

pub returns-then-not-asks : goal.returns-then-not-asks
returns-then-not-asks g c =
    writes_end c.args.pages c.loop.page _ _ _ c.asks.result c.loop.invariant c.asks.ensures c.if-not-asks.true

pub loop-preserved : goal.loop-preserved
loop-preserved g c =
    subst (λ page. Did (Writes c.args.pages page) c.args.self.now c.calls.new.self) (sym c.behind-page.ensures)
    (write_more c.args.pages c.loop.page _ _ _ _ c.asks.result c.calls.result c.loop.invariant c.asks.ensures c.if-not-asks.false c.calls.ensures)

pub calls-requires : goal.calls-requires
calls-requires g c = may_write c.loop.page _ _ c.asks.result c.asks.ensures c.if-not-asks.false
