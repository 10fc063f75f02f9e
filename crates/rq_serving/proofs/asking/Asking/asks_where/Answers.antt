use Rattle.rq_serving.proofs.Gates.{asked_once}
use Rattle.rq_serving.proofs.asking.Asking.asks_where.Goals as goal

pub returns : goal.returns
returns g c =
    asked_once g.G.Gate.answers c.args.self.now c.asks.new.self c.args.is_due c.args.point c.asks.result c.if-not-is_due.false
    c.asks.ensures.answers c.asks.ensures.stopped
