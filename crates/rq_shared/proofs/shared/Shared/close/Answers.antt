use Rattle.rq_engine.specs.Says.{commit_number}
use Rattle.rq_shared.proofs.Receiving.{receipts_are_durable}
use Rattle.rq_shared.proofs.shared.Shared.close.Goals as goal

pub returns-clause-receipts : goal.returns-clause-receipts
returns-clause-receipts g c = λ honest e at sound r i is.
    let kept = c.close-kept.result in
    let shown = c.shows_kept.ensures in
    receipts_are_durable g.P.PageDevice g.L.LogDevice kept.base kept.engine kept.audit shown.replays honest e at sound shown.spelled shown.based (λ untried. shown.leaves untried honest.1) (shown.at_rest honest.1) (commit_number r.number) is
