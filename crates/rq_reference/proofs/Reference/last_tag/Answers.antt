use Rattle.std.proofs.Common.{rules, sym}
use Rattle.rq_reference.proofs.Receives.{sends_counted, sends_last}
use Rattle.rq_reference.proofs.Reference.last_tag.Goals as goal

pub returns-clause-ok : goal.returns-clause-ok
returns-clause-ok c =
    let committed = c.args.self.now.ledger.committed in
    rw (sym (sends_counted c.args.sender committed), sym (sends_last c.args.sender committed)) (search rules)

pub returns-clause-memory : goal.returns-clause-memory
returns-clause-memory c = rw (sym (sends_counted c.args.sender c.args.self.now.ledger.committed)) (search rules)
