use Rattle.rq_txn.proofs.Placing.{seen_at, seen_none, distinct_seen}
use Rattle.rq_txn.proofs.Transactions.state.Goals as goal

pub returns-in-Some-clause-found : goal.returns-in-Some-clause-found
returns-in-Some-clause-found c =
    let i = c.self.inside in
    seen_at i.rows i.places.items c.deref.result.now i.tally c.args.self.now c.args.txn c.in-Some.key c.index.result.now c.self.invariant c.self.view_is c.deref.ensures.value c.in-Some.ensures c.index.ensures

pub returns-in-Some-clause-distinct : goal.returns-in-Some-clause-distinct
returns-in-Some-clause-distinct c =
    let i = c.self.inside in
    distinct_seen i.rows i.places.items i.tally c.args.self.now c.self.invariant c.self.view_is

pub returns-in-None-clause-found : goal.returns-in-None-clause-found
returns-in-None-clause-found c =
    let i = c.self.inside in
    seen_none i.rows i.places.items c.deref.result.now i.tally c.args.self.now c.args.txn c.self.invariant c.self.view_is c.deref.ensures.value c.in-None.ensures

pub returns-in-None-clause-distinct : goal.returns-in-None-clause-distinct
returns-in-None-clause-distinct c =
    let i = c.self.inside in
    distinct_seen i.rows i.places.items i.tally c.args.self.now c.self.invariant c.self.view_is
