use Rattle.std.proofs.Common.{ap, refl, true, map}
use Rattle.rq_model.specs.History.Entry.{Aborting}
use Rattle.rq_model.specs.Ledger.{Open}
use Rattle.rq_reference.specs.Plain.{open_of, Stand, next}
use Rattle.rq_reference.proofs.Plainly.{change_stands, numbered_change}
use Rattle.rq_reference.proofs.Reference.start_abort.Goals as goal

abbrev abort_one : Open → Open
abort_one o = record o { aborting = true }

pub invariant_of-self : goal.invariant_of-self
invariant_of-self c =
    let i = c.self.inside in
    let m = c.index_mut-row.result.now in
    let e = change_stands i.incarnation i.begins i.open_txns.items c.args.self.now.ledger c.args.txn abort_one c.in_ok-place.place m (record m { aborting = true }) c.self.invariant.numbered (ap (λ (s : Stand). s.ledger.open_ones) c.self.view_is) c.in_ok-place.ensures.ok.stands c.index_mut-row.ensures.value refl in
    rw e (record { numbered = numbered_change i.incarnation i.begins c.args.txn abort_one (map open_of i.open_txns.items) (λ o. refl) c.self.invariant.numbered; rising = c.self.invariant.rising; forced = c.self.invariant.forced; durable = c.self.invariant.durable })

pub returns-clause-step : goal.returns-clause-step
returns-clause-step c =
    let i = c.self.inside in
    let m = c.index_mut-row.result.now in
    let e = change_stands i.incarnation i.begins i.open_txns.items c.args.self.now.ledger c.args.txn abort_one c.in_ok-place.place m (record m { aborting = true }) c.self.invariant.numbered (ap (λ (s : Stand). s.ledger.open_ones) c.self.view_is) c.in_ok-place.ensures.ok.stands c.index_mut-row.ensures.value refl in
    rw e (ap (next (Aborting c.args.txn)) c.self.view_is)
