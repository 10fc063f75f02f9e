use Rattle.std.proofs.Common.{◌-◌, ◌+◌, ◌<◌, ap, refl, map, arith}
use Rattle.rq_reference.specs.declared.rows.OpenTxn.{OpenTxn}
use Rattle.rq_model.specs.History.Entry.{Stepped}
use Rattle.rq_model.specs.Ledger.{stepped}
use Rattle.rq_reference.specs.Plain.{open_of, done_of, Stand, next}
use Rattle.rq_model.proofs.Rises.{rising_further}
use Rattle.rq_reference.proofs.Plainly.{stands_found, stands_within, change_stands, numbered_change, same_row}
use Rattle.rq_reference.proofs.Reference.step.Goals as goal

pub returns-then-left-eq0-clause-ok : goal.returns-then-left-eq0-clause-ok
returns-then-left-eq0-clause-ok c =
    let i = c.self.inside in
    let st = c.in_ok-place.ensures.ok.stands in
    let v = ap (λ (s : Stand). s.ledger.open_ones) c.self.view_is in
    let f = stands_found i.open_txns.items c.args.self.now.ledger c.args.txn c.in_ok-place.place c.index-row.result.now v st c.index-row.ensures in
    (c.in_ok-place.ensures.ok.passes, rw f c.if-left-eq0.true)

pub returns-clause-ok : goal.returns-clause-ok
returns-clause-ok c =
    let i = c.self.inside in
    let st = c.in_ok-place.ensures.ok.stands in
    let v = ap (λ (s : Stand). s.ledger.open_ones) c.self.view_is in
    let m = c.index-row.result.now in
    let f = stands_found i.open_txns.items c.args.self.now.ledger c.args.txn c.in_ok-place.place m v st c.index-row.ensures in
    let l : 0 < m.left = omega arith in
    (c.in_ok-place.ensures.ok.passes, rw f l, ap (λ (s : Stand). s.ledger.records + 1) c.self.view_is)

pub invariant_of-self : goal.invariant_of-self
invariant_of-self c =
    let i = c.self.inside in
    let st = c.in_ok-place.ensures.ok.stands in
    let v = ap (λ (s : Stand). s.ledger.open_ones) c.self.view_is in
    let m = c.index_mut-row.result.now in
    let q = same_row i.open_txns.items c.in_ok-place.place c.index-row.result.now m (stands_within i.open_txns.items c.args.self.now.ledger c.args.txn c.in_ok-place.place v st) c.index-row.ensures c.index_mut-row.ensures.value in
    let e = change_stands i.incarnation i.begins i.open_txns.items c.args.self.now.ledger c.args.txn stepped c.in_ok-place.place m (record m { left = c.index-row.result.now.left - 1 }) c.self.invariant.numbered v st c.index_mut-row.ensures.value (ap (λ (x : OpenTxn). record (open_of m) { left = x.left - 1 }) q) in
    rw e (record { numbered = numbered_change i.incarnation i.begins c.args.txn stepped (map open_of i.open_txns.items) (λ o. refl) c.self.invariant.numbered; rising = rising_further 0 i.records (i.records + 1) (map done_of i.committed.items) (omega arith) c.self.invariant.rising; forced = omega (arith, c.self.invariant.forced); durable = c.self.invariant.durable })

pub returns-clause-step : goal.returns-clause-step
returns-clause-step c =
    let i = c.self.inside in
    let st = c.in_ok-place.ensures.ok.stands in
    let v = ap (λ (s : Stand). s.ledger.open_ones) c.self.view_is in
    let m = c.index_mut-row.result.now in
    let q = same_row i.open_txns.items c.in_ok-place.place c.index-row.result.now m (stands_within i.open_txns.items c.args.self.now.ledger c.args.txn c.in_ok-place.place v st) c.index-row.ensures c.index_mut-row.ensures.value in
    let e = change_stands i.incarnation i.begins i.open_txns.items c.args.self.now.ledger c.args.txn stepped c.in_ok-place.place m (record m { left = c.index-row.result.now.left - 1 }) c.self.invariant.numbered v st c.index_mut-row.ensures.value (ap (λ (x : OpenTxn). record (open_of m) { left = x.left - 1 }) q) in
    rw e (ap (next (Stepped c.args.txn c.args.number (i.records + 1))) c.self.view_is)
