use Rattle.std.proofs.Common.{◌+◌, ap, ◌∙◌, refl, Some, map}
use Rattle.rq_reference.specs.declared.rows.OpenTxn.{OpenTxn}
use Rattle.rq_model.specs.Ledger.{change, started, writes}
use Rattle.rq_reference.specs.Plain.{open_of, job_of, sending_with, receiving_with, Stand}
use Rattle.rq_reference.proofs.Plainly.{stands_found, stands_within, change_stands, numbered_change, same_row}
use Rattle.rq_reference.proofs.Receives.{started_is, kept_txn}
use Rattle.rq_reference.proofs.Reference.start.Goals as goal

pub returns-clause-number : goal.returns-clause-number
returns-clause-number c =
    let v = ap (λ (s : Stand). s.ledger.open_ones) c.self.view_is in
    rw (stands_found c.self.inside.open_txns.items c.args.self.now.ledger c.args.txn c.args.place c.index-row.result.now v c.requires c.index-row.ensures) refl

pub invariant_of-self : goal.invariant_of-self
invariant_of-self c =
    let i = c.self.inside in
    let l = c.args.self.now.ledger in
    let v = ap (λ (s : Stand). s.ledger.open_ones) c.self.view_is in
    let m = c.index_mut-row.result.now in
    let n = c.index-row.result.now.number + 1 in
    let j = job_of c.args.work in
    let w = writes l c.args.txn j in
    let q = same_row i.open_txns.items c.args.place c.index-row.result.now m (stands_within i.open_txns.items l c.args.txn c.args.place v c.requires) c.index-row.ensures c.index_mut-row.ensures.value in
    let g = started_is m n c.in-Ok.left w c.in-Ok-sending_with.sending.items c.in-Ok-receiving_with.receiving.items j c.in-Ok.ensures
    (c.in-Ok-sending_with.ensures ∙ ap (λ (x : OpenTxn). sending_with j x.sending.items) q) (c.in-Ok-receiving_with.ensures ∙ ap (λ (x : OpenTxn). receiving_with j x.receiving.items) q) in
    let r : OpenTxn = record m { number = n; work = Some c.args.work; left = c.in-Ok.left; sending = c.in-Ok-sending_with.sending; receiving = c.in-Ok-receiving_with.receiving } in
    let e = change_stands i.incarnation i.begins i.open_txns.items l c.args.txn (started n w j) c.args.place m r c.self.invariant.numbered v c.requires c.index_mut-row.ensures.value g in
    rw e (record { numbered = numbered_change i.incarnation i.begins c.args.txn (started n w j) (map open_of i.open_txns.items) (kept_txn n w j) c.self.invariant.numbered; rising = c.self.invariant.rising; forced = c.self.invariant.forced; durable = c.self.invariant.durable })

pub returns-clause-step : goal.returns-clause-step
returns-clause-step c =
    let i = c.self.inside in
    let l = c.args.self.now.ledger in
    let v = ap (λ (s : Stand). s.ledger.open_ones) c.self.view_is in
    let m = c.index_mut-row.result.now in
    let n = c.index-row.result.now.number + 1 in
    let j = job_of c.args.work in
    let w = writes l c.args.txn j in
    let q = same_row i.open_txns.items c.args.place c.index-row.result.now m (stands_within i.open_txns.items l c.args.txn c.args.place v c.requires) c.index-row.ensures c.index_mut-row.ensures.value in
    let g = started_is m n c.in-Ok.left w c.in-Ok-sending_with.sending.items c.in-Ok-receiving_with.receiving.items j c.in-Ok.ensures
    (c.in-Ok-sending_with.ensures ∙ ap (λ (x : OpenTxn). sending_with j x.sending.items) q) (c.in-Ok-receiving_with.ensures ∙ ap (λ (x : OpenTxn). receiving_with j x.receiving.items) q) in
    let r : OpenTxn = record m { number = n; work = Some c.args.work; left = c.in-Ok.left; sending = c.in-Ok-sending_with.sending; receiving = c.in-Ok-receiving_with.receiving } in
    let e = change_stands i.incarnation i.begins i.open_txns.items l c.args.txn (started n w j) c.args.place m r c.self.invariant.numbered v c.requires c.index_mut-row.ensures.value g in
    rw e (ap (λ (s : Stand). record s { ledger = record s.ledger { open_ones = change c.args.txn (started n w j) s.ledger.open_ones } }) c.self.view_is)
