use Rattle.std.proofs.Common.{◌≡◌, false, ap, sym, ◌∙◌, map, List}
use Rattle.rq_reference.specs.declared.rows.Act.{Act}
use Rattle.rq_reference.specs.declared.rows.CommittedTxn.{CommittedTxn}
use Rattle.rq_model.specs.Ledger.{any_ends, ended_in}
use Rattle.rq_reference.specs.Plain.{done_of, op_of, Stand}
use Rattle.rq_reference.proofs.Plainly.{stands_found}
use Rattle.rq_reference.proofs.Reference.is_closed_for.Goals as goal

pub returns : goal.returns
returns c =
    let i = c.self.inside in
    let s = c.args.sender in
    let v = ap (λ (x : Stand). x.ledger.open_ones) c.self.view_is in
    let f = stands_found i.open_txns.items c.args.self.now.ledger c.args.txn c.args.place c.index-row.result.now v c.requires c.index-row.ensures in
    let a : ended_in c.args.self.now.ledger.committed s ≡ false = ap (λ (x : Stand). ended_in x.ledger.committed s) (sym c.self.view_is) ∙ ap (λ (xs : List CommittedTxn). ended_in (map done_of xs) s) (sym c.deref.ensures.value) ∙ sym c.is_closed.ensures ∙ c.if-is_closed.false in
    rw (a, f) (c.closes.ensures ∙ ap (λ (xs : List Act). any_ends s (map op_of xs)) c.deref-2.ensures.value)
