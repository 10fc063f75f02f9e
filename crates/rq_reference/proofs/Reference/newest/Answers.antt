use Rattle.std.proofs.Common.{◌∙◌, ap, List, map}
use Rattle.rq_reference.specs.declared.rows.Act.{Act}
use Rattle.rq_model.specs.Vocabulary.{last}
use Rattle.rq_reference.specs.Plain.{op_of, Stand}
use Rattle.rq_reference.proofs.Plainly.{stands_found}
use Rattle.rq_reference.proofs.Reference.newest.Goals as goal

pub returns : goal.returns
returns c =
    let v = ap (λ (x : Stand). x.ledger.open_ones) c.self.view_is in
    let f = stands_found c.self.inside.open_txns.items c.args.self.now.ledger c.args.txn c.args.place c.index-row.result.now v c.requires c.index-row.ensures in
    rw f (c.last.ensures ∙ ap (λ (xs : List Act). last (map op_of xs)) c.deref.ensures.value)
