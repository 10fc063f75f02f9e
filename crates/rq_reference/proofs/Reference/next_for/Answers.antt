use Rattle.std.proofs.Common.{◌≡◌, arith, ◌∙◌, ap, List, map, length}
use Rattle.rq_reference.specs.declared.rows.CommittedTxn.{CommittedTxn}
use Rattle.rq_model.specs.declared.message.Message.{Message}
use Rattle.rq_model.specs.Ledger.{rest_in, own_takes}
use Rattle.rq_reference.specs.Plain.{done_of, open_of, Stand}
use Rattle.rq_reference.proofs.Plainly.{stands_found}
use Rattle.rq_reference.proofs.Receives.{found_at}
use Rattle.rq_reference.proofs.Reference.next_for.Goals as goal

pub returns : goal.returns
returns c =
    let l = c.args.self.now.ledger in
    let s = c.args.sender in
    let m = c.index-row.result.now in
    let v = ap (λ (x : Stand). x.ledger.open_ones) c.self.view_is in
    let f = stands_found c.self.inside.open_txns.items l c.args.txn c.args.place m v c.requires c.index-row.ensures in
    let w = c.deref-2.ensures.value ∙ c.in_ok-waiting.ensures ∙ ap (λ (xs : List CommittedTxn). rest_in (map done_of xs) s) c.deref.ensures.value ∙ ap (λ (x : Stand). rest_in x.ledger.committed s) c.self.view_is in
    let k : c.len-taken.result ≡ length c.in_ok-own_takes.field-0.items = omega (arith, c.len-taken.ensures, c.in_ok-own_takes.field-0.ok.0) in
    let n = k ∙ ap (λ (xs : List Message). length xs) c.in_ok-own_takes.ensures in
    rw f (found_at c.nth.result c.deref-2.result.now (rest_in l.committed s) c.len-taken.result (length (own_takes s (open_of m))) c.nth.ensures w n)
