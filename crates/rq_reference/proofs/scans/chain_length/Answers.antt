use Rattle.std.proofs.Common.{◌≡◌, ◌+◌, arith, map, take, length}
use Rattle.std.proofs.lemmas.List.{take_all}
use Rattle.std.specs.List.{sum_by}
use Rattle.rq_model.specs.Ledger.{own_sends, own_takes, rest_in}
use Rattle.rq_reference.specs.Plain.{open_of, done_of}
use Rattle.rq_reference.proofs.scans.chain_length.Goals as goal

pub returns : goal.returns
returns c =
    let e = take_all c.loop-row.row-index c.args.rows.now c.loop-row-test.false in
    let a : length c.loop-row.there.items ≡ length (rest_in (map done_of c.args.committed.now) c.args.sender) + sum_by (λ o. length (own_sends c.args.sender o)) (map open_of (take c.loop-row.row-index c.args.rows.now)) = c.loop-row.invariant.0 in
    let b : length c.loop-row.gone.items ≡ sum_by (λ o. length (own_takes c.args.sender o)) (map open_of (take c.loop-row.row-index c.args.rows.now)) = c.loop-row.invariant.1 in
    let x = rw e at a in
    let y = rw e at b in
    omega (arith, x, y, c.saturating_sub.ensures, c.len.ensures, c.len-2.ensures, c.loop-row.there.ok.0, c.loop-row.gone.ok.0)
