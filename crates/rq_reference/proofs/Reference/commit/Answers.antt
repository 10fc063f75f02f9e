use Rattle.std.proofs.Common.{List, ◌≡◌, ◌+◌, ◌++◌, ◌∷◌, [], ap, sym, ◌∙◌, refl, Some, map, arith}
use Rattle.std.proofs.lemmas.Grind.{common_steps}
use Rattle.std.proofs.lemmas.List.{map-append}
use Rattle.rq_reference.specs.declared.rows.CommittedTxn.{CommittedTxn}
use Rattle.rq_model.specs.Vocabulary.{Op}
use Rattle.rq_model.specs.History.Entry.{Committed}
use Rattle.rq_model.specs.Ledger.{Done, ops_of, found}
use Rattle.rq_reference.specs.Plain.{open_of, done_of, op_of, Stand, next}
use Rattle.rq_model.proofs.Rises.{rising_append}
use Rattle.rq_reference.proofs.Plainly.{without_stands, stands_found, numbered_without, kept_more}
use Rattle.rq_reference.proofs.Reference.commit.Goals as goal

committed_more : (xs ys : List CommittedTxn) (row : CommittedTxn) (ops : List Op) → ys ≡ xs ++ row ∷ [] → map op_of row.acts.items ≡ ops → map done_of ys ≡ map done_of xs ++ record { txn = row.txn; lsn = row.lsn; ops = ops } ∷ []
committed_more xs ys row ops e g = ap (map done_of) e ∙ map-append done_of xs (row ∷ []) ∙ ap (λ (o : List Op). map done_of xs ++ record { txn = row.txn; lsn = row.lsn; ops = o } ∷ []) g

pub invariant_of-self-2 : goal.invariant_of-self-2
invariant_of-self-2 c =
    let i = c.self.inside in
    let m = c.index-row.result.now in
    let row : CommittedTxn = record { txn = c.args.txn; lsn = i.records + 1; acts = c.in-Ok.acts } in
    let e = without_stands i.incarnation i.begins i.open_txns.items c.args.self.now.ledger c.args.txn c.in_ok-place.place m c.self.invariant.numbered (ap (λ (s : Stand). s.ledger.open_ones) c.self.view_is) c.in_ok-place.ensures.ok.stands c.index-row.ensures in
    let p : c.push.new.self.items ≡ i.committed.items ++ row ∷ [] = grind (arith, common_steps) in
    let q = committed_more i.committed.items c.push.new.self.items row (map op_of c.in-Ok.acts.items) p refl in
    let d : Done = record { txn = c.args.txn; lsn = i.records + 1; ops = map op_of c.in-Ok.acts.items } in
    let k = kept_more i.forced (map done_of i.committed.items) d in
    rw (q, ap (map open_of) c.remove.ensures.items, e)
    (record {
      numbered = numbered_without i.incarnation i.begins c.args.txn (map open_of i.open_txns.items) c.self.invariant.numbered;
      rising = rising_append 0 i.records (i.records + 1) (map done_of i.committed.items) d c.self.invariant.rising (omega arith) (omega arith);
      forced = omega (arith, c.self.invariant.forced);
      durable = omega (arith, k, c.self.invariant.durable);
    })

pub returns-clause-step : goal.returns-clause-step
returns-clause-step c =
    let i = c.self.inside in
    let m = c.index-row.result.now in
    let row : CommittedTxn = record { txn = c.args.txn; lsn = i.records + 1; acts = c.in-Ok.acts } in
    let v = ap (λ (s : Stand). s.ledger.open_ones) c.self.view_is in
    let e = without_stands i.incarnation i.begins i.open_txns.items c.args.self.now.ledger c.args.txn c.in_ok-place.place m c.self.invariant.numbered v c.in_ok-place.ensures.ok.stands c.index-row.ensures in
    let f : found c.args.txn (map open_of i.open_txns.items) ≡ Some (open_of m) = ap (found c.args.txn) v ∙ stands_found i.open_txns.items c.args.self.now.ledger c.args.txn c.in_ok-place.place m v c.in_ok-place.ensures.ok.stands c.index-row.ensures in
    let p : c.push.new.self.items ≡ i.committed.items ++ row ∷ [] = grind (arith, common_steps) in
    let a : c.in-Ok.acts.items ≡ m.acts.items = grind (arith, common_steps) in
    let q = committed_more i.committed.items c.push.new.self.items row (ops_of (found c.args.txn (map open_of i.open_txns.items))) p (ap (map op_of) a ∙ ap ops_of (sym f)) in
    rw (q, ap (map open_of) c.remove.ensures.items, e) (ap (next (Committed c.args.txn (i.records + 1))) c.self.view_is)
