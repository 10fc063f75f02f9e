use Rattle.std.proofs.Common.{rules, ◌≡◌, ℕ, ◌+◌, ◌<◌, ap, ◌∙◌, sym, refl, nat_lt, true, None, List, map, arith}
use Rattle.std.proofs.lemmas.Bool.Decides.{nat_tests}
use Rattle.rq_reference.specs.declared.rows.Act.{Act}
use Rattle.rq_reference.specs.declared.rows.OpenTxn.{OpenTxn}
use Rattle.rq_model.specs.Vocabulary.{Op}
use Rattle.rq_model.specs.Ledger.{Open, change}
use Rattle.rq_reference.specs.Plain.{open_of, done_of, op_of, ops_with, job_of, Stand}
use Rattle.rq_model.proofs.Rises.{rising_further}
use Rattle.rq_reference.proofs.Plainly.{stands_found, stands_row, stands_within, change_stands, numbered_change, same_row}
use Rattle.rq_reference.proofs.Receives.{finished_one, may_finish, next_finish}
use Rattle.rq_reference.proofs.Reference.finish.Goals as goal

some_left : (n : ℕ) → 0 < n → nat_lt 0 n ≡ true
some_left n h = grind (arith, nat_tests)

pub returns-then-row-gt0-clause-refused : goal.returns-then-row-gt0-clause-refused
returns-then-row-gt0-clause-refused c =
    let i = c.self.inside in
    let l = c.args.self.now.ledger in
    let v = ap (λ (s : Stand). s.ledger.open_ones) c.self.view_is in
    let b = c.in_ok-place.ensures.ok in
    let m = c.index-row.result.now in
    let f = stands_found i.open_txns.items l c.args.txn c.in_ok-place.place m v b.stands c.index-row.ensures in
    (rw (b.passes.0, b.passes.1.0, f, some_left m.left c.if-row-gt0.true) refl, search rules)

pub returns-clause-ok : goal.returns-clause-ok
returns-clause-ok c =
    let i = c.self.inside in
    let z = c.args.self.now.size in
    let l = c.args.self.now.ledger in
    let v = ap (λ (s : Stand). s.ledger.open_ones) c.self.view_is in
    let b = c.in_ok-place.ensures.ok in
    let m = c.index-row.result.now in
    let f = stands_found i.open_txns.items l c.args.txn c.in_ok-place.place m v b.stands c.index-row.ensures in
    let none : m.left ≡ 0 = omega arith in
    let u = ap (λ (o : Open). o.under) (stands_row i.open_txns.items l c.args.txn c.in_ok-place.place m v b.stands c.index-row.ensures) ∙ b.under (open_of m) in
    may_finish z c.args.self.now.growth l c.args.txn c.args.number c.in-Ok.finished (job_of c.in_ok-place.work) (open_of m) (b.passes.0, (b.passes.1.0, (rw (f, none) refl, tt))) f u c.in-Ok.ensures.ok

pub invariant_of-self : goal.invariant_of-self
invariant_of-self c =
    let i = c.self.inside in
    let l = c.args.self.now.ledger in
    let v = ap (λ (s : Stand). s.ledger.open_ones) c.self.view_is in
    let b = c.in_ok-place.ensures.ok in
    let m = c.index_mut-row.result.now in
    let done = c.in-Ok.finished in
    let q = same_row i.open_txns.items c.in_ok-place.place c.index-row-2.result.now m (stands_within i.open_txns.items l c.args.txn c.in_ok-place.place v b.stands) c.index-row-2.ensures c.index_mut-row.ensures.value in
    let more = c.in-Ok-acts_with.ensures ∙ ap (λ (xs : List Act). ops_with done (map op_of xs)) (c.deref.ensures.value ∙ ap (λ (x : OpenTxn). x.acts.items) q) in
    let r : OpenTxn = record m { acts = c.in-Ok-acts_with.acts; work = None } in
    let e = change_stands i.incarnation i.begins i.open_txns.items l c.args.txn (finished_one done) c.in_ok-place.place m r c.self.invariant.numbered v b.stands c.index_mut-row.ensures.value (ap (λ (x : List Op). record (open_of m) { ops = x; under = None }) more) in
    rw e (record { numbered = numbered_change i.incarnation i.begins c.args.txn (finished_one done) (map open_of i.open_txns.items) (λ o. refl) c.self.invariant.numbered; rising = rising_further 0 i.records (i.records + 1) (map done_of i.committed.items) (omega arith) c.self.invariant.rising; forced = omega (arith, c.self.invariant.forced); durable = c.self.invariant.durable })

pub returns-clause-step : goal.returns-clause-step
returns-clause-step c =
    let i = c.self.inside in
    let l = c.args.self.now.ledger in
    let v = ap (λ (s : Stand). s.ledger.open_ones) c.self.view_is in
    let b = c.in_ok-place.ensures.ok in
    let m = c.index_mut-row.result.now in
    let done = c.in-Ok.finished in
    let q = same_row i.open_txns.items c.in_ok-place.place c.index-row-2.result.now m (stands_within i.open_txns.items l c.args.txn c.in_ok-place.place v b.stands) c.index-row-2.ensures c.index_mut-row.ensures.value in
    let more = c.in-Ok-acts_with.ensures ∙ ap (λ (xs : List Act). ops_with done (map op_of xs)) (c.deref.ensures.value ∙ ap (λ (x : OpenTxn). x.acts.items) q) in
    let r : OpenTxn = record m { acts = c.in-Ok-acts_with.acts; work = None } in
    let e = change_stands i.incarnation i.begins i.open_txns.items l c.args.txn (finished_one done) c.in_ok-place.place m r c.self.invariant.numbered v b.stands c.index_mut-row.ensures.value (ap (λ (x : List Op). record (open_of m) { ops = x; under = None }) more) in
    rw e (ap (λ (s : Stand). record s { ledger = record s.ledger { open_ones = change c.args.txn (finished_one done) s.ledger.open_ones; records = s.ledger.records + 1 } }) c.self.view_is
    ∙ sym (next_finish c.args.txn c.args.number done c.args.self.now))
