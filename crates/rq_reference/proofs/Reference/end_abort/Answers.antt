use Rattle.std.proofs.Common.{rules, ◌≡◌, ◌+◌, ◌∙◌, ap, sym, refl, true, false, List, map, arith}
use Rattle.rq_reference.specs.declared.rows.Act.{Act}
use Rattle.rq_model.specs.History.Entry.{Aborted}
use Rattle.rq_model.specs.Ledger.{found}
use Rattle.rq_model.specs.Tests.{has_done}
use Rattle.rq_model.specs.Vocabulary.{first, is_some}
use Rattle.rq_reference.specs.Plain.{open_of, done_of, op_of, Stand, next}
use Rattle.rq_model.proofs.Rises.{rising_further}
use Rattle.rq_reference.proofs.Plainly.{stands_found, without_stands, numbered_without}
use Rattle.rq_reference.proofs.Reference.end_abort.Goals as goal

pub returns-then-has_any-clause-refused : goal.returns-then-has_any-clause-refused
returns-then-has_any-clause-refused c =
    let l = c.args.self.now.ledger in
    let p = c.in_ok-place.ensures.ok.passes in
    let v = ap (λ (s : Stand). s.ledger.open_ones) c.self.view_is in
    let f = stands_found c.self.inside.open_txns.items l c.args.txn c.in_ok-place.place c.index-row.result.now v c.in_ok-place.ensures.ok.stands c.index-row.ensures in
    let any : has_done (found c.args.txn l.open_ones) ≡ true = ap has_done f ∙ sym (ap (λ (xs : List Act). is_some (first (map op_of xs))) c.deref.ensures.value) ∙ sym c.has_any.ensures ∙ c.if-has_any.true in
    (rw (p.0, p.1.0, p.1.1.0, p.1.1.1.0, any) refl, search rules)

pub returns-then-is_log_full-clause-refused : goal.returns-then-is_log_full-clause-refused
returns-then-is_log_full-clause-refused c =
    let l = c.args.self.now.ledger in
    let p = c.in_ok-place.ensures.ok.passes in
    let v = ap (λ (s : Stand). s.ledger.open_ones) c.self.view_is in
    let f = stands_found c.self.inside.open_txns.items l c.args.txn c.in_ok-place.place c.index-row.result.now v c.in_ok-place.ensures.ok.stands c.index-row.ensures in
    let none : has_done (found c.args.txn l.open_ones) ≡ false = ap has_done f ∙ sym (ap (λ (xs : List Act). is_some (first (map op_of xs))) c.deref.ensures.value) ∙ sym c.has_any.ensures ∙ c.if-has_any.false in
    (rw (p.0, p.1.0, p.1.1.0, p.1.1.1.0, none, sym c.is_log_full.ensures ∙ c.if-is_log_full.true) refl, search rules)

pub returns-clause-ok : goal.returns-clause-ok
returns-clause-ok c =
    let l = c.args.self.now.ledger in
    let p = c.in_ok-place.ensures.ok.passes in
    let v = ap (λ (s : Stand). s.ledger.open_ones) c.self.view_is in
    let f = stands_found c.self.inside.open_txns.items l c.args.txn c.in_ok-place.place c.index-row.result.now v c.in_ok-place.ensures.ok.stands c.index-row.ensures in
    let none : has_done (found c.args.txn l.open_ones) ≡ false = ap has_done f ∙ sym (ap (λ (xs : List Act). is_some (first (map op_of xs))) c.deref.ensures.value) ∙ sym c.has_any.ensures ∙ c.if-has_any.false in
    (p.0, (p.1.0, (p.1.1.0, (rw (p.1.1.1.0, none) refl, (sym c.is_log_full.ensures ∙ c.if-is_log_full.false, tt)))))

pub invariant_of-self : goal.invariant_of-self
invariant_of-self c =
    let i = c.self.inside in
    let e = without_stands i.incarnation i.begins i.open_txns.items c.args.self.now.ledger c.args.txn c.in_ok-place.place c.index-row.result.now c.self.invariant.numbered (ap (λ (s : Stand). s.ledger.open_ones) c.self.view_is) c.in_ok-place.ensures.ok.stands c.index-row.ensures in
    rw (ap (map open_of) c.remove.ensures.items, e)
    (record {
      numbered = numbered_without i.incarnation i.begins c.args.txn (map open_of i.open_txns.items) c.self.invariant.numbered;
      rising = rising_further 0 i.records (i.records + 1) (map done_of i.committed.items) (omega arith) c.self.invariant.rising;
      forced = omega (arith, c.self.invariant.forced);
      durable = c.self.invariant.durable;
    })

pub returns-clause-step : goal.returns-clause-step
returns-clause-step c =
    let i = c.self.inside in
    let e = without_stands i.incarnation i.begins i.open_txns.items c.args.self.now.ledger c.args.txn c.in_ok-place.place c.index-row.result.now c.self.invariant.numbered (ap (λ (s : Stand). s.ledger.open_ones) c.self.view_is) c.in_ok-place.ensures.ok.stands c.index-row.ensures in
    rw (ap (map open_of) c.remove.ensures.items, e) (ap (next (Aborted c.args.txn)) c.self.view_is)
