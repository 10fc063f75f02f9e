use Rattle.std.proofs.Common.{◌≡◌, ◌≢◌, ◌≤◌, ◌<◌, ℕ, ◌&&◌, nat_eq, nat_lt, not, true, false, refl, sym, ap, ◌∙◌, arith}
use Rattle.std.proofs.lemmas.Bool.{eq-eqb, eqb-true, false_from_ne_true, le-ltb, lt-ltb}
use Rattle.rq_model.specs.Replay.{receipt}
use Rattle.rq_store.specs.State.{State}
use Rattle.rq_engine.proofs.Opened.{state_is}
use Rattle.rq_engine.proofs.engine.Engine.acknowledged.Goals as goal
use Rattle.rq_engine.proofs.engine.Engine.acknowledged.Goals.{else-txn-self-via-then-txn-self+else-lsn-forced, else-txn-self-via-else-txn-self}

is_forced : (i j lsn forced : ℕ) → i ≡ j → lsn ≤ forced → true ≡ nat_eq i j && not (nat_lt forced lsn)
is_forced i j lsn forced same low = rw (eq-eqb i j same, le-ltb forced lsn low) refl

is_later : (i j lsn forced : ℕ) → i ≡ j → forced < lsn → false ≡ nat_eq i j && not (nat_lt forced lsn)
is_later i j lsn forced same high = rw (eq-eqb i j same, lt-ltb forced lsn high) refl

is_other : (i j lsn forced : ℕ) → i ≢ j → false ≡ nat_eq i j && not (nat_lt forced lsn)
is_other i j lsn forced other = rw (false_from_ne_true (nat_eq i j) (λ y. other (eqb-true i j y))) refl

pub returns-then-lsn-forced-clause-given : goal.returns-then-lsn-forced-clause-given
returns-then-lsn-forced-clause-given g c =
    let inside = state_is c.self.view_is in
    let same = ap (λ t. t.incarnation) (sym c.txn.ensures) ∙ c.if-txn-self.true ∙ ap (λ (s : State). s.incarnation) inside in
    let a = c.lsn.ensures in
    let b = c.forced.ensures in
    let d = ap (λ (s : State). s.forced) inside in
    let low = c.if-lsn-forced.true in
    rw c.new.ensures (ap (λ b. receipt b c.args.number.txn c.args.number.lsn) (is_forced _ _ c.args.number.lsn c.args.self.now.state.forced same (omega (arith, a, b, d, low))))

pub returns-else-txn-self-clause-given : goal.returns-else-txn-self-clause-given
returns-else-txn-self-clause-given g c =
    let inside = state_is c.self.view_is in
    let here = sym (ap (λ (s : State). s.incarnation) inside) in
    elim c.else-txn-self.branch [
      | else-txn-self-via-then-txn-self+else-lsn-forced w ↦
          let same = ap (λ t. t.incarnation) (sym c.txn.ensures) ∙ w.if-txn-self.true ∙ sym here in
          let a = w.lsn.ensures in
          let b = w.forced.ensures in
          let d = ap (λ (s : State). s.forced) inside in
          let high = w.if-lsn-forced.false in
          ap (λ b. receipt b c.args.number.txn c.args.number.lsn) (is_later _ _ c.args.number.lsn c.args.self.now.state.forced same (omega (arith, a, b, d, high)))
      | else-txn-self-via-else-txn-self w ↦
          ap (λ b. receipt b c.args.number.txn c.args.number.lsn) (is_other c.args.number.txn.incarnation c.args.self.now.state.incarnation _ _ (λ e. w.if-txn-self.false (ap (λ t. t.incarnation) c.txn.ensures ∙ e ∙ here)))
    ]
