use Rattle.std.proofs.Common.{◌≡◌, List, [], ◌∷◌, length, nat_eq, true, refl, sym, ap, subst, ◌∙◌, arith}
use Rattle.std.proofs.lemmas.Bool.{eqb-true}
use Rattle.rq_pool.specs.Writing.{HasChangeBeyond, NoChangeBeyond}
use Rattle.rq_store.specs.State.{State}
use Rattle.rq_engine.specs.Opened.{OpenStore, pooled}
use Rattle.rq_engine.proofs.Opened.{state_is}
use Rattle.rq_engine.proofs.engine.Engine.check_quiet.Goals as goal

none_of : {X : Type 0} (xs : List X) → nat_eq (length xs) 0 ≡ true → xs ≡ []
none_of [] e = refl
none_of (x ∷ xs) e = let none = eqb-true (length (x ∷ xs)) 0 e in absurd (omega (arith, none))

pub returns-then-is_log_full-clause-refused : goal.returns-then-is_log_full-clause-refused
returns-then-is_log_full-clause-refused g c =
    let quiet : nat_eq (length c.args.self.now.state.rows) 0 ≡ true = ap (λ (s : State). nat_eq (length s.rows) 0) (sym (state_is c.self.view_is)) ∙ sym c.if-not-is_empty.ensures in
    (c.in_ok-check_running.ensures.running, none_of _ quiet, sym c.if-is_log_full.ensures, refl)

pub returns-then-has_change_beyond-clause-refused : goal.returns-then-has_change_beyond-clause-refused
returns-then-has_change_beyond-clause-refused g c =
    let quiet : nat_eq (length c.args.self.now.state.rows) 0 ≡ true = ap (λ (s : State). nat_eq (length s.rows) 0) (sym (state_is c.self.view_is)) ∙ sym c.if-not-is_empty.ensures in (
      c.in_ok-check_running.ensures.running,
      none_of _ quiet,
      sym c.if-is_log_full.ensures,
      subst (λ (o : OpenStore _ _). HasChangeBeyond (pooled o) (length o.state.records)) c.self.view_is (subst (HasChangeBeyond c.self.inside.pages) c.last.ensures (c.if-has_change_beyond.ensures.some refl)),
      refl,
    )

pub returns-clause-ok : goal.returns-clause-ok
returns-clause-ok g c =
    let quiet : nat_eq (length c.args.self.now.state.rows) 0 ≡ true = ap (λ (s : State). nat_eq (length s.rows) 0) (sym (state_is c.self.view_is)) ∙ sym c.if-not-is_empty.ensures in
    record {
      running = c.in_ok-check_running.ensures.running;
      none_open = none_of _ quiet;
      room = sym c.if-is_log_full.ensures;
      within = subst (λ (o : OpenStore _ _). NoChangeBeyond (pooled o) (length o.state.records)) c.self.view_is (subst (NoChangeBeyond c.self.inside.pages) c.last.ensures c.if-has_change_beyond.ensures.none);
    }
