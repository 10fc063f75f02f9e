use Rattle.std.proofs.Common.{arith, refl, ℕ, ◌≤◌, map, ap, sym, ◌≡◌, ◌∙◌, subst, take, List}
use Rattle.std.proofs.lemmas.List.{take-map}
use Rattle.rq_reference.specs.declared.rows.CommittedTxn.{CommittedTxn}
use Rattle.rq_model.specs.History.Entry.{Crash}
use Rattle.rq_reference.specs.Plain.{done_of, Stand, next}
use Rattle.rq_model.specs.Ledger.{kept_in}
use Rattle.rq_model.proofs.Rises.{kept_less, kept_cut, rising_cut}
use Rattle.rq_reference.proofs.Reference.crash.Goals as goal

-- the commits that stay
left : (xs seen : List CommittedTxn) (n k : ℕ) (ys : List CommittedTxn) → seen ≡ xs → k ≡ kept_in n (map done_of seen) → ys ≡ take k xs → map done_of ys ≡ take (kept_in n (map done_of xs)) (map done_of xs)
left xs seen n k ys v e h = ap (map done_of) h ∙ sym (take-map done_of k xs) ∙ ap (λ m. take m (map done_of xs)) (e ∙ ap (λ l. kept_in n (map done_of l)) v)

pub invariant_of-self : goal.invariant_of-self
invariant_of-self c =
    let i = c.self.inside in
    let n = c.args.records in
    let l : i.forced ≤ n = rw (ap (λ (s : Stand). s.ledger.forced) c.self.view_is) c.requires.forced in
    let e = left i.committed.items c.deref.result.now n c.kept_in-kept.result c.truncate.new.self.items c.deref.ensures.value c.kept_in-kept.ensures.kept c.truncate.ensures.items in
    let k = kept_less i.forced n (map done_of i.committed.items) l in
    let g = kept_cut i.records n (map done_of i.committed.items) c.self.invariant.rising in
    rw (e, c.clear.ensures.items) (record { numbered = tt; rising = rising_cut 0 i.records n (map done_of i.committed.items) c.self.invariant.rising (omega arith); forced = omega arith; durable = rw g (omega (arith, k, c.self.invariant.durable)) })

pub returns-clause-ok : goal.returns-clause-ok
returns-clause-ok c =
    let i = c.self.inside in
    let n = c.args.records in
    let l : i.forced ≤ n = rw (ap (λ (s : Stand). s.ledger.forced) c.self.view_is) c.requires.forced in
    let k = kept_less i.forced n (map done_of i.committed.items) l in
    let h : i.durable ≤ kept_in n (map done_of i.committed.items) = omega (arith, k, c.self.invariant.durable) in (
      record {
        durable = subst (λ (s : Stand). s.ledger.durable ≤ kept_in n s.ledger.committed) c.self.view_is h;
        forced = c.requires.forced;
        exact = refl;
      },
      c.requires.told,
      c.requires.up_to,
    )

pub returns-clause-step : goal.returns-clause-step
returns-clause-step c =
    let i = c.self.inside in
    let e = left i.committed.items c.deref.result.now c.args.records c.kept_in-kept.result c.truncate.new.self.items c.deref.ensures.value c.kept_in-kept.ensures.kept c.truncate.ensures.items in
    rw (e, c.clear.ensures.items) (ap (λ (s : Stand). next (Crash (kept_in c.args.records s.ledger.committed) c.args.records) s) c.self.view_is)
