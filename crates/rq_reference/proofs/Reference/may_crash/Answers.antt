use Rattle.std.proofs.Common.{arith, ap, inl, inr, refl, subst, sym, true, ◌≡◌, ◌⊎◌, ◌<◌, ◌≤◌, ◌∙◌, ◌↔◌, ◌-◌, ℕ, Bool, None, nat_eq}
use Rattle.std.proofs.lemmas.Bool.{eq-eqb, eqb-true}
use Rattle.rq_model.specs.History.Entry.{Crash}
use Rattle.rq_model.specs.Ledger.{Phase, kept_in, runs}
use Rattle.rq_model.specs.Ledger.Phase.{Running, Stopped, Shut}
use Rattle.rq_model.specs.Growth.{IsGrownBy, MayStand}
use Rattle.rq_model.specs.Legal.{IsCheckpointed, IsUpTo}
use Rattle.rq_reference.specs.declared.rows.State.{State}
use Rattle.rq_reference.specs.declared.rows.State.TheVariants.{Running as Running_state, Shut as Shut_state, Stopped as Stopped_state}
use Rattle.rq_reference.specs.Plain.{May, Stand, growth_of, phase_of}
use Rattle.rq_model.proofs.Rises.{kept_less}
use Rattle.rq_reference.proofs.Reference.may_crash.Goals as goal

-- a crash of so many records, where what is durable is forced
module _ (s : Stand) (n : ℕ) where
  abbrev Leaves : Type 0
  Leaves = IsGrownBy s.growth None × (IsUpTo s.ledger.records s.ledger.phase n ⊎ IsCheckpointed s.growth s.ledger n)

  judge : (b : Bool) → s.ledger.durable ≤ kept_in s.ledger.forced s.ledger.committed → s.ledger.forced ≤ n → ((b ≡ true) ↔ Leaves) → (b ≡ true) ↔ May s (Crash (kept_in n s.ledger.committed) n)
  judge b durable forced h = (
    λ e. let k = kept_less s.ledger.forced n s.ledger.committed forced in (record { durable = omega (arith, k, durable); forced = forced; exact = refl }, (h.0 e).0, (h.0 e).1),
    λ m. h.1 (m.1, m.2),
  )

  few : (p : Phase) → runs p ≡ true → n ≤ s.ledger.records → IsUpTo s.ledger.records p n
  few Running run le = le
  few Stopped run le = le
  few Shut run le = tt

  within : (p : Phase) → runs p ≡ true → IsUpTo s.ledger.records p n → n ≤ s.ledger.records
  within Running run is = is
  within Stopped run is = is
  within Shut run is = cc run

  one_more : s.ledger.records < n → runs s.ledger.phase ≡ true → IsGrownBy s.growth None → MayStand s.growth s.ledger → (nat_eq (n - 1) s.ledger.records ≡ true) ↔ Leaves
  one_more more run told may = (
    λ e. (told, inr (may, (let is = eqb-true (n - 1) s.ledger.records e in omega (arith, is, more)))),
    λ k. elim k.1 [
      | inl le ↦ absurd (let no_more = within s.ledger.phase run le in omega (arith, no_more, more))
      | inr one ↦ (let is = one.1 in eq-eqb (n - 1) s.ledger.records (omega (arith, is)))
    ],
  )

-- none that is shut, or runs, awaits tag pages
shut_told : (st : State) → phase_of st ≡ Shut → IsGrownBy (growth_of st) None
shut_told Running_state is = tt
shut_told (Stopped_state pages) is = cc is
shut_told Shut_state is = tt

run_told : (st : State) → runs (phase_of st) ≡ true → IsGrownBy (growth_of st) None
run_told Running_state run = tt
run_told (Stopped_state pages) run = cc run
run_told Shut_state run = tt

pub returns-then-is_shut : goal.returns-then-is_shut
returns-then-is_shut c =
    let now = c.args.self.now in
    let n = c.args.records in
    let v = c.self.view_is in
    let shut : now.ledger.phase ≡ Shut = c.is_shut.ensures.0 c.if-is_shut.true in
    let told = subst (λ (s : Stand). IsGrownBy s.growth None) v (shut_told c.self.inside.state (ap (λ (s : Stand). s.ledger.phase) v ∙ shut)) in
    judge now n true (subst (λ (s : Stand). s.ledger.durable ≤ kept_in s.ledger.forced s.ledger.committed) v c.self.invariant.durable) (subst (λ (s : Stand). s.ledger.forced ≤ n) v c.if-records-self.false)
    (λ e. (told, inl (subst (λ (p : Phase). IsUpTo now.ledger.records p n) (sym shut) tt)), λ _. refl)

pub returns-then-records-self-2 : goal.returns-then-records-self-2
returns-then-records-self-2 c =
    let now = c.args.self.now in
    let n = c.args.records in
    let v = c.self.view_is in
    let run : runs now.ledger.phase ≡ true = sym c.is_running.ensures ∙ c.if-not-is_running.false in
    let told = subst (λ (s : Stand). IsGrownBy s.growth None) v (run_told c.self.inside.state (ap (λ (s : Stand). runs s.ledger.phase) v ∙ run)) in
    judge now n true (subst (λ (s : Stand). s.ledger.durable ≤ kept_in s.ledger.forced s.ledger.committed) v c.self.invariant.durable) (subst (λ (s : Stand). s.ledger.forced ≤ n) v c.if-records-self.false)
    (λ e. (told, inl (few now n now.ledger.phase run (subst (λ (s : Stand). n ≤ s.ledger.records) v c.if-records-self-2.true))), λ _. refl)

pub returns-then-may_stand : goal.returns-then-may_stand
returns-then-may_stand c =
    let now = c.args.self.now in
    let n = c.args.records in
    let v = c.self.view_is in
    let run : runs now.ledger.phase ≡ true = sym c.is_running.ensures ∙ c.if-not-is_running.false in
    let told = subst (λ (s : Stand). IsGrownBy s.growth None) v (run_told c.self.inside.state (ap (λ (s : Stand). runs s.ledger.phase) v ∙ run)) in
    let may : MayStand now.growth now.ledger = c.may_stand.ensures.0 c.if-may_stand.true in
    subst (λ (m : ℕ). (nat_eq (n - 1) m ≡ true) ↔ May now (Crash (kept_in n now.ledger.committed) n)) (sym (ap (λ (s : Stand). s.ledger.records) v))
    (judge now n (nat_eq (n - 1) now.ledger.records) (subst (λ (s : Stand). s.ledger.durable ≤ kept_in s.ledger.forced s.ledger.committed) v c.self.invariant.durable) (subst (λ (s : Stand). s.ledger.forced ≤ n) v c.if-records-self.false)
    (one_more now n (subst (λ (s : Stand). s.ledger.records < n) v c.if-records-self-2.false) run told may))
