-- A migration that was answered stays.
use Rattle.std.proofs.Common.{◌≡◌, ◌⊎◌, ℕ, ◌*◌, ◌≤◌, ◌||◌, Bool, true, false, not, nat_lt, List, [], ◌∷◌, ◌++◌, None, refl, sym, ◌∙◌, ap, subst, inl, inr, arith}
use Rattle.std.proofs.lemmas.Bool.{not-false, or_parts}
use Rattle.std.proofs.lemmas.Bool.Decides.{nat_tests}
use Rattle.rq_model.specs.declared.refusal.Refusal.TheVariants.{DiskWrite}
use Rattle.rq_model.specs.History.{Entry}
use Rattle.rq_model.specs.History.Entry.{Crash, Grew, Migrated, Refused, Restarted}
use Rattle.rq_model.specs.Growth.{Growth, IsGrownBy, IsOfMigration, growth}
use Rattle.rq_model.specs.Growth.Growth.{Grows}
use Rattle.rq_model.specs.Ledger.{Phase, ledger, runs}
use Rattle.rq_model.specs.Ledger.Phase.{Running, Stopped, Shut}
use Rattle.rq_model.specs.Legal.{IsLegal, MayFollow}
use Rattle.rq_model.specs.Promises.{MigrationsStay, any_entry, is_crash}
use Rattle.rq_model.specs.Tests.{Size, bad_tags, size_at}
use Rattle.rq_model.proofs.Follows.{IsToldIn, told}
use Rattle.rq_model.proofs.Placed.{tail_legal}

-- a store that can get tag pages has none
can_get : (z : Size) (n : ℕ) → bad_tags z n ≡ false → (1 ≤ n) × (z.clients ≡ 0)
can_get z n good =
    let a = or_parts (not (nat_lt 0 n) || nat_lt 1024 n) (nat_lt 0 z.clients) good in
    let low = (or_parts (not (nat_lt 0 n)) (nat_lt 1024 n) a.0).0 in
    let none = a.1 in
    (grind (arith, nat_tests, low), grind (arith, nat_tests, none))

or_none : (b : Bool) → (b || false) ≡ b
or_none true = refl
or_none false = refl

module _ (z : Size) (pages : ℕ) (some : 1 ≤ pages) where
  -- its tag pages are yet to be told, or they were
  abbrev IsAwaited : List Entry → Type 0
  IsAwaited h = growth h ≡ Grows pages

  abbrev HasCome : List Entry → Type 0
  HasCome h = (size_at z h).clients ≡ 15 * pages

  abbrev IsKept : Bool → List Entry → Type 0
  IsKept true h = HasCome h
  IsKept false h = IsAwaited h ⊎ HasCome h

  either : (b : Bool) (h : List Entry) → HasCome h → IsKept b h
  either true h come = come
  either false h come = inr come

  stays : (h : List Entry) (e : Entry) → MayFollow z h e → HasCome h → HasCome (e ∷ h)
  stays h (Grew n records) a come = absurd (let none = (can_get (size_at z h) n a.0.tags).1 in omega (arith, none, come, some))
  stays h _ a come = come

  -- a store that runs, or is shut, awaits none
  not_running : (p : Phase) (g : Growth) → IsToldIn p g → g ≡ Grows pages → runs p ≡ true → ⊥
  not_running Running g t is run = (let e = sym t ∙ is in cc e)
  not_running Stopped g t is run = cc run
  not_running Shut g t is run = cc run

  not_shut : (p : Phase) (g : Growth) → IsToldIn p g → g ≡ Grows pages → p ≡ Shut → ⊥
  not_shut Running g t is shut = cc shut
  not_shut Stopped g t is shut = cc shut
  not_shut Shut g t is shut = (let e = sym t ∙ is in cc e)

  goes_on : (h : List Entry) (e : Entry) → MayFollow z h e → IsToldIn (ledger h).phase (growth h) → IsAwaited h → IsKept (is_crash e) (e ∷ h)
  goes_on h (Grew n records) a t is = ap (λ (m : ℕ). 15 * m) (subst (λ (g : Growth). IsOfMigration g (ledger h) n) is a.1)
  goes_on h (Crash kept records) a t is = absurd (subst (λ (g : Growth). IsGrownBy g None) is a.1)
  goes_on h (Restarted i records) a t is = absurd (not_shut (ledger h).phase (growth h) t is a.shut)
  goes_on h (Migrated n lsn) a t is = absurd (not_running (ledger h).phase (growth h) t is (not-false (runs (ledger h).phase) a.0.0))
  goes_on h (Refused c DiskWrite) a t is = absurd (not_running (ledger h).phase (growth h) t is a)
  goes_on h (Refused c r) a t is = inl is
  goes_on h _ a t is = inl is

  next : (crashed : Bool) (h : List Entry) (e : Entry) → MayFollow z h e → IsToldIn (ledger h).phase (growth h) → IsKept crashed h → IsKept (is_crash e || crashed) (e ∷ h)
  next true h e a t come = either (is_crash e || true) (e ∷ h) (stays h e a come)
  next false h e a t (inl is) = subst (λ b. IsKept b (e ∷ h)) (sym (or_none (is_crash e))) (goes_on h e a t is)
  next false h e a t (inr come) = either (is_crash e || false) (e ∷ h) (stays h e a come)

  kept : (older : List Entry) (lsn : ℕ) (newer : List Entry) → IsLegal z (newer ++ (Migrated pages lsn ∷ older)) → IsKept (any_entry is_crash newer) (newer ++ (Migrated pages lsn ∷ older))
  kept older lsn [] a = inl refl
  kept older lsn (e ∷ newer) a =
      let h = newer ++ (Migrated pages lsn ∷ older) in
      next (any_entry is_crash newer) h e a.0 (told z h a.1) (kept older lsn newer a.1)

pub migrations_stay : (z : Size) → MigrationsStay z
migrations_stay z newer older pages lsn a crashed =
    let h = newer ++ (Migrated pages lsn ∷ older) in
    let b = tail_legal z newer (Migrated pages lsn ∷ older) a in
    let some = (can_get (size_at z older) pages b.0.0.1.0).0 in
    subst (λ c. IsKept z pages some c h) crashed (kept z pages some older lsn newer a)
