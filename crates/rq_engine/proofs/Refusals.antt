-- Refusals are the first test that holds, with their causes.
use Rattle.std.proofs.Common.{◌≡◌, ◌≢◌, ℕ, ◌+◌, ◌^◌, ◌≤◌, ◌||◌, length, refl, sym, ◌∙◌, ap, subst, true, false, not, nat_eq, nat_lt, Option, Some, None, IsTrue, inl, inr}
use Rattle.std.proofs.lemmas.Bool.{cases_Bool, false≢true, false_from_ne_true, eqb-true, or_from, ltb-false}
use Rattle.rq_model.specs.declared.txn.Txn.{Txn}
use Rattle.rq_model.specs.declared.refusal.Refusal.{Refusal}
use Rattle.rq_model.specs.declared.refusal.Refusal.TheVariants as why
use Rattle.rq_model.specs.Vocabulary.{is_some}
use Rattle.rq_model.specs.History.{Call}
use Rattle.rq_model.specs.History.Call.{Begin, Commit}
use Rattle.rq_model.specs.History.Entry.{Refused}
use Rattle.rq_model.specs.Ledger.{Ledger, runs, after, found}
use Rattle.rq_model.specs.Legal.{LegalRefusal, OnFound}
use Rattle.rq_model.specs.Tests.{Size, tests, first_of, NoneHolds, Passes, is_aborting, is_busy, log_full, ready_tests, without_pages, IsUnready}
use Rattle.std.specs.Option.{is_some as option_is_some}
use Rattle.rq_txn.specs.declared.Operation.{Operation}
use Rattle.rq_txn.specs.Rows.{Row, Under, found_row, under_way_of}
use Rattle.rq_store.specs.State.{State, owed_by, ledger_of, size_of, open_of, job_under, phase_of}
use Rattle.rq_store.proofs.Opens.{found_open, open_found, owed_is}
use Rattle.rq_engine.proofs.Standing.{refused_steps}
use Rattle.rq_sound.specs.Sound.{IsSound}
use Rattle.rq_engine.specs.Answers.{IsCausedIn, Refuses, needs_memory}

failed_first : (z : Size) (l : Ledger) (c : Call) → runs l.phase ≡ false → first_of (tests z l c) ≡ Some why.Failed
failed_first z l Begin e = rw e refl
failed_first z l _ e = rw e refl

-- want of memory, and a device's failure, are no test's
runs_first : (z : Size) (l : Ledger) (c : Call) (r : Refusal) → (why.Failed ≡ r → ⊥) → first_of (tests z l c) ≡ Some r → runs l.phase ≡ true
runs_first z l c r other e = elim (cases_Bool (runs l.phase)) [ inl y ↦ y | inr n ↦ absurd (let w : Some why.Failed ≡ Some r = sym (failed_first z l c n) ∙ e in other (cc w)) ]

legal_first : (z : Size) (l : Ledger) (c : Call) (r : Refusal) → IsTrue (without_pages r) → first_of (tests z l c) ≡ Some r → LegalRefusal z l c r
legal_first z l c why.NoMemory p e = runs_first z l c why.NoMemory (λ x. cc x) e
legal_first z l c why.DiskRead p e = runs_first z l c why.DiskRead (λ x. cc x) e
legal_first z l c why.Latched p e = absurd (false≢true p)
legal_first z l c why.PoolFull p e = absurd (false≢true p)
legal_first z l c why.DiskWrite p e = runs_first z l c why.DiskWrite (λ x. cc x) e
legal_first z l c (why.Damaged d) p e = runs_first z l c (why.Damaged d) (λ x. cc x) e
legal_first z l c why.NotForced p e = absurd (false≢true p)
legal_first z l c _ p e = e

same_after : (l : Ledger) (c : Call) (r : Refusal) → IsTrue (without_pages r) → after (Refused c r) l ≡ l
same_after l c why.DiskWrite p = absurd (false≢true p)
same_after l c _ p = refl

-- the first test that holds is the refusal
pub refuse : (s : State) (c : Call) (r : Refusal) → IsTrue (without_pages r) → IsCausedIn s c r → first_of (tests (size_of s.sizes) (ledger_of s) c) ≡ Some r → Refuses s c r
refuse s c r p cause e k = (refused_steps s k c r (legal_first (size_of s.sizes) (ledger_of s) c r p e) (same_after (ledger_of s) c r p), cause)

-- want of memory may come wherever the store runs, the tests are passed and memory is needed
pub no_memory : (s : State) (c : Call) → s.failed ≡ false → (IsSound s → Passes (size_of s.sizes) (ledger_of s) c) → (IsSound s → needs_memory (size_of s.sizes) (ledger_of s) c ≡ true) → Refuses s c why.NoMemory
no_memory s c running may needs k = (refused_steps s k c why.NoMemory (ap (λ b. runs (phase_of b)) running) refl, (may k, needs k))

-- a store that has failed refuses every call
pub refuse_failed : (s : State) (c : Call) → s.failed ≡ true → Refuses s c why.Failed
refuse_failed s c e = refuse s c why.Failed refl tt (failed_first (size_of s.sizes) (ledger_of s) c (ap (λ b. runs (phase_of b)) e))

-- what the tests of a transaction find
pub found_none : (s : State) (t : Txn) → found_row t s.rows ≡ None → found t (ledger_of s).open_ones ≡ None
found_none s t e = found_open s.ends t s.rows ∙ ap (open_found s.ends) e

pub found_some : (s : State) (t : Txn) (r : Row) → found_row t s.rows ≡ Some r → found t (ledger_of s).open_ones ≡ Some (open_of s.ends r)
found_some s t r e = found_open s.ends t s.rows ∙ ap (open_found s.ends) e

pub unknown : (s : State) (t : Txn) → s.failed ≡ false → found_row t s.rows ≡ None → IsUnready (ledger_of s) t false why.UnknownTransaction
unknown s t e f = record { first = rw (e, found_none s t f) refl; plain = refl }

pub not_open : (s : State) (t : Txn) (r : Row) → s.failed ≡ false → found_row t s.rows ≡ Some r → r.aborting ≡ true → IsUnready (ledger_of s) t false why.NotOpen
not_open s t r e f a = record { first = rw (e, found_some s t r f, a) refl; plain = refl }

busy_job : (o : Option Under) → is_some o ≡ true → is_some (job_under o) ≡ true
busy_job None e = e
busy_job (Some u) e = refl

pub unfinished : (s : State) (t : Txn) (r : Row) → s.failed ≡ false → found_row t s.rows ≡ Some r → r.aborting ≡ false → is_some r.under ≡ true → IsUnready (ledger_of s) t false why.Unfinished
unfinished s t r e f a b = record { first = rw (e, found_some s t r f, a, busy_job r.under b) refl; plain = refl }

pub ready : (s : State) (t : Txn) (r : Row) → s.failed ≡ false → found_row t s.rows ≡ Some r → r.aborting ≡ false → r.under ≡ None → NoneHolds (ready_tests (ledger_of s) t false)
ready s t r e f a b = (ap (λ x. not (runs (phase_of x))) e, (ap (λ o. not (is_some o)) (found_some s t r f), (ap is_aborting (found_some s t r f) ∙ a, (ap is_busy (found_some s t r f) ∙ ap (λ o. is_some (job_under o)) b, tt))))

-- what a row's field says of its operation under way
pub some_way : (o : Option Operation) → option_is_some o ≡ true → is_some (under_way_of o) ≡ true
some_way None e = absurd (false≢true e)
some_way (Some x) e = refl

pub no_way : (o : Option Operation) → option_is_some o ≡ false → under_way_of o ≡ None
no_way None e = refl
no_way (Some x) e = cc

-- too many transactions, or not
pub few : (s : State) (m : ℕ) → not (nat_lt (length s.rows) 4096) ≡ false → s.begins ≢ m → (not (nat_lt (length s.rows) 4096) || nat_eq s.begins m) ≡ false
few s m e n = or_from _ _ e (false_from_ne_true (nat_eq s.begins m) (λ y. n (eqb-true s.begins m y)))

pub full_is : (s : State) (o more : ℕ) → o ≡ owed_by s.rows → nat_lt (2 ^ 50) (length s.records + o + more) ≡ log_full (ledger_of s) more
full_is s o more e = ap (λ n. nat_lt (2 ^ 50) (length s.records + n + more)) (e ∙ sym (owed_is s.ends s.rows))

-- room for so many more records
pub not_full : (s : State) (more : ℕ) → log_full (ledger_of s) more ≡ false → length s.records + owed_by s.rows + more ≤ 2 ^ 50
not_full s more e = ltb-false (2 ^ 50) (length s.records + owed_by s.rows + more) (ap (λ n. nat_lt (2 ^ 50) (length s.records + n + more)) (sym (owed_is s.ends s.rows)) ∙ e)

pub refuse_full : (s : State) (t : Txn) → NoneHolds (ready_tests (ledger_of s) t false) → log_full (ledger_of s) 1 ≡ true → Refuses s (Commit t) why.LogFull
refuse_full s t h e = refuse s (Commit t) why.LogFull refl tt (rw (h.0, h.1.0, h.1.1.0, h.1.1.1.0, e) refl)

-- where memory is wanting, it has passed them and needs some
pub commit_memory : (s : State) (t : Txn) → NoneHolds (ready_tests (ledger_of s) t false) → s.failed ≡ false → log_full (ledger_of s) 1 ≡ false → Refuses s (Commit t) why.NoMemory
commit_memory s t h running room = no_memory s (Commit t) running (λ _. (h.0, (h.1.0, (h.1.1.0, (h.1.1.1.0, (room, tt)))))) (λ _. refl)

-- what is so of the row that is found
pub found_of : (P : Row → Type 0) (o : Option Row) → OnFound o P → (r : Row) × (o ≡ Some r) × P r
found_of P None h = absurd h
found_of P (Some r) h = (r, refl, h)

pub on_found : (P : Row → Type 0) (o : Option Row) (r : Row) → o ≡ Some r → P r → OnFound o P
on_found P o r e h = subst (λ (x : Option Row). OnFound x P) (sym e) h
