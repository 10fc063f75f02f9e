-- Worked refusals: where each may come, and where it may not.
use Rattle.std.specs.Prelude.{◌≡◌, ◌<◌, ◌≤◌, ℕ, zero, suc, List, ◌∷◌}
use Rattle.rq_model.specs.declared.refusal.Refusal.TheVariants.{TooManyTransactions, PoolFull, DiskRead, Damaged}
use Rattle.rq_model.specs.declared.refusal.Damage.TheVariants.{Page}
use Rattle.rq_model.specs.History.{Entry, Call}
use Rattle.rq_model.specs.History.Call.{Begin, Start_send, Start_receive}
use Rattle.rq_model.specs.History.Entry.{Begun, Crash, Refused}
use Rattle.rq_model.specs.Legal.{IsLegal}
use Rattle.rq_model.specs.Worked.{txn, small, opened, hello, committed_once, failed_force}

-- so many transactions that were begun and have not ended
abbrev pub begun_many : ℕ → List Entry
begun_many zero = opened
begun_many (suc n) = Begun (txn 1 (suc n)) ∷ begun_many n

abbrev pub begun_one : List Entry
begun_one = Begun (txn 1 1) ∷ opened

-- a call that would start an operation there
abbrev pub send_hello : Call
send_hello = Start_send (txn 1 1) hello

pub record RefusalsAreWorked : Type 0 where
  -- 4,096 transactions may be open; then there are too many, and not before
  pub many_begun : (n : ℕ) → n ≤ 4096 → IsLegal small (begun_many n)
  pub too_many : (n : ℕ) → n ≡ 4096 → IsLegal small (Refused Begin TooManyTransactions ∷ begun_many n)
  pub not_too_many : (n : ℕ) → n < 4096 → IsLegal small (Refused Begin TooManyTransactions ∷ begun_many n) → ⊥
  pub one_too_many : (n : ℕ) → n ≡ 4096 → IsLegal small (begun_many (suc n)) → ⊥
  pub pool_is_full : IsLegal small (Refused send_hello PoolFull ∷ begun_one)
  pub pool_full_for_nothing : IsLegal small (Refused (Start_receive (txn 1 1)) PoolFull ∷ begun_one) → ⊥
  pub pool_full_before_the_tests : IsLegal small (Refused send_hello PoolFull ∷ opened) → ⊥
  pub disk_not_read : IsLegal small (Refused send_hello DiskRead ∷ begun_one)
  pub disk_not_read_after_failure : IsLegal small (Refused Begin DiskRead ∷ failed_force) → ⊥
  pub disk_not_read_after_crash : IsLegal small (Refused Begin DiskRead ∷ Crash 1 5 ∷ committed_once) → ⊥
  pub damaged : IsLegal small (Refused send_hello (Damaged (Page 3)) ∷ begun_one)
  pub damaged_after_failure : IsLegal small (Refused Begin (Damaged (Page 3)) ∷ failed_force) → ⊥
  pub damaged_after_crash : IsLegal small (Refused Begin (Damaged (Page 3)) ∷ Crash 1 5 ∷ committed_once) → ⊥
