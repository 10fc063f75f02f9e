-- When two calls agree that put one record in the place of all.
use Rattle.std.specs.Prelude.{◌≡◌, ◌≢◌, ℕ, ◌≤◌, ◌<◌, List, Result, IfErr, IfOk}
use Rattle.rq_model.specs.declared.refusal.Refusal.{Refusal}
use Rattle.rq_model.specs.declared.refusal.Refusal.TheVariants as why
use Rattle.rq_disk.specs.declared.device.LogDevice as log_device
use Rattle.rq_disk.specs.declared.device.PageDevice as page_device
use Rattle.rq_page.specs.Sizes.{page_count}
use Rattle.rq_engine.specs.Opened.{OpenStore}
use Rattle.rq_laws.specs.Refusals.{RefuseAlike}

-- this is so where neither call is refused
abbrev pub OnBoth : {X Y : Type 0} → Result X Refusal → Result Y Refusal → Type 0 → Type 0
OnBoth a b Q = IfOk a (λ _. IfOk b (λ _. Q))

-- Two calls made these of one store. They answer the same LSN and leave the same state. Both logs read as the same bytes. A crash
-- leaves the same of both logs, and of each page of the store but the first. Where one is refused, so is the other, but for a device
-- that failed, and never for memory. Refused for the same, they leave the same state. Unless a device failed, they leave the store as
-- it was.
pub record MakeAlike {P L : Type 0} (p : page_device.Ghosts P) (l : log_device.Ghosts L) (old x y : OpenStore P L)
    (a b : Result ℕ Refusal) : Type 0 where
  pub same : IfOk a (λ i. IfOk b (λ j. i ≡ j))
  pub state : OnBoth a b (x.state ≡ y.state)
  pub stopped : IfErr a (λ r. IfErr b (λ s. r ≡ s → x.state ≡ y.state))
  pub refused : IfErr a (λ r. r ≢ why.DiskWrite → x ≡ old)
  pub memory : IfErr a (λ r. r ≢ why.NoMemory)
  pub reads : OnBoth a b (l.honest x.log → l.honest y.log → l.seen x.log ≡ l.seen y.log)
  pub durable : OnBoth a b (l.honest x.log → l.honest y.log → (c d : List ℕ) → l.may_leave x.log c → l.may_leave y.log d → c ≡ d)
  pub pages : OnBoth a b (p.honest x.pages → p.honest y.pages → (q : ℕ) → 1 ≤ q → q < page_count old.state.sizes
      → (c d : List ℕ) → p.may_be x.pages q c → p.may_be y.pages q d → c ≡ d)
  pub decided : RefuseAlike a b
