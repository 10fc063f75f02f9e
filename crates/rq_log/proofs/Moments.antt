-- How runs of device calls go on.
use Rattle.std.proofs.Common.{inl, inr, ⊎_elim, ℕ, List, arith}
use Rattle.rq_disk.specs.declared.device.LogDevice.{Ghosts}
use Rattle.rq_disk.specs.Device.{Elapses}
use Rattle.rq_log.specs.Crash.{LeavesOnly}

module _ {L : Type 0} (g : Ghosts L) where
  -- before the first call
  pub started : (old : L) (P : List ℕ → Type 0) → ((c : List ℕ) → g.left_since old (g.moment old) c → P c) → LeavesOnly g old old P
  started old P here = record { later = omega arith; each = here; before = λ t c le left. inl left; keeps = λ t c le left. left }

  -- one call more, after which a crash leaves what has P
  pub goes_on : (old mid new : L) (P may_leave : List ℕ → Type 0) → LeavesOnly g old mid P → Elapses (g.moment mid) (g.moment new) (g.left_since mid) (g.left_since new) may_leave
      → ((c : List ℕ) → may_leave c → P c) → LeavesOnly g old new P
  goes_on old mid new P may_leave so_far time here = record {
    later = omega (arith, so_far.later, time.later);
    each = λ c left. ⊎_elim (so_far.each c) (here c) (time.nothing_else (g.moment old) c so_far.later left);
    before = λ t c le left. ⊎_elim (so_far.before t c le) (λ now. inr (here c now)) (time.nothing_else t c (omega (arith, le, so_far.later)) left);
    keeps = λ t c le left. time.keeps t c (omega (arith, le, so_far.later)) (so_far.keeps t c le left);
  }

  -- a single call
  pub one_call : (old new : L) (P was may_leave : List ℕ → Type 0) → ((c : List ℕ) → g.left_since old (g.moment old) c → was c) → Elapses (g.moment old) (g.moment new) (g.left_since old) (g.left_since new) may_leave
      → ((c : List ℕ) → was c → P c) → ((c : List ℕ) → may_leave c → P c) → LeavesOnly g old new P
  one_call old new P was may_leave only_now time before here = goes_on old old new P may_leave (started old P (λ c left. before c (only_now c left))) time here

  pub weaker : (old new : L) (P R : List ℕ → Type 0) → LeavesOnly g old new P → ((c : List ℕ) → P c → R c) → LeavesOnly g old new R
  weaker old new P R run f = record {
    later = run.later;
    each = λ c left. f c (run.each c left);
    before = λ t c le left. ⊎_elim (λ was. inl was) (λ now. inr (f c now)) (run.before t c le left);
    keeps = run.keeps;
  }

  -- two runs, one after the other
  pub joined : (old mid new : L) (P : List ℕ → Type 0) → LeavesOnly g old mid P → LeavesOnly g mid new P → LeavesOnly g old new P
  joined old mid new P first second = record {
    later = omega (arith, first.later, second.later);
    each = λ c left. ⊎_elim (first.each c) (λ p. p) (second.before (g.moment old) c first.later left);
    before = λ t c le left. ⊎_elim (first.before t c le) (λ p. inr p) (second.before t c (omega (arith, le, first.later)) left);
    keeps = λ t c le left. second.keeps t c (omega (arith, le, first.later)) (first.keeps t c le left);
  }
