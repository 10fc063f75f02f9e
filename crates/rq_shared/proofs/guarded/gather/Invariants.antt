use Rattle.std.proofs.Common.{◌≡◌, ◌+◌, length}
use Rattle.std.specs.Prelude.{sum_by}
use Rattle.rq_shared.specs.Passes.{PassView}
use Rattle.rq_shared.proofs.guarded.gather.Given as goal

-- the shares of the passes so far are in
abbrev pub invariant-loop-pass : goal.invariant-loop-pass
invariant-loop-pass g l = (l.all.parts ≡ l.initial.all.parts + length l.yielded) × (l.all.amount ≡ l.initial.all.amount + sum_by (λ (p : PassView). p.calls) l.yielded) × (l.all_taken.parts ≡ l.initial.all_taken.parts + length l.yielded) × (l.all_taken.amount ≡ l.initial.all_taken.amount + sum_by (λ (p : PassView). p.taken) l.yielded)
