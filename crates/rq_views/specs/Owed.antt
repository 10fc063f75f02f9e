-- What an operation under way owes to its plan.
use Rattle.std.specs.Prelude.{◌≡◌, ℕ, Bool, true, false, List}
use Rattle.rq_model.specs.declared.txn.Sub.{Sub}
use Rattle.rq_views.specs.Log.{Write, HasBefores, Untouched, same_op, LogState}
use Rattle.rq_views.specs.Legal.{onto}

-- o, which has latched these pages, owes these writes, the next one first
pub record Owes (page : ℕ → ℕ) (z : LogState) (o : Sub) (latched : ℕ → Bool) (owed : List Write) : Type 0 where
  pub fits : HasBefores (onto owed (z.writes o)) z.quiet
  pub within : (a : ℕ) → latched (page a) ≡ false → Untouched a (onto owed (z.writes o))
  pub alone : (p : ℕ) → latched p ≡ true → (u : Sub) → same_op o u ≡ false → z.stands u p ≡ false
