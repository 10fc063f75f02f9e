-- Why no cell may be taken.
use Rattle.std.specs.Prelude.{ℕ}
use Rattle.rq_model.specs.declared.refusal.Refusal.{Refusal}
use Rattle.rq_model.specs.declared.refusal.Refusal.TheVariants as why
use Rattle.rq_page.specs.Sizes.{Sizes}
use Rattle.rq_level.specs.ChainPlans.{IsOfSender}
use Rattle.rq_level.specs.LevelState.{LevelState, NoneFree, SomeFree}

-- where none may be taken for this sender: some are free, or none is
abbrev pub NoCell : Sizes → LevelState → ℕ → Refusal → Type 0
NoCell z k s why.Latched = SomeFree z k
NoCell z k s (why.Damaged d) = IsOfSender s d × NoneFree z k
NoCell z k s _ = ⊥
