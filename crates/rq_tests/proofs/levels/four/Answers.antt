use Rattle.std.proofs.Common.{◌≡◌, ℕ, zero, suc, ◌<◌, ◌++◌, [], ◌∷◌, List, map, None, Some, sym, ap, ◌∙◌, subst, arith}
use Rattle.rq_page.specs.Sizes.{Sizes, IsInRange}
use Rattle.rq_level.specs.LevelState.{LevelState, HasRoom, told_sizes}
use Rattle.rq_level.specs.Meaning.{kept_at, meaning_of}
use Rattle.rq_level.proofs.Superblock.{ready_once_told}
use Rattle.rq_planner.specs.Handed.{AreForStores}
use Rattle.rq_tests.proofs.levels.four.Goals as goal

-- those of a store, and one that keeps nothing
for_stores : (slots chains tags bystander : LevelState) → slots.sizes ≡ None → HasRoom chains → bystander.sizes ≡ None → AreForStores (slots ∷ chains ∷ tags ∷ bystander ∷ [])
unfolding meaning_of
for_stores slots chains tags bystander none room nothing = record { all = omega arith; ready = by } where
  by : (i : ℕ) (z : Sizes) (bytes : List ℕ) → i < 4 → IsInRange z → told_sizes bytes ≡ Some z → (meaning_of i).ready z ((meaning_of i).note (kept_at (slots ∷ chains ∷ tags ∷ bystander ∷ []) i) 1 bytes)
  by zero z bytes lt range told = none
  by (suc zero) z bytes lt range told = ready_once_told chains z bytes room range told
  by (suc (suc zero)) z bytes lt range told = told
  by (suc (suc (suc zero))) z bytes lt range told = nothing
  by (suc (suc (suc (suc i)))) z bytes lt range told = absurd (omega (arith, lt))

pub new-requires-clause-fit : goal.new-requires-clause-fit
new-requires-clause-fit g c =
    subst (λ xs. AreForStores (map g.B.Level.kept xs))
    (sym (c.in_ok-push-4.ensures.items ∙ ap (λ xs. xs ++ c.args.bystander ∷ []) (c.in_ok-push-3.ensures.items ∙ ap (λ xs. xs ++ c.args.tags ∷ []) (c.in_ok-push-2.ensures.items ∙ ap (λ xs. xs ++ c.args.chains ∷ []) (c.in_ok-push.ensures.items ∙ ap (λ xs. xs ++ c.args.slots ∷ []) c.in_ok-levels.ensures.items)))))
    (for_stores (g.B.Level.kept c.args.slots) (g.B.Level.kept c.args.chains) (g.B.Level.kept c.args.tags) (g.B.Level.kept c.args.bystander) c.requires.sizes c.requires.room c.requires.nothing)
