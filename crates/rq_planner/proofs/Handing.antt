-- Levels that may be handed in for any store.
use Rattle.std.proofs.Common.{◌≡◌, ℕ, zero, suc, ◌<◌, ◌++◌, List, [], ◌∷◌, map, Some, None, sym, ap, ◌∙◌, subst, arith}
use Rattle.rq_page.specs.Sizes.{Sizes, IsInRange}
use Rattle.rq_level.specs.LevelState.{LevelState, HasRoom, told_sizes}
use Rattle.rq_level.specs.Meaning.{kept_at, meaning_of}
use Rattle.rq_level.proofs.Superblock.{ready_once_told}
use Rattle.rq_planner.specs.Handed.{AreForStores}

-- that of single slots, which keeps nothing, that of chains, and that of tags, which learns the sizes
for_stores : (slots chains tags : LevelState) → slots.sizes ≡ None → HasRoom chains → AreForStores (slots ∷ chains ∷ tags ∷ [])
unfolding meaning_of
for_stores slots chains tags none room = record { all = omega arith; ready = by } where
  by : (i : ℕ) (z : Sizes) (bytes : List ℕ) → i < 3 → IsInRange z → told_sizes bytes ≡ Some z → (meaning_of i).ready z ((meaning_of i).note (kept_at (slots ∷ chains ∷ tags ∷ []) i) 1 bytes)
  by zero z bytes lt range told = none
  by (suc zero) z bytes lt range told = ready_once_told chains z bytes room range told
  by (suc (suc zero)) z bytes lt range told = told
  by (suc (suc (suc i))) z bytes lt range told = absurd (omega (arith, lt))

-- put into a vector one after the other
pub handed_in : {X : Type 0} (kept : X → LevelState) (none one two three : List X) (slots chains tags : X) → none ≡ [] → one ≡ none ++ slots ∷ [] → two ≡ one ++ chains ∷ [] → three ≡ two ++ tags ∷ []
    → (kept slots).sizes ≡ None → HasRoom (kept chains) → AreForStores (map kept three)
handed_in kept none one two three slots chains tags empty first second third no_sizes room =
    subst (λ xs. AreForStores (map kept xs)) (sym (third ∙ ap (λ xs. xs ++ tags ∷ []) (second ∙ ap (λ xs. xs ++ chains ∷ []) (first ∙ ap (λ xs. xs ++ slots ∷ []) empty))))
    (for_stores (kept slots) (kept chains) (kept tags) no_sizes room)
