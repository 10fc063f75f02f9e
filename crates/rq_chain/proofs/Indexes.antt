-- The index of free cells.
use Rattle.std.proofs.Common.{◌≡◌, ℕ, zero, suc, ◌&&◌, not, Bool, true, false, List, length, replicate, get_or, refl, sym, ap, ◌∙◌}
use Rattle.std.proofs.lemmas.Bool.{true≢false}
use Rattle.std.proofs.lemmas.List.{length-replicate}
use Rattle.rq_level.specs.LevelState.{flag_at}
use Rattle.rq_chain.specs.Cells.{Flags, IsIndexed, is_open}

unset_at : (n i : ℕ) → get_or (replicate n false) i false ≡ false
unset_at zero i = refl
unset_at (suc n) zero = refl
unset_at (suc n) (suc i) = unset_at n i

not_open : (f : Flags) (i : ℕ) → flag_at f.free i ≡ false → is_open f i ≡ true → ⊥
not_open f i e o = true≢false (sym o ∙ ap (λ b. b && not (flag_at f.reserved i)) e)

-- no flag is set: there is nothing that the index would have to hold
pub indexed : (n p : ℕ) (free reserved pages : List Bool) → n ≡ 983040 → p ≡ 65536 → free ≡ replicate n false → reserved ≡ replicate n false → pages ≡ replicate p false → IsIndexed (record { free = free; reserved = reserved }) pages
indexed n p free reserved pages cells page_count a d b =
    let none : (i : ℕ) → flag_at free i ≡ false = λ i. ap (λ (l : List Bool). flag_at l i) a ∙ unset_at n i in
    record {
      cells = ap length a ∙ length-replicate n false ∙ cells;
      reserved = ap length d ∙ length-replicate n false ∙ cells;
      page_count = ap length b ∙ length-replicate p false ∙ page_count;
      paged = λ i o. absurd (not_open (record { free = free; reserved = reserved }) i (none i) o);
    }
