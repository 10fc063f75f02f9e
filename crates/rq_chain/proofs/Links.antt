-- The links that stand in a slot's bytes.
use Rattle.std.proofs.Common.{◌≡◌, ℕ, List, refl, subst}
use Rattle.rq_bytes.specs.Number.{number_at, with_number}
use Rattle.rq_page.specs.Cells.{cell_bytes, cell_front, cell_in}
use Rattle.rq_page.specs.Directories.{directory_in}
use Rattle.rq_page.specs.declared.cell.Cell.{Cell}
use Rattle.rq_views.specs.Plans.{with_next, with_prev}

pub tail_told : (bytes : List ℕ) → number_at 8 40 bytes ≡ (directory_in bytes).directory.tail
unfolding directory_in
tail_told bytes = refl

pub head_told : (bytes : List ℕ) → number_at 8 32 bytes ≡ (directory_in bytes).directory.head
unfolding directory_in
head_told bytes = refl

pub next_told : (bytes : List ℕ) → number_at 8 24 bytes ≡ (cell_in bytes).next
unfolding cell_in
next_told bytes = refl

pub prev_told : (bytes : List ℕ) → number_at 8 32 bytes ≡ (cell_in bytes).prev
unfolding cell_in
prev_told bytes = refl

pub sequence_told : (bytes : List ℕ) → number_at 8 8 bytes ≡ (cell_in bytes).sequence
unfolding cell_in
sequence_told bytes = refl

pub tag_told : (bytes : List ℕ) → number_at 8 16 bytes ≡ (cell_in bytes).tag
unfolding cell_in
tag_told bytes = refl

-- a link that is written over that of a cell
pub next_placed : (c : Cell) (next : ℕ) (bytes : List ℕ) → cell_bytes c ≡ bytes → with_number 8 24 next bytes ≡ cell_bytes (with_next next c)
unfolding cell_bytes cell_front
next_placed c next bytes e = subst (λ (b : List ℕ). with_number 8 24 next b ≡ cell_bytes (with_next next c)) e refl

pub prev_placed : (c : Cell) (prev : ℕ) (bytes : List ℕ) → cell_bytes c ≡ bytes → with_number 8 32 prev bytes ≡ cell_bytes (with_prev prev c)
unfolding cell_bytes cell_front
prev_placed c prev bytes e = subst (λ (b : List ℕ). with_number 8 32 prev b ≡ cell_bytes (with_prev prev c)) e refl
