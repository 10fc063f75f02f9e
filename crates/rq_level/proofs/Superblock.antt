-- The superblock's slot tells the sizes.
use Rattle.std.proofs.Common.{◌≡◌, ℕ, ◌&&◌, nat_le, cond, List, Bool, true, Some, None, ◌∙◌, ap, arith}
use Rattle.std.proofs.lemmas.Bool.{and_from, le-leb}
use Rattle.rq_bytes.specs.Number.{number_at}
use Rattle.rq_page.specs.Formatted.{IsFormatted}
use Rattle.rq_page.specs.Pages.{slot_of}
use Rattle.rq_page.specs.Sizes.{Sizes, IsInRange}
use Rattle.rq_page.proofs.Formats as formats
use Rattle.rq_level.specs.LevelState.{LevelState, HasRoom, KnowsStore, in_range, noted, sizes_at, told_sizes}

within : (z : Sizes) → IsInRange z → in_range z ≡ true
within z r =
    and_from ((nat_le 1 z.directory && nat_le z.directory 1024) && (nat_le 1 z.cells && nat_le z.cells 65536)) (nat_le z.tags 1024)
    (and_from (nat_le 1 z.directory && nat_le z.directory 1024) (nat_le 1 z.cells && nat_le z.cells 65536)
    (and_from (nat_le 1 z.directory) (nat_le z.directory 1024) (le-leb 1 z.directory r.directory_low) (le-leb z.directory 1024 r.directory_high))
    (and_from (nat_le 1 z.cells) (nat_le z.cells 65536) (le-leb 1 z.cells r.cells_low) (le-leb z.cells 65536 r.cells_high)))
    (le-leb z.tags 1024 r.tags_high)

all : (z : Sizes) (d c t : ℕ) → d ≡ z.directory → c ≡ z.cells → t ≡ z.tags → (let made : Sizes = record { directory = d; cells = c; tags = t } in made) ≡ z
all z d c t a b e =
    ap (λ (n : ℕ). let made : Sizes = record { directory = n; cells = c; tags = t } in made) a
    ∙ ap (λ (n : ℕ). let made : Sizes = record { directory = z.directory; cells = n; tags = t } in made) b
    ∙ ap (λ (n : ℕ). let made : Sizes = record { directory = z.directory; cells = z.cells; tags = n } in made) e

-- the superblock's slot tells them
pub sizes_told : (z : Sizes) (image bytes : List ℕ) → IsInRange z → IsFormatted z 0 image → bytes ≡ slot_of 1 image → told_sizes bytes ≡ Some z
sizes_told z image bytes range is at =
    let told = formats.told_sizes z image range is in
    let made : sizes_at bytes ≡ z = all z (number_at 4 12 bytes) (number_at 4 16 bytes) (number_at 4 20 bytes) (ap (number_at 4 12) at ∙ told.0) (ap (number_at 4 16) at ∙ told.1) (ap (number_at 4 20) at ∙ told.2) in
    ap (λ (l : Sizes). cond (in_range l) (Some l) None) made ∙ ap (λ (b : Bool). cond b (Some z) None) (within z range)

-- a level of chains with room for the greatest store is ready for one once it is told its sizes
pub ready_once_told : (k : LevelState) (z : Sizes) (bytes : List ℕ) → HasRoom k → IsInRange z → told_sizes bytes ≡ Some z → KnowsStore z (noted k 1 bytes)
ready_once_told k z bytes room range told = record {
  sizes = told;
  free = (let n = room.free in let high = range.cells_high in omega (arith, n, high));
  reserved = (let n = room.reserved in let high = range.cells_high in omega (arith, n, high));
}
