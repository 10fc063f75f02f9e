-- A page's bytes, lent to be written over.
use Rattle.std.specs.Prelude.{ℕ, List}
use Rattle.std.specs.Borrow.{Lends, MutBor, Fml, Array, u8}
use Rattle.rq_page.specs.contracts.page.Page.{the_row}

-- the page ends as the last bytes behind the image
abbrev pub LendsImage : MutBor (List ℕ) → MutBor (List ℕ) → Fml
LendsImage page image = Lends the_row (Array u8 4096) page image (λ w. w)
