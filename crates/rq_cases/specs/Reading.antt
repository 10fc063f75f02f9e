-- What was only read of pages, which of them is damaged, and which cell a send takes.
use Rattle.std.specs.Prelude.{ℕ, List, [], ◌∷◌}
use Rattle.rq_page.specs.Formatted.{formatted_slot}
use Rattle.rq_cases.specs.Store.{groups_0, page_image, sizes}

-- the superblock alone, and with the directory page
abbrev pub superblock : List ℕ
superblock = page_image 0 0 0 (formatted_slot sizes 0)

abbrev pub no_cells : List (List ℕ)
no_cells = superblock ∷ page_image 0 1 1 groups_0 ∷ [] ∷ []
