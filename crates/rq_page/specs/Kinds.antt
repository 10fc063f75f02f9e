-- Which page is of which kind.
use Rattle.std.specs.Prelude.{ℕ, ◌==◌, nat_lt, nat_le, if◌then◌else◌, Option, Some, None}
use Rattle.rq_page.specs.Sizes.{Sizes, page_count, tags_from}
use Rattle.rq_page.specs.declared.layout.PageKind.{PageKind}
use Rattle.rq_page.specs.declared.layout.PageKind.TheVariants as kind

-- the byte that stands for a kind in a page's header
abbrev pub kind_byte : PageKind → ℕ
kind_byte kind.Superblock = 0
kind_byte kind.Directory = 1
kind_byte kind.Cells = 2
kind_byte kind.Tags = 3

-- the first page is the superblock, then come the directory pages, the cell pages and the tag pages
abbrev pub kind_of : Sizes → ℕ → Option PageKind
kind_of l page =
    (if page == 0 then Some kind.Superblock else
    (if nat_le page l.directory then Some kind.Directory else
    (if nat_lt page (tags_from l) then Some kind.Cells else
    (if nat_lt page (page_count l) then Some kind.Tags else None))))
