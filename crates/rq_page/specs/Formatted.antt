-- The headers of a store's pages, and what a formatted store holds.
use Rattle.std.specs.Prelude.{◌≡◌, ℕ, ◌<◌, ◌≤◌, ◌==◌, nat_le, nat_lt, if◌then◌else◌, List, ◌++◌, codes, replicate, Option, Some, None}
use Rattle.byteorder.specs.Endian.{big_bytes}
use Rattle.rq_bytes.specs.Number.{number_at}
use Rattle.rq_page.specs.Sizes.{Sizes, IsInRange, page_count, tags_from, sender_at, client_at}
use Rattle.rq_page.specs.Slots.{Slot, Free, Sender, Client, IsSlotOf, held_in}
use Rattle.rq_page.specs.Kinds.{kind_byte, kind_of}
use Rattle.rq_page.specs.Cells.{free_bytes}
use Rattle.rq_page.specs.Directories.{directory_bytes, new_directory}
use Rattle.rq_page.specs.Clients.{client_bytes, new_client}
use Rattle.rq_page.specs.Pages.{header_of, header_bytes, lsn_of, slot_of}
use Rattle.rq_page.specs.declared.layout.PageKind.{PageKind}
use Rattle.rq_page.specs.declared.layout.PageKind.TheVariants as kind

-- the version of the format: 2 where there are tag pages
abbrev pub version_of : Sizes → ℕ
version_of l = (if l.tags == 0 then 1 else 2)

-- the superblock's words before the zeros: a name, the version, and the sizes
unfoldable pub superblock_front : Sizes → List ℕ
superblock_front l =
    codes "RQMSTORE" ++ (big_bytes 4 (version_of l) ++
    (big_bytes 4 l.directory ++ (big_bytes 4 l.cells ++ big_bytes 4 l.tags)))

-- slot 1 of the superblock
unfoldable pub superblock_bytes : Sizes → List ℕ
superblock_bytes l = superblock_front l ++ replicate 232 0

-- what stands in each slot of a formatted store
abbrev pub formatted_slot : Sizes → ℕ → ℕ → List ℕ
formatted_slot l page slot =
    (if page == 0 then (if slot == 1 then superblock_bytes l else free_bytes) else
    (if nat_le page l.directory then directory_bytes (record {
      sender = sender_at page slot;
      directory = new_directory;
    }) else
    (if nat_lt page (tags_from l) then free_bytes else client_bytes (new_client (client_at l page slot)))))

-- the page's header has this LSN, the number and the kind of its place, and zeros
abbrev pub IsHeaderFor : Option PageKind → ℕ → ℕ → List ℕ → Type 0
IsHeaderFor None page lsn image = ⊥
IsHeaderFor (Some k) page lsn image = header_of image ≡ header_bytes lsn page (kind_byte k)

abbrev pub IsHeaderOf : Sizes → ℕ → List ℕ → Type 0
IsHeaderOf l page image = IsHeaderFor (kind_of l page) page (lsn_of image) image

-- a page of a formatted store
pub record IsFormatted (l : Sizes) (page : ℕ) (image : List ℕ) : Type 0 where
  pub header : IsHeaderFor (kind_of l page) page 0 image
  pub slots : (n : ℕ) → 1 ≤ n → n ≤ 15 → slot_of n image ≡ formatted_slot l page n

-- the number in a slot that the length of the log bounds: how many messages a sender sent, how often a client was marked
abbrev pub count_for : Option PageKind → List ℕ → ℕ
count_for None bytes = 0
count_for (Some kind.Superblock) bytes = 0
count_for (Some kind.Directory) bytes = number_at 8 8 bytes
count_for (Some kind.Cells) bytes = 0
count_for (Some kind.Tags) bytes = number_at 8 8 bytes

abbrev pub count_in : Sizes → ℕ → List ℕ → ℕ
count_in l page bytes = count_for (kind_of l page) bytes

-- what each slot of a page behind the first of a formatted store holds
abbrev pub formatted_content : Sizes → ℕ → ℕ → Slot
formatted_content l page slot =
    (if nat_le page l.directory then Sender (sender_at page slot) new_directory else
    (if nat_lt page (tags_from l) then Free else Client (new_client (client_at l page slot))))

-- the slots of a formatted store are slots, and hold that
abbrev pub FormattedHolds : Type 0
FormattedHolds =
    (l : Sizes) (page slot : ℕ) → IsInRange l → 1 ≤ page → page < page_count l → 1 ≤ slot → slot ≤ 15
    → IsSlotOf l page slot (formatted_slot l page slot)
    × (held_in l page (formatted_slot l page slot) ≡ formatted_content l page slot)
