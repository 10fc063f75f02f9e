-- A slot is the one spelling of what it holds.
use Rattle.std.proofs.Common.{◌≡◌, ℕ, List, Option, Some, None, refl, sym, ap, ◌∙◌, subst}
use Rattle.rq_page.specs.Sizes.{Sizes, sender_at, client_at}
use Rattle.rq_page.specs.Kinds.{kind_of}
use Rattle.rq_page.specs.Cells.{cell_slot_bytes, cell_slot_in, cell_bytes, free_bytes, IsCellSlot}
use Rattle.rq_page.specs.Directories.{directory_bytes, directory_in, IsDirectorySlot}
use Rattle.rq_page.specs.Clients.{client_bytes, client_in, IsClientSlot}
use Rattle.rq_page.specs.Slots.{Slot, Free, Used, Sender, Client, of_cell_slot, of_directory_slot, slot_bytes, held_for, IsDirectoryOf, IsClientOf, MayStand, HoldsCell, HoldsDirectory, HoldsClient, IsSlotFor, MayHold, SpellingTells, SlotIsSpelling}
use Rattle.rq_page.specs.declared.cell.CellSlot.{CellSlot}
use Rattle.rq_page.specs.declared.cell.CellSlot.TheVariants as cells
use Rattle.rq_page.specs.declared.directory.DirectorySlot.{DirectorySlot}
use Rattle.rq_page.specs.declared.client.ClientSlot.{ClientSlot}
use Rattle.rq_page.specs.declared.layout.PageKind.{PageKind}
use Rattle.rq_page.specs.declared.layout.PageKind.TheVariants as kind
use Rattle.rq_page.proofs.CellBytes.{cell_slot_in-cell_slot_bytes}
use Rattle.rq_page.proofs.DirectoryBytes.{directory_in-directory_bytes}
use Rattle.rq_page.proofs.ClientBytes.{client_in-client_bytes}

-- bytes that spell what may stand in a cell's slot hold it
pub holds_cell : (l : Sizes) (x : CellSlot) (bytes : List ℕ) → IsCellSlot x → cell_slot_bytes x ≡ bytes → MayStand l x → HoldsCell l bytes
holds_cell l x bytes is e may =
    let read : cell_slot_in bytes ≡ x = ap cell_slot_in (sym e) ∙ cell_slot_in-cell_slot_bytes x is in
    record { held = subst (MayStand l) (sym read) may; spelled_so = ap cell_slot_bytes read ∙ e }

-- and they hold nothing else
pub held_cell : (l : Sizes) (x : CellSlot) (bytes : List ℕ) → IsCellSlot x → cell_slot_bytes x ≡ bytes → HoldsCell l bytes → MayStand l x
held_cell l x bytes is e holds =
    let read : cell_slot_in bytes ≡ x = ap cell_slot_in (sym e) ∙ cell_slot_in-cell_slot_bytes x is in
    subst (MayStand l) read holds.held

pub holds_directory : (l : Sizes) (sender : ℕ) (x : DirectorySlot) (bytes : List ℕ) → directory_bytes x ≡ bytes → IsDirectoryOf l sender x → HoldsDirectory l sender bytes
holds_directory l sender x bytes e may =
    let read : directory_in bytes ≡ x = ap directory_in (sym e) ∙ directory_in-directory_bytes x may.numbers in
    record { held = subst (IsDirectoryOf l sender) (sym read) may; spelled_so = ap directory_bytes read ∙ e }

pub held_directory : (l : Sizes) (sender : ℕ) (x : DirectorySlot) (bytes : List ℕ) → IsDirectorySlot x → directory_bytes x ≡ bytes → HoldsDirectory l sender bytes → IsDirectoryOf l sender x
held_directory l sender x bytes is e holds =
    let read : directory_in bytes ≡ x = ap directory_in (sym e) ∙ directory_in-directory_bytes x is in
    subst (IsDirectoryOf l sender) read holds.held

pub holds_client : (client : ℕ) (x : ClientSlot) (bytes : List ℕ) → client_bytes x ≡ bytes → IsClientOf client x → HoldsClient client bytes
holds_client client x bytes e may =
    let read : client_in bytes ≡ x = ap client_in (sym e) ∙ client_in-client_bytes x may.numbers in
    record { held = subst (IsClientOf client) (sym read) may; spelled_so = ap client_bytes read ∙ e }

pub held_client : (client : ℕ) (x : ClientSlot) (bytes : List ℕ) → IsClientSlot x → client_bytes x ≡ bytes → HoldsClient client bytes → x.client ≡ client
held_client client x bytes is e holds =
    let read : client_in bytes ≡ x = ap client_in (sym e) ∙ client_in-client_bytes x is in
    (subst (IsClientOf client) read holds.held).own

-- the spelling of what a slot may hold, by the page's kind
tells_for : (k : Option PageKind) (l : Sizes) (page slot : ℕ) (x : Slot) → MayHold k l page slot x
    → (held_for k (slot_bytes x) ≡ x) × IsSlotFor k l page slot (slot_bytes x)
tells_for None l page slot x may = absurd may
tells_for (Some kind.Superblock) l page slot x may = absurd may
tells_for (Some kind.Directory) l page slot Free may = absurd may
tells_for (Some kind.Directory) l page slot (Used c) may = absurd may
tells_for (Some kind.Directory) l page slot (Client x) may = absurd may
tells_for (Some kind.Directory) l page slot (Sender s d) may =
    let x : DirectorySlot = record { sender = s; directory = d } in
    (ap of_directory_slot (directory_in-directory_bytes x may.numbers), holds_directory l (sender_at page slot) x (directory_bytes x) refl may)
tells_for (Some kind.Cells) l page slot Free may =
    (ap of_cell_slot (cell_slot_in-cell_slot_bytes cells.Free tt), holds_cell l cells.Free free_bytes tt refl tt)
tells_for (Some kind.Cells) l page slot (Used c) may =
    (ap of_cell_slot (cell_slot_in-cell_slot_bytes (cells.Used c) may.numbers), holds_cell l (cells.Used c) (cell_bytes c) may.numbers refl may)
tells_for (Some kind.Cells) l page slot (Sender s d) may = absurd may
tells_for (Some kind.Cells) l page slot (Client x) may = absurd may
tells_for (Some kind.Tags) l page slot Free may = absurd may
tells_for (Some kind.Tags) l page slot (Used c) may = absurd may
tells_for (Some kind.Tags) l page slot (Sender s d) may = absurd may
tells_for (Some kind.Tags) l page slot (Client x) may =
    (ap Client (client_in-client_bytes x may.numbers), holds_client (client_at l page slot) x (client_bytes x) refl may)

pub spelling_tells : SpellingTells
spelling_tells l page slot x low high may =
    let told = tells_for (kind_of l page) l page slot x may in
    (told.0, record { low = low; high = high; held = told.1 })

-- what stands in a cell's slot, as a slot of the store
pub may_hold_cell : (l : Sizes) (page slot : ℕ) (x : CellSlot) → MayStand l x → MayHold (Some kind.Cells) l page slot (of_cell_slot x)
may_hold_cell l page slot cells.Free may = tt
may_hold_cell l page slot (cells.Used c) may = may

pub spelled_cell : (x : CellSlot) → slot_bytes (of_cell_slot x) ≡ cell_slot_bytes x
spelled_cell cells.Free = refl
spelled_cell (cells.Used c) = refl

is_spelling_for : (k : Option PageKind) (l : Sizes) (page slot : ℕ) (bytes : List ℕ) → IsSlotFor k l page slot bytes
    → MayHold k l page slot (held_for k bytes) × (slot_bytes (held_for k bytes) ≡ bytes)
is_spelling_for None l page slot bytes is = absurd is
is_spelling_for (Some kind.Superblock) l page slot bytes is = absurd is
is_spelling_for (Some kind.Directory) l page slot bytes is = (is.held, is.spelled_so)
is_spelling_for (Some kind.Tags) l page slot bytes is = (is.held, is.spelled_so)
is_spelling_for (Some kind.Cells) l page slot bytes is =
    (may_hold_cell l page slot (cell_slot_in bytes) is.held, spelled_cell (cell_slot_in bytes) ∙ is.spelled_so)

pub slot_is_spelling : SlotIsSpelling
slot_is_spelling l page slot bytes is = is_spelling_for (kind_of l page) l page slot bytes is.held
