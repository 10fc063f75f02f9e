-- What slots hold whose bytes spell it.
use Rattle.std.proofs.Common.{◌≡◌, ℕ, ◌/◌, ◌%◌, ◌<◌, List, Option, Some, sym, ap, ◌∙◌, arith, subst}
use Rattle.rq_page.specs.Sizes.{Sizes, IsCellAddress, directory_at, sender_at, sender_count}
use Rattle.rq_page.specs.Kinds.{kind_of}
use Rattle.rq_page.specs.Cells.{cell_slot_bytes}
use Rattle.rq_page.specs.Directories.{directory_bytes}
use Rattle.rq_page.specs.Slots.{Slot, Sender, held_in, of_cell_slot, of_directory_slot, slot_bytes, MayStand, MayHold, IsDirectoryOf, IsSlotOf}
use Rattle.rq_page.specs.declared.cell.CellSlot.{CellSlot}
use Rattle.rq_page.specs.declared.directory.Directory.{Directory}
use Rattle.rq_page.specs.declared.directory.DirectorySlot.{DirectorySlot}
use Rattle.rq_page.specs.declared.layout.PageKind.{PageKind}
use Rattle.rq_page.specs.declared.layout.PageKind.TheVariants as kind
use Rattle.rq_page.proofs.Addresses.{kind_cells, kind_directory, senders_have_slots}
use Rattle.rq_page.proofs.Spellings.{spelling_tells, may_hold_cell, spelled_cell}
use Rattle.rq_views.specs.Stored.{IsStoreSlot}
use Rattle.rq_views.specs.Log.{Write}

-- a write of these fields
abbrev pub record_write : ℕ → Slot → Slot → Write
record_write a before after = record { at = a; before = before; after = after }

-- the slot of a cell's address, with a spelling there
pub cell_told : (z : Sizes) (a : ℕ) (x : CellSlot) → IsCellAddress z a → MayStand z x
    → (held_in z (a / 16) (cell_slot_bytes x) ≡ of_cell_slot x) × IsSlotOf z (a / 16) (a % 16) (cell_slot_bytes x)
cell_told z a x is may =
    let known : kind_of z (a / 16) ≡ Some kind.Cells = kind_cells z (a / 16) is.above is.below in
    let there : MayHold (kind_of z (a / 16)) z (a / 16) (a % 16) (of_cell_slot x) =
    subst (λ (k : Option PageKind). MayHold k z (a / 16) (a % 16) (of_cell_slot x)) (sym known) (may_hold_cell z (a / 16) (a % 16) x may) in
    let told = spelling_tells z (a / 16) (a % 16) (of_cell_slot x) is.slot (omega arith) there in
    let same : slot_bytes (of_cell_slot x) ≡ cell_slot_bytes x = spelled_cell x in
    (ap (held_in z (a / 16)) (sym same) ∙ told.0, subst (IsSlotOf z (a / 16) (a % 16)) same told.1)

-- the slot of a sender's address, with a spelling there
pub directory_told : (z : Sizes) (s : ℕ) (x : DirectorySlot) → s < sender_count z → IsDirectoryOf z s x
    → (held_in z (directory_at s / 16) (directory_bytes x) ≡ of_directory_slot x) × IsSlotOf z (directory_at s / 16) (directory_at s % 16) (directory_bytes x)
directory_told z s x below may =
    let page = directory_at s / 16 in
    let slot = directory_at s % 16 in
    let place = senders_have_slots z s below in
    let known : kind_of z page ≡ Some kind.Directory = kind_directory z page place.0 place.1 in
    let own : IsDirectoryOf z (sender_at page slot) x = subst (λ (n : ℕ). IsDirectoryOf z n x) (sym place.3) may in
    let there : MayHold (kind_of z page) z page slot (of_directory_slot x) =
    subst (λ (k : Option PageKind). MayHold k z page slot (of_directory_slot x)) (sym known) own in
    spelling_tells z page slot (of_directory_slot x) place.2 (omega arith) there

-- addresses of cells and of directory slots are slots of the store
pub cell_place : (z : Sizes) (a : ℕ) → IsCellAddress z a → IsStoreSlot z a
cell_place z a is = record { page_low = omega (arith, is.above); page_high = omega (arith, is.below); slot = is.slot }

pub directory_place : (z : Sizes) (s : ℕ) → s < sender_count z → IsStoreSlot z (directory_at s)
directory_place z s below =
    let place = senders_have_slots z s below in
    record { page_low = place.0; page_high = omega (arith, place.1); slot = place.2 }

-- what is known of bytes that spell what a slot holds
pub record Told (z : Sizes) (a : ℕ) (x : Slot) (bytes : List ℕ) : Type 0 where
  pub place : IsStoreSlot z a
  pub told : held_in z (a / 16) bytes ≡ x
  pub slot : IsSlotOf z (a / 16) (a % 16) bytes

pub group_told : (z : Sizes) (s a : ℕ) (d : Directory) (bytes : List ℕ) → a ≡ directory_at s → s < sender_count z
    → IsDirectoryOf z s (record { sender = s; directory = d }) → bytes ≡ directory_bytes (record { sender = s; directory = d }) → Told z a (Sender s d) bytes
group_told z s a d bytes at below may spelled_so =
    let x : DirectorySlot = record { sender = s; directory = d } in
    let told = directory_told z s x below may in
    subst (λ (n : ℕ). Told z n (Sender s d) bytes) (sym at) (record {
      place = directory_place z s below;
      told = ap (held_in z (directory_at s / 16)) spelled_so ∙ told.0;
      slot = subst (IsSlotOf z (directory_at s / 16) (directory_at s % 16)) (sym spelled_so) told.1;
    })

-- writes with the same fields
pub same_write : (a : ℕ) (x y v w : Slot) → x ≡ v → y ≡ w → record_write a x y ≡ record_write a v w
same_write a x y v w before after = ap (λ (s : Slot). record_write a s y) before ∙ ap (λ (s : Slot). record_write a v s) after

pub same_write_at : (a b : ℕ) (x y v w : Slot) → a ≡ b → x ≡ v → y ≡ w → record_write a x y ≡ record_write b v w
same_write_at a b x y v w at before after = ap (λ (n : ℕ). record_write n x y) at ∙ same_write b x y v w before after
