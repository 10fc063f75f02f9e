-- What slots hold that were given.
use Rattle.std.proofs.Common.{◌≡◌, ℕ, ◌/◌, ◌%◌, ◌<◌, List, [], ◌∷◌, Bool, true, false, cond, nat_eq, Option, None, Some, slice_index, refl, sym, ap, ◌∙◌, subst}
use Rattle.std.proofs.lemmas.List.Elements.{All-head, All-tail}
use Rattle.std.proofs.lemmas.Bool.{eqb-true}
use Rattle.rq_page.specs.Sizes.{Sizes, IsCellAddress, directory_at, sender_at, sender_count}
use Rattle.rq_page.specs.Kinds.{kind_of}
use Rattle.rq_page.specs.Cells.{cell_bytes, cell_in, free_bytes}
use Rattle.rq_page.specs.Directories.{directory_bytes, directory_in}
use Rattle.rq_page.proofs.CellBytes.{cell_in-cell_bytes}
use Rattle.rq_page.proofs.DirectoryBytes.{directory_in-directory_bytes}
use Rattle.rq_page.specs.Slots.{Slot, Free, Used, Sender, Client, held_in, slot_bytes, MayHold, IsCellOf, IsDirectoryOf, IsSlotOf}
use Rattle.rq_page.specs.declared.cell.Cell.{Cell}
use Rattle.rq_page.specs.declared.directory.Directory.{Directory}
use Rattle.rq_page.specs.declared.directory.DirectorySlot.{DirectorySlot}
use Rattle.rq_page.specs.declared.layout.PageKind.{PageKind}
use Rattle.rq_page.specs.declared.layout.PageKind.TheVariants as kind
use Rattle.rq_page.proofs.Addresses.{kind_cells, kind_directory, senders_have_slots}
use Rattle.rq_page.proofs.Spellings.{slot_is_spelling}
use Rattle.rq_views.specs.Stored.{IsStoreSlot}
use Rattle.rq_level.specs.Given.{given_at, HoldsBytes, GivenHolds, IsGiven, AreGiven}
use Rattle.rq_level.specs.ChainPlans.{Beside}
use Rattle.rq_level.specs.declared.slots.Given.{Given}

-- a slot that was given is one of the store
pub record IsSlotAt (z : Sizes) (a : ℕ) (bytes : List ℕ) : Type 0 where
  pub place : IsStoreSlot z a
  pub slot : IsSlotOf z (a / 16) (a % 16) bytes

one_is : (z : Sizes) (a : ℕ) (g : Given) (b : Bool) (rest : Option (List ℕ)) (bytes : List ℕ) → nat_eq g.at a ≡ b → IsGiven z g
    → (rest ≡ Some bytes → IsSlotAt z a bytes) → cond b (Some g.bytes) rest ≡ Some bytes → IsSlotAt z a bytes
one_is z a g true rest bytes same is next e =
    let at : g.at ≡ a = eqb-true g.at a same in
    let it : g.bytes ≡ bytes = cc in
    subst (IsSlotAt z a) it (subst (λ (n : ℕ). IsSlotAt z n g.bytes) at (record { place = is.place; slot = is.bytes }))
one_is z a g false rest bytes same is next e = next e

pub given_is : (z : Sizes) (a : ℕ) (given : List Given) (bytes : List ℕ) → AreGiven z given → given_at a given ≡ Some bytes → IsSlotAt z a bytes
given_is z a [] bytes all e = absurd (let no : None ≡ Some bytes = e in cc)
given_is z a (g ∷ gs) bytes all e =
    one_is z a g (nat_eq g.at a) (given_at a gs) bytes refl (All-head (IsGiven z) g gs all) (given_is z a gs bytes (All-tail (IsGiven z) g gs all)) e

-- what stands in a sender's directory slot
pub record IsGroupTold (z : Sizes) (s : ℕ) (bytes : List ℕ) : Type 0 where
  pub directory : Directory
  pub is : held_in z (directory_at s / 16) bytes ≡ Sender s directory
  pub fits : IsDirectoryOf z s (record { sender = s; directory = directory })
  pub spells : directory_bytes (record { sender = s; directory = directory }) ≡ bytes

group_as : (z : Sizes) (slot : ℕ) (s : ℕ) (bytes : List ℕ) (x : Slot) → held_in z (directory_at s / 16) bytes ≡ x → slot_bytes x ≡ bytes
    → sender_at (directory_at s / 16) slot ≡ s → MayHold (Some kind.Directory) z (directory_at s / 16) slot x → IsGroupTold z s bytes
group_as z slot s bytes Free h p e may = absurd may
group_as z slot s bytes (Used c) h p e may = absurd may
group_as z slot s bytes (Client k) h p e may = absurd may
group_as z slot s bytes (Sender r d) h p e may =
    let own : r ≡ s = may.own ∙ e in
    let fits : IsDirectoryOf z s (record { sender = r; directory = d }) = subst (λ (n : ℕ). IsDirectoryOf z n (record { sender = r; directory = d })) e may in
    record {
      directory = d;
      is = h ∙ ap (λ (n : ℕ). Sender n d) own;
      fits = subst (λ (n : ℕ). IsDirectoryOf z s (record { sender = n; directory = d })) own fits;
      spells = ap (λ (n : ℕ). directory_bytes (record { sender = n; directory = d })) (sym own) ∙ p;
    }

pub group_told : (z : Sizes) (s : ℕ) (bytes : List ℕ) → s < sender_count z → IsSlotOf z (directory_at s / 16) (directory_at s % 16) bytes → IsGroupTold z s bytes
group_told z s bytes below is =
    let a = directory_at s in
    let place = senders_have_slots z s below in
    let known : kind_of z (a / 16) ≡ Some kind.Directory = kind_directory z (a / 16) place.0 place.1 in
    let may = slot_is_spelling z (a / 16) (a % 16) bytes is in
    let there : MayHold (Some kind.Directory) z (a / 16) (a % 16) (held_in z (a / 16) bytes) =
    subst (λ (k : Option PageKind). MayHold k z (a / 16) (a % 16) (held_in z (a / 16) bytes)) known may.0 in
    group_as z (a % 16) s bytes (held_in z (a / 16) bytes) refl may.1 place.3 there

-- what stands in a cell's slot
pub data IsCellTold (z : Sizes) (a : ℕ) (bytes : List ℕ) : Type 0 where
  ToldFree : held_in z (a / 16) bytes ≡ Free → free_bytes ≡ bytes → IsCellTold z a bytes
  ToldUsed : (c : Cell) → held_in z (a / 16) bytes ≡ Used c → IsCellOf z c → cell_bytes c ≡ bytes → IsCellTold z a bytes

cell_as : (z : Sizes) (a slot : ℕ) (bytes : List ℕ) (x : Slot) → held_in z (a / 16) bytes ≡ x → slot_bytes x ≡ bytes → MayHold (Some kind.Cells) z (a / 16) slot x → IsCellTold z a bytes
cell_as z a slot bytes Free h p may = ToldFree h p
cell_as z a slot bytes (Used c) h p may = ToldUsed c h may p
cell_as z a slot bytes (Sender s d) h p may = absurd may
cell_as z a slot bytes (Client k) h p may = absurd may

pub cell_held : (z : Sizes) (a : ℕ) (bytes : List ℕ) → IsCellAddress z a → IsSlotOf z (a / 16) (a % 16) bytes → IsCellTold z a bytes
cell_held z a bytes is slot =
    let known : kind_of z (a / 16) ≡ Some kind.Cells = kind_cells z (a / 16) is.above is.below in
    let may = slot_is_spelling z (a / 16) (a % 16) bytes slot in
    let there : MayHold (Some kind.Cells) z (a / 16) (a % 16) (held_in z (a / 16) bytes) =
    subst (λ (k : Option PageKind). MayHold k z (a / 16) (a % 16) (held_in z (a / 16) bytes)) known may.0 in
    cell_as z a (a % 16) bytes (held_in z (a / 16) bytes) refl may.1 there

-- what is known of a used cell's bytes
pub record IsSpelled (z : Sizes) (bytes : List ℕ) : Type 0 where
  pub fits : IsCellOf z (cell_in bytes)
  pub spells : cell_bytes (cell_in bytes) ≡ bytes

pub used_told : (z : Sizes) (a : ℕ) (bytes : List ℕ) → IsCellTold z a bytes → (slice_index bytes 0 ≡ 0 → ⊥) → IsSpelled z bytes
unfolding free_bytes
used_told z a bytes (ToldFree h p) used = absurd (used (ap (λ b. slice_index b 0) (sym p)))
used_told z a bytes (ToldUsed c h fits p) used =
    let same : c ≡ cell_in bytes = sym (ap cell_in (sym p) ∙ cell_in-cell_bytes c fits.numbers) in
    record { fits = subst (IsCellOf z) same fits; spells = ap cell_bytes (sym same) ∙ p }

-- a slot that was given holds what its bytes say
pub holds : (z : Sizes) (given : List Given) (a : ℕ) (x : Slot) (bytes : List ℕ) → given_at a given ≡ Some bytes → held_in z (a / 16) bytes ≡ x → GivenHolds z given a x
holds z given a x bytes e h = subst (HoldsBytes z a x) (sym e) h

-- what is read of a directory slot that was given is what it holds
pub record IsGroupRead (z : Sizes) (given : List Given) (s : ℕ) (x : DirectorySlot) : Type 0 where
  pub fits : IsDirectoryOf z s (record { sender = s; directory = x.directory })
  pub holds_it : GivenHolds z given (directory_at s) (Sender s x.directory)

pub group_read : (z : Sizes) (given : List Given) (s a : ℕ) (bytes : List ℕ) (x : DirectorySlot) → s < sender_count z → AreGiven z given → a ≡ directory_at s
    → given_at a given ≡ Some bytes → x ≡ directory_in bytes → IsGroupRead z given s x
group_read z given s a bytes x below all at e read =
    let e' : given_at (directory_at s) given ≡ Some bytes = ap (λ (n : ℕ). given_at n given) (sym at) ∙ e in
    let told = group_told z s bytes below (given_is z (directory_at s) given bytes all e').slot in
    let held : DirectorySlot = record { sender = s; directory = told.directory } in
    let same : held ≡ x = sym (read ∙ ap directory_in (sym told.spells) ∙ directory_in-directory_bytes held told.fits.numbers) in
    record {
      fits = subst (λ (y : DirectorySlot). IsDirectoryOf z s (record { sender = s; directory = y.directory })) same told.fits;
      holds_it = subst (λ (y : DirectorySlot). GivenHolds z given (directory_at s) (Sender s y.directory)) same (holds z given (directory_at s) (Sender s told.directory) bytes e' told.is);
    }

-- a slot that was given holds one thing
pub same_held : (z : Sizes) (a : ℕ) (x y : Slot) (o : Option (List ℕ)) → HoldsBytes z a x o → HoldsBytes z a y o → x ≡ y
same_held z a x y None h k = absurd h
same_held z a x y (Some bytes) h k = sym h ∙ k

pub holds_one : (z : Sizes) (given : List Given) (a : ℕ) (x y : Slot) → GivenHolds z given a x → GivenHolds z given a y → x ≡ y
holds_one z given a x y h k = same_held z a x y (given_at a given) h k

-- no cell stands where a link leads
pub beside_none : (z : Sizes) (given : List Given) (a : ℕ) → (a ≡ 0 → ⊥) → ((c : Cell) → GivenHolds z given a (Used c) → ⊥) → (o : Option Cell) → Beside z given a o → ⊥
beside_none z given a some none None h = some h
beside_none z given a some none (Some c) h = none c h
