-- The pages of a store that are no tag pages are the same however many tag pages it has.
use Rattle.std.proofs.Common.{◌≡◌, ℕ, ◌<◌, List, Option, Some, None, nat_lt, true, refl, sym, ap, subst, inl, inr}
use Rattle.std.proofs.lemmas.Bool.{lt-ltb}
use Rattle.rq_page.specs.declared.cell.CellSlot.{CellSlot}
use Rattle.rq_page.specs.declared.cell.CellSlot.TheVariants as cells
use Rattle.rq_page.specs.declared.layout.PageKind.{PageKind}
use Rattle.rq_page.specs.declared.layout.PageKind.TheVariants as kind
use Rattle.rq_page.specs.Sizes.{Sizes, IsLink, tags_from, with_tags}
use Rattle.rq_page.specs.Kinds.{kind_of}
use Rattle.rq_page.specs.Cells.{cell_slot_in}
use Rattle.rq_page.specs.Slots.{held_for, held_in, MayStand, IsSlotFor, IsSlotOf}

module _ (z : Sizes) (n : ℕ) where
  pub kind_kept : (page : ℕ) → page < tags_from z → kind_of (with_tags n z) page ≡ kind_of z page
  kind_kept page h = let below : nat_lt page (tags_from z) ≡ true = lt-ltb page (tags_from z) h in rw below refl

  -- bytes hold there what they held
  pub held_kept : (page : ℕ) (bytes : List ℕ) → page < tags_from z → held_in (with_tags n z) page bytes ≡ held_in z page bytes
  held_kept page bytes h = ap (λ k. held_for k bytes) (kind_kept page h)

  link_kept : (a : ℕ) → IsLink z a → IsLink (with_tags n z) a
  link_kept a (inl none) = inl none
  link_kept a (inr cell) = inr (record { above = cell.above; below = cell.below; slot = cell.slot })

  cell_kept : (x : CellSlot) → MayStand z x → MayStand (with_tags n z) x
  cell_kept cells.Free h = tt
  cell_kept (cells.Used c) h = record { numbers = h.numbers; sender = h.sender; next = link_kept c.next h.next; prev = link_kept c.prev h.prev }

  slot_for_kept : (k : Option PageKind) (page slot : ℕ) (bytes : List ℕ) → IsSlotFor k z page slot bytes → IsSlotFor k (with_tags n z) page slot bytes
  slot_for_kept None page slot bytes h = absurd h
  slot_for_kept (Some kind.Superblock) page slot bytes h = absurd h
  slot_for_kept (Some kind.Directory) page slot bytes h = record {
    held = record { numbers = h.held.numbers; own = h.held.own; head = link_kept _ h.held.head; tail = link_kept _ h.held.tail };
    spelled_so = h.spelled_so;
  }
  slot_for_kept (Some kind.Cells) page slot bytes h = record { held = cell_kept (cell_slot_in bytes) h.held; spelled_so = h.spelled_so }
  slot_for_kept (Some kind.Tags) page slot bytes h = h

  -- a slot of such a page is one still
  pub slot_kept : (page slot : ℕ) (bytes : List ℕ) → page < tags_from z → IsSlotOf z page slot bytes → IsSlotOf (with_tags n z) page slot bytes
  slot_kept page slot bytes below h = record {
    low = h.low;
    high = h.high;
    held = subst (λ (k : Option PageKind). IsSlotFor k (with_tags n z) page slot bytes) (sym (kind_kept page below)) (slot_for_kept (kind_of z page) page slot bytes h.held);
  }
