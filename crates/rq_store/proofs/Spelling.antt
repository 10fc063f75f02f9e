-- A log spelled in bytes goes back to the slots and deeds that it was spelled from.
use Rattle.std.proofs.Common.{◌≡◌, ℕ, ◌/◌, ◌%◌, ◌≤◌, List, [], ◌∷◌, refl, sym, ◌∙◌, ap, subst, arith}
use Rattle.rq_model.specs.Deeds.{TellsItself}
use Rattle.rq_page.specs.Kinds.{kind_of}
use Rattle.rq_page.specs.Sizes.{Sizes}
use Rattle.rq_page.specs.Slots.{Slot, MayHold, IsSlotOf, held_in, slot_bytes}
use Rattle.rq_page.proofs.Spellings.{spelling_tells}
use Rattle.rq_views.specs.InStore.{InStore, InStoreOne, IsDeedOf}
use Rattle.rq_views.specs.Items.{items, item_of, told_deed}
use Rattle.rq_views.specs.Log.{Item}
use Rattle.rq_views.specs.Log.Item.{PageOp, PageUndo, OpEnd}
use Rattle.rq_store.specs.Whole.{BeforesAreSlots, IsBefore}
use Rattle.rq_store.specs.Worked.{record_of, spelled_log}
use Rattle.rq_store.proofs.Owing.{address_is}

-- the slot may stand at the address
pub record MayStandAt (z : Sizes) (a : ℕ) (x : Slot) : Type 0 where
  pub low : 1 ≤ a % 16
  pub holds : MayHold (kind_of z (a / 16)) z (a / 16) (a % 16) x

abbrev pub IsSpelt : Sizes → Item → Type 0
IsSpelt z (PageOp o w) = MayStandAt z w.at w.before × MayStandAt z w.at w.after
IsSpelt z (PageUndo o u at after) = MayStandAt z at after
IsSpelt z (OpEnd o d) = TellsItself d × IsDeedOf z d
IsSpelt z _ = Unit {0}

abbrev pub AreSpelt : Sizes → List Item → Type 0
AreSpelt z [] = Unit {0}
AreSpelt z (i ∷ log) = IsSpelt z i × AreSpelt z log

told : (z : Sizes) (a : ℕ) (x : Slot) → MayStandAt z a x
    → (held_in z (a / 16) (slot_bytes x) ≡ x) × IsSlotOf z (a / 16) (a % 16) (slot_bytes x)
told z a x h = spelling_tells z (a / 16) (a % 16) x h.low (omega arith) h.holds

one_back : (z : Sizes) (i : Item) → IsSpelt z i → item_of z (record_of i) ≡ i
one_back z (PageOp o w) h =
    let page = w.at / 16 in
    ap (λ a. PageOp o (record { at = a; before = held_in z page (slot_bytes w.before); after = held_in z page (slot_bytes w.after) })) (address_is w.at)
    ∙ ap (λ x. PageOp o (record { at = w.at; before = x; after = held_in z page (slot_bytes w.after) })) (told z w.at w.before h.0).0
    ∙ ap (λ x. PageOp o (record { at = w.at; before = w.before; after = x })) (told z w.at w.after h.1).0
one_back z (PageUndo o u at after) h =
    ap (λ a. PageUndo o u a (held_in z (at / 16) (slot_bytes after))) (address_is at)
    ∙ ap (λ x. PageUndo o u at x) (told z at after h).0
one_back z (OpEnd o d) h = ap (λ e. OpEnd o (told_deed e)) h.0
one_back z _ h = refl

pub items_back : (z : Sizes) (log : List Item) → AreSpelt z log → items z (spelled_log log) ≡ log
items_back z [] h = refl
items_back z (i ∷ log) h =
    ap (λ x. x ∷ items z (spelled_log log)) (one_back z i h.0) ∙ ap (λ l. i ∷ l) (items_back z log h.1)

one_in_store : (z : Sizes) (i : Item) → IsSpelt z i → InStoreOne z (record_of i)
one_in_store z (PageOp o w) h = (told z w.at w.after h.1).1
one_in_store z (PageUndo o u at after) h = (told z at after h).1
one_in_store z (OpEnd o d) h = subst (λ e. IsDeedOf z (told_deed e)) (sym h.0) h.1
one_in_store z _ h = tt

pub in_store : (z : Sizes) (log : List Item) → AreSpelt z log → InStore z (spelled_log log)
in_store z [] h = tt
in_store z (i ∷ log) h = (one_in_store z i h.0, in_store z log h.1)

one_before : (z : Sizes) (i : Item) → IsSpelt z i → IsBefore z (record_of i)
one_before z (PageOp o w) h = (told z w.at w.before h.0).1
one_before z _ h = tt

pub befores : (z : Sizes) (log : List Item) → AreSpelt z log → BeforesAreSlots z (spelled_log log)
befores z [] h = tt
befores z (i ∷ log) h = (one_before z i h.0, befores z log h.1)
