-- The slots that pages hold.
use Rattle.std.proofs.Common.{◌≡◌, ℕ, ◌/◌, ◌%◌, ◌≤◌, Bool, true, cond, nat_lt, List, Option, Some, sym, ◌∙◌, ap, subst, arith}
use Rattle.std.proofs.lemmas.Bool.Decides.{nat_tests}
use Rattle.rq_page.specs.Sizes.{Sizes}
use Rattle.rq_page.specs.Slots.{Free, held_in, IsSlotOf, MayHold, SpellingTells}
use Rattle.rq_page.specs.Cells.{free_bytes}
use Rattle.rq_page.specs.Kinds.{kind_of}
use Rattle.rq_page.specs.declared.layout.PageKind.{PageKind}
use Rattle.rq_page.specs.declared.layout.PageKind.TheVariants as kind
use Rattle.rq_views.specs.Stored.{slot_at, slots_in}

-- what a slot that the pages have holds
pub slots_here : (z : Sizes) (images : List (List ℕ)) (a : ℕ) → 1 ≤ a % 16 → slots_in z images a ≡ held_in z (a / 16) (slot_at images a)
slots_here z images a low =
    let some : nat_lt 0 (a % 16) ≡ true = grind (arith, nat_tests) in
    ap (λ (b : Bool). cond b (held_in z (a / 16) (slot_at images a)) Free) some

-- the bytes of a free cell are those of a slot of each page of cells
pub free_is_slot : (z : Sizes) (page slot : ℕ) (bytes free : List ℕ) → 1 ≤ slot → slot ≤ 15 → kind_of z page ≡ Some kind.Cells → bytes ≡ free → free ≡ free_bytes → SpellingTells → IsSlotOf z page slot bytes
free_is_slot z page slot bytes free low high is same spelled tells =
    let may : MayHold (kind_of z page) z page slot Free = subst (λ (k : Option PageKind). MayHold k z page slot Free) (sym is) tt in
    subst (IsSlotOf z page slot) (sym (same ∙ spelled)) ((tells z page slot Free low high may).1)
