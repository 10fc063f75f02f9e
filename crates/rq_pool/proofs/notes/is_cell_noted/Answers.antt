use Rattle.std.proofs.Common.{◌≡◌, ◌↔◌, ◌∙◌, ◌/◌, ◌%◌, IsTrue, ℕ, ap, subst, sym}
use Rattle.std.proofs.Math.Bool.{beq}
use Rattle.rq_bitset.specs.Flags.{flag_at}
use Rattle.rq_page.specs.Pages.{slot_of}
use Rattle.rq_page.specs.Sizes.{cell_at, place_of}
use Rattle.rq_page.specs.Slots.{held_in}
use Rattle.rq_page.proofs.Addresses.{cells_have_places, places_are_cells}
use Rattle.rq_pool.specs.Indexed.{IsNotedOn, free_cells, free_flag}
use Rattle.rq_pool.proofs.Indexes.{told_so}
use Rattle.rq_pool.proofs.notes.is_cell_noted.Goals as goal

pub returns : goal.returns
returns c =
    let z = c.args.layout.now in
    let at = c.args.at in
    let place = c.cell_place-place.result in
    let cell = c.is_cell_address.ensures.0 c.if-not-is_cell_address.false in
    let is : place ≡ place_of z at = c.cell_place-place.ensures.value in
    let there : cell_at z place ≡ at = ap (cell_at z) is ∙ (places_are_cells z at cell).1 in
    let told = told_so c.args.free.now place (free_flag (held_in z (at / 16) (slot_of (at % 16) c.args.page.now))) c.has.result c.is_free.result c.has.ensures c.is_free.ensures in
    let so : (IsTrue (beq c.has.result c.is_free.result) ↔ IsNotedOn (free_cells z) z c.args.page.now c.args.free.now place) =
    subst (λ (a : ℕ). IsTrue (beq c.has.result c.is_free.result) ↔ (flag_at c.args.free.now place ≡ free_flag (held_in z (a / 16) (slot_of (a % 16) c.args.page.now)))) (sym there) told in (
      λ t k lt same. subst (λ (i : ℕ). IsNotedOn (free_cells z) z c.args.page.now c.args.free.now i) (is ∙ ap (place_of z) (sym same) ∙ (cells_have_places z k lt).1) (so.0 t),
      λ noted. so.1 (noted place c.cell_place-place.ensures.below there),
    )
