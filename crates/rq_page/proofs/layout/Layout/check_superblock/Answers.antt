use Rattle.std.proofs.Common.{◌≡◌, ℕ, List, true, false, Some, ap, ◌∙◌, sym, subst}
use Rattle.rq_bytes.specs.Number.{number_at}
use Rattle.rq_page.specs.Sizes.{Sizes, IsInRange}
use Rattle.rq_page.specs.Pages.{slot_of}
use Rattle.rq_page.specs.Formatted.{IsFormatted}
use Rattle.rq_page.proofs.Formats.{told_sizes}
use Rattle.rq_page.proofs.layout.Layout.check_superblock.Goals as goal

-- the sizes read from a slot are those that the superblock tells
same_sizes : (l : Sizes) (image told : List ℕ) (directory cells tags : ℕ) → IsInRange l → IsFormatted l 0 image
    → told ≡ slot_of 1 image → directory ≡ number_at 4 12 told → cells ≡ number_at 4 16 told → tags ≡ number_at 4 20 told
    → (let made : Sizes = record { directory = directory; cells = cells; tags = tags } in made) ≡ l
same_sizes l image told directory cells tags range is t d e f =
    let sizes = told_sizes l image range is in
    ap (λ (k : ℕ × ℕ × ℕ). let made : Sizes = record { directory = k.0; cells = k.1; tags = k.2 } in made)
    (let all : (directory, cells, tags) ≡ (l.directory, l.cells, l.tags) =
    let one : directory ≡ l.directory = d ∙ ap (number_at 4 12) t ∙ sizes.0 in
    let two : cells ≡ l.cells = e ∙ ap (number_at 4 16) t ∙ sizes.1 in
    let three : tags ≡ l.tags = f ∙ ap (number_at 4 20) t ∙ sizes.2 in
    cc in all)

pub returns-in_err-layout-clause-only : goal.returns-in_err-layout-clause-only
returns-in_err-layout-clause-only c = λ l range is.
    let made = same_sizes l c.args.image.now c.slot-told.result.now c.u32_at.result c.u32_at-2.result c.u32_at-3.result range is c.slot-told.ensures c.u32_at.ensures c.u32_at-2.ensures c.u32_at-3.ensures in
    let clash : false ≡ true = c.in_err-layout.ensures.fits.1 (subst IsInRange (sym made) range) in
    cc

pub returns-then-is_formatted-clause-only : goal.returns-then-is_formatted-clause-only
returns-then-is_formatted-clause-only c = λ l range is.
    let made = same_sizes l c.args.image.now c.slot-told.result.now c.u32_at.result c.u32_at-2.result c.u32_at-3.result range is c.slot-told.ensures c.u32_at.ensures c.u32_at-2.ensures c.u32_at-3.ensures in
    ap Some (c.in_ok-layout.ensures.sizes ∙ made)

pub returns-else-is_formatted-clause-only : goal.returns-else-is_formatted-clause-only
returns-else-is_formatted-clause-only c = λ l range is.
    let made = same_sizes l c.args.image.now c.slot-told.result.now c.u32_at.result c.u32_at-2.result c.u32_at-3.result range is c.slot-told.ensures c.u32_at.ensures c.u32_at-2.ensures c.u32_at-3.ensures in
    let formatted = subst (λ (m : Sizes). IsFormatted m 0 c.args.image.now) (sym (c.in_ok-layout.ensures.sizes ∙ made)) is in
    let clash : false ≡ true = sym c.if-is_formatted.false ∙ c.is_formatted.ensures.1 formatted in
    cc
