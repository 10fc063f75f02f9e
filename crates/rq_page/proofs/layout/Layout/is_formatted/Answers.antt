use Rattle.std.proofs.Common.{◌≡◌, ◌∙◌, sym}
use Rattle.std.proofs.lemmas.Bool.{not-false}
use Rattle.std.proofs.lemmas.Slice.Eq.{bytes_eq-Decides}
use Rattle.rq_page.specs.Pages.{slot_of}
use Rattle.rq_page.specs.Formatted.{formatted_slot}
use Rattle.rq_page.proofs.Formats.{one_more}
use Rattle.rq_page.proofs.layout.Layout.is_formatted.Goals as goal

pub loop-slot-preserved : goal.loop-slot-preserved
loop-slot-preserved c =
    let same = (bytes_eq-Decides c.slot.result.now c.formatted_slot.result).0 (not-false _ (sym c.ne.ensures ∙ c.if-ne.false)) in
    one_more (λ k. slot_of k c.args.image.now ≡ formatted_slot c.args.self.now c.args.page k) c.loop-slot.slot c.loop-slot.invariant
    (sym c.slot.ensures ∙ same ∙ c.formatted_slot.ensures)
