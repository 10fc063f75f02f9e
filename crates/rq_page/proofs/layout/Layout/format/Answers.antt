use Rattle.std.proofs.Common.{◌≡◌, ℕ, List, ◌∙◌, sym, subst, arith, Some}
use Rattle.rq_page.specs.Sizes.{Sizes}
use Rattle.rq_page.specs.Kinds.{kind_of}
use Rattle.rq_page.specs.Pages.{slot_of}
use Rattle.rq_page.specs.Formatted.{IsHeaderFor, formatted_slot}
use Rattle.rq_page.proofs.Formats.{header_kept, one_more}
use Rattle.rq_page.proofs.layout.Layout.format.Goals as goal

pub loop-slot-init : goal.loop-slot-init
loop-slot-init c =
    let known : kind_of c.args.self.now c.args.page ≡ Some c.unwrap-kind.result = sym c.kind.ensures.kind ∙ c.unwrap-kind.ensures in
    record {
      header = subst (λ k. IsHeaderFor k c.args.page 0 c.set_header.new.self) (sym known) c.set_header.ensures.header;
      slots = λ k low high. absurd (omega arith);
    }

pub loop-slot-preserved : goal.loop-slot-preserved
loop-slot-preserved c =
    let l : Sizes = c.args.self.now in
    let page : ℕ = c.args.page in
    let new : List ℕ = c.put_slot.new.self in
    record {
      header = header_kept (kind_of l page) page 0 c.loop-slot.out new c.put_slot.ensures.header c.loop-slot.invariant.header;
      slots = one_more (λ k. slot_of k new ≡ formatted_slot l page k) c.loop-slot.slot
          (λ k low high. c.put_slot.ensures.others k low (omega arith) (omega arith) ∙ c.loop-slot.invariant.slots k low high)
          (c.put_slot.ensures.slot ∙ c.formatted_slot.ensures);
    }

pub returns : goal.returns
returns c = record {
  header = c.loop-slot.invariant.header;
  slots = λ n low high. c.loop-slot.invariant.slots n low (omega arith);
}
