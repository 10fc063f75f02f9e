use Rattle.std.proofs.Common.{ap, ◌∙◌, List, ℕ}
use Rattle.rq_page.specs.Pages.{header_of, slot_of}
use Rattle.rq_page.proofs.PageParts.{header-put, slot-put, others-put}
use Rattle.rq_page.proofs.page.Page.put_slot.Goals as goal

pub returns : goal.returns
returns c =
    let n : ℕ = c.args.n in
    let image : List ℕ = c.args.image.now in
    let p : List ℕ = c.self.inside.bytes in
    record {
      header =
          ap header_of c.place.ensures
          ∙ header-put n image p c.requires.low c.requires.high c.told-image c.self.told
          ∙ ap header_of c.self.view_is;
      slot =
          ap (slot_of n) c.place.ensures
          ∙ slot-put n image p c.requires.low c.requires.high c.told-image c.self.told;
      others = λ k low high other.
          ap (slot_of k) c.place.ensures
          ∙ others-put n image p c.requires.low c.requires.high c.told-image c.self.told k low high other
          ∙ ap (slot_of k) c.self.view_is;
    }
