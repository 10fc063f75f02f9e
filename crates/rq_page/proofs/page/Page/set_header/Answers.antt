use Rattle.std.proofs.Common.{ap, ◌∙◌, List, ℕ, ◌≡◌, length, arith}
use Rattle.rq_page.specs.Kinds.{kind_byte}
use Rattle.rq_page.specs.Pages.{header_of, slot_of}
use Rattle.rq_page.proofs.PageParts.{header-set, slots-set, length-header_bytes}
use Rattle.rq_page.proofs.page.Page.set_header.Goals as goal

pub returns : goal.returns
returns c =
    let p : List ℕ = c.self.inside.bytes in
    let long : length c.header.result ≡ 256 =
    ap length c.header.ensures ∙ length-header_bytes 0 c.args.number (kind_byte c.args.kind) in
    record {
      header =
          ap header_of c.place.ensures ∙ header-set c.header.result p long c.self.told ∙ c.header.ensures;
      slots = λ k low high.
          ap (slot_of k) c.place.ensures
          ∙ slots-set c.header.result p (omega (arith, long)) c.self.told k low high
          ∙ ap (slot_of k) c.self.view_is;
    }
