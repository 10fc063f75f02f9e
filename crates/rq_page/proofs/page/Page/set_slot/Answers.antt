use Rattle.std.proofs.Common.{ap, ◌∙◌, ◌++◌, List, ℕ, ◌≡◌, sym, drop}
use Rattle.byteorder.specs.Endian.{big_bytes, big_number}
use Rattle.rq_page.specs.Pages.{lsn_of, header_of, rest_of_header, slot_of}
use Rattle.rq_page.proofs.PageParts.{lsn_of_header, rest_of_header_of, lsn-set, rest-set, header-lsn_set, header-stamped, slots-lsn_set}
use Rattle.rq_page.proofs.page.Page.set_slot.Goals as goal

pub returns : goal.returns
returns c =
    let p : List ℕ = c.self.inside.bytes in
    let between : List ℕ = c.write_u64.new.buf in
    let new : List ℕ = c.put_slot.new.self in
    let header : header_of new ≡ header_of between = c.put_slot.ensures.header in
    let lsn : lsn_of new ≡ c.args.lsn =
    lsn_of_header new ∙ ap (big_number 8) header ∙ sym (lsn_of_header between)
    ∙ ap lsn_of c.write_u64.ensures ∙ lsn-set c.args.lsn p c.ranges.lsn.fits in
    let whole =
    header ∙ ap header_of c.write_u64.ensures ∙ header-lsn_set c.args.lsn p
    ∙ ap (λ (r : List ℕ). big_bytes 8 c.args.lsn ++ rest_of_header r) c.self.view_is in
    record {
      written = record {
        lsn = lsn;
        header =
            rest_of_header_of new ∙ ap (drop 8) header ∙ sym (rest_of_header_of between)
            ∙ ap rest_of_header c.write_u64.ensures ∙ rest-set c.args.lsn p ∙ ap rest_of_header c.self.view_is;
        slot = c.put_slot.ensures.slot;
        others = λ k low high other.
            c.put_slot.ensures.others k low high other
            ∙ ap (slot_of k) c.write_u64.ensures
            ∙ slots-lsn_set c.args.lsn p c.self.told k low high
            ∙ ap (slot_of k) c.self.view_is;
      };
      header = λ z page is. header-stamped z page c.args.lsn _ new lsn whole is;
    }
