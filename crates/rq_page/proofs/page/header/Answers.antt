use Rattle.std.proofs.Common.{replicate, ap, ◌∙◌}
use Rattle.rq_bytes.specs.Number.{overlaid}
use Rattle.rq_page.specs.Kinds.{kind_byte}
use Rattle.rq_page.proofs.PageParts.{header_made}
use Rattle.rq_page.proofs.page.header.Goals as goal

pub returns : goal.returns
returns c =
    c.place.ensures
    ∙ ap (λ r. overlaid 0 r (replicate 256 0)) c.front.ensures
    ∙ header_made c.args.lsn c.args.number (kind_byte c.args.kind)
