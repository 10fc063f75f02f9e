use Rattle.std.proofs.Common.{replicate, ap, ◌∙◌}
use Rattle.rq_bytes.specs.Number.{overlaid}
use Rattle.rq_page.specs.Formatted.{superblock_bytes, superblock_front}
use Rattle.rq_page.proofs.layout.Layout.superblock.Goals as goal

pub returns : goal.returns
unfolding superblock_bytes superblock_front
returns c = c.place.ensures ∙ ap (λ r. overlaid 0 r (replicate 256 0)) c.superblock_front.ensures
