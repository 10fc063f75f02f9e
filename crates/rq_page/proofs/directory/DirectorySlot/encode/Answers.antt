use Rattle.std.proofs.Common.{replicate, ap, ◌∙◌}
use Rattle.rq_bytes.specs.Number.{overlaid}
use Rattle.rq_page.specs.Directories.{directory_bytes, directory_front}
use Rattle.rq_page.proofs.DirectoryBytes.{overlaid_once, length-directory_front}
use Rattle.rq_page.proofs.directory.DirectorySlot.encode.Goals as goal

pub returns : goal.returns
unfolding directory_bytes
returns c =
    c.place.ensures
    ∙ ap (λ r. overlaid 0 r (replicate 256 0)) c.front.ensures
    ∙ overlaid_once (directory_front c.args.self.now) (length-directory_front c.args.self.now)
