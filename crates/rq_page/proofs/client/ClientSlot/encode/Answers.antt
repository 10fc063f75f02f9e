use Rattle.std.proofs.Common.{replicate, ap, ◌∙◌}
use Rattle.rq_bytes.specs.Number.{overlaid}
use Rattle.rq_page.specs.Clients.{client_bytes, client_front}
use Rattle.rq_page.proofs.ClientBytes.{overlaid_front, length-client_front}
use Rattle.rq_page.proofs.client.ClientSlot.encode.Goals as goal

pub returns : goal.returns
unfolding client_bytes
returns c =
    c.place.ensures
    ∙ ap (λ r. overlaid 0 r (replicate 256 0)) c.front.ensures
    ∙ overlaid_front (client_front c.args.self.now) (length-client_front c.args.self.now)
