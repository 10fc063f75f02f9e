use Rattle.std.proofs.Common.{◌≡◌, true, List, ℕ, Some, sym, ap, ◌∙◌}
use Rattle.std.proofs.lemmas.Bool.{true≢false}
use Rattle.rq_page.specs.Clients.{client_in, client_bytes}
use Rattle.rq_page.proofs.ClientBytes.{client_in-client_bytes}
use Rattle.rq_page.proofs.client.ClientSlot.decode.Goals as goal

pub returns-then-are_equal-clause-only : goal.returns-then-are_equal-clause-only
returns-then-are_equal-clause-only c = λ held is e.
    ap Some (c.read-held.ensures ∙ ap client_in (sym e) ∙ client_in-client_bytes held is)

pub returns-else-are_equal-clause-only : goal.returns-else-are_equal-clause-only
returns-else-are_equal-clause-only c = λ held is e.
    let bytes : List ℕ = c.args.bytes.now in
    let whole : c.encode.result ≡ bytes =
    c.encode.ensures ∙ ap client_bytes (c.read-held.ensures ∙ ap client_in (sym e) ∙ client_in-client_bytes held is) ∙ e in
    let same : c.are_equal.result ≡ true = c.are_equal.ensures.1 whole in
    absurd (true≢false (sym same ∙ c.if-are_equal.false))
