use Rattle.std.proofs.Common.{◌≡◌, true, List, ℕ, Some, sym, ap, ◌∙◌, arith}
use Rattle.std.proofs.lemmas.Bool.{true≢false}
use Rattle.rq_page.specs.declared.directory.DirectorySlot.{DirectorySlot}
use Rattle.rq_page.specs.Directories.{directory_in, directory_bytes}
use Rattle.rq_page.proofs.DirectoryBytes.{directory_in-directory_bytes}
use Rattle.rq_page.proofs.directory.DirectorySlot.decode.Goals as goal

pub returns-then-held-clause-only : goal.returns-then-held-clause-only
returns-then-held-clause-only c = λ held is e.
    let same : c.read-held.result ≡ held = c.read-held.ensures ∙ ap directory_in (sym e) ∙ directory_in-directory_bytes held is in
    let received : c.read-held.result.directory.received ≡ held.directory.received = ap (λ (x : DirectorySlot). x.directory.received) same in
    let sent : c.read-held.result.directory.sent ≡ held.directory.sent = ap (λ (x : DirectorySlot). x.directory.sent) same in
    absurd (omega (arith, received, sent, is.received))

pub returns-then-are_equal-clause-only : goal.returns-then-are_equal-clause-only
returns-then-are_equal-clause-only c = λ held is e.
    ap Some (c.read-held.ensures ∙ ap directory_in (sym e) ∙ directory_in-directory_bytes held is)

pub returns-else-are_equal-clause-only : goal.returns-else-are_equal-clause-only
returns-else-are_equal-clause-only c = λ held is e.
    let bytes : List ℕ = c.args.bytes.now in
    let whole : c.encode.result ≡ bytes =
    c.encode.ensures ∙ ap directory_bytes (c.read-held.ensures ∙ ap directory_in (sym e) ∙ directory_in-directory_bytes held is) ∙ e in
    let same : c.are_equal.result ≡ true = c.are_equal.ensures.1 whole in
    absurd (true≢false (sym same ∙ c.if-are_equal.false))
