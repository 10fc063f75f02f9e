use Rattle.std.proofs.Common.{ℕ, List}
use Rattle.std.proofs.lemmas.Bool.{eqb-true, eq-eqb}
use Rattle.rq_page.specs.declared.client.ClientSlot.{ClientSlot}
use Rattle.rq_page.proofs.Spellings.{holds_client, held_client}
use Rattle.rq_page.proofs.check.check_client_slot.Goals as goal

pub returns-in-Some : goal.returns-in-Some
returns-in-Some c =
    let bytes : List ℕ = c.args.bytes.now in
    let held : ClientSlot = c.in-Some.held in
    let some = c.in-Some.ensures.some in
    (λ yes. holds_client c.args.client held bytes some.1 (record { numbers = some.0; own = eqb-true held.client c.args.client yes }), λ holds. eq-eqb held.client c.args.client (held_client c.args.client held bytes some.0 some.1 holds))
