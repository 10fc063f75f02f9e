use Rattle.std.proofs.Common.{◌/◌, ◌<◌, ◌≡◌, ◌∙◌, ℕ, ap, subst, sym}
use Rattle.rq_page.specs.Sizes.{Sizes, client_count, client_slot_at}
use Rattle.rq_pool.specs.Fetching.{IsAtHand}
use Rattle.rq_pool.proofs.Fetched.{fetched_as}
use Rattle.rq_pool.proofs.Pages.read_client.Goals as goal

pub client_at_hand-requires-clause-known : goal.client_at_hand-requires-clause-known
client_at_hand-requires-clause-known g c = subst (λ (z : Sizes). c.args.client < client_count z) (sym (c.look.ensures.read.kept 0).sizes) c.requires

pub returns-in-Ok-clause-fetched : goal.returns-in-Ok-clause-fetched
returns-in-Ok-clause-fetched g c =
    fetched_as g.P.PageDevice _ _ _ _ c.args.self.now _ (c.page.ensures ∙ ap (λ a. a / 16) (c.client_slot_of-at.ensures ∙ ap (λ (z : Sizes). client_slot_at z c.args.client) c.layout.ensures.sizes)) c.in-Ok.ensures

pub client_at_hand-requires-clause-hand : goal.client_at_hand-requires-clause-hand
client_at_hand-requires-clause-hand g c =
    subst (λ (n : ℕ). IsAtHand c.look.new.self n) (c.page.ensures ∙ ap (λ a. a / 16) (c.client_slot_of-at.ensures ∙ ap (λ (z : Sizes). client_slot_at z c.args.client) (c.layout.ensures.sizes ∙ sym (c.look.ensures.read.kept 0).sizes))) c.in-Ok.ensures.hand
