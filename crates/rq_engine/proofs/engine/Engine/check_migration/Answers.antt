use Rattle.std.proofs.Common.{◌≡◌, ap, ◌∙◌, subst}
use Rattle.rq_page.specs.Sizes.{Sizes, with_tags}
use Rattle.rq_store.specs.State.{State}
use Rattle.rq_engine.specs.Migration.{MayGetTags}
use Rattle.rq_engine.proofs.Opened.{state_is}
use Rattle.rq_engine.proofs.engine.Engine.check_migration.Goals as goal

pub returns-clause-ok : goal.returns-clause-ok
returns-clause-ok g c =
    let z : c.layout.result ≡ c.args.self.now.state.sizes = c.layout.ensures.sizes ∙ ap (λ (s : State). s.sizes) (state_is c.self.view_is) in
    (c.in_ok-check_quiet.ensures.ok, subst (λ (z : Sizes). MayGetTags c.args.pages (record c.args.self.now.state { sizes = z })) z c.in-Some.ensures.some.1)

pub returns-clause-grown : goal.returns-clause-grown
returns-clause-grown g c = c.in-Some.ensures.some.0 ∙ ap (with_tags c.args.pages) (c.layout.ensures.sizes ∙ ap (λ (s : State). s.sizes) (state_is c.self.view_is))
