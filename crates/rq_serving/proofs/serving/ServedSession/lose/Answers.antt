use Rattle.std.proofs.Common.{sym, ap, ◌∙◌}
use Rattle.rq_session.specs.declared.session.Session.{Session}
use Rattle.rq_serving.proofs.Holding.{carries_lost, none_held}
use Rattle.rq_serving.proofs.serving.ServedSession.lose.Goals as goal

pub returns : goal.returns
returns g c =
    let lost = c.lost-action.ensures.lost in
    let none = none_held c.args.self.now.held (sym c.is_some.ensures ∙ c.if-is_some.false) in (
      c.lost-action.new.self,
      ap (λ (x : Session). x.lost) lost,
      ap (λ (x : Session). x.stage) lost,
      carries_lost g.G.Gate.answers g.S.Steps.made g.S.Steps.told _ _ _ _ _ _ _ _ _ _ _ none c.lost-action.ensures.action
          c.carried.ensures,
    )
