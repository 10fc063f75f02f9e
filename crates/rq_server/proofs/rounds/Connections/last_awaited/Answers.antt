use Rattle.std.proofs.Common.{[], ◌++◌, take, subst, sym, ap, ◌∙◌, arith}
use Rattle.std.specs.List.{filter_map, cons_option}
use Rattle.rq_server.specs.Waiting.{IsLast, awaited_at, tokens}
use Rattle.rq_server.proofs.Waiting.{awaited_more, last_more}
use Rattle.rq_server.proofs.rounds.Connections.last_awaited.Goals as goal

pub loop-at-preserved : goal.loop-at-preserved
loop-at-preserved c =
    let s = c.args.self.now.connections in
    let so_far = filter_map (awaited_at s) (take c.loop-at.at (tokens c.args.self.now)) in
    let there = c.token_at.ensures (omega (arith, c.loop-at-test.true, c.count-at-end.ensures)) in
    let e = awaited_more s (tokens c.args.self.now) c.loop-at.at c.token_at.result there ∙ ap (λ o. so_far ++ cons_option o []) (sym c.awaited_at.ensures) in
    subst (λ lsns. IsLast lsns c.later-last.result) (sym e)
    (last_more so_far c.loop-at.last c.awaited_at.result c.later-last.result c.loop-at.invariant c.later-last.ensures.one c.later-last.ensures.other c.later-last.ensures.among)
