use Rattle.std.proofs.Common.{subst, sym}
use Rattle.std.specs.Prelude.{IfErr, IfOk}
use Rattle.rq_engine.specs.Checkpoint.{HasMadeOneRecord, NotCheckpointed}
use Rattle.rq_engine.specs.Opened.{OpenStore}
use Rattle.rq_laws.proofs.Making.{checkpoints_alike}
use Rattle.rq_laws.proofs.calls.checkpoint.Goals as goal

pub returns : goal.returns
returns g c =
    let P = g.P.PageDevice in
    let L = g.L.LogDevice in
    let y = c.checkpoint-2.new.self in
    checkpoints_alike P L c.args.first.now c.checkpoint.new.self y _ _ c.checkpoint.ensures.made c.checkpoint.ensures.refused
    (subst (λ (o : OpenStore _ _). IfOk c.checkpoint-2.result (HasMadeOneRecord P L o y)) (sym c.requires.same) c.checkpoint-2.ensures.made)
    (subst (λ (o : OpenStore _ _). IfErr c.checkpoint-2.result (NotCheckpointed P L o y)) (sym c.requires.same) c.checkpoint-2.ensures.refused)
