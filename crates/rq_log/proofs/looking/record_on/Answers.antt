use Rattle.std.proofs.Common.{drop}
use Rattle.std.proofs.lemmas.Result.{IfErr-weaker}
use Rattle.rq_log.proofs.Places.{none_on_device, none_read}
use Rattle.rq_log.proofs.looking.record_on.Goals as goal

pub returns-in-Ok-clause-none : goal.returns-in-Ok-clause-none
returns-in-Ok-clause-none g c =
    let l = g.L.LogDevice in
    let seen = l.seen c.args.device.now in
    IfErr-weaker c.front.result _ _
    (λ e none. none_read l e (drop c.args.place seen) c.args.device.now c.read.new.self none.0 c.in-Ok.ensures.cause.ok
    (λ h. none_on_device c.in-Ok.count c.args.place seen _ _ (c.in-Ok.ensures.count h) (c.in-Ok.ensures.bytes h) none.1)) c.front.ensures.none
