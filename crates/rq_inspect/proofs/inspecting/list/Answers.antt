use Rattle.std.proofs.Common.{ap, sym, subst}
use Rattle.rq_model.specs.declared.refusal.Refusal.{Refusal}
use Rattle.rq_inspect.specs.Inspections.{IsStopped}
use Rattle.rq_inspect.specs.declared.inspecting.Stop.TheVariants as stops
use Rattle.std.specs.Io.KnownBytes.{Appends}
use Rattle.rq_inspect.proofs.Stopped.{nothing_begun}
use Rattle.rq_inspect.proofs.inspecting.list.Goals as goal

pub returns-in-Err-clause-stopped : goal.returns-in-Err-clause-stopped
returns-in-Err-clause-stopped g c =
    let w = g.W.Write.contents c.args.writer.now in
    subst (λ (e : Refusal). IsStopped g.L.LogDevice (stops.Refused e) c.args.log c.in-Err.stopped.device (Appends w w)) (sym c.in-Err.ensures.err.0)
    (ap g.L.LogDevice.faults c.in-Err.ensures.err.1, λ h. nothing_begun (g.L.LogDevice.seen c.args.log) w)
