use Rattle.std.proofs.Common.{subst, ap}
use Rattle.rq_engine.specs.Applied.{Applied}
use Rattle.rq_engine.specs.Opened.{OpenStore}
use Rattle.rq_shared.specs.declared.kept.AuditEntry.{AuditEntry}
use Rattle.rq_shared.proofs.NoEntries.{follows_kept}
use Rattle.rq_shared.proofs.Replaying.{one_noted}
use Rattle.rq_shared.proofs.kept.Kept.step.Goals as goal

pub invariant_of-self-2 : goal.invariant_of-self-2
invariant_of-self-2 g c =
    let before = c.self.inside in
    let entry : AuditEntry = record { pass = c.args.pass; event = c.in-Ok.noted_event; reply = c.in-Ok-copy_of.noted_reply } in
    one_noted g.P.PageDevice g.L.LogDevice before.base.value before.engine c.apply-reply.new.self before.audit.items c.add_entry.new.audit.items entry c.args.event c.apply-reply.result
    (rw c.in-Ok.ensures.audit at c.add_entry.ensures) c.in-Ok.ensures.copy c.in-Ok-copy_of.ensures.same c.self.invariant c.apply-reply.ensures.applied

pub returns-clause-applied : goal.returns-clause-applied
returns-clause-applied g c some =
    subst (λ (old : OpenStore _ _). Applied g.P.PageDevice g.L.LogDevice old c.args.event c.apply-reply.result c.apply-reply.new.self) (ap (λ k. k.engine) c.self.view_is) c.apply-reply.ensures.applied

pub invariant_of-self-in_default-copy_of : goal.invariant_of-self-in_default-copy_of
invariant_of-self-in_default-copy_of g c =
    let before = c.self.inside in
    rw (c.in-Ok.ensures.audit) (follows_kept g.P.PageDevice g.L.LogDevice before.base.value before.engine c.apply-reply.new.self _ c.self.invariant (c.apply-reply.ensures.content c.in_default-copy_of.ensures.content))

pub invariant_of-self-then-is_no_memory : goal.invariant_of-self-then-is_no_memory
invariant_of-self-then-is_no_memory g c =
    let before = c.self.inside in
    rw (c.in-Ok.ensures.audit) (follows_kept g.P.PageDevice g.L.LogDevice before.base.value before.engine c.apply-reply.new.self _ c.self.invariant (c.apply-reply.ensures.no_memory (c.is_no_memory.ensures.0 c.if-is_no_memory.true)))
