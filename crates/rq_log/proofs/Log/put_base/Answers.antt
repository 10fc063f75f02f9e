use Rattle.std.proofs.Common.{ℕ, subst, sym, ap, ◌∙◌, refl}
use Rattle.rq_model.specs.declared.record.Record.TheVariants.{Base}
use Rattle.rq_disk.specs.Records.{AreRecords}
use Rattle.rq_record.specs.Spelling.{IsInRange, spelling}
use Rattle.rq_log.proofs.Kept.{none_pending, replaced_not, replaced_moments, one_base}
use Rattle.rq_log.proofs.Log.put_base.Goals as goal
use Rattle.rq_log.proofs.Log.put_base.Goals.{in-Ok, in-Err}

pub replace-replaced-requires : goal.replace-replaced-requires
replace-replaced-requires g c =
    let k = c.self.invariant in
    let fits : IsInRange (Base c.self.inside.last c.args.incarnation) = subst (λ (n : ℕ). IsInRange (Base n c.args.incarnation)) (sym k.count) (rw (← c.self.view_is) at c.requires.record) in
    (1, subst (AreRecords 1) (sym c.base_bytes-base.ensures) (one_base c.self.inside.last c.args.incarnation fits))

pub invariant_of-self : goal.invariant_of-self
invariant_of-self g c =
    replaced_not g.L.LogDevice _ _ c.self.inside.buffer.items _ c.self.invariant (rw (← c.self.view_is) at c.requires.running) (rw (← c.self.view_is) at c.requires.forced) c.args.incarnation (rw (← c.self.view_is) at c.requires.record)
    c.replace-replaced.new.self c.replace-replaced.ensures.honest c.base_bytes-base.result c.base_bytes-base.ensures c.replace-replaced.ensures.crash

pub returns-clause-idle : goal.returns-clause-idle
returns-clause-idle g c =
    none_pending g.L.LogDevice _ _ c.self.inside.buffer.items _ c.self.invariant (rw (← c.self.view_is) at c.requires.running) (rw (← c.self.view_is) at c.requires.forced) c.args.incarnation (rw (← c.self.view_is) at c.requires.record)
    c.replace-replaced.new.self c.replace-replaced.ensures.honest c.base_bytes-base.result c.base_bytes-base.ensures c.replace-replaced.ensures.crash

pub returns-clause-any_moment : goal.returns-clause-any_moment
returns-clause-any_moment g c =
    rw (← c.self.view_is) (replaced_moments g.L.LogDevice _ _ c.self.inside.buffer.items _ c.self.invariant (rw (← c.self.view_is) at c.requires.running) (rw (← c.self.view_is) at c.requires.forced) c.args.incarnation (rw (← c.self.view_is) at c.requires.record)
    c.replace-replaced.new.self c.replace-replaced.ensures.honest c.base_bytes-base.result c.base_bytes-base.ensures c.replace-replaced.ensures.crash (g.met.L.LogDevice.only_now c.self.inside.device) c.replace-replaced.ensures.time)

pub returns-clause-same : goal.returns-clause-same
returns-clause-same g c = rw (← c.self.view_is) refl

pub returns-clause-reads : goal.returns-clause-reads
returns-clause-reads g c = elim c.match-replaced.branch [
  | in-Ok w ↦ rw w.result-is (rw (← c.self.view_is) (w.in-Ok.ensures.left ∙ c.base_bytes-base.ensures ∙ ap (λ (n : ℕ). spelling (Base n c.args.incarnation)) c.self.invariant.count))
  | in-Err w ↦ rw w.result-is tt
]

pub returns-clause-durable : goal.returns-clause-durable
returns-clause-durable g c = elim c.match-replaced.branch [
  | in-Ok w ↦ rw w.result-is (rw (← c.self.view_is) (λ b left. w.in-Ok.ensures.durable b left ∙ c.base_bytes-base.ensures ∙ ap (λ (n : ℕ). spelling (Base n c.args.incarnation)) c.self.invariant.count))
  | in-Err w ↦ rw w.result-is tt
]
