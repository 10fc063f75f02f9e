use Rattle.std.proofs.Common.{◌++◌, ◌∷◌, [], ◌∙◌, ap, sym}
use Rattle.rq_shared.specs.Entries.{noted}
use Rattle.rq_workers.specs.Keeping.{entries_left}
use Rattle.rq_workers.proofs.Leaving.{leaves}
use Rattle.rq_workers.proofs.kept.KeptStepsSteps.call.Goals as goal

-- src/kept.rt:95:9
pub invariant_of-self : goal.invariant_of-self
invariant_of-self g c =
    let step = c.step-stamped.ensures in
    let stamped = c.step-stamped.result in
    let old = c.args.self.now in
    let stamp = ap (λ p. noted p c.args.event stamped.reply) (sym step.pass) ∙ ap (λ e. noted stamped.pass e stamped.reply) (sym step.event) in
    record {
      audit = leaves stamped old.made.value old.kept.audit c.step-stamped.new.self.audit old.begun.value.audit (λ n. step.entry n ∙ ap (λ x. old.kept.audit ++ x ∷ []) stamp) (λ e. (step.no_entry e).audit) old.audit ∙ ap (λ l. old.begun.value.audit ++ entries_left l) (sym c.push.ensures);
      base = (step.base.0 ∙ old.base.0, step.base.1 ∙ old.base.1);
    }
