use Rattle.std.proofs.Common.{sym, subst}
use Rattle.std.proofs.lemmas.Result.{IfErr-weaker}
use Rattle.rq_page.specs.Sizes.{Sizes}
use Rattle.rq_restart.specs.Undoing.{IsToBeWritten}
use Rattle.rq_restart.proofs.redo.bring_in.Goals as goal

pub returns-in_default-clause-stands : goal.returns-in_default-clause-stands
returns-in_default-clause-stands g c = λ page wanted. absurd (c.in_default.ensures.none page (subst (λ (z : Sizes). IsToBeWritten z c.args.record.now page) (sym c.layout.ensures.sizes) wanted))

pub returns-clause-fails : goal.returns-clause-fails
returns-clause-fails g c =
    let wanted = subst (λ (z : Sizes). IsToBeWritten z c.args.record.now c.in-Some.page) c.layout.ensures.sizes c.in-Some.ensures.some in
    IfErr-weaker c.bring_in.result _ _ (λ e f. (c.in-Some.page, wanted, f)) c.bring_in.ensures.refused
