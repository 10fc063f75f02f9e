use Rattle.std.proofs.Common.{◌∙◌, refl, subst, sym}
use Rattle.rq_restart.specs.Again.{NotReadFor}
use Rattle.rq_restart.proofs.ReadAgain.{not_own, not_read}
use Rattle.rq_restart.proofs.again.own_record.Goals as goal

pub returns-in-Err-clause-err : goal.returns-in-Err-clause-err
returns-in-Err-clause-err g c =
    let at = c.requires.stands in
    subst (λ x. NotReadFor g.L.LogDevice x c.args.lsn c.args.reader.now.device c.at.new.self.device) (sym c.not_given.ensures)
    (not_read g.L.LogDevice c.args.reader.now.device c.at.new.self.device c.args.lsn c.args.kept.place c.args.reader.now.records at.0 at.1 c.in-Err.refusal c.in-Err.ensures.err)

pub returns-else-is_of-clause-err : goal.returns-else-is_of-clause-err
returns-else-is_of-clause-err g c =
    let at = c.requires.stands in
    (refl, c.in-Ok.ensures.cause, λ honest. not_own c.args.kept.by c.in-Ok.told at.0 (sym c.is_of.ensures.own ∙ c.if-is_of.false) (c.in-Ok.ensures.found honest at.0 at.1) at.2)
