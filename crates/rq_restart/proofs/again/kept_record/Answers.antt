use Rattle.std.proofs.Common.{◌∙◌, refl, sym}
use Rattle.rq_restart.proofs.ReadAgain.{not_own, not_told}
use Rattle.rq_restart.proofs.again.kept_record.Goals as goal

pub returns-in-Err-clause-err : goal.returns-in-Err-clause-err
returns-in-Err-clause-err g c =
    let some = c.in-Some.ensures.some in
    let at = c.requires.has.stands c.in-Some.kept some.0 some.1 in
    not_told g.L.LogDevice c.args.log.now.device c.record_again.new.log.device c.args.lsn c.in-Some.kept.place c.args.log.now.records at.0 at.1 c.in-Err.refusal c.in-Err.ensures.err

pub returns-else-is_of-clause-err : goal.returns-else-is_of-clause-err
returns-else-is_of-clause-err g c =
    let some = c.in-Some.ensures.some in
    let at = c.requires.has.stands c.in-Some.kept some.0 some.1 in
    (refl, c.in-Ok.ensures.cause, λ honest. not_own c.in-Some.kept.by c.in-Ok.told at.0 (sym c.is_of.ensures.own ∙ c.if-is_of.false) (c.in-Ok.ensures.is honest at.0 at.1) at.2)

pub returns-in-None-clause-err : goal.returns-in-None-clause-err
returns-in-None-clause-err g c = (refl, refl, λ h. c.requires.has.kept c.in-None.ensures.none)
