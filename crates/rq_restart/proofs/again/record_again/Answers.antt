use Rattle.std.proofs.Common.{arith, refl, sym, subst}
use Rattle.rq_log.specs.Places.{StandsAt}
use Rattle.rq_restart.specs.Again.{NotGivenFor}
use Rattle.rq_restart.proofs.ReadAgain.{few_spelled, given, none_given, why_not_given}
use Rattle.rq_restart.proofs.again.record_again.Goals as goal

pub returns-in-Ok-Some-clause-is : goal.returns-in-Ok-Some-clause-is
returns-in-Ok-Some-clause-is g c = λ h s at.
    let log = c.args.log.now.records in
    let few = few_spelled log c.shows_kept.ensures.log.spelled (let k = c.last.ensures in let low = c.if-last-ge-LOG_LIMIT.false in omega (arith, k, low)) in
    given log c.args.place _ _ (subst (StandsAt log c.args.place) c.in-Ok-Some.field-0-is (c.in-Ok-Some.ensures.found h few)) s at

pub returns-in-Ok-None-clause-err : goal.returns-in-Ok-None-clause-err
returns-in-Ok-None-clause-err g c =
    let log = c.args.log.now.records in
    let few = few_spelled log c.shows_kept.ensures.log.spelled (let k = c.last.ensures in let low = c.if-last-ge-LOG_LIMIT.false in omega (arith, k, low)) in
    (refl, c.in-Ok-None.ensures.cause, λ h s at. none_given log c.args.place (subst (StandsAt log c.args.place) c.in-Ok-None.field-0-is (c.in-Ok-None.ensures.found h few)) s at)

pub returns-in-Err-clause-err : goal.returns-in-Err-clause-err
returns-in-Err-clause-err g c =
    let log = c.args.log.now.records in
    let few = few_spelled log c.shows_kept.ensures.log.spelled (let k = c.last.ensures in let low = c.if-last-ge-LOG_LIMIT.false in omega (arith, k, low)) in
    subst (λ e. NotGivenFor g.L.LogDevice e c.args.lsn log c.args.place c.args.log.now.device c.record_at.new.self.device) (sym c.not_given.ensures)
    (why_not_given log c.args.place g.L.LogDevice c.args.log.now.device c.record_at.new.self.device c.args.lsn few c.in-Err.refusal (c.in-Err.ensures.err c.requires.running))

pub returns-then-last-ge-LOG_LIMIT-clause-err : goal.returns-then-last-ge-LOG_LIMIT-clause-err
returns-then-last-ge-LOG_LIMIT-clause-err g c = (let k = c.last.ensures in let high = c.if-last-ge-LOG_LIMIT.true in omega (arith, k, high), refl)
