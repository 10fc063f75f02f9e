use Rattle.std.proofs.Common.{rules, arith, false, Err, ◌≡◌, ◌+◌, [], ◌∷◌, ◌∙◌, ap, length, refl, subst}
use Rattle.std.specs.Prelude.{◌≢◌, IfErr}
use Rattle.rq_model.specs.declared.record.Record.TheVariants as records
use Rattle.rq_model.specs.declared.refusal.Refusal.TheVariants as why
use Rattle.rq_log.specs.Spelled.{spelled}
use Rattle.rq_record.specs.Spelling.{IsRecord}
use Rattle.rq_restart.proofs.Moments.{forced_behind}
use Rattle.rq_restart.proofs.Telling.{tells_begun, tells_read}
use Rattle.rq_restart.proofs.Undos.{still}
use Rattle.rq_restart.proofs.restart.begin_incarnation.Goals as goal

pub returns-in_err-records-clause-any_moment : goal.returns-in_err-records-clause-any_moment
returns-in_err-records-clause-any_moment g c =
    let old = c.args.log.now in
    let mid = c.append.new.self in
    let device : mid.device ≡ old.device = search rules in
    let forced : mid.forced ≡ old.forced = search rules in
    let grown : mid.records ≡ records.Restart (c.args.last + 1) ∷ old.records = search rules in
    let is : IsRecord (records.Restart (c.args.last + 1)) = (omega arith, search rules) in
    λ h. forced_behind g.L.LogDevice old.device c.force.new.self.device mid old.forced (records.Restart (c.args.last + 1) ∷ old.records) device grown forced (is, c.shows_kept.ensures.log.spelled) (c.force.ensures.left h)

pub returns-clause-any_moment : goal.returns-clause-any_moment
returns-clause-any_moment g c =
    let old = c.args.log.now in
    let mid = c.append.new.self in
    let device : mid.device ≡ old.device = search rules in
    let forced : mid.forced ≡ old.forced = search rules in
    let grown : mid.records ≡ records.Restart (c.args.last + 1) ∷ old.records = search rules in
    let is : IsRecord (records.Restart (c.args.last + 1)) = (omega arith, search rules) in
    λ h. forced_behind g.L.LogDevice old.device c.force.new.self.device mid old.forced (records.Restart (c.args.last + 1) ∷ old.records) device grown forced (is, c.shows_kept.ensures.log.spelled) (c.force.ensures.left h)

pub returns-clause-forced : goal.returns-clause-forced
returns-clause-forced g c = search rules

pub returns-clause-report : goal.returns-clause-report
returns-clause-report g c = (search rules, c.in_ok-records.ensures.ok.0, refl, refl)

pub returns-clause-ready : goal.returns-clause-ready
returns-clause-ready g c =
    let made = c.in_ok-records.ensures in
    let grown : c.append.new.self.records ≡ records.Restart (c.args.last + 1) ∷ c.args.log.now.records = search rules in
    let count = ap length (made.records ∙ grown) in
    let last = c.last.ensures in
    let low = c.if-last-ge-LOG_LIMIT.false in
    let within = c.requires.low in
    let next : c.in-Some.incarnation ≡ c.args.last + 1 = search rules in
    record {
      begun = omega (arith, next);
      low = omega (arith, count, within, next);
      running = made.ok.2;
      count = omega (arith, count, last, low);
      reads = made.reads;
      durable = made.durable;
      settled = made.settled;
    }

pub returns-in_err-records-clause-behind : goal.returns-in_err-records-clause-behind
returns-in_err-records-clause-behind g c = (records.Restart (c.args.last + 1) ∷ [], search rules)

pub returns-clause-behind : goal.returns-clause-behind
returns-clause-behind g c = (records.Restart (c.args.last + 1) ∷ [], search rules)

pub returns-in_err-records-clause-telling : goal.returns-in_err-records-clause-telling
returns-in_err-records-clause-telling g c =
    let old = c.args.log.now in
    let mid = c.append.new.self in
    let device : mid.device ≡ old.device = search rules in
    let grown : mid.records ≡ records.Restart (c.args.last + 1) ∷ old.records = search rules in
    let running : mid.failed ≡ false = search rules in
    let is : IsRecord (records.Restart (c.args.last + 1)) = (omega arith, search rules) in
    let failed : c.from_residual-in_err-records.result ≡ Err c.in_err-records.field-0.0 = search rules in
    tells_begun g.L.LogDevice old mid (c.args.last + 1) c.force.new.self.device _ device grown is c.shows_kept.ensures.log.spelled (λ h. (let b = c.shows_kept.ensures.reads c.requires.running h in (b.0, b.2))) g.met.L.LogDevice.counts_now c.force.ensures.honest c.force.ensures.left (λ other. absurd (subst (λ r. IfErr r (λ k. k ≢ why.DiskWrite)) failed other (c.in_err-records.ensures.err running).0))

pub returns-clause-telling : goal.returns-clause-telling
returns-clause-telling g c =
    let old = c.args.log.now in
    let mid = c.append.new.self in
    let device : mid.device ≡ old.device = search rules in
    let grown : mid.records ≡ records.Restart (c.args.last + 1) ∷ old.records = search rules in
    let running : mid.failed ≡ false = search rules in
    let is : IsRecord (records.Restart (c.args.last + 1)) = (omega arith, search rules) in
    tells_begun g.L.LogDevice old mid (c.args.last + 1) c.force.new.self.device _ device grown is c.shows_kept.ensures.log.spelled (λ h. (let b = c.shows_kept.ensures.reads c.requires.running h in (b.0, b.2))) g.met.L.LogDevice.counts_now c.force.ensures.honest c.force.ensures.left (λ other h. c.in_ok-records.ensures.reads h ∙ ap spelled c.in_ok-records.ensures.records)

pub returns-then-last-ge-LOG_LIMIT-clause-telling : goal.returns-then-last-ge-LOG_LIMIT-clause-telling
returns-then-last-ge-LOG_LIMIT-clause-telling g c = (let d = c.args.log.now.device in tells_read g.L.LogDevice d d _ (still g.L.LogDevice g.met.L.LogDevice.only_now d))
