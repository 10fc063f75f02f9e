use Rattle.std.proofs.Common.{rules, ◌≡◌, ◌-◌, ◌^◌, Err, true, false, inr, refl, sym, ◌∙◌, ap, subst}
use Rattle.std.proofs.lemmas.Result.{IfErr-weaker, on_ok_weaker}
use Rattle.rq_model.specs.declared.refusal.Refusal.{Refusal}
use Rattle.rq_log.specs.Spelled.{spelled}
use Rattle.rq_page.specs.Sizes.{Sizes}
use Rattle.rq_pool.proofs.KeptUp.{kept_still}
use Rattle.rq_restart.specs.Undoing.{FailsWith, IsToBeWritten, MakesWay, NamesDevice, failures}
use Rattle.rq_restart.proofs.GoingOn.{not_brought_fails, not_brought_names, on_err, on_ok}
use Rattle.rq_restart.proofs.Telling.{tells_forced}
use Rattle.rq_restart.proofs.Standing.{force_fails, forced_stands, written_stands}
use Rattle.rq_restart.proofs.appending.make_way.Goals as goal

pub returns-in_default-clause-stands : goal.returns-in_default-clause-stands
returns-in_default-clause-stands g c = λ page wanted. absurd (c.in_default.ensures.none page (subst (λ (z : Sizes). IsToBeWritten z c.args.undo.now page) (sym c.layout.ensures.sizes) wanted))

pub returns-in_err-force-clause-made : goal.returns-in_err-force-clause-made
returns-in_err-force-clause-made g c =
    let p = g.P.PageDevice in
    let l = g.L.LogDevice in
    let old = c.args.pages.now in
    let log = c.args.log.now in
    let now = c.force.new.self in
    let wanted : IsToBeWritten old.sizes c.args.undo.now c.in-Some.page = subst (λ (z : Sizes). IsToBeWritten z c.args.undo.now c.in-Some.page) c.layout.ensures.sizes c.in-Some.ensures.some in
    let failed = c.in_err-force.ensures.err c.requires.running in
    let e = c.in_err-force.field-0.0 in
    let is : c.from_residual.result ≡ Err e = search rules in
    subst (λ r. MakesWay p l old log r old now) (sym is) (record {
      pool = c.layout.ensures.pool;
      marks = c.shows_kept.ensures.flags;
      kept = kept_still p (2 ^ 64 - 1) old old refl refl refl refl;
      stood = λ all. absurd (let there : true ≡ false = sym (c.stands.ensures.1 (all c.in-Some.page wanted.low wanted.high)) ∙ c.if-stands.false in cc there);
      count = refl;
      held = c.requires.held;
      records = c.force.ensures.records;
      room = c.force.ensures.reserved;
      running = tt;
      honest = c.force.ensures.honest;
      counted = tt;
      fails = subst (λ (x : Refusal). FailsWith p old.device old.device x (failures l.faults log.device now.device)) (sym failed.0) (inr (refl, (c.in_err-force.ensures.cause c.requires.running).err));
      told = λ t. subst NamesDevice (sym failed.0) tt;
      telling = tells_forced l log c.shows_kept-2.ensures.log.spelled (λ h. (let b = c.shows_kept-2.ensures.reads c.requires.running h in (b.0, b.2))) g.met.L.LogDevice.counts_now now.device _ c.force.ensures.honest c.force.ensures.left (λ other. absurd (other failed.0));
      way = λ h f so way. (tt, force_fails p l g.met.P.PageDevice.only_now g.met.P.PageDevice.counts_now g.met.L.LogDevice.counts_now f old log so way c.shows_kept-2.ensures.log.spelled now (c.force.ensures.left h.1));
    })

pub returns-clause-made : goal.returns-clause-made
returns-clause-made g c =
    let p = g.P.PageDevice in
    let l = g.L.LogDevice in
    let old = c.args.pages.now in
    let log = c.args.log.now in
    let new = c.bring_in.new.self in
    let now = c.force.new.self in
    let page = c.in-Some.page in
    let r = c.bring_in.result in
    let made = c.bring_in.ensures in
    let forced = c.in_ok-force.ensures in
    let wanted : IsToBeWritten old.sizes c.args.undo.now page = subst (λ (z : Sizes). IsToBeWritten z c.args.undo.now page) c.layout.ensures.sizes c.in-Some.ensures.some in
    let counted : l.faults now.device ≡ l.faults log.device = (forced.cause c.requires.running).ok in
    record {
      pool = c.layout.ensures.pool;
      marks = c.shows_kept.ensures.flags;
      kept = made.kept;
      stood = λ all. absurd (let there : true ≡ false = sym (c.stands.ensures.1 (all page wanted.low wanted.high)) ∙ c.if-stands.false in cc there);
      count = made.count;
      held = made.loose;
      records = forced.records;
      room = forced.reserved;
      running = on_ok r forced.ok.2;
      honest = forced.honest;
      counted = on_ok_weaker r (λ same. (same, counted)) made.counted;
      fails = IfErr-weaker r _ _ (λ e f. not_brought_fails p page old new (failures l.faults log.device now.device) e counted f) made.refused;
      telling = tells_forced l log c.shows_kept-2.ensures.log.spelled (λ h. (let b = c.shows_kept-2.ensures.reads c.requires.running h in (b.0, b.2))) g.met.L.LogDevice.counts_now now.device _ forced.honest c.force.ensures.left (λ other h. forced.reads h ∙ ap spelled forced.records);
      told = λ t. IfErr-weaker r _ _ (λ e f. not_brought_names p page old new e wanted.low wanted.high t f) made.refused;
      way = λ h f so way.
          let there = forced_stands p l g.met.P.PageDevice.only_now g.met.P.PageDevice.counts_now g.met.L.LogDevice.counts_now f old log so way c.shows_kept-2.ensures.log.spelled now (forced.left h.1) forced.records (forced.reads h.1) in
          let then = written_stands p l g.met.P.PageDevice.only_now g.met.P.PageDevice.counts_now g.met.L.LogDevice.counts_now f old new now (2 ^ 64 - 1) there.0 there.1 (forced.durable h.1) (forced.reads h.1) c.layout.ensures.pool made.kept (made.kept.images h.0) in
          (on_ok r then, on_err r then.on.path);
    }
