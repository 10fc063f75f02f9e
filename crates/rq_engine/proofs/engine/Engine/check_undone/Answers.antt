use Rattle.std.proofs.Common.{refl, sym, subst, Option}
use Rattle.rq_txn.specs.declared.Finished.{Finished}
use Rattle.rq_engine.specs.Aborts.{IsTurnedBack}
use Rattle.rq_engine.proofs.AbortCalls.{end_unfinished, is_newest_of}
use Rattle.rq_engine.proofs.Opened.{state_is}
use Rattle.rq_engine.specs.Earlier.{on}
use Rattle.rq_engine.proofs.engine.Engine.check_undone.Goals as goal

pub returns-in-None-clause-ready : goal.returns-in-None-clause-ready
returns-in-None-clause-ready g c =
    let s = c.args.self.now.state in
    let n = c.in_ok-check_aborting.field-0 in
    let newest = is_newest_of s _ c.args.txn _ _ (state_is c.self.view_is) (sym c.in-None.ensures) refl in
    (n, subst (λ (o : Option Finished). IsTurnedBack s c.args.txn n o) newest c.in_ok-check_aborting.ensures.ready)

pub returns-in-Some-clause-refused : goal.returns-in-Some-clause-refused
returns-in-Some-clause-refused g c earlier long =
    let s = c.args.self.now.state in
    let n = c.in_ok-check_aborting.field-0 in
    let newest = is_newest_of s _ c.args.txn _ _ (state_is c.self.view_is) (sym c.in-Some.ensures) refl in
    end_unfinished (on earlier s) c.args.txn n c.in-Some.field-0.now c.in_ok-check_aborting.ensures.running c.in_ok-check_aborting.ensures.passes
    (subst (λ (o : Option Finished). IsTurnedBack s c.args.txn n o) newest c.in_ok-check_aborting.ensures.ready)
