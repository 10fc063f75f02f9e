use Rattle.std.proofs.Common.{◌≡◌, ◌≤◌, rules, ap, length, subst}
use Rattle.rq_model.specs.History.Call.{Finish}
use Rattle.rq_txn.specs.declared.Aim.TheVariants.{Doing, Undoing}
use Rattle.rq_store.specs.State.{State}
use Rattle.rq_engine.specs.declared.operations.Ending.{Ending}
use Rattle.rq_engine.specs.Answers.{IsUnderWay, RefusesOver, ending_of}
use Rattle.rq_engine.specs.Earlier.{on}
use Rattle.rq_engine.proofs.AbortCalls.{undone_done}
use Rattle.rq_engine.proofs.Calls.{answer_gives, doing_of, finish_done, finish_idle, finish_says, only_aim, undoing_of}
use Rattle.rq_engine.proofs.Earlier.{ended_on}
use Rattle.rq_engine.proofs.engine.Engine.finish.Goals as goal

pub returns-in-Deed-clause-answered : goal.returns-in-Deed-clause-answered
returns-in-Deed-clause-answered g c h earlier long k =
    let s = c.args.self.now.state in
    let made = doing_of s c.args.sub c.in-Deed.gist (subst (λ (e : Ending). IsUnderWay s c.args.sub (λ r u. (length u.writes ≤ u.made) × (ending_of u.aim ≡ e))) c.in-Deed.is c.in_ok-gist.ensures.ready) in
    let named = only_aim s c.args.sub (Doing made.0) made.1 in
    rw (c.answer-answer.ensures made.0 named, answer_gives made.0) (finish_done (on earlier s) _ c.args.sub made.0 c.in_ok-gist.ensures.running made.1 (ended_on earlier s _ c.args.sub made.0 long (c.end.ensures.ended made.0 named)) k)

pub returns-in-Deed-clause-sizes : goal.returns-in-Deed-clause-sizes
returns-in-Deed-clause-sizes g c =
    let s = c.args.self.now.state in
    let made = doing_of s c.args.sub c.in-Deed.gist (subst (λ (e : Ending). IsUnderWay s c.args.sub (λ r u. (length u.writes ≤ u.made) × (ending_of u.aim ≡ e))) c.in-Deed.is c.in_ok-gist.ensures.ready) in
    ap (λ (x : State). x.sizes) (c.end.ensures.ended made.0 (only_aim s c.args.sub (Doing made.0) made.1))

pub returns-in-Deed-clause-lists : goal.returns-in-Deed-clause-lists
returns-in-Deed-clause-lists g c =
    let s = c.args.self.now.state in
    let made = doing_of s c.args.sub c.in-Deed.gist (subst (λ (e : Ending). IsUnderWay s c.args.sub (λ r u. (length u.writes ≤ u.made) × (ending_of u.aim ≡ e))) c.in-Deed.is c.in_ok-gist.ensures.ready) in
    let named = only_aim s c.args.sub (Doing made.0) made.1 in
    rw (c.answer-answer.ensures made.0 named) (finish_says s _ c.args.sub made.0 (record { deed = made.0; going = made.1; outcome = answer_gives made.0; lists = c.end.ensures.ended made.0 named }))

pub returns-in-Inverse-clause-answered : goal.returns-in-Inverse-clause-answered
returns-in-Inverse-clause-answered g c h earlier long k =
    let s = c.args.self.now.state in
    let made = undoing_of s c.args.sub c.in-Inverse.lsn (subst (λ (e : Ending). IsUnderWay s c.args.sub (λ r u. (length u.writes ≤ u.made) × (ending_of u.aim ≡ e))) c.in-Inverse.is c.in_ok-gist.ensures.ready) in
    let named = only_aim s c.args.sub (Undoing c.in-Inverse.lsn made.0) made.1 in
    undone_done (on earlier s) _ c.args.sub c.in-Inverse.lsn made.0 c.in_ok-gist.ensures.running (c.end_undo.ensures.sender made.0 named) made.1 (ap (on earlier) (c.end_undo.ensures.ended made.0 named)) k

pub returns-in-Inverse-clause-sizes : goal.returns-in-Inverse-clause-sizes
returns-in-Inverse-clause-sizes g c =
    let s = c.args.self.now.state in
    let made = undoing_of s c.args.sub c.in-Inverse.lsn (subst (λ (e : Ending). IsUnderWay s c.args.sub (λ r u. (length u.writes ≤ u.made) × (ending_of u.aim ≡ e))) c.in-Inverse.is c.in_ok-gist.ensures.ready) in
    ap (λ (x : State). x.sizes) (c.end_undo.ensures.ended made.0 (only_aim s c.args.sub (Undoing c.in-Inverse.lsn made.0) made.1))

pub returns-in-Inverse-clause-lists : goal.returns-in-Inverse-clause-lists
returns-in-Inverse-clause-lists g c =
    let s = c.args.self.now.state in
    let made = undoing_of s c.args.sub c.in-Inverse.lsn (subst (λ (e : Ending). IsUnderWay s c.args.sub (λ r u. (length u.writes ≤ u.made) × (ending_of u.aim ≡ e))) c.in-Inverse.is c.in_ok-gist.ensures.ready) in
    record { lsn = c.in-Inverse.lsn; deed = made.0; going = made.1; lists = c.end_undo.ensures.ended made.0 (only_aim s c.args.sub (Undoing c.in-Inverse.lsn made.0) made.1) }

pub returns-in_err-gist-clause-answered : goal.returns-in_err-gist-clause-answered
returns-in_err-gist-clause-answered g c =
    let s = c.args.self.now.state in
    let refuses : RefusesOver s (Finish c.args.sub.txn c.args.sub.number) c.in_err-gist.field-0.0 = λ earlier long.
    finish_idle (on earlier s) c.args.sub _ c.in_err-gist.ensures.refused in
    search (rules, refuses)
