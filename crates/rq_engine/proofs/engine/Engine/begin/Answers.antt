use Rattle.std.proofs.Common.{◌≡◌, ◌≢◌, not, ◌+◌, sym, ap, ◌∙◌, subst, length, nat_lt, false, ◌∷◌}
use Rattle.rq_store.specs.State.{State}
use Rattle.rq_model.specs.declared.txn.Txn.{Txn}
use Rattle.rq_model.specs.History.Call.{Begin}
use Rattle.rq_model.specs.Replay.Reply.{Gave_txn}
use Rattle.rq_txn.specs.Rows.{fresh_row}
use Rattle.rq_sound.specs.ModelSteps.{IsModelStep}
use Rattle.rq_sound.specs.Calls.{next_txn}
use Rattle.rq_sound.proofs.AbortSteps.{abort_steps}
use Rattle.rq_engine.proofs.Keeping.{next_rises, kept_begun}
use Rattle.rq_engine.proofs.Refusals.{few}
use Rattle.rq_engine.proofs.Opened.{state_is}
use Rattle.rq_engine.proofs.Listing.{begun_lists}
use Rattle.rq_engine.specs.Lists.{IsBegun}
use Rattle.rq_engine.specs.Earlier.{on}
use Rattle.rq_engine.proofs.Frames.{fixed_begun}
use Rattle.rq_engine.proofs.engine.Engine.begin.Goals as goal

pub begin-requires-clause-rising : goal.begin-requires-clause-rising
begin-requires-clause-rising g c = next_rises _ _ _ _ c.self.invariant.kept

abbrev next : State → Txn
next s = record { incarnation = s.incarnation; count = s.begins + 1 }

pub returns-clause-answered : goal.returns-clause-answered
returns-clause-answered g c h earlier long k =
    let full : not (nat_lt (length c.args.self.now.state.rows) 4096) ≡ false = ap (λ (s : State). not (nat_lt (length s.rows) 4096)) (sym (state_is c.self.view_is)) ∙ sym c.if-is_full.ensures in
    let max : c.args.self.now.state.begins ≢ 18446744073709551615 = λ e. c.if-self.false (ap (λ (s : State). s.begins) (state_is c.self.view_is) ∙ e) in
    rw (c.in_ok-begin.ensures.ok)
    (subst (λ (s : State). IsModelStep (on earlier c.args.self.now.state) Begin (Gave_txn (next s)) (on earlier (record s { rows = fresh_row (next s) ∷ s.rows; begins = s.begins + 1 }))) (sym (state_is c.self.view_is))
    (abort_steps.begins (on earlier c.args.self.now.state) k c.in_ok-check_running.ensures.running (few (on earlier c.args.self.now.state) 18446744073709551615 full max)))

pub invariant_of-self-2 : goal.invariant_of-self-2
invariant_of-self-2 g c = record { kept = rw (c.in_ok-begin.ensures.ok) (kept_begun _ _ _ _ c.self.invariant.kept); durable = c.self.invariant.durable; cells = c.self.invariant.cells; frames_are = rw (c.in_ok-begin.ensures.ok) (fixed_begun _ _ _ c.self.invariant.frames_are) }

pub returns-clause-lists : goal.returns-clause-lists
returns-clause-lists g c =
    rw (c.in_ok-begin.ensures.ok)
    (subst (λ (s : State). IsBegun c.args.self.now.state (next_txn s) (record s { rows = fresh_row (next_txn s) ∷ s.rows; begins = s.begins + 1 })) (sym (state_is c.self.view_is))
    (begun_lists c.args.self.now.state))
