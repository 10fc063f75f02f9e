use Rattle.std.proofs.Common.{arith, rules, ◌≡◌, Option, Some, false, refl, sym, ap, ◌∙◌, subst}
use Rattle.rq_model.specs.History.Call.{Undo_next}
use Rattle.rq_model.specs.Tests.{log_full, undo_cost}
use Rattle.rq_txn.specs.declared.Aim.TheVariants.{Undoing}
use Rattle.rq_txn.specs.declared.Finished.{Finished}
use Rattle.rq_store.specs.State.{ledger_of, op_done}
use Rattle.rq_sound.specs.Latching.{IsLatched}
use Rattle.rq_planner.proofs.Options.{some_told}
use Rattle.rq_engine.specs.Aborts.{IsTurnedBack, UndoIsLatched}
use Rattle.rq_engine.specs.Answers.{RefusesOver}
use Rattle.rq_engine.specs.Earlier.{on}
use Rattle.rq_engine.specs.Invariant.{IsDoneConsistent, IsLogged, end_of}
use Rattle.rq_engine.specs.KeptUp.{RefusedButRead}
use Rattle.rq_model.specs.declared.refusal.Refusal.TheVariants as why
use Rattle.rq_engine.proofs.AbortCalls.{cost_few, cost_found, is_newest, is_newest_of, may_be_undone, none_done, some_left, turned_newest, undo_done, undo_full, undo_memory, undo_passes, undo_refused}
use Rattle.rq_engine.proofs.Earlier.{full_on}
use Rattle.rq_engine.proofs.Latches.{undo_latched, undo_unlatched}
use Rattle.rq_engine.proofs.Leveled.{latched_for, refused_for}
use Rattle.rq_engine.proofs.Opened.{state_is}
use Rattle.rq_engine.proofs.KeptUp.{start_left, tried_leaves}
use Rattle.rq_engine.proofs.Tested.{undo_log_full, undo_tested, undo_unready}
use Rattle.rq_engine.proofs.Wanting.{full_more, no_test_frames, undo_writes}
use Rattle.rq_engine.proofs.engine.Engine.undo_next.Goals as goal

pub returns-in_default-clause-answered : goal.returns-in_default-clause-answered
returns-in_default-clause-answered g c h earlier long =
    let s = on earlier c.args.self.now.state in
    none_done s c.args.txn c.in_ok-number.number c.in_ok-number.ensures.running
    (subst (λ (o : Option Finished). IsTurnedBack s c.args.txn c.in_ok-number.number o) (is_newest_of c.args.self.now.state _ c.args.txn _ _ (state_is c.self.view_is) (sym c.in_default.ensures) refl) c.in_ok-number.ensures.ready)

pub returns-then-is_log_full-clause-answered : goal.returns-then-is_log_full-clause-answered
returns-then-is_log_full-clause-answered g c h earlier long =
    let s = on earlier c.args.self.now.state in
    let f = c.in-Some.done.now in
    let back : IsTurnedBack s c.args.txn c.in_ok-number.number (Some f) = subst (λ (o : Option Finished). IsTurnedBack s c.args.txn c.in_ok-number.number o) (is_newest_of c.args.self.now.state _ c.args.txn _ _ (state_is c.self.view_is) (sym c.in-Some.ensures) refl) c.in_ok-number.ensures.ready in
    undo_full s c.args.txn c.in_ok-number.number f c.in_ok-number.ensures.passes back (ap (log_full (ledger_of s)) (sym c.undo_records.ensures) ∙ full_on earlier c.args.self.now.state long _ ∙ sym c.if-is_log_full.ensures)

pub start_inverse-requires-clause-ready : goal.start_inverse-requires-clause-ready
start_inverse-requires-clause-ready g c = subst (λ (o : Option Finished). IsTurnedBack c.args.self.now.state c.args.txn c.in_ok-number.number o) (is_newest_of c.args.self.now.state _ c.args.txn _ _ (state_is c.self.view_is) (sym c.in-Some.ensures) (ap Some (sym c.in_ok-done.ensures))) c.in_ok-number.ensures.ready

pub start_inverse-requires-clause-kept : goal.start_inverse-requires-clause-kept
start_inverse-requires-clause-kept g c = some_told (λ (f : Finished). IsDoneConsistent c.args.self.now.state.sizes f) _ _ (is_newest_of c.args.self.now.state _ c.args.txn _ _ (state_is c.self.view_is) (sym c.in-Some.ensures) (ap Some (sym c.in_ok-done.ensures))) c.in_ok-number.ensures.kept

pub start_inverse-requires-clause-ended : goal.start_inverse-requires-clause-ended
start_inverse-requires-clause-ended g c = some_told (λ (f : Finished). IsLogged c.args.self.now.state.records f.lsn (end_of c.args.txn f)) _ _ (is_newest_of c.args.self.now.state _ c.args.txn _ _ (state_is c.self.view_is) (sym c.in-Some.ensures) (ap Some (sym c.in_ok-done.ensures))) c.in_ok-number.ensures.ended

pub start_inverse-requires-clause-log : goal.start_inverse-requires-clause-log
start_inverse-requires-clause-log g c = ap (log_full (ledger_of c.args.self.now.state)) (sym (c.undo_records.ensures ∙ ap (λ (e : Finished). undo_cost (Some (op_done e))) (sym c.in_ok-done.ensures))) ∙ sym c.if-is_log_full.ensures

pub returns-in-Ok-clause-answered : goal.returns-in-Ok-clause-answered
returns-in-Ok-clause-answered g c h earlier long =
    let s = on earlier c.args.self.now.state in
    let f = c.in_ok-done.done in
    let back : IsTurnedBack s c.args.txn c.in_ok-number.number (Some f) = subst (λ (o : Option Finished). IsTurnedBack s c.args.txn c.in_ok-number.number o) (is_newest_of c.args.self.now.state _ c.args.txn _ _ (state_is c.self.view_is) (sym c.in-Some.ensures) (ap Some (sym c.in_ok-done.ensures))) c.in_ok-number.ensures.ready in
    let room : log_full (ledger_of s) (undo_cost (Some (op_done f))) ≡ false = ap (log_full (ledger_of s)) (sym (c.undo_records.ensures ∙ ap (λ (e : Finished). undo_cost (Some (op_done e))) (sym c.in_ok-done.ensures))) ∙ full_on earlier c.args.self.now.state long _ ∙ sym c.if-is_log_full.ensures in
    let b = (c.in-Ok.ensures.started h.0).begun in
    undo_done s c.args.txn c.in_ok-number.number f c.in_ok-number.ensures.passes back _ (record { number = c.in_ok-number.number; writes = b.writes; made = 0; aim = Undoing f.lsn f.deed }) c.in_ok-number.ensures.running refl b.planned.free
    (record { made = refl; aim = refl; plan = b.planned.planned }) room (ap (on earlier) b.state)

pub returns-in-Ok-clause-sizes : goal.returns-in-Ok-clause-sizes
returns-in-Ok-clause-sizes g c = c.in-Ok.ensures.tried.devices.0.sizes

pub returns-in-Ok-clause-latched : goal.returns-in-Ok-clause-latched
returns-in-Ok-clause-latched g c honest earlier long k =
    let s = on earlier c.args.self.now.state in
    let f = c.in_ok-done.done in
    let back : IsTurnedBack s c.args.txn c.in_ok-number.number (Some f) = subst (λ (o : Option Finished). IsTurnedBack s c.args.txn c.in_ok-number.number o) (is_newest_of c.args.self.now.state _ c.args.txn _ _ (state_is c.self.view_is) (sym c.in-Some.ensures) (ap Some (sym c.in_ok-done.ensures))) c.in_ok-number.ensures.ready in
    undo_unlatched s k c.args.txn f (turned_newest s c.args.txn c.in_ok-number.number (Some f) back) (c.in-Ok.ensures.started honest).free

pub returns-in-Ok-clause-lists : goal.returns-in-Ok-clause-lists
returns-in-Ok-clause-lists g c honest =
    let s = c.args.self.now.state in
    let f = c.in_ok-done.done in
    let b = (c.in-Ok.ensures.started honest).begun in (
      refl,
      record {
        under = record { number = c.in_ok-number.number; writes = b.writes; made = 0; aim = Undoing f.lsn f.deed };
        done = f;
        number = refl;
        ready = subst (λ (o : Option Finished). IsTurnedBack s c.args.txn c.in_ok-number.number o) (is_newest_of c.args.self.now.state _ c.args.txn _ _ (state_is c.self.view_is) (sym c.in-Some.ensures) (ap Some (sym c.in_ok-done.ensures))) c.in_ok-number.ensures.ready;
        plan = record { can = b.planned.can; planned = record { made = refl; aim = refl; plan = b.planned.planned }; lowest = b.planned.lowest };
        lists = b.state;
      },
    )

pub returns-in-Err-clause-answered : goal.returns-in-Err-clause-answered
returns-in-Err-clause-answered g c h earlier long k =
    let s = on earlier c.args.self.now.state in
    let f = c.in_ok-done.done in
    let back : IsTurnedBack s c.args.txn c.in_ok-number.number (Some f) = subst (λ (o : Option Finished). IsTurnedBack s c.args.txn c.in_ok-number.number o) (is_newest_of c.args.self.now.state _ c.args.txn _ _ (state_is c.self.view_is) (sym c.in-Some.ensures) (ap Some (sym c.in_ok-done.ensures))) c.in_ok-number.ensures.ready in
    let room : log_full (ledger_of s) (undo_cost (Some (op_done f))) ≡ false = full_on earlier c.args.self.now.state long _ ∙ ap (log_full (ledger_of c.args.self.now.state)) (sym (c.undo_records.ensures ∙ ap (λ (e : Finished). undo_cost (Some (op_done e))) (sym c.in_ok-done.ensures))) ∙ sym c.if-is_log_full.ensures in
    let p = c.in-Err.ensures.started h.0 in
    refused_for s _ (Undo_next c.args.txn) (UndoIsLatched s f.deed) refl c.in_ok-number.ensures.running (λ k. some_left s c.args.txn c.in_ok-number.number f c.in_ok-number.ensures.passes back) (λ k. undo_passes s c.args.txn c.in_ok-number.number f c.in_ok-number.ensures.passes back room) c.in-Err.refusal p.causes (p.sound earlier long k (is_newest s c.args.txn c.in_ok-number.number f c.in_ok-number.ensures.passes back))
    (ap (on earlier) (start_left g.P.PageDevice c.args.self.now _ c.in-Err.refusal c.in-Err.ensures.tried.devices c.in-Err.ensures.tried.left h.0))
    (undo_memory s c.args.txn c.in_ok-number.number f c.in_ok-number.ensures.passes back c.in_ok-number.ensures.running room)
    (undo_refused s c.args.txn c.in_ok-number.number f c.in_ok-number.ensures.passes back (may_be_undone s c.args.txn c.in_ok-number.number f c.in_ok-number.ensures.passes back) room) k

pub returns-in-Err-clause-latched : goal.returns-in-Err-clause-latched
returns-in-Err-clause-latched g c honest earlier long k =
    let s = on earlier c.args.self.now.state in
    let f = c.in_ok-done.done in
    let back : IsTurnedBack s c.args.txn c.in_ok-number.number (Some f) = subst (λ (o : Option Finished). IsTurnedBack s c.args.txn c.in_ok-number.number o) (is_newest_of c.args.self.now.state _ c.args.txn _ _ (state_is c.self.view_is) (sym c.in-Some.ensures) (ap Some (sym c.in_ok-done.ensures))) c.in_ok-number.ensures.ready in
    let p = c.in-Err.ensures.started honest in
    latched_for (UndoIsLatched s f.deed) (IsLatched s (Undo_next c.args.txn)) c.in-Err.refusal p.causes (undo_latched s k c.args.txn f (turned_newest s c.args.txn c.in_ok-number.number (Some f) back))

pub returns-in-Ok-clause-begun : goal.returns-in-Ok-clause-begun
returns-in-Ok-clause-begun g c =
    let s = c.args.self.now.state in
    let f = c.in_ok-done.done in
    let back : IsTurnedBack s c.args.txn c.in_ok-number.number (Some f) = subst (λ (o : Option Finished). IsTurnedBack s c.args.txn c.in_ok-number.number o) (is_newest_of c.args.self.now.state _ c.args.txn _ _ (state_is c.self.view_is) (sym c.in-Some.ensures) (ap Some (sym c.in_ok-done.ensures))) c.in_ok-number.ensures.ready in
    let tests = undo_tested c.args.self.now c.args.txn c.in_ok-number.ensures.passes (ap (λ n. log_full (ledger_of s) n) (cost_found s c.args.txn c.in_ok-number.number f c.in_ok-number.ensures.passes back ∙ sym (c.undo_records.ensures ∙ ap (λ (e : Finished). undo_cost (Some (op_done e))) (sym c.in_ok-done.ensures))) ∙ sym c.if-is_log_full.ensures) in
    let b = c.in-Ok.ensures.tried.begun in (
      refl,
      tests,
      record {
        under = record { number = c.in_ok-number.number; writes = b.writes; made = 0; aim = Undoing f.lsn f.deed };
        done = f;
        number = refl;
        ready = back;
        plan = (refl, refl);
        lists = b.state;
      },
    )

pub returns-in_default-clause-none : goal.returns-in_default-clause-none
returns-in_default-clause-none g c =
    let s = c.args.self.now.state in
    (refl, ((c.in_ok-number.number, subst (λ (o : Option Finished). IsTurnedBack s c.args.txn c.in_ok-number.number o) (is_newest_of c.args.self.now.state _ c.args.txn _ _ (state_is c.self.view_is) (sym c.in_default.ensures) refl) c.in_ok-number.ensures.ready), refl))

pub returns-in-Ok-clause-devices : goal.returns-in-Ok-clause-devices
returns-in-Ok-clause-devices g c = c.in-Ok.ensures.tried.devices

pub returns-in-Err-clause-refused : goal.returns-in-Err-clause-refused
returns-in-Err-clause-refused g c =
    let s = c.args.self.now.state in
    let f = c.in_ok-done.done in
    let back : IsTurnedBack s c.args.txn c.in_ok-number.number (Some f) = subst (λ (o : Option Finished). IsTurnedBack s c.args.txn c.in_ok-number.number o) (is_newest_of c.args.self.now.state _ c.args.txn _ _ (state_is c.self.view_is) (sym c.in-Some.ensures) (ap Some (sym c.in_ok-done.ensures))) c.in_ok-number.ensures.ready in
    let tests = undo_tested c.args.self.now c.args.txn c.in_ok-number.ensures.passes (ap (λ n. log_full (ledger_of s) n) (cost_found s c.args.txn c.in_ok-number.number f c.in_ok-number.ensures.passes back ∙ sym (c.undo_records.ensures ∙ ap (λ (e : Finished). undo_cost (Some (op_done e))) (sym c.in_ok-done.ensures))) ∙ sym c.if-is_log_full.ensures) in
    tried_leaves g.P.PageDevice c.args.self.now c.start_inverse.new.self (Undo_next c.args.txn) refl tests c.in-Err.refusal c.in-Err.ensures.tried.causes c.in-Err.ensures.tried.left

pub returns-in-Ok-clause-faults : goal.returns-in-Ok-clause-faults
returns-in-Ok-clause-faults g c = c.in-Ok.ensures.tried.counts

pub returns-in-Err-clause-faults : goal.returns-in-Err-clause-faults
returns-in-Err-clause-faults g c = c.in-Err.ensures.tried.counts

pub returns-in-Err-clause-sizes : goal.returns-in-Err-clause-sizes
returns-in-Err-clause-sizes g c = c.in-Err.ensures.tried.devices.0.sizes

pub returns-in-Err-clause-devices : goal.returns-in-Err-clause-devices
returns-in-Err-clause-devices g c = c.in-Err.ensures.tried.devices

pub returns-in_err-number-clause-refused : goal.returns-in_err-number-clause-refused
returns-in_err-number-clause-refused g c =
    let left = undo_unready c.args.self.now c.args.txn _ c.in_err-number.ensures.refused in
    search (rules, left)

pub returns-then-is_log_full-clause-refused : goal.returns-then-is_log_full-clause-refused
returns-then-is_log_full-clause-refused g c =
    let s = c.args.self.now.state in
    let f = c.in-Some.done.now in
    let back : IsTurnedBack s c.args.txn c.in_ok-number.number (Some f) = subst (λ (o : Option Finished). IsTurnedBack s c.args.txn c.in_ok-number.number o) (is_newest_of c.args.self.now.state _ c.args.txn _ _ (state_is c.self.view_is) (sym c.in-Some.ensures) refl) c.in_ok-number.ensures.ready in
    undo_log_full c.args.self.now c.args.txn c.in_ok-number.ensures.passes (ap (λ n. log_full (ledger_of s) n) (cost_found s c.args.txn c.in_ok-number.number f c.in_ok-number.ensures.passes back ∙ sym c.undo_records.ensures) ∙ sym c.if-is_log_full.ensures)

pub returns-in-Ok-clause-frames : goal.returns-in-Ok-clause-frames
returns-in-Ok-clause-frames g c = c.in-Ok.ensures.frames

pub returns-in-Err-clause-frames : goal.returns-in-Err-clause-frames
returns-in-Err-clause-frames g c =
    let s = c.args.self.now.state in
    let f = c.in_ok-done.done in
    let back : IsTurnedBack s c.args.txn c.in_ok-number.number (Some f) = subst (λ (o : Option Finished). IsTurnedBack s c.args.txn c.in_ok-number.number o) (is_newest_of c.args.self.now.state _ c.args.txn _ _ (state_is c.self.view_is) (sym c.in-Some.ensures) (ap Some (sym c.in_ok-done.ensures))) c.in_ok-number.ensures.ready in
    full_more c.args.self.now _ _ (λ ws a honest. undo_writes s ws c.args.txn c.in_ok-number.number f back (a honest)) c.in-Err.refusal c.in-Err.ensures.frames

pub returns-in_err-number-clause-frames : goal.returns-in_err-number-clause-frames
returns-in_err-number-clause-frames g c =
    let none = (λ (A B : Type 0). no_test_frames A B _ c.in_err-number.ensures.refused.plain) in
    search (rules, none)

-- no memory for the deed
pub returns-in_err-done-clause-answered : goal.returns-in_err-done-clause-answered
returns-in_err-done-clause-answered g c =
    let old = c.args.self.now.state in
    let f = c.in-Some.done.now in
    let refuses : RefusesOver old (Undo_next c.args.txn) why.NoMemory = λ earlier long.
    let s = on earlier old in
    let back : IsTurnedBack s c.args.txn c.in_ok-number.number (Some f) = subst (λ (o : Option Finished). IsTurnedBack s c.args.txn c.in_ok-number.number o) (is_newest_of old _ c.args.txn _ _ (state_is c.self.view_is) (sym c.in-Some.ensures) refl) c.in_ok-number.ensures.ready in
    let room : log_full (ledger_of s) (undo_cost (Some (op_done f))) ≡ false = full_on earlier old long _ ∙ ap (log_full (ledger_of old)) (sym c.undo_records.ensures) ∙ sym c.if-is_log_full.ensures in
    undo_memory s c.args.txn c.in_ok-number.number f c.in_ok-number.ensures.passes back c.in_ok-number.ensures.running room in
    search (rules, refuses)

pub returns-in_err-done-clause-refused : goal.returns-in_err-done-clause-refused
returns-in_err-done-clause-refused g c =
    let s = c.args.self.now.state in
    let f = c.in-Some.done.now in
    let back : IsTurnedBack s c.args.txn c.in_ok-number.number (Some f) = subst (λ (o : Option Finished). IsTurnedBack s c.args.txn c.in_ok-number.number o) (is_newest_of c.args.self.now.state _ c.args.txn _ _ (state_is c.self.view_is) (sym c.in-Some.ensures) refl) c.in_ok-number.ensures.ready in
    let tests = undo_tested c.args.self.now c.args.txn c.in_ok-number.ensures.passes (ap (λ n. log_full (ledger_of s) n) (cost_found s c.args.txn c.in_ok-number.number f c.in_ok-number.ensures.passes back ∙ sym c.undo_records.ensures) ∙ sym c.if-is_log_full.ensures) in
    let left : RefusedButRead (Undo_next c.args.txn) c.args.self.now why.NoMemory c.args.self.now = (tests, refl) in
    search (rules, left)

pub is_log_full-requires : goal.is_log_full-requires
is_log_full-requires g c =
    let few = cost_few c.in-Some.done.now.deed in
    let is = c.undo_records.ensures in
    omega (arith, few, is)
