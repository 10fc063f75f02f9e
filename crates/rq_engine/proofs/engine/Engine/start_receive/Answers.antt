use Rattle.std.specs.Bool.{⊤}
use Rattle.std.proofs.Common.{rules, sym, ◌∙◌, refl, ap, inl}
use Rattle.rq_model.specs.History.Call.{Start_receive}
use Rattle.rq_groups.specs.declared.End.TheVariants.{Receiving}
use Rattle.rq_level.specs.Ops.Doing.{Receive}
use Rattle.rq_planner.specs.Asked.Task.{Chain}
use Rattle.rq_store.specs.Plans.{NoneWaits, WaitsFor}
use Rattle.rq_sound.specs.Latching.{IsLatched}
use Rattle.rq_engine.specs.Earlier.{on}
use Rattle.rq_engine.specs.Plans.{AreHeldUp}
use Rattle.rq_engine.proofs.Earlier.{full_on}
use Rattle.rq_engine.proofs.Free.{left_none}
use Rattle.rq_engine.proofs.Latches.{any_latches, any_unlatched}
use Rattle.rq_engine.proofs.Leveled.{latched_for, refused_for, take_plan}
use Rattle.rq_engine.proofs.TakeCalls.{any_refused, log_is_full, none_done, passes, some, take_done, take_memory, take_started}
use Rattle.rq_engine.proofs.KeptUp.{begun_by, start_left, tried_leaves}
use Rattle.rq_engine.proofs.Tested.{take_log_full, take_tested, take_unready}
use Rattle.rq_engine.proofs.Wanting.{any_writes, full_more, no_test_frames}
use Rattle.rq_engine.proofs.engine.Engine.start_receive.Goals as goal

pub returns-in_default-clause-answered : goal.returns-in_default-clause-answered
returns-in_default-clause-answered g c h earlier long =
    none_done (on earlier c.args.self.now.state) c.args.txn c.in_ok-number.ensures.passes
    (left_none (NoneWaits c.args.self.now.state c.args.txn) c.first_waiting.result c.in_default.not-Some c.first_waiting.ensures.none)

pub returns-in_default-clause-lists : goal.returns-in_default-clause-lists
returns-in_default-clause-lists g c honest = (
  (c.in_ok-number.number, c.in_ok-number.ensures.ready),
  left_none (NoneWaits c.args.self.now.state c.args.txn) c.first_waiting.result c.in_default.not-Some c.first_waiting.ensures.none,
  refl,
)

pub returns-then-is_log_full-clause-answered : goal.returns-then-is_log_full-clause-answered
returns-then-is_log_full-clause-answered g c h earlier long =
    let s = on earlier c.args.self.now.state in
    let w : WaitsFor s c.args.txn c.in-Some.first = c.in-Some.ensures.waits in
    log_is_full s c.args.txn c.in_ok-number.ensures.passes c.in-Some.first w.0 w.1 w.2 (full_on earlier c.args.self.now.state long _ ∙ sym c.if-is_log_full.ensures) (Start_receive c.args.txn) (inl refl)

pub start_any_take-requires-clause-may : goal.start_any_take-requires-clause-may
start_any_take-requires-clause-may g c = record { ready = c.in_ok-number.ensures.ready; log = sym c.if-is_log_full.ensures }

pub returns-in-Ok-clause-answered : goal.returns-in-Ok-clause-answered
returns-in-Ok-clause-answered g c h earlier long =
    let s = c.args.self.now.state in
    let b = (c.in-Ok.ensures.taken h.0).begun in
    let w = b.waits in
    take_done (on earlier s) c.args.txn c.in_ok-number.ensures.passes b.sender w.0 w.1 w.2 (full_on earlier s long 4 ∙ sym c.if-is_log_full.ensures)
    _ c.in_ok-number.number b.started.plan c.in_ok-number.ensures.ready b.started.planned.free (take_plan s b.sender c.in_ok-number.number b.started.plan w.0 b.started.planned) (ap (on earlier) b.started.state) (Start_receive c.args.txn) (inl refl)

pub returns-in-Ok-clause-sizes : goal.returns-in-Ok-clause-sizes
returns-in-Ok-clause-sizes g c = c.in-Ok.ensures.tried.devices.0.sizes

pub returns-in-Ok-clause-lists : goal.returns-in-Ok-clause-lists
returns-in-Ok-clause-lists g c honest =
    let b = (c.in-Ok.ensures.taken honest).begun in
    (b.sender, take_started c.args.self.now.state c.args.txn c.in_ok-number.number b.sender _ c.in_ok-number.ensures.ready b.waits b.started)

pub returns-in-Ok-clause-latched : goal.returns-in-Ok-clause-latched
returns-in-Ok-clause-latched g c honest earlier long k =
    let b = (c.in-Ok.ensures.taken honest).begun in
    any_unlatched (on earlier c.args.self.now.state) k c.args.txn b.sender b.waits b.free

pub returns-in-Err-clause-answered : goal.returns-in-Err-clause-answered
returns-in-Err-clause-answered g c h earlier long k =
    let s = on earlier c.args.self.now.state in
    let w : WaitsFor s c.args.txn c.in-Some.first = c.in-Some.ensures.waits in
    let p = c.in-Err.ensures.taken h.0 in
    let room = full_on earlier c.args.self.now.state long 4 ∙ sym c.if-is_log_full.ensures in
    refused_for s _ (Start_receive c.args.txn) (AreHeldUp c.args.self.now.state c.args.txn (λ _. ⊤)) refl c.in_ok-number.ensures.running (some s c.args.txn c.in_ok-number.ensures.passes c.in-Some.first w.0 w.1 w.2) (passes s c.args.txn c.in_ok-number.ensures.passes c.in-Some.first w.0 w.1 w.2 room) c.in-Err.refusal p.causes (p.sound (earlier, long, k))
    (ap (on earlier) (start_left g.P.PageDevice c.args.self.now _ c.in-Err.refusal c.in-Err.ensures.tried.devices c.in-Err.ensures.tried.left h.0))
    (take_memory s c.args.txn c.in_ok-number.ensures.passes c.in-Some.first w.0 w.1 w.2 room (Start_receive c.args.txn) (inl refl))
    (λ held. any_refused s c.args.txn c.in_ok-number.ensures.passes c.in-Some.first w.0 w.1 w.2 room (λ e. held e tt)) k

pub returns-in-Err-clause-latched : goal.returns-in-Err-clause-latched
returns-in-Err-clause-latched g c honest earlier long k =
    let s = on earlier c.args.self.now.state in
    let w : WaitsFor s c.args.txn c.in-Some.first = c.in-Some.ensures.waits in
    let p = c.in-Err.ensures.taken honest in
    latched_for (AreHeldUp c.args.self.now.state c.args.txn (λ _. ⊤)) (IsLatched s (Start_receive c.args.txn)) c.in-Err.refusal p.causes (λ held. any_latches s k c.args.txn c.in-Some.first w (λ e. held e tt))

pub returns-in-Ok-clause-begun : goal.returns-in-Ok-clause-begun
returns-in-Ok-clause-begun g c =
    let s = c.args.self.now.state in
    let b = c.in-Ok.ensures.tried.begun in
    (b.sender, (refl, take_tested c.args.self.now c.args.txn c.in_ok-number.ensures.passes (sym c.if-is_log_full.ensures), b.waits, begun_by s c.args.txn c.in_ok-number.number (Receiving b.sender) s.cells_in_use (Chain (Receive b.sender)) b.begun.plan _ c.in_ok-number.ensures.ready b.begun.asked b.begun.state))

pub returns-in_default-clause-none : goal.returns-in_default-clause-none
returns-in_default-clause-none g c = (
  refl,
  (
    (c.in_ok-number.number, c.in_ok-number.ensures.ready),
    left_none (NoneWaits c.args.self.now.state c.args.txn) c.first_waiting.result c.in_default.not-Some c.first_waiting.ensures.none,
    refl,
  ),
)

pub returns-in-Ok-clause-devices : goal.returns-in-Ok-clause-devices
returns-in-Ok-clause-devices g c = c.in-Ok.ensures.tried.devices

pub returns-in-Err-clause-refused : goal.returns-in-Err-clause-refused
returns-in-Err-clause-refused g c = tried_leaves g.P.PageDevice c.args.self.now c.start_any_take.new.self (Start_receive c.args.txn) refl (take_tested c.args.self.now c.args.txn c.in_ok-number.ensures.passes (sym c.if-is_log_full.ensures)) c.in-Err.refusal c.in-Err.ensures.tried.causes c.in-Err.ensures.tried.left

pub returns-in-Ok-clause-faults : goal.returns-in-Ok-clause-faults
returns-in-Ok-clause-faults g c = c.in-Ok.ensures.tried.counts

pub returns-in-Err-clause-faults : goal.returns-in-Err-clause-faults
returns-in-Err-clause-faults g c = c.in-Err.ensures.tried.counts

pub returns-in-Err-clause-sizes : goal.returns-in-Err-clause-sizes
returns-in-Err-clause-sizes g c = c.in-Err.ensures.tried.devices.0.sizes

pub returns-in-Err-clause-devices : goal.returns-in-Err-clause-devices
returns-in-Err-clause-devices g c = c.in-Err.ensures.tried.devices

pub returns-in_err-number-clause-refused : goal.returns-in_err-number-clause-refused
returns-in_err-number-clause-refused g c =
    let left = take_unready c.args.self.now c.args.txn _ c.in_err-number.ensures.refused in
    search (rules, left)

pub returns-then-is_log_full-clause-refused : goal.returns-then-is_log_full-clause-refused
returns-then-is_log_full-clause-refused g c = take_log_full c.args.self.now c.args.txn c.in_ok-number.ensures.passes (sym c.if-is_log_full.ensures)

pub returns-in-Ok-clause-frames : goal.returns-in-Ok-clause-frames
returns-in-Ok-clause-frames g c = c.in-Ok.ensures.frames

pub returns-in-Err-clause-frames : goal.returns-in-Err-clause-frames
returns-in-Err-clause-frames g c = full_more c.args.self.now _ _ (λ ws a honest. any_writes c.args.self.now.state ws c.args.txn c.in_ok-number.number (a honest)) c.in-Err.refusal c.in-Err.ensures.frames

pub returns-in_err-number-clause-frames : goal.returns-in_err-number-clause-frames
returns-in_err-number-clause-frames g c =
    let none = (λ (A B : Type 0). no_test_frames A B _ c.in_err-number.ensures.refused.plain) in
    search (rules, none)
