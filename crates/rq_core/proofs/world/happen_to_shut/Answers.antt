use Rattle.std.proofs.Common.{inl, inr, option_map, refl, ap, ◌∙◌, subst, sym}
use Rattle.rq_model.specs.History.Call.{Acknowledge}
use Rattle.rq_engine.specs.Says.{call_of}
use Rattle.rq_core.specs.Happenings.{acknowledging, nth}
use Rattle.rq_core.specs.Happenings.Happening.{Acknowledges, Asks, Stops_in}
use Rattle.rq_core.specs.Runs.{Happened}
use Rattle.rq_core.specs.World.World.{Is_shut}
use Rattle.rq_core.specs.Views.{answer_in, happens, world_of}
use Rattle.rq_core.proofs.world.happen_to_shut.Goals as goal

pub returns-in-Some-clause-happened : goal.returns-in-Some-clause-happened
returns-in-Some-clause-happened g c = λ course same.
    let n = c.in-Ack.n in
    let number = c.in-Some.field-0 in
    let told = ap (λ l. acknowledging (nth n l)) same ∙ c.committed.ensures ∙ ap (option_map (λ k. Acknowledge k.txn k.lsn)) c.in-Some.is in
    subst (λ h. Happened course (happens h) (Is_shut c.args.pages c.args.log) (answer_in c.not_open.result.1) (world_of c.not_open.result.0)) (sym c.in-Ack.is)
    (c.not_open.ensures (Acknowledge number.txn number.lsn) course (Acknowledges n) told)

pub returns-in-Call-clause-happened : goal.returns-in-Call-clause-happened
returns-in-Call-clause-happened g c = λ course same. elim c.in-Call.is [
  | inl is ↦ subst (λ h. Happened course (happens h) (Is_shut c.args.pages c.args.log) (answer_in c.not_open-in-Call.result.1) (world_of c.not_open-in-Call.result.0)) (sym is.1) (c.not_open-in-Call.ensures (call_of is.0) course (Asks (call_of is.0)) refl)
  | inr is ↦ subst (λ h. Happened course (happens h) (Is_shut c.args.pages c.args.log) (answer_in c.not_open-in-Call.result.1) (world_of c.not_open-in-Call.result.0)) (sym is.3) (c.not_open-in-Call.ensures (call_of is.0) course (Stops_in (call_of is.0)) refl)
]
