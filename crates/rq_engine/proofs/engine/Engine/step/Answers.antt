use Rattle.std.proofs.Common.{◌≡◌, List, false, subst, sym, Result, Ok, Err, IfOk, IfErr, OnOk, OnErr}
use Rattle.rq_disk.specs.declared.device.LogDevice as log_device
use Rattle.rq_disk.specs.declared.device.PageDevice as page_device
use Rattle.rq_model.specs.declared.record.Record.{Record}
use Rattle.rq_model.specs.declared.refusal.Refusal.{Refusal}
use Rattle.rq_model.specs.declared.txn.Sub.{Sub}
use Rattle.rq_model.specs.History.Call.{Step}
use Rattle.rq_store.specs.State.{State}
use Rattle.rq_sound.specs.ModelSteps.{IsModelStep}
use Rattle.rq_sound.specs.Sound.{IsSound}
use Rattle.rq_engine.specs.Answers.{AnswersLegally, Idle}
use Rattle.rq_engine.specs.Lists.{StepSays}
use Rattle.rq_engine.specs.Opened.{OpenStore}
use Rattle.rq_engine.specs.Says.{progress_of}
use Rattle.rq_engine.specs.declared.event.Progress.{Progress}
use Rattle.rq_engine.specs.declared.event.Progress.TheVariants.{Done, Ready}
use Rattle.rq_engine.proofs.Calls.{step_done, step_ready, step_idle}
use Rattle.rq_engine.specs.Earlier.{on, IsEarlier}
use Rattle.rq_engine.proofs.Earlier.{lsn_on, made_on}
use Rattle.rq_engine.proofs.engine.Engine.step.Goals as goal

stepped : (e : List Record) (old new : State) (sub : Sub) (p : Progress) → old.failed ≡ false → StepSays old sub p new → IsEarlier e old → IsSound (on e old) → IsModelStep (on e old) (Step sub.txn sub.number) (progress_of p) (on e new)
stepped e old new sub (Done lsn) running (at, w, next, made) long k = step_done (on e old) (on e new) sub w lsn running next (made_on e old new sub w long made) (lsn_on e old long lsn at) k
stepped e old new sub Ready running (next, same) long k = subst (λ (s : State). IsModelStep (on e old) (Step sub.txn sub.number) (progress_of Ready) (on e s)) (sym same) (step_ready (on e old) sub running next k)

legally : {P L : Type 0} (p : page_device.Ghosts P) (l : log_device.Ghosts L) (old new : OpenStore P L) (sub : Sub) (answer : Result Progress Refusal) → OnOk answer (old.state.failed ≡ false) → IfOk answer (λ q. StepSays old.state sub q new.state)
    → IfErr answer (λ r. Idle old.state sub r) → OnErr answer (new ≡ old) → AnswersLegally p l old (Step sub.txn sub.number) progress_of answer new
legally p l old new sub (Ok q) running made idle same = λ h e long k. stepped e old.state new.state sub q running made long k
legally {P} {L} p l old new sub (Err r) running made idle same =
    subst (λ (x : OpenStore P L). AnswersLegally p l old (Step sub.txn sub.number) progress_of (Err r) x) (sym same) (λ h e long. step_idle (on e old.state) sub r idle)

pub returns-clause-answered : goal.returns-clause-answered
returns-clause-answered g c =
    legally g.P.PageDevice g.L.LogDevice c.args.self.now c.make_next.new.self c.args.sub c.make_next.result c.make_next.ensures.running c.make_next.ensures.made c.make_next.ensures.idle c.make_next.ensures.refused
