use Rattle.std.proofs.Common.{◌≡◌, Err, List, length, refl, sym, ◌∙◌, ap, subst, arith}
use Rattle.rq_model.specs.Deeds.{deed_by, spelled_deed, TellsItself}
use Rattle.rq_views.specs.InStore.{IsDeedOf}
use Rattle.rq_views.specs.Items.{told_deed}
use Rattle.rq_level.specs.Writes.{AreSlotWrites}
use Rattle.rq_txn.specs.declared.Aim.TheVariants.{Doing}
use Rattle.rq_store.specs.State.{State}
use Rattle.rq_level.specs.declared.writes.SlotWrite.{SlotWrite}
use Rattle.rq_engine.specs.Invariant.{EndFits}
use Rattle.rq_engine.proofs.Leveled.{some_told, tells_itself}
use Rattle.rq_engine.proofs.Opened.{state_is}
use Rattle.rq_engine.specs.Frames.{IsForFrames, pages_of}
use Rattle.rq_engine.specs.KeptUp.{IsLeftBy, KeepsDevices, RefusalCounts}
use Rattle.rq_engine.specs.Opened.{OpenStore, pooled}
use Rattle.rq_engine.proofs.Locking.{counts_but_ends, given_back, left_but_ends, with_ends}
use Rattle.rq_engine.proofs.engine.Engine.start.Goals as goal

pub launch-requires-clause-fits : goal.launch-requires-clause-fits
launch-requires-clause-fits g c =
    let s = c.args.self.now.state in
    let level = c.args.level in
    let bytes = c.args.plan.now.deed in
    let told = c.requires.lawful.told in
    let d : told_deed (deed_by level bytes) ≡ c.in_ok-deed.deed = ap told_deed (ap (deed_by level) (sym c.as_slice.ensures.bytes) ∙ c.in_ok-deed.ensures) in
    let spelled : spelled_deed c.in_ok-deed.deed ≡ bytes = ap spelled_deed (sym d) ∙ told.spelled in
    let within = c.as_slice.ensures.within in
    let size : length (spelled_deed c.in_ok-deed.deed) ≡ length bytes = ap length spelled in
    let some = some_told level bytes (told_deed (deed_by level bytes)) told.reads in
    let sender : IsDeedOf s.sizes c.in_ok-deed.deed = subst (IsDeedOf s.sizes) d c.requires.inside in
    let fits : EndFits (Doing c.in_ok-deed.deed) = (omega (arith, size, some), omega (arith, size, within), subst TellsItself d (tells_itself level bytes told)) in
    record {
      made = refl;
      few = rw c.replace.ensures.value c.requires.lawful.count;
      slots = rw c.replace.ensures.value (subst (λ (x : State). AreSlotWrites x.sizes c.args.plan.now.writes.items) (sym (state_is c.self.view_is)) c.requires.lawful.slots);
      sender = subst (λ (x : State). IsDeedOf x.sizes c.in_ok-deed.deed) (sym (state_is c.self.view_is)) sender;
      fits = fits;
    }

-- a lock was taken, and is given back
pub returns-in-Err-clause-counts : goal.returns-in-Err-clause-counts
returns-in-Err-clause-counts g c =
    let r = c.in-Err.refusal in
    let new = c.launch.new.self in
    let tried = subst (λ (o : OpenStore _ _). RefusalCounts g.P.PageDevice r (with_ends c.take.new.self o) new) c.self.view_is c.in-Err.ensures.counts in
    subst (λ (o : OpenStore _ _). RefusalCounts g.P.PageDevice r c.args.self.now (with_ends c.undo_take.new.self o)) (sym c.self-2.view_is) (counts_but_ends g.P.PageDevice r c.args.self.now new c.take.new.self c.undo_take.new.self tried)

pub returns-in-Err-clause-left : goal.returns-in-Err-clause-left
returns-in-Err-clause-left g c =
    let r = c.in-Err.refusal in
    let old = c.args.self.now.state in
    let new = c.launch.new.self.state in
    let ends : c.self-2.inside.ends ≡ c.take.new.self = ap (λ (s : State). s.ends) (state_is c.self-2.view_is ∙ c.in-Err.ensures.left) in
    let back : c.undo_take.new.self ≡ old.ends =
    given_back c.args.txn c.args.end c.in-Ok.newly c.self.inside.ends c.self-2.inside.ends c.undo_take.new.self (ends ∙ c.in-Ok.ensures.taken) c.in-Ok.ensures.newly c.undo_take.ensures ∙ ap (λ (s : State). s.ends) (state_is c.self.view_is) in
    let tried = subst (λ (s : State). IsLeftBy (record s { ends = c.take.new.self }) r new) (state_is c.self.view_is) c.in-Err.ensures.left in
    subst (λ (s : State). IsLeftBy old r (record s { ends = c.undo_take.new.self })) (sym (state_is c.self-2.view_is)) (left_but_ends old new r c.take.new.self c.undo_take.new.self tried back)

pub returns-in-Ok-launch-clause-devices : goal.returns-in-Ok-launch-clause-devices
returns-in-Ok-launch-clause-devices g c = subst (λ (o : OpenStore _ _). KeepsDevices g.P.PageDevice o c.launch.new.self) c.self.view_is c.launch.ensures.devices

pub returns-in-Err-clause-devices : goal.returns-in-Err-clause-devices
returns-in-Err-clause-devices g c =
    let tried = subst (λ (o : OpenStore _ _). KeepsDevices g.P.PageDevice o c.launch.new.self) c.self.view_is c.launch.ensures.devices in
    subst (λ (o : OpenStore _ _). KeepsDevices g.P.PageDevice c.args.self.now (with_ends c.undo_take.new.self o)) (sym c.self-2.view_is) tried

pub returns-in-Err-clause-frames : goal.returns-in-Err-clause-frames
returns-in-Err-clause-frames g c =
    let same : c.replace.result.items ≡ c.args.plan.now.writes.items = ap (λ w. w.items) c.replace.ensures.value in
    subst (λ (ws : List SlotWrite). IsForFrames {X = Unit {0}} (pooled c.args.self.now) c.args.self.now.state.forced (pages_of ws) (Err c.in-Err.refusal)) same
    (subst (λ (o : OpenStore _ _). IsForFrames {X = Unit {0}} (pooled o) o.state.forced (pages_of c.replace.result.items) (Err c.in-Err.refusal)) c.self.view_is c.in-Err.ensures.frames)
