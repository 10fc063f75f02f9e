use Rattle.std.proofs.Common.{◌∙◌, sym, ap}
use Rattle.std.specs.Prelude.{slice_set}
use Rattle.rq_disk.proofs.Replays.{replayed_step, replayed_sync}
use Rattle.rq_disk.proofs.replay.replay.Goals as goal
use Rattle.rq_disk.proofs.replay.replay.Goals.{in-Write, in_default}

pub loop-call-preserved : goal.loop-call-preserved
loop-call-preserved c =
    let l = c.loop-call in
    let calls = c.args.calls.now in
    let lt = c.loop-call-test.true in
    let item = c.call-item in
    elim c.match-call.branch [
      | in-Write w ↦
          replayed_step l.pages c.match-call.pages calls l.call-index item.result w.in-Write.page w.in-Write.image lt (sym item.is ∙ w.in-Write.is) (w.pages-is ∙ w.put.ensures ∙ ap (slice_set l.pages w.in-Write.page) w.deref.ensures) ∙ l.invariant
      | in_default w ↦
          replayed_sync l.pages c.match-call.pages calls l.call-index item.result lt (sym item.is ∙ w.in_default.is) w.pages-is ∙ l.invariant
    ]
