use Rattle.std.proofs.Common.{◌∙◌, ◌+◌, take, drop, arith, sym, subst, ℕ}
use Rattle.rq_disk.specs.Replay.{AllWrites, StartsFresh}
use Rattle.rq_disk.proofs.Replays.{fresh_step, writes_step, writes_none}
use Rattle.rq_disk.proofs.replay.calls_synced.Goals as goal
use Rattle.rq_disk.proofs.replay.calls_synced.Goals.{in-Sync, in_default}

pub loop-index-preserved : goal.loop-index-preserved
loop-index-preserved c =
    let l = c.loop-index in
    let calls = c.args.calls.now in
    let lt = c.loop-index-test.true in
    let item = c.index-calls-index in
    elim c.match-call.branch [
      | in-Sync w ↦ record {
        within = omega (arith, w.synced-is);
        fresh = subst (λ (n : ℕ). StartsFresh (take n calls)) (sym w.synced-is) (fresh_step calls l.index item.result lt (sym item.is ∙ w.in-Sync.is));
        writes = subst (λ (n : ℕ). AllWrites (drop n (take (l.index + 1) calls))) (sym w.synced-is) (writes_none calls l.index lt);
      }
      | in_default w ↦ record {
        within = omega (arith, w.synced-is, l.invariant.within);
        fresh = subst (λ (n : ℕ). StartsFresh (take n calls)) (sym w.synced-is) l.invariant.fresh;
        writes = subst (λ (n : ℕ). AllWrites (drop n (take (l.index + 1) calls))) (sym w.synced-is)
            (writes_step calls l.synced l.index item.result w.in_default.field-0 w.in_default.field-1 lt l.invariant.within (sym item.is ∙ w.in_default.is) l.invariant.writes);
      }
    ]
