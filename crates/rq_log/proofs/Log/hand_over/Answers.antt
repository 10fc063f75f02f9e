use Rattle.std.proofs.Common.{List, ℕ, ap, subst}
use Rattle.rq_model.specs.declared.record.Record.{Record}
use Rattle.rq_log.specs.Logged.{Logged, WasDurable}
use Rattle.rq_log.specs.Crash.{LeavesOnly}
use Rattle.rq_log.specs.Spelled.{AreSpelled, IsBeginning}
use Rattle.rq_log.proofs.Joining.{cut_then_added}
use Rattle.rq_log.proofs.Moments.{started, joined}
use Rattle.rq_log.proofs.Log.hand_over.Goals as goal

pub returns-then-self-clause-any_moment : goal.returns-then-self-clause-any_moment
returns-then-self-clause-any_moment g c =
    let d = c.self.inside.device in
    rw (← c.self.view_is) (λ h was. started g.L.LogDevice d _ (λ b left. c.self.invariant.is_log.leaves h was b (g.met.L.LogDevice.only_now d b left)))

pub returns-in-Ok-clause-left : goal.returns-in-Ok-clause-left
returns-in-Ok-clause-left g c h =
    let L = g.L.LogDevice in
    let old = c.args.self.now in
    let mid = c.cut_end.new.self in
    let same = c.cut_end.ensures.same in
    let honest = c.append_buffer.ensures.honest h in
    let are : AreSpelled old.records = rw (← c.self.view_is) c.self.invariant.is_log.spelled in
    cut_then_added L old mid c.append_buffer.new.self.device (g.met.L.LogDevice.counts_now mid.device (L.moment old.device)) (ap (λ (l : Logged g.row.L.Denot). l.records) same) (ap (λ (l : Logged g.row.L.Denot). l.forced) same) are
    (c.in-Ok.ensures.reads honest) (c.cut_end.ensures.left honest) (c.append_buffer.ensures.left h)

pub returns-in-Ok-clause-any_moment : goal.returns-in-Ok-clause-any_moment
returns-in-Ok-clause-any_moment g c h was =
    let L = g.L.LogDevice in
    let old = c.args.self.now in
    let mid = c.cut_end.new.self in
    let new = c.append_buffer.new.self.device in
    let same = c.cut_end.ensures.same in
    let durable : WasDurable L mid = rw same was in
    let second = c.append_buffer.ensures.any_moment h durable in
    joined L old.device mid.device new (IsBeginning old.records old.forced) (c.cut_end.ensures.any_moment (c.append_buffer.ensures.honest h) was)
    (subst (λ (n : ℕ). LeavesOnly L mid.device new (IsBeginning old.records n)) (ap (λ (l : Logged g.row.L.Denot). l.forced) same)
    (subst (λ (rs : List Record). LeavesOnly L mid.device new (IsBeginning rs mid.forced)) (ap (λ (l : Logged g.row.L.Denot). l.records) same) second))
