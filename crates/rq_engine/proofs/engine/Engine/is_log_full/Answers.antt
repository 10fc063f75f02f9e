use Rattle.std.proofs.Common.{◌+◌, ◌^◌, ap, ◌∙◌, length, nat_lt}
use Rattle.rq_store.specs.State.{State, owed_by}
use Rattle.rq_engine.proofs.Refusals.{full_is}
use Rattle.rq_engine.proofs.Opened.{state_is}
use Rattle.rq_engine.proofs.engine.Engine.is_log_full.Goals as goal

pub returns : goal.returns
returns g c =
    ap (λ n. nat_lt (2 ^ 50) (n + c.self.inside.owed + c.args.more)) (c.last.ensures ∙ ap (λ (s : State). length s.records) (state_is c.self.view_is))
    ∙ full_is c.args.self.now.state c.self.inside.owed c.args.more (c.self.invariant.kept.owes ∙ ap (λ (s : State). owed_by s.rows) (state_is c.self.view_is))
