use Rattle.std.proofs.Common.{sym, subst}
use Rattle.std.specs.Prelude.{IfErr, IfOk}
use Rattle.rq_engine.specs.Answers.{AnswersLegally}
use Rattle.rqm.specs.Changing.{HasChanged, NotChanged, answered_by, call_made}
use Rattle.rqm.specs.declared.change.Change.{Change}
use Rattle.rqm.proofs.change.Change.make.Goals as goal

pub returns-in-Checkpoint-clause-answered : goal.returns-in-Checkpoint-clause-answered
returns-in-Checkpoint-clause-answered g c =
    subst (λ (x : Change). AnswersLegally g.P.PageDevice g.L.LogDevice c.args.engine.now (call_made x) (answered_by x) c.checkpoint.result c.checkpoint.new.self) (sym c.in-Checkpoint.is) c.checkpoint.ensures.answered

pub returns-in-Checkpoint-clause-made : goal.returns-in-Checkpoint-clause-made
returns-in-Checkpoint-clause-made g c =
    subst (λ (x : Change). IfOk c.checkpoint.result (HasChanged g.P.PageDevice g.L.LogDevice x c.args.engine.now c.checkpoint.new.self)) (sym c.in-Checkpoint.is) c.checkpoint.ensures.made

pub returns-in-Checkpoint-clause-refused : goal.returns-in-Checkpoint-clause-refused
returns-in-Checkpoint-clause-refused g c =
    subst (λ (x : Change). IfErr c.checkpoint.result (NotChanged g.P.PageDevice g.L.LogDevice x c.args.engine.now c.checkpoint.new.self)) (sym c.in-Checkpoint.is) c.checkpoint.ensures.refused

pub returns-in-Migrate-clause-answered : goal.returns-in-Migrate-clause-answered
returns-in-Migrate-clause-answered g c =
    subst (λ (x : Change). AnswersLegally g.P.PageDevice g.L.LogDevice c.args.engine.now (call_made x) (answered_by x) c.migrate.result c.migrate.new.self) (sym c.in-Migrate.is) c.migrate.ensures.answered

pub returns-in-Migrate-clause-made : goal.returns-in-Migrate-clause-made
returns-in-Migrate-clause-made g c =
    subst (λ (x : Change). IfOk c.migrate.result (HasChanged g.P.PageDevice g.L.LogDevice x c.args.engine.now c.migrate.new.self)) (sym c.in-Migrate.is) c.migrate.ensures.made

pub returns-in-Migrate-clause-refused : goal.returns-in-Migrate-clause-refused
returns-in-Migrate-clause-refused g c =
    subst (λ (x : Change). IfErr c.migrate.result (NotChanged g.P.PageDevice g.L.LogDevice x c.args.engine.now c.migrate.new.self)) (sym c.in-Migrate.is) c.migrate.ensures.refused
