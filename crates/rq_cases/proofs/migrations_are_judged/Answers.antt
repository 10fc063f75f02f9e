use Rattle.rq_cases.proofs.Migrations.{worked_migrations}
use Rattle.rq_cases.proofs.migrations_are_judged.Goals as goal

pub returns : goal.returns
returns c = worked_migrations
