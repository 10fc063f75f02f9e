use Rattle.rq_shared.specs.Entries.{entries}
use Rattle.rq_shared.proofs.Replaying.{only_read}
use Rattle.rq_shared.proofs.kept.Kept.record_at.Goals as goal

pub invariant_of-self : goal.invariant_of-self
invariant_of-self g c =
    only_read g.P.PageDevice g.L.LogDevice c.self.inside.base.value c.self.inside.engine c.record_at.new.self (entries c.self.inside.audit.items) c.self.invariant
    c.record_at.ensures.same c.record_at.ensures.read.honest
