use Rattle.std.proofs.Common.{ap, Some, ◌≡◌, ◌∙◌}
use Rattle.rq_model.specs.Deeds.{deed_by, deed_level}
use Rattle.rq_model.proofs.Deeds.{told_by_its_level}
use Rattle.rq_txn.proofs.told.ToldDeed.bytes.Goals as goal

pub returns-clause-reads : goal.returns-clause-reads
returns-clause-reads c =
    let told : deed_by c.self.inside.level c.self.inside.bytes.items ≡ Some c.args.self.now = c.self.invariant.0.told.reads ∙ ap Some c.self.view_is in
    ap (deed_by (deed_level c.args.self.now)) c.deref.ensures.value
    ∙ ap (λ n. deed_by n c.self.inside.bytes.items) (told_by_its_level c.self.inside.level c.self.inside.bytes.items c.args.self.now told) ∙ told
