use Rattle.std.proofs.Common.{sym, ap, Some, ◌≡◌, ◌∙◌}
use Rattle.rq_model.specs.Deeds.{deed_by}
use Rattle.rq_model.proofs.Deeds.{told_by_its_level}
use Rattle.rq_txn.proofs.told.ToldDeed.level.Goals as goal

pub returns : goal.returns
returns c =
    let told : deed_by c.self.inside.level c.self.inside.bytes.items ≡ Some c.args.self.now = c.self.invariant.0.told.reads ∙ ap Some c.self.view_is in
    sym (told_by_its_level c.self.inside.level c.self.inside.bytes.items c.args.self.now told)
