use Rattle.std.proofs.Common.{ℕ, List, rules}
use Rattle.std.specs.Result.{OnOk}
use Rattle.rq_disk.specs.Device.{FailureIsCounted}
use Rattle.rq_page.specs.Formatted.{IsFormatted}
use Rattle.rq_engine.proofs.migration.tell_sizes.Goals as goal

pub returns-clause-told : goal.returns-clause-told
returns-clause-told g c =
    let told : OnOk c.sync.result ((b : List ℕ) → g.P.PageDevice.may_be c.sync.new.self.device 0 b → IsFormatted c.args.grown.now 0 b) = search rules in
    told

pub returns-clause-cause : goal.returns-clause-cause
returns-clause-cause g c =
    let counted : FailureIsCounted (g.P.PageDevice.faults c.args.pages.now.device) (g.P.PageDevice.faults c.sync.new.self.device) c.sync.result = search rules in
    counted
