use Rattle.std.proofs.Common.{subst, List}
use Rattle.rq_disk.specs.FileCalls.{FileCall}
use Rattle.rq_disk.specs.LogFile.{log_may_leave}
use Rattle.rq_disk.proofs.file_log.FileLog.new.Goals as goal

pub returns-clause-durable : goal.returns-clause-durable
returns-clause-durable g c left may = subst (λ (calls : List FileCall). log_may_leave g.S.FileContents.bytes calls left) c.requires.unasked may
